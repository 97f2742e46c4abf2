-- An exact entry's text says it, and no other text does.
use Rattle.std.proofs.Common.{◌≡◌, ℕ, List, refl, sym, ◌∙◌, ap, true, Option, Some, option_and_then}
use Rattle.std.specs.Str.{IsUtf8, bytes_eq}
use Rattle.std.proofs.lemmas.Slice.Eq.{bytes_eq-Decides}
use Rattle.std.proofs.lemmas.Option.{option_and_then_some}
use Rattle.serde_json.specs.Data.{Data}
use Rattle.serde_json.specs.Written.{compact_text}
use Rattle.json_text.specs.Document.{document}
use Rattle.json_text.proofs.CleanTexts.{read-compact_text}
use Rattle.json_text.proofs.Documents.{document-some}
use Rattle.json_text.proofs.Utf8Texts.{IsUtf8-compact_text}
use Rattle.json_text.proofs.ValueTexts.{document_utf8}
use Rattle.access_token.specs.Parts.{formed}
use Rattle.access_token.proofs.Options.{formed-is}
use Rattle.links.specs.Entries.{IsEntry}
use Rattle.links.specs.declared.entry.Entry.{Entry}
use Rattle.links.specs.declared.entry.Entry.TheVariants.{Put, Federated, Narrow, Impersonate, Delegate}
use Rattle.command_texts.specs.Written.{command_data}
use Rattle.command_texts.proofs.BackCommands.{command_back}
use Rattle.entry_texts.specs.Exact.{IsExactEntry}
use Rattle.entry_texts.specs.Parts.{entry_in}
use Rattle.entry_texts.specs.Reading.{entry_of}
use Rattle.entry_texts.specs.Written.{entry_data, entry_text}
use Rattle.entry_texts.proofs.Back.{put_back, federated_back, narrow_back, impersonate_back, delegate_back}
use Rattle.entry_texts.proofs.Commands.{command_formed}
use Rattle.entry_texts.proofs.Clean.{entry_clean, entry_deep}
use Rattle.entry_texts.proofs.EntriesExact.{entry_exact}
use Rattle.entry_texts.proofs.Utf8.{entry_utf8}

entry_back : (e : Entry) → IsExactEntry e → entry_in (entry_data e) ≡ Some e
entry_back (Put command) is = put_back (command_data command) command (command_back command is)
entry_back (Federated x) is = federated_back x is
entry_back (Narrow x) is = narrow_back x is
entry_back (Impersonate x) is = impersonate_back x is
entry_back (Delegate x) is = delegate_back x is

pub text_utf8 : (e : Entry) → IsExactEntry e → IsUtf8 (entry_text e)
unfolding entry_text
text_utf8 e is = IsUtf8-compact_text (entry_data e) (entry_clean e is) (entry_utf8 e is)

text_document : (e : Entry) → IsExactEntry e → document (entry_text e) ≡ Some (entry_data e)
unfolding entry_text
text_document e is =
    let d = entry_data e in
    document-some (compact_text d) d (text_utf8 e is) (read-compact_text d (entry_clean e is) (entry_deep e))

pub text_back : (e : Entry) → IsExactEntry e → entry_of (entry_text e) ≡ Some e
unfolding entry_of
text_back e is =
    let text = entry_text e in
    let same : bytes_eq text text ≡ true = (bytes_eq-Decides text text).1 refl in
    let test = λ (g : Entry). bytes_eq (entry_text g) text in
    ap (λ (o : Option Data). formed test (option_and_then entry_in o)) (text_document e is)
    ∙ ap (λ (o : Option Entry). formed test o) (entry_back e is)
    ∙ rw same refl

pub text_only : (text : List ℕ) (e : Entry) → entry_of text ≡ Some e → text ≡ entry_text e
unfolding entry_of
text_only text e is =
    let told = formed-is (λ (g : Entry). bytes_eq (entry_text g) text) (option_and_then entry_in (document text)) e is in
    sym ((bytes_eq-Decides (entry_text e) text).0 told.1)

pub text_exact : (text : List ℕ) (e : Entry) → entry_of text ≡ Some e → IsExactEntry e
unfolding entry_of
text_exact text e is =
    let told = formed-is (λ (g : Entry). bytes_eq (entry_text g) text) (option_and_then entry_in (document text)) e is in
    option_and_then_some entry_in (document text) e told.0 (λ d there k. entry_exact d e (document_utf8 text d there) k)

-- ---- forms

pub entry_formed : (e : Entry) → IsExactEntry e → IsEntry e
entry_formed (Put command) is = command_formed command is
entry_formed (Federated x) is = is.form
entry_formed (Narrow x) is = is.form
entry_formed (Impersonate x) is = is.form
entry_formed (Delegate x) is = is.form
