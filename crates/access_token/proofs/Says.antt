-- A payload's text says its facts, and no other text says them.
use Rattle.std.proofs.Common.{◌≡◌, ℕ, true, List, refl, sym, ◌∙◌, ap, Option, Some, option_and_then}
use Rattle.std.specs.Str.{bytes_eq}
use Rattle.std.proofs.lemmas.Slice.Eq.{bytes_eq-Decides}
use Rattle.std.proofs.lemmas.Option.{option_and_then_some}
use Rattle.serde_json.specs.Data.{Data}
use Rattle.json_text.specs.Document.{document}
use Rattle.access_token.specs.declared.facts.Facts.{Facts}
use Rattle.access_token.specs.Exact.{IsExact}
use Rattle.access_token.specs.Forms.{is_facts}
use Rattle.access_token.specs.Parts.{formed, facts_in}
use Rattle.access_token.specs.Payload.{payload_text}
use Rattle.access_token.specs.Reading.{payload_facts}
use Rattle.access_token.proofs.Back.{facts_back}
use Rattle.access_token.proofs.ExactTexts.{document-payload_text}
use Rattle.access_token.proofs.Formed.{AreFormed, facts_in-is}
use Rattle.access_token.proofs.Options.{both, formed-is}

apart : (facts : Facts) → is_facts facts ≡ true → AreFormed facts
unfolding is_facts
apart facts h =
    let number = both _ _ h in
    let sub = both _ _ number.1 in
    let iat = both _ _ sub.1 in
    let exp = both _ _ iat.1 in
    let who = both _ _ exp.1 in
    let act = both _ _ who.1 in
    let may_act = both _ _ act.1 in
    let pools = both _ _ may_act.1 in
    let accounts = both _ _ pools.1 in
    let limits = both _ _ accounts.1 in
    let scopes = both _ _ limits.0 in
    record {
      number = number.0;
      sub = sub.0;
      iat = iat.0;
      exp = exp.0;
      who = who.0;
      act_few = (both _ _ act.0).0;
      act = (both _ _ act.0).1;
      may_act_few = (both _ _ may_act.0).0;
      may_act = (both _ _ may_act.0).1;
      pools = pools.0;
      accounts = accounts.0;
      scopes_some = scopes.0;
      scopes = scopes.1;
      bounds = limits.1;
    }

pub text_back : (issuer : List ℕ) (facts : Facts) → IsExact issuer facts → is_facts facts ≡ true → payload_facts issuer (payload_text issuer facts) ≡ Some facts
unfolding payload_facts
text_back issuer facts is form =
    let text = payload_text issuer facts in
    let same : bytes_eq text text ≡ true = (bytes_eq-Decides text text).1 refl in
    let test = λ (g : Facts). bytes_eq (payload_text issuer g) text in
    ap (λ (o : Option Data). formed test (option_and_then facts_in o)) (document-payload_text issuer facts is)
    ∙ ap (λ (o : Option Facts). formed test o) (facts_back issuer facts (apart facts form) is.bounds)
    ∙ rw same refl

-- and a text that says facts is their text
pub text_only : (issuer text : List ℕ) (facts : Facts) → payload_facts issuer text ≡ Some facts → (text ≡ payload_text issuer facts) × (is_facts facts ≡ true)
unfolding payload_facts
text_only issuer text facts is =
    let told = formed-is (λ (g : Facts). bytes_eq (payload_text issuer g) text) (option_and_then facts_in (document text)) facts is in (
      sym ((bytes_eq-Decides (payload_text issuer facts) text).0 told.1),
      option_and_then_some facts_in (document text) facts told.0 (λ d there h. facts_in-is d facts h),
    )
