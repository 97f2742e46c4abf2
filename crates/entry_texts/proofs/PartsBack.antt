-- The parts of an entry, written, read back.
use Rattle.std.proofs.Common.{◌≡◌, ◌≤◌, ℕ, ◌==◌, true, false, not, ◌&&◌, eqb, List, [], ◌∷◌, ◌++◌, length, refl, ◌∙◌, ap, arith, Some, nat_le}
use Rattle.std.specs.List.{All, list_all, slice_split}
use Rattle.std.proofs.lemmas.Bool.{and_parts, leb-true}
use Rattle.std.proofs.lemmas.Bool.Decides.{nat_tests}
use Rattle.std.proofs.lemmas.List.Sums.{AllPass-from_list_all}
use Rattle.std.proofs.lemmas.List.Splits.{slice_split_none, slice_split_at}
use Rattle.serde_json.specs.Data.{string}
use Rattle.base_types.specs.Forms.{has_size}
use Rattle.iam_names.specs.Forms.{is_account, is_digit, is_id, is_id_byte, is_plain_byte, is_project, is_scope_word, begins_with}
use Rattle.iam_names.specs.Audience.{is_audience}
use Rattle.iam_names.specs.PoolName.{is_pool_name}
use Rattle.iam_names.specs.declared.audience.Audience.{Audience}
use Rattle.iam_names.proofs.CutLemmas.{lacks, cut_at-append}
use Rattle.iam_names.proofs.ReadBackLemmas.{implied}
use Rattle.access_token.specs.Forms.{are_words}
use Rattle.access_token.specs.Parts.{account_in, scope_in}
use Rattle.access_token.specs.Payload.{words_text}
use Rattle.entry_texts.specs.Parts.{provider_of_text}
use Rattle.entry_texts.specs.Written.{provider_text}

-- ---- scope words

plain_free : (byte : ℕ) → is_plain_byte byte ≡ true → (byte == 32) ≡ false
plain_free byte h = grind (arith, nat_tests)

word_free : (word : List ℕ) → is_scope_word word ≡ true → All (λ byte. (byte == 32) ≡ false) word
word_free word h =
    let plain : list_all is_plain_byte word ≡ true = (and_parts (has_size 1 128 word) (list_all is_plain_byte word) h).1 in
    λ k d within. plain_free _ (AllPass-from_list_all is_plain_byte word plain k d within)

split_back : (words : List (List ℕ)) → list_all is_scope_word words ≡ true → 1 ≤ length words → slice_split (λ byte. byte == 32) (words_text words) ≡ words
split_back [] all some = absurd (omega arith)
split_back (word ∷ []) all some = slice_split_none (λ byte. byte == 32) word (word_free word (and_parts (is_scope_word word) true all).0)
split_back (word ∷ next ∷ words) all some =
    let parts = and_parts (is_scope_word word) (list_all is_scope_word (next ∷ words)) all in
    slice_split_at (λ byte. byte == 32) word 32 (words_text (next ∷ words)) (word_free word parts.0) refl
    ∙ ap (λ (l : List (List ℕ)). word ∷ l) (split_back (next ∷ words) parts.1 (omega arith))

-- each of the words has its form
pub words_all : (words : List (List ℕ)) → are_words words ≡ true → list_all is_scope_word words ≡ true
words_all words h =
    let some = and_parts (nat_le 1 (length words)) (nat_le (length words) 16 && list_all is_scope_word words) h in
    (and_parts (nat_le (length words) 16) (list_all is_scope_word words) some.1).1

pub words_back : (words : List (List ℕ)) → are_words words ≡ true → scope_in (string (words_text words)) ≡ Some words
words_back words h =
    let some = (and_parts (nat_le 1 (length words)) (nat_le (length words) 16 && list_all is_scope_word words) h).0 in
    rw (split_back words (words_all words h) (leb-true 1 (length words) some), h) refl

-- ---- names

pub account_back : (account : List ℕ) → is_account account ≡ true → account_in (string account) ≡ Some account
account_back account form = rw form refl

digit_no_slash : (x : ℕ) → is_digit x ≡ true → not (eqb x 47) ≡ true
digit_no_slash x h = grind (arith, nat_tests)

id_no_slash : (x : ℕ) → is_id_byte x ≡ true → not (eqb x 47) ≡ true
id_no_slash x h = grind (arith, nat_tests)

project_lacks : (text : List ℕ) → is_project text ≡ true → lacks 47 text ≡ true
project_lacks text h =
    let rest = and_parts (has_size 1 19 text) (list_all is_digit text && not (begins_with 48 text)) h in
    implied is_digit (λ x. not (eqb x 47)) digit_no_slash text (and_parts (list_all is_digit text) (not (begins_with 48 text)) rest.1).0

id_lacks : (text : List ℕ) → is_id text ≡ true → lacks 47 text ≡ true
id_lacks text h = implied is_id_byte (λ x. not (eqb x 47)) id_no_slash text (and_parts (has_size 4 32 text) (list_all is_id_byte text) h).1

pub provider_back : (name : Audience) → is_audience name ≡ true → provider_of_text (provider_text name) ≡ Some name
unfolding provider_of_text
provider_back name h =
    let parts = and_parts (is_pool_name name.pool) (is_id name.provider) h in
    let pool = and_parts (is_project name.pool.project) (is_id name.pool.pool) parts.0 in
    rw (
      cut_at-append 47 name.pool.project (name.pool.pool ++ 47 ∷ name.provider) (project_lacks name.pool.project pool.0),
      cut_at-append 47 name.pool.pool name.provider (id_lacks name.pool.pool pool.1),
      pool.0,
      pool.1,
      parts.1,
    ) refl
