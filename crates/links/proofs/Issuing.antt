-- Where the link of a token is found.
use Rattle.std.proofs.Common.{◌≡◌, ◌<◌, ◌≤◌, ◌^◌, ℕ, zero, suc, List, [], ◌∷◌, length, ◌⊎◌, inl, inr, true, false, refl, sym, ◌∙◌, ap, subst, arith}
use Rattle.std.specs.Prelude.{Option, None, Some, option_and_then, slice_get, codes}
use Rattle.std.specs.Fmt.{decimal}
use Rattle.std.proofs.lemmas.Slice.Eq.{bytes_eq-Decides}
use Rattle.base64.specs.GeneralPurpose.{IsBytes}
use Rattle.json_text.specs.Document.{document, text_at}
use Rattle.hmac_jws.specs.Compact.{compact}
use Rattle.links.specs.Chain.{Chain, chains_of, joined}
use Rattle.links.specs.Facts.{facts_of}
use Rattle.links.specs.Issued.{is_text_of, issued_link}
use Rattle.links.specs.Places.{place_of}
use Rattle.access_token.specs.Payload.{payload_text}
use Rattle.links.specs.State.{Content, chain, token_text}
use Rattle.access_token.proofs.ExactTexts.{IsBytes-payload_text, jti-payload_text}
use Rattle.links.proofs.Good.{IsGood}
use Rattle.links.proofs.GoodLinks.{exact-good}
use Rattle.links.proofs.Journals.{IsKept, good_of_chain, within_of_chain}
use Rattle.links.proofs.Places.{FoundAt, cases}

-- what a text under this key tells of a link's number
abbrev pub Tells : List ℕ → List ℕ → Option ℕ → Type 0
Tells key text told = (payload : List ℕ) (n : ℕ) → IsBytes payload → n < 2 ^ 32 → text ≡ compact key payload
    → option_and_then (text_at (codes "jti")) (document payload) ≡ Some (decimal n) → told ≡ Some n

there : {A : Type 0} (xs : List A) (n : ℕ) → n < length xs → (x : A) × (slice_get xs n ≡ Some x)
there [] n within = absurd (omega arith)
there (x ∷ xs) zero within = (x, refl)
there (x ∷ xs) (suc n) within = there xs n (omega arith)

missing_by : (c : Content) (n : ℕ) (found : Option Chain) → slice_get c.links n ≡ None → chain c n ≡ found → chain c n ≡ None
missing_by c n None missing is = is
missing_by c n (Some found) missing is =
    let at = there c.links n (within_of_chain c n found is) in
    absurd (cc (missing, at.1))

pub chain-missing : (c : Content) (n : ℕ) → slice_get c.links n ≡ None → chain c n ≡ None
chain-missing c n missing = missing_by c n (chain c n) missing refl

pub number_is : (n : ℕ) (found : Chain) → IsGood n found → (facts_of found).number ≡ n
unfolding facts_of
number_is n found good = good.number

-- the token of a link tells its number
told_of_chain : (c : Content) (text : List ℕ) (told : Option ℕ) (n : ℕ) (found : Chain) → IsKept c → length c.links ≤ 2 ^ 32 → Tells c.key text told
    → chain c n ≡ Some found → token_text c found ≡ text → told ≡ Some n
unfolding token_text
told_of_chain c text told n found kept few tells is equal =
    let low : n < 2 ^ 32 = omega (arith, within_of_chain c n found is, few) in
    let good = good_of_chain c n found kept is in
    let exact = exact-good c.issuer n found low kept.issuer good in
    let facts = facts_of found in
    tells (payload_text c.issuer facts) n (IsBytes-payload_text c.issuer facts exact) low (sym equal)
    (jti-payload_text c.issuer facts exact ∙ ap (λ (k : ℕ). Some (decimal k)) (number_is n found good))

-- the chain whose token the text is
record IsTextOf (c : Content) (text : List ℕ) (x : Option Chain) : Type 0 where
  found : Chain
  is : x ≡ Some found
  same : token_text c found ≡ text

text_of : (c : Content) (text : List ℕ) (x : Option Chain) → is_text_of c text x ≡ true → IsTextOf c text x
text_of c text None is = absurd (cc is)
text_of c text (Some found) is = record { found = found; is = refl; same = (bytes_eq-Decides (token_text c found) text).0 is }

told_found : (c : Content) (text : List ℕ) (told : Option ℕ) → IsKept c → length c.links ≤ 2 ^ 32 → Tells c.key text told
    → (found : FoundAt (is_text_of c text) (chains_of c.links) (place_of (is_text_of c text) (chains_of c.links))) → told ≡ Some found.number
told_found c text told kept few tells found =
    let of = text_of c text found.element found.passes in
    told_of_chain c text told found.number of.found kept few tells (ap joined found.there ∙ of.is) of.same

found_passes : (c : Content) (text : List ℕ) → (found : FoundAt (is_text_of c text) (chains_of c.links) (place_of (is_text_of c text) (chains_of c.links)))
    → is_text_of c text (chain c found.number) ≡ true
found_passes c text found = ap (λ (o : Option (Option Chain)). is_text_of c text (joined o)) found.there ∙ found.passes

there_if_text : (c : Content) (text : List ℕ) (o : Option (Option Chain)) → is_text_of c text (joined o) ≡ true
    → (e : Option Chain) × (o ≡ Some e) × (is_text_of c text e ≡ true)
there_if_text c text None is = absurd (cc is)
there_if_text c text (Some e) is = (e, refl, is)

-- either no link's token is the text, or the first one stands at its number
abbrev Cases : Content → List ℕ → Type 0
Cases c text =
    (((n : ℕ) (x : Option Chain) → slice_get (chains_of c.links) n ≡ Some x → is_text_of c text x ≡ false)
    × (place_of (is_text_of c text) (chains_of c.links) ≡ None))
    ⊎ FoundAt (is_text_of c text) (chains_of c.links) (place_of (is_text_of c text) (chains_of c.links))

none_by : (c : Content) (text : List ℕ) (told : Option ℕ) → IsKept c → length c.links ≤ 2 ^ 32 → Tells c.key text told → told ≡ None → Cases c text
    → issued_link c text ≡ None
unfolding issued_link
none_by c text told kept few tells nothing (inl (none, nowhere)) = nowhere
none_by c text told kept few tells nothing (inr found) = absurd (cc (told_found c text told kept few tells found, nothing))

pub none-told : (c : Content) (text : List ℕ) (told : Option ℕ) → IsKept c → length c.links ≤ 2 ^ 32 → Tells c.key text told → told ≡ None
    → issued_link c text ≡ None
none-told c text told kept few tells nothing = none_by c text told kept few tells nothing (cases (is_text_of c text) (chains_of c.links))

some_by : (c : Content) (text : List ℕ) (told : Option ℕ) (n : ℕ) → IsKept c → length c.links ≤ 2 ^ 32 → Tells c.key text told → told ≡ Some n
    → is_text_of c text (chain c n) ≡ true
    → Cases c text → issued_link c text ≡ Some n
unfolding issued_link
some_by c text told n kept few tells is same (inl (none, nowhere)) =
    let there = there_if_text c text (slice_get (chains_of c.links) n) same in
    absurd (cc (none n there.0 there.1, there.2))
some_by c text told n kept few tells is same (inr found) =
    let number : found.number ≡ n = cc (told_found c text told kept few tells found, is) in
    found.is ∙ ap (λ (k : ℕ). Some k) number

pub some-told : (c : Content) (text : List ℕ) (told : Option ℕ) (n : ℕ) → IsKept c → length c.links ≤ 2 ^ 32 → Tells c.key text told → told ≡ Some n
    → is_text_of c text (chain c n) ≡ true → issued_link c text ≡ Some n
some-told c text told n kept few tells is same = some_by c text told n kept few tells is same (cases (is_text_of c text) (chains_of c.links))

other_by : (c : Content) (text : List ℕ) (told : Option ℕ) (n : ℕ) → IsKept c → length c.links ≤ 2 ^ 32 → Tells c.key text told → told ≡ Some n
    → is_text_of c text (chain c n) ≡ false
    → Cases c text → issued_link c text ≡ None
unfolding issued_link
other_by c text told n kept few tells is other (inl (none, nowhere)) = nowhere
other_by c text told n kept few tells is other (inr found) =
    let number : found.number ≡ n = cc (told_found c text told kept few tells found, is) in
    let passes : is_text_of c text (chain c n) ≡ true = subst (λ (k : ℕ). is_text_of c text (chain c k) ≡ true) number (found_passes c text found) in
    absurd (cc (passes, other))

pub other-told : (c : Content) (text : List ℕ) (told : Option ℕ) (n : ℕ) → IsKept c → length c.links ≤ 2 ^ 32 → Tells c.key text told → told ≡ Some n
    → is_text_of c text (chain c n) ≡ false → issued_link c text ≡ None
other-told c text told n kept few tells is other = other_by c text told n kept few tells is other (cases (is_text_of c text) (chains_of c.links))

-- ---- the link that a text was issued for

pub record IsIssued (c : Content) (text : List ℕ) (n : ℕ) (found : Chain) : Type 0 where
  pub number : issued_link c text ≡ Some n
  pub chain_is : chain c n ≡ Some found
  pub text_is : token_text c found ≡ text
  pub low : n < 2 ^ 32
  pub good : IsGood n found

-- no link's token is the text, or one that is known
abbrev pub IssuedOrNot : Content → List ℕ → Type 0
IssuedOrNot c text = (issued_link c text ≡ None) ⊎ ((n : ℕ) × (found : Chain) × IsIssued c text n found)

issued_by : (c : Content) (text : List ℕ) → IsKept c → length c.links ≤ 2 ^ 32 → Cases c text → IssuedOrNot c text
unfolding issued_link
issued_by c text kept few (inl (none, nowhere)) = inl nowhere
issued_by c text kept few (inr found) =
    let of = text_of c text found.element found.passes in
    let is : chain c found.number ≡ Some of.found = ap joined found.there ∙ of.is in
    inr (
      found.number,
      of.found,
      record {
        number = found.is;
        chain_is = is;
        text_is = of.same;
        low = omega (arith, within_of_chain c found.number of.found is, few);
        good = good_of_chain c found.number of.found kept is;
      },
    )

pub issued_cases : (c : Content) (text : List ℕ) → IsKept c → length c.links ≤ 2 ^ 32 → IssuedOrNot c text
issued_cases c text kept few = issued_by c text kept few (cases (is_text_of c text) (chains_of c.links))
