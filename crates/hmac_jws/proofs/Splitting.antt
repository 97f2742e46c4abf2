-- The parts of a text, from the cut at its first dot.
use Rattle.std.proofs.Common.{◌≡◌, ◌≢◌, ℕ, ◌<◌, ◌==◌, Bool, true, false, List, [], ◌∷◌, ◌++◌, length, get_or, Option, None, Some, MatchOption, is_some, refl, sym, ap, ◌∙◌, arith, append_assoc}
use denote.Ref.{Bor}
use Rattle.std.specs.List.{All}
use Rattle.std.proofs.lemmas.List.{get_or_default}
use Rattle.std.specs.List.{join_with_byte}
use Rattle.std.proofs.lemmas.List.Splits.{slice_split_none, slice_split_at, length-slice_split, join_with_byte-slice_split}
use Rattle.std.proofs.lemmas.Bool.Decides.{Decides-eqb}
use Rattle.hmac_jws.specs.Compact.{dot, signing_input}
use Rattle.hmac_jws.specs.Verified.{parts, HasOtherParts}

abbrev is_dot : ℕ → Bool
is_dot byte = byte == dot

abbrev pub HasNoDot : List ℕ → Type 0
HasNoDot text = All (λ byte. is_dot byte ≡ false) text

other_byte : (b : ℕ) (r : Bool) → (r ≡ true → b ≡ dot) → b ≢ dot → r ≡ false
other_byte b true is other = absurd (other (is refl))
other_byte b false is other = refl

HasNoDot-from_indices : (text : List ℕ) → ((i : ℕ) → i < length text → get_or text i 0 ≢ dot) → HasNoDot text
HasNoDot-from_indices text other = λ k d h.
    let same : get_or text k 0 ≡ get_or text k d = get_or_default text k 0 d h in
    other_byte (get_or text k d) _ (Decides-eqb (get_or text k d) dot).0 (rw (← same) (other k h))

-- a text without a dot is its only part
pub parts-one : (text : List ℕ) → HasNoDot text → parts text ≡ text ∷ []
parts-one text none = slice_split_none is_dot text none

-- what stands before the first dot is the first part
pub parts-more : (front rest : List ℕ) → HasNoDot front → parts (front ++ dot ∷ rest) ≡ front ∷ parts rest
parts-more front rest none = slice_split_at is_dot front dot rest none refl

pub parts-cut : (text : List ℕ) (cut : Option (Bor (List ℕ) × Bor (List ℕ)))
    → MatchOption cut ((i : ℕ) → i < length text → get_or text i 0 ≢ dot)
    (λ x. (text ≡ x.0.now ++ (dot ∷ x.1.now)) × ((i : ℕ) → i < length x.0.now → get_or x.0.now i 0 ≢ dot))
    → MatchOption cut (parts text ≡ text ∷ []) (λ x. parts text ≡ x.0.now ∷ parts x.1.now)
parts-cut text None other = parts-one text (HasNoDot-from_indices text other)
parts-cut text (Some x) cut =
    rw cut.0 (parts-more x.0.now x.1.now (HasNoDot-from_indices x.0.now cut.1))

-- a dot in the third part makes more than three
pub parts-four : (text header rest payload mac : List ℕ) (cut : Option (Bor (List ℕ) × Bor (List ℕ)))
    → parts text ≡ header ∷ parts rest → parts rest ≡ payload ∷ parts mac
    → MatchOption cut (parts mac ≡ mac ∷ []) (λ x. parts mac ≡ x.0.now ∷ parts x.1.now) → is_some cut ≡ true → HasOtherParts (parts text)
parts-four text header rest payload mac None a b c some = cc
parts-four text header rest payload mac (Some x) a b c some = λ three.
    let long : length (header ∷ payload ∷ x.0.now ∷ parts x.1.now) ≡ 3 = rw (a, b, c) at three in
    omega (arith, long, length-slice_split is_dot x.1.now)

-- no dot there, and there are three
pub parts-three : (text header rest payload mac : List ℕ) (cut : Option (Bor (List ℕ) × Bor (List ℕ)))
    → parts text ≡ header ∷ parts rest → parts rest ≡ payload ∷ parts mac
    → MatchOption cut (parts mac ≡ mac ∷ []) (λ x. parts mac ≡ x.0.now ∷ parts x.1.now) → is_some cut ≡ false → parts text ≡ header ∷ payload ∷ mac ∷ []
parts-three text header rest payload mac None a b c none = rw (a, b, c) refl
parts-three text header rest payload mac (Some x) a b c none = cc

-- three parts and the dots between them are the text
pub joined-three : (text header payload mac : List ℕ) → parts text ≡ header ∷ payload ∷ mac ∷ [] → text ≡ signing_input header payload ++ dot ∷ mac
joined-three text header payload mac three =
    sym (join_with_byte-slice_split dot text) ∙ ap (join_with_byte dot) three ∙ sym (append_assoc header (dot ∷ payload) (dot ∷ mac))

-- three parts without a dot are the parts of their text
pub parts-joined : (header payload mac : List ℕ) → HasNoDot header → HasNoDot payload → HasNoDot mac
    → parts (signing_input header payload ++ dot ∷ mac) ≡ header ∷ payload ∷ mac ∷ []
parts-joined header payload mac a b c =
    ap parts (append_assoc header (dot ∷ payload) (dot ∷ mac)) ∙ parts-more header (payload ++ dot ∷ mac) a
    ∙ ap (λ rest. header ∷ rest) (parts-more payload mac b ∙ ap (λ rest. payload ∷ rest) (parts-one mac c))
