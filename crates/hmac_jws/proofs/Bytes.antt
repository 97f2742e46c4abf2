-- What base64url and a digest are made of.
use Rattle.std.proofs.Common.{◌≡◌, ℕ, zero, suc, ◌==◌, Bool, true, false, not, ◌&&◌, List, [], ◌∷◌, nat_lt, refl, arith, append-nil, slice_index}
use Rattle.std.specs.Int.{byte_at}
use Rattle.std.specs.List.{list_all}
use Rattle.std.proofs.lemmas.Bool.Decides.{Decides-ltb}
use Rattle.sha2.specs.Sha256.{digest_bytes, sha256}
use Rattle.hmac_jws.specs.Hmac.{hmac_of}
use Rattle.std.proofs.lemmas.List.Folds.{list_all-append}
use Rattle.std.proofs.lemmas.List.Sums.{AllPass-from_list_all}
use Rattle.base64.specs.Rfc4648.{encode_symbols}
use Rattle.base64.specs.GeneralPurpose.{IsBytes}
use Rattle.base64.specs.Engines.{url_safe_no_pad}
use Rattle.hmac_jws.specs.Compact.{base64url, dot, signed_header}
use Rattle.hmac_jws.proofs.Splitting.{HasNoDot}

and_first : (a b : Bool) → (a && b) ≡ true → a ≡ true
and_first true b h = refl
and_first false b h = h

and_second : (a b : Bool) → (a && b) ≡ true → b ≡ true
and_second true b h = h
and_second false b h = cc

passes_at : (p : ℕ → Bool) (xs : List ℕ) (i : ℕ) → p 0 ≡ true → list_all p xs ≡ true → p (slice_index xs i) ≡ true
passes_at p [] i past all = past
passes_at p (x ∷ xs) zero past all = and_first (p x) (list_all p xs) all
passes_at p (x ∷ xs) (suc i) past all = passes_at p xs i past (and_second (p x) (list_all p xs) all)

-- ---- no symbol of base64url is a dot

abbrev table : List ℕ
table = url_safe_no_pad.encode_table

abbrev other : ℕ → Bool
other byte = not (byte == dot)

symbol : (i : ℕ) → other (slice_index table i) ≡ true
symbol i = passes_at other table i refl refl

others : (m : List ℕ) → list_all other (encode_symbols table m) ≡ true
unfolding encode_symbols
others [] = refl
others (a ∷ []) = simp symbol
others (a ∷ b ∷ []) = simp symbol
others (a ∷ b ∷ c ∷ rest) = simp symbol (others rest)

not_true : (b : Bool) → not b ≡ true → b ≡ false
not_true true h = cc
not_true false h = refl

pub HasNoDot-base64url : (m : List ℕ) → HasNoDot (base64url m)
HasNoDot-base64url m =
    let all : list_all other (base64url m) ≡ true = rw append-nil (others m) in
    λ k d h. not_true _ (AllPass-from_list_all other (base64url m) all k d h)

-- ---- a digest is bytes

abbrev is_byte : ℕ → Bool
is_byte byte = nat_lt byte 256

IsBytes-from_test : (bytes : List ℕ) → list_all is_byte bytes ≡ true → IsBytes bytes
IsBytes-from_test bytes all = λ i. (Decides-ltb (slice_index bytes i) 256).0 (passes_at is_byte bytes i refl all)

byte_at_is_byte : (k n : ℕ) → is_byte (byte_at k n) ≡ true
byte_at_is_byte zero n = (Decides-ltb _ 256).1 (omega arith)
byte_at_is_byte (suc k) n = (Decides-ltb _ 256).1 (omega arith)

digest_bytes_are : (words : List ℕ) (n : ℕ) → list_all is_byte (digest_bytes words n) ≡ true
unfolding digest_bytes
digest_bytes_are words zero = refl
digest_bytes_are words (suc n) =
    let w = slice_index words n in
    rw (list_all-append is_byte (digest_bytes words n), digest_bytes_are words n, byte_at_is_byte 3 w, byte_at_is_byte 2 w, byte_at_is_byte 1 w, byte_at_is_byte 0 w) refl

IsBytes-sha256 : (m : List ℕ) → IsBytes (sha256 m)
unfolding sha256
IsBytes-sha256 m = IsBytes-from_test _ (digest_bytes_are _ 8)

pub IsBytes-hmac_of : (key message : List ℕ) → IsBytes (hmac_of key message)
unfolding hmac_of
IsBytes-hmac_of key message = IsBytes-sha256 _

pub IsBytes-header : IsBytes signed_header
IsBytes-header = IsBytes-from_test signed_header refl
