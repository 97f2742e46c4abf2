-- The first fault of a text, by what its parts are.
use Rattle.std.proofs.Common.{◌≡◌, ◌≢◌, ◌⊎◌, ℕ, true, false, List, [], ◌∷◌, Option, None, Some, Result, Ok, Err, IfOk, IfErr, IsErrAnd, inl, inr, ap, ◌∙◌, refl}
use Rattle.std.proofs.lemmas.Result.{err_from_is_err_and}
use Rattle.std.specs.Str.{bytes_eq}
use Rattle.json_text.specs.Document.{document}
use Rattle.hmac_jws.specs.Hmac.{hmac_of}
use Rattle.hmac_jws.specs.Compact.{base64url_bytes, signing_input}
use Rattle.hmac_jws.specs.Verified.{parts, HasOtherParts, first_header_fault, first_fault_of_parts, first_jws_fault, payload_of, payload_of_parts}
use Rattle.hmac_jws.specs.declared.verification.Verified.{Verified}
use Rattle.hmac_jws.specs.declared.fault.JwsFault.{JwsFault}
use Rattle.hmac_jws.specs.declared.fault.JwsFault.TheVariants.{Parts, Base64, Mac, Memory}

-- want of memory, or the first fault
abbrev pub IsFirst : List ℕ → List ℕ → JwsFault → Type 0
IsFirst key text fault = (fault ≡ Memory) ⊎ (first_jws_fault key text ≡ Some fault)

-- the exit of a `?`
pub refused : {T : Type 0} (P : JwsFault → Type 0) (r : Result T JwsFault) (fault : JwsFault) → IsErrAnd r (λ e. e ≡ fault) → P fault → IfErr r P
refused P r fault is holds =
    let p = err_from_is_err_and r is in
    rw (p.1, p.2) holds

-- a part that is no base64url
pub by_base64 : (key text : List ℕ) (part : ℕ) (bytes : Option (List ℕ)) (fault : JwsFault) → (fault ≡ Memory) ⊎ ((fault ≡ Base64 part) × (bytes ≡ None))
    → (bytes ≡ None → first_jws_fault key text ≡ Some (Base64 part)) → IsFirst key text fault
by_base64 key text part bytes fault (inl memory) first = inl memory
by_base64 key text part bytes fault (inr is) first = inr (rw is.0 (first is.1))

-- a header with a fault
pub by_header : (key text : List ℕ) (first : Option JwsFault) (fault : JwsFault) → (fault ≡ Memory) ⊎ (first ≡ Some fault)
    → (first ≡ Some fault → first_jws_fault key text ≡ Some fault) → IsFirst key text fault
by_header key text first fault (inl memory) top = inl memory
by_header key text first fault (inr is) top = inr (top is)

other_parts : (key : List ℕ) (texts : List (List ℕ)) → HasOtherParts texts → first_fault_of_parts key texts ≡ Some Parts
other_parts key [] other = refl
other_parts key (a ∷ []) other = refl
other_parts key (a ∷ b ∷ []) other = refl
other_parts key (a ∷ b ∷ c ∷ []) other = absurd (other refl)
other_parts key (a ∷ b ∷ c ∷ d ∷ rest) other = refl

pub first_of_other_parts : (key text : List ℕ) → HasOtherParts (parts text) → first_jws_fault key text ≡ Some Parts
unfolding first_jws_fault
first_of_other_parts key text other = other_parts key (parts text) other

module _ (key text header payload mac : List ℕ) (three : parts text ≡ header ∷ payload ∷ mac ∷ []) where
  of_three : first_jws_fault key text ≡ first_fault_of_parts key (header ∷ payload ∷ mac ∷ [])
  unfolding first_jws_fault
  of_three = ap (first_fault_of_parts key) three

  pub first_base64-header : base64url_bytes header ≡ None → first_jws_fault key text ≡ Some (Base64 0)
  first_base64-header h = of_three ∙ rw h refl

  module _ (header_bytes : List ℕ) (h : base64url_bytes header ≡ Some header_bytes) where
    pub first_base64-payload : base64url_bytes payload ≡ None → first_jws_fault key text ≡ Some (Base64 1)
    first_base64-payload p = of_three ∙ rw (h, p) refl

    module _ (payload_bytes : List ℕ) (p : base64url_bytes payload ≡ Some payload_bytes) where
      pub first_base64-mac : base64url_bytes mac ≡ None → first_jws_fault key text ≡ Some (Base64 2)
      first_base64-mac m = of_three ∙ rw (h, p, m) refl

      pub payload_of_three : payload_of text ≡ payload_bytes
      unfolding payload_of
      payload_of_three = ap payload_of_parts three ∙ rw p refl

      module _ (mac_bytes : List ℕ) (m : base64url_bytes mac ≡ Some mac_bytes) where
        pub first_header : (fault : JwsFault) → first_header_fault (document header_bytes) ≡ Some fault → first_jws_fault key text ≡ Some fault
        first_header fault bad = of_three ∙ rw (h, p, m, bad) refl

        module _ (good : first_header_fault (document header_bytes) ≡ None) where
          pub first_mac : bytes_eq mac_bytes (hmac_of key (signing_input header payload)) ≡ false → first_jws_fault key text ≡ Some Mac
          first_mac other = of_three ∙ rw (h, p, m, good, other) refl

          pub first_none : bytes_eq mac_bytes (hmac_of key (signing_input header payload)) ≡ true → first_jws_fault key text ≡ None
          first_none same = of_three ∙ rw (h, p, m, good, same) refl

-- ---- what an answer says, both ways

pub first_but_memory : (key text : List ℕ) (result : Result Verified JwsFault) → IfErr result (IsFirst key text)
    → IfErr result (λ fault. fault ≢ Memory → first_jws_fault key text ≡ Some fault)
first_but_memory key text (Ok v) is = tt
first_but_memory key text (Err fault) (inl memory) = λ other. absurd (other memory)
first_but_memory key text (Err fault) (inr first) = λ other. first

pub only_memory : (key text : List ℕ) (result : Result Verified JwsFault) → IfErr result (IsFirst key text)
    → first_jws_fault key text ≡ None → IfErr result (λ fault. fault ≡ Memory)
only_memory key text (Ok v) is good = tt
only_memory key text (Err fault) (inl memory) good = memory
only_memory key text (Err fault) (inr first) good = cc

pub fault_or_memory : (key text : List ℕ) (result : Result Verified JwsFault) (fault : JwsFault)
    → IfOk result (λ v. (first_jws_fault key text ≡ None) × (v.payload ≡ payload_of text)) → IfErr result (IsFirst key text)
    → first_jws_fault key text ≡ Some fault → (result ≡ Err fault) ⊎ (result ≡ Err Memory)
fault_or_memory key text (Ok v) fault ok is first = let none = ok.0 in cc
fault_or_memory key text (Err found) fault ok (inl memory) first = inr (ap Err memory)
fault_or_memory key text (Err found) fault ok (inr is) first = inl cc
