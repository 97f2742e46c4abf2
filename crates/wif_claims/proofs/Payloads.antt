-- What an answer says of a payload.
use Rattle.std.proofs.Common.{◌≡◌, ◌≢◌, ◌⊎◌, inl, inr, ℕ, List, None, Some, Result, Ok, Err, IfOk, IfErr, sym, ap, ◌∙◌}
use Rattle.serde_json.specs.Data.{Data}
use Rattle.base_types.specs.Steps.{◌>>=◌, needed}
use Rattle.json_text.specs.Document.{document}
use Rattle.wif_claims.specs.Payload.{claims_of, claims_of_data}
use Rattle.wif_claims.specs.declared.claims.Claims.{Claims}
use Rattle.wif_claims.specs.declared.claims.ClaimFault.{ClaimFault}
use Rattle.wif_claims.specs.declared.claims.ClaimFault.TheVariants.{Json, Memory}

abbrev pub Answer : Type 0
Answer = Result Claims ClaimFault

-- the claims, or want of memory
abbrev pub Gives : Answer → Answer → Type 0
Gives result claims = (result ≡ claims) ⊎ (result ≡ Err Memory)

claims_of-some : (payload : List ℕ) (d : Data) → document payload ≡ Some d → claims_of payload ≡ claims_of_data d
unfolding claims_of
claims_of-some payload d is = ap (λ tree. needed Json tree >>= claims_of_data) is

pub claims_of-none : (payload : List ℕ) → document payload ≡ None → claims_of payload ≡ Err Json
unfolding claims_of
claims_of-none payload is = ap (λ tree. needed Json tree >>= claims_of_data) is

pub gives-document : (payload : List ℕ) (d : Data) (result : Answer) → document payload ≡ Some d → Gives result (claims_of_data d) → Gives result (claims_of payload)
gives-document payload d result is (inl gives) = inl (gives ∙ sym (claims_of-some payload d is))
gives-document payload d result is (inr memory) = inr memory

pub read-gives : (result claims : Answer) → Gives result claims → IfOk result (λ found. claims ≡ Ok found)
read-gives (Ok found) claims (inl gives) = sym gives
read-gives (Ok found) claims (inr memory) = cc
read-gives (Err fault) claims gives = tt

pub refused-gives : (result claims : Answer) → Gives result claims → IfErr result (λ fault. fault ≢ Memory → claims ≡ Err fault)
refused-gives (Ok found) claims gives = tt
refused-gives (Err fault) claims (inl gives) = λ other. sym gives
refused-gives (Err fault) claims (inr memory) = λ other. absurd (other cc)
