-- The claims of a payload, or the first rule that it fails.
use Rattle.std.specs.Prelude.{ℕ, zero, suc, List, [], ◌∷◌, Option, None, Some, option_map, option_and_then, Result, Ok, codes}
use Rattle.serde_json.specs.Data.{Data, null, boolean, number, string, array, object}
use Rattle.serde_json.specs.Find.{get, as_object}
use Rattle.base_types.specs.Forms.{has_size, passing}
use Rattle.base_types.specs.Steps.{◌>>=◌, needed}
use Rattle.json_text.specs.Document.{document, text_at, item_texts}
use Rattle.json_text.specs.Members.{date_of}
use Rattle.cel_values.specs.Values.{value_of}
use Rattle.wif_claims.specs.declared.claims.Claims.{Claims}
use Rattle.wif_claims.specs.declared.claims.ClaimFault.{ClaimFault}
use Rattle.wif_claims.specs.declared.claims.ClaimFault.TheVariants.{Json, NotObject, Iss, Aud, Exp, Nbf, Iat, MayAct}

-- the date where a member is there
abbrev pub optional_date : Option Data → Option (Option ℕ)
optional_date None = Some None
optional_date (Some d) = option_map Some (date_of d)

-- one text, or an array of them; none where the member isn't there
abbrev pub audiences : Option Data → Option (List (List ℕ))
audiences None = Some []
audiences (Some (string text)) = Some (text ∷ [])
audiences (Some (array items)) = item_texts items
audiences (Some null) = None
audiences (Some (boolean _)) = None
audiences (Some (number _)) = None
audiences (Some (object _)) = None

-- who an object lets act
abbrev pub actor_of : Data → Option (List ℕ)
actor_of d = option_and_then (passing (has_size 1 1024)) (text_at (codes "sub") d)

-- who may act, outermost first and at most so many, where the member is there
abbrev pub actors : ℕ → Option Data → Option (List (List ℕ))
actors count None = Some []
actors zero (Some d) = None
actors (suc count) (Some d) =
    option_and_then (λ actor. option_map (λ more. actor ∷ more) (actors count (get (codes "may_act") d))) (actor_of d)

-- the claims of a JSON value
unfoldable pub claims_of_data : Data → Result Claims ClaimFault
claims_of_data d = do
  members ← needed NotObject (as_object d)
  iss ← needed Iss (text_at (codes "iss") d)
  aud ← needed Aud (audiences (get (codes "aud") d))
  exp ← needed Exp (option_and_then date_of (get (codes "exp") d))
  nbf ← needed Nbf (optional_date (get (codes "nbf") d))
  iat ← needed Iat (optional_date (get (codes "iat") d))
  may_act ← needed MayAct (actors 8 (get (codes "may_act") d))
  Ok (record { iss = iss; aud = aud; exp = exp; nbf = nbf; iat = iat; may_act = may_act; tree = value_of d })

-- the claims of a payload
unfoldable pub claims_of : List ℕ → Result Claims ClaimFault
claims_of payload = needed Json (document payload) >>= claims_of_data
