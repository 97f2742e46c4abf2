-- What the rules of the claims say of the claims that a payload has.
use Rattle.std.proofs.Common.{◌≡◌, ℕ, zero, suc, ◌^◌, ◌<◌, ◌≤◌, Bool, true, false, List, ◌∷◌, length, Option, None, Some, option_map, option_and_then, IfOk, IfSome, if◌then◌else◌, codes, refl, arith}
use Rattle.std.specs.Bool.{⊤}
use Rattle.std.specs.Str.{IsUtf8}
use Rattle.std.specs.List.{AllByRecursion, list_all}
use Rattle.std.proofs.lemmas.Bool.{and_from}
use Rattle.serde_json.specs.Data.{Data}
use Rattle.serde_json.specs.Find.{get, as_object}
use Rattle.json_text.specs.Clean.{HasUtf8}
use Rattle.json_text.specs.Document.{document, text_at}
use Rattle.base_types.specs.Forms.{has_size, passing}
use Rattle.json_text.proofs.FoundTexts.{get_utf8, text_at_utf8}
use Rattle.json_text.proofs.ValueTexts.{read_document_utf8}
use Rattle.cel_values.specs.declared.value.Value.{Value}
use Rattle.cel_values.specs.Values.{value_of}
use Rattle.wif_claims.specs.Forms.{HasForms}
use Rattle.json_text.specs.Members.{date_of}
use Rattle.wif_claims.specs.Payload.{optional_date, audiences, actor_of, actors, claims_of_data, claims_of}
use Rattle.wif_claims.specs.declared.claims.Claims.{Claims}
use Rattle.wif_claims.specs.declared.claims.ClaimFault.TheVariants.{Json, NotObject, Iss, Aud, Exp, Nbf, Iat, MayAct}
use Rattle.wif_claims.proofs.HeldForms.{date-below, after-needed, free}

-- the value of a JSON value whose texts are UTF-8
pub record IsUtf8Tree (tree : Value) : Type 0 where
  pub from : Data
  pub utf8 : HasUtf8 from
  pub same : tree ≡ value_of from

-- the forms of the claims, the sizes of those who may act, and a tree of UTF-8 texts
pub record AreFormed (claims : Claims) : Type 0 where
  pub forms : HasForms claims
  pub sizes : list_all (has_size 1 1024) claims.may_act ≡ true
  pub tree : IsUtf8Tree claims.tree

-- ---- who may act

abbrev IsActor : List ℕ → Type 0
IsActor text = IsUtf8 text × (has_size 1 1024 text ≡ true)

record AreActorTexts (count : ℕ) (texts : List (List ℕ)) : Type 0 where
  few : length texts ≤ count
  utf8 : AllByRecursion IsUtf8 texts
  sizes : list_all (has_size 1 1024) texts ≡ true

sized : (text : List ℕ) (b : Bool) → has_size 1 1024 text ≡ b → IsUtf8 text → IfSome (if b then Some text else None) IsActor
sized text true is u = (u, is)
sized text false is u = tt

actor_text : (o : Option (List ℕ)) → IfSome o IsUtf8 → IfSome (option_and_then (passing (has_size 1 1024)) o) IsActor
actor_text None u = tt
actor_text (Some text) u = sized text (has_size 1 1024 text) refl u

actor_formed : (d : Data) → HasUtf8 d → IfSome (actor_of d) IsActor
actor_formed d u = actor_text (text_at (codes "sub") d) (text_at_utf8 (codes "sub") d u)

one_more : (count : ℕ) (actor : Option (List ℕ)) (more : Option (List (List ℕ))) → IfSome actor IsActor → IfSome more (AreActorTexts count)
    → IfSome (option_and_then (λ a. option_map (λ texts. a ∷ texts) more) actor) (AreActorTexts (suc count))
one_more count None more a m = tt
one_more count (Some actor) None a m = tt
one_more count (Some actor) (Some texts) a m = record { few = omega (arith, m.few); utf8 = (a.0, m.utf8); sizes = and_from _ _ a.1 m.sizes }

actors_formed : (count : ℕ) (o : Option Data) → IfSome o HasUtf8 → IfSome (actors count o) (AreActorTexts count)
actors_formed count None u = record { few = omega arith; utf8 = tt; sizes = refl }
actors_formed zero (Some d) u = tt
actors_formed (suc count) (Some d) u = one_more count (actor_of d) _ (actor_formed d u) (actors_formed count (get (codes "may_act") d) (get_utf8 (codes "may_act") d u))

-- ---- the claims

data_formed : (d : Data) → HasUtf8 d → IfOk (claims_of_data d) AreFormed
unfolding claims_of_data
data_formed d u =
    after-needed (λ _. ⊤) _ NotObject (as_object d) _ (free _) (λ _ _.
    after-needed (λ _. ⊤) _ Iss (text_at (codes "iss") d) _ (free _) (λ _ _.
    after-needed (λ _. ⊤) _ Aud (audiences (get (codes "aud") d)) _ (free _) (λ _ _.
    after-needed (λ n. n < 2 ^ 53) _ Exp (option_and_then date_of (get (codes "exp") d)) _ (date-below (get (codes "exp") d)) (λ _ below.
    after-needed (λ _. ⊤) _ Nbf (optional_date (get (codes "nbf") d)) _ (free _) (λ _ _.
    after-needed (λ _. ⊤) _ Iat (optional_date (get (codes "iat") d)) _ (free _) (λ _ _.
    after-needed (AreActorTexts 8) _ MayAct (actors 8 (get (codes "may_act") d)) _ (actors_formed 8 (get (codes "may_act") d) (get_utf8 (codes "may_act") d u)) (λ _ are.
    record { forms = record { exp = below; may_act = are.few; utf8 = are.utf8 }; sizes = are.sizes; tree = record { from = d; utf8 = u; same = refl } })))))))

-- the claims of a payload have their forms
pub claims_formed : (payload : List ℕ) → IfOk (claims_of payload) AreFormed
unfolding claims_of
claims_formed payload = after-needed HasUtf8 AreFormed Json (document payload) claims_of_data (read_document_utf8 payload) data_formed
