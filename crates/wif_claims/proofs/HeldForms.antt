-- What the rules of the claims say of what passes them.
use Rattle.std.proofs.Common.{◌≡◌, ℕ, zero, suc, ◌^◌, ◌<◌, ◌≤◌, Bool, true, false, List, [], ◌∷◌, ◌++◌, length, Option, None, Some, option_map, option_and_then, Ok, Err, IfOk, IfSome, if◌then◌else◌, nat_lt, codes, inl, inr, refl, sym, arith}
use Rattle.std.specs.Bool.{⊤}
use Rattle.std.specs.Str.{IsUtf8}
use Rattle.std.specs.List.{AllByRecursion}
use Rattle.std.proofs.lemmas.Bool.{ltb-true}
use Rattle.serde_json.specs.Data.{Data}
use Rattle.serde_json.specs.Find.{get, as_number, as_object, as_u64}
use Rattle.base_types.specs.Forms.{passing}
use Rattle.base_types.specs.Steps.{◌>>=◌, needed}
use Rattle.json_text.specs.Document.{text_at}
use Rattle.json_text.specs.Members.{date_of}
use Rattle.wif_claims.specs.Forms.{HasForms}
use Rattle.wif_claims.specs.Payload.{optional_date, audiences, actor_of, actors, claims_of_data}
use Rattle.wif_claims.specs.declared.claims.Claims.{Claims}
use Rattle.wif_claims.specs.declared.claims.ClaimFault.{ClaimFault}
use Rattle.wif_claims.specs.declared.claims.ClaimFault.TheVariants.{NotObject, Iss, Aud, Exp, Nbf, Iat, MayAct}
use Rattle.wif_claims.proofs.Payloads.{Answer, Gives}

pub all-pushed : (texts : List (List ℕ)) (text : List ℕ) → AllByRecursion IsUtf8 texts → IsUtf8 text → AllByRecursion IsUtf8 (texts ++ text ∷ [])
all-pushed [] text all is = (is, tt)
all-pushed (first ∷ texts) text all is = (all.0, all-pushed texts text all.1 is)

-- ---- a date is below 2^53

below-tested : (n limit : ℕ) (b : Bool) → nat_lt n limit ≡ b → IfSome (if b then Some n else None) (λ m. m < limit)
below-tested n limit true is = ltb-true n limit is
below-tested n limit false is = tt

below-passing : (limit : ℕ) (o : Option ℕ) → IfSome (option_and_then (passing (λ n. nat_lt n limit)) o) (λ n. n < limit)
below-passing limit None = tt
below-passing limit (Some n) = below-tested n limit (nat_lt n limit) refl

pub date-below : (o : Option Data) → IfSome (option_and_then date_of o) (λ n. n < 2 ^ 53)
date-below None = tt
date-below (Some d) = below-passing (2 ^ 53) (option_and_then as_u64 (as_number d))

-- ---- at most so many may act

abbrev AtMost : ℕ → List (List ℕ) → Type 0
AtMost count texts = length texts ≤ count

at_most-more : (count : ℕ) (actor : Option (List ℕ)) (more : Option (List (List ℕ))) → IfSome more (AtMost count)
    → IfSome (option_and_then (λ a. option_map (λ texts. a ∷ texts) more) actor) (AtMost (suc count))
at_most-more count None more h = tt
at_most-more count (Some actor) None h = tt
at_most-more count (Some actor) (Some texts) h = omega (arith, h)

at_most : (count : ℕ) (o : Option Data) → IfSome (actors count o) (AtMost count)
at_most count None = omega arith
at_most zero (Some d) = tt
at_most (suc count) (Some d) = at_most-more count (actor_of d) _ (at_most count (get (codes "may_act") d))

-- ---- so the claims have their forms

abbrev IsBounded : Claims → Type 0
IsBounded claims = (claims.exp < 2 ^ 53) × (length claims.may_act ≤ 8)

pub after-needed : {X : Type 0} (Q : X → Type 0) (P : Claims → Type 0) (fault : ClaimFault) (o : Option X) (next : X → Answer)
    → IfSome o Q → ((x : X) → Q x → IfOk (next x) P) → IfOk (needed fault o >>= next) P
after-needed Q P fault None next q h = tt
after-needed Q P fault (Some x) next q h = h x q

pub free : {X : Type 0} (o : Option X) → IfSome o (λ _. ⊤)
free None = tt
free (Some x) = tt

data-bounded : (d : Data) → IfOk (claims_of_data d) IsBounded
unfolding claims_of_data
data-bounded d =
    after-needed (λ _. ⊤) _ NotObject (as_object d) _ (free _) (λ _ _.
    after-needed (λ _. ⊤) _ Iss (text_at (codes "iss") d) _ (free _) (λ _ _.
    after-needed (λ _. ⊤) _ Aud (audiences (get (codes "aud") d)) _ (free _) (λ _ _.
    after-needed (λ n. n < 2 ^ 53) _ Exp (option_and_then date_of (get (codes "exp") d)) _ (date-below (get (codes "exp") d)) (λ _ below.
    after-needed (λ _. ⊤) _ Nbf (optional_date (get (codes "nbf") d)) _ (free _) (λ _ _.
    after-needed (λ _. ⊤) _ Iat (optional_date (get (codes "iat") d)) _ (free _) (λ _ _.
    after-needed (AtMost 8) _ MayAct (actors 8 (get (codes "may_act") d)) _ (at_most 8 (get (codes "may_act") d)) (λ _ few.
    (below, few))))))))

pub has-forms : (d : Data) (result : Answer) → Gives result (claims_of_data d) → IfOk result (λ claims. AllByRecursion IsUtf8 claims.may_act) → IfOk result HasForms
has-forms d (Err fault) gives utf8 = tt
has-forms d (Ok claims) (inr memory) utf8 = cc
has-forms d (Ok claims) (inl gives) utf8 =
    let bounds = rw (sym gives) at (data-bounded d) in
    record { exp = bounds.0; may_act = bounds.1; utf8 = utf8 }
