-- The steps of the loop over who may act.
use Rattle.std.proofs.Common.{◌≡◌, ℕ, suc, ◌+◌, ◌-◌, ◌<◌, List, [], ◌∷◌, ◌++◌, Option, None, Some, option_map, codes, refl, sym, ap, ◌∙◌, append_assoc, arith}
use Rattle.serde_json.specs.Data.{Data}
use Rattle.serde_json.specs.Find.{get}
use Rattle.wif_claims.specs.Payload.{actor_of, actors}

abbrev Texts : Type 0
Texts = List (List ℕ)

abbrev onto : Texts → Option Texts → Option Texts
onto found more = option_map (λ texts. found ++ texts) more

onto-more : (found : Texts) (actor : List ℕ) (more : Option Texts) → onto found (option_map (λ texts. actor ∷ texts) more) ≡ onto (found ++ actor ∷ []) more
onto-more found actor None = refl
onto-more found actor (Some texts) = ap Some (sym (append_assoc found (actor ∷ []) texts))

pub actors-more : (all : Option Texts) (found pushed : Texts) (actor : List ℕ) (depth : ℕ) (d : Data) (left next : Option Data) → depth < 8
    → all ≡ onto found (actors (8 - depth) left) → left ≡ Some d → actor_of d ≡ Some actor → next ≡ get (codes "may_act") d
    → pushed ≡ found ++ actor ∷ [] → all ≡ onto pushed (actors (8 - (depth + 1)) next)
actors-more all found pushed actor depth d left next within so_far is_d is_actor is_next is_pushed =
    let one : 8 - depth ≡ suc (8 - (depth + 1)) = omega arith in
    so_far ∙ rw (is_d, one, is_actor, is_next, is_pushed) (onto-more found actor (actors (8 - (depth + 1)) (get (codes "may_act") d)))

pub actors-none : (all : Option Texts) (found : Texts) (depth : ℕ) (d : Data) (left : Option Data) → depth < 8
    → all ≡ onto found (actors (8 - depth) left) → left ≡ Some d → actor_of d ≡ None → None ≡ all
actors-none all found depth d left within so_far is_d is_none =
    let one : 8 - depth ≡ suc (8 - (depth + 1)) = omega arith in
    sym (so_far ∙ rw (is_d, one, is_none) refl)
