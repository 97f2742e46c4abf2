-- What the weight of a map is.
use Rattle.std.proofs.Common.{◌≡◌, ◌+◌, ℕ, List, [], ◌∷◌, map, sum, refl, sym, ap, ◌∙◌}
use Rattle.cel_values.specs.declared.value.Value.TheViews as made
use Rattle.cel_values.specs.declared.value.Value.TheOpen.{Value-F}
use Rattle.cel_values.specs.declared.value.Value.TheFolds.{fold-roll-Value, fold-roll-MapEntry, fold-MapEntry}
use Rattle.cel_values.specs.declared.value.Value.TheVariants.{rolls-Map}
use Rattle.cel_values.specs.declared.value.MapEntry.{MapEntry}
use Rattle.cel_values.specs.Weight.{weight_step, entry_weight_step, weight, entry_weight}

map_same : {A B : Type 0} (f g : A → B) → ((x : A) → f x ≡ g x) → (xs : List A) → map f xs ≡ map g xs
map_same f g h [] = refl
map_same f g h (x ∷ xs) = ap (λ y. y ∷ map f xs) (h x) ∙ ap (λ ys. g x ∷ ys) (map_same f g h xs)

entry : (e : MapEntry) → fold-MapEntry ℕ ℕ weight_step entry_weight_step e ≡ entry_weight e
entry e = fold-roll-MapEntry ℕ ℕ weight_step entry_weight_step (record { key = e.key; value = e.value })

pub weight_map : (es : List MapEntry) → weight (made.Map es) ≡ 1 + sum (map entry_weight es)
weight_map es =
    ap weight (sym (rolls-Map es)) ∙ fold-roll-Value ℕ ℕ weight_step entry_weight_step (Value-F.Map es)
    ∙ ap (λ ws. 1 + sum ws) (map_same _ entry_weight entry es)
