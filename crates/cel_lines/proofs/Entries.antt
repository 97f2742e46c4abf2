-- What the text of a map is.
use Rattle.std.proofs.Common.{◌≡◌, ◌++◌, ℕ, List, [], ◌∷◌, false, map, codes, refl, sym, ap, ◌∙◌}
use Rattle.cel_values.specs.declared.value.Value.TheViews as made
use Rattle.cel_values.specs.declared.value.Value.TheOpen.{Value-F}
use Rattle.cel_values.specs.declared.value.Value.TheFolds.{fold-roll-Value, fold-roll-MapEntry, fold-MapEntry}
use Rattle.cel_values.specs.declared.value.Value.TheVariants.{rolls-Map}
use Rattle.cel_values.specs.declared.value.MapEntry.{MapEntry}
use Rattle.cel_lines.specs.ValueText.{value_text_step, entry_text_step, value_text, entry_text, separated}

map_same : {A B : Type 0} (f g : A → B) → ((x : A) → f x ≡ g x) → (xs : List A) → map f xs ≡ map g xs
map_same f g h [] = refl
map_same f g h (x ∷ xs) = ap (λ y. y ∷ map f xs) (h x) ∙ ap (λ ys. g x ∷ ys) (map_same f g h xs)

entry : (e : MapEntry) → fold-MapEntry (List ℕ) (List ℕ) value_text_step entry_text_step e ≡ entry_text e
entry e = fold-roll-MapEntry (List ℕ) (List ℕ) value_text_step entry_text_step (record { key = e.key; value = e.value })

pub map_text : (es : List MapEntry) → value_text (made.Map es) ≡ codes "{" ++ (separated false (map entry_text es) ++ codes "}")
map_text es =
    ap value_text (sym (rolls-Map es)) ∙ fold-roll-Value (List ℕ) (List ℕ) value_text_step entry_text_step (Value-F.Map es)
    ∙ ap (λ texts. codes "{" ++ (separated false texts ++ codes "}")) (map_same _ entry_text entry es)
