-- Short lists that were written read back.
use Rattle.std.proofs.Common.{◌≡◌, ℕ, suc, ◌≤◌, List, [], ◌∷◌, length, Option, Some, refl, ap, ◌∙◌}
use Rattle.std.specs.List.{AllByRecursion}
use Rattle.std.proofs.lemmas.Bool.{le-leb}
use Rattle.serde_json.specs.Data.{Data, string, array, Items}
use Rattle.json_text.specs.Arrays.{count, short_list}
use Rattle.json_text.specs.Document.{texts_data}
use Rattle.boundary.specs.Written.{items}
use Rattle.boundary.proofs.WrittenParts.{items_mapped, all_back}

count_items : {A : Type 0} (write : A → Data) (xs : List A) → count (items write xs) ≡ length xs
count_items write [] = refl
count_items write (x ∷ xs) = ap suc (count_items write xs)

pub short_back : {A : Type 0} (write : A → Data) (read : Data → Option A) (P : A → Type 0) → ((x : A) → P x → read (write x) ≡ Some x)
    → (most : ℕ) (xs : List A) → length xs ≤ most → AllByRecursion P xs → short_list read most (array (items write xs)) ≡ Some xs
short_back write read P back most xs few all = rw (count_items write xs, le-leb (length xs) most few) (all_back write read P back xs all)

pub short_texts_back : (read : Data → Option (List ℕ)) (P : List ℕ → Type 0) → ((text : List ℕ) → P text → read (string text) ≡ Some text)
    → (most : ℕ) (texts : List (List ℕ)) → length texts ≤ most → AllByRecursion P texts → short_list read most (texts_data texts) ≡ Some texts
short_texts_back read P back most texts few all =
    ap (λ (ds : Items). short_list read most (array ds)) (items_mapped string texts) ∙ short_back string read P back most texts few all
