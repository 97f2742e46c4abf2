-- The steps of loops that read lists.
use Rattle.std.proofs.Common.{◌≡◌, ℕ, suc, ◌+◌, ◌-◌, ◌<◌, List, [], ◌∷◌, ◌++◌, Bool, true, false, ◌&&◌, if◌then◌else◌, Option, None, Some, option_map, codes, refl, sym, ap, ◌∙◌, append_assoc, arith}
use Rattle.std.specs.List.{list_all}
use Rattle.std.proofs.lemmas.Option.{cond_some}
use Rattle.serde_json.specs.Data.{Data}
use Rattle.serde_json.specs.Find.{get}
use Rattle.json_text.specs.Document.{text_at}
use Rattle.base_types.specs.Forms.{passing}
use Rattle.access_token.specs.Parts.{formed, names_in}

abbrev onto : {X : Type 0} → List X → Option (List X) → Option (List X)
onto found more = option_map (λ rest. found ++ rest) more

onto-none : {X : Type 0} (more : Option (List X)) → more ≡ onto [] more
onto-none None = refl
onto-none (Some xs) = refl

onto-more : {X : Type 0} (found : List X) (x : X) (more : Option (List X)) → onto found (option_map (λ xs. x ∷ xs) more) ≡ onto (found ++ x ∷ []) more
onto-more found x None = refl
onto-more found x (Some xs) = ap Some (sym (append_assoc found (x ∷ []) xs))

-- ---- names inside one another

pub names-begin : (name : List ℕ) (start : Option Data) (found : List (List ℕ)) → found ≡ [] → names_in name 8 start ≡ onto found (names_in name 8 start)
names-begin name start found is = onto-none (names_in name 8 start) ∙ ap (λ (xs : List (List ℕ)). onto xs (names_in name 8 start)) (sym is)

pub names-more : (name : List ℕ) (all : Option (List (List ℕ))) (found pushed : List (List ℕ)) (text : List ℕ) (depth : ℕ) (d : Data) (left next : Option Data) → depth < 8
    → all ≡ onto found (names_in name (8 - depth) left) → left ≡ Some d → text_at (codes "sub") d ≡ Some text → next ≡ get name d
    → pushed ≡ found ++ text ∷ [] → all ≡ onto pushed (names_in name (8 - (depth + 1)) next)
names-more name all found pushed text depth d left next within so_far is_d is_text is_next is_pushed =
    let one : 8 - depth ≡ suc (8 - (depth + 1)) = omega arith in
    so_far ∙ rw (is_d, one, is_text, is_next, is_pushed) (onto-more found text (names_in name (8 - (depth + 1)) (get name d)))

-- ---- words

either : {B : Type 0} (b : Bool) (o : Option B) → o ≡ (if b then o else o)
either true o = refl
either false o = refl

-- one more, where it is of the form
formed-more : {A : Type 0} (form : A → Bool) (x : A) (more : Option (List A))
    → formed (list_all form) (option_map (λ xs. x ∷ xs) more) ≡ (if form x then option_map (λ xs. x ∷ xs) (formed (list_all form) more) else None)
formed-more form x None = either (form x) None
formed-more form x (Some xs) = pass (form x) (list_all form xs)
  where
    pass : (b c : Bool) → (if b && c then Some (x ∷ xs) else None) ≡ (if b then option_map (λ ys. x ∷ ys) (if c then Some xs else None) else None)
    pass true true = refl
    pass true false = refl
    pass false c = refl

unformed : {A : Type 0} (form : A → Bool) (x : A) → formed form (Some x) ≡ None → form x ≡ false
unformed form x h = by (form x) h
  where
    by : (b : Bool) → (if b then Some x else None) ≡ None → b ≡ false
    by true h = cc
    by false h = refl

pub passing-more : {X : Type 0} (form : X → Bool) (all : Option (List X)) (found pushed whole behind : List X) (x y : X)
    → all ≡ onto found (passing (list_all form) whole) → whole ≡ x ∷ behind → passing form x ≡ Some y → pushed ≡ found ++ y ∷ []
    → all ≡ onto pushed (passing (list_all form) behind)
passing-more form all found pushed whole behind x y so_far is_whole is is_pushed =
    let parts = cond_some (form x) x y is in
    so_far ∙ rw is_whole (ap (onto found) (formed-more form x (Some behind)) ∙ rw (parts.0, is_pushed, ← parts.1) (onto-more found x (passing (list_all form) behind)))

pub passing-none : {X : Type 0} (form : X → Bool) (all : Option (List X)) (found whole behind : List X) (x : X)
    → all ≡ onto found (passing (list_all form) whole) → whole ≡ x ∷ behind → passing form x ≡ None → all ≡ None
passing-none form all found whole behind x so_far is_whole is =
    so_far ∙ rw is_whole (ap (onto found) (formed-more form x (Some behind)) ∙ rw (unformed form x is) refl)
