-- Attributes that are copied in order.
use Rattle.std.proofs.Common.{◌≡◌, ℕ, List, [], ◌∷◌, ◌++◌, map, refl, sym, ap, ◌∙◌, subst, append_assoc, Greater, nat_cmp}
use Rattle.std.specs.declared.cmp.Ordering.TheVariants.{Less}
use Rattle.std.specs.Cmp.Lexicographic.{slice_cmp}
use Rattle.std.specs.List.{AllByRecursion}
use Rattle.std.specs.List.Sorted.{IsStrictlySortedBy}
use Rattle.std.specs.Ordering.{ordering_reverse}
use Rattle.std.proofs.lemmas.Cmp.{nat_list_cmp_total}
use Rattle.base_types.specs.Named.{put_in_order, InOrder}

abbrev Texts : Type 0
Texts = List (List ℕ × List ℕ)

-- what was copied stands before what is left, and the names rise
pub record IsCopiedBefore (all copied left : Texts) : Type 0 where
  pub is : copied ++ left ≡ all
  pub rising : InOrder all

all_at : (P : List ℕ → Type 0) (before : Texts) (x : List ℕ × List ℕ) (behind : Texts) → AllByRecursion P (map (λ row. row.0) (before ++ x ∷ behind)) → P x.0
all_at P [] x behind all = all.0
all_at P (y ∷ before) x behind all = all_at P before x behind all.1

-- a name behind all that were copied goes to the end
put-last : (copied : Texts) (name value : List ℕ) (behind : Texts) → InOrder (copied ++ (name, value) ∷ behind)
    → put_in_order name value copied ≡ copied ++ (name, value) ∷ []
unfolding IsStrictlySortedBy
put-last [] name value behind rising = refl
put-last (pair ∷ copied) name value behind rising =
    let below : slice_cmp nat_cmp pair.0 name ≡ Less = all_at (λ other. slice_cmp nat_cmp pair.0 other ≡ Less) copied (name, value) behind rising.0 in
    let above : slice_cmp nat_cmp name pair.0 ≡ Greater = nat_list_cmp_total.antisymm name pair.0 ∙ ap ordering_reverse below in
    rw above (ap (λ rest. pair ∷ rest) (put-last copied name value behind rising.1))

-- With one more attribute copied, what was copied still stands before what is left.
pub copied-more : (all copied more left : Texts) (name value : List ℕ) → IsCopiedBefore all copied ((name, value) ∷ left)
    → more ≡ put_in_order name value copied → IsCopiedBefore all more left
copied-more all copied more left name value before is =
    let last : more ≡ copied ++ (name, value) ∷ [] = is ∙ put-last copied name value left (subst InOrder (sym before.is) before.rising) in
    record {
      is = ap (λ (rows : Texts). rows ++ left) last ∙ append_assoc copied ((name, value) ∷ []) left ∙ before.is;
      rising = before.rising;
    }
