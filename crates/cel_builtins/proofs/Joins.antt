-- Texts that are joined, one after another.
use Rattle.std.proofs.Common.{◌≡◌, ◌<◌, ◌≤◌, ◌+◌, ℕ, zero, suc, nat_le, false, List, [], ◌∷◌, ◌++◌, length, take, get_or, Ok, Err, subst, if◌then◌else◌, refl, sym, ap, ◌∙◌, arith, add-one, length-append, append_assoc}
use Rattle.std.proofs.lemmas.List.{append-nil}
use Rattle.std.specs.List.{flat_map}
use Rattle.std.proofs.lemmas.Bool.{lt-leb}
use Rattle.cel_values.specs.declared.error.EvalError.TheVariants.{TooLong}
use Rattle.cel_values.specs.declared.value.Value.TheVariants as variant
use Rattle.cel_values.specs.declared.value.Value.TheVariants.{rolls-Text}
use Rattle.cel_values.specs.declared.value.Value.TheFolds.{fold-roll-Value}
use Rattle.cel_values.specs.declared.value.Value.TheOpen.{Value-F}
use Rattle.cel_values.specs.Weight.{weight, weight_step, entry_weight_step}
use Rattle.cel_builtins.specs.Outcomes.{weighed}
use Rattle.cel_builtins.specs.Texts.{joined}

abbrev behind : List ℕ → List (List ℕ) → List ℕ
behind sep ts = flat_map (λ t. sep ++ t) ts

behind_take : (sep : List ℕ) (ts : List (List ℕ)) (i : ℕ) (d : List ℕ) → i < length ts → behind sep (take (suc i) ts) ≡ behind sep (take i ts) ++ (sep ++ get_or ts i d)
behind_take sep [] i d h = absurd (omega (arith, h))
behind_take sep (t ∷ ts) zero d h = append-nil (sep ++ t)
behind_take sep (t ∷ ts) (suc i) d h = ap (λ x. (sep ++ t) ++ x) (behind_take sep ts i d (omega (arith, h))) ∙ sym (append_assoc (sep ++ t) (behind sep (take i ts)) (sep ++ get_or ts i d))

-- the first text, and a text behind others
pub joined_first : (sep : List ℕ) (ts : List (List ℕ)) (d : List ℕ) → 0 < length ts → joined sep (take 1 ts) ≡ get_or ts 0 d
joined_first sep [] d h = absurd (omega (arith, h))
joined_first sep (t ∷ ts) d h = append-nil t

pub joined_next : (sep : List ℕ) (ts : List (List ℕ)) (i : ℕ) (d : List ℕ) → 0 < i → i < length ts → joined sep (take (i + 1) ts) ≡ (joined sep (take i ts) ++ sep) ++ get_or ts i d
joined_next sep [] i d some h = absurd (omega (arith, h))
joined_next sep (t ∷ ts) zero d some h = absurd (omega (arith, some))
joined_next sep (t ∷ ts) (suc i) d some h =
    ap (λ k. joined sep (take k (t ∷ ts))) (add-one (suc i)) ∙ ap (λ x. t ++ x) (behind_take sep ts i d (omega (arith, h)))
    ∙ sym (append_assoc t (behind sep (take i ts)) (sep ++ get_or ts i d))
    ∙ sym (append_assoc (t ++ behind sep (take i ts)) sep (get_or ts i d))

pub joined_step : (sep : List ℕ) (ts : List (List ℕ)) (i : ℕ) (d before all : List ℕ) → i < length ts → before ≡ joined sep (take i ts) → (0 < i → all ≡ before ++ sep) → (i ≡ 0 → all ≡ before) → all ++ get_or ts i d ≡ joined sep (take (i + 1) ts)
joined_step sep ts zero d before all h is more none = ap (λ x. x ++ get_or ts 0 d) (none refl ∙ is) ∙ sym (joined_first sep ts d h)
joined_step sep ts (suc i) d before all h is more none =
    ap (λ x. x ++ get_or ts (suc i) d) (more (omega arith) ∙ ap (λ x. x ++ sep) is) ∙ sym (joined_next sep ts (suc i) d (omega arith) h)

behind_longer : (sep : List ℕ) (ts : List (List ℕ)) (i : ℕ) → length (behind sep (take i ts)) ≤ length (behind sep ts)
behind_longer sep [] zero = omega arith
behind_longer sep [] (suc i) = omega arith
behind_longer sep (t ∷ ts) zero = omega arith
behind_longer sep (t ∷ ts) (suc i) = omega (arith, length-append (sep ++ t) (behind sep (take i ts)), length-append (sep ++ t) (behind sep ts), behind_longer sep ts i)

joined_longer : (sep : List ℕ) (ts : List (List ℕ)) (i : ℕ) → length (joined sep (take i ts)) ≤ length (joined sep ts)
joined_longer sep [] zero = omega arith
joined_longer sep [] (suc i) = omega arith
joined_longer sep (t ∷ ts) zero = omega arith
joined_longer sep (t ∷ ts) (suc i) = omega (arith, length-append t (behind sep (take i ts)), length-append t (behind sep ts), behind_longer sep ts i)

weight_text : (t : List ℕ) → weight (variant.Text t) ≡ 1 + length t
weight_text t = ap weight (sym (rolls-Text t)) ∙ fold-roll-Value ℕ ℕ weight_step entry_weight_step (Value-F.Text t)

pub too_long : (sep : List ℕ) (ts : List (List ℕ)) (i : ℕ) → 65536 ≤ length (joined sep (take i ts)) → weighed (variant.Text (joined sep ts)) ≡ Err TooLong
too_long sep ts i h =
    let long : 65536 < 1 + length (joined sep ts) = omega (arith, h, joined_longer sep ts i) in
    let heavy : 65536 < weight (variant.Text (joined sep ts)) = subst (λ w. 65536 < w) (sym (weight_text (joined sep ts))) long in
    let e : nat_le (weight (variant.Text (joined sep ts))) 65536 ≡ false = lt-leb (weight (variant.Text (joined sep ts))) 65536 heavy in
    ap (λ b. if b then Ok (variant.Text (joined sep ts)) else Err TooLong) e
