-- Rules that are read one after another, and how many there are.
use Rattle.std.proofs.Common.{◌≡◌, ℕ, ◌<◌, ◌≤◌, true, false, nat_lt, nat_le, List, ◌++◌, length, Result, Ok, Err, refl, ap, ◌∙◌, arith}
use Rattle.std.proofs.lemmas.Bool.Decides.{nat_tests}
use Rattle.serde_json.specs.Data.{Items}
use Rattle.serde_json.specs.View.{items_view}
use Rattle.serde_json.specs.declared.value.Value.{Value}
use Rattle.base_types.specs.Steps.{◌>>=◌}
use Rattle.json_text.specs.Arrays.{count}
use Rattle.json_text.proofs.ShortArrays.{count_view}
use Rattle.boundary.specs.declared.rules.Rule.{Rule}
use Rattle.boundary.specs.declared.rules.Boundary.{Boundary}
use Rattle.boundary.specs.declared.fault.BoundaryCause.TheVariants.{TooMany}
use Rattle.boundary.specs.declared.fault.BoundaryError.{BoundaryError}
use Rattle.boundary.specs.declared.fault.BoundaryError.TheVariants.{Fault, Memory}
use Rattle.boundary.specs.Answers.{Refuses}
use Rattle.boundary.specs.Boundaries.{Refusal, refusal, rules_from, boundary_in}

-- rules in front of those that are read
abbrev pub behind : List Rule → Result (List Rule) Refusal → Result (List Rule) Refusal
behind rules more = more >>= (λ later. Ok (rules ++ later))

-- the boundary of rules that are read
abbrev pub of_rules : Result (List Rule) Refusal → Result Boundary Refusal
of_rules read = read >>= (λ rules. Ok (record { rules = rules }))

many : (items : Items) → nat_lt 0 (count items) ≡ true → nat_le (count items) 10 ≡ false → boundary_in items ≡ Err (refusal 10 TooMany)
unfolding boundary_in
many items some over = rw (some, over) refl

few : (items : Items) → nat_lt 0 (count items) ≡ true → nat_le (count items) 10 ≡ true → boundary_in items ≡ of_rules (rules_from 0 items)
unfolding boundary_in
few items some within = rw (some, within) refl

above : (n : ℕ) → 0 < n → nat_lt 0 n ≡ true
above n h = grind (arith, nat_tests)

over : (n : ℕ) → 10 < n → nat_le n 10 ≡ false
over n h = grind (arith, nat_tests)

within : (n : ℕ) → n ≤ 10 → nat_le n 10 ≡ true
within n h = grind (arith, nat_tests)

pub many-items : (items : List Value) → 10 < length items → boundary_in (items_view items) ≡ Err (refusal 10 TooMany)
many-items items h = many (items_view items) (rw (count_view items) (above (length items) (omega arith))) (rw (count_view items) (over (length items) h))

pub few-items : (items : List Value) → 0 < length items → length items ≤ 10 → boundary_in (items_view items) ≡ of_rules (rules_from 0 (items_view items))
few-items items some h = few (items_view items) (rw (count_view items) (above (length items) some)) (rw (count_view items) (within (length items) h))

pub some-read : (items : List Value) (rules : List Rule) → 0 < length items → length items ≤ 10 → rules_from 0 (items_view items) ≡ Ok rules
    → boundary_in (items_view items) ≡ Ok (record { rules = rules })
some-read items rules some h read = few-items items some h ∙ ap of_rules read

-- what refuses the rules refuses the boundary
pub refuses-rules : (error : BoundaryError) (read : Result (List Rule) Refusal) → Refuses error read → Refuses error (of_rules read)
refuses-rules (Fault rule cause) read h = rw h refl
refuses-rules Memory read h = tt
