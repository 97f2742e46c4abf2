use Rattle.std.proofs.Common.{◌≡◌, ℕ, length, take, get_or, sym, ◌∙◌, ap, arith, ◌==◌, true}
use Rattle.std.proofs.lemmas.Bool.Decides.{nat_tests}
use Rattle.std.proofs.lemmas.List.{take_all}
use Rattle.std.proofs.lemmas.List.Sums.{position_or_len_is}
use Rattle.http_front.proofs.fields.before_parameters.Goals as goal

pub returns-then-byte-eq59 : goal.returns-then-byte-eq59
returns-then-byte-eq59 c =
    let here : (get_or c.args.value.now c.loop-index.index 0 == 59) ≡ true = grind (arith, nat_tests) in
    c.split_at.ensures.front
    ∙ ap (λ (n : ℕ). take n c.args.value.now) (sym (position_or_len_is (λ b. b == 59) c.args.value.now c.loop-index.index 0 (omega arith) c.loop-index.invariant (λ less. here)))

pub returns : goal.returns
returns c =
    sym (take_all (length c.args.value.now) c.args.value.now (omega arith))
    ∙ ap (λ (n : ℕ). take n c.args.value.now) (sym (position_or_len_is (λ b. b == 59) c.args.value.now (length c.args.value.now) 0 (omega arith) (λ k less. c.loop-index.invariant k (omega arith)) (λ less. absurd (omega arith))))
