use Rattle.std.proofs.Common.{◌≡◌, ◌≢◌, ◌≤◌, ◌<◌, ℕ, ◌++◌, List, [], take, drop, length, inl, inr, refl, sym, ◌∙◌, ap, arith}
use Rattle.std.proofs.Math.ListN.{take-append-drop}
use Rattle.std.specs.Result.{IfOk}
use Rattle.std.specs.Prelude.{Result, Ok, Err}
use Rattle.http_front.specs.Halves.{IsFoundHead, IsJudged}
use Rattle.http_front.specs.declared.head.FoundHead.{FoundHead}
use Rattle.http_front.proofs.HeadTexts.{no_head, too_long, overflows, judged_whole, no_head_in_none}
use Rattle.http_front.proofs.head.find_head.Goals as goal

whole : (bytes front back : List ℕ) (size : ℕ) → front ≡ take size bytes → back ≡ drop size bytes → bytes ≡ front ++ back
whole bytes front back size first second = sym (take-append-drop size bytes) ∙ ap (λ (l : List ℕ). l ++ drop size bytes) (sym first) ∙ ap (λ (l : List ℕ). front ++ l) (sym second)

some : (bytes : List ℕ) → length bytes ≢ 0 → bytes ≢ []
some bytes not none = not (ap length none)

judged : {E : Type 0} (bytes tried more : List ℕ) → bytes ≡ tried ++ more → bytes ≢ [] → (r : Result FoundHead E) → IfOk r (IsJudged tried) → IfOk r (IsFoundHead bytes)
judged bytes tried more cut some (Ok found) is = judged_whole bytes tried more cut some found is
judged bytes tried more cut some (Err e) is = tt

limited : (size bytes : ℕ) → (16384 ≤ bytes → size ≡ 16384) → size ≢ 16384 → bytes < 16384
limited size bytes full not = grind arith

pub returns-then-is_empty : goal.returns-then-is_empty
returns-then-is_empty c = let none : length c.args.bytes.now ≡ 0 = grind arith in (no_head_in_none c.args.bytes.now none, omega arith)

pub returns-in-Ok-Complete : goal.returns-in-Ok-Complete
returns-in-Ok-Complete c =
    let not : length c.args.bytes.now ≢ 0 = grind arith in
    judged c.args.bytes.now c.split_at.result.0.now c.split_at.result.1.now (whole _ _ _ _ c.split_at.ensures.front c.split_at.ensures.back) (some _ not) c.judge.result c.judge.ensures

pub returns-then-size-eq-LONGEST_HEAD : goal.returns-then-size-eq-LONGEST_HEAD
returns-then-size-eq-LONGEST_HEAD c =
    let not : length c.args.bytes.now ≢ 0 = grind arith in
    let sized : length c.split_at.result.0.now ≡ 16384 = omega arith in
    let partial = rw c.in-Ok-Partial.field-0-is at c.in-Ok-Partial.ensures.partial in
    (some _ not, inl (too_long c.args.bytes.now c.split_at.result.0.now c.split_at.result.1.now (whole _ _ _ _ c.split_at.ensures.front c.split_at.ensures.back) sized partial, inr refl))

pub returns-else-size-eq-LONGEST_HEAD : goal.returns-else-size-eq-LONGEST_HEAD
returns-else-size-eq-LONGEST_HEAD c =
    let short : length c.args.bytes.now < 16384 = limited c.tried_size-size.result _ c.tried_size-size.ensures.full (omega arith) in
    let partial = rw c.in-Ok-Partial.field-0-is at c.in-Ok-Partial.ensures.partial in
    (no_head c.args.bytes.now c.split_at.result.0.now c.split_at.result.1.now c.tried_size-size.result (c.tried_size-size.ensures.lines short) (whole _ _ _ _ c.split_at.ensures.front c.split_at.ensures.back) c.split_at.ensures.front_len partial, short)

pub returns-in-Err-TooManyHeaders : goal.returns-in-Err-TooManyHeaders
returns-in-Err-TooManyHeaders c =
    let not : length c.args.bytes.now ≢ 0 = grind arith in
    (some _ not, inl (overflows c.args.bytes.now c.split_at.result.0.now c.split_at.result.1.now (whole _ _ _ _ c.split_at.ensures.front c.split_at.ensures.back) c.in-Err-TooManyHeaders.ensures.no_room, inr refl))

pub returns-in-Err : goal.returns-in-Err
returns-in-Err c =
    let not : length c.args.bytes.now ≢ 0 = grind arith in
    (some _ not, inl (overflows c.args.bytes.now c.split_at.result.0.now c.split_at.result.1.now (whole _ _ _ _ c.split_at.ensures.front c.split_at.ensures.back) c.in-Err.ensures.no_room, inl refl))
