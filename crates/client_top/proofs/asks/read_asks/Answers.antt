use Rattle.std.proofs.Common.{◌≡◌, ◌≢◌, ◌<◌, ◌^◌, [], ◌∷◌, ◌++◌, length, sym, subst, List, rules, arith}
use Rattle.client_top.specs.declared.asks.Ask.{Ask}
use Rattle.client_top.proofs.Asking.{SoFar, bad_line, read_on, too_many}
use Rattle.client_top.proofs.asks.read_asks.Goals as goal

pub returns-then-len-eq-MOST_ASKS-clause-form : goal.returns-then-len-eq-MOST_ASKS-clause-form
returns-then-len-eq-MOST_ASKS-clause-form c = λ is.
    let small : c.args.workers < 2 ^ 64 = omega arith in
    let some : c.lines.rest.now ≢ [] = search rules in
    let full : length c.lines.asks.items ≡ 100_000 = omega arith in
    too_many c.args.workers c.args.bytes.now c.lines.rest.now c.lines.asks.items small c.lines.invariant some full

pub returns-in-Ok-None-clause-form : goal.returns-in-Ok-None-clause-form
returns-in-Ok-None-clause-form c = λ is.
    let small : c.args.workers < 2 ^ 64 = omega arith in
    let some : c.lines.rest.now ≢ [] = search rules in
    let none = rw c.in-Ok-None.field-0-is at c.in-Ok-None.ensures in
    bad_line c.args.workers c.args.bytes.now c.lines.rest.now c.lines.asks.items small c.lines.invariant some
    c.front_line.result.0.now c.front_line.result.1.now c.front_line.ensures none

pub lines-preserved : goal.lines-preserved
lines-preserved c =
    let some : c.lines.rest.now ≢ [] = search rules in
    let room : length c.lines.asks.items ≢ 100_000 = omega arith in
    let ask = rw c.in-Ok-Some.field-0-is at c.in-Ok-Some.ensures in
    let pushed : c.push.new.self.items ≡ c.lines.asks.items ++ (c.in-Ok-Some.ask ∷ []) = search rules in
    subst (λ (asks : List Ask). SoFar c.args.workers c.args.bytes.now c.front_line.result.1.now asks) (sym pushed)
    (read_on c.args.workers c.args.bytes.now c.lines.rest.now c.lines.asks.items c.front_line.result.0.now c.front_line.result.1.now c.in-Ok-Some.ask
    c.lines.invariant some room c.front_line.ensures ask.0 ask.1)
