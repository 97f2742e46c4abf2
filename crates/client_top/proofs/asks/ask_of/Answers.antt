use Rattle.std.proofs.Common.{◌<◌, ◌≤◌, ◌^◌, arith}
use Rattle.std.specs.Prelude.{None, Some}
use Rattle.std.proofs.lemmas.Str.Pattern.{split_parts}
use Rattle.client_top.proofs.Asking.{ask_cut, as_read, is_read, joined}
use Rattle.client_top.proofs.asks.ask_of.Goals as goal

pub returns-in_default : goal.returns-in_default
returns-in_default c = λ ask is same.
    let small : c.args.workers < 2 ^ 64 = omega arith in
    ask_cut c.args.workers small c.args.text.now None c.in_default.ensures.cases ask is same

pub returns-in_default-worker : goal.returns-in_default-worker
returns-in_default-worker c = λ ask is same.
    let small : c.args.workers < 2 ^ 64 = omega arith in
    let cut = ask_cut c.args.workers small c.args.text.now (Some (c.in-Some.worker, c.in-Some.moment)) c.in-Some.ensures.cases ask is same in
    let within : ask.worker ≤ c.from.result = omega (arith, is.worker, c.from.ensures) in
    let low : ask.worker < 2 ^ 64 = omega (arith, is.worker) in
    let read = is_read c.from.result ask.worker c.in-Some.worker.now c.in_ok-worker.worker c.in_ok-worker.ensures cut.0 within low in
    cc (read, c.in_default-worker.is)

pub returns-in_default-moment : goal.returns-in_default-moment
returns-in_default-moment c = λ ask is same.
    let small : c.args.workers < 2 ^ 64 = omega arith in
    let cut = ask_cut c.args.workers small c.args.text.now (Some (c.in-Some.worker, c.in-Some.moment)) c.in-Some.ensures.cases ask is same in
    let low : ask.moment < 2 ^ 64 = omega (arith, is.moment) in
    let read = is_read 200_000_000_000 ask.moment c.in-Some.moment.now c.in_ok-moment.moment c.in_ok-moment.ensures cut.1 is.moment low in
    cc (read, c.in_default-moment.is)

pub overflow_cast-result : goal.overflow_cast-result
overflow_cast-result c =
    let worker = as_read c.from.result c.in-Some-worker.worker c.in-Some.worker.now c.in_ok-worker.worker c.in_ok-worker.ensures c.in-Some-worker.is in
    let within = worker.0 in
    omega (arith, within, c.from.ensures)

pub returns : goal.returns
returns c =
    let worker = as_read c.from.result c.in-Some-worker.worker c.in-Some.worker.now c.in_ok-worker.worker c.in_ok-worker.ensures c.in-Some-worker.is in
    let moment = as_read 200_000_000_000 c.in-Some-moment.moment c.in-Some.moment.now c.in_ok-moment.moment c.in_ok-moment.ensures c.in-Some-moment.is in
    let parts = split_parts 32 c.args.text.now (Some (c.in-Some.worker, c.in-Some.moment)) c.in-Some.ensures.cases (omega arith) in (
      record { worker = omega (arith, worker.0, c.from.ensures, c.requires); moment = moment.0 },
      joined c.args.text.now c.in-Some.worker.now c.in-Some.moment.now _ _ parts.0 worker.1 moment.1,
    )
