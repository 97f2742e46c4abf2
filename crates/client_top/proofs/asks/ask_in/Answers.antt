use Rattle.std.proofs.Common.{◌<◌, ◌^◌, sym, subst, arith}
use Rattle.std.specs.Prelude.{IsUtf8}
use Rattle.std.proofs.lemmas.Str.{IsUtf8-from_ascii}
use Rattle.client_top.specs.Asks.{ask_text}
use Rattle.client_top.proofs.Asking.{ask_ascii}
use Rattle.client_top.proofs.asks.ask_in.Goals as goal

pub returns-in-Err : goal.returns-in-Err
returns-in-Err c = λ ask is same.
    let small : c.args.workers < 2 ^ 64 = omega arith in
    c.in-Err.ensures.cases.0 (subst IsUtf8 (sym same) (IsUtf8-from_ascii (ask_text ask) (ask_ascii c.args.workers small ask is)))
