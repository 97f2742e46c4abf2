use Rattle.std.proofs.Common.{arith}
use Rattle.shared_renewer.specs.Turns.{OnlyLooked, SeatState}
use Rattle.shared_renewer.specs.Views.{looked}
use Rattle.shared_renewer.proofs.Serving.{begun_at, looked_err, looked_lost, looked_ok, looked_steps, passed_over, through, took_has}
use Rattle.shared_renewer.proofs.Stepping.{is_ready, within_same}
use Rattle.shared_renewer.proofs.looking.try_look.Goals as goal

pub finish_look-requires-clause-client : goal.finish_look-requires-clause-client
finish_look-requires-clause-client g c =
    let i = c.requires.idle in
    let t = c.in-Ok.ensures.gained in
    (t.client, is_ready _ _ c.in-Ok.field-0 (looked c.in-Ok.field-0 c.args.seat.now.me.0, c.args.seat.now.me.1) c.try_turn.new.seat.me t i.2 i.1)

pub returns-in-Ok-clause-idle : goal.returns-in-Ok-clause-idle
returns-in-Ok-clause-idle g c =
    let k = g.L.Link in
    let i = c.requires.idle in
    let t = c.in-Ok.ensures.gained in
    let m = c.args.seat.now.me in
    let word = c.in-Ok.field-0 in
    let m1 : SeatState g.row.L.Denot = (looked word m.0, m.1) in
    let look : OnlyLooked m m1 = begun_at word m in
    let l = c.finish_look.ensures.looked t.client (is_ready _ _ word m1 c.try_turn.new.seat.me t i.2 i.1) in
    let has = took_has k.faults k.calls k.lender word m1 c.try_turn.new.seat.me t in
    (through k.faults k.calls k.lender word m m1 c.try_turn.new.seat.me c.finish_look.new.seat.me _ t.client i.1 look t has (within_same _) l.now).idle

pub returns-in-Ok-clause-keeps : goal.returns-in-Ok-clause-keeps
returns-in-Ok-clause-keeps g c =
    let k = g.L.Link in
    let i = c.requires.idle in
    let t = c.in-Ok.ensures.gained in
    let m = c.args.seat.now.me in
    let word = c.in-Ok.field-0 in
    let m1 : SeatState g.row.L.Denot = (looked word m.0, m.1) in
    let look : OnlyLooked m m1 = begun_at word m in
    let l = c.finish_look.ensures.looked t.client (is_ready _ _ word m1 c.try_turn.new.seat.me t i.2 i.1) in
    let has = took_has k.faults k.calls k.lender word m1 c.try_turn.new.seat.me t in
    (through k.faults k.calls k.lender word m m1 c.try_turn.new.seat.me c.finish_look.new.seat.me _ t.client i.1 look t has (within_same _) l.now).keeps

pub returns-in-Ok-clause-rises : goal.returns-in-Ok-clause-rises
returns-in-Ok-clause-rises g c =
    let k = g.L.Link in
    let i = c.requires.idle in
    let t = c.in-Ok.ensures.gained in
    let m = c.args.seat.now.me in
    let word = c.in-Ok.field-0 in
    let m1 : SeatState g.row.L.Denot = (looked word m.0, m.1) in
    let look : OnlyLooked m m1 = begun_at word m in
    let l = c.finish_look.ensures.looked t.client (is_ready _ _ word m1 c.try_turn.new.seat.me t i.2 i.1) in
    let has = took_has k.faults k.calls k.lender word m1 c.try_turn.new.seat.me t in
    (through k.faults k.calls k.lender word m m1 c.try_turn.new.seat.me c.finish_look.new.seat.me _ t.client i.1 look t has (within_same _) l.now).rises

pub returns-in-Ok-clause-lost : goal.returns-in-Ok-clause-lost
returns-in-Ok-clause-lost g c =
    let k = g.L.Link in
    let i = c.requires.idle in
    let t = c.in-Ok.ensures.gained in
    let m = c.args.seat.now.me in
    let word = c.in-Ok.field-0 in
    let m1 : SeatState g.row.L.Denot = (looked word m.0, m.1) in
    let look : OnlyLooked m m1 = begun_at word m in
    let l = c.finish_look.ensures.looked t.client (is_ready _ _ word m1 c.try_turn.new.seat.me t i.2 i.1) in
    let has = took_has k.faults k.calls k.lender word m1 c.try_turn.new.seat.me t in
    looked_lost k.faults k.calls k.lender word m m1 c.try_turn.new.seat.me c.finish_look.new.seat.me c.finish_look.result look t l

pub returns-in-Ok-clause-looks : goal.returns-in-Ok-clause-looks
returns-in-Ok-clause-looks g c =
    let k = g.L.Link in
    let i = c.requires.idle in
    let t = c.in-Ok.ensures.gained in
    let m = c.args.seat.now.me in
    let word = c.in-Ok.field-0 in
    let m1 : SeatState g.row.L.Denot = (looked word m.0, m.1) in
    let look : OnlyLooked m m1 = begun_at word m in
    let l = c.finish_look.ensures.looked t.client (is_ready _ _ word m1 c.try_turn.new.seat.me t i.2 i.1) in
    let has = took_has k.faults k.calls k.lender word m1 c.try_turn.new.seat.me t in
    omega (arith, looked_steps k.faults k.calls k.lender word m m1 c.try_turn.new.seat.me c.finish_look.new.seat.me c.finish_look.result look t l)

pub returns-in-Ok-clause-seen : goal.returns-in-Ok-clause-seen
returns-in-Ok-clause-seen g c =
    let k = g.L.Link in
    let i = c.requires.idle in
    let t = c.in-Ok.ensures.gained in
    let m = c.args.seat.now.me in
    let word = c.in-Ok.field-0 in
    let m1 : SeatState g.row.L.Denot = (looked word m.0, m.1) in
    let look : OnlyLooked m m1 = begun_at word m in
    let l = c.finish_look.ensures.looked t.client (is_ready _ _ word m1 c.try_turn.new.seat.me t i.2 i.1) in
    let has = took_has k.faults k.calls k.lender word m1 c.try_turn.new.seat.me t in
    looked_ok k.faults k.calls k.lender word m m1 c.try_turn.new.seat.me c.finish_look.new.seat.me c.finish_look.result look t has l

pub returns-in-Ok-clause-unseen : goal.returns-in-Ok-clause-unseen
returns-in-Ok-clause-unseen g c =
    let k = g.L.Link in
    let i = c.requires.idle in
    let t = c.in-Ok.ensures.gained in
    let m = c.args.seat.now.me in
    let word = c.in-Ok.field-0 in
    let m1 : SeatState g.row.L.Denot = (looked word m.0, m.1) in
    let look : OnlyLooked m m1 = begun_at word m in
    let l = c.finish_look.ensures.looked t.client (is_ready _ _ word m1 c.try_turn.new.seat.me t i.2 i.1) in
    let has = took_has k.faults k.calls k.lender word m1 c.try_turn.new.seat.me t in
    looked_err k.faults k.calls k.lender word m m1 c.try_turn.new.seat.me c.finish_look.new.seat.me c.finish_look.result look t l

pub returns-in-Err-clause-idle : goal.returns-in-Err-clause-idle
returns-in-Err-clause-idle g c = (passed_over c.in-Err.word c.args.seat.now.me c.try_turn.new.seat.me c.requires.idle c.in-Err.ensures.missed).idle

pub returns-in-Err-clause-keeps : goal.returns-in-Err-clause-keeps
returns-in-Err-clause-keeps g c = (passed_over c.in-Err.word c.args.seat.now.me c.try_turn.new.seat.me c.requires.idle c.in-Err.ensures.missed).keeps

pub returns-in-Err-clause-rises : goal.returns-in-Err-clause-rises
returns-in-Err-clause-rises g c = (passed_over c.in-Err.word c.args.seat.now.me c.try_turn.new.seat.me c.requires.idle c.in-Err.ensures.missed).rises

pub returns-in-Err-clause-lost : goal.returns-in-Err-clause-lost
returns-in-Err-clause-lost g c = (passed_over c.in-Err.word c.args.seat.now.me c.try_turn.new.seat.me c.requires.idle c.in-Err.ensures.missed).lost

pub returns-in-Err-clause-looks : goal.returns-in-Err-clause-looks
returns-in-Err-clause-looks g c = (passed_over c.in-Err.word c.args.seat.now.me c.try_turn.new.seat.me c.requires.idle c.in-Err.ensures.missed).looks

pub returns-in-Err-clause-unseen : goal.returns-in-Err-clause-unseen
returns-in-Err-clause-unseen g c = (passed_over c.in-Err.word c.args.seat.now.me c.try_turn.new.seat.me c.requires.idle c.in-Err.ensures.missed).leaves
