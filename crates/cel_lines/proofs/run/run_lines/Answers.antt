use Rattle.std.proofs.Common.{◌≡◌, ◌+◌, ◌++◌, ℕ, List, length, take, refl, sym, ◌∙◌, ap, subst, arith, length-append}
use Rattle.std.proofs.Math.Seq.{take-append_seam}
use Rattle.wif_base.specs.Carried.{Carried}
use Rattle.cel_lines.specs.Answers.{AppendsAnswer}
use Rattle.cel_lines.specs.Front.{IsAtFront}
use Rattle.cel_lines.specs.Lines.{HasNoFeed}
use Rattle.cel_lines.specs.declared.front.Front.{Front}
use Rattle.cel_lines.specs.declared.front.Front.TheVariants.{Line, Part, TooLong}
use Rattle.cel_lines.specs.declared.end.LinesEnd.TheVariants.{ReadFault, LineTooLong}
use Rattle.cel_lines.proofs.Runs.{starts, answered, wrote, read_on, kept, finished, past, wanting, broken_off, ended}
use Rattle.cel_lines.proofs.run.run_lines.Goals as goal

at_front : {buffer bytes : List ℕ} {front there : Front} → bytes ≡ buffer → front ≡ there → IsAtFront bytes front → IsAtFront buffer there
at_front {buffer} {bytes} {front} {there} same is fits = subst (λ (b : List ℕ). IsAtFront b there) same (subst (λ (f : Front). IsAtFront bytes f) is fits)

pub lines-init : goal.lines-init
lines-init g c = record {
  so_far = starts _ _ c.new-carry.result c.new-answers.result.items c.new-carry.ensures.unused c.new-carry.ensures.taken c.new-answers.ensures.items;
  within = omega (arith, c.new-carry.ensures.taken);
  looked = omega arith;
  clear = tt;
  source = omega arith;
  sink = omega arith;
  same_source = refl;
  same_sink = refl;
}

pub lines-preserved-in-Line : goal.lines-preserved-in-Line
lines-preserved-in-Line g c =
    let i = c.lines.invariant in
    let unused = c.lines.carry.unused in
    let size = c.in-Line.size in
    let front : IsAtFront unused (Line size) = at_front c.unused.ensures c.in-Line.is c.front_of.ensures in
    let line : c.split_at.result.0.now ≡ take size unused = c.split_at.ensures.front ∙ ap (λ (l : List ℕ). take size l) c.unused-in-Line.ensures in
    let appends : AppendsAnswer (take size unused) c.lines.answers.items c.push_answer.new.answers.items =
    subst (λ (l : List ℕ). AppendsAnswer l c.lines.answers.items c.push_answer.new.answers.items) line c.in_default.ensures in
    record {
      so_far = answered _ _ _ _ c.lines.carry c.use_up.new.self _ _ size i.so_far front.0 front.1 appends c.use_up.ensures.unused c.use_up.ensures.taken;
      within = omega (arith, i.within, c.use_up.ensures.taken);
      looked = omega arith;
      clear = tt;
      source = i.source;
      sink = i.sink;
      same_source = i.same_source;
      same_sink = i.same_sink;
    }

pub returns-in-Err-clause-run : goal.returns-in-Err-clause-run
returns-in-Err-clause-run g c = wanting _ _ _ _ c.lines.carry _ c.lines.invariant.so_far

pub returns-in-Err-write_out-clause-run : goal.returns-in-Err-write_out-clause-run
returns-in-Err-write_out-clause-run g c =
    let i = c.lines.invariant in
    let w = c.in-Err-write_out.ensures.written in
    broken_off _ _ _ _ _ c.lines.carry _ w.0 w.1.0 i.so_far i.within w.1.2 w.2

pub lines-preserved : goal.lines-preserved
lines-preserved g c =
    let i = c.lines.invariant in
    let front : IsAtFront c.lines.carry.unused Part = at_front c.unused.ensures c.in-Part.is c.front_of.ensures in
    let more = c.in-Some.ensures.more in
    let at_hand = c.in_default-write_out.ensures in
    let looked : length c.unused-looked.result.now ≡ length c.lines.carry.unused = ap length c.unused-looked.ensures in
    let seam : take (length c.unused-looked.result.now) c.take_more.new.self.unused ≡ c.lines.carry.unused =
    ap (λ (n : ℕ). take n c.take_more.new.self.unused) looked ∙ ap (λ (l : List ℕ). take (length c.lines.carry.unused) l) more.1.unused ∙ take-append_seam c.lines.carry.unused more.0 in
    record {
      so_far = read_on _ _ _ _ _ c.lines.carry c.take_more.new.self more.0 _
          (wrote _ _ _ _ _ c.lines.carry _ c.write_out.new.answers.items i.so_far at_hand.written at_hand.none_left) more.1.source more.1.unused more.1.taken;
      within = more.3;
      looked = omega (arith, looked, ap length more.1.unused, length-append c.lines.carry.unused more.0);
      clear = subst HasNoFeed (sym seam) front.0;
      source = omega (arith, i.source, c.in-Some.ensures.count);
      sink = omega (arith, i.sink, at_hand.count);
      same_source = c.in-Some.ensures.same ∙ i.same_source;
      same_sink = at_hand.same ∙ i.same_sink;
    }

pub returns-in-End-clause-run : goal.returns-in-End-clause-run
returns-in-End-clause-run g c =
    let i = c.lines.invariant in
    let front : IsAtFront c.lines.carry.unused Part = at_front c.unused.ensures c.in-Part.is c.front_of.ensures in
    let more = c.in-End.ensures.more in
    let at_hand = c.in_default-write_out.ensures in
    let same : c.take_more.new.self ≡ c.lines.carry = more.2 in
    let rest : c.unused-in-End.result.now ≡ c.lines.carry.unused = c.unused-in-End.ensures ∙ ap (λ (k : Carried). k.unused) same in
    ended _ _ _ _ _ c.lines.carry c.write_out.new.answers.items _
    (kept _ _ _ _ _ c.lines.carry _ (wrote _ _ _ _ _ c.lines.carry _ c.write_out.new.answers.items i.so_far at_hand.written at_hand.none_left) more.1)
    at_hand.none_left i.within front more.0 (rw rest at c.answer_last.ensures.last)

pub returns-in-Failed-clause-run : goal.returns-in-Failed-clause-run
returns-in-Failed-clause-run g c =
    let i = c.lines.invariant in
    let front : IsAtFront c.lines.carry.unused Part = at_front c.unused.ensures c.in-Part.is c.front_of.ensures in
    let more = c.in-Failed.ensures.more in
    let at_hand = c.in_default-write_out.ensures in
    let so_far = kept _ _ _ _ _ c.lines.carry _ (wrote _ _ _ _ _ c.lines.carry _ c.write_out.new.answers.items i.so_far at_hand.written at_hand.none_left) more.0 in
    finished _ _ _ _ c.lines.carry _ ReadFault so_far at_hand.none_left
    (λ all. ((c.lines.carry.unused, so_far.begins, front.0), omega (arith, so_far.size, i.within), all))

pub returns-in-Limit-clause-run : goal.returns-in-Limit-clause-run
returns-in-Limit-clause-run g c =
    let i = c.lines.invariant in
    let front : IsAtFront c.lines.carry.unused Part = at_front c.unused.ensures c.in-Part.is c.front_of.ensures in
    let more = c.in-Limit.ensures.more in
    let at_hand = c.in_default-write_out.ensures in
    let before = wrote _ _ _ _ _ c.lines.carry _ c.write_out.new.answers.items i.so_far at_hand.written at_hand.none_left in
    past _ _ _ _ _ c.lines.carry c.take_more.new.self c.write_out.new.answers.items more.1.0 before at_hand.none_left more.1.1.source more.1.1.taken more.0 front.0

pub returns-in-Memory-clause-run : goal.returns-in-Memory-clause-run
returns-in-Memory-clause-run g c =
    let i = c.lines.invariant in
    let more = c.in-Memory.ensures.more in
    let at_hand = c.in_default-write_out.ensures in
    let carry : Carried = record { unused = c.lines.carry.unused ++ more.0; taken = c.lines.carry.taken + length more.0 } in
    wanting _ _ _ _ carry _
    (read_on _ _ _ _ _ c.lines.carry carry more.0 _ (wrote _ _ _ _ _ c.lines.carry _ c.write_out.new.answers.items i.so_far at_hand.written at_hand.none_left) more.1 refl refl)

pub returns-in-Err-write_out-2-clause-run : goal.returns-in-Err-write_out-2-clause-run
returns-in-Err-write_out-2-clause-run g c =
    let i = c.lines.invariant in
    let w = c.in-Err-write_out-2.ensures.written in
    broken_off _ _ _ _ _ c.lines.carry _ w.0 w.1.0 i.so_far i.within w.1.2 w.2

pub returns-in-TooLong-clause-run : goal.returns-in-TooLong-clause-run
returns-in-TooLong-clause-run g c =
    let i = c.lines.invariant in
    let front : IsAtFront c.lines.carry.unused TooLong = at_front c.unused.ensures c.in-TooLong.is c.front_of.ensures in
    let at_hand = c.in_default-write_out-2.ensures in
    let so_far = wrote _ _ _ _ _ c.lines.carry _ c.write_out-in-TooLong.new.answers.items i.so_far at_hand.written at_hand.none_left in
    finished _ _ _ _ c.lines.carry _ LineTooLong so_far at_hand.none_left
    (λ all. ((c.lines.carry.unused, so_far.begins, front), omega (arith, so_far.size, i.within), all))
