use Rattle.std.proofs.Common.{◌≡◌, ◌+◌, ◌++◌, [], ◌∷◌, ℕ, List, length, drop, inl, refl, sym, ◌∙◌, ap, subst, arith, length-append}
use Rattle.std.proofs.lemmas.List.{append-nil}
use Rattle.wif_base.specs.Carried.{Carried}
use Rattle.sts_serve.specs.Frames.{frame_text, NoFrame}
use Rattle.sts_serve.specs.Found.{IsFound}
use Rattle.sts_serve.specs.declared.frame.Found.{Found}
use Rattle.sts_serve.specs.declared.frame.Found.TheVariants.{Whole, Part, Never}
use Rattle.sts_serve.proofs.Runs.{begins, answered_found, broken_found, went_on, stayed, finished, ended, some_frame}
use Rattle.sts_serve.proofs.script.run_script.Goals as goal

part_none : {bytes : List ℕ} → IsFound bytes Part → NoFrame bytes
part_none is = is.0

at_front : {buffer bytes : List ℕ} {found there : Found} → bytes ≡ buffer → found ≡ there → IsFound bytes found → IsFound buffer there
at_front {buffer} {bytes} {found} {there} same is fits = subst (λ (b : List ℕ). IsFound b there) same (subst (λ (f : Found). IsFound bytes f) is fits)

pub frames-init : goal.frames-init
frames-init g c = record {
  run = λ config journal stands. begins _ _ _ _ _ _ stands c.new-carry.ensures.unused c.new-carry.ensures.taken;
  broken = λ is. is;
  within = omega (arith, c.new-carry.ensures.taken);
  place = omega (arith, ap length c.new-carry.ensures.unused, c.new-carry.ensures.taken);
  source = omega arith;
  sink = omega arith;
  disk = omega arith;
  same_source = refl;
  same_sink = refl;
  same_disk = refl;
}

-- what is used of the bytes read is a part of them
pub overflow_add-used : goal.overflow_add-used
overflow_add-used g c =
    let i = c.frames.invariant in
    let w = c.in-Ok-Whole in
    let found : IsFound c.frames.carry.unused (Whole w.frame w.size) = at_front c.unused.ensures w.field-0-is w.ensures in
    omega (arith, i.place, i.within, found.1, ap length found.2, length-append (frame_text w.frame) (drop w.size c.frames.carry.unused))

pub returns-in-Err-answer_frame-clause-run : goal.returns-in-Err-answer_frame-clause-run
returns-in-Err-answer_frame-clause-run g c = λ config journal stands.
    let i = c.frames.invariant in
    let w = c.in-Ok-Whole in
    let found : IsFound c.frames.carry.unused (Whole w.frame w.size) = at_front c.unused.ensures w.field-0-is w.ensures in
    let run = i.run config journal stands in
    let went = c.in-Err-answer_frame.ensures.answers config run.now run.stands in
    broken_found _ _ _ _ _ _ _ went.0 _ _ _ c.frames.carry _ w.size w.frame _ run i.within found c.in-Err-answer_frame.ensures.ends went.1 went.2
    (c.in-Err-answer_frame.ensures.any_moment config run.now run.stands)

pub frames-smaller-in-Ok-Whole : goal.frames-smaller-in-Ok-Whole
frames-smaller-in-Ok-Whole g c =
    let w = c.in-Ok-Whole in
    let found : IsFound c.frames.carry.unused (Whole w.frame w.size) = at_front c.unused.ensures w.field-0-is w.ensures in
    omega (arith, some_frame w.frame, found.1, ap length found.2, ap length c.use_up.ensures.unused, c.use_up.ensures.taken, length-append (frame_text w.frame) (drop w.size c.frames.carry.unused))

pub frames-preserved-in-Ok-Whole : goal.frames-preserved-in-Ok-Whole
frames-preserved-in-Ok-Whole g c =
    let i = c.frames.invariant in
    let w = c.in-Ok-Whole in
    let found : IsFound c.frames.carry.unused (Whole w.frame w.size) = at_front c.unused.ensures w.field-0-is w.ensures in
    record {
      run = λ config journal stands.
          let run = i.run config journal stands in
          let went = c.in_default.ensures.answers config run.now run.stands in
          answered_found _ _ _ _ _ _ _ went.0 _ _ _ c.frames.carry c.use_up.new.self _ w.size w.frame run found c.use_up.ensures.unused c.use_up.ensures.taken went.1 went.2
          (c.answer_frame.ensures.any_moment config run.now run.stands);
      broken = λ is. c.in_default.ensures.whole ∙ i.broken is;
      within = omega (arith, i.within, c.use_up.ensures.taken);
      place = omega (arith, i.place, found.1, ap length found.2, ap length c.use_up.ensures.unused, c.use_up.ensures.taken, length-append (frame_text w.frame) (drop w.size c.frames.carry.unused));
      source = i.source;
      sink = omega (arith, i.sink, c.answer_frame.ensures.count.0);
      disk = omega (arith, i.disk, c.answer_frame.ensures.count.1);
      same_source = i.same_source;
      same_sink = c.answer_frame.ensures.same.0 ∙ i.same_sink;
      same_disk = c.answer_frame.ensures.same.1 ∙ i.same_disk;
    }

pub frames-preserved : goal.frames-preserved
frames-preserved g c =
    let i = c.frames.invariant in
    let more = c.in-Some.ensures.more in
    record {
      run = λ config journal stands.
          went_on _ _ _ _ _ _ _ _ _ c.frames.carry c.take_more.new.self more.0 _ (i.run config journal stands) more.1.source more.1.unused more.1.taken;
      broken = i.broken;
      within = more.3;
      place = omega (arith, i.place, ap length more.1.unused, more.1.taken, length-append c.frames.carry.unused more.0);
      source = omega (arith, i.source, c.in-Some.ensures.count);
      sink = i.sink;
      disk = i.disk;
      same_source = c.in-Some.ensures.same ∙ i.same_source;
      same_sink = i.same_sink;
      same_disk = i.same_disk;
    }

pub returns-in-End-clause-run : goal.returns-in-End-clause-run
returns-in-End-clause-run g c = λ config journal stands.
    let i = c.frames.invariant in
    let more = c.in-End.ensures.more in
    let none_here : NoFrame c.frames.carry.unused = part_none (at_front c.unused.ensures c.in-Ok-Part.field-0-is c.in-Ok-Part.ensures) in
    let same : c.take_more.new.self ≡ c.frames.carry = more.2 in
    ended _ _ _ _ _ _ _ _ c.frames.carry _ _ (stayed _ _ _ _ _ _ _ _ _ c.frames.carry _ (i.run config journal stands) more.1)
    i.within none_here more.0
    (λ none. c.at_end.ensures.done (ap (λ (k : Carried). k.unused) same ∙ none)) (λ some. c.at_end.ensures.malformed (λ none. some (sym (ap (λ (k : Carried). k.unused) same) ∙ none)))

pub returns-in-Failed-clause-run : goal.returns-in-Failed-clause-run
returns-in-Failed-clause-run g c = λ config journal stands.
    let i = c.frames.invariant in
    let more = c.in-Failed.ensures.more in
    let none_here : NoFrame c.frames.carry.unused = part_none (at_front c.unused.ensures c.in-Ok-Part.field-0-is c.in-Ok-Part.ensures) in
    let run = stayed _ _ _ _ _ _ _ _ _ c.frames.carry _ (i.run config journal stands) more.0 in
    finished _ _ _ _ _ _ _ _ c.frames.carry _ _ run (λ journal next stands. stands) (none_here, refl, omega (arith, run.so_far.size, i.within))

pub returns-in-Limit-clause-run : goal.returns-in-Limit-clause-run
returns-in-Limit-clause-run g c = λ config journal stands.
    let i = c.frames.invariant in
    let more = c.in-Limit.ensures.more in
    let none_here : NoFrame c.frames.carry.unused = part_none (at_front c.unused.ensures c.in-Ok-Part.field-0-is c.in-Ok-Part.ensures) in
    let run = went_on _ _ _ _ _ _ _ _ _ c.frames.carry c.take_more.new.self (more.1.0 ∷ []) _ (i.run config journal stands) more.1.1.source more.1.1.unused more.1.1.taken in
    finished _ _ _ _ _ _ _ _ c.take_more.new.self _ _ run (λ journal next stands. stands)
    (omega (arith, more.0, run.so_far.size, more.1.1.taken), refl, (c.frames.carry.unused, more.1.0, more.1.1.unused, none_here))

pub returns-in-Memory-clause-run : goal.returns-in-Memory-clause-run
returns-in-Memory-clause-run g c = λ config journal stands.
    let more = c.in-Memory.ensures.more in
    let carry : Carried = record { unused = c.frames.carry.unused ++ more.0; taken = c.frames.carry.taken + length more.0 } in
    finished _ _ _ _ _ _ _ _ carry _ _ (went_on _ _ _ _ _ _ _ _ _ c.frames.carry carry more.0 _ (c.frames.invariant.run config journal stands) more.1 refl refl)
    (λ journal next stands. stands) tt

pub returns-in-Ok-Never-clause-run : goal.returns-in-Ok-Never-clause-run
returns-in-Ok-Never-clause-run g c = λ config journal stands.
    let i = c.frames.invariant in
    let never : IsFound c.frames.carry.unused Never = at_front c.unused.ensures c.in-Ok-Never.field-0-is c.in-Ok-Never.ensures in
    let none_here : NoFrame c.frames.carry.unused = subst NoFrame (append-nil c.frames.carry.unused) (never.1 []) in
    let run = i.run config journal stands in
    finished _ _ _ _ _ _ _ _ c.frames.carry _ _ run (λ journal next stands. stands)
    (never.0, none_here, refl, run.so_far.place, inl never.1, omega (arith, run.so_far.size, i.within))

pub returns-in-Err-clause-run : goal.returns-in-Err-clause-run
returns-in-Err-clause-run g c = λ config journal stands.
    finished _ _ _ _ _ _ _ _ c.frames.carry _ _ (c.frames.invariant.run config journal stands) (λ journal next stands. stands) tt
