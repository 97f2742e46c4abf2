use Rattle.std.proofs.Common.{◌≡◌, ℕ, refl, subst, arith}
use Rattle.sts_core.specs.State.{Stands}
use Rattle.generated_work.specs.Draws.{draw_of}
use Rattle.generated_work.specs.Run.{progress_of}
use Rattle.generated_work.specs.Setting.{run_config}
use Rattle.generated_work.proofs.RoundsMore.{counts_on, drawn_on, few_more, stands_on}
use Rattle.generated_work.proofs.running.run.Goals as goal

pub loop-round-init : goal.loop-round-init
unfolding progress_of draw_of
loop-round-init g c = record {
  stands = c.in_ok-put_commands.ensures;
  counts = c.counts_at_start-counts.ensures.none;
  few = c.counts_at_start-counts.ensures.few;
  draw = refl;
}

pub counted-counts-requires : goal.counted-counts-requires
counted-counts-requires g c = few_more c.loop-round.round 500 c.loop-round.counts (omega arith) c.loop-round.invariant.few

pub loop-round-preserved : goal.loop-round-preserved
loop-round-preserved g c =
    let team = c.team_of-team.result in
    let is_team = c.team_of-team.ensures.team in
    record {
      stands = stands_on c.play.new.sts c.args.count c.loop-round.round team c.loop-round.draw is_team c.loop-round.invariant.draw
          (c.in_ok-outcome.ensures.stands _ c.loop-round.invariant.stands);
      counts = counts_on c.args.count c.loop-round.round team c.loop-round.draw c.loop-round.counts c.counted-counts.result c.in_ok-outcome.outcome
          is_team c.loop-round.invariant.draw c.loop-round.invariant.counts
          (c.in_ok-outcome.ensures.outcome _ c.loop-round.invariant.stands) c.counted-counts.ensures.counts;
      few = c.counted-counts.ensures.few c.loop-round.round c.loop-round.invariant.few;
      draw = drawn_on c.args.count c.loop-round.round c.loop-round.draw c.next_draw-draw.result c.loop-round.invariant.draw c.next_draw-draw.ensures.draw;
    }

pub returns-clause-stands : goal.returns-clause-stands
returns-clause-stands g c =
    let last : c.loop-round.round ≡ c.args.count = omega arith in
    subst (λ (n : ℕ). Stands c.loop-round.sts run_config (progress_of c.args.count n).journal) last c.loop-round.invariant.stands
