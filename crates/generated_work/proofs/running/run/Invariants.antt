use Rattle.std.proofs.Common.{◌≡◌}
use Rattle.sts_core.specs.State.{Stands}
use Rattle.generated_work.specs.Draws.{draw_of}
use Rattle.generated_work.specs.Run.{AreAtMost, progress_of}
use Rattle.generated_work.specs.Setting.{run_config}
use Rattle.generated_work.proofs.running.run.Given as goal

-- the run has come as far as the rounds before this one
abbrev pub invariant-loop-round : goal.invariant-loop-round
invariant-loop-round g l = record {
  stands : Stands l.sts run_config (progress_of l.count l.round).journal;
  counts : l.counts ≡ (progress_of l.count l.round).counts;
  few : AreAtMost l.round l.counts;
  draw : l.draw ≡ draw_of l.count l.round;
}
