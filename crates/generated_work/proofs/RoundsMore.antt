-- A round more of a run.
use Rattle.std.proofs.Common.{◌≡◌, ℕ, ◌+◌, ◌≤◌, ◌%◌, refl, sym, ap, ◌∙◌, subst, add-one, arith}
use Rattle.sts_core.specs.State.{Standing, Stands}
use Rattle.generated_work.specs.declared.counts.Counts.{Counts}
use Rattle.generated_work.specs.declared.outcome.Outcome.{Outcome}
use Rattle.generated_work.specs.Draws.{draw_of, drawn_behind, team_in}
use Rattle.generated_work.specs.Run.{AreAtMost, Progress, behind_round, counts_with, item_of, outcome_of, progress_of, with_round}
use Rattle.generated_work.specs.Setting.{run_config}

-- the progress behind a round more
one_more : (count round team draw : ℕ) → team ≡ team_in draw → draw ≡ draw_of count round
    → progress_of count (round + 1) ≡ with_round round team ((round + team) % count) (progress_of count round)
unfolding progress_of item_of
one_more count round team draw is_team is_draw =
    let e : team ≡ team_in (draw_of count round) = is_team ∙ ap team_in is_draw in
    rw (add-one, e) refl

-- the service stands where the run has come with it
pub stands_on : (sts : Standing) (count round team draw : ℕ) → team ≡ team_in draw → draw ≡ draw_of count round
    → Stands sts run_config (behind_round (progress_of count round).journal round team ((round + team) % count))
    → Stands sts run_config (progress_of count (round + 1)).journal
unfolding with_round
stands_on sts count round team draw is_team is_draw stands =
    subst (λ (p : Progress). Stands sts run_config p.journal) (sym (one_more count round team draw is_team is_draw)) stands

-- the counts go on with it
pub counts_on : (count round team draw : ℕ) (counts next : Counts) (outcome : Outcome) → team ≡ team_in draw → draw ≡ draw_of count round
    → counts ≡ (progress_of count round).counts → outcome ≡ outcome_of (progress_of count round).journal round team ((round + team) % count)
    → next ≡ counts_with counts outcome → next ≡ (progress_of count (round + 1)).counts
unfolding with_round
counts_on count round team draw counts next outcome is_team is_draw before came is_next =
    is_next ∙ (ap (λ (k : Counts). counts_with k outcome) before ∙ (ap (counts_with (progress_of count round).counts) came
    ∙ ap (λ (p : Progress). p.counts) (sym (one_more count round team draw is_team is_draw))))

-- the next draw is the next round's
pub drawn_on : (count round draw next : ℕ) → draw ≡ draw_of count round → next ≡ drawn_behind draw → next ≡ draw_of count (round + 1)
unfolding draw_of
drawn_on count round draw next is_draw is_next = rw add-one (is_next ∙ ap drawn_behind is_draw)

-- counts that are few are fewer than more
pub few_more : (most more : ℕ) (counts : Counts) → most ≤ more → AreAtMost most counts → AreAtMost more counts
few_more most more counts h few = record {
  exchanges = omega (arith, few.exchanges);
  narrowed = omega (arith, few.narrowed);
  admitted = omega (arith, few.admitted);
  denied = omega (arith, few.denied);
}
