-- What each worker has, and what a pass is while others have shares of it.
use Rattle.std.specs.Prelude.{◌≡◌, ℕ, ◌+◌, ◌<◌, ◌≤◌, List, length, slice_index_or, IfOk, IsErr}
use Rattle.std.specs.List.{AllByRecursion}
use Rattle.atomic_table.specs.Seated.{TableId}
use Rattle.shared_renewer.specs.Passes.{Known, NeverFalls}
use Rattle.shared_renewer.specs.Views.{Begins, no_counts}
use Rattle.shared_renewer.specs.declared.view.ClientFacts.{ClientFacts}
use Rattle.shared_renewer.specs.declared.view.View.{View}
use Rattle.client_top.specs.Outcomes.{AreOutcomesOf, IsLostIn}
use Rattle.client_top.specs.declared.job.Job.{Job}
use Rattle.client_top.specs.declared.outcome.Outcome.{Outcome}

-- What a pass is that went on from an earlier view, and then lacks so many of its shares.
pub record HasLent (old new : View) (lent : ℕ) : Type 0 where
  pub share : new.share + lent ≡ old.share
  pub facts : new.facts ≡ old.facts
  pub seen : Begins old.seen new.seen
  pub rises : NeverFalls old new

-- A pass with one share, of that table and that client.
pub record IsPart (table : TableId) (facts : ClientFacts) (pass : Known) : Type 0 where
  pub table_is : pass.table ≡ table
  pub share : pass.view.share ≡ 1
  pub facts_is : pass.view.facts ≡ facts

-- A worker can begin: its pass is of that table and was told of no failure, and no moment is later than the last.
pub record IsAtStart (table : TableId) (last : ℕ) (pass : Known) (moments : List ℕ) : Type 0 where
  pub table_is : pass.table ≡ table
  pub lost : pass.view.lost ≡ no_counts
  pub within : AllByRecursion (λ at. at ≤ last) moments

-- A worker's table, share, client and moments stay.
pub record IsSameWorker {L : Type 0} (old new : Job L) : Type 0 where
  pub table_is : new.pass.table ≡ old.pass.table
  pub share : new.pass.view.share ≡ old.pass.view.share
  pub facts_is : new.pass.view.facts ≡ old.pass.view.facts
  pub moments_are : new.moments.now ≡ old.moments.now

-- What a worker found, by all that its pass has seen.
pub record HasFound (pass : Known) (moments : List ℕ) (outcomes : List Outcome) : Type 0 where
  pub outcomes_are : AreOutcomesOf pass.view.facts.margin pass.view.seen moments outcomes
  pub lost : IsLostIn outcomes (record pass.view { lost = no_counts }) pass.view

-- ---- workers

module _ {L : Type 0} where
  -- a worker that has not begun
  abbrev pub IsReady : TableId → ClientFacts → ℕ → Job L → Type 0
  IsReady table facts last job = IsPart table facts job.pass × IsAtStart table last job.pass job.moments.now × IsErr job.outcomes

  -- a worker that found what it was to find, or lacked memory
  abbrev pub IsDone : Job L → Type 0
  IsDone job = IfOk job.outcomes (λ outcomes. HasFound job.pass job.moments.now outcomes.items)

  -- the same workers, in order
  abbrev pub AreSameWorkers : List (Job L) → List (Job L) → Type 0
  AreSameWorkers old new = (i : ℕ) (d : Job L) → i < length old → IsSameWorker (slice_index_or old i d) (slice_index_or new i d)
