-- What stands on the disk behind a connection, and that each journal is lawful.
use Rattle.std.proofs.Common.{◌≡◌, ◌≢◌, ◌≤◌, ◌⊎◌, inl, inr, ⊎_elim, ℕ, zero, suc, ◌+◌, List, [], ◌∷◌, refl, sym, ap, subst}
use Rattle.std.specs.Prelude.{Option, None, Some}
use Rattle.std.specs.List.{AllByRecursion}
use Rattle.wif_base.specs.Disk.{LeavesNow, MayLeave, Told}
use Rattle.wif_base.specs.declared.route.Route.{Route}
use Rattle.wif_base.specs.Routes.{route}
use Rattle.service_config.specs.declared.config.Config.{Config}
use Rattle.links.specs.Licence.{Lawful}
use Rattle.links.specs.declared.entry.Entry.{Entry}
use Rattle.service_journal.specs.Journals.{StandsForEntries}
use Rattle.sts_core.specs.Machine.{with_entry}
use Rattle.sts_core.specs.State.{Standing, StandsForEither}
use Rattle.sts_core.proofs.Checked.{step_lawful}
use Rattle.sts_serve.specs.Left.{entries_behind}
use Rattle.sts_serve.specs.declared.served.Served.{Served}
use Rattle.http_front.specs.Heads.{bearer}
use Rattle.http_serve.specs.Asked.{Asked, answer_at, answer, moments}
use Rattle.http_serve.specs.Connection.{ConnectionRun}
use Rattle.http_serve.specs.Listening.{Visit, IsVisit, Visits}
use Rattle.sts_serve.proofs.Kept.{Left, how_left, left_of}

-- ---- what a crash leaves

module _ (config : Config) (before : List Entry) (old new : Standing) (left left' taken taken' clock clock' : Option (List ℕ)) (end : Served)
    (run : ConnectionRun config before old new left left' taken taken' clock clock' end) (told : Told) (image : List ℕ) (is : new.journal.told ≡ Some told) (crash : MayLeave told.now image) where
  abbrev behind : ℕ → List Entry
  behind count = entries_behind (answer config) before run.asked count

  left_so : Left end config (behind run.recorded) (behind (run.recorded + 1)) new
  left_so = how_left end config (behind run.recorded) (behind (run.recorded + 1)) new run.journal

  pub crash_keeps : (count : ℕ) × ((count ≡ run.answered) ⊎ (count ≡ run.answered + 1)) × StandsForEntries (entries_behind (answer config) before run.asked count) image
  unfolding Left
  crash_keeps = by_left left_so
    where
      by_left : Left end config (behind run.recorded) (behind (run.recorded + 1)) new
          → (count : ℕ) × ((count ≡ run.answered) ⊎ (count ≡ run.answered + 1)) × StandsForEntries (behind count) image
      by_left (inl stands) =
          (run.recorded, ⊎_elim (λ same. inl same.0) (λ more. inr more.0) run.begun, left_of new config (behind run.recorded) stands told image is crash)
      by_left (inr (stopped, either)) =
          let same : run.recorded ≡ run.answered = ⊎_elim (λ same. same.0) (λ more. absurd (more.1 stopped)) run.begun in
          ⊎_elim
          (λ stands. (run.recorded, inl same, stands))
          (λ stands. (run.recorded + 1, inr (ap (λ (n : ℕ). n + 1) same), stands))
          (subst (λ (t : Option Told). LeavesNow t (StandsForEither (behind run.recorded) (behind (run.recorded + 1)))) is either image crash)

  pub crash_keeps_begun : run.output.part ≢ [] → StandsForEntries (entries_behind (answer config) before run.asked (run.answered + 1)) image
  unfolding Left
  crash_keeps_begun some = by_left left_so
    where
      by_left : Left end config (behind run.recorded) (behind (run.recorded + 1)) new → StandsForEntries (behind (run.answered + 1)) image
      by_left (inl stands) =
          let more : run.recorded ≡ run.answered + 1 = ⊎_elim (λ same. absurd (some same.1)) (λ more. more.0) run.begun in
          subst (λ (count : ℕ). StandsForEntries (behind count) image) more (left_of new config (behind run.recorded) stands told image is crash)
      by_left (inr (stopped, either)) = absurd (⊎_elim (λ same. some same.1) (λ more. more.1 stopped) run.begun)

-- ---- lawful journals

lawful_at : (found : Option Route) (config : Config) (journal : List Entry) (a : Asked) → route a.message.head.target ≡ found → a.at ≤ 200_000_000_000 → Lawful config journal
    → Lawful config (with_entry journal (answer config journal a).entry)
lawful_at None config journal a is soon lawful =
    subst (λ (found : Option Route). Lawful config (with_entry journal (answer_at found config journal a).entry)) (sym is) lawful
lawful_at (Some there) config journal a is soon lawful =
    subst (λ (found : Option Route). Lawful config (with_entry journal (answer_at found config journal a).entry)) (sym is)
    (step_lawful config journal (record { route = there; bearer = bearer a.message.head; body = a.message.body }) a.at soon lawful)

pub each_lawful : (config : Config) (before : List Entry) (asked : List Asked) (count : ℕ) → Lawful config before → AllByRecursion (λ at. at ≤ 200_000_000_000) (moments asked)
    → Lawful config (entries_behind (answer config) before asked count)
each_lawful config before asked zero lawful timely = lawful
each_lawful config before [] (suc count) lawful timely = lawful
each_lawful config before (a ∷ asked) (suc count) lawful timely =
    each_lawful config (with_entry before (answer config before a).entry) asked count (lawful_at (route a.message.head.target) config before a refl timely.0 lawful) timely.1

visit_lawful : (config : Config) (before : List Entry) (old : Standing) (visit : Visit) → Lawful config before → IsVisit config before old visit → Lawful config visit.after
visit_lawful config before old visit lawful is =
    subst (λ (j : List Entry). Lawful config j) (sym is.after) (each_lawful config before is.run.asked is.run.recorded lawful is.run.timely)

pub visits_lawful : (config : Config) (before after : List Entry) (old new : Standing) (clock clock' : Option (List ℕ)) (visits : List Visit) → Lawful config before
    → Visits config before old clock visits after new clock' → AllByRecursion (λ visit. Lawful config visit.after) visits × Lawful config after
visits_lawful config before after old new clock clock' [] lawful chain = (tt, subst (λ (j : List Entry). Lawful config j) (sym chain.0) lawful)
visits_lawful config before after old new clock clock' (visit ∷ visits) lawful chain =
    let here = visit_lawful config before old visit lawful chain.0 in
    let rest = visits_lawful config visit.after after visit.sts new visit.clock' clock' visits here chain.2 in
    ((here, rest.0), rest.1)
