-- What stands on the disk behind a run, and in the runs after it.
use Rattle.std.proofs.Common.{◌≡◌, ◌≢◌, ◌⊎◌, inl, inr, ⊎_elim, ℕ, zero, suc, ◌+◌, List, [], ◌∷◌, ◌++◌, take, refl, sym, ◌∙◌, ap, subst, append_assoc}
use Rattle.std.proofs.lemmas.List.{append-nil}
use Rattle.std.specs.Prelude.{Option, None, Some}
use Rattle.std.specs.List.{AllByRecursion}
use Rattle.wif_base.specs.Disk.{LeavesNow, MayLeave, Told}
use Rattle.wif_base.specs.declared.route.Route.{Route}
use Rattle.wif_base.specs.Routes.{route}
use Rattle.service_config.specs.declared.config.Config.{Config}
use Rattle.grant_journal.specs.JournalBytes.{StandsFor}
use Rattle.grant_journal.proofs.Unique.{one_list}
use Rattle.links.specs.Licence.{Lawful}
use Rattle.links.specs.declared.entry.Entry.{Entry}
use Rattle.service_journal.specs.Journals.{IsKept, StandsForEntries, texts_of}
use Rattle.service_journal.proofs.Texts.{split}
use Rattle.sts_core.specs.Machine.{with_entry}
use Rattle.sts_core.specs.Runs.{entries_after}
use Rattle.sts_core.specs.State.{Standing, Stands, StandsForEither}
use Rattle.sts_core.specs.declared.stop.Stop.TheVariants.{Memory, Journal, Broken}
use Rattle.sts_core.proofs.Checked.{step_lawful}
use Rattle.sts_serve.specs.Frames.{IsFrame, answer, answer_at}
use Rattle.sts_serve.specs.Histories.{AreRuns, EachGoesOn, GoesOn, LeadsTo}
use Rattle.sts_serve.specs.Left.{LeavesService, entries_behind}
use Rattle.sts_serve.specs.Served.{ScriptRun}
use Rattle.sts_serve.specs.declared.frame.Frame.{Frame}
use Rattle.sts_serve.specs.declared.served.Served.{Served}
use Rattle.sts_serve.specs.declared.served.Served.TheVariants.{Done, ReadFault, WriteFault, ClockFault, Malformed, InputLimit, Stopped}
use Rattle.sts_serve.proofs.Replying.{stands_now}

-- ---- what a crash leaves

pub left_of : (sts : Standing) (config : Config) (journal : List Entry) → Stands sts config journal → (told : Told) (image : List ℕ) → sts.journal.told ≡ Some told
    → MayLeave told.now image → StandsForEntries journal image
left_of sts config journal stands told image is crash =
    subst (λ (t : Option Told). LeavesNow t (StandsFor (texts_of journal))) is (stands_now sts config journal stands) image crash

-- the service that a run left, but for one whose disk failed
unfoldable pub Left : Served → Config → List Entry → List Entry → Standing → Type 0
Left end config journal next sts = Stands sts config journal ⊎ ((end ≡ Stopped Journal) × LeavesNow sts.journal.told (StandsForEither journal next))

pub how_left : (end : Served) (config : Config) (journal next : List Entry) (sts : Standing) → LeavesService end config journal next sts → Left end config journal next sts
unfolding Left
how_left Done config journal next sts left = inl left
how_left ReadFault config journal next sts left = inl left
how_left WriteFault config journal next sts left = inl left
how_left ClockFault config journal next sts left = inl left
how_left (Malformed offset) config journal next sts left = inl left
how_left InputLimit config journal next sts left = inl left
how_left (Stopped Memory) config journal next sts left = inl left
how_left (Stopped Journal) config journal next sts left = inr (refl, left.1)
how_left (Stopped Broken) config journal next sts left = absurd left

module _ (config : Config) (before : List Entry) (old new : Standing) (left left' taken taken' : Option (List ℕ)) (end : Served) (run : ScriptRun config before old new left left' taken taken' end) (told : Told) (image : List ℕ) (is : new.journal.told ≡ Some told) (crash : MayLeave told.now image) where
  pub crash_keeps : (count : ℕ) × ((count ≡ run.answered) ⊎ (count ≡ run.answered + 1)) × StandsForEntries (entries_behind (answer config) before run.frames count) image
  unfolding Left
  crash_keeps = by_left (how_left end config (entries_behind (answer config) before run.frames run.recorded) (entries_behind (answer config) before run.frames (run.recorded + 1)) new run.journal)
    where
      by_left : Left end config (entries_behind (answer config) before run.frames run.recorded) (entries_behind (answer config) before run.frames (run.recorded + 1)) new
          → (count : ℕ) × ((count ≡ run.answered) ⊎ (count ≡ run.answered + 1)) × StandsForEntries (entries_behind (answer config) before run.frames count) image
      by_left (inl stands) = (
        run.recorded,
        ⊎_elim (λ same. inl same.0) (λ more. inr more.0) run.begun,
        left_of new config (entries_behind (answer config) before run.frames run.recorded) stands told image is crash,
      )
      by_left (inr (stopped, either)) =
          let same : run.recorded ≡ run.answered = ⊎_elim (λ same. same.0) (λ more. absurd (more.1 stopped)) run.begun in
          ⊎_elim
          (λ stands. (run.recorded, inl same, stands))
          (λ stands. (run.recorded + 1, inr (ap (λ (n : ℕ). n + 1) same), stands))
          (subst (λ (t : Option Told). LeavesNow t (StandsForEither (entries_behind (answer config) before run.frames run.recorded) (entries_behind (answer config) before run.frames (run.recorded + 1))))
          is either image crash)

  pub crash_keeps_begun : run.output.part ≢ [] → StandsForEntries (entries_behind (answer config) before run.frames (run.answered + 1)) image
  unfolding Left
  crash_keeps_begun some = by_left (how_left end config (entries_behind (answer config) before run.frames run.recorded) (entries_behind (answer config) before run.frames (run.recorded + 1)) new run.journal)
    where
      by_left : Left end config (entries_behind (answer config) before run.frames run.recorded) (entries_behind (answer config) before run.frames (run.recorded + 1)) new
          → StandsForEntries (entries_behind (answer config) before run.frames (run.answered + 1)) image
      by_left (inl stands) =
          let more : run.recorded ≡ run.answered + 1 = ⊎_elim (λ same. absurd (some same.1)) (λ more. more.0) run.begun in
          subst (λ (count : ℕ). StandsForEntries (entries_behind (answer config) before run.frames count) image) more
          (left_of new config (entries_behind (answer config) before run.frames run.recorded) stands told image is crash)
      by_left (inr (stopped, either)) = absurd (⊎_elim (λ same. some same.1) (λ more. more.1 stopped) run.begun)

-- ---- a journal goes on

texts-append : (journal more : List Entry) → texts_of (journal ++ more) ≡ texts_of journal ++ texts_of more
texts-append [] more = refl
texts-append (e ∷ journal) more = ap (λ (l : List (List ℕ)). texts_of (e ∷ []) ++ l) (texts-append journal more)

entry_behind : (journal : List Entry) (e : Option Entry) → with_entry journal e ≡ journal ++ with_entry [] e
entry_behind journal None = sym (append-nil journal)
entry_behind journal (Some e) = refl

added : (config : Config) (journal : List Entry) (frames : List Frame) → GoesOn journal (entries_after (answer config) journal frames)
added config journal [] = ([], sym (append-nil journal))
added config journal (f ∷ frames) =
    let e = (answer config journal f).entry in
    let rest = added config (with_entry journal e) frames in
    (with_entry [] e ++ rest.0, rest.1 ∙ ap (λ (l : List Entry). l ++ rest.0) (entry_behind journal e) ∙ append_assoc journal (with_entry [] e) rest.0)

-- ---- later runs

pub leads_to : (config : Config) (before after : List Entry) (leads : LeadsTo config before after)
    → (count : ℕ) × ((count ≡ leads.run.answered) ⊎ (count ≡ leads.run.answered + 1))
    × (texts_of after ≡ texts_of (entries_behind (answer config) before leads.run.frames count))
leads_to config before after leads =
    let kept = crash_keeps config before leads.old leads.new leads.left leads.left' leads.taken leads.taken' leads.end leads.run leads.told leads.image leads.tells leads.crash in
    (kept.0, kept.1, one_list leads.image (texts_of after) (texts_of (entries_behind (answer config) before leads.run.frames kept.0)) leads.stands kept.2)

goes_on : (config : Config) (before after : List Entry) → IsKept config before → LeadsTo config before after → GoesOn before after
goes_on config before after kept leads =
    let recorded = leads_to config before after leads in
    let more = added config before (take recorded.0 leads.run.frames) in
    let texts : texts_of after ≡ texts_of before ++ texts_of more.0 = recorded.2 ∙ ap texts_of more.1 ∙ texts-append before more.0 in
    let found = split before after (texts_of more.0) kept.exact leads.kept.exact texts in
    (found.0, found.1)

all_on : (first next : List Entry) → GoesOn first next → (later : List (List Entry)) → AllByRecursion (GoesOn next) later → AllByRecursion (GoesOn first) later
all_on first next one [] all = tt
all_on first next one (after ∷ later) all =
    let more = all.0 in (
      (one.0 ++ more.0, more.1 ∙ ap (λ (l : List Entry). l ++ more.0) one.1 ∙ append_assoc first one.0 more.0),
      all_on first next one later all.1,
    )

each_on : (config : Config) (first : List Entry) (later : List (List Entry)) → IsKept config first → AreRuns config first later
    → AllByRecursion (GoesOn first) later × EachGoesOn first later
each_on config first [] kept runs = (tt, tt)
each_on config first (next ∷ later) kept runs =
    let one = goes_on config first next kept runs.0 in
    let after = each_on config next later runs.0.kept runs.1 in
    let all = all_on first next one later after.0 in
    ((one, all), ((one, all), after.1))

pub each_goes_on : (config : Config) (first : List Entry) (later : List (List Entry)) → IsKept config first → AreRuns config first later → EachGoesOn first later
each_goes_on config first later kept runs = (each_on config first later kept runs).1

-- ---- lawful journals

lawful_at : (found : Option Route) (config : Config) (journal : List Entry) (frame : Frame) → route frame.path ≡ found → IsFrame frame → Lawful config journal
    → Lawful config (with_entry journal (answer config journal frame).entry)
lawful_at None config journal frame is whole lawful =
    subst (λ (found : Option Route). Lawful config (with_entry journal (answer_at found config journal frame).entry)) (sym is) lawful
lawful_at (Some there) config journal frame is whole lawful =
    subst (λ (found : Option Route). Lawful config (with_entry journal (answer_at found config journal frame).entry)) (sym is)
    (step_lawful config journal (record { route = there; bearer = frame.bearer; body = frame.body }) frame.moment whole.moment lawful)

pub each_lawful : (config : Config) (before : List Entry) (frames : List Frame) (count : ℕ) → Lawful config before → AllByRecursion IsFrame frames
    → Lawful config (entries_behind (answer config) before frames count)
each_lawful config before frames zero lawful each = lawful
each_lawful config before [] (suc count) lawful each = lawful
each_lawful config before (f ∷ frames) (suc count) lawful each =
    each_lawful config (with_entry before (answer config before f).entry) frames count (lawful_at (route f.path) config before f refl each.0 lawful) each.1
