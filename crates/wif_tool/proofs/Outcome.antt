-- What the account of a run says at each status.
use Rattle.std.proofs.Common.{◌≡◌, ◌≢◌, ◌≤◌, ◌<◌, ◌⊎◌, ◌+◌, ◌++◌, [], ◌∷◌, ℕ, List, length, inl, inr, ⊎_elim, refl, sym, ◌∙◌, ap, subst, arith, append_assoc, length-append}
use Rattle.std.proofs.lemmas.List.{append-nil, take_all}
use Rattle.std.specs.Prelude.{Option, None, Some}
use Rattle.std.specs.List.{AllByRecursion}
use Rattle.std.specs.Io.KnownBytes.{Consumes, Appends, IsAtEnd}
use Rattle.wif_base.specs.Carried.{input_limit}
use Rattle.wif_base.specs.Disk.{Leaves, LeavesNow, Told}
use Rattle.wif_base.proofs.Known.{appends-then}
use Rattle.wif_base.proofs.Outputs.{all_written}
use Rattle.service_config.specs.declared.config.Config.{Config}
use Rattle.service_config.specs.Configuration.{IsConfiguration, config_limit}
use Rattle.grant_journal.specs.JournalBytes.{StandsFor}
use Rattle.grant_journal.proofs.Stands.{settled_now}
use Rattle.links.specs.declared.entry.Entry.{Entry}
use Rattle.service_journal.specs.Journals.{texts_of}
use Rattle.sts_core.specs.Runs.{entries_after}
use Rattle.sts_core.specs.State.{Standing, Stands}
use Rattle.sts_core.specs.declared.stop.Stop.TheVariants.{Memory, Journal, Broken}
use Rattle.sts_serve.specs.Frames.{IsFrame, answer, script_text, frame_text, NoFrame, NeverFrame, ScriptSpells}
use Rattle.sts_serve.specs.Left.{StandsForFront, entries_behind}
use Rattle.sts_serve.specs.Served.{ScriptRun}
use Rattle.sts_serve.specs.declared.frame.Frame.{Frame}
use Rattle.sts_serve.specs.declared.served.Served.{Served}
use Rattle.sts_serve.specs.declared.served.Served.TheVariants.{Done, ReadFault, WriteFault, ClockFault, Malformed, InputLimit, Stopped}
use Rattle.sts_serve.proofs.Runs.{length-texts, texts, some_frame}
use Rattle.sts_serve.proofs.Cuts.{one_cut}
use Rattle.wif_tool.specs.Lines.{LineDue, malformed_line}
use Rattle.wif_tool.specs.Opened.{LeavesDisk}
use Rattle.wif_tool.specs.Status.{StopsBefore, ConfigRead, Configured, NotConfigured, NoConfiguration, ScriptOutcome, AllAnswered, AnsweredUpTo, Closes, replies_text}

-- ---- sources that tell

-- what was read is the front of what there was
pub record Front (whole : List ℕ) (left' : Option (List ℕ)) (read : List ℕ) : Type 0 where
  pub rest : List ℕ
  pub is : whole ≡ read ++ rest
  pub left_is : left' ≡ Some rest

pub front_of : (whole : List ℕ) (left' : Option (List ℕ)) (read : List ℕ) → Consumes (Some whole) left' read → Front whole left' read
front_of whole None read consumes = absurd consumes
front_of whole (Some rest) read consumes = record { rest = rest; is = consumes; left_is = refl }

pub at_end : (whole : List ℕ) (left' : Option (List ℕ)) (read : List ℕ) → Consumes (Some whole) left' read → IsAtEnd left' → whole ≡ read
at_end whole left' read consumes ended =
    let front = front_of whole left' read consumes in
    let none : front.rest ≡ [] = subst IsAtEnd front.left_is ended in
    front.is ∙ ap (λ (l : List ℕ). read ++ l) none ∙ append-nil read

no_frame : NoFrame []
no_frame frame more is same = omega (arith, ap length same, some_frame frame, length-append (frame_text frame) more)

-- ---- the configuration

read_is : (bytes : List ℕ) (left' : Option (List ℕ)) (read : List ℕ) → ConfigRead (Some bytes) left' read → (bytes ≡ read) ⊎ (config_limit < length bytes)
read_is bytes left' read config =
    let front = front_of bytes left' read config.source in
    ⊎_elim (λ ended. inl (at_end bytes left' read config.source ended))
    (λ long. inr (omega (arith, long, ap length front.is, length-append read front.rest))) config.whole

-- a configuration that is there is not refused
pub not_refused : (left : Option (List ℕ)) (bytes : List ℕ) (left' : Option (List ℕ)) (setup : Config) → left ≡ Some bytes → IsConfiguration bytes setup → NotConfigured left left' → ⊥
not_refused left bytes left' setup told is refused =
    let config : ConfigRead (Some bytes) left' refused.bytes = subst (λ l. ConfigRead l left' refused.bytes) told refused.read in
    ⊎_elim (λ same. refused.none setup (subst (λ b. IsConfiguration b setup) same is)) (λ long. omega (arith, is.size, long)) (read_is bytes left' refused.bytes config)

-- and bytes that are none are not taken
pub not_taken : (left : Option (List ℕ)) (bytes : List ℕ) (left' : Option (List ℕ)) (read : List ℕ) (setup : Config) → left ≡ Some bytes → NoConfiguration bytes
    → ConfigRead left left' read → IsConfiguration read setup → ⊥
not_taken left bytes left' read setup told none config is =
    let over : ConfigRead (Some bytes) left' read = subst (λ l. ConfigRead l left' read) told config in
    ⊎_elim (λ same. none setup (subst (λ b. IsConfiguration b setup) (sym same) is))
    (λ long. ⊎_elim (λ ended. let same = at_end bytes left' read over.source ended in none setup (subst (λ b. IsConfiguration b setup) (sym same) is)) (λ past. omega (arith, is.size, past)) over.whole)
    (read_is bytes left' read over)

-- a source has one configuration
pub same_setup : (left : Option (List ℕ)) (bytes : List ℕ) (left' : Option (List ℕ)) (setup other : Config) → left ≡ Some bytes → IsConfiguration bytes setup
    → Configured left left' other → setup ≡ other
same_setup left bytes left' setup other told is configured =
    let config : ConfigRead (Some bytes) left' configured.bytes = subst (λ l. ConfigRead l left' configured.bytes) told configured.read in
    ⊎_elim
    (λ same. let again : IsConfiguration bytes other = subst (λ b. IsConfiguration b other) (sym same) configured.is in
    let one : Some setup ≡ Some other = sym is.fields ∙ again.fields in cc one)
    (λ long. absurd (omega (arith, is.size, long))) (read_is bytes left' configured.bytes config)

-- ---- the status

pub not_due : (line : List ℕ) (due : ℕ) (taken taken' : Option (List ℕ)) (status : ℕ) → LineDue line due taken taken' status → status ≢ due → status ≢ 4 → status ≢ 7 → ⊥
not_due line due taken taken' status (inl at) other four seven = other at.0
not_due line due taken taken' status (inr (inl at)) other four seven = four at.0
not_due line due taken taken' status (inr (inr at)) other four seven = seven at.0

pub is_due : (line : List ℕ) (due : ℕ) (taken taken' : Option (List ℕ)) (status : ℕ) → LineDue line due taken taken' status → status ≢ 4 → status ≢ 7 → Appends taken taken' line
is_due line due taken taken' status (inl at) four seven = at.1
is_due line due taken taken' status (inr (inl at)) four seven = absurd (four at.0)
is_due line due taken taken' status (inr (inr at)) four seven = absurd (seven at.0)

-- ---- what a crash leaves of a run

-- all the requests were answered, so no more of them were recorded
all_behind : (config : Config) (before : List Entry) (frames : List Frame) (count : ℕ) → length frames ≤ count
    → entries_behind (answer config) before frames count ≡ entries_after (answer config) before frames
all_behind config before frames count all = ap (λ (fs : List Frame). entries_after (answer config) before fs) (take_all count frames all)

module _ (config : Config) (before : List Entry) (begun ended : Standing) (left left' taken : Option (List ℕ)) where
  stands_for : (journal : List Entry) → Stands ended config journal → LeavesNow ended.journal.told (StandsFor (texts_of journal))
  stands_for journal stands = settled_now (texts_of journal) ended.journal.len ended.journal.told stands.settled

  whole_journal : (mid : Option (List ℕ)) (end : Served) (run : ScriptRun config before begun ended left left' taken mid end) → run.answered ≡ length run.frames
      → Stands ended config (entries_behind (answer config) before run.frames run.recorded)
      → LeavesNow ended.journal.told (StandsFor (texts_of (entries_behind (answer config) before run.frames run.answered)))
  whole_journal mid end run all stands =
      let more : run.answered ≤ run.recorded = ⊎_elim (λ same. omega (arith, same.0)) (λ one. omega (arith, one.0)) run.begun in
      stands_for (entries_behind (answer config) before run.frames run.answered)
      (subst (λ (j : List Entry). Stands ended config j)
      (all_behind config before run.frames run.recorded (omega (arith, all, more)) ∙ sym (all_behind config before run.frames run.answered (omega (arith, all)))) stands)

  leaves_disk : (mid : Option (List ℕ)) (end : Served) (run : ScriptRun config before begun ended left left' taken mid end)
      → LeavesDisk end (entries_behind (answer config) before run.frames) run.answered run.recorded ended.journal.told
  leaves_disk mid Done run = whole_journal mid Done run run.ends.1 run.journal
  leaves_disk mid ReadFault run = whole_journal mid ReadFault run run.ends.1 run.journal
  leaves_disk mid WriteFault run = stands_for (entries_behind (answer config) before run.frames run.recorded) run.journal
  leaves_disk mid ClockFault run = absurd run.ends
  leaves_disk mid (Malformed offset) run = whole_journal mid (Malformed offset) run run.ends.2 run.journal
  leaves_disk mid InputLimit run = whole_journal mid InputLimit run run.ends.1 run.journal
  leaves_disk mid (Stopped Memory) run = stands_for (entries_behind (answer config) before run.frames run.recorded) run.journal
  leaves_disk mid (Stopped Journal) run = run.journal.1
  leaves_disk mid (Stopped Broken) run = absurd run.ends

  -- the account of a run that ended so
  pub outcome_of : (replied taken' : Option (List ℕ)) (opened told' : Option Told) (status : ℕ) (end : Served) → ScriptRun config before begun ended left left' taken replied end
      → Closes end replied taken' status → begun.journal.told ≡ opened → ended.journal.told ≡ told'
      → ScriptOutcome config before left left' taken taken' opened told' status
  outcome_of replied taken' opened told' status end run closes at_first at_last = record {
    end = end;
    replied = replied;
    begun = begun;
    ended = ended;
    run = run;
    closes = closes;
    disk = subst (λ (t : Option Told). LeavesDisk end (entries_behind (answer config) before run.frames) run.answered run.recorded t) at_last (leaves_disk replied end run);
    any_moment = subst (λ (t : Option Told). Leaves opened t (StandsForFront (answer config) before run.frames)) at_last
        (subst (λ (t : Option Told). Leaves t ended.journal.told (StandsForFront (answer config) before run.frames)) at_first run.any_moment);
  }

-- the same where the disk that it began with is told otherwise
pub opened_as : (config : Config) (before : List Entry) (left left' taken taken' : Option (List ℕ)) (opened opened' told' : Option Told) (status : ℕ)
    → opened ≡ opened' → ScriptOutcome config before left left' taken taken' opened told' status → ScriptOutcome config before left left' taken taken' opened' told' status
opened_as config before left left' taken taken' opened opened' told' status same outcome =
    subst (λ (t : Option Told). ScriptOutcome config before left left' taken taken' t told' status) same outcome

-- ---- what a run's account says at a status

module _ (config : Config) (before : List Entry) (left left' taken : Option (List ℕ)) (told' : Option Told) where
  module _ (begun ended : Standing) where
    replied_all : (mid : Option (List ℕ)) (end : Served) (run : ScriptRun config before begun ended left left' taken mid end) → run.answered ≡ length run.frames
        → run.written ≡ replies_text config before run.frames
    replied_all mid end run all = all_written (texts config before run.frames) run.written run.answered (all ∙ sym (length-texts config before run.frames)) run.output

    journal_of : (mid : Option (List ℕ)) (end : Served) (run : ScriptRun config before begun ended left left' taken mid end) → run.answered ≡ length run.frames
        → LeavesNow told' (StandsFor (texts_of (entries_behind (answer config) before run.frames run.answered)))
        → LeavesNow told' (StandsFor (texts_of (entries_after (answer config) before run.frames)))
    journal_of mid end run all disk = subst (λ (j : List Entry). LeavesNow told' (StandsFor (texts_of j))) (all_behind config before run.frames run.answered (omega (arith, all))) disk

    done_of : (mid : Option (List ℕ)) (run : ScriptRun config before begun ended left left' taken mid Done)
        → LeavesNow told' (StandsFor (texts_of (entries_behind (answer config) before run.frames run.answered)))
        → AllAnswered config before left left' taken mid told'
    done_of mid run disk = record {
      frames = run.frames;
      each = run.script.each;
      input = subst (λ (l : List ℕ). Consumes left left' l) (run.script.whole ∙ ap (λ (l : List ℕ). script_text run.frames ++ l) run.ends.0 ∙ append-nil (script_text run.frames)) run.source;
      ended = run.ends.2;
      output = subst (λ (l : List ℕ). Appends taken mid l) (replied_all mid Done run run.ends.1) run.sink;
      disk = journal_of mid Done run run.ends.1 disk;
    }

    malformed_of : (offset : ℕ) (mid taken' : Option (List ℕ)) (run : ScriptRun config before begun ended left left' taken mid (Malformed offset))
        → LeavesNow told' (StandsFor (texts_of (entries_behind (answer config) before run.frames run.answered)))
        → Appends mid taken' (malformed_line offset) → AnsweredUpTo config before left left' taken taken' told'
    malformed_of offset mid taken' run disk line = record {
      frames = run.frames;
      rest = run.rest;
      each = run.script.each;
      input = subst (λ (l : List ℕ). Consumes left left' l) run.script.whole run.source;
      some = run.ends.0;
      none = run.ends.1;
      settled = run.ends.4;
      output = subst (λ (l : List ℕ). Appends taken taken' l)
          (ap (λ (l : List ℕ). l ++ malformed_line offset) (replied_all mid (Malformed offset) run run.ends.2) ∙ ap (λ (n : ℕ). replies_text config before run.frames ++ malformed_line n) run.ends.3)
          (appends-then taken mid taken' run.written (malformed_line offset) run.sink line);
      disk = journal_of mid (Malformed offset) run run.ends.2 disk;
    }

    by_end : (end : Served) (mid taken' : Option (List ℕ)) (run : ScriptRun config before begun ended left left' taken mid end)
        → LeavesDisk end (entries_behind (answer config) before run.frames) run.answered run.recorded told' → Closes end mid taken' 0
        → AllAnswered config before left left' taken taken' told'
    by_end Done mid taken' run disk closes = subst (λ (t : Option (List ℕ)). AllAnswered config before left left' taken t told') (sym closes.1) (done_of mid run disk)
    by_end ReadFault mid taken' run disk closes = absurd (omega (arith, closes.0))
    by_end WriteFault mid taken' run disk closes = absurd (omega (arith, closes.0))
    by_end ClockFault mid taken' run disk closes = absurd (omega (arith, closes.0))
    by_end (Malformed offset) mid taken' run disk closes = absurd (not_due (malformed_line offset) 8 mid taken' 0 closes (omega arith) (omega arith) (omega arith))
    by_end InputLimit mid taken' run disk closes = absurd (omega (arith, closes.0))
    by_end (Stopped Memory) mid taken' run disk closes = absurd (omega (arith, closes.0))
    by_end (Stopped Journal) mid taken' run disk closes = absurd (omega (arith, closes.0))
    by_end (Stopped Broken) mid taken' run disk closes = absurd (omega (arith, closes.0))

    by_line : (end : Served) (mid taken' : Option (List ℕ)) (run : ScriptRun config before begun ended left left' taken mid end)
        → LeavesDisk end (entries_behind (answer config) before run.frames) run.answered run.recorded told' → Closes end mid taken' 8
        → AnsweredUpTo config before left left' taken taken' told'
    by_line Done mid taken' run disk closes = absurd (omega (arith, closes.0))
    by_line ReadFault mid taken' run disk closes = absurd (omega (arith, closes.0))
    by_line WriteFault mid taken' run disk closes = absurd (omega (arith, closes.0))
    by_line ClockFault mid taken' run disk closes = absurd (omega (arith, closes.0))
    by_line (Malformed offset) mid taken' run disk closes =
        malformed_of offset mid taken' run disk (is_due (malformed_line offset) 8 mid taken' 8 closes (omega arith) (omega arith))
    by_line InputLimit mid taken' run disk closes = absurd (omega (arith, closes.0))
    by_line (Stopped Memory) mid taken' run disk closes = absurd (omega (arith, closes.0))
    by_line (Stopped Journal) mid taken' run disk closes = absurd (omega (arith, closes.0))
    by_line (Stopped Broken) mid taken' run disk closes = absurd (omega (arith, closes.0))

    past_limit : (end : Served) (mid taken' : Option (List ℕ)) → ScriptRun config before begun ended left left' taken mid end → Closes end mid taken' 10
        → (read : List ℕ) × Consumes left left' read × (length read ≡ input_limit + 1)
    past_limit Done mid taken' run closes = absurd (omega (arith, closes.0))
    past_limit ReadFault mid taken' run closes = absurd (omega (arith, closes.0))
    past_limit WriteFault mid taken' run closes = absurd (omega (arith, closes.0))
    past_limit ClockFault mid taken' run closes = absurd (omega (arith, closes.0))
    past_limit (Malformed offset) mid taken' run closes = absurd (not_due (malformed_line offset) 8 mid taken' 10 closes (omega arith) (omega arith) (omega arith))
    past_limit InputLimit mid taken' run closes = (run.read, run.source, run.ends.0)
    past_limit (Stopped Memory) mid taken' run closes = absurd (omega (arith, closes.0))
    past_limit (Stopped Journal) mid taken' run closes = absurd (omega (arith, closes.0))
    past_limit (Stopped Broken) mid taken' run closes = absurd (omega (arith, closes.0))

    not_six : (end : Served) (mid taken' : Option (List ℕ)) → Closes end mid taken' 6 → ⊥
    not_six Done mid taken' closes = omega (arith, closes.0)
    not_six ReadFault mid taken' closes = omega (arith, closes.0)
    not_six WriteFault mid taken' closes = omega (arith, closes.0)
    not_six ClockFault mid taken' closes = omega (arith, closes.0)
    not_six (Malformed offset) mid taken' closes = not_due (malformed_line offset) 8 mid taken' 6 closes (omega arith) (omega arith) (omega arith)
    not_six InputLimit mid taken' closes = omega (arith, closes.0)
    not_six (Stopped Memory) mid taken' closes = omega (arith, closes.0)
    not_six (Stopped Journal) mid taken' closes = omega (arith, closes.0)
    not_six (Stopped Broken) mid taken' closes = omega (arith, closes.0)

  pub status_zero : (taken' : Option (List ℕ)) (opened : Option Told) (status : ℕ) → status ≡ 0 → ScriptOutcome config before left left' taken taken' opened told' status
      → AllAnswered config before left left' taken taken' told'
  status_zero taken' opened status is o = by_end o.begun o.ended o.end o.replied taken' o.run o.disk (subst (λ (s : ℕ). Closes o.end o.replied taken' s) is o.closes)

  pub status_eight : (taken' : Option (List ℕ)) (opened : Option Told) (status : ℕ) → status ≡ 8 → ScriptOutcome config before left left' taken taken' opened told' status
      → AnsweredUpTo config before left left' taken taken' told'
  status_eight taken' opened status is o = by_line o.begun o.ended o.end o.replied taken' o.run o.disk (subst (λ (s : ℕ). Closes o.end o.replied taken' s) is o.closes)

  pub status_ten : (taken' : Option (List ℕ)) (opened : Option Told) (status : ℕ) → status ≡ 10 → ScriptOutcome config before left left' taken taken' opened told' status
      → (read : List ℕ) × Consumes left left' read × (length read ≡ input_limit + 1)
  status_ten taken' opened status is o = past_limit o.begun o.ended o.end o.replied taken' o.run (subst (λ (s : ℕ). Closes o.end o.replied taken' s) is o.closes)

  pub status_six : (taken' : Option (List ℕ)) (opened : Option Told) (status : ℕ) → status ≡ 6 → ScriptOutcome config before left left' taken taken' opened told' status → ⊥
  status_six taken' opened status is o = not_six o.begun o.ended o.end o.replied taken' (subst (λ (s : ℕ). Closes o.end o.replied taken' s) is o.closes)

  -- what was cut off as whole frames is a script that ends there
  pub nothing_left : (bytes : List ℕ) (frames : List Frame) (rest : List ℕ) (taken' : Option (List ℕ)) → left ≡ Some bytes → ScriptSpells bytes frames rest
      → AllAnswered config before left left' taken taken' told' → rest ≡ []
  nothing_left bytes frames rest taken' told spells all =
      let consumes : Consumes (Some bytes) left' (script_text all.frames) = subst (λ l. Consumes l left' (script_text all.frames)) told all.input in
      let same : bytes ≡ script_text all.frames = at_end bytes left' (script_text all.frames) consumes all.ended in
      sym (one_cut all.frames frames [] rest all.each spells.begins.each no_frame spells.ended (append-nil (script_text all.frames) ∙ sym same ∙ spells.begins.whole)).1

-- where what follows the frames is no frame, however it goes on, or nothing follows, the script does not end in frames
not_a_script : (fs gs : List Frame) (rest more : List ℕ) (left' : Option (List ℕ)) → AllByRecursion IsFrame fs → AllByRecursion IsFrame gs
    → script_text fs ≡ (script_text gs ++ rest) ++ more → left' ≡ Some more → rest ≢ [] → NoFrame rest → NeverFrame rest ⊎ IsAtEnd left' → ⊥
not_a_script fs gs rest more left' each each' same left_is some none settled =
    let none_more : NoFrame (rest ++ more) = ⊎_elim (λ never. never more)
    (λ ended. let nothing : more ≡ [] = subst IsAtEnd left_is ended in subst NoFrame (sym (ap (λ (l : List ℕ). rest ++ l) nothing ∙ append-nil rest)) none) settled in
    let cut = one_cut fs gs [] (rest ++ more) each each' no_frame none_more (append-nil (script_text fs) ∙ same ∙ append_assoc (script_text gs) rest more) in
    some (empty_front rest more (sym cut.1))
  where
    empty_front : (xs ys : List ℕ) → xs ++ ys ≡ [] → xs ≡ []
    empty_front [] ys same = refl
    empty_front (x ∷ xs) ys same = cc same

module _ (config : Config) (before : List Entry) (frames : List Frame) (left' taken : Option (List ℕ)) (each : AllByRecursion IsFrame frames) (within : length (script_text frames) ≤ input_limit) where
  complete_by : (begun ended : Standing) (end : Served) (mid taken' : Option (List ℕ)) (status : ℕ) → ScriptRun config before begun ended (Some (script_text frames)) left' taken mid end → Closes end mid taken' status
      → status ≢ 3 → status ≢ 4 → status ≢ 5 → (status ≡ 0) ⊎ (status ≡ 7)
  complete_by begun ended Done mid taken' status run closes three four five = inl closes.0
  complete_by begun ended ReadFault mid taken' status run closes three four five = absurd (three closes.0)
  complete_by begun ended WriteFault mid taken' status run closes three four five = absurd (four closes.0)
  complete_by begun ended ClockFault mid taken' status run closes three four five = absurd run.ends
  complete_by begun ended (Stopped Memory) mid taken' status run closes three four five = inr closes.0
  complete_by begun ended (Stopped Journal) mid taken' status run closes three four five = absurd (five closes.0)
  complete_by begun ended (Stopped Broken) mid taken' status run closes three four five = absurd run.ends
  complete_by begun ended InputLimit mid taken' status run closes three four five =
      let front = front_of (script_text frames) left' run.read run.source in
      absurd (omega (arith, within, run.ends.0, ap length front.is, length-append run.read front.rest))
  complete_by begun ended (Malformed offset) mid taken' status run (inl due) three four five =
      let front = front_of (script_text frames) left' run.read run.source in
      absurd (not_a_script frames run.frames run.rest front.rest left' each run.script.each (front.is ∙ ap (λ (l : List ℕ). l ++ front.rest) run.script.whole) front.left_is run.ends.0 run.ends.1 run.ends.4)
  complete_by begun ended (Malformed offset) mid taken' status run (inr (inl is)) three four five = absurd (four is.0)
  complete_by begun ended (Malformed offset) mid taken' status run (inr (inr is)) three four five = inr is.0

  pub complete : (left taken' : Option (List ℕ)) (opened told' : Option Told) (status : ℕ) → left ≡ Some (script_text frames)
      → ScriptOutcome config before left left' taken taken' opened told' status → status ≢ 3 → status ≢ 4 → status ≢ 5 → (status ≡ 0) ⊎ (status ≡ 7)
  complete left taken' opened told' status told o three four five =
      complete_by o.begun o.ended o.end o.replied taken' status (subst (λ l. ScriptRun config before o.begun o.ended l left' taken o.replied o.end) told o.run) o.closes three four five

-- ---- a run that was stopped before the disk was looked at

-- what a run that was stopped says where nothing failed and the configuration is one
pub stopped_complete : (status : ℕ) → StopsBefore status → (status ≡ 1 → ⊥) → (status ≡ 3 → ⊥) → (status ≡ 0) ⊎ (status ≡ 7)
stopped_complete status (inl one) no_one no_three = absurd (no_one one)
stopped_complete status (inr (inl three)) no_one no_three = absurd (no_three three)
stopped_complete status (inr (inr seven)) no_one no_three = inr seven

pub not_stopped : (status : ℕ) → status ≢ 1 → status ≢ 3 → status ≢ 7 → StopsBefore status → ⊥
not_stopped status one three seven stops = ⊎_elim one (λ more. ⊎_elim three seven more) stops

pub not_zero : (status : ℕ) → StopsBefore status → status ≡ 0 → ⊥
not_zero status (inl one) zero = omega (arith, one, zero)
not_zero status (inr (inl three)) zero = omega (arith, three, zero)
not_zero status (inr (inr seven)) zero = omega (arith, seven, zero)
