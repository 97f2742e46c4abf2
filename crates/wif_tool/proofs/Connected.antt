-- What the account of a run over one connection says at each status.
use Rattle.std.proofs.Common.{◌≡◌, ◌≢◌, ◌≤◌, ◌⊎◌, ◌+◌, ◌++◌, ℕ, List, length, inl, inr, ⊎_elim, refl, sym, ◌∙◌, ap, subst, arith, length-append}
use Rattle.std.specs.Prelude.{Option, Some}
use Rattle.std.specs.Io.KnownBytes.{Consumes, Appends}
use Rattle.wif_base.specs.Carried.{input_limit}
use Rattle.wif_base.specs.Disk.{Leaves, LeavesNow, Told}
use Rattle.wif_base.proofs.Outputs.{all_written}
use Rattle.service_config.specs.declared.config.Config.{Config}
use Rattle.grant_journal.specs.JournalBytes.{StandsFor}
use Rattle.grant_journal.proofs.Stands.{settled_now}
use Rattle.links.specs.declared.entry.Entry.{Entry}
use Rattle.service_journal.specs.Journals.{texts_of}
use Rattle.sts_core.specs.State.{Standing, Stands}
use Rattle.sts_core.specs.declared.stop.Stop.TheVariants.{Memory, Journal, Broken}
use Rattle.sts_serve.specs.Left.{StandsForFront, entries_behind}
use Rattle.sts_serve.specs.declared.served.Served.{Served}
use Rattle.sts_serve.specs.declared.served.Served.TheVariants.{Done, ReadFault, WriteFault, ClockFault, Malformed, InputLimit, Stopped}
use Rattle.http_serve.specs.Asked.{answer, messages, refusal_texts}
use Rattle.http_serve.specs.Connection.{ConnectionRun}
use Rattle.http_serve.proofs.Requests.{behind_all, length-messages, length-texts, texts}
use Rattle.wif_tool.specs.Connection.{AllServed, ConnectionOutcome, end_status, responses_text}
use Rattle.wif_tool.specs.Opened.{LeavesDisk}
use Rattle.wif_tool.proofs.Outcome.{front_of}

module _ (config : Config) (before : List Entry) (begun ended : Standing) (left left' taken taken' clock clock' : Option (List ℕ)) where
  stands_for : (journal : List Entry) → Stands ended config journal → LeavesNow ended.journal.told (StandsFor (texts_of journal))
  stands_for journal stands = settled_now (texts_of journal) ended.journal.len ended.journal.told stands.settled

  -- all the requests were answered, so no more of them were recorded
  whole_journal : (end : Served) (run : ConnectionRun config before begun ended left left' taken taken' clock clock' end) → length (messages run.asked) ≤ run.answered
      → Stands ended config (entries_behind (answer config) before run.asked run.recorded)
      → LeavesNow ended.journal.told (StandsFor (texts_of (entries_behind (answer config) before run.asked run.answered)))
  whole_journal end run all stands =
      let few : length run.asked ≤ run.answered = omega (arith, all, length-messages run.asked) in
      let more : run.answered ≤ run.recorded = ⊎_elim (λ same. omega (arith, same.0)) (λ one. omega (arith, one.0)) run.begun in
      stands_for (entries_behind (answer config) before run.asked run.answered)
      (subst (λ (j : List Entry). Stands ended config j)
      (behind_all config before run.asked run.recorded (omega (arith, few, more)) ∙ sym (behind_all config before run.asked run.answered few)) stands)

  leaves_disk : (end : Served) (run : ConnectionRun config before begun ended left left' taken taken' clock clock' end)
      → LeavesDisk end (entries_behind (answer config) before run.asked) run.answered run.recorded ended.journal.told
  leaves_disk Done run = whole_journal Done run (omega (arith, run.ends.1)) run.journal
  leaves_disk ReadFault run = whole_journal ReadFault run (omega (arith, run.ends.3)) run.journal
  leaves_disk WriteFault run = stands_for (entries_behind (answer config) before run.asked run.recorded) run.journal
  leaves_disk ClockFault run = whole_journal ClockFault run (omega (arith, run.ends.3)) run.journal
  leaves_disk (Malformed offset) run = absurd run.ends
  leaves_disk InputLimit run = whole_journal InputLimit run (omega (arith, run.ends.3)) run.journal
  leaves_disk (Stopped Memory) run = stands_for (entries_behind (answer config) before run.asked run.recorded) run.journal
  leaves_disk (Stopped Journal) run = run.journal.1
  leaves_disk (Stopped Broken) run = absurd run.journal

  -- the account of a run that ended so
  pub connection_of : (opened told' : Option Told) (status : ℕ) (end : Served) → ConnectionRun config before begun ended left left' taken taken' clock clock' end
      → status ≡ end_status end → begun.journal.told ≡ opened → ended.journal.told ≡ told'
      → ConnectionOutcome config before left left' taken taken' clock clock' opened told' status
  connection_of opened told' status end run closes at_first at_last = record {
    end = end;
    begun = begun;
    ended = ended;
    run = run;
    closes = closes;
    disk = subst (λ (t : Option Told). LeavesDisk end (entries_behind (answer config) before run.asked) run.answered run.recorded t) at_last (leaves_disk end run);
    any_moment = subst (λ (t : Option Told). Leaves opened t (StandsForFront (answer config) before run.asked)) at_last
        (subst (λ (t : Option Told). Leaves t ended.journal.told (StandsForFront (answer config) before run.asked)) at_first run.any_moment);
  }

  written_all : (run : ConnectionRun config before begun ended left left' taken taken' clock clock' Done)
      → run.written ≡ responses_text config before run.asked run.by_rule
  written_all run = all_written (texts config before run.asked ++ refusal_texts run.by_rule) run.written run.answered
      (omega (
        arith,
        run.ends.1,
        length-messages run.asked,
        length-texts config before run.asked,
        length-append (texts config before run.asked) (refusal_texts run.by_rule),
      )) run.output

  done_of : (told' : Option Told) (run : ConnectionRun config before begun ended left left' taken taken' clock clock' Done)
      → LeavesNow told' (StandsFor (texts_of (entries_behind (answer config) before run.asked run.answered)))
      → AllServed config before left left' taken taken' clock clock' told'
  done_of told' run disk = record {
    asked = run.asked;
    read = run.read;
    rest = run.rest;
    by_rule = run.by_rule;
    source = run.source;
    stream = run.stream;
    over = run.ends.0;
    given = run.given;
    output = subst (λ (l : List ℕ). Appends taken taken' l) (written_all run) run.sink;
    disk = subst (λ (j : List Entry). LeavesNow told' (StandsFor (texts_of j)))
        (behind_all config before run.asked run.answered (omega (arith, run.ends.1, length-messages run.asked))) disk;
  }

  by_end : (told' : Option Told) (end : Served) (run : ConnectionRun config before begun ended left left' taken taken' clock clock' end)
      → LeavesDisk end (entries_behind (answer config) before run.asked) run.answered run.recorded told' → 0 ≡ end_status end
      → AllServed config before left left' taken taken' clock clock' told'
  by_end told' Done run disk closes = done_of told' run disk
  by_end told' ReadFault run disk closes = absurd (omega (arith, closes))
  by_end told' WriteFault run disk closes = absurd (omega (arith, closes))
  by_end told' ClockFault run disk closes = absurd (omega (arith, closes))
  by_end told' (Malformed offset) run disk closes = absurd (omega (arith, closes))
  by_end told' InputLimit run disk closes = absurd (omega (arith, closes))
  by_end told' (Stopped Memory) run disk closes = absurd (omega (arith, closes))
  by_end told' (Stopped Journal) run disk closes = absurd (omega (arith, closes))
  by_end told' (Stopped Broken) run disk closes = absurd (omega (arith, closes))

  past_limit : (end : Served) → ConnectionRun config before begun ended left left' taken taken' clock clock' end → 10 ≡ end_status end
      → (read : List ℕ) × Consumes left left' read × (length read ≡ input_limit + 1)
  past_limit Done run closes = absurd (omega (arith, closes))
  past_limit ReadFault run closes = absurd (omega (arith, closes))
  past_limit WriteFault run closes = absurd (omega (arith, closes))
  past_limit ClockFault run closes = absurd (omega (arith, closes))
  past_limit (Malformed offset) run closes = absurd (omega (arith, closes))
  past_limit InputLimit run closes = (run.read, run.source, run.ends.1)
  past_limit (Stopped Memory) run closes = absurd (omega (arith, closes))
  past_limit (Stopped Journal) run closes = absurd (omega (arith, closes))
  past_limit (Stopped Broken) run closes = absurd (omega (arith, closes))

module _ (config : Config) (before : List Entry) (left left' taken taken' clock clock' : Option (List ℕ)) (opened told' : Option Told) where
  pub served_at_zero : (status : ℕ) → status ≡ 0 → ConnectionOutcome config before left left' taken taken' clock clock' opened told' status
      → AllServed config before left left' taken taken' clock clock' told'
  served_at_zero status is o = by_end config before o.begun o.ended left left' taken taken' clock clock' told' o.end o.run o.disk (sym is ∙ o.closes)

  pub limit_at_ten : (status : ℕ) → status ≡ 10 → ConnectionOutcome config before left left' taken taken' clock clock' opened told' status
      → (read : List ℕ) × Consumes left left' read × (length read ≡ input_limit + 1)
  limit_at_ten status is o = past_limit config before o.begun o.ended left left' taken taken' clock clock' o.end o.run (sym is ∙ o.closes)

-- where nothing failed and the input is within its limit all was served
module _ (config : Config) (before : List Entry) (bytes : List ℕ) (left' taken taken' clock clock' : Option (List ℕ)) (within : length bytes ≤ input_limit) where
  served_by : (begun ended : Standing) (end : Served) (status : ℕ) → ConnectionRun config before begun ended (Some bytes) left' taken taken' clock clock' end → status ≡ end_status end
      → status ≢ 3 → status ≢ 4 → status ≢ 5 → status ≢ 9 → (status ≡ 0) ⊎ (status ≡ 7)
  served_by begun ended Done status run closes three four five nine = inl closes
  served_by begun ended ReadFault status run closes three four five nine = absurd (three closes)
  served_by begun ended WriteFault status run closes three four five nine = absurd (four closes)
  served_by begun ended ClockFault status run closes three four five nine = absurd (nine closes)
  served_by begun ended (Malformed offset) status run closes three four five nine = absurd run.ends
  served_by begun ended InputLimit status run closes three four five nine =
      let front = front_of bytes left' run.read run.source in
      absurd (omega (arith, within, run.ends.1, ap length front.is, length-append run.read front.rest))
  served_by begun ended (Stopped Memory) status run closes three four five nine = inr closes
  served_by begun ended (Stopped Journal) status run closes three four five nine = absurd (five closes)
  served_by begun ended (Stopped Broken) status run closes three four five nine = absurd run.journal

  pub served_whole : (left : Option (List ℕ)) (opened told' : Option Told) (status : ℕ) → left ≡ Some bytes
      → ConnectionOutcome config before left left' taken taken' clock clock' opened told' status
      → status ≢ 3 → status ≢ 4 → status ≢ 5 → status ≢ 9 → (status ≡ 0) ⊎ (status ≡ 7)
  served_whole left opened told' status told o three four five nine =
      served_by o.begun o.ended o.end status (subst (λ l. ConnectionRun config before o.begun o.ended l left' taken taken' clock clock' o.end) told o.run) o.closes three four five nine

-- the same where the disk that it began with is told otherwise
pub served_as : (config : Config) (before : List Entry) (left left' taken taken' clock clock' : Option (List ℕ)) (opened opened' told' : Option Told) (status : ℕ)
    → opened ≡ opened' → ConnectionOutcome config before left left' taken taken' clock clock' opened told' status
    → ConnectionOutcome config before left left' taken taken' clock clock' opened' told' status
served_as config before left left' taken taken' clock clock' opened opened' told' status same outcome =
    subst (λ (t : Option Told). ConnectionOutcome config before left left' taken taken' clock clock' t told' status) same outcome

-- no reply is one to what is no frame
module _ (status : ℕ) where
  abbrev pub IsNone : Type 0
  IsNone = (status ≢ 1) × (status ≢ 2) × (status ≢ 6) × (status ≢ 8) × (status ≤ 10)

  of_number : (n : ℕ) → n ≢ 1 → n ≢ 2 → n ≢ 6 → n ≢ 8 → n ≤ 10 → status ≡ n → IsNone
  of_number n one two six eight most is =
      ((λ at. one (sym is ∙ at)), (λ at. two (sym is ∙ at)), (λ at. six (sym is ∙ at)), (λ at. eight (sym is ∙ at)), omega (arith, most, is))

  pub no_other_of : (end : Served) → status ≡ end_status end → ((offset : ℕ) → end ≢ Malformed offset) → IsNone
  no_other_of Done is never = of_number 0 (omega arith) (omega arith) (omega arith) (omega arith) (omega arith) is
  no_other_of ReadFault is never = of_number 3 (omega arith) (omega arith) (omega arith) (omega arith) (omega arith) is
  no_other_of WriteFault is never = of_number 4 (omega arith) (omega arith) (omega arith) (omega arith) (omega arith) is
  no_other_of ClockFault is never = of_number 9 (omega arith) (omega arith) (omega arith) (omega arith) (omega arith) is
  no_other_of (Malformed offset) is never = absurd (never offset refl)
  no_other_of InputLimit is never = of_number 10 (omega arith) (omega arith) (omega arith) (omega arith) (omega arith) is
  no_other_of (Stopped Memory) is never = of_number 7 (omega arith) (omega arith) (omega arith) (omega arith) (omega arith) is
  no_other_of (Stopped Journal) is never = of_number 5 (omega arith) (omega arith) (omega arith) (omega arith) (omega arith) is
  no_other_of (Stopped Broken) is never = of_number 5 (omega arith) (omega arith) (omega arith) (omega arith) (omega arith) is
