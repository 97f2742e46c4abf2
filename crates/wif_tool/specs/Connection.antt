-- How a run over one connection ends: its status, and what it read, wrote, recorded and asked of the clock.
use Rattle.std.specs.Prelude.{◌≡◌, ℕ, List, ◌++◌, Option}
use Rattle.std.specs.List.{concat}
use Rattle.std.specs.Io.KnownBytes.{Consumes, Appends}
use Rattle.wif_base.specs.Disk.{Leaves, LeavesNow, Told}
use Rattle.service_config.specs.declared.config.Config.{Config}
use Rattle.grant_journal.specs.JournalBytes.{StandsFor}
use Rattle.links.specs.declared.entry.Entry.{Entry}
use Rattle.service_journal.specs.Journals.{texts_of}
use Rattle.sts_core.specs.Runs.{entries_after, replies_of}
use Rattle.sts_core.specs.State.{Standing}
use Rattle.sts_core.specs.declared.stop.Stop.TheVariants.{Memory, Journal, Broken}
use Rattle.sts_serve.specs.Left.{StandsForFront, entries_behind}
use Rattle.sts_serve.specs.declared.served.Served.{Served}
use Rattle.sts_serve.specs.declared.served.Served.TheVariants.{Done, ReadFault, WriteFault, ClockFault, Malformed, InputLimit, Stopped}
use Rattle.http_front.specs.Streams.{StreamBegins}
use Rattle.http_front.specs.declared.rule.HttpRule.{HttpRule}
use Rattle.http_serve.specs.Asked.{Asked, answer, messages, moments, response_texts, refusal_texts}
use Rattle.http_serve.specs.Connection.{ConnectionRun, IsOver}
use Rattle.wif_tool.specs.Opened.{LeavesDisk}

-- the status of each end
abbrev pub end_status : Served → ℕ
end_status Done = 0
end_status ReadFault = 3
end_status WriteFault = 4
end_status (Stopped Memory) = 7
end_status (Stopped Journal) = 5
end_status (Stopped Broken) = 5
end_status (Malformed offset) = 8
end_status ClockFault = 9
end_status InputLimit = 10

-- The account of a run of `stdio` over a journal that was opened: the run over the connection, its status, what a crash may leave at its end,
-- and what a crash at any moment since the opening may leave.
pub record ConnectionOutcome (config : Config) (before : List Entry) (left left' taken taken' clock clock' : Option (List ℕ))
    (opened told' : Option Told) (status : ℕ) : Type 0 where
  pub end : Served
  pub begun : Standing
  pub ended : Standing
  pub run : ConnectionRun config before begun ended left left' taken taken' clock clock' end
  pub closes : status ≡ end_status end
  pub disk : LeavesDisk end (entries_behind (answer config) before run.asked) run.answered run.recorded told'
  pub any_moment : Leaves opened told' (StandsForFront (answer config) before run.asked)

-- the texts of the machine's replies to these requests, and of the reply to what a rule refuses, one after another
abbrev pub responses_text : Config → List Entry → List Asked → Option HttpRule → List ℕ
responses_text config before asked by_rule =
    concat (response_texts asked (replies_of (answer config) before asked) ++ refusal_texts by_rule)

-- The bytes that were read begin with requests, and the stream ends behind them: at the input's end, by a close, or by a rule that refuses
-- what follows. The clock gave each request its moment, the output is the machine's replies to them and the reply by that rule, and a crash
-- leaves their journal.
pub record AllServed (config : Config) (before : List Entry) (left left' taken taken' clock clock' : Option (List ℕ)) (told' : Option Told) : Type 0 where
  pub asked : List Asked
  pub read : List ℕ
  pub rest : List ℕ
  pub by_rule : Option HttpRule
  pub source : Consumes left left' read
  pub stream : StreamBegins read (messages asked) rest
  pub over : IsOver rest left' (messages asked) by_rule
  pub given : Consumes clock clock' (moments asked)
  pub output : Appends taken taken' (responses_text config before asked by_rule)
  pub disk : LeavesNow told' (StandsFor (texts_of (entries_after (answer config) before asked)))
