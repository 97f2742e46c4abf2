-- How a run of the program ends: its status, and what it read and wrote.
use Rattle.std.specs.Prelude.{◌≡◌, ◌≢◌, ◌≤◌, ◌<◌, ◌⊎◌, ℕ, List, [], ◌++◌, length, Option, Some}
use Rattle.std.specs.List.{AllByRecursion, concat}
use Rattle.std.specs.Io.KnownBytes.{Consumes, Appends, IsAtEnd}
use Rattle.wif_base.specs.Carried.{input_limit}
use Rattle.wif_base.specs.Whole.{IsReadWhole}
use Rattle.wif_base.specs.Disk.{Leaves, LeavesNow, Told}
use Rattle.cel_lines.specs.Lines.{AreLines, LinesBegin, IsTooLong}
use Rattle.cel_lines.specs.Run.{LinesRun}
use Rattle.cel_lines.specs.declared.end.LinesEnd.{LinesEnd}
use Rattle.cel_lines.specs.declared.end.LinesEnd.TheVariants as lines
use Rattle.service_config.specs.declared.config.Config.{Config}
use Rattle.service_config.specs.Configuration.{IsConfiguration, config_limit}
use Rattle.grant_journal.specs.JournalBytes.{StandsFor}
use Rattle.links.specs.declared.entry.Entry.{Entry}
use Rattle.service_journal.specs.Journals.{IsKept, StandsForEntries, texts_of}
use Rattle.sts_core.specs.Runs.{entries_after, replies_of}
use Rattle.sts_core.specs.State.{Standing}
use Rattle.sts_serve.specs.Frames.{IsFrame, script_text, NoFrame, NeverFrame, reply_frames, answer}
use Rattle.sts_serve.specs.Left.{StandsForFront, entries_behind}
use Rattle.sts_serve.specs.Served.{ScriptRun}
use Rattle.sts_serve.specs.declared.frame.Frame.{Frame}
use Rattle.sts_core.specs.declared.stop.Stop.TheVariants.{Memory, Journal, Broken}
use Rattle.sts_serve.specs.declared.served.Served.{Served}
use Rattle.sts_serve.specs.declared.served.Served.TheVariants.{Done, ReadFault, WriteFault, ClockFault, Malformed, InputLimit, Stopped}
use Rattle.wif_tool.specs.Command.{command}
use Rattle.wif_tool.specs.Lines.{LineDue, malformed_line}
use Rattle.wif_tool.specs.Opened.{LeavesDisk, NoJournal}
use Rattle.wif_tool.specs.declared.command.Command.TheVariants.{Cel}

-- ---- the configuration

-- the configuration's bytes were read to their end, or past the limit
abbrev pub ConfigRead : Option (List ℕ) → Option (List ℕ) → List ℕ → Type 0
ConfigRead left left' bytes = IsReadWhole config_limit left left' bytes

-- What was read is this configuration.
pub record Configured (left left' : Option (List ℕ)) (config : Config) : Type 0 where
  pub bytes : List ℕ
  pub read : ConfigRead left left' bytes
  pub is : IsConfiguration bytes config

-- bytes that are no configuration
abbrev pub NoConfiguration : List ℕ → Type 0
NoConfiguration bytes = (config : Config) → IsConfiguration bytes config → ⊥

-- What was read is no configuration.
pub record NotConfigured (left left' : Option (List ℕ)) : Type 0 where
  pub bytes : List ℕ
  pub read : ConfigRead left left' bytes
  pub none : NoConfiguration bytes

-- The run ended before the disk was looked at: at a configuration that is none, at a fault in reading it, or for want of memory.
abbrev pub StopsBefore : ℕ → Type 0
StopsBefore status = (status ≡ 1) ⊎ ((status ≡ 3) ⊎ (status ≡ 7))

-- ---- a run over a script

-- the status of each end, and what follows the replies
abbrev pub Closes : Served → Option (List ℕ) → Option (List ℕ) → ℕ → Type 0
Closes Done taken taken' status = (status ≡ 0) × (taken' ≡ taken)
Closes ReadFault taken taken' status = (status ≡ 3) × (taken' ≡ taken)
Closes WriteFault taken taken' status = (status ≡ 4) × (taken' ≡ taken)
Closes (Stopped Memory) taken taken' status = (status ≡ 7) × (taken' ≡ taken)
Closes (Stopped Journal) taken taken' status = (status ≡ 5) × (taken' ≡ taken)
Closes (Stopped Broken) taken taken' status = (status ≡ 5) × (taken' ≡ taken)
Closes (Malformed offset) taken taken' status = LineDue (malformed_line offset) 8 taken taken' status
Closes ClockFault taken taken' status = (status ≡ 9) × (taken' ≡ taken)
Closes InputLimit taken taken' status = (status ≡ 10) × (taken' ≡ taken)

-- The account of a run of `script` over a journal that was opened: the run over the frames, how it closes, what a crash may leave at its end,
-- and what a crash at any moment since the opening may leave.
pub record ScriptOutcome (config : Config) (before : List Entry) (left left' taken taken' : Option (List ℕ)) (opened told' : Option Told) (status : ℕ) : Type 0 where
  pub end : Served
  pub replied : Option (List ℕ)
  pub begun : Standing
  pub ended : Standing
  pub run : ScriptRun config before begun ended left left' taken replied end
  pub closes : Closes end replied taken' status
  pub disk : LeavesDisk end (entries_behind (answer config) before run.frames) run.answered run.recorded told'
  pub any_moment : Leaves opened told' (StandsForFront (answer config) before run.frames)

-- the texts of the machine's replies to these frames, one after another
abbrev pub replies_text : Config → List Entry → List Frame → List ℕ
replies_text config before frames = concat (reply_frames (replies_of (answer config) before frames))

-- Each byte of the input belongs to a frame, the output is the replies of the machine to these frames, and a crash leaves their journal.
pub record AllAnswered (config : Config) (before : List Entry) (left left' taken taken' : Option (List ℕ)) (told' : Option Told) : Type 0 where
  pub frames : List Frame
  pub each : AllByRecursion IsFrame frames
  pub input : Consumes left left' (script_text frames)
  pub ended : IsAtEnd left'
  pub output : Appends taken taken' (replies_text config before frames)
  pub disk : LeavesNow told' (StandsFor (texts_of (entries_after (answer config) before frames)))

-- Behind whole frames stands what is no frame. The output is the replies of the machine to these frames, and the line
-- that tells the place. A crash leaves the journal of these frames.
pub record AnsweredUpTo (config : Config) (before : List Entry) (left left' taken taken' : Option (List ℕ)) (told' : Option Told) : Type 0 where
  pub frames : List Frame
  pub rest : List ℕ
  pub each : AllByRecursion IsFrame frames
  pub input : Consumes left left' (script_text frames ++ rest)
  pub some : rest ≢ []
  pub none : NoFrame rest
  pub settled : NeverFrame rest ⊎ IsAtEnd left'
  pub output : Appends taken taken' (replies_text config before frames ++ malformed_line (length (script_text frames)))
  pub disk : LeavesNow told' (StandsFor (texts_of (entries_after (answer config) before frames)))

-- ---- what is of its form before a run

-- What there is is this configuration.
pub record HasSetup (config : Option (List ℕ)) (setup : Config) : Type 0 where
  pub bytes : List ℕ
  pub told : config ≡ Some bytes
  pub configured : IsConfiguration bytes setup

-- The configuration is of its form, and the disk holds a journal of it.
pub record HoldsJournal (config : Option (List ℕ)) (disk : Option Told) : Type 0 where
  pub setup : Config
  pub configured : HasSetup config setup
  pub held : Told
  pub tells : disk ≡ Some held
  pub entries : List Entry
  pub kept : IsKept setup entries
  pub stands : StandsForEntries entries held.now.bytes

-- The configuration is of its form, and the disk holds no journal of it.
pub record HoldsNoJournal (config : Option (List ℕ)) (disk : Option Told) : Type 0 where
  pub setup : Config
  pub configured : HasSetup config setup
  pub held : Told
  pub tells : disk ≡ Some held
  pub none : NoJournal setup held.now.bytes

-- The input is a script, of at most 2^30 bytes.
pub record HasScript (input : Option (List ℕ)) : Type 0 where
  pub frames : List Frame
  pub each : AllByRecursion IsFrame frames
  pub whole : input ≡ Some (script_text frames)
  pub within : length (script_text frames) ≤ input_limit

-- ---- a run over lines

-- the status of each end of a run over lines
abbrev pub lines_status : LinesEnd → ℕ
lines_status lines.Done = 0
lines_status lines.ReadFault = 3
lines_status lines.WriteFault = 4
lines_status lines.Memory = 7
lines_status lines.LineTooLong = 8
lines_status lines.InputLimit = 10

-- The account of a whole run of `cel`: the run over the lines, and the status of its end.
pub record CelOutcome (left left' taken taken' : Option (List ℕ)) (status : ℕ) : Type 0 where
  pub end : LinesEnd
  pub run : LinesRun left left' taken taken' end
  pub closes : status ≡ lines_status end

-- The words are `cel`, and the input is lines of at most 65,536 bytes.
pub record HasLines (words : List (List ℕ)) (input : Option (List ℕ)) : Type 0 where
  pub cel : command words ≡ Some Cel
  pub bytes : List ℕ
  pub told : input ≡ Some bytes
  pub lines : List (List ℕ)
  pub are : AreLines bytes lines
  pub within : length bytes ≤ input_limit

-- The words are `cel`, and behind some lines the input has one that is too long.
pub record HasLongLine (words : List (List ℕ)) (input : Option (List ℕ)) : Type 0 where
  pub cel : command words ≡ Some Cel
  pub bytes : List ℕ
  pub told : input ≡ Some bytes
  pub lines : List (List ℕ)
  pub rest : List ℕ
  pub begins : LinesBegin bytes lines rest
  pub long : IsTooLong rest
