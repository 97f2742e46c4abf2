-- What a run over a script read, wrote and recorded, and how each end comes.
use Rattle.std.specs.Prelude.{◌≡◌, ◌≢◌, ◌≤◌, ◌<◌, ◌⊎◌, ℕ, ◌+◌, List, [], ◌∷◌, ◌++◌, length, Option, ⊤}
use Rattle.std.specs.Io.KnownBytes.{Consumes, Appends, IsAtEnd}
use Rattle.wif_base.specs.Carried.{input_limit}
use Rattle.wif_base.specs.Disk.{Leaves}
use Rattle.wif_base.specs.Output.{OutputIs}
use Rattle.service_config.specs.declared.config.Config.{Config}
use Rattle.links.specs.declared.entry.Entry.{Entry}
use Rattle.sts_core.specs.Runs.{replies_of}
use Rattle.sts_core.specs.State.{Standing}
use Rattle.sts_serve.specs.Left.{LeavesService, StandsForFront, entries_behind}
use Rattle.sts_serve.specs.Frames.{ScriptBegins, NoFrame, NeverFrame, reply_frames, answer, script_text}
use Rattle.sts_serve.specs.declared.frame.Frame.{Frame}
use Rattle.sts_serve.specs.declared.served.Served.{Served}
use Rattle.sts_core.specs.declared.stop.Stop.TheVariants.{Memory, Journal, Broken}
use Rattle.sts_serve.specs.declared.served.Served.TheVariants.{Done, ReadFault, WriteFault, ClockFault, Malformed, InputLimit, Stopped}

-- What is known of each end: the bytes read, what the source has left, the frames that were found in them and the
-- rest behind these, and how many were answered whole.
abbrev pub EndsAs : Served → List ℕ → Option (List ℕ) → List Frame → List ℕ → ℕ → Type 0
-- the input was read to its end, and each byte of it belongs to a frame that was answered
EndsAs Done read left frames rest answered = (rest ≡ []) × (answered ≡ length frames) × IsAtEnd left × (length read ≤ input_limit)
-- a rest is there and is no frame: it can't become one, or the input is at its end
EndsAs (Malformed offset) read left frames rest answered =
    (rest ≢ []) × NoFrame rest × (answered ≡ length frames)
    × (offset ≡ length (script_text frames)) × (NeverFrame rest ⊎ IsAtEnd left) × (length read ≤ input_limit)
-- each frame that is whole in the bytes read was answered
EndsAs ReadFault read left frames rest answered = NoFrame rest × (answered ≡ length frames) × (length read ≤ input_limit)
-- each frame that is whole in the bytes within the limit was answered, and one byte more was read
EndsAs InputLimit read left frames rest answered = (length read ≡ input_limit + 1) × (answered ≡ length frames)
    × ((within : List ℕ) × (last : ℕ) × (rest ≡ within ++ last ∷ []) × NoFrame within)
EndsAs WriteFault read left frames rest answered = length read ≤ input_limit
EndsAs (Stopped Memory) read left frames rest answered = ⊤
EndsAs (Stopped Journal) read left frames rest answered = answered < length frames
EndsAs (Stopped Broken) read left frames rest answered = ⊥
-- a script asks for no moment
EndsAs ClockFault read left frames rest answered = ⊥

-- The account of a run over a script: what it read from the source, what it wrote to the sink, and the journal that it left.
pub record ScriptRun (config : Config) (before : List Entry) (old new : Standing) (left left' taken taken' : Option (List ℕ)) (end : Served) : Type 0 where
  pub read : List ℕ
  pub written : List ℕ
  pub source : Consumes left left' read
  pub sink : Appends taken taken' written
  -- the bytes read begin with these frames
  pub frames : List Frame
  pub rest : List ℕ
  pub script : ScriptBegins read frames rest
  -- the output is the replies to the first of them, so many, and a proper part of the next reply
  pub answered : ℕ
  pub within : answered ≤ length frames
  pub output : OutputIs (reply_frames (replies_of (answer config) before frames)) answered written
  -- the journal has the entries of the requests answered whole, or of one more, which is known to be there unless the disk failed; a reply is
  -- begun only behind its entry
  pub recorded : ℕ
  -- a reply is cut short by a write fault alone
  pub cut : end ≢ WriteFault → output.part ≡ []
  pub begun : ((recorded ≡ answered) × (output.part ≡ [])) ⊎ ((recorded ≡ answered + 1) × (end ≢ Stopped Journal))
  pub journal : LeavesService end config (entries_behind (answer config) before frames recorded) (entries_behind (answer config) before frames (recorded + 1)) new
  -- a crash at any moment of the run leaves the journal behind some of the frames
  pub any_moment : Leaves old.journal.told new.journal.told (StandsForFront (answer config) before frames)
  pub ends : EndsAs end read left' frames rest answered
