-- What a run over one connection read, wrote and recorded, and how each end comes.
use Rattle.std.specs.Prelude.{◌≡◌, ◌≢◌, ◌≤◌, ◌<◌, ◌⊎◌, ℕ, ◌+◌, List, [], ◌∷◌, ◌++◌, length, Option, None, Some, ⊤}
use Rattle.std.specs.List.{AllByRecursion}
use Rattle.std.specs.Io.KnownBytes.{Consumes, Appends, IsAtEnd}
use Rattle.wif_base.specs.Carried.{input_limit}
use Rattle.wif_base.specs.Disk.{Leaves}
use Rattle.wif_base.specs.Output.{OutputIs}
use Rattle.service_config.specs.declared.config.Config.{Config}
use Rattle.links.specs.declared.entry.Entry.{Entry}
use Rattle.sts_core.specs.Runs.{replies_of}
use Rattle.sts_core.specs.State.{Standing}
use Rattle.sts_core.specs.declared.stop.Stop.TheVariants.{Memory, Journal, Broken}
use Rattle.sts_serve.specs.Left.{LeavesService, StandsForFront, entries_behind}
use Rattle.sts_serve.specs.declared.served.Served.{Served}
use Rattle.sts_serve.specs.declared.served.Served.TheVariants.{Done, ReadFault, WriteFault, ClockFault, Malformed, InputLimit, Stopped}
use Rattle.http_front.specs.Messages.{Message, IsMessage, message_text, IsPart}
use Rattle.http_front.specs.Reading.{RefusedAt}
use Rattle.http_front.specs.Streams.{StreamBegins, GoesOn, EndsStream, closed}
use Rattle.http_front.specs.declared.rule.HttpRule.{HttpRule}
use Rattle.http_serve.specs.Asked.{Asked, answer, messages, moments, response_texts, refusal_texts}

-- ---- the ends

-- a request stands at the front of these bytes
abbrev pub HasMessage : List ℕ → Type 0
HasMessage bytes = (message : Message) × (more : List ℕ) × IsMessage message × (bytes ≡ message_text message ++ more)

-- how the stream of requests ended, as far as these bytes tell
abbrev pub IsOver : List ℕ → Option (List ℕ) → List Message → Option HttpRule → Type 0
-- each byte belongs to a request that was answered, and the input is at its end; or the last request asked for a close
IsOver rest left found None = (GoesOn found × (rest ≡ []) × IsAtEnd left) ⊎ EndsStream closed found rest
-- what follows is refused, however the bytes go on, or at the input's end
IsOver rest left found (Some rule) = GoesOn found × RefusedAt rest left rule

-- What is known of each end: the bytes read, what the source has left, the requests that were found in them and the rest
-- behind these, the rule that refuses the rest, if there was one, and how many texts were written whole.
abbrev pub EndsAs : Served → List ℕ → Option (List ℕ) → List Message → List ℕ → Option HttpRule → ℕ → Type 0
EndsAs Done read left found rest by_rule answered =
    IsOver rest left found by_rule × (answered ≡ length found + length (refusal_texts by_rule)) × (length read ≤ input_limit)
-- each request that is whole in the bytes read was answered, and nothing in them was refused
EndsAs ReadFault read left found rest by_rule answered =
    GoesOn found × IsPart rest × (by_rule ≡ None) × (answered ≡ length found) × (length read ≤ input_limit)
-- one request more is whole, and has no moment
EndsAs ClockFault read left found rest by_rule answered =
    GoesOn found × HasMessage rest × (by_rule ≡ None) × (answered ≡ length found) × (length read ≤ input_limit)
-- each request that is whole in the bytes within the limit was answered, and one byte more was read
EndsAs InputLimit read left found rest by_rule answered =
    GoesOn found × (length read ≡ input_limit + 1) × (by_rule ≡ None) × (answered ≡ length found)
    × ((within : List ℕ) × (last : ℕ) × (rest ≡ within ++ last ∷ []) × IsPart within)
-- the reply to a request or to a refusal was due
EndsAs WriteFault read left found rest None answered = (answered < length found) × (length read ≤ input_limit)
EndsAs WriteFault read left found rest (Some rule) answered =
    GoesOn found × RefusedAt rest left rule × (answered ≡ length found) × (length read ≤ input_limit)
EndsAs (Stopped Memory) read left found rest None answered = ⊤
EndsAs (Stopped Memory) read left found rest (Some rule) answered =
    GoesOn found × RefusedAt rest left rule × (answered ≡ length found) × (length read ≤ input_limit)
-- a refusal does not touch the disk
EndsAs (Stopped Journal) read left found rest None answered = (answered < length found) × (length read ≤ input_limit)
EndsAs (Stopped Journal) read left found rest (Some rule) answered = ⊥
EndsAs (Stopped Broken) read left found rest by_rule answered = ⊥
-- what is no request is refused
EndsAs (Malformed offset) read left found rest by_rule answered = ⊥

-- The account of a run over one connection: what it read from the source, what it wrote to the sink, which moments the
-- clock gave it, and the journal that it left.
pub record ConnectionRun (config : Config) (before : List Entry) (old new : Standing)
    (left left' taken taken' clock clock' : Option (List ℕ)) (end : Served) : Type 0 where
  pub read : List ℕ
  pub written : List ℕ
  pub source : Consumes left left' read
  pub sink : Appends taken taken' written
  -- the bytes read begin with these requests, of which only the last may ask for a close
  pub asked : List Asked
  pub rest : List ℕ
  pub stream : StreamBegins read (messages asked) rest
  pub only_last : (front : List Message) (last : Message) → messages asked ≡ front ++ last ∷ [] → GoesOn front
  -- the clock gave each of them its moment, in turn, and no other
  pub given : Consumes clock clock' (moments asked)
  pub timely : AllByRecursion (λ at. at ≤ 200_000_000_000) (moments asked)
  -- the output is the first of the replies to them, so many, and a proper part of the next; the reply to what a rule
  -- refuses is the last
  pub by_rule : Option HttpRule
  pub answered : ℕ
  pub within : answered ≤ length asked + length (refusal_texts by_rule)
  pub output : OutputIs (response_texts asked (replies_of (answer config) before asked) ++ refusal_texts by_rule)
      answered written
  -- a reply is cut short by a write fault alone
  pub cut : end ≢ WriteFault → output.part ≡ []
  -- the journal has the entries of the requests answered whole, or of one more, which is known to be there unless the
  -- disk failed; a reply is begun only behind its entry
  pub recorded : ℕ
  pub begun : ((recorded ≡ answered) × (output.part ≡ [])) ⊎ ((recorded ≡ answered + 1) × (end ≢ Stopped Journal))
  pub journal : LeavesService end config (entries_behind (answer config) before asked recorded)
      (entries_behind (answer config) before asked (recorded + 1)) new
  -- a crash at any moment of the run leaves the journal behind some of the requests
  pub any_moment : Leaves old.journal.told new.journal.told (StandsForFront (answer config) before asked)
  pub ends : EndsAs end read left' (messages asked) rest by_rule answered
