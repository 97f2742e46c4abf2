-- The words of `listen`, and how a run over connections ends.
use Rattle.std.specs.Prelude.{◌≡◌, ◌≤◌, ℕ, List, [], ◌∷◌, ◌++◌, codes, if◌then◌else◌, length, map, Option, None, Some, Result, Ok, Err, ⊤}
use Rattle.std.specs.Fmt.{decimal}
use Rattle.std.specs.Str.{bytes_eq}
use Rattle.wif_base.specs.Disk.{LeavesNow, Told}
use Rattle.connection_ends.specs.Pairs.{Pair, Takes, Puts}
use Rattle.service_config.specs.declared.config.Config.{Config}
use Rattle.grant_journal.specs.JournalBytes.{StandsFor}
use Rattle.links.specs.declared.entry.Entry.{Entry}
use Rattle.service_journal.specs.Journals.{texts_of}
use Rattle.sts_core.specs.State.{Standing, StandsForEither}
use Rattle.sts_core.specs.declared.stop.Stop.TheVariants.{Memory, Journal, Broken}
use Rattle.http_serve.specs.Listening.{AllGo, ListenRun, Visit, Visits}
use Rattle.http_serve.specs.declared.listen.ListenEnd.{ListenEnd}
use Rattle.http_serve.specs.declared.listen.ListenEnd.TheVariants.{EndsFault, Stopped}
use Rattle.wif_tool.specs.declared.listen_words.Listening.{Listening}

-- ---- the words

-- the words of PORT and COUNT in `listen CONFIG JOURNAL PORT COUNT`
abbrev pub number_words : List (List ℕ) → Option (List ℕ × List ℕ)
number_words [] = None
number_words (name ∷ []) = None
number_words (name ∷ config ∷ []) = None
number_words (name ∷ config ∷ journal ∷ []) = None
number_words (name ∷ config ∷ journal ∷ port ∷ []) = None
number_words (name ∷ config ∷ journal ∷ port ∷ count ∷ []) = if bytes_eq name (codes "listen") then Some (port, count) else None
number_words (name ∷ config ∷ journal ∷ port ∷ count ∷ more ∷ rest) = None

-- both are numbers in decimal
pub record AreNumbers (numbers : Option (List ℕ × List ℕ)) (asked : Listening) : Type 0 where
  pub spelled : numbers ≡ Some (decimal asked.port, decimal asked.count)
  pub port : (1 ≤ asked.port) × (asked.port ≤ 65535)
  pub count : (1 ≤ asked.count) × (asked.count ≤ 1_000_000)

-- the words ask for this port and for so many connections
abbrev pub AsksFor : List (List ℕ) → Listening → Type 0
AsksFor words asked = AreNumbers (number_words words) asked

-- what the numbers say, if they are numbers
abbrev pub Says : Option (List ℕ × List ℕ) → Option Listening → Type 0
Says numbers None = (asked : Listening) → AreNumbers numbers asked → ⊥
Says numbers (Some asked) = AreNumbers numbers asked

-- ---- the run

-- the status of each end
abbrev pub listen_status : Result ⊤ ListenEnd → ℕ
listen_status (Ok done) = 0
listen_status (Err EndsFault) = 3
listen_status (Err (Stopped Memory)) = 7
listen_status (Err (Stopped Journal)) = 5
listen_status (Err (Stopped Broken)) = 5

-- What a crash may leave at the end: the journal behind the last connection; where the disk failed in it, that one or the one behind one
-- request more.
abbrev pub LeavesListened : Result ⊤ ListenEnd → List Visit → List Entry → Option Told → Type 0
LeavesListened (Ok done) visits after told = LeavesNow told (StandsFor (texts_of after))
LeavesListened (Err EndsFault) visits after told = LeavesNow told (StandsFor (texts_of after))
LeavesListened (Err (Stopped Memory)) visits after told = LeavesNow told (StandsFor (texts_of after))
LeavesListened (Err (Stopped Journal)) visits after told =
    (front : List Visit) × (last : Visit) × (visits ≡ front ++ last ∷ []) × LeavesNow told (StandsForEither after last.next)
LeavesListened (Err (Stopped Broken)) visits after told = ⊥

-- The account of a run of `listen` over a journal that was opened: the run over the connections, its status, and what a crash may leave.
pub record ListenOutcome (config : Config) (before : List Entry) (waiting waiting' given given' : Option (List Pair))
    (clock clock' : Option (List ℕ)) (ticks ticks' count : ℕ) (told' : Option Told) (status : ℕ) : Type 0 where
  pub begun : Standing
  pub ended : Standing
  pub end : Result ⊤ ListenEnd
  pub run : ListenRun config before begun ended waiting waiting' given given' clock clock' ticks ticks' count end
  pub closes : status ≡ listen_status end
  pub disk : LeavesListened end run.visits run.after told'

-- So many connections were served one after another, and a crash leaves the journal behind the last.
pub record EachServed (config : Config) (before : List Entry) (waiting waiting' given given' : Option (List Pair))
    (clock clock' : Option (List ℕ)) (count : ℕ) (told' : Option Told) : Type 0 where
  pub begun : Standing
  pub ended : Standing
  pub visits : List Visit
  pub after : List Entry
  pub chain : Visits config before begun clock visits after ended clock'
  pub number : length visits ≡ count
  pub firsts : Takes waiting waiting' (map (λ visit. visit.pair) visits)
  pub backs : Puts given given' (map (λ visit. visit.back) visits)
  pub each : AllGo visits
  pub disk : LeavesNow told' (StandsFor (texts_of after))
