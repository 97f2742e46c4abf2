-- One service over connections, one after another.
use Rattle.std.specs.Prelude.{◌≡◌, ◌≤◌, ◌<◌, ◌+◌, ◌-◌, ◌^◌, min, ℕ, List, [], ◌∷◌, ◌++◌, length, map, Option, Result, Ok, Err, ⊤}
use Rattle.std.specs.List.{AllByRecursion}
use Rattle.wif_base.specs.Causes.{Rose}
use Rattle.connection_ends.specs.Pairs.{Pair, Takes, Puts}
use Rattle.service_config.specs.declared.config.Config.{Config}
use Rattle.links.specs.declared.entry.Entry.{Entry}
use Rattle.sts_core.specs.State.{Standing, Stands}
use Rattle.sts_serve.specs.Left.{LeavesService, entries_behind}
use Rattle.sts_serve.specs.declared.served.Served.{Served}
use Rattle.sts_serve.specs.declared.served.Served.TheVariants.{Done, ReadFault, WriteFault, ClockFault, Malformed, InputLimit, Stopped}
use Rattle.http_serve.specs.Asked.{answer}
use Rattle.http_serve.specs.Connection.{ConnectionRun}
use Rattle.http_serve.specs.declared.listen.ListenEnd.{ListenEnd}
use Rattle.http_serve.specs.declared.listen.ListenEnd.TheVariants as listen_end

-- ---- one connection

-- Its ends before and behind, the moments of the clock before and behind, how it ended, and the service that it left,
-- with its journal and the journal behind one request more.
pub record Visit : Type 0 where
  pub pair : Pair
  pub back : Pair
  pub clock : Option (List ℕ)
  pub clock' : Option (List ℕ)
  pub end : Served
  pub sts : Standing
  pub after : List Entry
  pub next : List Entry

-- This service served the connection from that journal, and a fault in reading or writing is one of the pair's own.
pub record IsVisit (config : Config) (before : List Entry) (old : Standing) (visit : Visit) : Type 0 where
  pub run : ConnectionRun config before old visit.sts visit.pair.left visit.back.left
      visit.pair.taken visit.back.taken visit.clock visit.clock' visit.end
  pub after : visit.after ≡ entries_behind (answer config) before run.asked run.recorded
  pub next : visit.next ≡ entries_behind (answer config) before run.asked (run.recorded + 1)
  pub read_fault : visit.end ≡ ReadFault → Rose visit.pair.read_faults visit.back.read_faults
  pub write_fault : visit.end ≡ WriteFault → Rose visit.pair.write_faults visit.back.write_faults

-- ---- all of them

-- each connection is served from the journal, by the service and by the clock that the one before it left
abbrev pub Visits : Config → List Entry → Standing → Option (List ℕ) → List Visit
    → List Entry → Standing → Option (List ℕ) → Type 0
Visits config before old clock [] after new clock' = (after ≡ before) × (new ≡ old) × (clock' ≡ clock)
Visits config before old clock (visit ∷ visits) after new clock' =
    IsVisit config before old visit × (visit.clock ≡ clock)
    × Visits config visit.after visit.sts visit.clock' visits after new clock'

-- the service goes on behind such an end
abbrev pub Goes : Served → Type 0
Goes Done = ⊤
Goes ReadFault = ⊤
Goes WriteFault = ⊤
Goes ClockFault = ⊤
Goes (Malformed offset) = ⊤
Goes InputLimit = ⊤
Goes (Stopped stop) = ⊥

abbrev pub AllGo : List Visit → Type 0
AllGo visits = AllByRecursion (λ visit. Goes visit.end) visits

abbrev pub clock_faults : Served → ℕ
clock_faults Done = 0
clock_faults ReadFault = 0
clock_faults WriteFault = 0
clock_faults ClockFault = 1
clock_faults (Malformed offset) = 0
clock_faults InputLimit = 0
clock_faults (Stopped stop) = 0

-- in how many of them the clock failed
abbrev pub clock_failures : List Visit → ℕ
clock_failures [] = 0
clock_failures (visit ∷ visits) = clock_faults visit.end + clock_failures visits

-- How the run ended: the connections, how many were wanted, and the journal and the service that the last of them left.
abbrev pub Ended : Result ⊤ ListenEnd → Config → List Visit → ℕ → List Entry → Standing → Type 0
-- so many were served, none stopped, and the service stands for the journal
Ended (Ok done) config visits count after new = (length visits ≡ count) × AllGo visits × Stands new config after
-- there was no next one
Ended (Err listen_end.EndsFault) config visits count after new =
    (length visits < count) × AllGo visits × Stands new config after
-- the last of them stopped, and none before; where the disk failed, what a crash may leave stands for the journal or for
-- the one behind one request more
Ended (Err (listen_end.Stopped stop)) config visits count after new =
    (front : List Visit) × (last : Visit) × (visits ≡ front ++ last ∷ []) × (length visits ≤ count)
    × AllGo front × (last.end ≡ Stopped stop) × LeavesService (Stopped stop) config after last.next new

-- The account of a run over several connections.
pub record ListenRun (config : Config) (before : List Entry) (old new : Standing)
    (waiting waiting' given given' : Option (List Pair)) (clock clock' : Option (List ℕ)) (ticks ticks' count : ℕ)
    (result : Result ⊤ ListenEnd) : Type 0 where
  pub visits : List Visit
  pub after : List Entry
  pub chain : Visits config before old clock visits after new clock'
  -- they were the first that waited, and were given back in turn
  pub firsts : Takes waiting waiting' (map (λ visit. visit.pair) visits)
  pub backs : Puts given given' (map (λ visit. visit.back) visits)
  -- the clock failed in at most as many as its count rose by
  pub failures : min (ticks + clock_failures visits) (2 ^ 64 - 1) ≤ ticks'
  pub ended : Ended result config visits count after new
