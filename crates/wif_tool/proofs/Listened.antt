-- What the words of `listen` ask for, and what the account of a run over connections says at each status.
use Rattle.std.proofs.Common.{◌≡◌, ◌≢◌, ◌⊎◌, [], ℕ, List, inl, inr, sym, ◌∙◌, ap, subst, arith}
use Rattle.std.proofs.lemmas.Fmt.{decimal_injective}
use Rattle.std.specs.Prelude.{Option, None, Some, Result, Ok, Err, ⊤}
use Rattle.wif_base.specs.Disk.{Told}
use Rattle.connection_ends.specs.Pairs.{Pair}
use Rattle.service_config.specs.declared.config.Config.{Config}
use Rattle.grant_journal.proofs.Stands.{settled_now}
use Rattle.links.specs.declared.entry.Entry.{Entry}
use Rattle.service_journal.specs.Journals.{texts_of}
use Rattle.sts_core.specs.State.{Standing}
use Rattle.sts_core.specs.declared.stop.Stop.TheVariants.{Memory, Journal, Broken}
use Rattle.http_serve.specs.Listening.{Ended, ListenRun, Visit}
use Rattle.http_serve.specs.declared.listen.ListenEnd.{ListenEnd}
use Rattle.http_serve.specs.declared.listen.ListenEnd.TheVariants.{EndsFault, Stopped}
use Rattle.wif_tool.specs.declared.listen_words.Listening.{Listening}
use Rattle.wif_tool.specs.Listening.{AsksFor, EachServed, LeavesListened, ListenOutcome, listen_status}

-- ---- the words

abbrev second : Option (List ℕ × List ℕ) → List ℕ
second None = []
second (Some both) = both.1

pub same_count : (words : List (List ℕ)) (one other : Listening) → AsksFor words one → AsksFor words other → one.count ≡ other.count
same_count words one other asks another =
    decimal_injective one.count other.count (omega (arith, asks.count.1)) (omega (arith, another.count.1)) (ap second (sym asks.spelled ∙ another.spelled))

-- ---- the run

-- as many as another number says
pub counted : (config : Config) (before : List Entry) (waiting waiting' given given' : Option (List Pair)) (clock clock' : Option (List ℕ))
    (ticks ticks' count count' : ℕ) (told' : Option Told) (status : ℕ) → count ≡ count'
    → ListenOutcome config before waiting waiting' given given' clock clock' ticks ticks' count told' status
    → ListenOutcome config before waiting waiting' given given' clock clock' ticks ticks' count' told' status
counted config before waiting waiting' given given' clock clock' ticks ticks' count count' told' status same outcome =
    subst (λ (n : ℕ). ListenOutcome config before waiting waiting' given given' clock clock' ticks ticks' n told' status) same outcome

module _ (config : Config) (before : List Entry) (begun ended : Standing) (waiting waiting' given given' : Option (List Pair))
    (clock clock' : Option (List ℕ)) (ticks ticks' count : ℕ) where
  leaves : (end : Result ⊤ ListenEnd) (visits : List Visit) (after : List Entry) → Ended end config visits count after ended
      → LeavesListened end visits after ended.journal.told
  leaves (Ok done) visits after is = settled_now (texts_of after) ended.journal.len ended.journal.told is.2.settled
  leaves (Err EndsFault) visits after is = settled_now (texts_of after) ended.journal.len ended.journal.told is.2.settled
  leaves (Err (Stopped Memory)) visits after (front, last, whole, few, go, ends, stands) =
      settled_now (texts_of after) ended.journal.len ended.journal.told stands.settled
  leaves (Err (Stopped Journal)) visits after (front, last, whole, few, go, ends, left) = (front, last, whole, left.1)
  leaves (Err (Stopped Broken)) visits after (front, last, whole, few, go, ends, none) = absurd none

  -- the account of a run that ended so
  pub listening_of : (told' : Option Told) (status : ℕ) (end : Result ⊤ ListenEnd)
      → ListenRun config before begun ended waiting waiting' given given' clock clock' ticks ticks' count end
      → status ≡ listen_status end → ended.journal.told ≡ told'
      → ListenOutcome config before waiting waiting' given given' clock clock' ticks ticks' count told' status
  listening_of told' status end run closes at_last = record {
    begun = begun;
    ended = ended;
    end = end;
    run = run;
    closes = closes;
    disk = subst (λ (t : Option Told). LeavesListened end run.visits run.after t) at_last (leaves end run.visits run.after run.ended);
  }

  by_end : (told' : Option Told) (end : Result ⊤ ListenEnd) (run : ListenRun config before begun ended waiting waiting' given given' clock clock' ticks ticks' count end)
      → LeavesListened end run.visits run.after told' → 0 ≡ listen_status end
      → EachServed config before waiting waiting' given given' clock clock' count told'
  by_end told' (Ok done) run disk closes = record {
    begun = begun;
    ended = ended;
    visits = run.visits;
    after = run.after;
    chain = run.chain;
    number = run.ended.0;
    firsts = run.firsts;
    backs = run.backs;
    each = run.ended.1;
    disk = disk;
  }
  by_end told' (Err EndsFault) run disk closes = absurd (omega (arith, closes))
  by_end told' (Err (Stopped Memory)) run disk closes = absurd (omega (arith, closes))
  by_end told' (Err (Stopped Journal)) run disk closes = absurd (omega (arith, closes))
  by_end told' (Err (Stopped Broken)) run disk closes = absurd (omega (arith, closes))

module _ (config : Config) (before : List Entry) (waiting waiting' given given' : Option (List Pair))
    (clock clock' : Option (List ℕ)) (ticks ticks' count : ℕ) (told' : Option Told) (status : ℕ) where
  pub each_at_zero : status ≡ 0 → ListenOutcome config before waiting waiting' given given' clock clock' ticks ticks' count told' status
      → EachServed config before waiting waiting' given given' clock clock' count told'
  each_at_zero is o = by_end config before o.begun o.ended waiting waiting' given given' clock clock' ticks ticks' count told' o.end o.run o.disk (sym is ∙ o.closes)

  -- where nothing failed each connection was served
  by_fault : (visits : List Visit) (after : List Entry) (end : Result ⊤ ListenEnd) → LeavesListened end visits after told' → status ≡ listen_status end
      → status ≢ 3 → status ≢ 5 → (status ≡ 0) ⊎ (status ≡ 7)
  by_fault visits after (Ok done) disk closes three five = inl closes
  by_fault visits after (Err EndsFault) disk closes three five = absurd (three closes)
  by_fault visits after (Err (Stopped Memory)) disk closes three five = inr closes
  by_fault visits after (Err (Stopped Journal)) disk closes three five = absurd (five closes)
  by_fault visits after (Err (Stopped Broken)) disk closes three five = absurd disk

  pub each_served : ListenOutcome config before waiting waiting' given given' clock clock' ticks ticks' count told' status
      → status ≢ 3 → status ≢ 5 → (status ≡ 0) ⊎ (status ≡ 7)
  each_served o three five = by_fault o.run.visits o.run.after o.end o.disk o.closes three five
