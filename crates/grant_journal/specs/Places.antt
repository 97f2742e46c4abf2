-- What stands in a file at a place behind whole records.
use Rattle.std.specs.Prelude.{◌≡◌, ◌≢◌, ◌⊎◌, ◌<◌, ◌≤◌, ℕ, ◌+◌, ◌*◌, List, ◌∷◌, ◌++◌, length, take, drop, slice_index, ⊤}
use Rattle.grant_journal.specs.JournalBytes.{marker, four_bytes, before_gate}
use Rattle.grant_journal.specs.declared.rule.JournalRule.{JournalRule}
use Rattle.grant_journal.specs.declared.rule.JournalRule.TheVariants.{J1, J2, J3, J4, J5}
use Rattle.grant_journal.specs.declared.standing.Standing.{Standing}
use Rattle.grant_journal.specs.declared.standing.Standing.TheVariants.{Closed, Text, Bad}

-- the file begins with the marker
abbrev pub HasMarker : List ℕ → Type 0
HasMarker file = take 8 file ≡ marker

-- The marker and the records of these texts stand in front of this place, and nothing else.
pub record IsBehind (texts : List (List ℕ)) (at : ℕ) (file : List ℕ) : Type 0 where
  pub place : at ≡ length (before_gate texts)
  pub front : take at file ≡ before_gate texts

-- a closed gate stands there
abbrev pub IsClosedAt : List ℕ → ℕ → Type 0
IsClosedAt file at = (at < length file) × (slice_index file at ≢ 1)

-- an open gate stands there, and behind it the length of this text and the text
abbrev pub IsRecordAt : List ℕ → ℕ → List ℕ → Type 0
IsRecordAt file at text = take (5 + length text) (drop at file) ≡ 1 ∷ (four_bytes (length text) ++ text)

-- the number that the four bytes there tell, the most significant first
abbrev pub number_at : List ℕ → ℕ → ℕ
number_at file at =
    slice_index file at * 16777216 + slice_index file (at + 1) * 65536 + slice_index file (at + 2) * 256 + slice_index file (at + 3)

-- the gate byte, the length or the text of the record there passes the end
abbrev pub PassesEnd : List ℕ → ℕ → Type 0
PassesEnd file at = (length file ≤ at) ⊎ ((slice_index file at ≡ 1) × (length file < at + (5 + number_at file (at + 1))))

-- the record there ends within the file, but its length is over the limit
pub record IsTooLongAt (file : List ℕ) (at : ℕ) : Type 0 where
  pub open_gate : slice_index file at ≡ 1
  pub inside : at + (5 + number_at file (at + 1)) ≤ length file
  pub long : 262144 < number_at file (at + 1)

-- The record there breaks this rule, whatever its text says. J1 is of the file, and J4 and J5 are of the text and of what stands in front of it.
abbrev pub BreaksAt : List ℕ → ℕ → JournalRule → Type 0
BreaksAt file at J1 = ⊥
BreaksAt file at J2 = PassesEnd file at
BreaksAt file at J3 = IsTooLongAt file at
BreaksAt file at J4 = ⊥
BreaksAt file at J5 = ⊥

-- what was found there is there
abbrev pub StandsAt : List ℕ → ℕ → Standing → Type 0
StandsAt file at Closed = IsClosedAt file at
StandsAt file at (Text text next) = IsRecordAt file at text.now × (length text.now ≤ 262144)
StandsAt file at (Bad rule) = BreaksAt file at rule

-- the next place is the one right behind the record
abbrev pub IsNext : ℕ → Standing → Type 0
IsNext at Closed = ⊤
IsNext at (Text text next) = next ≡ at + (5 + length text.now)
IsNext at (Bad rule) = ⊤

-- a journal whose closed gate stands there has more bytes than a journal may have
abbrev pub PassesLimit : ℕ → Type 0
PassesLimit at = 67108864 < at + 1
