-- What a try to read one request took and found.
use Rattle.std.specs.Prelude.{ℕ, ◌≡◌, ◌≤◌, ◌⊎◌, ◌+◌, List, [], ◌∷◌, ◌++◌, length, Option, None, Some, Result, Ok, Err}
use Rattle.std.specs.Io.KnownBytes.{Consumes, IsAtEnd}
use Rattle.wif_base.specs.Carried.{Carried, input_limit}
use Rattle.http_front.specs.Messages.{Message, IsMessage, message_text, Asks, Refused, IsPart}
use Rattle.http_front.specs.declared.incoming.Incoming.{Incoming}
use Rattle.http_front.specs.declared.incoming.HttpEnd.{HttpEnd}
use Rattle.http_front.specs.declared.incoming.HttpEnd.TheVariants as http_end
use Rattle.http_front.specs.declared.rule.HttpRule.{HttpRule}

-- refused however the bytes go on, or at the input's end
abbrev pub RefusedAt : List ℕ → Option (List ℕ) → HttpRule → Type 0
RefusedAt bytes left rule = ((more : List ℕ) → Refused (bytes ++ more) rule) ⊎ (Refused bytes rule × IsAtEnd left)

-- What was found: in `all`, the bytes at hand at first and behind them those that were taken, with `left` what the source
-- has left, and with `now` what is at hand then and how many bytes were taken in all.
abbrev pub Found : Option (List ℕ) → List ℕ → Carried → Result (Option Incoming) HttpEnd → Type 0
-- one request stood at the front, and the bytes behind it are at hand
Found left all now (Ok (Some incoming)) =
    ((message : Message) × IsMessage message × Asks message incoming × (all ≡ message_text message ++ now.unused))
    × (now.taken ≤ input_limit)
-- the input is at its end before a first byte
Found left all now (Ok None) = (all ≡ []) × IsAtEnd left × (now.unused ≡ []) × (now.taken ≤ input_limit)
-- the bytes break the rule
Found left all now (Err (http_end.Refused rule)) = RefusedAt all left rule × (now.taken ≤ input_limit)
-- no request was whole, and none was refused
Found left all now (Err http_end.ReadFault) = IsPart all × (now.taken ≤ input_limit)
-- one byte past the limit was taken, and of the bytes before it the same holds
Found left all now (Err http_end.InputLimit) =
    (now.taken ≡ input_limit + 1)
    × ((within : List ℕ) × (last : ℕ) × (all ≡ within ++ last ∷ []) × IsPart within)
Found left all now (Err http_end.Memory) = Unit {0}

-- So many bytes were taken in all. At want of memory nothing is said of it.
abbrev pub CountedAs : {A : Type 0} → ℕ → ℕ → Result A HttpEnd → Type 0
CountedAs count now (Ok found) = now ≡ count
CountedAs count now (Err (http_end.Refused rule)) = now ≡ count
CountedAs count now (Err http_end.ReadFault) = now ≡ count
CountedAs count now (Err http_end.InputLimit) = now ≡ count
CountedAs count now (Err http_end.Memory) = Unit {0}

-- These bytes were taken from the source, and this was found.
pub record Reads
    (left left' : Option (List ℕ)) (old new : Carried) (result : Result (Option Incoming) HttpEnd) : Type 0 where
  pub bytes : List ℕ
  pub source : Consumes left left' bytes
  pub taken : CountedAs (old.taken + length bytes) new.taken result
  pub found : Found left' (old.unused ++ bytes) new result
