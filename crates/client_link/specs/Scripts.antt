-- The replies of a link in memory.
use Rattle.std.specs.Prelude.{ℕ, List, length, nat_le, slice_get, Option, None, option_and_then, if◌then◌else◌}
use Rattle.base_types.specs.Forms.{passing}
use Rattle.wif_base.specs.Counts.{is_chosen}

-- the reply of that number, where there is one of at most 65,536 bytes
abbrev pub next_reply : List (List ℕ) → ℕ → Option (List ℕ)
next_reply replies number = option_and_then (passing (λ reply. nat_le (length reply) 65536)) (slice_get replies number)

-- the reply to a call, behind so many that were answered; none where the call is to fail
abbrev pub script_reply : List ℕ → ℕ → List (List ℕ) → ℕ → Option (List ℕ)
script_reply fail call replies answered = if is_chosen fail call then None else next_reply replies answered
