-- A number that is looked at up to a bound.
use Rattle.std.specs.Prelude.{ℕ, nat_le, Option, None, Some, if◌then◌else◌}

-- the number, where it is at most so much
abbrev pub bounded : ℕ → Option ℕ → Option ℕ
bounded most None = None
bounded most (Some n) = if nat_le n most then Some n else None
