-- Forms of texts that several readers ask for.
use Rattle.std.specs.Prelude.{ℕ, List, length, Bool, ◌&&◌, Option, None, Some, if◌then◌else◌, nat_le}
use Rattle.std.specs.List.{list_all}

-- from so many bytes to so many
abbrev pub has_size : ℕ → ℕ → List ℕ → Bool
has_size low high bytes = nat_le low (length bytes) && nat_le (length bytes) high

-- visible ASCII
abbrev pub is_visible : ℕ → Bool
is_visible byte = nat_le 33 byte && nat_le byte 126

abbrev pub is_visible_text : List ℕ → Bool
is_visible_text bytes = list_all is_visible bytes

-- the value, where it passes the test
abbrev pub passing : {X : Type 0} → (X → Bool) → X → Option X
passing test x = if test x then Some x else None
