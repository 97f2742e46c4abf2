-- A name is looked for among what was bound, the last first.
use Rattle.std.proofs.Common.{◌≡◌, ◌+◌, ◌<◌, ◌++◌, ℕ, List, Some, cond, length, take, reverse, get_or}
use Rattle.std.specs.Str.{bytes_eq}
use Rattle.std.proofs.lemmas.List.{take_more, reverse-append}
use Rattle.cel_types.specs.declared.cel_type.Declaration.{Declaration}
use Rattle.cel_types.specs.Rules.{declared}

pub last_bound : (name : List ℕ) (bound given : List Declaration) (n : ℕ) (b : Declaration) → n < length bound → declared name (reverse (take (n + 1) bound) ++ given) ≡ cond (bytes_eq name (get_or bound n b).name) (Some (get_or bound n b).of) (declared name (reverse (take n bound) ++ given))
last_bound name bound given n b h = rw (take_more bound n b h, reverse-append)
