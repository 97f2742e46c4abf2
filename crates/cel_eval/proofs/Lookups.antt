-- A name is looked for among what was bound, the last first.
use Rattle.std.proofs.Common.{◌≡◌, ◌+◌, ◌<◌, ◌++◌, ℕ, List, Some, cond, length, take, reverse, get_or}
use Rattle.std.specs.Str.{bytes_eq}
use Rattle.std.proofs.lemmas.List.{take_more, reverse-append}
use Rattle.cel_values.specs.declared.env.Binding.{Binding}
use Rattle.cel_eval.specs.Denotation.{lookup}

pub last_bound : (name : List ℕ) (bound given : List Binding) (n : ℕ) (b : Binding) → n < length bound → lookup name (reverse (take (n + 1) bound) ++ given) ≡ cond (bytes_eq name (get_or bound n b).name) (Some (get_or bound n b).value) (lookup name (reverse (take n bound) ++ given))
last_bound name bound given n b h = rw (take_more bound n b h, reverse-append)
