-- Roles and what they hold.
use Rattle.std.specs.Prelude.{ℕ, List, Bool, is_some}
use Rattle.std.specs.List.{list_any}
use Rattle.std.specs.Str.{bytes_eq}
use Rattle.base_types.specs.Named.{value_at}
use Rattle.iam_names.specs.Forms.{passes}

-- whether the role is there
abbrev pub knows : List (List ℕ × List (List ℕ)) → List ℕ → Bool
knows roles role = is_some (value_at role roles)

-- whether the role is there with that permission
abbrev pub holds : List (List ℕ × List (List ℕ)) → List ℕ → List ℕ → Bool
holds roles role permission = passes (list_any (bytes_eq permission)) (value_at role roles)
