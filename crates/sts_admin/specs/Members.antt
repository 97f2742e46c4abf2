-- What a command's object has under its names.
use Rattle.std.specs.Prelude.{ℕ, List, Bool, Option, Some, option_map, option_and_then, if◌then◌else◌, codes}
use Rattle.std.specs.Str.{bytes_eq}
use Rattle.serde_json.specs.Data.{Data}
use Rattle.serde_json.specs.Find.{get, as_str}
use Rattle.base_types.specs.Forms.{passing}
use Rattle.json_text.specs.Arrays.{short_list}
use Rattle.json_text.specs.Members.{switch}
use Rattle.iam_names.specs.Forms.{passes, is_permission}
use Rattle.allow_policy.specs.declared.scope_set.ScopeSet.{ScopeSet}
use Rattle.allow_policy.specs.declared.scope_set.ScopeSet.TheVariants.{All, List as Only}

-- the boolean under `disabled`, false where it is absent
abbrev pub disabled_at : Data → Option Bool
disabled_at d = switch (get (codes "disabled") d)

-- a text of the form of a permission
abbrev pub permission_of : Data → Option (List ℕ)
permission_of d = option_and_then (passing is_permission) (as_str d)

-- an array of at most 256 permissions
abbrev pub permissions_of : Data → Option (List (List ℕ))
permissions_of d = short_list permission_of 256 d

-- the permissions under `permissions`
abbrev pub permissions_at : Data → Option (List (List ℕ))
permissions_at d = option_and_then permissions_of (get (codes "permissions") d)

-- the text *
abbrev pub is_star : Data → Bool
is_star d = passes (λ text. bytes_eq text (codes "*")) (as_str d)

-- all permissions, or an array of them
abbrev pub scope_set_of : Data → Option ScopeSet
scope_set_of d = if is_star d then Some All else option_map Only (permissions_of d)

-- what a scope word stands for, under `permissions`
abbrev pub scope_set_at : Data → Option ScopeSet
scope_set_at d = option_and_then scope_set_of (get (codes "permissions") d)
