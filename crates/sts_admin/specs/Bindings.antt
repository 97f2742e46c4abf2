-- The bindings of an allow policy.
use Rattle.std.specs.Prelude.{ℕ, List, [], ◌∷◌, Option, None, Some, option_map, option_and_then, codes}
use Rattle.serde_json.specs.Data.{Data}
use Rattle.serde_json.specs.Find.{get, as_str}
use Rattle.base_types.specs.Reading.{◌>>=◌}
use Rattle.iam_names.specs.Forms.{is_role}
use Rattle.iam_names.specs.Member.{member_of}
use Rattle.iam_names.specs.declared.member.Member.{Member}
use Rattle.cel_types.specs.declared.cel_type.CelType.{CelType}
use Rattle.cel_expression.specs.declared.expression.Expression.{Expression}
use Rattle.cel_reader.specs.Expressions.{expression_of}
use Rattle.allow_policy.specs.Conditions.{condition_names}
use Rattle.allow_policy.specs.declared.binding.Binding.{Binding}
use Rattle.json_text.specs.Arrays.{short_list}
use Rattle.json_text.specs.Document.{text_at}
use Rattle.json_text.specs.Members.{name_at}
use Rattle.sts_admin.specs.declared.bindings.WrittenBinding.{WrittenBinding}

-- ---- as they are written

-- a text that names a member
unfoldable pub binding_member : Data → Option Member
binding_member d = option_and_then member_of (as_str d)

-- an array of at most 64 members
abbrev pub members_of : Data → Option (List Member)
members_of d = short_list binding_member 64 d

-- the members under `members`
abbrev pub members_at : Data → Option (List Member)
members_at d = option_and_then members_of (get (codes "members") d)

-- the condition is absent, or an object with a text under `expression`
abbrev pub condition_text : Option Data → Option (Option (List ℕ))
condition_text None = Some None
condition_text (Some d) = option_map (λ text. Some text) (text_at (codes "expression") d)

-- an object with a role and its members, and perhaps a condition
unfoldable pub written_binding : Data → Option WrittenBinding
written_binding d = do
  role ← name_at is_role (codes "role") d
  members ← members_at d
  condition ← condition_text (get (codes "condition") d)
  Some (record { role = role; members = members; condition = condition })

-- the bindings under `bindings`, an array of at most 64
abbrev pub written_at : Data → Option (List WrittenBinding)
written_at d = option_and_then (short_list written_binding 64) (get (codes "bindings") d)

-- ---- with their expressions

-- the condition's expression, where there is a text
abbrev pub condition_by : Option (List ℕ) → Option (Option Expression)
condition_by None = Some None
condition_by (Some text) = option_map (λ e. Some e) (expression_of condition_names CelType.Bool text)

-- the binding, where the text of its condition is an expression
unfoldable pub binding_of : WrittenBinding → Option Binding
binding_of written = do
  condition ← condition_by written.condition
  Some (record { role = written.role; members = written.members; condition = condition })

-- the binding that an object is, with its expression
abbrev pub binding_in : Data → Option Binding
binding_in d = option_and_then binding_of (written_binding d)

-- the bindings, where each is one
abbrev pub bindings_of : List WrittenBinding → Option (List Binding)
bindings_of [] = Some []
bindings_of (written ∷ more) = binding_of written >>= (λ binding. bindings_of more >>= (λ bindings. Some (binding ∷ bindings)))
