-- The identity that a mapping gives.
use Rattle.std.specs.Prelude.{ℕ, List, [], ◌∷◌, length, Bool, ◌&&◌, nat_lt, Option, None, Some, option_map, Result, Ok, Err, map}
use Rattle.std.specs.Str.{is_utf8}
use Rattle.base_types.specs.Forms.{passing}
use Rattle.base_types.specs.Steps.{◌>>=◌, needed}
use Rattle.cel_values.specs.declared.value.Value.{Value, out-Value}
use Rattle.cel_values.specs.declared.value.Value.TheOpen.{Value-F}
use Rattle.cel_builtins.specs.Outcomes.{Outcome, Shape}
use Rattle.cel_eval.specs.Denotation.{Env, denotation}
use Rattle.cel_expression.specs.declared.expression.Expression.{Expression}
use Rattle.iam_names.specs.declared.identity.Identity.{Identity}
use Rattle.pools.specs.declared.fault.MapFault.{MapFault}
use Rattle.pools.specs.declared.fault.MapFault.TheVariants as fault
use Rattle.pools.specs.declared.mapping.Mapping.{Mapping}

-- ---- texts

-- UTF-8 that isn't empty
abbrev pub is_text : List ℕ → Bool
is_text bytes = nat_lt 0 (length bytes) && is_utf8 bytes

-- a text that isn't empty
abbrev pub text_of_shape : Shape → Option (List ℕ)
text_of_shape (Value-F.Text bytes) = passing is_text bytes
text_of_shape _ = None

-- the same of a value
abbrev pub text_of_value : Value → Option (List ℕ)
text_of_value v = text_of_shape (out-Value v)

-- the same of what an expression means
abbrev pub text_of : Outcome → Option (List ℕ)
text_of (Ok v) = text_of_value v
text_of (Err e) = None

-- each of them, where each is there
abbrev pub all_there : {A : Type 0} → List (Option A) → Option (List A)
all_there [] = Some []
all_there (None ∷ rest) = None
all_there (Some x ∷ rest) = option_map (λ xs. x ∷ xs) (all_there rest)

-- texts of a list, none of which is empty
abbrev pub texts_of_shape : Shape → Option (List (List ℕ))
texts_of_shape (Value-F.List vs) = all_there (map text_of_value vs)
texts_of_shape _ = None

-- the same of what an expression means
abbrev pub texts_of : Outcome → Option (List (List ℕ))
texts_of (Ok v) = texts_of_shape (out-Value v)
texts_of (Err e) = None

-- ---- the parts of an identity

-- the groups; none where they aren't mapped
abbrev pub groups_of : Option Expression → Env → Option (List (List ℕ))
groups_of None env = Some []
groups_of (Some e) env = texts_of (denotation e.tree env)

-- the text of an attribute
abbrev pub attribute_of : List ℕ → Expression → Env → Result (List ℕ) MapFault
attribute_of name e env = needed (fault.Attribute name) (text_of (denotation e.tree env))

-- the attributes, or the first in byte order that has no text
abbrev pub attributes_of : List (List ℕ × Expression) → Env → Result (List (List ℕ × List ℕ)) MapFault
attributes_of [] env = Ok []
attributes_of (row ∷ rows) env = do
  text ← attribute_of row.0 row.1 env
  more ← attributes_of rows env
  Ok ((row.0, text) ∷ more)

-- the identity that a mapping gives in an environment, whatever its lengths
unfoldable pub mapped : Mapping → Env → Result Identity MapFault
mapped mapping env = do
  subject ← needed fault.Subject (text_of (denotation mapping.subject.tree env))
  groups ← needed fault.Groups (groups_of mapping.groups env)
  attributes ← attributes_of mapping.attributes env
  Ok (record { subject = subject; groups = groups; attributes = attributes })
