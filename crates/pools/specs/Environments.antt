-- What the expressions of a provider see.
use Rattle.std.specs.Prelude.{ℕ, List, [], ◌∷◌, ◌++◌, map, codes}
use Rattle.cel_values.specs.declared.value.Value.{Value}
use Rattle.cel_values.specs.declared.value.Value.TheViews as made
use Rattle.cel_values.specs.declared.value.MapEntry.{MapEntry}
use Rattle.cel_eval.specs.Denotation.{Env}
use Rattle.cel_expression.specs.Environments.{bound, entry, declared_map}
use Rattle.cel_types.specs.declared.cel_type.CelType.{CelType}
use Rattle.cel_types.specs.declared.cel_type.Declaration.{Declaration}
use Rattle.wif_claims.specs.declared.claims.Claims.{Claims}
use Rattle.iam_names.specs.declared.identity.Identity.{Identity}

-- a mapping sees the claims as `assertion`
abbrev pub mapping_env : Claims → Env
mapping_env claims = bound (codes "assertion") claims.tree ∷ []

-- the groups and the subject of an identity
abbrev pub google_entries : Identity → List MapEntry
google_entries who = entry (codes "groups") (made.List (map Value.Text who.groups)) ∷ entry (codes "subject") (Value.Text who.subject) ∷ []

-- the same as a map
abbrev pub google_of : Identity → Value
google_of who = made.Map (google_entries who)

-- an attribute as an entry of a map
abbrev pub attribute_entry : List ℕ × List ℕ → MapEntry
attribute_entry attribute = entry attribute.0 (Value.Text attribute.1)

-- the attributes of an identity
abbrev pub attributes_of : Identity → Value
attributes_of who = made.Map (map attribute_entry who.attributes)

-- what a condition sees of an identity
abbrev pub identity_env : Identity → Env
identity_env who = bound (codes "google") (google_of who) ∷ bound (codes "attribute") (attributes_of who) ∷ []

-- a condition sees the claims, and the identity that they are mapped to as `google` and `attribute`
abbrev pub condition_env : Claims → Identity → Env
condition_env claims who = mapping_env claims ++ identity_env who

-- ---- the types of what they see

-- a mapping sees `assertion` as a map of what isn't known
abbrev pub mapping_names : List Declaration
mapping_names = declared_map (codes "assertion") CelType.Dyn ∷ []

-- `google` as a map of what isn't known, and `attribute` as one of texts
abbrev pub identity_names : List Declaration
identity_names = declared_map (codes "google") CelType.Dyn ∷ declared_map (codes "attribute") CelType.Text ∷ []

-- a condition sees both
abbrev pub condition_names : List Declaration
condition_names = mapping_names ++ identity_names
