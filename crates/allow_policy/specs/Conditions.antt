-- What the condition of a binding sees, and when it holds.
use Rattle.std.specs.Prelude.{ℕ, List, [], ◌∷◌, min, pos, codes, Bool, true, false, Option, None, Some, unwrap_or, Ok, Err}
use Rattle.cel_values.specs.declared.value.Value.{Value, out-Value}
use Rattle.cel_values.specs.declared.value.Value.TheOpen.{Value-F}
use Rattle.cel_values.specs.declared.value.Value.TheViews as made
use Rattle.cel_builtins.specs.Outcomes.{Outcome, Shape}
use Rattle.cel_eval.specs.Denotation.{Env, denotation}
use Rattle.cel_expression.specs.Environments.{bound, entry, declared_map}
use Rattle.cel_expression.specs.declared.expression.Expression.{Expression}
use Rattle.cel_types.specs.declared.cel_type.CelType.{CelType}
use Rattle.cel_types.specs.declared.cel_type.Declaration.{Declaration}
use Rattle.iam_names.specs.Cuts.{after, cut_at}

-- ---- the resource

-- what stands before the first slash, and what follows it; where there is none, all of it and nothing
abbrev pub parted : List ℕ → Option (List ℕ × List ℕ) → List ℕ × List ℕ
parted text None = (text, [])
parted text (Some parts) = parts

-- what follows the two slashes in front
abbrev pub path_of : List ℕ → List ℕ
path_of resource = unwrap_or (after (codes "//") resource) []

-- the service of a resource `//SERVICE/NAME`, and its name there, which may be empty
abbrev pub service_and_name : List ℕ → List ℕ × List ℕ
service_and_name resource = parted (path_of resource) (cut_at 47 (path_of resource))

-- ---- what a condition sees

-- the resource's name and service
abbrev pub resource_value : List ℕ → Value
resource_value resource = made.Map (
    entry (codes "name") (Value.Text (service_and_name resource).1) ∷
    entry (codes "service") (Value.Text (service_and_name resource).0) ∷ [])

-- the last second of the year 9999, in seconds since 1970-01-01T00:00:00Z
abbrev pub last_moment : ℕ
last_moment = 253402300799

-- the moment as a timestamp, of which the last is that of the year 9999
abbrev pub request_value : ℕ → Value
request_value now = made.Map (entry (codes "time") (Value.Time (pos (min now last_moment))) ∷ [])

-- a condition sees the resource as `resource` and the moment as `request`
abbrev pub condition_env : List ℕ → ℕ → Env
condition_env resource now = bound (codes "resource") (resource_value resource) ∷ bound (codes "request") (request_value now) ∷ []

-- ---- the types of what it sees

-- `resource` is a map of texts, and `request` one of timestamps
abbrev pub condition_names : List Declaration
condition_names = declared_map (codes "resource") CelType.Text ∷ declared_map (codes "request") CelType.Time ∷ []

-- ---- when it holds

-- a value that is true
abbrev pub is_true : Shape → Bool
is_true (Value-F.Bool true) = true
is_true _ = false

-- an outcome that is true; an error isn't
abbrev pub holds_as : Outcome → Bool
holds_as (Ok v) = is_true (out-Value v)
holds_as (Err e) = false

-- there is no condition, or it is true of the resource at the moment
abbrev pub condition_holds : Option Expression → List ℕ → ℕ → Bool
condition_holds None resource now = true
condition_holds (Some e) resource now = holds_as (denotation e.tree (condition_env resource now))
