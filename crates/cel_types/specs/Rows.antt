-- What the overload table says of types: the rows whose kinds fit, and their common result.
use Rattle.std.specs.Prelude.{ℕ, ◌/◌, ◌%◌, nat_eq, Bool, true, not, ◌&&◌, List, [], ◌∷◌, Option, None, Some, if◌then◌else◌}
use Rattle.cel_builtins.specs.declared.function.Function.{Function}
use Rattle.cel_builtins.specs.declared.function.Function.TheVariants as the
use Rattle.cel_builtins.specs.declared.overloads.TheConstants.{OVERLOADS}
use Rattle.cel_builtins.specs.Overloads.{number}
use Rattle.cel_types.specs.declared.cel_type.CelType.{CelType, out-CelType}
use Rattle.cel_types.specs.declared.cel_type.CelType.TheOpen.{CelType-F}
use Rattle.cel_types.specs.declared.cel_type.CelType.TheViews as types
use Rattle.cel_types.specs.Types.{fits, join}

-- one layer of a type that fits a kind
abbrev pub fits_kind_step : CelType-F CelType → ℕ → Bool
fits_kind_step CelType-F.Dyn k = not (nat_eq k 0)
fits_kind_step CelType-F.Null k = nat_eq k 1
fits_kind_step CelType-F.Bool k = nat_eq k 2
fits_kind_step CelType-F.Int k = nat_eq k 3
fits_kind_step CelType-F.Text k = nat_eq k 4
fits_kind_step (CelType-F.List t) k = nat_eq k 5
fits_kind_step (CelType-F.Map t) k = nat_eq k 6
fits_kind_step CelType-F.Time k = nat_eq k 7
fits_kind_step CelType-F.Span k = nat_eq k 8

-- values of the type may be of the kind, as the table numbers kinds
abbrev pub fits_kind : CelType → ℕ → Bool
fits_kind t k = fits_kind_step (out-CelType t) k

-- the same of a second argument, which a row of kind 0 has not
abbrev pub second_fits_kind : Option CelType → ℕ → Bool
second_fits_kind None k = nat_eq k 0
second_fits_kind (Some t) k = fits_kind t k

-- a row with this key is of the function, and its kinds fit the arguments
abbrev pub row_fits : Function → CelType → Option CelType → ℕ → Bool
row_fits f t u key = nat_eq (key / 100) (number f) && (fits_kind t ((key / 10) % 10) && second_fits_kind u (key % 10))

-- the kinds of the results of the rows that fit
abbrev pub results_of : Function → CelType → Option CelType → List (ℕ × ℕ) → List ℕ
results_of f t u [] = []
results_of f t u (row ∷ rows) = if row_fits f t u row.0 then row.1 ∷ results_of f t u rows else results_of f t u rows

-- the type of the results of a kind: `split` gives texts, and what another list holds isn't known
abbrev pub type_of_result : Function → ℕ → CelType
type_of_result the.Split k = types.List CelType.Text
type_of_result f k =
    if nat_eq k 1 then CelType.Null else if nat_eq k 2 then CelType.Bool else if nat_eq k 3 then CelType.Int else
    if nat_eq k 4 then CelType.Text else if nat_eq k 5 then types.List CelType.Dyn else if nat_eq k 6 then types.Map CelType.Dyn else
    if nat_eq k 7 then CelType.Time else if nat_eq k 8 then CelType.Span else CelType.Dyn

-- each of them is this kind
abbrev pub all_are : ℕ → List ℕ → Bool
all_are k [] = true
all_are k (j ∷ js) = nat_eq j k && all_are k js

-- the type of their common result, or dyn where they differ; none where no row fits
abbrev pub common : Function → List ℕ → Option CelType
common f [] = None
common f (k ∷ ks) = if all_are k ks then Some (type_of_result f k) else Some CelType.Dyn

-- what the table says of these arguments
unfoldable pub by_rows : Function → CelType → Option CelType → Option CelType
by_rows f t u = common f (results_of f t u OVERLOADS)

-- the type of a function of one argument
abbrev pub one_type : Function → CelType → Option CelType
one_type f t = by_rows f t None

-- `+` of two lists joins the types of their items
abbrev pub sum_type : CelType-F CelType → CelType-F CelType → Option CelType → Option CelType
sum_type (CelType-F.List t) (CelType-F.List u) other = Some (types.List (join t u))
sum_type _ _ other = other

-- `join` takes a list whose items fit text
abbrev pub joined_type : CelType → Option CelType → Option CelType
joined_type t other = if fits t (types.List CelType.Text) then other else None

-- the type of a function of two arguments
abbrev pub two_type : Function → CelType → CelType → Option CelType
two_type the.Add t u = sum_type (out-CelType t) (out-CelType u) (by_rows the.Add t (Some u))
two_type the.Join t u = joined_type t (by_rows the.Join t (Some u))
two_type f t u = by_rows f t (Some u)

-- the type of a function of these arguments
abbrev pub function_type : Function → List CelType → Option CelType
function_type f (t ∷ []) = one_type f t
function_type f (t ∷ u ∷ []) = two_type f t u
function_type f _ = None
