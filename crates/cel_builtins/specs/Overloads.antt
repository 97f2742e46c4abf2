-- The overload table: which function takes which kinds of arguments, and the kind of its result.
use Rattle.std.specs.Prelude.{ℕ, ◌+◌, ◌*◌, ◌==◌, ◌&&◌, not, Bool, true, false, List, [], ◌∷◌, Option, None, Some, if◌then◌else◌, codes}
use Rattle.std.specs.Str.{bytes_eq}
use Rattle.cel_builtins.specs.declared.function.Function.{Function}
use Rattle.cel_builtins.specs.declared.function.Function.TheVariants as the
use Rattle.cel_builtins.specs.declared.overloads.TheConstants.{OVERLOADS}
use Rattle.cel_values.specs.declared.value.Value.{Value, out-Value}
use Rattle.cel_values.specs.declared.value.Value.TheOpen.{Value-F}
use Rattle.cel_builtins.specs.Outcomes.{Shape}
use Rattle.case_table.specs.Cases.{found}

-- the number of a function in the table
abbrev pub number : Function → ℕ
number the.Not = 1
number the.Neg = 2
number the.Add = 3
number the.Sub = 4
number the.Mul = 5
number the.Div = 6
number the.Rem = 7
number the.Lt = 8
number the.Le = 9
number the.Gt = 10
number the.Ge = 11
number the.Size = 12
number the.Contains = 13
number the.StartsWith = 14
number the.EndsWith = 15
number the.Extract = 16
number the.Split = 17
number the.Join = 18
number the.LowerAscii = 19
number the.Int = 20
number the.String = 21
number the.Timestamp = 22
number the.Duration = 23
number the.GetFullYear = 24
number the.GetMonth = 25
number the.GetDayOfMonth = 26
number the.GetDayOfYear = 27
number the.GetDate = 28
number the.GetDayOfWeek = 29
number the.GetHours = 30
number the.GetMinutes = 31
number the.GetSeconds = 32

-- the kind of a value; no row has 9, the kind of an opaque one, and 0 is for no value
abbrev pub kind_step : Shape → ℕ
kind_step Value-F.Null = 1
kind_step (Value-F.Bool b) = 2
kind_step (Value-F.Int z) = 3
kind_step (Value-F.Text t) = 4
kind_step (Value-F.List xs) = 5
kind_step (Value-F.Map es) = 6
kind_step (Value-F.Time z) = 7
kind_step (Value-F.Span z) = 8
kind_step Value-F.Opaque = 9

-- the kind of a value
abbrev pub kind : Value → ℕ
kind v = kind_step (out-Value v)

-- no row has the key
abbrev pub lacks : ℕ → List (ℕ × ℕ) → Bool
lacks key [] = true
lacks key (row ∷ rows) = not (row.0 == key) && lacks key rows

-- no two rows have one key
abbrev pub keys_apart : List (ℕ × ℕ) → Bool
keys_apart [] = true
keys_apart (row ∷ rows) = lacks row.0 rows && keys_apart rows

-- the kind of the result of the row that fits, a second kind of 0 where there is one argument
unfoldable pub row : Function → ℕ → ℕ → Option ℕ
row f first second = found (100 * number f + 10 * first + second) OVERLOADS

-- the function of a name that is called as a function
abbrev pub plain_function : List ℕ → Option Function
plain_function name =
    if bytes_eq name (codes "size") then Some the.Size
    else if bytes_eq name (codes "int") then Some the.Int
    else if bytes_eq name (codes "string") then Some the.String
    else if bytes_eq name (codes "timestamp") then Some the.Timestamp
    else if bytes_eq name (codes "duration") then Some the.Duration
    else None

-- the getter of this name
abbrev pub getter : List ℕ → Option Function
getter name =
    if bytes_eq name (codes "getFullYear") then Some the.GetFullYear
    else if bytes_eq name (codes "getMonth") then Some the.GetMonth
    else if bytes_eq name (codes "getDayOfMonth") then Some the.GetDayOfMonth
    else if bytes_eq name (codes "getDayOfYear") then Some the.GetDayOfYear
    else if bytes_eq name (codes "getDate") then Some the.GetDate
    else if bytes_eq name (codes "getDayOfWeek") then Some the.GetDayOfWeek
    else if bytes_eq name (codes "getHours") then Some the.GetHours
    else if bytes_eq name (codes "getMinutes") then Some the.GetMinutes
    else if bytes_eq name (codes "getSeconds") then Some the.GetSeconds
    else None

-- the function of a name that is called as a member
abbrev pub member_function : List ℕ → Option Function
member_function name =
    if bytes_eq name (codes "size") then Some the.Size
    else if bytes_eq name (codes "contains") then Some the.Contains
    else if bytes_eq name (codes "startsWith") then Some the.StartsWith
    else if bytes_eq name (codes "endsWith") then Some the.EndsWith
    else if bytes_eq name (codes "extract") then Some the.Extract
    else if bytes_eq name (codes "split") then Some the.Split
    else if bytes_eq name (codes "join") then Some the.Join
    else if bytes_eq name (codes "lowerAscii") then Some the.LowerAscii
    else getter name

-- the function of this name and style
abbrev pub function_of : Bool → List ℕ → Option Function
function_of true name = member_function name
function_of false name = plain_function name
