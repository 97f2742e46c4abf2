-- What an expression means in an environment: a value or an error.
use Rattle.std.specs.Prelude.{ℕ, ℤ, pos, negsuc, Bool, true, false, not, ◌||◌, nat_eq, nat_le, List, [], ◌∷◌, ◌++◌, map, length, slice_get, count_by, Option, None, Some, Ok, Err, if◌then◌else◌}
use Rattle.std.specs.Ordering.{nat_cmp, is_lt}
use Rattle.std.specs.Cmp.Lexicographic.{slice_cmp}
use Rattle.std.specs.Str.{bytes_eq}
use Rattle.cel_values.specs.declared.env.Binding.{Binding}
use Rattle.cel_values.specs.declared.error.EvalError.TheVariants.{NoOverload, NoKey, Index, BadText, TooLong, Unbound}
use Rattle.cel_values.specs.declared.expr.BinaryOp.{BinaryOp}
use Rattle.cel_values.specs.declared.expr.BinaryOp.TheVariants as the
use Rattle.cel_values.specs.declared.expr.MacroKind.{MacroKind}
use Rattle.cel_values.specs.declared.expr.Expr.{Expr, fold-Expr}
use Rattle.cel_values.specs.declared.expr.Expr.TheOpen.{Expr-F, MapPair-F}
use Rattle.cel_values.specs.declared.expr.MapPair.{MapPair}
use Rattle.cel_values.specs.declared.value.Value.{Value, out-Value}
use Rattle.cel_values.specs.declared.value.Value.TheOpen.{Value-F}
use Rattle.cel_values.specs.declared.value.Value.TheViews as made
use Rattle.cel_values.specs.declared.value.MapEntry.{MapEntry}
use Rattle.cel_values.specs.Equality.{equal}
use Rattle.cel_values.specs.Opacity.{holds_opaque}
use Rattle.cel_builtins.specs.declared.function.Function.{Function}
use Rattle.cel_builtins.specs.Functions.{applied}
use Rattle.cel_builtins.specs.Outcomes.{Or, Outcome, Shape, ◌>>=◌, in_order, weighed}
use Rattle.cel_builtins.specs.Overloads.{function_of}
use Rattle.cel_eval.specs.declared.operators.Logic.{Logic}

-- ---- names

-- the bindings of names, of which the first of a name counts
abbrev pub Env : Type 0
Env = List Binding

-- the value of the first binding of a name
abbrev pub lookup : List ℕ → Env → Option Value
lookup name [] = None
lookup name (b ∷ env) = if bytes_eq name b.name then Some b.value else lookup name env

-- the value, unless there is none
abbrev pub or_unbound : Option Value → Outcome
or_unbound None = Err Unbound
or_unbound (Some v) = Ok v

-- what a name means
abbrev pub named : List ℕ → Env → Outcome
named name env = or_unbound (lookup name env)

-- the item of a macro is bound before all others
abbrev pub with_item : List ℕ → Value → Env → Env
with_item name v env = record { name = name; value = v } ∷ env

-- ---- lists and maps

-- the value of a key
abbrev pub entry_at : List ℕ → List MapEntry → Option Value
entry_at key [] = None
entry_at key (e ∷ es) = if bytes_eq key e.key then Some e.value else entry_at key es

-- the value, unless the key isn't there
abbrev pub or_no_key : Option Value → Outcome
or_no_key None = Err NoKey
or_no_key (Some v) = Ok v

-- whether the key is there
abbrev pub has_key : List ℕ → List MapEntry → Bool
has_key key [] = false
has_key key (e ∷ es) = bytes_eq key e.key || has_key key es

-- `e.field`
abbrev pub selected : List ℕ → Shape → Outcome
selected field (Value-F.Map es) = or_no_key (entry_at field es)
selected field _ = Err NoOverload

-- `has(e.field)`
abbrev pub presence : List ℕ → Shape → Outcome
presence field (Value-F.Map es) = Ok (Value.Bool (has_key field es))
presence field _ = Err NoOverload

-- the item, unless there is none
abbrev pub item_or : Option Value → Outcome
item_or None = Err Index
item_or (Some v) = Ok v

-- the item at a place, from 0
abbrev pub item_at : List Value → ℤ → Outcome
item_at xs (pos i) = item_or (slice_get xs i)
item_at xs (negsuc i) = Err Index

-- `e[i]`
abbrev pub indexed : Shape → Shape → Outcome
indexed (Value-F.List xs) (Value-F.Int i) = item_at xs i
indexed (Value-F.Map es) (Value-F.Text key) = or_no_key (entry_at key es)
indexed _ _ = Err NoOverload

-- one of the items is equal to the value
abbrev pub any_equal : Value → List Value → Bool
any_equal v [] = false
any_equal v (x ∷ xs) = equal v x || any_equal v xs

-- `in`: an equal item of a list, or a key of a map
abbrev pub lies_in : Value → Shape → Shape → Outcome
lies_in v shape (Value-F.List xs) = Ok (Value.Bool (any_equal v xs))
lies_in v (Value-F.Text key) (Value-F.Map es) = Ok (Value.Bool (has_key key es))
lies_in v _ _ = Err NoOverload

-- the entry stands in byte order of the keys
abbrev pub put_entry : List ℕ → Value → List MapEntry → List MapEntry
put_entry key v [] = record { key = key; value = v } ∷ []
put_entry key v (e ∷ es) =
    if is_lt (slice_cmp nat_cmp key e.key) then record { key = key; value = v } ∷ e ∷ es else e ∷ put_entry key v es

-- the first wrong pair counts: a key that is no text, or one that stands already
abbrev pub put_pair : Shape → Value → List MapEntry → Or (List MapEntry)
put_pair (Value-F.Text key) v es = if has_key key es then Err BadText else Ok (put_entry key v es)
put_pair _ v es = Err NoOverload

-- the entries of a map literal
abbrev pub put_pairs : List MapEntry → List (Value × Value) → Or (List MapEntry)
put_pairs es [] = Ok es
put_pairs es (p ∷ ps) = put_pair (out-Value p.0) p.1 es >>= λ more. put_pairs more ps

-- ---- truth values

-- a bool; any other value is an error
abbrev pub truth_of : Shape → Or Bool
truth_of (Value-F.Bool b) = Ok b
truth_of _ = Err NoOverload

-- the same of a value
abbrev pub truth : Value → Or Bool
truth v = truth_of (out-Value v)

-- what an outcome says as an operand of `&&` and `||` or as a condition
abbrev pub tested : Outcome → Or Bool
tested outcome = outcome >>= truth

-- a truth value as a value
abbrev pub said : Or Bool → Outcome
said t = t >>= λ b. Ok (Value.Bool b)

-- `&&`: false where either is false, else the left error, else the right one
abbrev pub both : Or Bool → Or Bool → Or Bool
both (Ok false) b = Ok false
both (Ok true) b = b
both (Err e) (Ok false) = Ok false
both (Err e) (Ok true) = Err e
both (Err e) (Err f) = Err e

-- `||`: true where either is true, else the left error, else the right one
abbrev pub either : Or Bool → Or Bool → Or Bool
either (Ok true) b = Ok true
either (Ok false) b = b
either (Err e) (Ok true) = Ok true
either (Err e) (Ok false) = Err e
either (Err e) (Err f) = Err e

-- ---- operators

-- operators that take no operand which is opaque or holds an opaque value
abbrev pub unless_opaque : Value → Value → Outcome → Outcome
unless_opaque a b outcome = if holds_opaque a || holds_opaque b then Err NoOverload else outcome

-- the operators that take both operands
abbrev pub strict : BinaryOp → Value → Value → Outcome
strict the.Lt a b = applied Function.Lt (a ∷ b ∷ [])
strict the.Le a b = applied Function.Le (a ∷ b ∷ [])
strict the.Gt a b = applied Function.Gt (a ∷ b ∷ [])
strict the.Ge a b = applied Function.Ge (a ∷ b ∷ [])
strict the.Add a b = applied Function.Add (a ∷ b ∷ [])
strict the.Sub a b = applied Function.Sub (a ∷ b ∷ [])
strict the.Mul a b = applied Function.Mul (a ∷ b ∷ [])
strict the.Div a b = applied Function.Div (a ∷ b ∷ [])
strict the.Rem a b = applied Function.Rem (a ∷ b ∷ [])
strict the.Eq a b = unless_opaque a b (Ok (Value.Bool (equal a b)))
strict the.Ne a b = unless_opaque a b (Ok (Value.Bool (not (equal a b))))
strict the.Within a b = unless_opaque a b (lies_in a (out-Value a) (out-Value b))
strict the.And a b = Err NoOverload
strict the.Or a b = Err NoOverload

-- how an operator looks at its operands
abbrev pub logic : BinaryOp → Logic
logic the.And = Logic.And
logic the.Or = Logic.Or
logic the.Lt = Logic.Neither
logic the.Le = Logic.Neither
logic the.Gt = Logic.Neither
logic the.Ge = Logic.Neither
logic the.Eq = Logic.Neither
logic the.Ne = Logic.Neither
logic the.Within = Logic.Neither
logic the.Add = Logic.Neither
logic the.Sub = Logic.Neither
logic the.Mul = Logic.Neither
logic the.Div = Logic.Neither
logic the.Rem = Logic.Neither

-- `&&` and `||` look at both outcomes; every other operator takes the left operand first
abbrev pub binary_by : Logic → BinaryOp → Outcome → Outcome → Outcome
binary_by Logic.And op a b = said (both (tested a) (tested b))
binary_by Logic.Or op a b = said (either (tested a) (tested b))
binary_by Logic.Neither op a b = a >>= λ x. b >>= λ y. strict op x y

-- an operator on what its operands mean
abbrev pub binary : BinaryOp → Outcome → Outcome → Outcome
binary op a b = binary_by (logic op) op a b

-- `?:`: the condition and one branch
abbrev pub chosen : Outcome → Outcome → Outcome → Outcome
chosen condition a b = tested condition >>= λ t. if t then a else b

-- the function of these arguments, unless there is none
abbrev pub by_function : Option Function → List Value → Outcome
by_function None values = Err NoOverload
by_function (Some f) values = applied f values

-- a call by name and style
abbrev pub called : Bool → List ℕ → List Value → Outcome
called is_member name values = by_function (function_of is_member name) values

-- ---- macros

-- a range of a macro has 256 items at most
abbrev pub limited : List Value → Or (List Value)
limited items = if nat_le (length items) 256 then Ok items else Err TooLong

-- the key of an entry
abbrev pub key_of : MapEntry → Value
key_of e = Value.Text e.key

-- the items of a list, or the keys of a map
abbrev pub range_of : Shape → Or (List Value)
range_of (Value-F.List xs) = limited xs
range_of (Value-F.Map es) = limited (map key_of es)
range_of _ = Err NoOverload

-- `all` is a fold of `&&`
abbrev pub all_of : List (Or Bool) → Or Bool
all_of [] = Ok true
all_of (t ∷ ts) = both t (all_of ts)

-- `exists` is a fold of `||`
abbrev pub some_of : List (Or Bool) → Or Bool
some_of [] = Ok false
some_of (t ∷ ts) = either t (some_of ts)

-- a list of the item, where the test holds
abbrev pub kept : Value → Or Bool → Or (List Value)
kept v test = test >>= λ t. Ok (if t then v ∷ [] else [])

-- a list of what is taken of the item, where the test holds
abbrev pub taken : Or Bool → Outcome → Or (List Value)
taken test outcome = test >>= λ t. if t then (outcome >>= λ v. Ok (v ∷ [])) else Ok []

-- the lists one after another, or the first error
abbrev pub gathered : List (Or (List Value)) → Or (List Value)
gathered [] = Ok []
gathered (Ok vs ∷ rest) = gathered rest >>= λ more. Ok (vs ++ more)
gathered (Err e ∷ rest) = Err e

-- as a list
abbrev pub list_of : Or (List Value) → Outcome
list_of values = values >>= λ vs. weighed (made.List vs)

-- ---- the meaning

-- what an expression means in each environment
abbrev pub Meaning : Type 0
Meaning = Env → Outcome

-- the same of a pair of a map literal
abbrev pub PairMeaning : Type 0
PairMeaning = Env → Or (Value × Value)

-- what a test says of an item
abbrev pub test_of : List ℕ → Meaning → Env → Value → Or Bool
test_of name p env v = tested (p (with_item name v env))

-- what it says of each item
abbrev pub tests : List ℕ → Meaning → Env → List Value → List (Or Bool)
tests name p env items = map (test_of name p env) items

-- a truth value that holds
abbrev pub is_yes : Bool → Bool
is_yes b = b

-- what `filter` keeps of an item
abbrev pub kept_of : List ℕ → Meaning → Env → Value → Or (List Value)
kept_of name p env v = kept v (tested (p (with_item name v env)))

-- a `map` with two arguments takes each item
abbrev pub passes : Option Meaning → Meaning
passes None env = Ok (Value.Bool true)
passes (Some test) env = test env

-- what `map` takes of an item
abbrev pub taken_of : List ℕ → Option Meaning → Meaning → Env → Value → Or (List Value)
taken_of name test p env v = taken (tested (passes test (with_item name v env))) (p (with_item name v env))

-- exactly one holds
abbrev pub one_of : List (Or Bool) → Or Bool
one_of ts = in_order ts >>= λ bs. Ok (nat_eq (count_by is_yes bs) 1)

-- a macro over the items of its range
abbrev pub over : MacroKind → List ℕ → Option Meaning → Meaning → Env → List Value → Outcome
over MacroKind.All name test p env items = said (all_of (tests name p env items))
over MacroKind.Exists name test p env items = said (some_of (tests name p env items))
over MacroKind.ExistsOne name test p env items = said (one_of (tests name p env items))
over MacroKind.Filter name test p env items = list_of (gathered (map (kept_of name p env) items))
over MacroKind.Map name test p env items = list_of (gathered (map (taken_of name test p env) items))

-- what each of them means
abbrev pub each : {A : Type 0} → List (Env → Or A) → Env → List (Or A)
each [] env = []
each (m ∷ ms) env = m env ∷ each ms env

-- a call, its target first
abbrev pub call : Option Meaning → List ℕ → List Meaning → Meaning
call None name items env = in_order (each items env) >>= called false name
call (Some target) name items env = in_order (each (target ∷ items) env) >>= called true name

-- the meaning of a tree, from the meanings of its parts
abbrev pub meaning_step : Expr-F Meaning PairMeaning → Meaning
meaning_step Expr-F.Null env = Ok Value.Null
meaning_step (Expr-F.Bool b) env = Ok (Value.Bool b)
meaning_step (Expr-F.Int z) env = Ok (Value.Int z)
meaning_step (Expr-F.Text t) env = Ok (Value.Text t)
meaning_step (Expr-F.Name n) env = named n env
meaning_step (Expr-F.List items) env = list_of (in_order (each items env))
meaning_step (Expr-F.Map pairs) env = in_order (each pairs env) >>= λ ps. put_pairs [] ps >>= λ es. weighed (made.Map es)
meaning_step (Expr-F.Select e field) env = e env >>= λ v. selected field (out-Value v)
meaning_step (Expr-F.Has e field) env = e env >>= λ v. presence field (out-Value v)
meaning_step (Expr-F.Index e i) env = e env >>= λ v. i env >>= λ k. indexed (out-Value v) (out-Value k)
meaning_step (Expr-F.Call target name items) env = call target name items env
meaning_step (Expr-F.Not e) env = e env >>= λ v. applied Function.Not (v ∷ [])
meaning_step (Expr-F.Neg e) env = e env >>= λ v. applied Function.Neg (v ∷ [])
meaning_step (Expr-F.Binary op a b) env = binary op (a env) (b env)
meaning_step (Expr-F.Cond c a b) env = chosen (c env) (a env) (b env)
meaning_step (Expr-F.Macro kind range name test p) env = range env >>= λ v. range_of (out-Value v) >>= over kind name test p env

-- the key comes before the value
abbrev pub pair_step : MapPair-F Meaning PairMeaning → PairMeaning
pair_step pair env = pair.key env >>= λ k. pair.value env >>= λ v. Ok (k, v)

-- what an expression means
abbrev pub denotation : Expr → Meaning
denotation = fold-Expr Meaning PairMeaning meaning_step pair_step

-- what a pair of a map literal means
abbrev pub pair_denotation : MapPair → PairMeaning
pair_denotation pair env = denotation pair.key env >>= λ k. denotation pair.value env >>= λ v. Ok (k, v)
