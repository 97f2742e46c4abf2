-- What is computed of values names no unbound name.
use Rattle.std.proofs.Common.{ℕ, ℤ, pos, negsuc, neg_ℤ, ◌+ℤ◌, ◌-ℤ◌, ◌*ℤ◌, nat_eq, nat_le, Bool, true, false, not, ◌&&◌, ◌||◌, List, [], ◌∷◌, ◌++◌, map, length, Option, None, Some, Ok, Err, cond}
use Rattle.std.specs.Prelude.{slice_get, count_by, int_div, int_rem, option_map}
use Rattle.std.specs.Ordering.{int_eq, is_lt, is_le, is_gt, is_ge}
use Rattle.std.specs.declared.cmp.Ordering.{Ordering}
use Rattle.cel_values.specs.declared.error.EvalError.{EvalError}
use Rattle.cel_values.specs.declared.expr.BinaryOp.{BinaryOp}
use Rattle.cel_values.specs.declared.expr.MacroKind.{MacroKind}
use Rattle.cel_values.specs.declared.value.Value.{Value, out-Value}
use Rattle.cel_values.specs.declared.value.Value.TheOpen.{Value-F}
use Rattle.cel_values.specs.declared.value.Value.TheViews as made
use Rattle.cel_values.specs.declared.value.MapEntry.{MapEntry}
use Rattle.cel_values.specs.Equality.{equal}
use Rattle.cel_values.specs.Opacity.{holds_opaque}
use Rattle.cel_values.specs.Weight.{weight}
use Rattle.cel_builtins.specs.declared.function.Function.{Function}
use Rattle.cel_builtins.specs.Functions.{applied, takes, of_one, of_two, where_fits}
use Rattle.cel_builtins.specs.Outcomes.{Or, Outcome, Shape, ◌>>=◌, in_order, weighed}
use Rattle.cel_builtins.specs.Overloads.{kind, row, function_of}
use Rattle.cel_builtins.specs.Numbers.{is_integer, is_moment, is_span, integer, moment, span, sum_of, difference_of, product_of, quotient_of, remainder_of, order_of, related}
use Rattle.cel_builtins.specs.Calendar.{part_of, full_year, month, day_of_month, day_of_year, date, day_of_week, hours, minutes, seconds_of_minute}
use Rattle.cel_builtins.specs.Durations.{where_good, integer_value, span_value, signed, number_in, unsigned_text, parts_seconds}
use Rattle.cel_builtins.specs.Texts.{tested_part, contains, has_front, has_end, extracted, extracted_by, template_of, split_of, join_of, pieces, text_value, text_in, texts_in, joined, code_points}
use Rattle.cel_builtins.specs.Timestamps.{is_moment_text, seconds_in, moment_text}
use Rattle.cel_eval.specs.Denotation.{Env, Meaning, with_item, entry_at, or_no_key, has_key, selected, presence, item_or, item_at, indexed, lies_in, put_entry, put_pair, put_pairs, truth_of, truth, tested, said, both, either, unless_opaque, strict, logic, binary, binary_by, chosen, by_function, called, limited, key_of, range_of, all_of, some_of, kept, taken, gathered, list_of, test_of, tests, is_yes, kept_of, passes, taken_of, one_of, over}
use Rattle.cel_eval.specs.declared.operators.Logic.{Logic}
use Rattle.cel_soundness.specs.WellTyped.{IsNotUnbound, HasNoUnbound}

-- what is computed, or an error that is no unbound name
abbrev pub IsBound : {A : Type 0} → Or A → Type 0
IsBound (Ok x) = Unit {0}
IsBound (Err e) = IsNotUnbound e

pub no_unbound : (o : Outcome) → IsBound o → HasNoUnbound o
no_unbound (Ok v) h = tt
no_unbound (Err e) h = h

pub bound_then : {A B : Type 0} (o : Or A) (f : A → Or B) → IsBound o → ((x : A) → IsBound (f x)) → IsBound (o >>= f)
bound_then (Ok x) f h g = g x
bound_then (Err e) f h g = h

bound_if : {A : Type 0} (b : Bool) (x y : Or A) → IsBound x → IsBound y → IsBound (cond b x y)
bound_if true x y h g = h
bound_if false x y h g = g

pub weighed_bound : (v : Value) → IsBound (weighed v)
weighed_bound v = bound_if (nat_le (weight v) 65536) (Ok v) (Err EvalError.TooLong) tt tt

-- ---- all of several

abbrev pub AllBound : {A : Type 0} → List (Or A) → Type 0
AllBound [] = Unit {0}
AllBound (o ∷ os) = IsBound o × AllBound os

pub each_bound : {A B : Type 0} (f : A → Or B) (xs : List A) → ((x : A) → IsBound (f x)) → AllBound (map f xs)
each_bound f [] h = tt
each_bound f (x ∷ xs) h = (h x, each_bound f xs h)

pub in_order_bound : {A : Type 0} (os : List (Or A)) → AllBound os → IsBound (in_order os)
in_order_bound [] h = tt
in_order_bound (Ok x ∷ os) h = bound_then (in_order os) (λ xs. Ok (x ∷ xs)) (in_order_bound os h.1) (λ xs. tt)
in_order_bound (Err e ∷ os) h = h.0

-- ---- functions

integer_bound : (z : ℤ) → IsBound (integer z)
integer_bound z = bound_if (is_integer z) (Ok (Value.Int z)) (Err EvalError.Overflow) tt tt

moment_bound : (z : ℤ) → IsBound (moment z)
moment_bound z = bound_if (is_moment z) (Ok (Value.Time z)) (Err EvalError.Overflow) tt tt

span_bound : (z : ℤ) → IsBound (span z)
span_bound z = bound_if (is_span z) (Ok (Value.Span z)) (Err EvalError.Overflow) tt tt

good_bound : (test : ℤ → Bool) (make : ℤ → Value) (z : Option ℤ) → IsBound (where_good test make z)
good_bound test make None = tt
good_bound test make (Some z) = bound_if (test z) (Ok (make z)) (Err EvalError.BadText) tt tt

part_bound : (part : ℤ → ℤ) (x : Shape) → IsBound (part_of part x)
part_bound part (Value-F.Time z) = bound_if (is_moment z) (Ok (Value.Int (part z))) (Err EvalError.Overflow) tt tt
part_bound part _ = tt

one_bound : (f : Function) (x : Shape) → IsBound (of_one f x)
one_bound Function.Not (Value-F.Bool b) = tt
one_bound Function.Neg (Value-F.Int z) = integer_bound (neg_ℤ z)
one_bound Function.Size (Value-F.Text t) = integer_bound (pos (code_points t))
one_bound Function.Size (Value-F.List xs) = integer_bound (pos (length xs))
one_bound Function.Size (Value-F.Map es) = integer_bound (pos (length es))
one_bound Function.LowerAscii (Value-F.Text t) = tt
one_bound Function.Int (Value-F.Int z) = tt
one_bound Function.Int (Value-F.Text t) = good_bound is_integer integer_value (option_map (signed t) (number_in (unsigned_text t)))
one_bound Function.Int (Value-F.Time z) = tt
one_bound Function.String (Value-F.Text t) = tt
one_bound Function.String (Value-F.Int z) = tt
one_bound Function.String (Value-F.Bool b) = tt
one_bound Function.String (Value-F.Time z) = bound_if (is_moment z) (Ok (Value.Text (moment_text z))) (Err EvalError.Overflow) tt tt
one_bound Function.Timestamp (Value-F.Text t) = bound_if (is_moment_text t) (Ok (Value.Time (seconds_in t))) (Err EvalError.BadText) tt tt
one_bound Function.Timestamp (Value-F.Time z) = tt
one_bound Function.Duration (Value-F.Text t) = good_bound is_span span_value (option_map (signed t) (parts_seconds (unsigned_text t)))
one_bound Function.Duration (Value-F.Span z) = tt
one_bound Function.GetFullYear x = part_bound full_year x
one_bound Function.GetMonth x = part_bound month x
one_bound Function.GetDayOfMonth x = part_bound day_of_month x
one_bound Function.GetDayOfYear x = part_bound day_of_year x
one_bound Function.GetDate x = part_bound date x
one_bound Function.GetDayOfWeek x = part_bound day_of_week x
one_bound Function.GetHours x = part_bound hours x
one_bound Function.GetMinutes x = part_bound minutes x
one_bound Function.GetSeconds x = part_bound seconds_of_minute x
one_bound _ _ = tt

sum_bound : (x y : Shape) → IsBound (sum_of x y)
sum_bound (Value-F.Int a) (Value-F.Int b) = integer_bound (a +ℤ b)
sum_bound (Value-F.Text a) (Value-F.Text b) = weighed_bound (Value.Text (a ++ b))
sum_bound (Value-F.List a) (Value-F.List b) = weighed_bound (made.List (a ++ b))
sum_bound (Value-F.Time a) (Value-F.Span b) = moment_bound (a +ℤ b)
sum_bound (Value-F.Span a) (Value-F.Time b) = moment_bound (a +ℤ b)
sum_bound (Value-F.Span a) (Value-F.Span b) = span_bound (a +ℤ b)
sum_bound _ _ = tt

difference_bound : (x y : Shape) → IsBound (difference_of x y)
difference_bound (Value-F.Int a) (Value-F.Int b) = integer_bound (a -ℤ b)
difference_bound (Value-F.Time a) (Value-F.Span b) = moment_bound (a -ℤ b)
difference_bound (Value-F.Time a) (Value-F.Time b) = span_bound (a -ℤ b)
difference_bound (Value-F.Span a) (Value-F.Span b) = span_bound (a -ℤ b)
difference_bound _ _ = tt

product_bound : (x y : Shape) → IsBound (product_of x y)
product_bound (Value-F.Int a) (Value-F.Int b) = integer_bound (a *ℤ b)
product_bound _ _ = tt

quotient_bound : (x y : Shape) → IsBound (quotient_of x y)
quotient_bound (Value-F.Int a) (Value-F.Int b) = bound_if (int_eq b (pos 0)) (Err EvalError.Divide) (integer (int_div a b)) tt (integer_bound (int_div a b))
quotient_bound _ _ = tt

remainder_bound : (x y : Shape) → IsBound (remainder_of x y)
remainder_bound (Value-F.Int a) (Value-F.Int b) =
    bound_if (int_eq b (pos 0)) (Err EvalError.Divide) (cond (is_integer (int_div a b)) (Ok (Value.Int (int_rem a b))) (Err EvalError.Overflow)) tt
    (bound_if (is_integer (int_div a b)) (Ok (Value.Int (int_rem a b))) (Err EvalError.Overflow) tt tt)
remainder_bound _ _ = tt

order_bound : (x y : Shape) → IsBound (order_of x y)
order_bound (Value-F.Bool a) (Value-F.Bool b) = tt
order_bound (Value-F.Int a) (Value-F.Int b) = tt
order_bound (Value-F.Text a) (Value-F.Text b) = tt
order_bound (Value-F.Time a) (Value-F.Time b) = tt
order_bound (Value-F.Span a) (Value-F.Span b) = tt
order_bound _ _ = tt

related_bound : (takes : Ordering → Bool) (x y : Shape) → IsBound (related takes x y)
related_bound takes x y = bound_then (order_of x y) (λ order. Ok (Value.Bool (takes order))) (order_bound x y) (λ order. tt)

tested_part_bound : (test : List ℕ → List ℕ → Bool) (x y : Shape) → IsBound (tested_part test x y)
tested_part_bound test (Value-F.Text a) (Value-F.Text b) = tt
tested_part_bound test _ _ = tt

extracted_by_bound : (parts : Option (List ℕ × List ℕ)) (text : List ℕ) → IsBound (extracted_by parts text)
extracted_by_bound None text = tt
extracted_by_bound (Some parts) text = tt

extracted_bound : (x y : Shape) → IsBound (extracted x y)
extracted_bound (Value-F.Text a) (Value-F.Text b) = extracted_by_bound (template_of b) a
extracted_bound _ _ = tt

split_bound : (x y : Shape) → IsBound (split_of x y)
split_bound (Value-F.Text a) (Value-F.Text b) =
    bound_if (nat_eq (length b) 0) (Err EvalError.BadText) (weighed (made.List (map text_value (pieces b a)))) tt
    (weighed_bound (made.List (map text_value (pieces b a))))
split_bound _ _ = tt

text_bound : (x : Shape) → IsBound (text_in x)
text_bound (Value-F.Text t) = tt
text_bound _ = tt

join_bound : (x y : Shape) → IsBound (join_of x y)
join_bound (Value-F.List xs) (Value-F.Text b) =
    bound_then (texts_in xs) (λ ts. weighed (Value.Text (joined b ts)))
    (in_order_bound (map (λ v. text_in (out-Value v)) xs) (each_bound (λ v. text_in (out-Value v)) xs (λ v. text_bound (out-Value v))))
    (λ ts. weighed_bound (Value.Text (joined b ts)))
join_bound _ _ = tt

two_bound : (f : Function) (x y : Shape) → IsBound (of_two f x y)
two_bound Function.Add x y = sum_bound x y
two_bound Function.Sub x y = difference_bound x y
two_bound Function.Mul x y = product_bound x y
two_bound Function.Div x y = quotient_bound x y
two_bound Function.Rem x y = remainder_bound x y
two_bound Function.Lt x y = related_bound is_lt x y
two_bound Function.Le x y = related_bound is_le x y
two_bound Function.Gt x y = related_bound is_gt x y
two_bound Function.Ge x y = related_bound is_ge x y
two_bound Function.Contains x y = tested_part_bound contains x y
two_bound Function.StartsWith x y = tested_part_bound has_front x y
two_bound Function.EndsWith x y = tested_part_bound has_end x y
two_bound Function.Extract x y = extracted_bound x y
two_bound Function.Split x y = split_bound x y
two_bound Function.Join x y = join_bound x y
two_bound _ x y = tt

where_bound : (r : Option ℕ) (o : Outcome) → IsBound o → IsBound (where_fits r o)
where_bound None o h = tt
where_bound (Some k) o h = h

pub applied_bound : (f : Function) (vs : List Value) → IsBound (applied f vs)
applied_bound f [] = tt
applied_bound f (a ∷ []) =
    bound_if (takes f a) (where_fits (row f (kind a) 0) (of_one f (out-Value a))) (Err EvalError.NoOverload)
    (where_bound (row f (kind a) 0) (of_one f (out-Value a)) (one_bound f (out-Value a))) tt
applied_bound f (a ∷ b ∷ []) =
    bound_if (takes f a && takes f b) (where_fits (row f (kind a) (kind b)) (of_two f (out-Value a) (out-Value b))) (Err EvalError.NoOverload)
    (where_bound (row f (kind a) (kind b)) (of_two f (out-Value a) (out-Value b)) (two_bound f (out-Value a) (out-Value b))) tt
applied_bound f (a ∷ b ∷ c ∷ vs) = tt

function_bound : (f : Option Function) (vs : List Value) → IsBound (by_function f vs)
function_bound None vs = tt
function_bound (Some f) vs = applied_bound f vs

pub called_bound : (member : Bool) (n : List ℕ) (vs : List Value) → IsBound (called member n vs)
called_bound member n vs = function_bound (function_of member n) vs

-- ---- selection and indices

key_bound : (o : Option Value) → IsBound (or_no_key o)
key_bound None = tt
key_bound (Some v) = tt

pub selected_bound : (f : List ℕ) (x : Shape) → IsBound (selected f x)
selected_bound f (Value-F.Map es) = key_bound (entry_at f es)
selected_bound f _ = tt

pub presence_bound : (f : List ℕ) (x : Shape) → IsBound (presence f x)
presence_bound f (Value-F.Map es) = tt
presence_bound f _ = tt

item_bound : (o : Option Value) → IsBound (item_or o)
item_bound None = tt
item_bound (Some v) = tt

place_bound : (xs : List Value) (i : ℤ) → IsBound (item_at xs i)
place_bound xs (pos i) = item_bound (slice_get xs i)
place_bound xs (negsuc i) = tt

pub indexed_bound : (x y : Shape) → IsBound (indexed x y)
indexed_bound (Value-F.List xs) (Value-F.Int i) = place_bound xs i
indexed_bound (Value-F.Map es) (Value-F.Text key) = key_bound (entry_at key es)
indexed_bound _ _ = tt

-- ---- operators

truth_bound : (x : Shape) → IsBound (truth_of x)
truth_bound (Value-F.Bool b) = tt
truth_bound _ = tt

pub tested_bound : (o : Outcome) → IsBound o → IsBound (tested o)
tested_bound o h = bound_then o truth h (λ v. truth_bound (out-Value v))

pub said_bound : (t : Or Bool) → IsBound t → IsBound (said t)
said_bound t h = bound_then t (λ b. Ok (Value.Bool b)) h (λ b. tt)

both_bound : (a b : Or Bool) → IsBound a → IsBound b → IsBound (both a b)
both_bound (Ok false) b h g = tt
both_bound (Ok true) b h g = g
both_bound (Err e) (Ok false) h g = tt
both_bound (Err e) (Ok true) h g = h
both_bound (Err e) (Err d) h g = h

either_bound : (a b : Or Bool) → IsBound a → IsBound b → IsBound (either a b)
either_bound (Ok true) b h g = tt
either_bound (Ok false) b h g = g
either_bound (Err e) (Ok true) h g = tt
either_bound (Err e) (Ok false) h g = h
either_bound (Err e) (Err d) h g = h

opaque_bound : (a b : Value) (o : Outcome) → IsBound o → IsBound (unless_opaque a b o)
opaque_bound a b o h = bound_if (holds_opaque a || holds_opaque b) (Err EvalError.NoOverload) o tt h

within_bound : (v : Value) (x y : Shape) → IsBound (lies_in v x y)
within_bound v x (Value-F.List xs) = tt
within_bound v (Value-F.Text key) (Value-F.Map es) = tt
within_bound v _ _ = tt

strict_bound : (op : BinaryOp) (a b : Value) → IsBound (strict op a b)
strict_bound BinaryOp.Lt a b = applied_bound Function.Lt (a ∷ b ∷ [])
strict_bound BinaryOp.Le a b = applied_bound Function.Le (a ∷ b ∷ [])
strict_bound BinaryOp.Gt a b = applied_bound Function.Gt (a ∷ b ∷ [])
strict_bound BinaryOp.Ge a b = applied_bound Function.Ge (a ∷ b ∷ [])
strict_bound BinaryOp.Add a b = applied_bound Function.Add (a ∷ b ∷ [])
strict_bound BinaryOp.Sub a b = applied_bound Function.Sub (a ∷ b ∷ [])
strict_bound BinaryOp.Mul a b = applied_bound Function.Mul (a ∷ b ∷ [])
strict_bound BinaryOp.Div a b = applied_bound Function.Div (a ∷ b ∷ [])
strict_bound BinaryOp.Rem a b = applied_bound Function.Rem (a ∷ b ∷ [])
strict_bound BinaryOp.Eq a b = opaque_bound a b (Ok (Value.Bool (equal a b))) tt
strict_bound BinaryOp.Ne a b = opaque_bound a b (Ok (Value.Bool (not (equal a b)))) tt
strict_bound BinaryOp.Within a b = opaque_bound a b (lies_in a (out-Value a) (out-Value b)) (within_bound a (out-Value a) (out-Value b))
strict_bound BinaryOp.And a b = tt
strict_bound BinaryOp.Or a b = tt

logic_bound : (l : Logic) (op : BinaryOp) (a b : Outcome) → IsBound a → IsBound b → IsBound (binary_by l op a b)
logic_bound Logic.And op a b h g = said_bound (both (tested a) (tested b)) (both_bound (tested a) (tested b) (tested_bound a h) (tested_bound b g))
logic_bound Logic.Or op a b h g = said_bound (either (tested a) (tested b)) (either_bound (tested a) (tested b) (tested_bound a h) (tested_bound b g))
logic_bound Logic.Neither op a b h g = bound_then a (λ x. b >>= λ y. strict op x y) h (λ x. bound_then b (λ y. strict op x y) g (λ y. strict_bound op x y))

pub binary_bound : (op : BinaryOp) (a b : Outcome) → IsBound a → IsBound b → IsBound (binary op a b)
binary_bound op a b h g = logic_bound (logic op) op a b h g

pub chosen_bound : (c a b : Outcome) → IsBound c → IsBound a → IsBound b → IsBound (chosen c a b)
chosen_bound c a b h g k = bound_then (tested c) (λ t. cond t a b) (tested_bound c h) (λ t. bound_if t a b g k)

-- ---- literals

pub list_bound : (r : Or (List Value)) → IsBound r → IsBound (list_of r)
list_bound r h = bound_then r (λ vs. weighed (made.List vs)) h (λ vs. weighed_bound (made.List vs))

put_bound : (x : Shape) (v : Value) (es : List MapEntry) → IsBound (put_pair x v es)
put_bound (Value-F.Text key) v es = bound_if (has_key key es) (Err EvalError.BadText) (Ok (put_entry key v es)) tt tt
put_bound _ v es = tt

pub pairs_bound : (es : List MapEntry) (qs : List (Value × Value)) → IsBound (put_pairs es qs)
pairs_bound es [] = tt
pairs_bound es (q ∷ qs) =
    bound_then (put_pair (out-Value q.0) q.1 es) (λ more. put_pairs more qs) (put_bound (out-Value q.0) q.1 es) (λ more. pairs_bound more qs)

pub map_bound : (r : Or (List (Value × Value))) → IsBound r → IsBound (r >>= λ qs. put_pairs [] qs >>= λ es. weighed (made.Map es))
map_bound r h =
    bound_then r (λ qs. put_pairs [] qs >>= λ es. weighed (made.Map es)) h (λ qs.
    bound_then (put_pairs [] qs) (λ es. weighed (made.Map es)) (pairs_bound [] qs) (λ es. weighed_bound (made.Map es)))

-- ---- macros

limited_bound : (vs : List Value) → IsBound (limited vs)
limited_bound vs = bound_if (nat_le (length vs) 256) (Ok vs) (Err EvalError.TooLong) tt tt

pub range_bound : (x : Shape) → IsBound (range_of x)
range_bound (Value-F.List vs) = limited_bound vs
range_bound (Value-F.Map es) = limited_bound (map key_of es)
range_bound _ = tt

all_bound : (ts : List (Or Bool)) → AllBound ts → IsBound (all_of ts)
all_bound [] h = tt
all_bound (t ∷ ts) h = both_bound t (all_of ts) h.0 (all_bound ts h.1)

some_bound : (ts : List (Or Bool)) → AllBound ts → IsBound (some_of ts)
some_bound [] h = tt
some_bound (t ∷ ts) h = either_bound t (some_of ts) h.0 (some_bound ts h.1)

gathered_bound : (rs : List (Or (List Value))) → AllBound rs → IsBound (gathered rs)
gathered_bound [] h = tt
gathered_bound (Ok vs ∷ rs) h = bound_then (gathered rs) (λ more. Ok (vs ++ more)) (gathered_bound rs h.1) (λ more. tt)
gathered_bound (Err e ∷ rs) h = h.0

kept_bound : (v : Value) (t : Or Bool) → IsBound t → IsBound (kept v t)
kept_bound v t h = bound_then t (λ b. Ok (cond b (v ∷ []) [])) h (λ b. tt)

taken_bound : (t : Or Bool) (o : Outcome) → IsBound t → IsBound o → IsBound (taken t o)
taken_bound t o h g =
    bound_then t (λ b. cond b (o >>= λ v. Ok (v ∷ [])) (Ok [])) h
    (λ b. bound_if b (o >>= λ v. Ok (v ∷ [])) (Ok []) (bound_then o (λ v. Ok (v ∷ [])) g (λ v. tt)) tt)

pub over_bound : (kind : MacroKind) (n : List ℕ) (test : Option Meaning) (p : Meaning) (env : Env) (vs : List Value)
    → ((w : Value) → IsBound (tested (passes test (with_item n w env)))) → ((w : Value) → IsBound (p (with_item n w env))) → IsBound (over kind n test p env vs)
over_bound MacroKind.All n test p env vs passing each =
    said_bound (all_of (tests n p env vs)) (all_bound (tests n p env vs) (each_bound (test_of n p env) vs (λ w. tested_bound (p (with_item n w env)) (each w))))
over_bound MacroKind.Exists n test p env vs passing each =
    said_bound (some_of (tests n p env vs)) (some_bound (tests n p env vs)
    (each_bound (test_of n p env) vs (λ w. tested_bound (p (with_item n w env)) (each w))))
over_bound MacroKind.ExistsOne n test p env vs passing each =
    said_bound (one_of (tests n p env vs)) (bound_then (in_order (tests n p env vs)) (λ bs. Ok (nat_eq (count_by is_yes bs) 1))
    (in_order_bound (tests n p env vs) (each_bound (test_of n p env) vs (λ w. tested_bound (p (with_item n w env)) (each w)))) (λ bs. tt))
over_bound MacroKind.Filter n test p env vs passing each =
    list_bound (gathered (map (kept_of n p env) vs)) (gathered_bound (map (kept_of n p env) vs) (each_bound (kept_of n p env) vs
    (λ w. kept_bound w (tested (p (with_item n w env))) (tested_bound (p (with_item n w env)) (each w)))))
over_bound MacroKind.Map n test p env vs passing each =
    list_bound (gathered (map (taken_of n test p env) vs)) (gathered_bound (map (taken_of n test p env) vs) (each_bound (taken_of n test p env) vs
    (λ w. taken_bound (tested (passes test (with_item n w env))) (p (with_item n w env)) (passing w) (each w))))
