-- The overload table and the functions agree: where the table has a type, the function runs well.
use Rattle.std.proofs.Common.{◌≡◌, ℕ, ℤ, pos, neg_ℤ, ◌+ℤ◌, ◌-ℤ◌, ◌*ℤ◌, ◌/◌, ◌%◌, nat_eq, nat_le, Bool, true, false, not, ◌&&◌, List, [], ◌∷◌, ◌++◌, map, length, Option, None, Some, Ok, Err, cond, refl, sym, subst}
use Rattle.std.specs.Prelude.{int_div, int_rem, option_map}
use Rattle.std.specs.Char.{to_ascii_lowercase}
use Rattle.std.specs.Cmp.Lexicographic.{slice_cmp}
use Rattle.std.specs.Fmt.{signed_decimal}
use Rattle.std.specs.Ordering.{int_eq, int_cmp, bool_cmp, nat_cmp, is_lt, is_le, is_gt, is_ge}
use Rattle.cel_values.specs.declared.error.EvalError.{EvalError}
use Rattle.cel_values.specs.declared.value.Value.{Value, out-Value}
use Rattle.cel_values.specs.declared.value.Value.TheOpen.{Value-F}
use Rattle.cel_values.specs.declared.value.Value.TheViews as made
use Rattle.cel_values.specs.Weight.{weight}
use Rattle.cel_builtins.specs.declared.function.Function.{Function}
use Rattle.cel_builtins.specs.declared.overloads.TheConstants.{OVERLOADS}
use Rattle.cel_builtins.specs.Functions.{of_one, of_two, where_fits}
use Rattle.cel_builtins.specs.Outcomes.{Or, Outcome, Shape, ◌>>=◌, in_order, weighed}
use Rattle.cel_builtins.specs.Overloads.{kind_step, number, row}
use Rattle.cel_builtins.specs.Numbers.{is_integer, is_moment, is_span, integer, moment, span, quotient, remainder}
use Rattle.cel_builtins.specs.Calendar.{part_of, full_year, month, day_of_month, day_of_year, date, day_of_week, hours, minutes, seconds_of_minute}
use Rattle.cel_builtins.specs.Durations.{where_good, integer_value, span_value, signed, number_in, unsigned_text, parts_seconds, truth_text}
use Rattle.cel_builtins.specs.Texts.{contains, has_front, has_end, extracted_by, template_of, split_of, pieces, text_value, text_in, texts_in, joined, code_points}
use Rattle.cel_builtins.specs.Timestamps.{is_moment_text, seconds_in, moment_text}
use Rattle.cel_types.specs.declared.cel_type.CelType.{CelType}
use Rattle.cel_types.specs.declared.cel_type.CelType.TheOpen.{CelType-F}
use Rattle.cel_types.specs.declared.cel_type.CelType.TheViews as types
use Rattle.cel_types.specs.Rows.{common}
use Rattle.cel_soundness.specs.WellTyped.{RunsWell, of_type, of_type_step, all_of_type}
use Rattle.cel_soundness.proofs.Shapes.{seen, text_layer, bool_typed, int_typed, text_typed, time_typed, span_typed, list_typed, all_any}
use Rattle.cel_soundness.proofs.Plain.{and_left, and_right, and_both}

-- ---- results

pub well_if : (b : Bool) (t : CelType) (x y : Outcome) → RunsWell t x → RunsWell t y → RunsWell t (cond b x y)
well_if true t x y h g = h
well_if false t x y h g = g

pub well_weighed : (v : Value) (t : CelType) → of_type v t ≡ true → RunsWell t (weighed v)
well_weighed v t h = well_if (nat_le (weight v) 65536) t (Ok v) (Err EvalError.TooLong) h tt

well_integer : (z : ℤ) → RunsWell CelType.Int (integer z)
well_integer z = well_if (is_integer z) CelType.Int (Ok (Value.Int z)) (Err EvalError.Overflow) (int_typed z) tt

well_moment : (z : ℤ) → RunsWell CelType.Time (moment z)
well_moment z = well_if (is_moment z) CelType.Time (Ok (Value.Time z)) (Err EvalError.Overflow) (time_typed z) tt

well_span : (z : ℤ) → RunsWell CelType.Span (span z)
well_span z = well_if (is_span z) CelType.Span (Ok (Value.Span z)) (Err EvalError.Overflow) (span_typed z) tt

well_quotient : (a b : ℤ) → RunsWell CelType.Int (quotient a b)
well_quotient a b = well_if (int_eq b (pos 0)) CelType.Int (Err EvalError.Divide) (integer (int_div a b)) tt (well_integer (int_div a b))

well_remainder : (a b : ℤ) → RunsWell CelType.Int (remainder a b)
well_remainder a b =
    well_if (int_eq b (pos 0)) CelType.Int (Err EvalError.Divide) (cond (is_integer (int_div a b)) (Ok (Value.Int (int_rem a b))) (Err EvalError.Overflow)) tt
    (well_if (is_integer (int_div a b)) CelType.Int (Ok (Value.Int (int_rem a b))) (Err EvalError.Overflow) (int_typed (int_rem a b)) tt)

well_part : (part : ℤ → ℤ) (z : ℤ) → RunsWell CelType.Int (part_of part (Value-F.Time z))
well_part part z = well_if (is_moment z) CelType.Int (Ok (Value.Int (part z))) (Err EvalError.Overflow) (int_typed (part z)) tt

well_good : (test : ℤ → Bool) (make : ℤ → Value) (t : CelType) → ((z : ℤ) → of_type (make z) t ≡ true) → (z : Option ℤ) → RunsWell t (where_good test make z)
well_good test make t h None = tt
well_good test make t h (Some z) = well_if (test z) t (Ok (make z)) (Err EvalError.BadText) (h z) tt

well_extracted : (parts : Option (List ℕ × List ℕ)) (text : List ℕ) → RunsWell CelType.Text (extracted_by parts text)
well_extracted None text = tt
well_extracted (Some parts) text = text_typed _

texts_typed : (ts : List (List ℕ)) → all_of_type (map of_type (map text_value ts)) CelType.Text ≡ true
texts_typed [] = refl
texts_typed (t ∷ ts) =
    and_both (of_type (text_value t) CelType.Text) (all_of_type (map of_type (map text_value ts)) CelType.Text) (text_typed t) (texts_typed ts)

well_split : (text separator : List ℕ) → RunsWell (types.List CelType.Text) (split_of (Value-F.Text text) (Value-F.Text separator))
well_split text separator =
    well_if _ (types.List CelType.Text) (Err EvalError.BadText) (weighed (made.List (map text_value (pieces separator text)))) tt
    (well_weighed (made.List (map text_value (pieces separator text))) (types.List CelType.Text)
    (list_typed (map text_value (pieces separator text)) CelType.Text (texts_typed (pieces separator text))))

-- the items are texts
data AreTexts : Or (List (List ℕ)) → Type 0 where
  are_texts : (ts : List (List ℕ)) → AreTexts (Ok ts)

text_shape : (x : Shape) → of_type_step (seen x) CelType-F.Text ≡ true → (t : List ℕ) × (text_in x ≡ Ok t)
text_shape (Value-F.Text t) h = (t, refl)
text_shape _ h = cc

text_before : (o : Or (List ℕ)) (t : List ℕ) (os : List (Or (List ℕ))) → o ≡ Ok t → AreTexts (in_order os) → AreTexts (in_order (o ∷ os))
text_before o t os is h = subst (λ x. AreTexts (in_order (x ∷ os))) (sym is) (behind (in_order os) h)
  where
    behind : (rest : Or (List (List ℕ))) → AreTexts rest → AreTexts (rest >>= λ ts. Ok (t ∷ ts))
    behind rest (are_texts ts) = are_texts (t ∷ ts)

items_are_texts : (vs : List Value) → all_of_type (map of_type vs) CelType.Text ≡ true → AreTexts (texts_in vs)
items_are_texts [] h = are_texts []
items_are_texts (v ∷ vs) h =
    let rest = all_of_type (map of_type vs) CelType.Text in
    let first = text_shape (out-Value v) (text_layer v (and_left (of_type v CelType.Text) rest h)) in
    text_before (text_in (out-Value v)) first.0 (map (λ w. text_in (out-Value w)) vs) first.1 (items_are_texts vs (and_right (of_type v CelType.Text) rest h))

joined_well : (separator : List ℕ) (texts : Or (List (List ℕ))) → AreTexts texts
    → RunsWell CelType.Text (texts >>= λ ts. weighed (Value.Text (joined separator ts)))
joined_well separator texts (are_texts ts) = well_weighed (Value.Text (joined separator ts)) CelType.Text (text_typed (joined separator ts))

-- ---- the rows that fit

-- a row of the function that passes the tests of its second kind being there, of its first kind and of its second
abbrev pub row_passes : Function → (ℕ → Bool) → (ℕ → Bool) → (ℕ → Bool) → ℕ → Bool
row_passes f there first second key = nat_eq (key / 100) (number f) && (there (key % 10) && (first ((key / 10) % 10) && second (key % 10)))

abbrev pub passing : Function → (ℕ → Bool) → (ℕ → Bool) → (ℕ → Bool) → List (ℕ × ℕ) → List ℕ
passing f there first second [] = []
passing f there first second (row ∷ rows) =
    cond (row_passes f there first second row.0) (row.1 ∷ passing f there first second rows) (passing f there first second rows)

abbrev pub is_of : Shape → ℕ → Bool
is_of x k = nat_eq k (kind_step x)

-- what the table says of two arguments of these layers
abbrev pub of_layers : Function → Shape → Shape → Option CelType
of_layers f a b = common f (passing f (λ k. not (nat_eq k 0)) (is_of a) (is_of b) OVERLOADS)

-- what it says of one
abbrev pub of_layer : Function → Shape → Option CelType
of_layer f a = common f (passing f (λ k. nat_eq k 0) (is_of a) (λ k. true) OVERLOADS)

-- where the table has a type for the layers, the function runs well
abbrev pub Agrees : Function → Shape → Shape → Type 0
Agrees f a b = (v : CelType) → of_layers f a b ≡ Some v → RunsWell v (where_fits (row f (kind_step a) (kind_step b)) (of_two f a b))

pub none_some : {A : Type 0} (k : A) → None ≡ Some k → ⊥
none_some k h = cc

pub some_same : {A : Type 0} (j k : A) → Some j ≡ Some k → j ≡ k
some_same j k h = cc

at_type : (t v : CelType) (o : Outcome) → Some t ≡ Some v → RunsWell t o → RunsWell v o
at_type t v o h w = subst (λ u. RunsWell u o) (some_same t v h) w

add_agrees : (a b : Shape) → Agrees Function.Add a b
unfolding row
add_agrees (Value-F.Int x) (Value-F.Int y) v h = at_type CelType.Int v _ h (well_integer (x +ℤ y))
add_agrees (Value-F.Text x) (Value-F.Text y) v h = at_type CelType.Text v _ h (well_weighed (Value.Text (x ++ y)) CelType.Text (text_typed (x ++ y)))
add_agrees (Value-F.List x) (Value-F.List y) v h =
    at_type (types.List CelType.Dyn) v _ h (well_weighed (made.List (x ++ y)) (types.List CelType.Dyn) (list_typed (x ++ y) CelType.Dyn (all_any (x ++ y))))
add_agrees (Value-F.Time x) (Value-F.Span y) v h = at_type CelType.Time v _ h (well_moment (x +ℤ y))
add_agrees (Value-F.Span x) (Value-F.Time y) v h = at_type CelType.Time v _ h (well_moment (x +ℤ y))
add_agrees (Value-F.Span x) (Value-F.Span y) v h = at_type CelType.Span v _ h (well_span (x +ℤ y))
add_agrees _ _ v h = absurd (none_some v h)

sub_agrees : (a b : Shape) → Agrees Function.Sub a b
unfolding row
sub_agrees (Value-F.Int x) (Value-F.Int y) v h = at_type CelType.Int v _ h (well_integer (x -ℤ y))
sub_agrees (Value-F.Time x) (Value-F.Span y) v h = at_type CelType.Time v _ h (well_moment (x -ℤ y))
sub_agrees (Value-F.Time x) (Value-F.Time y) v h = at_type CelType.Span v _ h (well_span (x -ℤ y))
sub_agrees (Value-F.Span x) (Value-F.Span y) v h = at_type CelType.Span v _ h (well_span (x -ℤ y))
sub_agrees _ _ v h = absurd (none_some v h)

mul_agrees : (a b : Shape) → Agrees Function.Mul a b
unfolding row
mul_agrees (Value-F.Int x) (Value-F.Int y) v h = at_type CelType.Int v _ h (well_integer (x *ℤ y))
mul_agrees _ _ v h = absurd (none_some v h)

div_agrees : (a b : Shape) → Agrees Function.Div a b
unfolding row
div_agrees (Value-F.Int x) (Value-F.Int y) v h = at_type CelType.Int v _ h (well_quotient x y)
div_agrees _ _ v h = absurd (none_some v h)

rem_agrees : (a b : Shape) → Agrees Function.Rem a b
unfolding row
rem_agrees (Value-F.Int x) (Value-F.Int y) v h = at_type CelType.Int v _ h (well_remainder x y)
rem_agrees _ _ v h = absurd (none_some v h)

lt_agrees : (a b : Shape) → Agrees Function.Lt a b
unfolding row
lt_agrees (Value-F.Bool x) (Value-F.Bool y) v h = at_type CelType.Bool v (Ok (Value.Bool (is_lt (bool_cmp x y)))) h (bool_typed (is_lt (bool_cmp x y)))
lt_agrees (Value-F.Int x) (Value-F.Int y) v h = at_type CelType.Bool v (Ok (Value.Bool (is_lt (int_cmp x y)))) h (bool_typed (is_lt (int_cmp x y)))
lt_agrees (Value-F.Text x) (Value-F.Text y) v h =
    at_type CelType.Bool v (Ok (Value.Bool (is_lt (slice_cmp nat_cmp x y)))) h (bool_typed (is_lt (slice_cmp nat_cmp x y)))
lt_agrees (Value-F.Time x) (Value-F.Time y) v h = at_type CelType.Bool v (Ok (Value.Bool (is_lt (int_cmp x y)))) h (bool_typed (is_lt (int_cmp x y)))
lt_agrees (Value-F.Span x) (Value-F.Span y) v h = at_type CelType.Bool v (Ok (Value.Bool (is_lt (int_cmp x y)))) h (bool_typed (is_lt (int_cmp x y)))
lt_agrees _ _ v h = absurd (none_some v h)

le_agrees : (a b : Shape) → Agrees Function.Le a b
unfolding row
le_agrees (Value-F.Bool x) (Value-F.Bool y) v h = at_type CelType.Bool v (Ok (Value.Bool (is_le (bool_cmp x y)))) h (bool_typed (is_le (bool_cmp x y)))
le_agrees (Value-F.Int x) (Value-F.Int y) v h = at_type CelType.Bool v (Ok (Value.Bool (is_le (int_cmp x y)))) h (bool_typed (is_le (int_cmp x y)))
le_agrees (Value-F.Text x) (Value-F.Text y) v h =
    at_type CelType.Bool v (Ok (Value.Bool (is_le (slice_cmp nat_cmp x y)))) h (bool_typed (is_le (slice_cmp nat_cmp x y)))
le_agrees (Value-F.Time x) (Value-F.Time y) v h = at_type CelType.Bool v (Ok (Value.Bool (is_le (int_cmp x y)))) h (bool_typed (is_le (int_cmp x y)))
le_agrees (Value-F.Span x) (Value-F.Span y) v h = at_type CelType.Bool v (Ok (Value.Bool (is_le (int_cmp x y)))) h (bool_typed (is_le (int_cmp x y)))
le_agrees _ _ v h = absurd (none_some v h)

gt_agrees : (a b : Shape) → Agrees Function.Gt a b
unfolding row
gt_agrees (Value-F.Bool x) (Value-F.Bool y) v h = at_type CelType.Bool v (Ok (Value.Bool (is_gt (bool_cmp x y)))) h (bool_typed (is_gt (bool_cmp x y)))
gt_agrees (Value-F.Int x) (Value-F.Int y) v h = at_type CelType.Bool v (Ok (Value.Bool (is_gt (int_cmp x y)))) h (bool_typed (is_gt (int_cmp x y)))
gt_agrees (Value-F.Text x) (Value-F.Text y) v h =
    at_type CelType.Bool v (Ok (Value.Bool (is_gt (slice_cmp nat_cmp x y)))) h (bool_typed (is_gt (slice_cmp nat_cmp x y)))
gt_agrees (Value-F.Time x) (Value-F.Time y) v h = at_type CelType.Bool v (Ok (Value.Bool (is_gt (int_cmp x y)))) h (bool_typed (is_gt (int_cmp x y)))
gt_agrees (Value-F.Span x) (Value-F.Span y) v h = at_type CelType.Bool v (Ok (Value.Bool (is_gt (int_cmp x y)))) h (bool_typed (is_gt (int_cmp x y)))
gt_agrees _ _ v h = absurd (none_some v h)

ge_agrees : (a b : Shape) → Agrees Function.Ge a b
unfolding row
ge_agrees (Value-F.Bool x) (Value-F.Bool y) v h = at_type CelType.Bool v (Ok (Value.Bool (is_ge (bool_cmp x y)))) h (bool_typed (is_ge (bool_cmp x y)))
ge_agrees (Value-F.Int x) (Value-F.Int y) v h = at_type CelType.Bool v (Ok (Value.Bool (is_ge (int_cmp x y)))) h (bool_typed (is_ge (int_cmp x y)))
ge_agrees (Value-F.Text x) (Value-F.Text y) v h =
    at_type CelType.Bool v (Ok (Value.Bool (is_ge (slice_cmp nat_cmp x y)))) h (bool_typed (is_ge (slice_cmp nat_cmp x y)))
ge_agrees (Value-F.Time x) (Value-F.Time y) v h = at_type CelType.Bool v (Ok (Value.Bool (is_ge (int_cmp x y)))) h (bool_typed (is_ge (int_cmp x y)))
ge_agrees (Value-F.Span x) (Value-F.Span y) v h = at_type CelType.Bool v (Ok (Value.Bool (is_ge (int_cmp x y)))) h (bool_typed (is_ge (int_cmp x y)))
ge_agrees _ _ v h = absurd (none_some v h)

contains_agrees : (a b : Shape) → Agrees Function.Contains a b
unfolding row
contains_agrees (Value-F.Text x) (Value-F.Text y) v h = at_type CelType.Bool v (Ok (Value.Bool (contains x y))) h (bool_typed (contains x y))
contains_agrees _ _ v h = absurd (none_some v h)

starts_agrees : (a b : Shape) → Agrees Function.StartsWith a b
unfolding row
starts_agrees (Value-F.Text x) (Value-F.Text y) v h = at_type CelType.Bool v (Ok (Value.Bool (has_front x y))) h (bool_typed (has_front x y))
starts_agrees _ _ v h = absurd (none_some v h)

ends_agrees : (a b : Shape) → Agrees Function.EndsWith a b
unfolding row
ends_agrees (Value-F.Text x) (Value-F.Text y) v h = at_type CelType.Bool v (Ok (Value.Bool (has_end x y))) h (bool_typed (has_end x y))
ends_agrees _ _ v h = absurd (none_some v h)

extract_agrees : (a b : Shape) → Agrees Function.Extract a b
unfolding row
extract_agrees (Value-F.Text x) (Value-F.Text y) v h = at_type CelType.Text v _ h (well_extracted (template_of y) x)
extract_agrees _ _ v h = absurd (none_some v h)

split_agrees : (a b : Shape) → Agrees Function.Split a b
unfolding row
split_agrees (Value-F.Text x) (Value-F.Text y) v h = at_type (types.List CelType.Text) v _ h (well_split x y)
split_agrees _ _ v h = absurd (none_some v h)

join_agrees : (a b : Shape) → of_type_step (seen a) (CelType-F.List CelType.Text) ≡ true → Agrees Function.Join a b
unfolding row
join_agrees (Value-F.List x) (Value-F.Text y) k v h = at_type CelType.Text v _ h (joined_well y (texts_in x) (items_are_texts x k))
join_agrees _ _ k v h = absurd (none_some v h)

-- what a function asks of its first argument beyond the table
abbrev pub AskedOf : Function → Shape → Type 0
AskedOf Function.Join a = of_type_step (seen a) (CelType-F.List CelType.Text) ≡ true
AskedOf _ a = Unit {0}

pub two_agree : (f : Function) (a b : Shape) → AskedOf f a → Agrees f a b
two_agree Function.Add a b k = add_agrees a b
two_agree Function.Sub a b k = sub_agrees a b
two_agree Function.Mul a b k = mul_agrees a b
two_agree Function.Div a b k = div_agrees a b
two_agree Function.Rem a b k = rem_agrees a b
two_agree Function.Lt a b k = lt_agrees a b
two_agree Function.Le a b k = le_agrees a b
two_agree Function.Gt a b k = gt_agrees a b
two_agree Function.Ge a b k = ge_agrees a b
two_agree Function.Contains a b k = contains_agrees a b
two_agree Function.StartsWith a b k = starts_agrees a b
two_agree Function.EndsWith a b k = ends_agrees a b
two_agree Function.Extract a b k = extract_agrees a b
two_agree Function.Split a b k = split_agrees a b
two_agree Function.Join a b k = join_agrees a b k
two_agree _ a b k = λ v h. absurd (none_some v h)

-- ---- one argument

pub one_agrees : (f : Function) (a : Shape) (v : CelType) → of_layer f a ≡ Some v → RunsWell v (where_fits (row f (kind_step a) 0) (of_one f a))
unfolding row
one_agrees Function.Not (Value-F.Bool x) v h = at_type CelType.Bool v (Ok (Value.Bool (not x))) h (bool_typed (not x))
one_agrees Function.Neg (Value-F.Int x) v h = at_type CelType.Int v _ h (well_integer (neg_ℤ x))
one_agrees Function.Size (Value-F.Text x) v h = at_type CelType.Int v _ h (well_integer (pos (code_points x)))
one_agrees Function.Size (Value-F.List x) v h = at_type CelType.Int v _ h (well_integer (pos (length x)))
one_agrees Function.Size (Value-F.Map x) v h = at_type CelType.Int v _ h (well_integer (pos (length x)))
one_agrees Function.LowerAscii (Value-F.Text x) v h =
    at_type CelType.Text v (Ok (Value.Text (map to_ascii_lowercase x))) h (text_typed (map to_ascii_lowercase x))
one_agrees Function.Int (Value-F.Int x) v h = at_type CelType.Int v (Ok (Value.Int x)) h (int_typed x)
one_agrees Function.Int (Value-F.Text x) v h =
    at_type CelType.Int v _ h (well_good is_integer integer_value CelType.Int int_typed (option_map (signed x) (number_in (unsigned_text x))))
one_agrees Function.Int (Value-F.Time x) v h = at_type CelType.Int v (Ok (Value.Int x)) h (int_typed x)
one_agrees Function.String (Value-F.Text x) v h = at_type CelType.Text v (Ok (Value.Text x)) h (text_typed x)
one_agrees Function.String (Value-F.Int x) v h = at_type CelType.Text v (Ok (Value.Text (signed_decimal x))) h (text_typed (signed_decimal x))
one_agrees Function.String (Value-F.Bool x) v h = at_type CelType.Text v (Ok (Value.Text (truth_text x))) h (text_typed (truth_text x))
one_agrees Function.String (Value-F.Time x) v h =
    at_type CelType.Text v _ h (well_if (is_moment x) CelType.Text (Ok (Value.Text (moment_text x))) (Err EvalError.Overflow) (text_typed (moment_text x)) tt)
one_agrees Function.Timestamp (Value-F.Text x) v h =
    at_type CelType.Time v _ h (well_if (is_moment_text x) CelType.Time (Ok (Value.Time (seconds_in x))) (Err EvalError.BadText) (time_typed (seconds_in x)) tt)
one_agrees Function.Timestamp (Value-F.Time x) v h = at_type CelType.Time v (Ok (Value.Time x)) h (time_typed x)
one_agrees Function.Duration (Value-F.Text x) v h =
    at_type CelType.Span v _ h (well_good is_span span_value CelType.Span span_typed (option_map (signed x) (parts_seconds (unsigned_text x))))
one_agrees Function.Duration (Value-F.Span x) v h = at_type CelType.Span v (Ok (Value.Span x)) h (span_typed x)
one_agrees Function.GetFullYear (Value-F.Time x) v h = at_type CelType.Int v _ h (well_part full_year x)
one_agrees Function.GetMonth (Value-F.Time x) v h = at_type CelType.Int v _ h (well_part month x)
one_agrees Function.GetDayOfMonth (Value-F.Time x) v h = at_type CelType.Int v _ h (well_part day_of_month x)
one_agrees Function.GetDayOfYear (Value-F.Time x) v h = at_type CelType.Int v _ h (well_part day_of_year x)
one_agrees Function.GetDate (Value-F.Time x) v h = at_type CelType.Int v _ h (well_part date x)
one_agrees Function.GetDayOfWeek (Value-F.Time x) v h = at_type CelType.Int v _ h (well_part day_of_week x)
one_agrees Function.GetHours (Value-F.Time x) v h = at_type CelType.Int v _ h (well_part hours x)
one_agrees Function.GetMinutes (Value-F.Time x) v h = at_type CelType.Int v _ h (well_part minutes x)
one_agrees Function.GetSeconds (Value-F.Time x) v h = at_type CelType.Int v _ h (well_part seconds_of_minute x)
one_agrees _ _ v h = absurd (none_some v h)
