-- When two values are equal.
use Rattle.std.specs.Prelude.{Bool, true, false, ◌&&◌, List, [], ◌∷◌}
use Rattle.std.specs.Bool.{beq}
use Rattle.std.specs.Ordering.{int_eq}
use Rattle.std.specs.Str.{bytes_eq}
use Rattle.cel_values.specs.declared.value.Value.{Value, fold-Value, out-Value}
use Rattle.cel_values.specs.declared.value.Value.TheOpen.{Value-F, MapEntry-F}
use Rattle.cel_values.specs.declared.value.MapEntry.{MapEntry}

-- as many items as comparisons, and each item passes its own
abbrev pub all_equal : {A : Type 0} → List (A → Bool) → List A → Bool
all_equal [] [] = true
all_equal (f ∷ fs) (x ∷ xs) = f x && all_equal fs xs
all_equal _ _ = false

-- values of different kinds are unequal, lists and maps compare by their parts
abbrev pub equal_step : Value-F (Value → Bool) (MapEntry → Bool) → Value-F Value MapEntry → Bool
equal_step Value-F.Null Value-F.Null = true
equal_step (Value-F.Bool a) (Value-F.Bool b) = beq a b
equal_step (Value-F.Int a) (Value-F.Int b) = int_eq a b
equal_step (Value-F.Text a) (Value-F.Text b) = bytes_eq a b
equal_step (Value-F.List fs) (Value-F.List xs) = all_equal fs xs
equal_step (Value-F.Map fs) (Value-F.Map es) = all_equal fs es
equal_step (Value-F.Time a) (Value-F.Time b) = int_eq a b
equal_step (Value-F.Span a) (Value-F.Span b) = int_eq a b
equal_step Value-F.Opaque Value-F.Opaque = true
equal_step _ _ = false

-- entries of maps are equal where their keys are and their values
abbrev pub equal_entry_step : MapEntry-F (Value → Bool) (MapEntry → Bool) → MapEntry → Bool
equal_entry_step e f = bytes_eq e.key f.key && e.value f.value

-- two values are equal
abbrev pub equal : Value → Value → Bool
equal = fold-Value (Value → Bool) (MapEntry → Bool) (λ x v. equal_step x (out-Value v)) equal_entry_step

-- two entries are equal
abbrev pub entry_equal : MapEntry → MapEntry → Bool
entry_equal e f = bytes_eq e.key f.key && equal e.value f.value
