-- Readers of a form: the value that is there or none, step by step.
use Rattle.std.specs.Prelude.{◌≡◌, Option, None, Some, Result, Ok, Err}

infixl 10 ◌>>=◌
abbrev pub ◌>>=◌ : {A B : Type 0} → Option A → (A → Option B) → Option B
None >>= f = None
(Some x) >>= f = f x

-- What was read is what there is, and an error says of what there is what the reader's own words say.
abbrev pub ReadsOr : {X E Y : Type 0} → (E → Option Y → Type 0) → (X → Y) → Result X E → Option Y → Type 0
ReadsOr Refuses view (Ok x) there = there ≡ Some (view x)
ReadsOr Refuses view (Err error) there = Refuses error there
