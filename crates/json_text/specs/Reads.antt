-- What a reader of a JSON value gives: the value that is there, or why it gives none.
use Rattle.std.specs.Prelude.{◌≡◌, Option, None, Result, ⊤}
use Rattle.base_types.specs.Reading.{ReadsOr}
use Rattle.json_text.specs.declared.each.ReadFault.{ReadFault}
use Rattle.json_text.specs.declared.each.ReadFault.TheVariants.{Form, Memory}

-- nothing is there, or nothing is said where memory ran out
abbrev pub Refuses : {X : Type 0} → ReadFault → Option X → Type 0
Refuses Form there = there ≡ None
Refuses Memory there = ⊤

-- what was read is what there is
abbrev pub Reads : {X : Type 0} → Result X ReadFault → Option X → Type 0
Reads result there = ReadsOr Refuses (λ x. x) result there
