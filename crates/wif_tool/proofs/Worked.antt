-- What the words of `gen` ask for.
use Rattle.std.proofs.Common.{◌≡◌, [], ℕ, List, sym, ◌∙◌, ap, subst, arith}
use Rattle.std.proofs.lemmas.Fmt.{decimal_injective}
use Rattle.std.specs.Prelude.{Option, None, Some}
use Rattle.generated_work.specs.Told.{work_text}
use Rattle.wif_tool.specs.Lines.{LineDue}
use Rattle.wif_tool.specs.Work.{AsksForWork}

abbrev word_of : Option (List ℕ) → List ℕ
word_of None = []
word_of (Some word) = word

pub same_work : (words : List (List ℕ)) (one other : ℕ) → AsksForWork words one → AsksForWork words other → one ≡ other
same_work words one other asks another =
    decimal_injective one other (omega (arith, asks.range.1)) (omega (arith, another.range.1)) (ap word_of (sym asks.spelled ∙ another.spelled))

pub line_of : (one other : ℕ) (taken taken' : Option (List ℕ)) (status : ℕ) → one ≡ other
    → LineDue (work_text one) 0 taken taken' status → LineDue (work_text other) 0 taken taken' status
line_of one other taken taken' status same due = subst (λ (n : ℕ). LineDue (work_text n) 0 taken taken' status) same due
