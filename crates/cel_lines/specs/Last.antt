-- The line that an input ends in without a line feed.
use Rattle.std.specs.Prelude.{◌≡◌, ℕ, List, ◌++◌, Option}
use Rattle.std.specs.Io.KnownBytes.{Appends}
use Rattle.cel_lines.specs.Lines.{last_line, lines_text}
use Rattle.cel_lines.specs.Answers.{AreAnswers}
use Rattle.cel_lines.specs.declared.end.LinesEnd.{LinesEnd}
use Rattle.cel_lines.specs.declared.end.LinesEnd.TheVariants.{Done, ReadFault, WriteFault, LineTooLong, InputLimit, Memory}

-- What was written of the answer to it, where it is there: all of it, a front, or nothing.
abbrev pub AnswersLast : LinesEnd → List ℕ → Option (List ℕ) → Option (List ℕ) → Type 0
AnswersLast Done rest taken taken' = (answers : List (List ℕ)) × AreAnswers (last_line rest) answers × Appends taken taken' (lines_text answers)
AnswersLast WriteFault rest taken taken' = (answers : List (List ℕ)) × AreAnswers (last_line rest) answers
    × ((part more : List ℕ) × (lines_text answers ≡ part ++ more) × Appends taken taken' part)
AnswersLast Memory rest taken taken' = taken' ≡ taken
AnswersLast ReadFault rest taken taken' = ⊥
AnswersLast LineTooLong rest taken taken' = ⊥
AnswersLast InputLimit rest taken taken' = ⊥
