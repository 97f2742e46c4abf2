-- What a run over lines read and wrote, and how each end comes.
use Rattle.std.specs.Prelude.{◌≡◌, ◌≤◌, ◌⊎◌, ℕ, ◌+◌, List, [], ◌∷◌, ◌++◌, length, Option}
use Rattle.std.specs.Io.KnownBytes.{Consumes, Appends, IsAtEnd}
use Rattle.wif_base.specs.Carried.{input_limit}
use Rattle.cel_lines.specs.Lines.{LinesBegin, AreLines, HasNoFeed, IsTooLong, lines_text}
use Rattle.cel_lines.specs.Answers.{AreAnswers}
use Rattle.cel_lines.specs.declared.end.LinesEnd.{LinesEnd}
use Rattle.cel_lines.specs.declared.end.LinesEnd.TheVariants.{Done, ReadFault, WriteFault, LineTooLong, InputLimit, Memory}

-- the bytes begin with these lines, or are these
abbrev pub Begins : List ℕ → List (List ℕ) → Type 0
Begins bytes lines = ((rest : List ℕ) × LinesBegin bytes lines rest) ⊎ AreLines bytes lines

-- What is known of each end: the bytes read, what the source has left, the lines that were answered, the text of their
-- answers, and what was written.
abbrev pub EndsAs : LinesEnd → List ℕ → Option (List ℕ) → List (List ℕ) → List ℕ → List ℕ → Type 0
-- the input was read to its end, and each of its lines was answered
EndsAs Done read left lines text written = AreLines read lines × IsAtEnd left × (length read ≤ input_limit) × (written ≡ text)
-- each line before one that is too long was answered
EndsAs LineTooLong read left lines text written =
    ((rest : List ℕ) × LinesBegin read lines rest × IsTooLong rest) × (length read ≤ input_limit) × (written ≡ text)
-- each line that is whole in the bytes read was answered
EndsAs ReadFault read left lines text written =
    ((rest : List ℕ) × LinesBegin read lines rest × HasNoFeed rest) × (length read ≤ input_limit) × (written ≡ text)
-- each line that is whole in the bytes within the limit was answered, and one byte more was read
EndsAs InputLimit read left lines text written =
    ((within rest : List ℕ) × (last : ℕ) × (read ≡ within ++ last ∷ []) × LinesBegin within lines rest × HasNoFeed rest)
    × (length read ≡ input_limit + 1) × (written ≡ text)
-- the front of such a text was written
EndsAs WriteFault read left lines text written = Begins read lines × ((more : List ℕ) × (text ≡ written ++ more)) × (length read ≤ input_limit)
EndsAs Memory read left lines text written = Begins read lines × ((more : List ℕ) × (text ≡ written ++ more))

-- The account of a run over lines: what it read from the source and wrote to the sink.
pub record LinesRun (left left' taken taken' : Option (List ℕ)) (end : LinesEnd) : Type 0 where
  pub read : List ℕ
  pub written : List ℕ
  pub source : Consumes left left' read
  pub sink : Appends taken taken' written
  -- lines of the bytes read, and their answers
  pub lines : List (List ℕ)
  pub answers : List (List ℕ)
  pub answered : AreAnswers lines answers
  pub ends : EndsAs end read left' lines (lines_text answers) written
