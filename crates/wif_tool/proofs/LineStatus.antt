-- What the account of a run over lines says at each status.
use Rattle.std.proofs.Common.{◌≡◌, ◌≢◌, ◌≤◌, ◌⊎◌, ◌+◌, ◌++◌, ℕ, List, length, inl, inr, sym, ◌∙◌, ap, subst, arith, length-append}
use Rattle.std.specs.Prelude.{Option, Some}
use Rattle.std.specs.Io.KnownBytes.{Consumes}
use Rattle.wif_base.specs.Carried.{input_limit}
use Rattle.cel_lines.specs.Lines.{AreLines, LinesBegin, IsTooLong}
use Rattle.cel_lines.specs.Run.{LinesRun}
use Rattle.cel_lines.specs.declared.end.LinesEnd.{LinesEnd}
use Rattle.cel_lines.specs.declared.end.LinesEnd.TheVariants.{Done, ReadFault, WriteFault, LineTooLong, InputLimit, Memory}
use Rattle.cel_lines.proofs.Lines.{longer, begins_longer, no_lines}
use Rattle.wif_tool.specs.Status.{lines_status, CelOutcome}
use Rattle.wif_tool.proofs.Outcome.{front_of, at_end}

module _ (left' taken taken' : Option (List ℕ)) where
  past : (left : Option (List ℕ)) (end : LinesEnd) → LinesRun left left' taken taken' end → 10 ≡ lines_status end → (read : List ℕ) × Consumes left left' read × (length read ≡ input_limit + 1)
  past left Done run is = absurd (omega (arith, is))
  past left ReadFault run is = absurd (omega (arith, is))
  past left WriteFault run is = absurd (omega (arith, is))
  past left LineTooLong run is = absurd (omega (arith, is))
  past left Memory run is = absurd (omega (arith, is))
  past left InputLimit run is = (run.read, run.source, run.ends.1)

  pub lines_ten : (left : Option (List ℕ)) (status : ℕ) → status ≡ 10 → CelOutcome left left' taken taken' status → (read : List ℕ) × Consumes left left' read × (length read ≡ input_limit + 1)
  lines_ten left status is outcome = past left outcome.end outcome.run (sym is ∙ outcome.closes)

  module _ (bytes : List ℕ) where
    -- lines that are too long show in the whole input
    long_line : (lines others : List (List ℕ)) (read rest : List ℕ) → AreLines bytes others → Consumes (Some bytes) left' read → LinesBegin read lines rest → IsTooLong rest → ⊥
    long_line lines others read rest are source begins long =
        let front = front_of bytes left' read source in
        no_lines bytes lines others (rest ++ front.rest)
        (subst (λ (l : List ℕ). LinesBegin l lines (rest ++ front.rest)) (sym front.is) (begins_longer read front.rest lines rest begins))
        (longer rest front.rest long) are

    complete_by : (lines : List (List ℕ)) (end : LinesEnd) (status : ℕ) → AreLines bytes lines → length bytes ≤ input_limit → LinesRun (Some bytes) left' taken taken' end
        → status ≡ lines_status end → status ≢ 3 → status ≢ 4 → (status ≡ 0) ⊎ (status ≡ 7)
    complete_by lines Done status are within run closes three four = inl closes
    complete_by lines Memory status are within run closes three four = inr closes
    complete_by lines ReadFault status are within run closes three four = absurd (three closes)
    complete_by lines WriteFault status are within run closes three four = absurd (four closes)
    complete_by lines InputLimit status are within run closes three four =
        let front = front_of bytes left' run.read run.source in
        absurd (omega (arith, within, run.ends.1, ap length front.is, length-append run.read front.rest))
    complete_by lines LineTooLong status are within run closes three four =
        absurd (long_line run.lines lines run.read run.ends.0.0 are run.source run.ends.0.1 run.ends.0.2)

    pub lines_complete : (left : Option (List ℕ)) (lines : List (List ℕ)) (status : ℕ) → left ≡ Some bytes → AreLines bytes lines → length bytes ≤ input_limit → CelOutcome left left' taken taken' status
        → status ≢ 3 → status ≢ 4 → (status ≡ 0) ⊎ (status ≡ 7)
    lines_complete left lines status told are within outcome three four =
        complete_by lines outcome.end status are within (subst (λ l. LinesRun l left' taken taken' outcome.end) told outcome.run) outcome.closes three four

    not_done : (lines : List (List ℕ)) (rest : List ℕ) (end : LinesEnd) → LinesBegin bytes lines rest → IsTooLong rest → LinesRun (Some bytes) left' taken taken' end → 0 ≡ lines_status end → ⊥
    not_done lines rest ReadFault begins long run is = omega (arith, is)
    not_done lines rest WriteFault begins long run is = omega (arith, is)
    not_done lines rest LineTooLong begins long run is = omega (arith, is)
    not_done lines rest Memory begins long run is = omega (arith, is)
    not_done lines rest InputLimit begins long run is = omega (arith, is)
    not_done lines rest Done begins long run is =
        no_lines bytes lines run.lines rest begins long
        (subst (λ (l : List ℕ). AreLines l run.lines) (sym (at_end bytes left' run.read run.source run.ends.1)) run.ends.0)

    pub lines_too_long : (left : Option (List ℕ)) (lines : List (List ℕ)) (rest : List ℕ) (status : ℕ) → left ≡ Some bytes → LinesBegin bytes lines rest → IsTooLong rest
        → CelOutcome left left' taken taken' status → status ≢ 0
    lines_too_long left lines rest status told begins long outcome = λ is.
        not_done lines rest outcome.end begins long (subst (λ l. LinesRun l left' taken taken' outcome.end) told outcome.run) (sym is ∙ outcome.closes)
