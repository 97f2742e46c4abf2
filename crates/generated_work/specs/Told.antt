-- What a run tells.
use Rattle.std.specs.Prelude.{ℕ, List, ◌++◌, length, codes}
use Rattle.std.specs.Fmt.{decimal}
use Rattle.generated_work.specs.declared.counts.Counts.{Counts}
use Rattle.generated_work.specs.Run.{Progress, progress_of}

-- the line of the counts and of the number of entries
unfoldable pub line_text : Counts → ℕ → List ℕ
line_text counts entries =
    codes "exchanges " ++ (decimal counts.exchanges ++ (codes " narrowed " ++ (decimal counts.narrowed
    ++ (codes " admitted " ++ (decimal counts.admitted ++ (codes " denied " ++ (decimal counts.denied
    ++ (codes " entries " ++ (decimal entries ++ codes "\n")))))))))

-- the line of a run's progress
unfoldable pub line_at : Progress → List ℕ
line_at progress = line_text progress.counts (length progress.journal)

-- the line of the whole run of a number
unfoldable pub work_text : ℕ → List ℕ
work_text count = line_at (progress_of count count)
