-- The number of entries.
use Rattle.std.proofs.Common.{◌≡◌, ℕ, ◌+◌, List, [], ◌∷◌, length, ap, ◌∙◌, arith}
use Rattle.service_config.specs.declared.config.Config.{Config}
use Rattle.sts_core.specs.State.{Standing, Stands}
use Rattle.links.specs.declared.entry.Entry.{Entry}
use Rattle.generated_work.specs.declared.counts.Counts.{Counts}
use Rattle.generated_work.specs.Run.{progress_of}
use Rattle.generated_work.specs.Setting.{run_config}
use Rattle.generated_work.specs.Told.{line_at, line_text, work_text}
use Rattle.links.specs.State.{Content, after, content_of, start_of, state_after}

-- each entry counts one
count_after : (c : Content) (journal : List Entry) → (state_after c journal).count ≡ c.count + length journal
count_after c [] = omega arith
count_after c (e ∷ journal) = omega (arith, count_after (after c e) journal)

-- a service has as many entries as its journal
pub entries_counted : (sts : Standing) (config : Config) (journal : List Entry) → Stands sts config journal → sts.content.count ≡ length journal
entries_counted sts config journal stands =
    ap (λ (c : Content). c.count) stands.content ∙ (let e : (content_of config journal).count ≡ 0 + length journal = count_after (start_of config) journal in omega (arith, e))

-- the line of what a run has come to
pub told_line : (sts : Standing) (count entries : ℕ) (counts : Counts) → counts ≡ (progress_of count count).counts → entries ≡ sts.content.count
    → Stands sts run_config (progress_of count count).journal → line_text counts entries ≡ work_text count
unfolding work_text line_at
told_line sts count entries counts is_counts is_entries stands =
    let e : entries ≡ length (progress_of count count).journal = is_entries ∙ entries_counted sts run_config (progress_of count count).journal stands in
    ap (λ (k : Counts). line_text k entries) is_counts ∙ ap (λ (n : ℕ). line_text (progress_of count count).counts n) e
