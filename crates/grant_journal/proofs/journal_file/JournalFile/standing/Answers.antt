use Rattle.std.proofs.Common.{rules, ◌≡◌, ◌∙◌, ap, sym, inl, ℕ, List, length, take, drop, arith}
use Rattle.grant_journal.proofs.Looking.{closed_read, short_read, end_read, long_read, text_read}
use Rattle.grant_journal.proofs.journal_file.JournalFile.standing.Goals as goal

pub returns-then-at-self-clause-stands : goal.returns-then-at-self-clause-stands
returns-then-at-self-clause-stands c = λ file r. inl (omega (arith, r.size))

pub returns-then-piece-ne1-clause-stands : goal.returns-then-piece-ne1-clause-stands
returns-then-piece-ne1-clause-stands c = λ file r.
    let piece = c.split_at.ensures.back ∙ ap (λ (l : List ℕ). drop c.args.at l) c.deref.ensures.value in
    closed_read file _ _ c.args.at r.front piece (omega (arith, r.size)) (omega arith) (search rules)

pub returns-then-behind-lt4-clause-stands : goal.returns-then-behind-lt4-clause-stands
returns-then-behind-lt4-clause-stands c = λ file r.
    let piece = c.split_at.ensures.back ∙ ap (λ (l : List ℕ). drop c.args.at l) c.deref.ensures.value in
    short_read file _ _ c.args.at r.front piece (omega (arith, r.size)) (omega arith) _ (search rules) c.split_at-2.ensures.back (omega arith)

pub returns-then-self-at-clause-stands : goal.returns-then-self-at-clause-stands
returns-then-self-at-clause-stands c = λ file r.
    let piece = c.split_at.ensures.back ∙ ap (λ (l : List ℕ). drop c.args.at l) c.deref.ensures.value in
    let told = sym c.split_at-3.ensures.front ∙ c.told_number-size.ensures in
    end_read file _ _ c.args.at r.front piece (omega (arith, r.size)) (omega arith) _ (search rules) c.split_at-2.ensures.back c.told_number-size.result told
    (omega (arith, r.size))

pub returns-then-size-gt-LONGEST-clause-stands : goal.returns-then-size-gt-LONGEST-clause-stands
returns-then-size-gt-LONGEST-clause-stands c = λ file r.
    let piece = c.split_at.ensures.back ∙ ap (λ (l : List ℕ). drop c.args.at l) c.deref.ensures.value in
    let told = sym c.split_at-3.ensures.front ∙ c.told_number-size.ensures in
    long_read file _ _ c.args.at r.front piece (omega (arith, r.size)) (omega arith) _ (search rules) c.split_at-2.ensures.back c.told_number-size.result told
    (omega (arith, r.size)) (omega arith)

pub returns-clause-stands : goal.returns-clause-stands
returns-clause-stands c = λ file r.
    let piece = c.split_at.ensures.back ∙ ap (λ (l : List ℕ). drop c.args.at l) c.deref.ensures.value in
    let told = sym c.split_at-3.ensures.front ∙ c.told_number-size.ensures in
    let size : length c.split_at-4.result.0.now ≡ c.told_number-size.result = search rules in
    let from = c.split_at-4.ensures.front ∙ ap (λ (l : List ℕ). take c.told_number-size.result l) c.split_at-3.ensures.back in
    let is =
    text_read file _ _ c.args.at r.front piece (omega (arith, r.size)) (omega arith) _ (search rules) c.split_at-2.ensures.back c.told_number-size.result told
    c.split_at-4.result.0.now size from in
    (is, omega (arith, size))
