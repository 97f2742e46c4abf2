use Rattle.std.proofs.Common.{rules, ◌≡◌, ◌⊎◌, ◌<◌, ◌≤◌, ◌∙◌, ap, inl, inr, ℕ, List, length, min, take, arith}
use Rattle.std.proofs.lemmas.List.{take_at}
use Rattle.grant_journal.proofs.Looking.{file_read}
use Rattle.grant_journal.proofs.reading.read_file.Goals.{then-count-size, else-count-size}
use Rattle.grant_journal.proofs.reading.read_file.Goals as goal

pub returns-clause-file : goal.returns-clause-file
returns-clause-file g c =
    let into = c.read_at.new.into in
    let count = c.in_ok-count.count in
    let asked = c.in_ok-bytes.bytes.len in
    let length_told = c.in_ok-length.length in
    let size : length into ≡ asked = search rules in
    let limit : asked ≡ min length_told 67371012 = search rules in
    let kept : c.truncate.new.self.items ≡ take count into = c.truncate.ensures.items ∙ ap (λ (l : List ℕ). take count l) (take_at into _ _ size) in
    let shown : ((count < asked) × (c.if-count-size.length ≡ count)) ⊎ ((asked ≤ count) × (c.if-count-size.length ≡ length_told)) =
    elim c.if-count-size.branch [ then-count-size w ↦ inl (omega arith, w.length-is) | else-count-size w ↦ inr (omega arith, w.length-is) ] in
    file_read _ _ _ into count _ length_told _ c.in_ok-sync.ensures.synced c.len.ensures.told c.in_ok-length.ensures.length c.in_ok-count.ensures.bytes
    c.in_ok-count.ensures.bound size limit kept shown
