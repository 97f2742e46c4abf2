use Rattle.std.proofs.Common.{◌∙◌, ap, eqb, List, ℕ}
use Rattle.std.proofs.lemmas.Bool.Decides.{Decides-eqb}
use Rattle.std.proofs.lemmas.Slice.Eq.{starts_is}
use Rattle.std.specs.List.{starts_with}
use Rattle.grant_journal.specs.JournalBytes.{marker}
use Rattle.grant_journal.proofs.Looking.{marker_read}
use Rattle.grant_journal.proofs.journal_file.JournalFile.has_marker.Goals as goal

pub returns : goal.returns
returns c = λ file r.
    marker_read file c.args.self.now.bytes.items r.front c.starts_with.result
    (starts_is Decides-eqb c.args.self.now.bytes.items marker c.starts_with.result
    (c.starts_with.ensures.value ∙ ap (λ (l : List ℕ). starts_with eqb l marker) c.deref.ensures.value))
