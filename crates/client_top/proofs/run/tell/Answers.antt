use Rattle.std.proofs.Common.{sym, ◌∙◌}
use Rattle.std.specs.Prelude.{string_bytes}
use Rattle.client_top.proofs.run.tell.Goals as goal

pub returns-clause-partly : goal.returns-clause-partly
returns-clause-partly g c = λ four.
    let written = c.in-Err.ensures.written in
    (string_bytes c.in-Ok.text, written.0, c.in-Ok.ensures, (written.1.0, written.1.1, sym c.as_bytes.ensures.value ∙ written.1.2), written.2)
