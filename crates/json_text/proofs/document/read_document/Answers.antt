use Rattle.std.proofs.Common.{◌≡◌, false}
use Rattle.serde_json.specs.View.{view}
use Rattle.json_text.proofs.Documents.{document-some, document-none}
use Rattle.json_text.proofs.document.read_document.Goals as goal

pub returns-in-Ok-clause-found : goal.returns-in-Ok-clause-found
returns-in-Ok-clause-found c = document-some c.args.bytes.now (view c.in-Ok.value) c.in-Ok.ensures.ok.0 c.in-Ok.ensures.ok.1

pub returns-else-is_memory-clause-no_json : goal.returns-else-is_memory-clause-no_json
returns-else-is_memory-clause-no_json c = λ is.
    let test : c.is_memory.result ≡ false = c.if-is_memory.false in
    document-none c.args.bytes.now (c.in-Err.ensures.err (λ m. let yes = c.is_memory.ensures.1 m in cc))
