use Rattle.std.proofs.Common.{Err, ap, sym}
use Rattle.cel_reader.proofs.TreesFound.{tree_only, faulty_text}
use Rattle.cel_reader.proofs.reader.tree_in.Goals as goal

pub returns-in-Ok : goal.returns-in-Ok
returns-in-Ok c =
    let found = c.in-Ok.ensures.found in
    sym (tree_only c.args.text.now c.in-Ok.tree found.0 found.1)

pub returns-in-Err-Fault : goal.returns-in-Err-Fault
returns-in-Err-Fault c =
    let fault = c.in-Err-Fault in
    sym (faulty_text c.args.text.now (Err fault.field-0) fault.field-0-0 fault.field-0-1 (ap Err fault.field-0-is) fault.ensures.only)
