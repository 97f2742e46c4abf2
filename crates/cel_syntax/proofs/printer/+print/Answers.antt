use Rattle.std.proofs.Common.{rules}
use Rattle.cel_syntax.proofs.Separated.{joined_texts, joined_items}
use Rattle.cel_syntax.proofs.printer.+print.Goals as goal

pub put_items-loop-item-init : goal.put_items-loop-item-init
put_items-loop-item-init t c = search (rules, joined_items)

pub put_pairs-loop-pair-init : goal.put_pairs-loop-pair-init
put_pairs-loop-pair-init t c = search (rules, joined_texts)
