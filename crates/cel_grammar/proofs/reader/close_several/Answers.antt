use Rattle.std.proofs.Common.{◌≡◌, Some, IfOk, subst}
use Rattle.cel_grammar.specs.declared.frames.Last.{Last}
use Rattle.cel_grammar.specs.Machine.{all, all_closer, after, same}
use Rattle.cel_grammar.specs.Places.{stack_of, next_of}
use Rattle.cel_grammar.proofs.reader.close_several.Goals as goal

pub returns-in-Ok : goal.returns-in-Ok
returns-in-Ok c = λ fs.
    subst (λ es. IfOk c.close_many.result (λ o. next_of o fs ≡ same c.args.bracket (all_closer c.args.many) (Some (after (Last.Whole (all c.args.many es)) (stack_of fs)))))
    c.in-Ok.ensures (c.close_many.ensures fs)
