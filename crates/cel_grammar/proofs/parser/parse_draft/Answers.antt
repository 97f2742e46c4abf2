use Rattle.std.proofs.Common.{length, arith, subst, false}
use Rattle.cel_grammar.specs.declared.error.SyntaxRule.{SyntaxRule}
use Rattle.cel_grammar.specs.Machine.{start}
use Rattle.cel_grammar.specs.Faults.{kinds}
use Rattle.cel_grammar.specs.Walk.{walk}
use Rattle.cel_grammar.specs.Answer.{Gives, answer}
use Rattle.cel_grammar.proofs.Walked.{whole_walk}
use Rattle.cel_grammar.proofs.Placed.{long_first, found_of, error_of, only_of}
use Rattle.cel_grammar.proofs.parser.parse_draft.Goals as goal

pub returns-then-text-gt-MOST_BYTES-clause-only : goal.returns-then-text-gt-MOST_BYTES-clause-only
returns-then-text-gt-MOST_BYTES-clause-only c = λ e spells none. none SyntaxRule.S6 0 (long_first c.args.text.now (omega arith)).fault

pub returns-then-text-gt-MOST_BYTES-clause-fault : goal.returns-then-text-gt-MOST_BYTES-clause-fault
returns-then-text-gt-MOST_BYTES-clause-fault c = long_first c.args.text.now (omega arith)

pub returns-clause-found : goal.returns-clause-found
returns-clause-found c =
    let ls = c.in_ok-lexing.lexing.tokens in
    let gives = subst (λ l. Gives c.read.result (answer l c.in_ok-lexing.lexing.stop (length c.args.text.now) (walk (kinds l) start false 0 0))) c.as_slice.ensures c.read.ensures in
    found_of c.args.text.now ls c.in_ok-lexing.lexing.stop (walk (kinds ls) start false 0 0) c.read.result (omega arith) c.in_ok-lexing.ensures (whole_walk (kinds ls)) gives

pub returns-clause-fault : goal.returns-clause-fault
returns-clause-fault c =
    let ls = c.in_ok-lexing.lexing.tokens in
    let gives = subst (λ l. Gives c.read.result (answer l c.in_ok-lexing.lexing.stop (length c.args.text.now) (walk (kinds l) start false 0 0))) c.as_slice.ensures c.read.ensures in
    error_of c.args.text.now ls c.in_ok-lexing.lexing.stop (walk (kinds ls) start false 0 0) c.read.result (omega arith) c.in_ok-lexing.ensures (whole_walk (kinds ls)) gives

pub returns-clause-only : goal.returns-clause-only
returns-clause-only c =
    let ls = c.in_ok-lexing.lexing.tokens in
    let v = walk (kinds ls) start false 0 0 in
    let gives = subst (λ l. Gives c.read.result (answer l c.in_ok-lexing.lexing.stop (length c.args.text.now) (walk (kinds l) start false 0 0))) c.as_slice.ensures c.read.ensures in
    only_of c.args.text.now c.read.result
    (found_of c.args.text.now ls c.in_ok-lexing.lexing.stop v c.read.result (omega arith) c.in_ok-lexing.ensures (whole_walk (kinds ls)) gives)
    (error_of c.args.text.now ls c.in_ok-lexing.lexing.stop v c.read.result (omega arith) c.in_ok-lexing.ensures (whole_walk (kinds ls)) gives)
