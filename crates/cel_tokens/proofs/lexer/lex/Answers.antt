use Rattle.std.proofs.Common.{◌≡◌, ◌-◌, sym, arith, length, subst, ◌<◌, ◌≤◌}
use Rattle.std.proofs.lemmas.Bool.Decides.{nat_tests}
use Rattle.cel_tokens.specs.declared.token.Piece.{Piece}
use Rattle.cel_tokens.proofs.Lexed.{GoesOn, blank_goes, token_goes, less_left, stops_there, ends_there, found_word, no_word_found}
use Rattle.cel_tokens.proofs.lexer.lex.Goals as goal

pub returns-in_default : goal.returns-in_default
returns-in_default c =
    let text = c.args.text.now in
    let rest = c.loop-rest.rest.now in
    let some : 0 < length rest = grind (arith, nat_tests) in
    stops_there text rest c.loop-rest.tokens some (no_word_found (length text - length rest) rest c.in_ok-piece.field-0 c.in_ok-piece.ensures c.in_default.is) c.loop-rest.invariant.goes

pub loop-rest-smaller-in-Blank : goal.loop-rest-smaller-in-Blank
loop-rest-smaller-in-Blank c =
    let text = c.args.text.now in
    let rest = c.loop-rest.rest.now in
    let found = found_word (length text - length rest) rest c.in_ok-piece.field-0 c.in-Some.piece Piece.Blank c.in-Some.more c.in_ok-piece.ensures c.in-Some.is c.in-Blank.is in
    less_left (length text - length rest) rest c.in-Some.more.now Piece.Blank found

pub loop-rest-preserved-in-Blank : goal.loop-rest-preserved-in-Blank
loop-rest-preserved-in-Blank c =
    let text = c.args.text.now in
    let rest = c.loop-rest.rest.now in
    let found = found_word (length text - length rest) rest c.in_ok-piece.field-0 c.in-Some.piece Piece.Blank c.in-Some.more c.in_ok-piece.ensures c.in-Some.is c.in-Blank.is in
    let less : length c.in-Some.more.now < length rest = less_left (length text - length rest) rest c.in-Some.more.now Piece.Blank found in
    let bound : length rest ≤ length text = c.loop-rest.invariant.bound in
    record {
      bound = omega arith;
      goes = blank_goes text rest c.in-Some.more.now c.loop-rest.tokens bound found c.loop-rest.invariant.goes;
    }

pub loop-rest-smaller : goal.loop-rest-smaller
loop-rest-smaller c =
    let text = c.args.text.now in
    let rest = c.loop-rest.rest.now in
    let found = found_word (length text - length rest) rest c.in_ok-piece.field-0 c.in-Some.piece (Piece.Token c.in-Token.token) c.in-Some.more c.in_ok-piece.ensures c.in-Some.is c.in-Token.is in
    less_left (length text - length rest) rest c.in-Some.more.now (Piece.Token c.in-Token.token) found

pub loop-rest-preserved : goal.loop-rest-preserved
loop-rest-preserved c =
    let text = c.args.text.now in
    let rest = c.loop-rest.rest.now in
    let found = found_word (length text - length rest) rest c.in_ok-piece.field-0 c.in-Some.piece (Piece.Token c.in-Token.token) c.in-Some.more c.in_ok-piece.ensures c.in-Some.is c.in-Token.is in
    let less : length c.in-Some.more.now < length rest = less_left (length text - length rest) rest c.in-Some.more.now (Piece.Token c.in-Token.token) found in
    let bound : length rest ≤ length text = c.loop-rest.invariant.bound in
    record {
      bound = omega arith;
      goes = subst (GoesOn text c.in-Some.more.now) (sym c.in_ok-push-in-Token.ensures.ok)
          (token_goes text rest c.in-Some.more.now c.loop-rest.tokens c.in-Token.token bound found c.loop-rest.invariant.goes);
    }

pub returns : goal.returns
returns c =
    let none : length c.loop-rest.rest.now ≡ 0 = grind (arith, nat_tests) in
    ends_there c.args.text.now c.loop-rest.rest.now c.loop-rest.tokens none c.loop-rest.invariant.goes
