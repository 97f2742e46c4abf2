use Rattle.std.proofs.Common.{◌≡◌, ◌+◌, [], ◌∷◌, drop, ap, sym, ◌∙◌, arith, None, Some, length, ◌<◌}
use Rattle.cel_grammar.specs.Machine.{step}
use Rattle.cel_grammar.specs.Walk.{walk, is_sign, limit_by, extends}
use Rattle.cel_grammar.specs.Faults.{open_after, head, kinds}
use Rattle.cel_grammar.specs.Places.{state_of}
use Rattle.cel_grammar.proofs.Kept.{kept_on, cut_at, open_bound, error_answer}
use Rattle.cel_grammar.proofs.parser.read.Goals as goal

pub returns-in-Err : goal.returns-in-Err
returns-in-Err c =
    let ls = c.args.lexemes.now in
    let at = c.tokens.at in
    let l = c.index-lexemes-at.result in
    let s = state_of c.tokens.place c.tokens.frames in
    let limit : c.broken-limit.result ≡ limit_by l.token (extends (head (kinds (drop (at + 1) ls)))) c.tokens.signed at c.tokens.deep =
    c.broken-limit.ensures ∙ ap (λ b. limit_by l.token b c.tokens.signed at c.tokens.deep) c.follower_extends-extended.ensures in
    error_answer ls c.args.stop c.args.size at l s c.tokens.signed c.tokens.deep c.broken-limit.result c.advance.new.frames c.in-Err.error (omega arith) c.index-lexemes-at.is c.tokens.invariant.same limit c.in-Err.ensures

pub tokens-preserved : goal.tokens-preserved
tokens-preserved c =
    let ls = c.args.lexemes.now in
    let at = c.tokens.at in
    let l = c.index-lexemes-at.result in
    let t = l.token in
    let s = state_of c.tokens.place c.tokens.frames in
    let next = state_of c.in-Ok.next c.advance.new.frames in
    let more = kinds (drop (at + 1) ls) in
    let signed : c.is_sign_at-signed.result ≡ is_sign s t = c.is_sign_at-signed.ensures c.tokens.frames in
    let deep : c.deeper-deep.result ≡ open_after c.tokens.deep (t ∷ []) = c.deeper-deep.ensures in
    let free : limit_by t (extends (head more)) c.tokens.signed at c.tokens.deep ≡ None =
    sym (ap (λ b. limit_by t b c.tokens.signed at c.tokens.deep) c.follower_extends-extended.ensures) ∙ sym c.broken-limit.ensures ∙ c.in-Ok.ensures.0 in
    let steps : step s t ≡ Some next = c.in-Ok.ensures.1 in
    let less : at < length ls = omega arith in
    let kept = kept_on t more (kinds (drop at ls)) s next c.tokens.signed at c.tokens.deep (cut_at ls at l less c.index-lexemes-at.is) c.tokens.invariant.sign free steps in
    record {
      same = ap (λ b. walk more next b (at + 1) c.deeper-deep.result) signed ∙ ap (λ d. walk more next (is_sign s t) (at + 1) d) deep ∙ kept.0 ∙ c.tokens.invariant.same;
      ready = kept.1;
      sign = signed ∙ kept.2;
      bound = omega (arith, open_bound c.tokens.deep t, c.tokens.invariant.bound, deep);
    }
