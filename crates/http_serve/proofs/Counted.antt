-- The output fixes how many texts stand in it whole.
use Rattle.std.proofs.Common.{◌≡◌, ◌≤◌, ℕ, List, [], ◌∷◌, ◌++◌, length, sym, ◌∙◌}
use Rattle.std.specs.Prelude.{Option, None, Some, true}
use Rattle.std.specs.List.{AllByRecursion}
use Rattle.wif_base.specs.Output.{OutputIs}
use Rattle.wif_base.specs.declared.request.Reply.{Reply}
use Rattle.http_front.specs.Heads.{closes}
use Rattle.http_front.specs.Replies.{refusal}
use Rattle.http_front.specs.declared.rule.HttpRule.{HttpRule}
use Rattle.http_serve.specs.Asked.{Asked, response_texts, refusal_texts}
use Rattle.http_serve.proofs.Replying.{some_response}
use Rattle.sts_serve.proofs.Counted.{IsText, counted}

some_texts : (asked : List Asked) (replies : List Reply) (by_rule : Option HttpRule) → AllByRecursion IsText (response_texts asked replies ++ refusal_texts by_rule)
unfolding IsText
some_texts [] replies None = tt
some_texts [] replies (Some rule) = (some_response (refusal rule) true, tt)
some_texts (a ∷ asked) [] None = tt
some_texts (a ∷ asked) [] (Some rule) = (some_response (refusal rule) true, tt)
some_texts (a ∷ asked) (reply ∷ replies) by_rule = (some_response reply (closes a.message.head), some_texts asked replies by_rule)

pub one_count : (asked : List Asked) (replies : List Reply) (by_rule : Option HttpRule) (written : List ℕ) (m n : ℕ)
    → m ≤ length (response_texts asked replies ++ refusal_texts by_rule) → n ≤ length (response_texts asked replies ++ refusal_texts by_rule)
    → OutputIs (response_texts asked replies ++ refusal_texts by_rule) m written → OutputIs (response_texts asked replies ++ refusal_texts by_rule) n written → m ≡ n
one_count asked replies by_rule written m n m_low n_low a b =
    counted (response_texts asked replies ++ refusal_texts by_rule) m n a.part b.part (some_texts asked replies by_rule) m_low n_low a.proper b.proper (sym a.whole ∙ b.whole)
