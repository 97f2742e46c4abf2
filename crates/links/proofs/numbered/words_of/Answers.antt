use Rattle.std.proofs.Common.{◌∙◌, ℕ, List, sym, ap}
use Rattle.std.specs.Prelude.{Some}
use Rattle.access_token.specs.declared.facts.Facts.{Facts}
use Rattle.access_token.specs.Payload.{last_words}
use Rattle.links.specs.Chain.{Chain, own}
use Rattle.links.specs.State.{chain}
use Rattle.links.proofs.Held.{from_facts, words_told}
use Rattle.links.proofs.Journals.{reached_kept}
use Rattle.links.proofs.Numbers.{words_good}
use Rattle.links.proofs.numbered.words_of.Goals as goal

pub returns-clause-words : goal.returns-clause-words
returns-clause-words c =
    from_facts (λ (f : Facts). last_words f.scopes) (λ (found : Chain). (own found).words) (chain c.args.state.now.content c.args.number) c.facts_of.result.now
    words_told c.facts_of.ensures
    ∙ ap (λ (w : List (List ℕ)). Some w) (sym (c.last_words.ensures ∙ ap last_words c.as_slice.ensures))

pub returns-clause-formed : goal.returns-clause-formed
returns-clause-formed c =
    let content = c.args.state.now.content in
    words_good content c.args.number c.last_words.result.now (reached_kept content c.has_a_lawful_journal.ensures.reached) (returns-clause-words c)
