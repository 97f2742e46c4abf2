use Rattle.std.proofs.Common.{◌≡◌, ℕ, List, false, true, sym, subst, rules}
use Rattle.links.specs.Issued.{is_text_of}
use Rattle.links.specs.State.{chain}
use Rattle.links.proofs.Issuing.{Tells, none-told, some-told, other-told}
use Rattle.links.proofs.Journals.{reached_kept}
use Rattle.links.proofs.issued.find_issued.Goals as goal

pub returns-in_default : goal.returns-in_default
returns-in_default c =
    let content = c.args.state.now.content in
    let tells = subst (λ (k : List ℕ). Tells k c.args.text.now c.in_ok-number.field-0) c.key.ensures.key c.in_ok-number.ensures in
    sym (none-told content c.args.text.now c.in_ok-number.field-0 (reached_kept content c.has_a_lawful_journal.ensures.reached)
    c.has_a_lawful_journal.ensures.few tells c.in_default.is)

pub returns-then-branch : goal.returns-then-branch
returns-then-branch c =
    let content = c.args.state.now.content in
    let tells = subst (λ (k : List ℕ). Tells k c.args.text.now c.in_ok-number.field-0) c.key.ensures.key c.in_ok-number.ensures in
    let is : is_text_of content c.args.text.now (chain content c.in-Some.number) ≡ true = search rules in
    sym (some-told content c.args.text.now c.in_ok-number.field-0 c.in-Some.number (reached_kept content c.has_a_lawful_journal.ensures.reached)
    c.has_a_lawful_journal.ensures.few tells c.in-Some.is is)

pub returns : goal.returns
returns c =
    let content = c.args.state.now.content in
    let tells = subst (λ (k : List ℕ). Tells k c.args.text.now c.in_ok-number.field-0) c.key.ensures.key c.in_ok-number.ensures in
    let other : is_text_of content c.args.text.now (chain content c.in-Some.number) ≡ false = search rules in
    sym (other-told content c.args.text.now c.in_ok-number.field-0 c.in-Some.number (reached_kept content c.has_a_lawful_journal.ensures.reached)
    c.has_a_lawful_journal.ensures.few tells c.in-Some.is other)
