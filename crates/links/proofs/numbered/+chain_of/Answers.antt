use Rattle.std.proofs.Common.{◌≡◌, ◌<◌, ◌⊎◌, inl, inr, ◌++◌, ◌∷◌, [], ◌∙◌, ℕ, Bool, List, sym, ap, arith}
use Rattle.std.specs.Prelude.{Some}
use Rattle.std.proofs.lemmas.Result.{IfOk-weaker}
use Rattle.links.specs.declared.recorded.RecordedKind.{RecordedKind}
use Rattle.links.specs.declared.recorded.RecordedKind.TheVariants as held
use Rattle.links.proofs.Journals.{reached_kept}
use Rattle.links.proofs.Numbers.{IsBehind, from_kind, is_alone, is_behind}
use Rattle.links.proofs.numbered.+chain_of.Goals as goal

from_parent : (kind : RecordedKind) (parent : ℕ)
    → ((bounded : Bool) × (kind ≡ held.Narrow parent bounded)) ⊎ ((earlier : ℕ) × (lifetime : ℕ) × (kind ≡ held.Impersonate parent earlier lifetime))
    → from_kind kind ≡ Some parent
from_parent kind parent (inl is) = ap from_kind is.1
from_parent kind parent (inr is) = ap from_kind is.2

pub chain_of-requires-in-Narrow : goal.chain_of-requires-in-Narrow
chain_of-requires-in-Narrow t c =
    let content = c.args.state.now.content in
    let behind : IsBehind content c.args.number c.in-Narrow.parent =
    is_behind content c.args.number c.recorded.result.now c.in-Narrow.parent (reached_kept content c.has_a_lawful_journal.ensures.reached)
    c.recorded.ensures (from_parent c.recorded.result.now.kind c.in-Narrow.parent c.in-Narrow.is) in
    let below : c.in-Narrow.parent < t = omega (arith, behind.below, c.decreases) in
    (below, behind.within)

pub chain_of-requires : goal.chain_of-requires
chain_of-requires t c =
    let content = c.args.state.now.content in
    let behind : IsBehind content c.args.number c.in-Delegate.subject =
    is_behind content c.args.number c.recorded.result.now c.in-Delegate.subject (reached_kept content c.has_a_lawful_journal.ensures.reached)
    c.recorded.ensures (ap from_kind c.in-Delegate.is) in
    let below : c.in-Delegate.subject < t = omega (arith, behind.below, c.decreases) in
    (below, behind.within)

pub returns-in-Federated : goal.returns-in-Federated
returns-in-Federated t c =
    let content = c.args.state.now.content in
    let alone =
    is_alone content c.args.number c.recorded.result.now (reached_kept content c.has_a_lawful_journal.ensures.reached) c.recorded.ensures
    (ap from_kind c.in-Federated.is) in
    IfOk-weaker c.with_last.result _ _
    (λ numbers is. alone ∙ ap (λ (l : List ℕ). Some l) (sym (is ∙ ap (λ (l : List ℕ). l ++ c.args.number ∷ []) c.new.ensures.items))) c.with_last.ensures

pub returns-in_ok-chain_of-in-Narrow : goal.returns-in_ok-chain_of-in-Narrow
returns-in_ok-chain_of-in-Narrow t c =
    let content = c.args.state.now.content in
    let behind : IsBehind content c.args.number c.in-Narrow.parent =
    is_behind content c.args.number c.recorded.result.now c.in-Narrow.parent (reached_kept content c.has_a_lawful_journal.ensures.reached)
    c.recorded.ensures (from_parent c.recorded.result.now.kind c.in-Narrow.parent c.in-Narrow.is) in
    let whole = behind.numbers c.in_ok-chain_of-in-Narrow.field-0.items c.in_ok-chain_of-in-Narrow.ensures in
    IfOk-weaker c.with_last-in-Narrow.result _ _ (λ numbers is. whole ∙ ap (λ (l : List ℕ). Some l) (sym is)) c.with_last-in-Narrow.ensures

pub returns-in_ok-chain_of-in-Delegate : goal.returns-in_ok-chain_of-in-Delegate
returns-in_ok-chain_of-in-Delegate t c =
    let content = c.args.state.now.content in
    let behind : IsBehind content c.args.number c.in-Delegate.subject =
    is_behind content c.args.number c.recorded.result.now c.in-Delegate.subject (reached_kept content c.has_a_lawful_journal.ensures.reached)
    c.recorded.ensures (ap from_kind c.in-Delegate.is) in
    let whole = behind.numbers c.in_ok-chain_of-in-Delegate.field-0.items c.in_ok-chain_of-in-Delegate.ensures in
    IfOk-weaker c.with_last-in-Delegate.result _ _ (λ numbers is. whole ∙ ap (λ (l : List ℕ). Some l) (sym is)) c.with_last-in-Delegate.ensures
