use Rattle.std.proofs.Common.{◌≡◌, ℕ, List, false, refl, sym, ap, ◌∙◌, subst, arith}
use Rattle.std.specs.Prelude.{codes}
use Rattle.links.specs.State.{Content, content_of}
use Rattle.service_journal.specs.Journals.{journal_size}
use Rattle.sts_core.specs.Machine.{administration, where_it_fits, with_entry}
use Rattle.sts_core.specs.State.{Standing, Stands, StandsForEither}
use Rattle.sts_core.proofs.Standing.{carried_moments, carried_on, room_kept, still_either}
use Rattle.sts_core.proofs.sts.Sts.admin.Goals as goal
use Rattle.wif_base.specs.Disk.{Leaves}

pub administer-requires : goal.administer-requires
administer-requires g c =
    let whole : c.self.inside.journal.broken ≡ false = sym c.is_broken.ensures ∙ c.if-is_broken.false in
    omega (arith, c.bytes.ensures.within, c.self.invariant whole)

pub carry_out-requires-clause-count : goal.carry_out-requires-clause-count
carry_out-requires-clause-count g c =
    let whole : c.self.inside.journal.broken ≡ false = sym c.is_broken.ensures ∙ c.if-is_broken.false in
    omega (arith, c.bytes.ensures.within, c.self.invariant whole, ap (λ (k : Content). k.count) c.administer.ensures.content)

pub returns-in_err-proposal-clause-any_moment : goal.returns-in_err-proposal-clause-any_moment
returns-in_err-proposal-clause-any_moment g c = λ config journal stands. still_either c.args.self.now _ config journal _ (sym c.self.view_is) stands

pub invariant_of-self-2 : goal.invariant_of-self-2
invariant_of-self-2 g c = λ unbroken.
    let whole : c.self.inside.journal.broken ≡ false = sym c.is_broken.ensures ∙ c.if-is_broken.false in
    let same = c.administer.ensures.content in
    room_kept c.carry_out.result c.administer.new.state.content c.carry_out.new.state.content c.self.inside.journal c.carry_out.new.journal _
    (omega (arith, c.self.invariant whole, ap (λ (k : Content). k.count) same))
    c.carry_out.ensures.content c.carry_out.ensures.size c.carry_out.ensures.stays unbroken

pub returns-clause-stands : goal.returns-clause-stands
returns-clause-stands g c = λ config journal stands.
    let mine = subst (λ (s : Standing). Stands s config journal) (sym c.self.view_is) stands in
    carried_on c.carry_out.result _ _ c.administer.new.state c.in_ok-proposal.proposal (codes "A7") (λ (k : Content). administration config.admin k c.args.request.now) config journal mine
    c.administer.ensures.content c.in_ok-proposal.ensures.ready (c.in_ok-proposal.ensures.answer ∙ ap (λ (secret : List ℕ). administration secret c.self.inside.state.content c.args.request.now) mine.admin) refl refl c.carry_out.ensures.content c.carry_out.ensures.size c.carry_out.ensures.whole c.carry_out.ensures.settled

pub returns-clause-any_moment : goal.returns-clause-any_moment
returns-clause-any_moment g c = λ config journal stands.
    let mine = subst (λ (s : Standing). Stands s config journal) (sym c.self.view_is) stands in
    subst (λ (s : Standing). Leaves s.journal.told c.carry_out.new.journal.told (StandsForEither journal
    (with_entry journal (where_it_fits (journal_size journal) (codes "A7") (administration config.admin (content_of config journal) c.args.request.now)).entry))) c.self.view_is
    (carried_moments _ c.carry_out.new.journal.told c.in_ok-proposal.proposal (codes "A7") (λ (k : Content). administration config.admin k c.args.request.now) config journal mine (c.in_ok-proposal.ensures.answer ∙ ap (λ (secret : List ℕ). administration secret c.self.inside.state.content c.args.request.now) mine.admin) c.carry_out.ensures.any_moment)
