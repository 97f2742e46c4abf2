-- The link that an entry records ends at most an hour after the entry's moment.
use Rattle.std.proofs.Common.{◌≡◌, ◌≤◌, ℕ, List, sym, subst, arith}
use Rattle.std.specs.Prelude.{IfSome, Option, None, Some, Result, Ok, Err, option_map}
use Rattle.std.specs.Result.{result_ok}
use Rattle.boundary.specs.declared.rules.Boundary.{Boundary}
use Rattle.entry_rules.specs.declared.fault.RuleCode.{RuleCode}
use Rattle.subject_token.specs.declared.source.Source.{Source}
use Rattle.links.specs.declared.entry.Entry.{Entry}
use Rattle.links.specs.declared.entry.Entry.TheVariants.{Put, Federated, Narrow, Impersonate, Delegate}
use Rattle.links.specs.declared.entry.Exchange.{Exchange}
use Rattle.links.specs.Chain.{Chain, Narrowed, Impersonated, Own, chain_at, chains_of, delegated, own_at}
use Rattle.links.specs.Entries.{IsEntry, IsExchange}
use Rattle.links.specs.Facts.{exp_of, facts_of}
use Rattle.links.specs.Licence.{prepared_of}
use Rattle.links.specs.Prepared.{PreparedEntry}
use Rattle.links.specs.Recorded.{recorded}
use Rattle.links.specs.State.{Content, delegate_link, federated_link, impersonate_link, made, made_by, narrow_link, source_at}

-- it ends by 8307-10-10T00:33:20Z, an hour after the last moment
EndsInTime : Chain → Type 0
EndsInTime found = exp_of found ≤ 200_000_003_600

narrowed_ends : (o : Own) (boundary : Option Boundary) (parent : Option Chain) → o.at ≤ 200_000_000_000
    → IfSome (option_map (Narrowed o boundary) parent) EndsInTime
unfolding EndsInTime
narrowed_ends o boundary None low = tt
narrowed_ends o boundary (Some parent) low = omega (arith, low)

impersonated_ends : (o : Own) (accounts : List (List ℕ)) (lifetime : ℕ) (parent : Option Chain) → o.at ≤ 200_000_000_000 → lifetime ≤ 3600
    → IfSome (option_map (Impersonated o accounts lifetime) parent) EndsInTime
unfolding EndsInTime
impersonated_ends o accounts lifetime None low short = tt
impersonated_ends o accounts lifetime (Some parent) low short = omega (arith, low, short)

delegated_ends : (o : Own) (subject actor : Option Chain) → o.at ≤ 200_000_000_000 → IfSome (delegated o subject actor) EndsInTime
unfolding EndsInTime
delegated_ends o None actor low = tt
delegated_ends o (Some subject) None low = tt
delegated_ends o (Some subject) (Some actor) low = omega (arith, low)

federated_ends : (c : Content) (x : Exchange) (found : Result Source RuleCode) → IsExchange x
    → IfSome (made_by c (option_map (federated_link x.scope x.at) (result_ok found))) EndsInTime
unfolding EndsInTime
federated_ends c x (Ok source) form = omega (arith, form.moment)
federated_ends c x (Err rule) form = tt

made_ends : (c : Content) (e : Entry) → IsEntry e → IfSome (made c e) EndsInTime
made_ends c (Put command) form = tt
made_ends c (Federated x) form = federated_ends c x (source_at c x.provider x.token x.at) form
made_ends c (Narrow x) form = narrowed_ends (own_at _ (narrow_link x)) x.boundary (chain_at (chains_of c.links) x.parent) form.moment
made_ends c (Impersonate x) form =
    impersonated_ends (own_at _ (impersonate_link x)) x.accounts x.lifetime (chain_at (chains_of c.links) x.parent) form.moment form.short
made_ends c (Delegate x) form =
    delegated_ends (own_at _ (delegate_link x)) (chain_at (chains_of c.links) x.subject) (chain_at (chains_of c.links) x.actor) form.moment

held_ends : (found : Option Chain) → IfSome found EndsInTime → IfSome (option_map recorded found) (λ link. link.facts.exp ≤ 200_000_003_600)
unfolding EndsInTime facts_of
held_ends None is = tt
held_ends (Some found) is = is

pub prepared_ends : (c : Content) (e : Entry) (prepared : PreparedEntry) → IsEntry e → prepared ≡ prepared_of c e
    → IfSome prepared.recorded (λ link. link.facts.exp ≤ 200_000_003_600)
prepared_ends c e prepared form is =
    subst (λ (p : PreparedEntry). IfSome p.recorded (λ link. link.facts.exp ≤ 200_000_003_600)) (sym is) (held_ends (made c e) (made_ends c e form))
