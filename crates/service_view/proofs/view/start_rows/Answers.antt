use Rattle.std.proofs.Common.{◌≡◌, Option, Result, Ok, Err, Some, IfOk, sym, subst}
use Rattle.base_types.specs.Named.{Rows}
use Rattle.pools.specs.Providers.{ProviderView}
use Rattle.service_view.specs.View as start
use Rattle.service_view.proofs.view.start_rows.Goals as goal

-- what holds of the other value of both
of_other : {A B E : Type 0} (both : Result (A × B) E) (one : Result A E) (other : Result B E) (P : B → Type 0) → IfOk both (λ values. (one ≡ Ok values.0) × (other ≡ Ok values.1)) → IfOk other P → IfOk both (λ values. P values.1)
of_other (Ok values) one other P are holds = rw are.1 at holds
of_other (Err error) one other P are holds = tt

pub returns-in-Some-clause-providers : goal.returns-in-Some-clause-providers
returns-in-Some-clause-providers c =
    let Started : Rows ProviderView → Type 0 = λ providers. providers.rows ≡ start.start_providers (Some c.in-Some.provider) in
    subst
    (λ (given : Option ProviderView). IfOk c.both.result (λ rows. rows.1.rows ≡ start.start_providers given))
    (sym c.in-Some.is)
    (of_other c.both.result c.start_pool.result c.start_providers.result Started c.both.ensures.both c.start_providers.ensures)
