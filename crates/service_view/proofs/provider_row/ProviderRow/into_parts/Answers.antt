use Rattle.std.proofs.Common.{ap, ◌∙◌}
use Rattle.iam_names.specs.Audience.{audience_text}
use Rattle.pools.specs.Providers.{ProviderView}
use Rattle.service_view.proofs.provider_row.ProviderRow.into_parts.Goals as goal

pub returns-clause-name : goal.returns-clause-name
returns-clause-name c = c.self.invariant ∙ ap (λ (provider : ProviderView). audience_text provider.name) c.self.view_is
