use Rattle.std.proofs.Common.{◌≡◌, ℕ, List, ap, sym, ◌∙◌}
use Rattle.base_types.specs.Named.{put}
use Rattle.iam_names.specs.Audience.{audience_text}
use Rattle.pools.specs.Providers.{ProviderView}
use Rattle.service_view.specs.Puts.{command_of}
use Rattle.service_view.specs.View.{View, Held, view_after}
use Rattle.service_view.specs.declared.command.Ready.{Ready}
use Rattle.service_view.specs.declared.command.Ready.TheVariants as ready
use Rattle.service_view.proofs.puts.place.Goals as goal

-- the view with these providers
with_providers : View → List (List ℕ × ProviderView) → View
with_providers view providers = record view { providers = providers }

pub returns-in-Provider : goal.returns-in-Provider
unfolding with_providers
returns-in-Provider c =
    let before = c.view.inside in
    let provider = c.in-Provider.row in
    let rows : c.place-in-Provider.new.self.rows ≡ put (audience_text provider.name) provider before.providers.rows =
    c.place-in-Provider.ensures.rows
    ∙ ap (λ (name : List ℕ). put name c.into_parts-name.result.1 before.providers.rows) c.into_parts-name.ensures.name
    ∙ ap (λ (placed : ProviderView). put (audience_text provider.name) placed before.providers.rows) c.into_parts-name.ensures.provider
    in
    let content : View = record { pools = before.pools.pools; providers = before.providers.rows; accounts = before.accounts.rows; lists = before.policies.lists } in
    ap (with_providers content) rows
    ∙ ap (λ (held : Held). view_after held.content (command_of (ready.Provider provider))) c.view.view_is
    ∙ ap (λ (row : Ready). view_after c.args.view.now.content (command_of row)) (sym c.in-Provider.is)
