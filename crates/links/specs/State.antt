-- The state that a journal's entries leave.
use Rattle.std.specs.Prelude.{ℕ, ◌+◌, List, [], ◌∷◌, ◌++◌, Bool, not, ◌&&◌, Option, None, Some, option_map, Result}
use Rattle.std.specs.Result.{result_ok}
use Rattle.base_types.specs.Named.{value_at}
use Rattle.base_types.specs.Rules.{fails_if}
use Rattle.base_types.specs.Steps.{◌>>=◌, needed}
use Rattle.hmac_jws.specs.Compact.{compact}
use Rattle.iam_names.specs.declared.audience.Audience.{Audience}
use Rattle.iam_names.specs.Audience.{audience_text}
use Rattle.access_token.specs.Payload.{payload_text}
use Rattle.pools.specs.Providers.{ProviderView, of_subject}
use Rattle.service_config.specs.declared.config.Config.{Config}
use Rattle.service_config.specs.declared.config.StartProvider.{StartProvider}
use Rattle.service_config.specs.Configuration.{provider_name}
use Rattle.service_view.specs.View.{View, start_view, view_after, pool_enabled}
use Rattle.links.specs.declared.entry.Entry.{Entry}
use Rattle.links.specs.declared.entry.Entry.TheVariants as entry
use Rattle.links.specs.declared.entry.Narrowing.{Narrowing}
use Rattle.links.specs.declared.entry.Impersonation.{Impersonation}
use Rattle.links.specs.declared.entry.Delegation.{Delegation}
use Rattle.entry_rules.specs.declared.fault.RuleCode.{RuleCode}
use Rattle.entry_rules.specs.declared.fault.RuleCode.TheVariants.{E14, E15}
use Rattle.subject_token.specs.declared.source.Source.{Source}
use Rattle.links.specs.Chain.{Kind, Link, Chain, chains_of, chain_at, next_chain}
use Rattle.links.specs.Facts.{facts_of}
use Rattle.subject_token.specs.Sources.{passed, source_of}

-- The issuer and the key of the tokens that are issued, what stands under the names that commands put, how many entries there
-- were, and the links that they recorded.
pub record Content : Type 0 where
  pub issuer : List ℕ
  pub key : List ℕ
  pub view : View
  pub count : ℕ
  pub links : List Link

-- the content, and how many entries more there is room for
pub record Kept : Type 0 where
  pub content : Content
  pub spare : ℕ

-- the provider that is there from the start: enabled, with the claim `sub` for the subject
abbrev pub start_provider : StartProvider → ProviderView
start_provider start = of_subject (provider_name start) (record { name = start.issuer; key = start.key; audiences = [] })

-- the state before the first entry: the provider and its pool are there, enabled, and the scope word for all permissions
abbrev pub start_of : Config → Content
start_of config = record { issuer = config.issuer; key = config.key; view = start_view (option_map start_provider config.start); count = 0; links = [] }

-- the provider of that name
abbrev pub named : View → Audience → Result ProviderView RuleCode
named view name = needed E14 (value_at (audience_text name) view.providers)

-- neither the provider nor its pool is disabled
abbrev pub provider_enabled : View → ProviderView → Bool
provider_enabled view provider = not provider.disabled && pool_enabled view provider.name.pool

-- what the subject token gives, or the first rule that it fails
abbrev pub source_at : Content → Audience → List ℕ → ℕ → Result Source RuleCode
source_at c provider token now = named c.view provider >>= (λ p. passed (fails_if (not (provider_enabled c.view p)) E15) (source_of p token now))

-- the link of an exchange at that moment for these words
abbrev pub federated_link : List (List ℕ) → ℕ → Source → Link
federated_link words at source = record { at = at; words = words; kind = Kind.Federated source }

-- the link that narrows an earlier one
abbrev pub narrow_link : Narrowing → Link
narrow_link x = record { at = x.at; words = x.scope; kind = Kind.Narrow x.parent x.boundary }

-- the link that impersonates service accounts with an earlier one
abbrev pub impersonate_link : Impersonation → Link
impersonate_link x = record { at = x.at; words = x.scope; kind = Kind.Impersonate x.parent x.accounts x.lifetime }

-- the link by which the holder of one earlier link acts for that of another
abbrev pub delegate_link : Delegation → Link
delegate_link x = record { at = x.at; words = x.scope; kind = Kind.Delegate x.subject x.actor }

-- the link that an entry records
abbrev pub link_of : Content → Entry → Option Link
link_of c (entry.Put command) = None
link_of c (entry.Federated x) = option_map (federated_link x.scope x.at) (result_ok (source_at c x.provider x.token x.at))
link_of c (entry.Narrow x) = Some (narrow_link x)
link_of c (entry.Impersonate x) = Some (impersonate_link x)
link_of c (entry.Delegate x) = Some (delegate_link x)

-- the links with this one behind them, if there is one
abbrev pub with_link : List Link → Option Link → List Link
with_link links None = links
with_link links (Some link) = links ++ link ∷ []

-- what stands under the names behind an entry
abbrev pub view_behind : View → Entry → View
view_behind view (entry.Put command) = view_after view command
view_behind view (entry.Federated x) = view
view_behind view (entry.Narrow x) = view
view_behind view (entry.Impersonate x) = view
view_behind view (entry.Delegate x) = view

-- the state after an entry
abbrev pub after : Content → Entry → Content
after c e = record {
  issuer = c.issuer;
  key = c.key;
  view = view_behind c.view e;
  count = c.count + 1;
  links = with_link c.links (link_of c e);
}

-- the state after these entries
abbrev pub state_after : Content → List Entry → Content
state_after c [] = c
state_after c (e ∷ es) = state_after (after c e) es

-- the state of a configuration behind these entries
abbrev pub content_of : Config → List Entry → Content
content_of config journal = state_after (start_of config) journal

-- the chain of link n, where there is one
abbrev pub chain : Content → ℕ → Option Chain
chain c n = chain_at (chains_of c.links) n

-- the chain of the link behind those that are recorded, if there is one
abbrev pub made_by : Content → Option Link → Option Chain
made_by c None = None
made_by c (Some link) = next_chain (chains_of c.links) link

-- the chain of the link that the entry would record
abbrev pub made : Content → Entry → Option Chain
made c e = made_by c (link_of c e)

-- the text of a link's token
unfoldable pub token_text : Content → Chain → List ℕ
token_text c chain = compact c.key (payload_text c.issuer (facts_of chain))
