-- What stands now under the names of pools, providers, accounts, roles, scope words and resources.
use Rattle.std.specs.Prelude.{ℕ, List, [], ◌∷◌, Bool, false, not, Option, None, Some, codes}
use Rattle.base_types.specs.Named.{value_at, put}
use Rattle.iam_names.specs.Audience.{audience_text}
use Rattle.iam_names.specs.Forms.{passes}
use Rattle.iam_names.specs.declared.pool_name.PoolName.{PoolName}
use Rattle.allow_policy.specs.Lists.{Lists, no_lists, with_role, with_scope, with_policy}
use Rattle.allow_policy.specs.declared.scope_set.ScopeSet.TheVariants.{All}
use Rattle.pools.specs.Providers.{ProviderView}
use Rattle.service_view.specs.declared.command.Command.{Command}
use Rattle.service_view.specs.declared.pool.Pool.{Pool}
use Rattle.service_view.specs.Pools.{disabled_at, put_pool}

-- The pools, the providers under their full names, the accounts with whether each is disabled, and the roles, scope words and
-- policies.
pub record View : Type 0 where
  pub pools : List Pool
  pub providers : List (List ℕ × ProviderView)
  pub accounts : List (List ℕ × Bool)
  pub lists : Lists

-- the view, and for how many more puts there is memory
pub record Held : Type 0 where
  pub content : View
  pub spare : ℕ

-- the pool is there and not disabled
abbrev pub pool_enabled : View → PoolName → Bool
pool_enabled view pool = passes not (disabled_at pool view.pools)

-- the account is there and not disabled
abbrev pub account_enabled : View → List ℕ → Bool
account_enabled view account = passes not (value_at account view.accounts)

-- the scope word that is there from the start
abbrev pub cloud_platform : List ℕ
cloud_platform = codes "https://www.googleapis.com/auth/cloud-platform"

-- the provider's pool, enabled
abbrev pub start_pools : Option ProviderView → List Pool
start_pools None = []
start_pools (Some provider) = record { name = provider.name.pool; disabled = false } ∷ []

-- the provider under its full name
abbrev pub start_providers : Option ProviderView → List (List ℕ × ProviderView)
start_providers None = []
start_providers (Some provider) = (audience_text provider.name, provider) ∷ []

-- before the first command: a scope word for all permissions, and the provider with its pool, enabled, if there is one
abbrev pub start_view : Option ProviderView → View
start_view provider = record {
  pools = start_pools provider;
  providers = start_providers provider;
  accounts = [];
  lists = with_scope cloud_platform All no_lists;
}

-- what is put replaces what stands under its name
abbrev pub view_after : View → Command → View
view_after view (Command.Pool pool disabled) = record view { pools = put_pool (record { name = pool; disabled = disabled }) view.pools }
view_after view (Command.Provider provider) = record view { providers = put (audience_text provider.name) provider view.providers }
view_after view (Command.Account account disabled) = record view { accounts = put account disabled view.accounts }
view_after view (Command.Role role permissions) = record view { lists = with_role role permissions view.lists }
view_after view (Command.Scope word permissions) = record view { lists = with_scope word permissions view.lists }
view_after view (Command.Policy resource bindings) = record view { lists = with_policy resource bindings view.lists }
