-- When a command is refused.
use Rattle.std.specs.Prelude.{◌≡◌, [], ◌∷◌, List, length, Bool, ◌&&◌, nat_le, is_none, Option, None, Some, option_map, Result, Ok, Err, ⊤}
use Rattle.base_types.specs.Rules.{fails_if, first_of}
use Rattle.iam_names.specs.Audience.{audience_text}
use Rattle.iam_names.specs.declared.pool_name.PoolName.{PoolName}
use Rattle.allow_policy.specs.Puts.{is_full, role_fault, scope_fault, policy_fault}
use Rattle.allow_policy.specs.declared.put_fault.PutFault.{PutFault}
use Rattle.allow_policy.specs.declared.put_fault.PutFault.TheVariants as put
use Rattle.pools.specs.Providers.{ProviderView}
use Rattle.service_view.specs.declared.command.Command.{Command}
use Rattle.service_view.specs.declared.command.Command.TheVariants as command
use Rattle.service_view.specs.declared.command.Ready.{Ready}
use Rattle.service_view.specs.declared.command.Ready.TheVariants as ready
use Rattle.service_view.specs.declared.pool.Pool.{Pool}
use Rattle.service_view.specs.declared.ready_fault.ReadyFault.{ReadyFault}
use Rattle.service_view.specs.declared.ready_fault.ReadyFault.TheVariants.{UnknownPool, UnknownRole, Limit, Memory}
use Rattle.service_view.specs.Pools.{disabled_at}
use Rattle.service_view.specs.View.{View}

-- there are 1,000 pools, and this is none of them
abbrev pub are_pools_full : PoolName → List Pool → Bool
are_pools_full name pools = is_none (disabled_at name pools) && nat_le 1000 (length pools)

-- its pool is unknown, or it would be the 1,001st provider
abbrev pub provider_fault : View → ProviderView → Option ReadyFault
provider_fault view provider = first_of (
    fails_if (is_none (disabled_at provider.name.pool view.pools)) UnknownPool ∷
    fails_if (is_full 1000 (audience_text provider.name) view.providers) Limit ∷ [])

-- the fault of a put of roles, scope words or policies
abbrev pub of_policies : PutFault → ReadyFault
of_policies put.UnknownRole = UnknownRole
of_policies put.Limit = Limit
of_policies put.Memory = Memory

-- the first rule that forbids a command: what it names is unknown, or a new name would pass its limit
unfoldable pub ready_fault : View → Command → Option ReadyFault
ready_fault view (Command.Pool pool disabled) = fails_if (are_pools_full pool view.pools) Limit
ready_fault view (Command.Provider provider) = provider_fault view provider
ready_fault view (Command.Account account disabled) = fails_if (is_full 10000 account view.accounts) Limit
ready_fault view (Command.Role role permissions) = option_map of_policies (role_fault view.lists role permissions)
ready_fault view (Command.Scope word permissions) = option_map of_policies (scope_fault view.lists word permissions)
ready_fault view (Command.Policy resource bindings) = option_map of_policies (policy_fault view.lists resource bindings)

-- Ok exactly where there is no fault, and each refusal is the fault; want of memory says nothing
abbrev pub RefusesBy : {X : Type 0} → Option ReadyFault → Result X ReadyFault → Type 0
RefusesBy fault (Ok x) = fault ≡ None
RefusesBy fault (Err UnknownPool) = fault ≡ Some UnknownPool
RefusesBy fault (Err UnknownRole) = fault ≡ Some UnknownRole
RefusesBy fault (Err Limit) = fault ≡ Some Limit
RefusesBy fault (Err Memory) = ⊤

-- the command, ready to be placed
abbrev pub made_ready : Command → Ready
made_ready (Command.Pool pool disabled) = ready.Pool (record { name = pool; disabled = disabled })
made_ready (Command.Provider provider) = ready.Provider provider
made_ready (Command.Account account disabled) = ready.Account account disabled
made_ready (Command.Role role permissions) = ready.Role role permissions
made_ready (Command.Scope word permissions) = ready.Scope word permissions
made_ready (Command.Policy resource bindings) = ready.Policy resource bindings

-- the command that is ready to be placed
abbrev pub command_of : Ready → Command
command_of (Ready.Pool pool) = command.Pool pool.name pool.disabled
command_of (Ready.Provider provider) = command.Provider provider
command_of (Ready.Account account disabled) = command.Account account disabled
command_of (Ready.Role role permissions) = command.Role role permissions
command_of (Ready.Scope word permissions) = command.Scope word permissions
command_of (Ready.Policy resource row) = command.Policy resource row
