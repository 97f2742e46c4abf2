-- The identity that a provider maps claims to at a moment, or the first rule that they fail.
use Rattle.std.specs.Prelude.{ℕ, [], ◌∷◌, true, false, not, Option, None, Some, Result, Ok, Err}
use Rattle.std.specs.Str.{bytes_eq}
use Rattle.base_types.specs.Steps.{◌>>=◌}
use Rattle.base_types.specs.Rules.{fails_if, first_of}
use Rattle.cel_values.specs.declared.value.Value.{out-Value}
use Rattle.cel_values.specs.declared.value.Value.TheOpen.{Value-F}
use Rattle.cel_builtins.specs.Outcomes.{Outcome, Shape}
use Rattle.cel_eval.specs.Denotation.{Env, denotation}
use Rattle.cel_expression.specs.declared.expression.Expression.{Expression}
use Rattle.wif_claims.specs.declared.claims.Claims.{Claims}
use Rattle.wif_claims.specs.declared.claims.When.{When}
use Rattle.wif_claims.specs.declared.claims.When.TheVariants as when
use Rattle.wif_claims.specs.Timing.{timing_of}
use Rattle.iam_names.specs.declared.identity.Identity.{Identity}
use Rattle.pools.specs.declared.fault.MapFault.{MapFault}
use Rattle.pools.specs.declared.fault.MapFault.TheVariants as fault
use Rattle.pools.specs.Providers.{ProviderView, accepts}
use Rattle.pools.specs.Environments.{mapping_env, condition_env}
use Rattle.pools.specs.Answers.{passed}
use Rattle.pools.specs.Mapped.{mapped}
use Rattle.pools.specs.Lengths.{first_long}

-- ---- whether the claims are for the provider now

-- claims that aren't live
abbrev pub timing_fault : When → Option MapFault
timing_fault when.Live = None
timing_fault when.Expired = Some fault.Expired
timing_fault when.NotYet = Some fault.NotYet

-- the first rule of issuer, audience and time that fails
abbrev pub first_claims_fault : ProviderView → Claims → ℕ → Option MapFault
first_claims_fault provider claims now = first_of (
    fails_if (not (bytes_eq claims.iss provider.issuer)) fault.Issuer ∷
    fails_if (not (accepts provider claims.aud)) fault.Audience ∷
    timing_fault (timing_of claims now) ∷ [])

-- ---- the condition

-- a condition that isn't true
abbrev pub unless_true : Shape → Option MapFault
unless_true (Value-F.Bool true) = None
unless_true (Value-F.Bool false) = Some fault.ConditionFalse
unless_true _ = Some fault.ConditionError

-- the same of what a condition means
abbrev pub truth_fault : Outcome → Option MapFault
truth_fault (Ok v) = unless_true (out-Value v)
truth_fault (Err e) = Some fault.ConditionError

-- the condition's fault, where there is a condition
abbrev pub condition_fault : Option Expression → Env → Option MapFault
condition_fault None env = None
condition_fault (Some e) env = truth_fault (denotation e.tree env)

-- ---- the whole

-- the identity of claims that are for the provider now, or the first rule of the mapping, the lengths and the condition that fails
unfoldable pub identity_in : ProviderView → Claims → Result Identity MapFault
identity_in provider claims = do
  who ← mapped provider.mapping (mapping_env claims)
  sized ← passed (first_long who)
  true_condition ← passed (condition_fault provider.condition (condition_env claims who))
  Ok who

-- the identity, or the first rule that the claims fail
unfoldable pub identity_of : ProviderView → Claims → ℕ → Result Identity MapFault
identity_of provider claims now = do
  live ← passed (first_claims_fault provider claims now)
  identity_in provider claims
