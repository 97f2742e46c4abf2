-- What holds of claims that a provider admits.
use Rattle.std.specs.Prelude.{◌≡◌, ◌<◌, ◌≤◌, ◌⊎◌, ℕ, true, List, [], ◌++◌, length, codes, Ok, IfSome}
use Rattle.std.specs.List.{AllByRecursion, Any, Contains}
use Rattle.cel_values.specs.declared.value.Value.TheVariants as value
use Rattle.cel_eval.specs.Denotation.{denotation}
use Rattle.iam_names.specs.Audience.{audience_text}
use Rattle.iam_names.specs.declared.identity.Identity.{Identity}
use Rattle.wif_claims.specs.declared.claims.Claims.{Claims}
use Rattle.pools.specs.Providers.{ProviderView}
use Rattle.pools.specs.Environments.{mapping_env, condition_env}
use Rattle.pools.specs.Mapped.{mapped}

-- an audience that the provider lists; where it lists none, the provider's name or `https:` followed by it
abbrev pub IsAcceptable : ProviderView → List ℕ → Type 0
IsAcceptable provider audience =
    Contains provider.audiences audience
    ⊎ ((provider.audiences ≡ []) × ((audience ≡ audience_text provider.name) ⊎ (audience ≡ codes "https:" ++ audience_text provider.name)))

-- from so many bytes to so many
abbrev pub HasSize : ℕ → ℕ → List ℕ → Type 0
HasSize low high bytes = (low ≤ length bytes) × (length bytes ≤ high)

-- The claims are for the provider and hold now, its mapping makes them this identity, and its condition is true of both.
pub record IsAdmitted (provider : ProviderView) (claims : Claims) (now : ℕ) (who : Identity) : Type 0 where
  pub issuer : claims.iss ≡ provider.issuer
  pub audience : Any (IsAcceptable provider) claims.aud
  pub unexpired : now < claims.exp
  pub begun : IfSome claims.nbf (λ nbf. nbf ≤ now)
  pub identity : mapped provider.mapping (mapping_env claims) ≡ Ok who
  pub subject : HasSize 1 127 who.subject
  pub groups : AllByRecursion (HasSize 1 256) who.groups
  pub group_count : length who.groups ≤ 64
  pub attributes : AllByRecursion (λ attribute. HasSize 1 256 attribute.1) who.attributes
  pub condition : IfSome provider.condition (λ e. denotation e.tree (condition_env claims who) ≡ Ok (value.Bool true))
