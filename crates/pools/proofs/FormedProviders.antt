-- Providers that have their form.
use Rattle.std.proofs.Common.{◌≡◌, true, refl}
use Rattle.std.specs.List.Sorted.{IsStrictlySortedBy}
use Rattle.iam_names.specs.Audience.{is_audience}
use Rattle.iam_names.specs.declared.audience.Audience.{Audience}
use Rattle.pools.specs.declared.provider.TokenIssuer.{TokenIssuer}
use Rattle.pools.specs.Providers.{IsFormed, of_subject}

-- the provider that is there from the start
pub formed_subject : (name : Audience) (issuer : TokenIssuer) → is_audience name ≡ true → IsFormed (of_subject name issuer)
unfolding IsStrictlySortedBy
formed_subject name issuer is = record { name = is; attributes = refl; rising = tt }
