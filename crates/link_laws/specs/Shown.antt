-- What a workload has shown that an access token was issued to.
use Rattle.std.specs.Prelude.{◌≡◌, true, Some, Ok}
use Rattle.base_types.specs.Named.{value_at}
use Rattle.hmac_jws.specs.Verified.{MacGood, payload_of}
use Rattle.iam_names.specs.Audience.{audience_text}
use Rattle.iam_names.specs.declared.identity.Identity.{Identity}
use Rattle.iam_names.specs.declared.who.Who.TheVariants.{Outside}
use Rattle.pools.specs.Admitted.{IsAdmitted}
use Rattle.pools.specs.Providers.{ProviderView}
use Rattle.wif_claims.specs.declared.claims.Claims.{Claims}
use Rattle.wif_claims.specs.Payload.{claims_of}
use Rattle.links.specs.declared.entry.Entry.TheVariants.{Federated}
use Rattle.links.specs.declared.entry.Exchange.{Exchange}
use Rattle.subject_token.specs.Sources.{source_by}
use Rattle.links.specs.State.{Content, federated_link, link_of, provider_enabled}

-- There is the provider that the exchange names, enabled, in an enabled pool. The subject token verifies under its key, it admits the
-- token's claims as an identity at the moment, and the link is that identity's.
pub record WasShown (c : Content) (exchange : Exchange) : Type 0 where
  pub provider : ProviderView
  pub there : value_at (audience_text exchange.provider) c.view.providers ≡ Some provider
  pub enabled : provider_enabled c.view provider ≡ true
  pub verified : MacGood provider.key exchange.token
  pub claims : Claims
  pub claimed : claims_of (payload_of exchange.token) ≡ Ok claims
  pub identity : Identity
  pub admitted : IsAdmitted provider claims exchange.at identity
  pub link : link_of c (Federated exchange) ≡ Some (federated_link exchange.scope exchange.at (source_by claims (Outside provider.name.pool identity)))
