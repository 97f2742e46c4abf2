-- What a subject token gives under a provider, or the first rule that it fails.
use Rattle.std.specs.Prelude.{ℕ, List, Option, None, Some, Result, Ok, Err}
use Rattle.base_types.specs.Steps.{◌>>=◌}
use Rattle.hmac_jws.specs.Verified.{first_jws_fault, payload_of}
use Rattle.hmac_jws.specs.declared.fault.JwsFault.{JwsFault}
use Rattle.wif_claims.specs.declared.claims.Claims.{Claims}
use Rattle.wif_claims.specs.declared.claims.ClaimFault.{ClaimFault}
use Rattle.wif_claims.specs.Payload.{claims_of}
use Rattle.iam_names.specs.declared.identity.Identity.{Identity}
use Rattle.iam_names.specs.declared.who.Who.{Who}
use Rattle.iam_names.specs.declared.who.Who.TheVariants.{Outside}
use Rattle.pools.specs.Admission.{identity_of}
use Rattle.pools.specs.Providers.{ProviderView}
use Rattle.pools.specs.declared.fault.MapFault.{MapFault}
use Rattle.pools.specs.declared.fault.MapFault.TheVariants as map
use Rattle.entry_rules.specs.declared.fault.RuleCode.{RuleCode}
use Rattle.entry_rules.specs.declared.fault.RuleCode.TheVariants.{E16, E17, E18, E19, E20}
use Rattle.subject_token.specs.declared.source.Source.{Source}

-- ---- the signature and the claims

-- the payload, where the signature has no fault
abbrev pub opened_by : Option JwsFault → List ℕ → Result (List ℕ) RuleCode
opened_by None payload = Ok payload
opened_by (Some fault) payload = Err (E16 fault)

-- the payload of a token that is signed under the key
abbrev pub opened : List ℕ → List ℕ → Result (List ℕ) RuleCode
opened key token = opened_by (first_jws_fault key token) (payload_of token)

-- the claims of a payload, or the rule that it fails
abbrev pub claimed_by : Result Claims ClaimFault → Result Claims RuleCode
claimed_by (Ok claims) = Ok claims
claimed_by (Err fault) = Err (E17 fault)

-- ---- the provider's rules

-- what follows, unless a rule forbids it
abbrev pub passed : {X : Type 0} → Option RuleCode → Result X RuleCode → Result X RuleCode
passed None next = next
passed (Some rule) next = Err rule

-- the code of a fault: the claims aren't for the provider now, they give no identity, or the condition isn't true
abbrev pub map_rule : MapFault → RuleCode
map_rule map.Issuer = E18 map.Issuer
map_rule map.Audience = E18 map.Audience
map_rule map.Expired = E18 map.Expired
map_rule map.NotYet = E18 map.NotYet
map_rule map.Subject = E19 map.Subject
map_rule map.Groups = E19 map.Groups
map_rule (map.Attribute name) = E19 (map.Attribute name)
map_rule (map.TooLong key) = E19 (map.TooLong key)
map_rule map.ConditionError = E20 map.ConditionError
map_rule map.ConditionFalse = E20 map.ConditionFalse
map_rule map.Memory = E20 map.Memory

-- the identity in the provider's pool
abbrev pub outside_by : ProviderView → Result Identity MapFault → Result Who RuleCode
outside_by provider (Ok identity) = Ok (Outside provider.name.pool identity)
outside_by provider (Err fault) = Err (map_rule fault)

-- the principal of claims, or the first rule that they fail
abbrev pub who_of_claims : ProviderView → Claims → ℕ → Result Who RuleCode
who_of_claims provider claims now = outside_by provider (identity_of provider claims now)

-- what the claims give of a principal
abbrev pub source_by : Claims → Who → Source
source_by claims who = record { who = who; exp = claims.exp; may_act = claims.may_act }

-- what claims give at the moment, or the first rule that they fail
unfoldable pub source_of_claims : ProviderView → Claims → ℕ → Result Source RuleCode
source_of_claims provider claims now = who_of_claims provider claims now >>= (λ who. Ok (source_by claims who))

-- what the subject token gives at the moment, or the first rule that it fails
unfoldable pub source_of : ProviderView → List ℕ → ℕ → Result Source RuleCode
source_of provider token now = opened provider.key token >>= (λ payload. claimed_by (claims_of payload) >>= (λ claims. source_of_claims provider claims now))
