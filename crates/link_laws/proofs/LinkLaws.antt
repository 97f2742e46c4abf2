-- The laws of links and their tokens.
use Rattle.std.proofs.Common.{◌≡◌, ◌<◌, ◌≤◌, ◌^◌, ℕ, Bool, true, false, not, List, [], ◌∷◌, ◌++◌, length, refl, sym, ◌∙◌, ap, subst, arith, append_assoc}
use Rattle.std.proofs.Common.{append-nil, Option, None, Some}
use Rattle.std.specs.Prelude.{Result, Ok, Err, option_map, option_and_then, codes}
use Rattle.std.specs.Result.{result_ok}
use Rattle.std.specs.Fmt.{decimal}
use Rattle.std.proofs.lemmas.Fmt.{decimal_injective}
use Rattle.std.proofs.lemmas.Slice.Eq.{bytes_eq-Decides}
use Rattle.base_types.specs.Named.{value_at}
use Rattle.base_types.specs.Rules.{fails_if}
use Rattle.base_types.specs.Steps.{◌>>=◌, needed}
use Rattle.base64.specs.GeneralPurpose.{IsBytes}
use Rattle.hmac_jws.proofs.Issued.{payload_of-compact}
use Rattle.hmac_jws.specs.Compact.{compact}
use Rattle.hmac_jws.specs.Verified.{first_jws_fault, payload_of, MacGood}
use Rattle.hmac_jws.specs.declared.fault.JwsFault.{JwsFault}
use Rattle.iam_names.specs.Audience.{audience_text}
use Rattle.iam_names.specs.declared.identity.Identity.{Identity}
use Rattle.iam_names.specs.declared.who.Who.{Who}
use Rattle.iam_names.specs.declared.who.Who.TheVariants.{Outside}
use Rattle.json_text.specs.Document.{document, text_at}
use Rattle.access_token.proofs.ExactTexts.{IsBytes-payload_text, jti-payload_text}
use Rattle.access_token.specs.Payload.{payload_text}
use Rattle.wif_claims.specs.declared.claims.Claims.{Claims}
use Rattle.wif_claims.specs.declared.claims.ClaimFault.{ClaimFault}
use Rattle.wif_claims.specs.Payload.{claims_of}
use Rattle.pools.specs.Admission.{identity_of}
use Rattle.pools.specs.Admitted.{IsAdmitted}
use Rattle.pools.specs.Providers.{ProviderView}
use Rattle.pools.specs.declared.fault.MapFault.{MapFault}
use Rattle.pools.proofs.AdmittedClaims.{rules-passed}
use Rattle.service_config.specs.declared.config.Config.{Config}
use Rattle.service_config.specs.Formed.{IsFormedConfig}
use Rattle.links.specs.declared.entry.Entry.{Entry}
use Rattle.links.specs.declared.entry.Entry.TheVariants as entry
use Rattle.links.specs.declared.entry.Exchange.{Exchange}
use Rattle.links.specs.declared.entry.Narrowing.{Narrowing}
use Rattle.links.specs.declared.entry.Impersonation.{Impersonation}
use Rattle.links.specs.declared.entry.Delegation.{Delegation}
use Rattle.entry_rules.specs.declared.fault.RuleCode.{RuleCode}
use Rattle.entry_rules.specs.declared.fault.RuleCode.TheVariants.{E14, E15, E25}
use Rattle.subject_token.specs.declared.source.Source.{Source}
use Rattle.links.specs.Chain.{Link, Own, Chain, Narrowed, Impersonated, Delegated, own_at, chains_of, chain_at}
use Rattle.links.specs.Facts.{facts_of}
use Rattle.links.specs.Issued.{issued_link, is_text_of}
use Rattle.entry_rules.specs.Passing.{fault_of}
use Rattle.links.specs.Licence.{first_unlicensed, exchange_rules, size_rule, Lawful, Licensed}
use Rattle.link_laws.specs.Shown.{WasShown}
use Rattle.subject_token.specs.Sources.{claimed_by, opened, opened_by, outside_by, passed, source_by, source_of, source_of_claims, who_of_claims}
use Rattle.links.specs.State.{Content, after, chain, content_of, federated_link, narrow_link, impersonate_link, delegate_link}
use Rattle.links.specs.State.{link_of, made, named, provider_enabled, source_at, start_of, state_after, token_text, with_link}
use Rattle.links.proofs.Chains.{chain_stays}
use Rattle.links.proofs.Issuing.{Tells, number_is, some-told}
use Rattle.links.proofs.GoodLinks.{exact-good}
use Rattle.links.proofs.Journals.{IsKept, follows, lawful_kept, good_of_chain, within_of_chain}
use Rattle.links.proofs.Replays.{state_after-append}
use Rattle.links.proofs.Sound.{all_pass, delegated_some, map_some}

-- ---- the link of a token

tells_itself : (key text payload : List ℕ) (n : ℕ) → n < 2 ^ 32 → IsBytes payload → text ≡ compact key payload
    → option_and_then (text_at (codes "jti")) (document payload) ≡ Some (decimal n) → Tells key text (Some n)
tells_itself key text payload n low bytes is jti =
    λ other m other_bytes other_low other_is other_jti.
    let same : payload ≡ other = sym (payload_of-compact key payload bytes) ∙ ap payload_of (sym is ∙ other_is) ∙ payload_of-compact key other other_bytes in
    let numbers : decimal n ≡ decimal m = cc (jti, other_jti, same) in
    ap (λ (k : ℕ). Some k) (decimal_injective n m (omega arith) (omega arith) numbers)

token_chain : (c : Content) (n : ℕ) (found : Chain) → IsKept c → length c.links ≤ 2 ^ 32 → chain c n ≡ Some found → issued_link c (token_text c found) ≡ Some n
unfolding token_text
token_chain c n found kept few is =
    let low : n < 2 ^ 32 = omega (arith, within_of_chain c n found is, few) in
    let facts = facts_of found in
    let payload = payload_text c.issuer facts in
    let text = token_text c found in
    let good = good_of_chain c n found kept is in
    let exact = exact-good c.issuer n found low kept.issuer good in
    let jti = jti-payload_text c.issuer facts exact ∙ ap (λ (k : ℕ). Some (decimal k)) (number_is n found good) in
    let tells = tells_itself c.key text payload n low (IsBytes-payload_text c.issuer facts exact) refl jti in
    let same : is_text_of c text (chain c n) ≡ true = ap (is_text_of c text) is ∙ (bytes_eq-Decides text text).1 refl in
    some-told c text (Some n) n kept few tells refl same

pub issued_for : (config : Config) (journal : List Entry) (n : ℕ) (found : Chain) → IsFormedConfig config → Lawful config journal → length journal ≤ 2 ^ 32
    → chain (content_of config journal) n ≡ Some found → issued_link (content_of config journal) (token_text (content_of config journal) found) ≡ Some n
issued_for config journal n found formed lawful few is =
    let c = content_of config journal in
    let links : length c.links ≤ 2 ^ 32 = omega (arith, few, (follows (start_of config) journal).few) in
    token_chain c n found (lawful_kept config journal formed lawful) links is

-- ---- links that go on from others

pub narrow_goes_on : (c : Content) (x : Narrowing) (found : Chain) → made c (entry.Narrow x) ≡ Some found
    → (o : Own) × (parent : Chain) × (chain c x.parent ≡ Some parent) × (found ≡ Narrowed o x.boundary parent)
narrow_goes_on c x found is =
    let o = own_at (length (chains_of c.links)) (narrow_link x) in
    let from = map_some (Narrowed o x.boundary) (chain c x.parent) found is in
    (o, from.0, from.1, sym from.2)

pub impersonate_goes_on : (c : Content) (x : Impersonation) (found : Chain) → made c (entry.Impersonate x) ≡ Some found
    → (o : Own) × (parent : Chain) × (chain c x.parent ≡ Some parent) × (found ≡ Impersonated o x.accounts x.lifetime parent)
impersonate_goes_on c x found is =
    let o = own_at (length (chains_of c.links)) (impersonate_link x) in
    let from = map_some (Impersonated o x.accounts x.lifetime) (chain c x.parent) found is in
    (o, from.0, from.1, sym from.2)

pub delegate_goes_on : (c : Content) (x : Delegation) (found : Chain) → made c (entry.Delegate x) ≡ Some found
    → (o : Own) × (subject : Chain) × (actor : Chain) × (chain c x.subject ≡ Some subject) × (chain c x.actor ≡ Some actor)
    × (found ≡ Delegated o subject actor)
delegate_goes_on c x found is =
    let o = own_at (length (chains_of c.links)) (delegate_link x) in
    let from = delegated_some o (chain c x.subject) (chain c x.actor) found is in
    (o, from.0, from.1, from.2, from.3, sym from.4)

-- ---- entries that follow

links_more : (c : Content) (es : List Entry) → (more : List Link) × ((state_after c es).links ≡ c.links ++ more)
links_more c [] = ([], sym (append-nil c.links))
links_more c (e ∷ es) =
    let rest = links_more (after c e) es in
    let here = with_more c.links (link_of c e) in
    (here.0 ++ rest.0, rest.1 ∙ ap (λ (l : List Link). l ++ rest.0) here.1 ∙ append_assoc c.links here.0 rest.0)
  where
    with_more : (links : List Link) (link : Option Link) → (more : List Link) × (with_link links link ≡ links ++ more)
    with_more links None = ([], sym (append-nil links))
    with_more links (Some link) = (link ∷ [], refl)

pub chain_follows : (config : Config) (journal more : List Entry) (n : ℕ) (found : Chain) → chain (content_of config journal) n ≡ Some found
    → chain (content_of config (journal ++ more)) n ≡ Some found
chain_follows config journal more n found is =
    let c = content_of config journal in
    let links = links_more c more in
    let whole : (content_of config (journal ++ more)).links ≡ c.links ++ links.0 =
    ap (λ (k : Content). k.links) (state_after-append (start_of config) journal more) ∙ links.1 in
    subst (λ (l : List Link). chain_at (chains_of l) n ≡ Some found) (sym whole) (chain_stays c.links links.0 n found is)

pub token_follows : (config : Config) (journal more : List Entry) (found : Chain)
    → token_text (content_of config (journal ++ more)) found ≡ token_text (content_of config journal) found
unfolding token_text
token_follows config journal more found =
    let first = follows (start_of config) journal in
    let all = follows (start_of config) (journal ++ more) in
    rw (all.key, all.issuer, first.key, first.issuer) refl

-- ---- what was shown

-- each step that gave something
gave : {X Y E : Type 0} (r : Result X E) (next : X → Result Y E) (y : Y) → (r >>= next) ≡ Ok y → (x : X) × (r ≡ Ok x) × (next x ≡ Ok y)
gave (Ok x) next y is = (x, refl, is)
gave (Err fault) next y is = absurd (cc is)

passed_rules : {X : Type 0} (fault : Option RuleCode) (next : Result X RuleCode) (x : X) → passed fault next ≡ Ok x → (fault ≡ None) × (next ≡ Ok x)
passed_rules None next x is = (refl, is)
passed_rules (Some rule) next x is = absurd (cc is)

not_failing : (b : Bool) (rule : RuleCode) → fails_if (not b) rule ≡ None → b ≡ true
not_failing true rule is = refl
not_failing false rule is = absurd (cc is)

opened_well : (fault : Option JwsFault) (payload found : List ℕ) → opened_by fault payload ≡ Ok found → (fault ≡ None) × (payload ≡ found)
opened_well None payload found is = (refl, cc is)
opened_well (Some fault) payload found is = absurd (cc is)

claimed_well : (r : Result Claims ClaimFault) (claims : Claims) → claimed_by r ≡ Ok claims → r ≡ Ok claims
claimed_well (Ok claims) found is = let same : claims ≡ found = cc is in ap (λ (c : Claims). Ok c) same
claimed_well (Err fault) found is = absurd (cc is)

from_payload : (token payload : List ℕ) (claims : Claims) → payload_of token ≡ payload → claims_of payload ≡ Ok claims
    → claims_of (payload_of token) ≡ Ok claims
from_payload token payload claims same is = ap claims_of same ∙ is

outside_well : (provider : ProviderView) (r : Result Identity MapFault) (who : Who) → outside_by provider r ≡ Ok who
    → (identity : Identity) × (r ≡ Ok identity) × (Outside provider.name.pool identity ≡ who)
outside_well provider (Ok identity) who is = (identity, refl, cc is)
outside_well provider (Err fault) who is = absurd (cc is)

found_well : (found : Option ProviderView) (provider : ProviderView) → needed E14 found ≡ Ok provider → found ≡ Some provider
found_well None provider is = absurd (cc is)
found_well (Some p) provider is = let same : p ≡ provider = cc is in ap (λ (q : ProviderView). Some q) same

-- what the rules of a provider say where they pass
record Shown (provider : ProviderView) (token : List ℕ) (now : ℕ) (s : Source) : Type 0 where
  verified : MacGood provider.key token
  claims : Claims
  claimed : claims_of (payload_of token) ≡ Ok claims
  identity : Identity
  admitted : IsAdmitted provider claims now identity
  source : s ≡ source_by claims (Outside provider.name.pool identity)

source_is : (claims : Claims) (outside who : Who) (s : Source) → outside ≡ who → source_by claims who ≡ s → s ≡ source_by claims outside
source_is claims outside who s same is = sym is ∙ ap (source_by claims) (sym same)

shown_by : (provider : ProviderView) (token : List ℕ) (now : ℕ) (s : Source) → source_of provider token now ≡ Ok s → Shown provider token now s
unfolding source_of source_of_claims
shown_by provider token now s is =
    let verified = gave (opened provider.key token) _ s is in
    let good = opened_well (first_jws_fault provider.key token) (payload_of token) verified.0 verified.1 in
    let claimed = gave (claimed_by (claims_of verified.0)) _ s verified.2 in
    let claims = claimed.0 in
    let who = gave (who_of_claims provider claims now) (λ w. Ok (source_by claims w)) s claimed.2 in
    let outside = outside_well provider (identity_of provider claims now) who.0 who.1 in
    let source : source_by claims who.0 ≡ s = cc (who.2) in
    record {
      verified = good.0;
      claims = claims;
      claimed = from_payload token verified.0 claims good.1 (claimed_well (claims_of verified.0) claims claimed.1);
      identity = outside.0;
      admitted = rules-passed provider claims now outside.0 outside.1;
      source = source_is claims (Outside provider.name.pool outside.0) who.0 s outside.2 source;
    }

source_shown : (c : Content) (x : Exchange) (s : Source) → source_at c x.provider x.token x.at ≡ Ok s → WasShown c x
source_shown c x s is =
    let named = gave (named c.view x.provider) (λ p. passed (fails_if (not (provider_enabled c.view p)) E15) (source_of p x.token x.at)) s is in
    let provider = named.0 in
    let rules = passed_rules (fails_if (not (provider_enabled c.view provider)) E15) (source_of provider x.token x.at) s named.2 in
    let shown = shown_by provider x.token x.at s rules.1 in
    record {
      provider = provider;
      there = found_well (value_at (audience_text x.provider) c.view.providers) provider named.1;
      enabled = not_failing (provider_enabled c.view provider) E15 rules.0;
      verified = shown.verified;
      claims = shown.claims;
      claimed = shown.claimed;
      identity = shown.identity;
      admitted = shown.admitted;
      link = ap (λ (r : Result Source RuleCode). option_map (federated_link x.scope x.at) (result_ok r)) is
          ∙ ap (λ (t : Source). Some (federated_link x.scope x.at t)) shown.source;
    }

no_fault : (r : Result Source RuleCode) → fault_of r ≡ None → (s : Source) × (r ≡ Ok s)
no_fault (Ok s) is = (s, refl)
no_fault (Err rule) is = absurd (cc is)

pub was_shown : (c : Content) (x : Exchange) → Licensed c (entry.Federated x) → WasShown c x
unfolding first_unlicensed
was_shown c x licensed =
    let rules = all_pass (exchange_rules c x ++ size_rule c (entry.Federated x) E25 ∷ []) licensed in
    let source = no_fault (source_at c x.provider x.token x.at) rules.1.0 in
    source_shown c x source.0 source.1
