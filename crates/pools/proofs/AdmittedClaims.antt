-- Claims are admitted exactly where they pass each rule.
use Rattle.std.proofs.Common.{◌≡◌, ℕ, ◌<◌, Bool, true, false, not, nat_le, codes, None, Result, Ok, IfOk, refl, subst, arith}
use Rattle.std.specs.Str.{bytes_eq}
use Rattle.std.proofs.lemmas.Bool.{leb-false}
use Rattle.std.proofs.lemmas.Bool.Decides.{nat_tests}
use Rattle.std.proofs.lemmas.Slice.Eq.{bytes_eq-Decides}
use Rattle.base_types.specs.Steps.{◌>>=◌}
use Rattle.iam_names.specs.declared.identity.Identity.{Identity}
use Rattle.wif_claims.specs.declared.claims.Claims.{Claims}
use Rattle.wif_claims.specs.Timing.{timing_of}
use Rattle.pools.specs.declared.fault.MapFault.{MapFault}
use Rattle.pools.specs.declared.fault.MapFault.TheVariants as fault
use Rattle.pools.specs.Admission.{first_claims_fault, timing_fault, condition_fault, identity_in, identity_of}
use Rattle.pools.specs.Admitted.{IsAdmitted}
use Rattle.pools.specs.Answers.{passed}
use Rattle.pools.specs.Environments.{mapping_env, condition_env}
use Rattle.pools.specs.Lengths.{first_long, first_long_attribute, are_long_groups}
use Rattle.pools.specs.Mapped.{mapped}
use Rattle.pools.specs.Providers.{ProviderView, accepts}
use Rattle.pools.proofs.MappedParts.{bound-ok, mapped-HasParts}
use Rattle.pools.proofs.PassedRules.{passed-none, first-none, none-first, not-false, expired-live, live-expired, some-audience, sized-groups, groups-sized, sized-attributes, attributes-sized, sized-subject, short-subject, true-condition, condition-true}

true-not : (b : Bool) → b ≡ true → not b ≡ false
true-not true e = refl
true-not false e = cc

not-reached : (a b : ℕ) → b < a → nat_le a b ≡ false
not-reached a b h = grind (arith, nat_tests)

pub rules-passed : (provider : ProviderView) (claims : Claims) (now : ℕ) (who : Identity) → identity_of provider claims now ≡ Ok who → IsAdmitted provider claims now who
unfolding identity_of identity_in
rules-passed provider claims now who e =
    let claims_passed = bound-ok (passed (first_claims_fault provider claims now)) (λ _. identity_in provider claims) who e in
    let first = first-none (not (bytes_eq claims.iss provider.issuer)) (not (accepts provider claims.aud)) fault.Issuer fault.Audience (timing_fault (timing_of claims now)) (passed-none (first_claims_fault provider claims now) claims_passed.0 claims_passed.1) in
    let live = expired-live (nat_le claims.exp now) claims.nbf now first.2 in
    let condition_of = λ (w : Identity). passed (condition_fault provider.condition (condition_env claims w)) >>= λ _. Ok w in
    let identity = bound-ok (mapped provider.mapping (mapping_env claims)) (λ w. passed (first_long w) >>= λ _. condition_of w) who claims_passed.2 in
    let sized = bound-ok (passed (first_long identity.0)) (λ _. condition_of identity.0) who identity.2 in
    let condition = bound-ok (passed (condition_fault provider.condition (condition_env claims identity.0))) (λ _. Ok identity.0) who sized.2 in
    let lengths = first-none _ (are_long_groups identity.0.groups) (fault.TooLong (codes "google.subject")) (fault.TooLong (codes "google.groups")) (first_long_attribute identity.0.attributes) (passed-none (first_long identity.0) sized.0 sized.1) in
    let parts = mapped-HasParts provider.mapping (mapping_env claims) identity.0 identity.1 in
    let groups = sized-groups identity.0.groups lengths.1 parts.groups in
    subst (λ (r : Result Identity MapFault). IfOk r (IsAdmitted provider claims now)) condition.2 (record {
      issuer = (bytes_eq-Decides claims.iss provider.issuer).0 (not-false _ first.0);
      audience = (some-audience provider claims.aud).0 (not-false _ first.1);
      unexpired = leb-false claims.exp now live.0;
      begun = live.1;
      identity = identity.1;
      subject = (parts.subject, short-subject identity.0.subject lengths.0);
      groups = groups.1;
      group_count = groups.0;
      attributes = sized-attributes identity.0.attributes lengths.2 parts.attributes;
      condition = true-condition provider.condition (condition_env claims identity.0) (passed-none _ condition.0 condition.1);
    })

pub passing-admitted : (provider : ProviderView) (claims : Claims) (now : ℕ) (who : Identity) → IsAdmitted provider claims now who → identity_of provider claims now ≡ Ok who
unfolding identity_of identity_in
passing-admitted provider claims now who w =
    let live = live-expired (nat_le claims.exp now) claims.nbf now (not-reached claims.exp now w.unexpired) w.begun in
    let claims_pass : first_claims_fault provider claims now ≡ None = none-first (not (bytes_eq claims.iss provider.issuer)) (not (accepts provider claims.aud)) fault.Issuer fault.Audience (timing_fault (timing_of claims now))
    (true-not _ ((bytes_eq-Decides claims.iss provider.issuer).1 w.issuer)) (true-not _ ((some-audience provider claims.aud).1 w.audience)) live in
    let sized : first_long who ≡ None = none-first _ (are_long_groups who.groups) (fault.TooLong (codes "google.subject")) (fault.TooLong (codes "google.groups")) (first_long_attribute who.attributes)
    (sized-subject who.subject w.subject.1) (groups-sized who.groups w.group_count w.groups) (attributes-sized who.attributes w.attributes) in
    let holds : condition_fault provider.condition (condition_env claims who) ≡ None = condition-true provider.condition (condition_env claims who) w.condition in
    rw (claims_pass, w.identity, sized, holds) refl
