-- What a subject token gives under a provider has its forms.
use Rattle.std.proofs.Common.{◌≡◌, ℕ, Bool, true, false, ◌&&◌, nat_lt, List, [], ◌∷◌, length, map, refl, sym, ap, subst, ◌∙◌, arith}
use Rattle.std.proofs.Common.{Result, Ok, Err, IfOk, nat_cmp}
use Rattle.std.specs.Cmp.Lexicographic.{slice_cmp}
use Rattle.std.specs.List.{AllByRecursion, list_all}
use Rattle.std.specs.List.Sorted.{IsStrictlySortedBy}
use Rattle.std.specs.Str.{IsUtf8}
use Rattle.std.proofs.lemmas.Bool.{and_from, le-leb}
use Rattle.std.proofs.lemmas.Bool.Decides.{nat_tests}
use Rattle.json.proofs.Printed.Utf8.{IsUtf8-are_ascii}
use Rattle.base_types.specs.Forms.{has_size}
use Rattle.base_types.specs.Steps.{◌>>=◌}
use Rattle.cel_expression.specs.declared.expression.Expression.{Expression}
use Rattle.iam_names.specs.Forms.{is_attribute_byte, is_attribute_name}
use Rattle.iam_names.specs.PoolName.{is_pool_name}
use Rattle.iam_names.specs.declared.identity.Identity.{Identity}
use Rattle.iam_names.specs.declared.who.Who.{Who}
use Rattle.iam_names.specs.declared.who.Who.TheVariants.{Outside}
use Rattle.wif_claims.specs.declared.claims.Claims.{Claims}
use Rattle.wif_claims.specs.declared.claims.ClaimFault.{ClaimFault}
use Rattle.wif_claims.specs.Payload.{claims_of}
use Rattle.wif_claims.proofs.FormedClaims.{AreFormed, claims_formed}
use Rattle.pools.specs.Admission.{identity_of}
use Rattle.pools.specs.Admitted.{HasSize}
use Rattle.pools.specs.Providers.{ProviderView, IsFormed}
use Rattle.pools.specs.declared.fault.MapFault.{MapFault}
use Rattle.pools.proofs.AdmittedClaims.{rules-passed}
use Rattle.pools.proofs.MappedParts.{admitted_parts}
use Rattle.access_token.specs.Exact.{IsExactWho}
use Rattle.access_token.specs.Forms.{is_attribute, is_who}
use Rattle.entry_rules.specs.declared.fault.RuleCode.{RuleCode}
use Rattle.subject_token.specs.declared.source.Source.{Source}
use Rattle.subject_token.specs.Sources.{opened, claimed_by, outside_by, who_of_claims, source_by, source_of_claims, source_of}
use Rattle.links.proofs.Good.{IsGoodSource}
use Rattle.links.proofs.GoodLinks.{all_ascii, pool_exact}

both : (a b : Bool) → (a && b) ≡ true → (a ≡ true) × (b ≡ true)
both true b h = (refl, h)
both false b h = cc

-- ---- the identity that a provider maps claims to

sized : (low high : ℕ) (bytes : List ℕ) → HasSize low high bytes → has_size low high bytes ≡ true
sized low high bytes is = and_from _ _ (le-leb low (length bytes) is.0) (le-leb (length bytes) high is.1)

groups_sized : (groups : List (List ℕ)) → AllByRecursion (HasSize 1 256) groups → list_all (has_size 1 256) groups ≡ true
groups_sized [] all = refl
groups_sized (group ∷ groups) all = and_from _ _ (sized 1 256 group all.0) (groups_sized groups all.1)

all_mapped : {A B : Type 0} (f : A → B) (test : B → Bool) (xs : List A) → list_all test (map f xs) ≡ list_all (λ x. test (f x)) xs
all_mapped f test [] = refl
all_mapped f test (x ∷ xs) = ap (λ (b : Bool). test (f x) && b) (all_mapped f test xs)

-- names that are those of other rows have their forms as theirs have
names_formed : (attributes : List (List ℕ × List ℕ)) (rows : List (List ℕ × Expression)) → map (λ a. a.0) attributes ≡ map (λ row. row.0) rows
    → list_all (λ row. is_attribute_name row.0) rows ≡ true → list_all (λ a. is_attribute_name a.0) attributes ≡ true
names_formed attributes rows same all =
    sym (all_mapped (λ a. a.0) is_attribute_name attributes) ∙ ap (list_all is_attribute_name) same ∙ all_mapped (λ row. row.0) is_attribute_name rows ∙ all

attributes_formed : (attributes : List (List ℕ × List ℕ)) → list_all (λ a. is_attribute_name a.0) attributes ≡ true
    → AllByRecursion (λ a. HasSize 1 256 a.1) attributes
    → list_all is_attribute attributes ≡ true
attributes_formed [] names sizes = refl
attributes_formed (a ∷ attributes) names sizes =
    let parts = both (is_attribute_name a.0) (list_all (λ b. is_attribute_name b.0) attributes) names in
    and_from _ _ (and_from _ _ parts.0 (sized 1 256 a.1 sizes.0)) (attributes_formed attributes parts.1 sizes.1)

attribute_low : (byte : ℕ) → is_attribute_byte byte ≡ true → nat_lt byte 128 ≡ true
attribute_low byte h = grind (arith, nat_tests)

name_utf8 : (name : List ℕ) → is_attribute_name name ≡ true → IsUtf8 name
name_utf8 name is = IsUtf8-are_ascii name (all_ascii is_attribute_byte attribute_low name (both (has_size 1 100 name) (list_all is_attribute_byte name) is).1)

attributes_utf8 : (attributes : List (List ℕ × List ℕ)) → list_all (λ a. is_attribute_name a.0) attributes ≡ true → AllByRecursion (λ a. IsUtf8 a.1) attributes
    → AllByRecursion (λ (a : List ℕ × List ℕ). IsUtf8 a.0 × IsUtf8 a.1) attributes
attributes_utf8 [] names texts = tt
attributes_utf8 (a ∷ attributes) names texts =
    let parts = both (is_attribute_name a.0) (list_all (λ b. is_attribute_name b.0) attributes) names in
    ((name_utf8 a.0 parts.0, texts.0), attributes_utf8 attributes parts.1 texts.1)

abbrev IsGoodWho : Who → Type 0
IsGoodWho who = (is_who who ≡ true) × IsExactWho who

who_good : (provider : ProviderView) (claims : Claims) (now : ℕ) (identity : Identity) → IsFormed provider → identity_of provider claims now ≡ Ok identity
    → IsGoodWho (Outside provider.name.pool identity)
who_good provider claims now identity formed is =
    let admitted = rules-passed provider claims now identity is in
    let parts = admitted_parts provider claims now identity is in
    let pool = (both (is_pool_name provider.name.pool) _ formed.name).0 in
    let names = names_formed identity.attributes provider.mapping.attributes parts.names formed.attributes in (
      and_from _ _ pool (and_from _ _ (sized 1 127 identity.subject admitted.subject)
          (and_from _ _ (groups_sized identity.groups admitted.groups) (attributes_formed identity.attributes names admitted.attributes))),
      (
        pool_exact provider.name.pool pool,
        record {
          subject = parts.subject_utf8;
          groups = parts.groups_utf8;
          attributes = attributes_utf8 identity.attributes names parts.attributes_utf8;
          rising = subst (λ (ns : List (List ℕ)). IsStrictlySortedBy (slice_cmp nat_cmp) ns) (sym parts.names) formed.rising;
        },
      ),
    )

-- ---- what the claims give

after_step : {X Y : Type 0} (Q : X → Type 0) (P : Y → Type 0) (r : Result X RuleCode) (next : X → Result Y RuleCode) → IfOk r Q
    → ((x : X) → Q x → IfOk (next x) P) → IfOk (r >>= next) P
after_step Q P (Ok x) next q each = each x q
after_step Q P (Err rule) next q each = tt

claimed : (r : Result Claims ClaimFault) → IfOk r AreFormed → IfOk (claimed_by r) AreFormed
claimed (Ok claims) h = h
claimed (Err fault) h = tt

outside_good : (provider : ProviderView) (r : Result Identity MapFault)
    → ((identity : Identity) → r ≡ Ok identity → IsGoodWho (Outside provider.name.pool identity))
    → IfOk (outside_by provider r) IsGoodWho
outside_good provider (Ok identity) good = good identity refl
outside_good provider (Err fault) good = tt

claims_who : (provider : ProviderView) (claims : Claims) (now : ℕ) → IsFormed provider → IfOk (who_of_claims provider claims now) IsGoodWho
claims_who provider claims now formed = outside_good provider (identity_of provider claims now) (λ identity is. who_good provider claims now identity formed is)

source_good : (claims : Claims) (who : Who) → AreFormed claims → IsGoodWho who → IsGoodSource (source_by claims who)
source_good claims who are is = record {
  who = is.0;
  exact = is.1;
  exp = are.forms.exp;
  few = record { few = are.forms.may_act; utf8 = are.forms.utf8 };
  may_act = and_from _ _ (le-leb (length claims.may_act) 8 are.forms.may_act) are.sizes;
}

claims_source : (provider : ProviderView) (claims : Claims) (now : ℕ) → IsFormed provider → AreFormed claims
    → IfOk (source_of_claims provider claims now) IsGoodSource
unfolding source_of_claims
claims_source provider claims now formed are =
    after_step IsGoodWho IsGoodSource (who_of_claims provider claims now) (λ who. Ok (source_by claims who))
    (claims_who provider claims now formed) (λ who is. source_good claims who are is)

any : {X : Type 0} (r : Result X RuleCode) → IfOk r (λ _. Unit {0})
any (Ok x) = tt
any (Err rule) = tt

token_source : (provider : ProviderView) (token : List ℕ) (now : ℕ) → IsFormed provider → IfOk (source_of provider token now) IsGoodSource
unfolding source_of
token_source provider token now formed =
    after_step (λ _. Unit {0}) IsGoodSource (opened provider.key token) _ (any (opened provider.key token)) (λ payload _.
    after_step AreFormed IsGoodSource (claimed_by (claims_of payload)) _ (claimed (claims_of payload) (claims_formed payload))
    (λ claims are. claims_source provider claims now formed are))

-- what a subject token gives under a provider has its forms
pub source_forms : (provider : ProviderView) (token : List ℕ) (now : ℕ) (s : Source) → IsFormed provider → source_of provider token now ≡ Ok s → IsGoodSource s
source_forms provider token now s formed is = subst (λ r. IfOk r IsGoodSource) is (token_source provider token now formed)
