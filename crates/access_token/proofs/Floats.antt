-- No part of a payload is a float.
use Rattle.std.proofs.Common.{◌≡◌, ℕ, List, [], ◌∷◌, false, IfSome, codes, refl}
use Rattle.std.specs.Fmt.{decimal}
use Rattle.serde_json.specs.Data.{number, unsigned, string, no_members, member}
use Rattle.serde_json.specs.Written.{has_float, items_have_float, members_have_float}
use Rattle.iam_names.specs.declared.who.Who.{Who}
use Rattle.iam_names.specs.declared.who.Who.TheVariants.{Outside, Account}
use Rattle.iam_names.specs.PoolName.{pool_text}
use Rattle.access_token.specs.Active.{active_data}
use Rattle.access_token.specs.declared.facts.Facts.{Facts}
use Rattle.boundary.specs.Written.{optional, items, boundary_data}
use Rattle.boundary.proofs.WrittenBoundaries.{boundary_floatless}
use Rattle.boundary.proofs.WrittenParts.{optional_floatless, items_floatless}
use Rattle.access_token.specs.Payload.{nested, words_text, last_words, attributes_data, who_data, wif_data, payload_data}

nested_floatless : (name : List ℕ) (names : List (List ℕ)) → IfSome (nested name names) (λ d. has_float d ≡ false)
nested_floatless name [] = tt
nested_floatless name (x ∷ xs) = optional_floatless name (nested name xs) (member (codes "sub") (string x) no_members) (nested_floatless name xs) refl

attributes_floatless : (attributes : List (List ℕ × List ℕ)) → members_have_float (attributes_data attributes) ≡ false
attributes_floatless [] = refl
attributes_floatless (attribute ∷ attributes) = attributes_floatless attributes

texts_floatless : (xs : List (List ℕ)) → items_have_float (items string xs) ≡ false
texts_floatless xs = items_floatless string (λ x. refl) xs

who_floatless : (who : Who) → has_float (who_data who) ≡ false
unfolding who_data
who_floatless (Outside pool identity) = rw (attributes_floatless identity.attributes, texts_floatless identity.groups) refl
who_floatless (Account account) = refl

wif_floatless : (facts : Facts) → has_float (wif_data facts) ≡ false
unfolding wif_data
wif_floatless facts = rw (
  texts_floatless facts.accounts,
  items_floatless boundary_data boundary_floatless facts.bounds,
  items_floatless (λ pool. string (pool_text pool)) (λ pool. refl) facts.pools,
  items_floatless (λ words. string (words_text words)) (λ words. refl) facts.scopes,
  who_floatless facts.who,
) refl

pub payload_floatless : (issuer : List ℕ) (facts : Facts) → has_float (payload_data issuer facts) ≡ false
unfolding payload_data
payload_floatless issuer facts =
    let tail = member (codes "scope") (string (words_text (last_words facts.scopes))) (member (codes "sub") (string facts.sub) (member (codes "wif") (wif_data facts) no_members)) in
    let may_act = optional_floatless (codes "may_act") (nested (codes "may_act") facts.may_act) tail (nested_floatless (codes "may_act") facts.may_act) (rw (wif_floatless facts) refl) in
    optional_floatless (codes "act") (nested (codes "act") facts.act)
    (member (codes "exp") (number (unsigned facts.exp)) (member (codes "iat") (number (unsigned facts.iat)) (member (codes "iss") (string issuer) (member (codes "jti") (string (decimal facts.number)) (optional (codes "may_act") (nested (codes "may_act") facts.may_act) tail)))))
    (nested_floatless (codes "act") facts.act)
    may_act

-- nor of what an introspection tells
pub active_floatless : (issuer : List ℕ) (facts : Facts) → has_float (active_data issuer facts) ≡ false
unfolding active_data
active_floatless issuer facts = optional_floatless (codes "act") (nested (codes "act") facts.act) _ (nested_floatless (codes "act") facts.act) refl
