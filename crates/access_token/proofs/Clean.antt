-- The tree of exact facts is clean, and not deep.
use Rattle.std.proofs.Common.{◌≤◌, ℕ, List, [], ◌∷◌, length, refl, arith, IfSome, codes}
use Rattle.std.specs.Fmt.{decimal}
use Rattle.serde_json.specs.Data.{number, unsigned, string, no_members, member, depth, items_depth, members_depth}
use Rattle.serde_json.specs.Read.{max_depth}
use Rattle.json_text.specs.Clean.{IsClean, AreClean, HasCleanMembers}
use Rattle.iam_names.specs.declared.who.Who.{Who}
use Rattle.iam_names.specs.declared.who.Who.TheVariants.{Outside, Account}
use Rattle.iam_names.specs.PoolName.{pool_text}
use Rattle.access_token.specs.Exact.{IsExactWho, IsExact}
use Rattle.access_token.specs.declared.facts.Facts.{Facts}
use Rattle.boundary.specs.Written.{optional, items, boundary_data}
use Rattle.boundary.proofs.WrittenBoundaries.{boundary_clean, boundary_deep}
use Rattle.boundary.proofs.WrittenParts.{after_optional, optional_clean, items_clean, deep, optional_deep, items_deep}
use Rattle.access_token.specs.Payload.{nested, words_text, last_words, attributes_data, who_data, wif_data, payload_data}
use Rattle.access_token.proofs.Writing.{clean_attributes}

act_clean : (names : List (List ℕ)) → IfSome (nested (codes "act") names) IsClean
act_clean [] = tt
act_clean (name ∷ names) = optional_clean (codes "act") (nested (codes "act") names) (member (codes "sub") (string name) no_members) (act_clean names) (tt, tt, tt) (refl, tt)

may_act_clean : (names : List (List ℕ)) → IfSome (nested (codes "may_act") names) IsClean
may_act_clean [] = tt
may_act_clean (name ∷ names) = optional_clean (codes "may_act") (nested (codes "may_act") names) (member (codes "sub") (string name) no_members) (may_act_clean names) (tt, tt, tt) (refl, tt)

texts_clean : (xs : List (List ℕ)) → AreClean (items string xs)
texts_clean xs = items_clean string (λ x. tt) xs

who_clean : (who : Who) → IsExactWho who → IsClean (who_data who)
unfolding who_data
who_clean (Outside pool identity) is =
    (clean_attributes identity.attributes is.1.rising, (texts_clean identity.groups, (tt, (tt, tt, tt), (refl, tt)), (refl, (refl, tt))), (refl, (refl, (refl, tt))))
who_clean (Account account) is = (tt, tt, tt)

wif_clean : (facts : Facts) → IsExactWho facts.who → IsClean (wif_data facts)
unfolding wif_data
wif_clean facts who = (
  texts_clean facts.accounts,
  (
    items_clean boundary_data boundary_clean facts.bounds,
    (
      items_clean (λ pool. string (pool_text pool)) (λ pool. tt) facts.pools,
      (
        items_clean (λ words. string (words_text words)) (λ words. tt) facts.scopes,
        (who_clean facts.who who, tt, tt),
        (refl, tt),
      ),
      (refl, (refl, tt)),
    ),
    (refl, (refl, (refl, tt))),
  ),
  (refl, (refl, (refl, (refl, tt)))),
)

pub payload_clean : (issuer : List ℕ) (facts : Facts) → IsExact issuer facts → IsClean (payload_data issuer facts)
unfolding payload_data
payload_clean issuer facts is =
    let wif : HasCleanMembers (member (codes "wif") (wif_data facts) no_members) = (wif_clean facts is.who, tt, tt) in
    let sub : HasCleanMembers (member (codes "sub") (string facts.sub) (member (codes "wif") (wif_data facts) no_members)) = (tt, wif, (refl, tt)) in
    let tail = member (codes "scope") (string (words_text (last_words facts.scopes))) (member (codes "sub") (string facts.sub) (member (codes "wif") (wif_data facts) no_members)) in
    let scope : HasCleanMembers tail = (tt, sub, (refl, (refl, tt))) in
    let may = nested (codes "may_act") facts.may_act in
    let may_act = optional_clean (codes "may_act") may tail (may_act_clean facts.may_act) scope (refl, (refl, (refl, tt))) in
    let jti = after_optional (codes "jti") (codes "may_act") may tail refl (refl, (refl, (refl, tt))) in
    let iss = after_optional (codes "iss") (codes "may_act") may tail refl (refl, (refl, (refl, tt))) in
    let iat = after_optional (codes "iat") (codes "may_act") may tail refl (refl, (refl, (refl, tt))) in
    let exp = after_optional (codes "exp") (codes "may_act") may tail refl (refl, (refl, (refl, tt))) in
    let act = after_optional (codes "act") (codes "may_act") may tail refl (refl, (refl, (refl, tt))) in
    optional_clean (codes "act") (nested (codes "act") facts.act)
    (member (codes "exp") (number (unsigned facts.exp)) (member (codes "iat") (number (unsigned facts.iat)) (member (codes "iss") (string issuer) (member (codes "jti") (string (decimal facts.number)) (optional (codes "may_act") may tail)))))
    (act_clean facts.act)
    (is.exp, (is.iat, (tt, (tt, may_act, jti), (refl, iss)), (refl, (refl, iat))), (refl, (refl, (refl, exp))))
    (refl, (refl, (refl, (refl, act))))

-- ---- how deep the tree is

nested_deep : (k : List ℕ) (names : List (List ℕ)) → deep (nested k names) ≤ length names
unfolding deep
nested_deep k [] = omega arith
nested_deep k (name ∷ names) = omega (arith, optional_deep k (nested k names) (member (codes "sub") (string name) no_members), nested_deep k names)

attributes_deep : (attributes : List (List ℕ × List ℕ)) → members_depth (attributes_data attributes) ≤ 0
attributes_deep [] = omega arith
attributes_deep (attribute ∷ attributes) = omega (arith, attributes_deep attributes)

texts_deep : (xs : List (List ℕ)) → items_depth (items string xs) ≤ 0
texts_deep xs = items_deep string 0 (λ x. omega arith) xs

who_deep : (who : Who) → depth (who_data who) ≤ 2
unfolding who_data
who_deep (Outside pool identity) = omega (arith, attributes_deep identity.attributes, texts_deep identity.groups)
who_deep (Account account) = omega arith

wif_deep : (facts : Facts) → depth (wif_data facts) ≤ 5
unfolding wif_data
wif_deep facts = omega (
  arith,
  texts_deep facts.accounts,
  items_deep boundary_data 3 boundary_deep facts.bounds,
  items_deep (λ pool. string (pool_text pool)) 0 (λ pool. omega arith) facts.pools,
  items_deep (λ words. string (words_text words)) 0 (λ words. omega arith) facts.scopes,
  who_deep facts.who,
)

pub payload_deep : (issuer : List ℕ) (facts : Facts) → IsExact issuer facts → depth (payload_data issuer facts) ≤ max_depth
unfolding payload_data
payload_deep issuer facts is =
    let tail = member (codes "scope") (string (words_text (last_words facts.scopes))) (member (codes "sub") (string facts.sub) (member (codes "wif") (wif_data facts) no_members)) in
    let may = nested (codes "may_act") facts.may_act in
    omega (
      arith,
      optional_deep (codes "act") (nested (codes "act") facts.act)
          (member (codes "exp") (number (unsigned facts.exp)) (member (codes "iat") (number (unsigned facts.iat)) (member (codes "iss") (string issuer) (member (codes "jti") (string (decimal facts.number)) (optional (codes "may_act") may tail))))),
      optional_deep (codes "may_act") may tail,
      nested_deep (codes "act") facts.act,
      nested_deep (codes "may_act") facts.may_act,
      wif_deep facts,
      is.act.few,
      is.may_act.few,
    )
