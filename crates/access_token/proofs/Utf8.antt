-- The texts in the tree of exact facts are UTF-8.
use Rattle.std.proofs.Common.{ℕ, List, [], ◌∷◌, ◌++◌, refl, arith, IfSome, codes}
use Rattle.std.specs.List.{AllByRecursion}
use Rattle.std.specs.Str.{IsUtf8}
use Rattle.std.specs.Fmt.{decimal}
use Rattle.std.proofs.lemmas.Str.{IsUtf8-append, IsUtf8-nil, IsUtf8-from_ascii}
use Rattle.std.proofs.lemmas.Fmt.{IsAscii-decimal}
use Rattle.json.proofs.Printed.Utf8.{IsUtf8-are_ascii}
use Rattle.serde_json.specs.Data.{number, unsigned, string, no_members, member}
use Rattle.json_text.specs.Clean.{HasUtf8, ItemsHaveUtf8, MembersHaveUtf8}
use Rattle.iam_names.specs.declared.pool_name.PoolName.{PoolName}
use Rattle.iam_names.specs.declared.who.Who.{Who}
use Rattle.iam_names.specs.declared.who.Who.TheVariants.{Outside, Account}
use Rattle.iam_names.specs.PoolName.{pool_text}
use Rattle.access_token.specs.Exact.{AreUtf8, IsExactPool, IsExactWho, IsExact}
use Rattle.access_token.specs.declared.facts.Facts.{Facts}
use Rattle.boundary.specs.Exact.{IsExactBoundary}
use Rattle.boundary.specs.Written.{optional, items, boundary_data}
use Rattle.boundary.proofs.WrittenBoundaries.{boundary_utf8}
use Rattle.boundary.proofs.WrittenParts.{optional_utf8, items_utf8}
use Rattle.access_token.specs.Payload.{nested, words_text, last_words, attributes_data, who_data, wif_data, payload_data}

nested_utf8 : (k : List ℕ) (names : List (List ℕ)) → IsUtf8 k → AreUtf8 names → IfSome (nested k names) HasUtf8
nested_utf8 k [] name all = tt
nested_utf8 k (x ∷ xs) name all =
    optional_utf8 k (nested k xs) (member (codes "sub") (string x) no_members) name (nested_utf8 k xs name all.1) (IsUtf8-are_ascii (codes "sub") refl, all.0, tt)

attributes_utf8 : (attributes : List (List ℕ × List ℕ)) → AllByRecursion (λ (attribute : List ℕ × List ℕ). IsUtf8 attribute.0 × IsUtf8 attribute.1) attributes → MembersHaveUtf8 (attributes_data attributes)
attributes_utf8 [] all = tt
attributes_utf8 (attribute ∷ attributes) all = (all.0.0, all.0.1, attributes_utf8 attributes all.1)

words_utf8 : (words : List (List ℕ)) → AreUtf8 words → IsUtf8 (words_text words)
words_utf8 [] all = IsUtf8-nil
words_utf8 (word ∷ []) all = all.0
words_utf8 (word ∷ next ∷ words) all =
    IsUtf8-append word (32 ∷ words_text (next ∷ words)) all.0
    (IsUtf8-append (32 ∷ []) (words_text (next ∷ words)) (IsUtf8-are_ascii (32 ∷ []) refl) (words_utf8 (next ∷ words) all.1))

last_utf8 : (scopes : List (List (List ℕ))) → AllByRecursion AreUtf8 scopes → AreUtf8 (last_words scopes)
last_utf8 [] all = tt
last_utf8 (words ∷ []) all = all.0
last_utf8 (words ∷ next ∷ more) all = last_utf8 (next ∷ more) all.1

pool_utf8 : (pool : PoolName) → IsExactPool pool → IsUtf8 (pool_text pool)
pool_utf8 pool is = IsUtf8-append pool.project (codes "/" ++ pool.pool) is.project (IsUtf8-append (codes "/") pool.pool (IsUtf8-are_ascii (codes "/") refl) is.pool_utf8)

texts_utf8 : (xs : List (List ℕ)) → AreUtf8 xs → ItemsHaveUtf8 (items string xs)
texts_utf8 xs all = items_utf8 string IsUtf8 (λ x is. is) xs all

who_utf8 : (who : Who) → IsExactWho who → HasUtf8 (who_data who)
unfolding who_data
who_utf8 (Outside pool identity) is = (
  IsUtf8-are_ascii (codes "attributes") refl,
  attributes_utf8 identity.attributes is.1.attributes,
  (
    IsUtf8-are_ascii (codes "groups") refl,
    texts_utf8 identity.groups is.1.groups,
    (
      IsUtf8-are_ascii (codes "pool") refl,
      pool_utf8 pool is.0,
      (IsUtf8-are_ascii (codes "subject") refl, is.1.subject, tt),
    ),
  ),
)
who_utf8 (Account account) is = (IsUtf8-are_ascii (codes "account") refl, is, tt)

wif_utf8 : (issuer : List ℕ) (facts : Facts) → IsExact issuer facts → HasUtf8 (wif_data facts)
unfolding wif_data
wif_utf8 issuer facts is = (
  IsUtf8-are_ascii (codes "accounts") refl,
  texts_utf8 facts.accounts is.accounts,
  (
    IsUtf8-are_ascii (codes "bounds") refl,
    items_utf8 boundary_data IsExactBoundary boundary_utf8 facts.bounds is.bounds,
    (
      IsUtf8-are_ascii (codes "pools") refl,
      items_utf8 (λ pool. string (pool_text pool)) IsExactPool pool_utf8 facts.pools is.pools,
      (
        IsUtf8-are_ascii (codes "scopes") refl,
        items_utf8 (λ words. string (words_text words)) AreUtf8 words_utf8 facts.scopes is.scopes,
        (IsUtf8-are_ascii (codes "who") refl, who_utf8 facts.who is.who, tt),
      ),
    ),
  ),
)

pub payload_utf8 : (issuer : List ℕ) (facts : Facts) → IsExact issuer facts → HasUtf8 (payload_data issuer facts)
unfolding payload_data
payload_utf8 issuer facts is =
    let act = IsUtf8-are_ascii (codes "act") refl in
    let may_act = IsUtf8-are_ascii (codes "may_act") refl in
    let tail = member (codes "scope") (string (words_text (last_words facts.scopes))) (member (codes "sub") (string facts.sub) (member (codes "wif") (wif_data facts) no_members)) in
    let tail_is : MembersHaveUtf8 tail = (
      IsUtf8-are_ascii (codes "scope") refl,
      words_utf8 (last_words facts.scopes) (last_utf8 facts.scopes is.scopes),
      (
        IsUtf8-are_ascii (codes "sub") refl,
        is.sub,
        (IsUtf8-are_ascii (codes "wif") refl, wif_utf8 issuer facts is, tt),
      ),
    ) in
    let rest = optional (codes "may_act") (nested (codes "may_act") facts.may_act) tail in
    let rest_is : MembersHaveUtf8 rest = optional_utf8 (codes "may_act") (nested (codes "may_act") facts.may_act) tail may_act (nested_utf8 (codes "may_act") facts.may_act may_act is.may_act.utf8) tail_is in
    let jti : IsUtf8 (decimal facts.number) = IsUtf8-from_ascii (decimal facts.number) (IsAscii-decimal facts.number (omega (arith, is.number))) in
    optional_utf8 (codes "act") (nested (codes "act") facts.act)
    (member (codes "exp") (number (unsigned facts.exp)) (member (codes "iat") (number (unsigned facts.iat)) (member (codes "iss") (string issuer) (member (codes "jti") (string (decimal facts.number)) rest))))
    act
    (nested_utf8 (codes "act") facts.act act is.act.utf8) (
      IsUtf8-are_ascii (codes "exp") refl,
      tt,
      (
        IsUtf8-are_ascii (codes "iat") refl,
        tt,
        (
          IsUtf8-are_ascii (codes "iss") refl,
          is.issuer_utf8,
          (IsUtf8-are_ascii (codes "jti") refl, jti, rest_is),
        ),
      ),
    )
