-- The payload of a token: its JSON tree and its text.
use Rattle.std.specs.Prelude.{ℕ, List, [], ◌∷◌, ◌++◌, Option, Some, None, codes}
use Rattle.std.specs.Fmt.{decimal}
use Rattle.serde_json.specs.Data.{Data, Members, number, unsigned, string, array, object, no_members, member}
use Rattle.serde_json.specs.Written.{compact_text}
use Rattle.iam_names.specs.declared.who.Who.{Who}
use Rattle.iam_names.specs.declared.who.Who.TheVariants.{Outside, Account}
use Rattle.iam_names.specs.PoolName.{pool_text}
use Rattle.boundary.specs.Written.{optional, items, boundary_data}
use Rattle.access_token.specs.declared.facts.Facts.{Facts}

-- an array of texts
abbrev pub texts : List (List ℕ) → Data
texts xs = array (items string xs)

-- names inside one another, the first one outside
abbrev pub nested : List ℕ → List (List ℕ) → Option Data
nested name [] = None
nested name (x ∷ xs) = Some (object (optional name (nested name xs) (member (codes "sub") (string x) no_members)))

-- words with one space between
abbrev pub words_text : List (List ℕ) → List ℕ
words_text [] = []
words_text (word ∷ []) = word
words_text (word ∷ next ∷ words) = word ++ (32 ∷ words_text (next ∷ words))

-- the words of the last exchange
abbrev pub last_words : List (List (List ℕ)) → List (List ℕ)
last_words [] = []
last_words (words ∷ []) = words
last_words (words ∷ next ∷ more) = last_words (next ∷ more)

-- attributes as members
abbrev pub attributes_data : List (List ℕ × List ℕ) → Members
attributes_data [] = no_members
attributes_data (attribute ∷ attributes) = member attribute.0 (string attribute.1) (attributes_data attributes)

-- whom the token is of
unfoldable pub who_data : Who → Data
who_data (Outside pool identity) = object (
    member (codes "attributes") (object (attributes_data identity.attributes)) (
    member (codes "groups") (texts identity.groups) (
    member (codes "pool") (string (pool_text pool)) (
    member (codes "subject") (string identity.subject) no_members))))
who_data (Account account) = object (member (codes "account") (string account) no_members)

-- the private claim `wif`: what a decision reads
unfoldable pub wif_data : Facts → Data
wif_data facts = object (
    member (codes "accounts") (texts facts.accounts) (
    member (codes "bounds") (array (items boundary_data facts.bounds)) (
    member (codes "pools") (array (items (λ pool. string (pool_text pool)) facts.pools)) (
    member (codes "scopes") (array (items (λ words. string (words_text words)) facts.scopes)) (
    member (codes "who") (who_data facts.who) no_members)))))

-- the claims of an access token (RFC 7519; RFC 8693, sections 4.1 and 4.4)
unfoldable pub payload_data : List ℕ → Facts → Data
payload_data issuer facts = object (
    optional (codes "act") (nested (codes "act") facts.act) (
    member (codes "exp") (number (unsigned facts.exp)) (
    member (codes "iat") (number (unsigned facts.iat)) (
    member (codes "iss") (string issuer) (
    member (codes "jti") (string (decimal facts.number)) (
    optional (codes "may_act") (nested (codes "may_act") facts.may_act) (
    member (codes "scope") (string (words_text (last_words facts.scopes))) (
    member (codes "sub") (string facts.sub) (
    member (codes "wif") (wif_data facts) no_members)))))))))

-- its text
unfoldable pub payload_text : List ℕ → Facts → List ℕ
payload_text issuer facts = compact_text (payload_data issuer facts)
