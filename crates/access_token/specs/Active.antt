-- What an introspection tells of a live token (RFC 7662, section 2.2).
use Rattle.std.specs.Prelude.{List, ℕ, codes, true}
use Rattle.std.specs.Fmt.{decimal}
use Rattle.serde_json.specs.Data.{Data, boolean, number, unsigned, string, object, member, no_members}
use Rattle.serde_json.specs.Written.{compact_text}
use Rattle.access_token.specs.declared.facts.Facts.{Facts}
use Rattle.boundary.specs.Written.{optional}
use Rattle.access_token.specs.Payload.{nested, words_text, last_words}

-- the reply to an introspection of the token of these facts
unfoldable pub active_data : List ℕ → Facts → Data
active_data issuer facts = object (
    optional (codes "act") (nested (codes "act") facts.act) (
    member (codes "active") (boolean true) (
    member (codes "exp") (number (unsigned facts.exp)) (
    member (codes "iat") (number (unsigned facts.iat)) (
    member (codes "iss") (string issuer) (
    member (codes "jti") (string (decimal facts.number)) (
    member (codes "scope") (string (words_text (last_words facts.scopes))) (
    member (codes "sub") (string facts.sub) (
    member (codes "token_type") (string (codes "Bearer")) no_members)))))))))

-- its text
unfoldable pub active_text : List ℕ → Facts → List ℕ
active_text issuer facts = compact_text (active_data issuer facts)
