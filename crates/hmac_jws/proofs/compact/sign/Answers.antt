use Rattle.std.proofs.Common.{◌≡◌, ◌∷◌, ◌++◌, ℕ, List}
use Rattle.hmac_jws.specs.Hmac.{hmac_of}
use Rattle.hmac_jws.specs.Compact.{base64url, compact, dot, signed_header}
use Rattle.hmac_jws.proofs.compact.sign.Goals as goal

compact-steps : (key payload plain header input code mac text : List ℕ) → plain ≡ signed_header → header ≡ base64url plain → input ≡ header ++ dot ∷ base64url payload
    → code ≡ input → mac ≡ hmac_of key code → text ≡ input ++ dot ∷ base64url mac → text ≡ compact key payload
unfolding compact
compact-steps key payload plain header input code mac text o a b c d e = rw (e, d, c, b, a, o)

pub returns : goal.returns
returns c =
    compact-steps c.args.key.now c.args.payload.now _ _ _ _ _ _ c.as_bytes.ensures.value c.in_ok-text.ensures.text c.in_ok-push_part.ensures
    c.as_bytes-2.ensures.value c.hmac-mac.ensures c.in_ok-push_part-2.ensures
