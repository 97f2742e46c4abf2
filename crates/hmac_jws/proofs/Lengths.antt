-- How long the compact form of a payload is.
use Rattle.std.proofs.Common.{◌≡◌, ◌+◌, ℕ, List, ◌∷◌, length, ◌∙◌, ap, arith, append-nil, length-append}
use Rattle.sha2.proofs.Facts256.{length-sha256}
use Rattle.base64.specs.Rfc4648.{unpadded_len}
use Rattle.base64.proofs.RoundTrip.{length-encode_symbols}
use Rattle.base64.specs.Engines.{url_safe_no_pad}
use Rattle.hmac_jws.specs.Hmac.{hmac_of}
use Rattle.hmac_jws.specs.Compact.{base64url, compact, dot, signed_header, signing_input}

length-base64url : (bytes : List ℕ) → length (base64url bytes) ≡ unpadded_len (length bytes)
length-base64url bytes = rw append-nil (length-encode_symbols url_safe_no_pad.encode_table bytes)

length-hmac_of : (key message : List ℕ) → length (hmac_of key message) ≡ 32
unfolding hmac_of
length-hmac_of key message = length-sha256 _

length-mac : (key message : List ℕ) → length (base64url (hmac_of key message)) ≡ 43
length-mac key message = length-base64url (hmac_of key message) ∙ ap unpadded_len (length-hmac_of key message)

pub length-compact : (key payload : List ℕ) → length (compact key payload) ≡ unpadded_len (length payload) + 81
unfolding compact
length-compact key payload =
    let signed = signing_input (base64url signed_header) (base64url payload) in
    omega (
      arith,
      length-append signed (dot ∷ base64url (hmac_of key signed)),
      length-append (base64url signed_header) (dot ∷ base64url payload),
      length-base64url signed_header,
      length-base64url payload,
      length-mac key signed,
    )
