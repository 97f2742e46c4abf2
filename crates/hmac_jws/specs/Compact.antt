-- The compact form of a JSON Web Signature under HS256 (RFC 7515, section 7.1; RFC 7518, section 3.2).
use Rattle.std.specs.Prelude.{ℕ, List, ◌∷◌, ◌++◌, Option, codes}
use Rattle.std.specs.Result.{result_ok}
use Rattle.base64.specs.Engines.{url_safe_no_pad}
use Rattle.base64.specs.GeneralPurpose.{encode_of, decode_of}
use Rattle.hmac_jws.specs.Hmac.{hmac_of}

-- bytes in base64url without padding
abbrev pub base64url : List ℕ → List ℕ
base64url bytes = encode_of url_safe_no_pad bytes

-- the bytes of such a text, or none: padding, a foreign byte and bits that are left over make it none
unfoldable pub base64url_bytes : List ℕ → Option (List ℕ)
base64url_bytes text = result_ok (decode_of url_safe_no_pad text)

-- `.`
abbrev pub dot : ℕ
dot = 46

-- the header of each text that is signed here
abbrev pub signed_header : List ℕ
signed_header = codes "{\"alg\":\"HS256\",\"typ\":\"JWT\"}"

-- what the MAC is of: a header's and a payload's part as they stand
abbrev pub signing_input : List ℕ → List ℕ → List ℕ
signing_input header payload = header ++ dot ∷ payload

-- the text of a header and a payload under a key
abbrev pub signed_text : List ℕ → List ℕ → List ℕ → List ℕ
signed_text key header payload =
    let signed = signing_input (base64url header) (base64url payload) in signed ++ dot ∷ base64url (hmac_of key signed)

-- the text that is written for a payload under a key
unfoldable pub compact : List ℕ → List ℕ → List ℕ
compact key payload = signed_text key signed_header payload
