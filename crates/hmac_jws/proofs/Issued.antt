-- A signed text whose header has no fault fails no rule, and gives its payload back.
use Rattle.std.proofs.Common.{◌≡◌, ℕ, List, [], ◌∷◌, Some, None, ap, refl}
use Rattle.std.specs.Result.{result_ok}
use Rattle.std.specs.Str.{is_utf8, chars}
use Rattle.std.proofs.lemmas.Slice.Eq.{bytes_eq-Decides}
use Rattle.serde_json.proofs.OnLiterals.{serde_json_on_literals}
use Rattle.base64.specs.Engines.{url_safe_no_pad}
use Rattle.base64.specs.GeneralPurpose.{IsBytes}
use Rattle.base64.proofs.EngineFacts.{decode_of-encode_of}
use Rattle.json_text.specs.Document.{document}
use Rattle.hmac_jws.specs.Hmac.{hmac_of}
use Rattle.hmac_jws.specs.Compact.{base64url, base64url_bytes, compact, signed_header, signed_text, signing_input}
use Rattle.hmac_jws.specs.Verified.{parts, MacGood, first_header_fault, payload_of}
use Rattle.hmac_jws.proofs.Bytes.{HasNoDot-base64url, IsBytes-hmac_of, IsBytes-header}
use Rattle.hmac_jws.proofs.Splitting.{parts-joined}
use Rattle.hmac_jws.proofs.FirstFaults.{first_none, payload_of_three}

base64url_bytes-base64url : (bytes : List ℕ) → IsBytes bytes → base64url_bytes (base64url bytes) ≡ Some bytes
unfolding base64url_bytes
base64url_bytes-base64url bytes is = ap result_ok (decode_of-encode_of url_safe_no_pad bytes refl is)

module _ (key header payload : List ℕ) (is_header : IsBytes header) (is_payload : IsBytes payload) where
  abbrev mac : List ℕ
  mac = hmac_of key (signing_input (base64url header) (base64url payload))

  three : parts (signed_text key header payload) ≡ base64url header ∷ base64url payload ∷ base64url mac ∷ []
  three =
      parts-joined (base64url header) (base64url payload) (base64url mac) (HasNoDot-base64url header) (HasNoDot-base64url payload) (HasNoDot-base64url mac)

  pub payload_of-signed_text : payload_of (signed_text key header payload) ≡ payload
  payload_of-signed_text =
      payload_of_three key (signed_text key header payload) (base64url header) (base64url payload) (base64url mac) three
      header (base64url_bytes-base64url header is_header) payload (base64url_bytes-base64url payload is_payload)

  pub MacGood-signed_text : first_header_fault (document header) ≡ None → MacGood key (signed_text key header payload)
  MacGood-signed_text good =
      first_none key (signed_text key header payload) (base64url header) (base64url payload) (base64url mac) three
      header (base64url_bytes-base64url header is_header) payload (base64url_bytes-base64url payload is_payload)
      mac (base64url_bytes-base64url mac (IsBytes-hmac_of key _)) good ((bytes_eq-Decides mac mac).1 refl)

pub header_is_good : first_header_fault (document signed_header) ≡ None
unfolding serde_json_on_literals is_utf8 chars
header_is_good = refl

pub MacGood-compact : (key payload : List ℕ) → IsBytes payload → MacGood key (compact key payload)
unfolding compact
MacGood-compact key payload bytes = MacGood-signed_text key signed_header payload IsBytes-header bytes header_is_good

pub payload_of-compact : (key payload : List ℕ) → IsBytes payload → payload_of (compact key payload) ≡ payload
unfolding compact
payload_of-compact key payload bytes = payload_of-signed_text key signed_header payload IsBytes-header bytes
