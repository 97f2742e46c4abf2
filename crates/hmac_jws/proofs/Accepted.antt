-- A text that fails no rule is a signed text.
use Rattle.std.proofs.Common.{◌≡◌, ℕ, suc, Bool, true, false, not, List, [], ◌∷◌, ◌++◌, Option, None, Some, is_none, option_and_then, Result, Ok, Err, refl, ap, subst}
use Rattle.std.specs.Result.{result_ok}
use Rattle.std.specs.Str.{bytes_eq}
use Rattle.std.proofs.lemmas.Slice.Eq.{bytes_eq-Decides}
use Rattle.base64.specs.declared.decode.DecodeError.{DecodeError}
use Rattle.base64.specs.Engines.{url_safe_no_pad}
use Rattle.base64.specs.GeneralPurpose.{IsBytes}
use Rattle.base64.proofs.EngineFacts.{decode_of_strict, front_bytes}
use Rattle.json_text.specs.Document.{document}
use Rattle.base_types.specs.Rules.{fails_if, first_of}
use Rattle.hmac_jws.specs.Hmac.{hmac_of}
use Rattle.hmac_jws.specs.Compact.{base64url, base64url_bytes, dot, signed_text, signing_input}
use Rattle.hmac_jws.specs.Verified.{parts, MacGood, is_text, first_header_fault, first_fault_of_parts, first_jws_fault, payload_of}
use Rattle.hmac_jws.specs.declared.fault.JwsFault.{JwsFault}
use Rattle.hmac_jws.specs.declared.fault.JwsFault.TheVariants.{Base64, Mac}
use Rattle.hmac_jws.proofs.Splitting.{joined-three}
use Rattle.hmac_jws.proofs.FirstFaults.{payload_of_three}

-- three parts that stand for a good header, a payload and a MAC
record Stands (header payload mac : Option (List ℕ)) (code : List ℕ) : Type 0 where
  header_bytes : List ℕ
  payload_bytes : List ℕ
  is_header : header ≡ Some header_bytes
  is_payload : payload ≡ Some payload_bytes
  is_mac : mac ≡ Some code
  good : first_header_fault (document header_bytes) ≡ None

last_two : (header : Option JwsFault) (same : Bool) → first_of (header ∷ fails_if (not same) Mac ∷ []) ≡ None → (header ≡ None) × (same ≡ true)
last_two None true none = (refl, refl)
last_two None false none = cc
last_two (Some fault) same none = cc

stands : (header payload mac : Option (List ℕ)) (code : List ℕ) → first_of
    (fails_if (is_none header) (Base64 0)
    ∷ fails_if (is_none payload) (Base64 1)
    ∷ fails_if (is_none mac) (Base64 2)
    ∷ first_header_fault (option_and_then document header)
    ∷ fails_if (not (is_text code mac)) Mac
    ∷ []) ≡ None
    → Stands header payload mac code
stands None payload mac code none = cc
stands (Some h) None mac code none = cc
stands (Some h) (Some p) None code none = cc
stands (Some h) (Some p) (Some m) code none =
    let both = last_two (first_header_fault (document h)) (bytes_eq m code) none in
    record { header_bytes = h; payload_bytes = p; is_header = refl; is_payload = refl; is_mac = ap Some ((bytes_eq-Decides m code).0 both.1); good = both.0 }

-- three parts that fail no rule
record HasParts (key : List ℕ) (texts : List (List ℕ)) : Type 0 where
  header : List ℕ
  payload : List ℕ
  mac : List ℕ
  are : texts ≡ header ∷ payload ∷ mac ∷ []
  stand : Stands (base64url_bytes header) (base64url_bytes payload) (base64url_bytes mac) (hmac_of key (signing_input header payload))

has_parts : (key : List ℕ) (texts : List (List ℕ)) → first_fault_of_parts key texts ≡ None → HasParts key texts
has_parts key [] none = cc
has_parts key (a ∷ []) none = cc
has_parts key (a ∷ b ∷ []) none = cc
has_parts key (h ∷ p ∷ m ∷ []) none =
    record { header = h; payload = p; mac = m; are = refl; stand = stands (base64url_bytes h) (base64url_bytes p) (base64url_bytes m) _ none }
has_parts key (a ∷ b ∷ c ∷ d ∷ rest) none = cc

has_parts_of : (key text : List ℕ) → MacGood key text → HasParts key (parts text)
unfolding first_jws_fault
has_parts_of key text good = has_parts key (parts text) good

from_result_ok : (r : Result (List ℕ) DecodeError) (b : List ℕ) → result_ok r ≡ Some b → r ≡ Ok b
from_result_ok (Ok x) b is = cc
from_result_ok (Err e) b is = cc

-- base64url is strict
part_is : (part bytes : List ℕ) → IsBytes part → base64url_bytes part ≡ Some bytes → part ≡ base64url bytes
unfolding base64url_bytes
part_is part bytes is_bytes is = decode_of_strict url_safe_no_pad part bytes (refl, refl) is_bytes (from_result_ok _ bytes is)

back_bytes : (front back : List ℕ) → IsBytes (front ++ back) → IsBytes back
back_bytes [] back is = is
back_bytes (x ∷ front) back is = back_bytes front back (λ i. is (suc i))

joined : (key text header payload mac header_bytes payload_bytes said : List ℕ) → text ≡ signing_input header payload ++ dot ∷ mac
    → header ≡ base64url header_bytes → payload ≡ base64url payload_bytes → mac ≡ base64url (hmac_of key (signing_input header payload))
    → said ≡ payload_bytes → text ≡ signed_text key header_bytes said
joined key text header payload mac header_bytes payload_bytes said whole is_header is_payload is_mac is_said =
    rw (whole, is_mac, is_header, is_payload, is_said) refl

pub signed-MacGood : (key text : List ℕ) → IsBytes text → MacGood key text
    → (header : List ℕ) × (text ≡ signed_text key header (payload_of text)) × (first_header_fault (document header) ≡ None)
signed-MacGood key text bytes good =
    let p = has_parts_of key text good in
    let s = p.stand in
    let whole : text ≡ signing_input p.header p.payload ++ dot ∷ p.mac = joined-three text p.header p.payload p.mac p.are in
    let all : IsBytes (signing_input p.header p.payload ++ dot ∷ p.mac) = subst IsBytes whole bytes in
    let signed : IsBytes (signing_input p.header p.payload) = front_bytes (signing_input p.header p.payload) (dot ∷ p.mac) all in
    let is_header = part_is p.header s.header_bytes (front_bytes p.header (dot ∷ p.payload) signed) s.is_header in
    let is_payload = part_is p.payload s.payload_bytes (back_bytes (dot ∷ []) p.payload (back_bytes p.header (dot ∷ p.payload) signed)) s.is_payload in
    let is_mac = part_is p.mac (hmac_of key (signing_input p.header p.payload)) (back_bytes (dot ∷ []) p.mac (back_bytes (signing_input p.header p.payload) (dot ∷ p.mac) all)) s.is_mac in
    let said : payload_of text ≡ s.payload_bytes = payload_of_three key text p.header p.payload p.mac p.are s.header_bytes s.is_header s.payload_bytes s.is_payload in
    (s.header_bytes, joined key text p.header p.payload p.mac s.header_bytes s.payload_bytes (payload_of text) whole is_header is_payload is_mac said, s.good)
