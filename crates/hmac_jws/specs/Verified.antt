-- Which rule of the compact form a text fails first, and the payload of one that fails none (RFC 7515,
-- section 5.2).
use Rattle.std.specs.Prelude.{◌≡◌, ◌≢◌, ℕ, length, ◌==◌, List, [], ◌∷◌, Bool, false, not, is_some, is_none, Option, None, Some, option_and_then, unwrap_or, codes}
use Rattle.std.specs.List.{slice_split}
use Rattle.std.specs.Str.{bytes_eq}
use Rattle.serde_json.specs.Data.{Data}
use Rattle.serde_json.specs.Find.{get, as_object}
use Rattle.json_text.specs.Document.{document, text_at}
use Rattle.base_types.specs.Rules.{fails_if, first_of}
use Rattle.hmac_jws.specs.Hmac.{hmac_of}
use Rattle.hmac_jws.specs.Compact.{base64url_bytes, dot, signing_input}
use Rattle.hmac_jws.specs.declared.fault.JwsFault.{JwsFault}
use Rattle.hmac_jws.specs.declared.fault.JwsFault.TheVariants.{Parts, Base64, Header, Alg, Crit, Mac}

-- what stands between the dots
abbrev pub parts : List ℕ → List (List ℕ)
parts text = slice_split (λ byte. byte == dot) text

-- there aren't three
abbrev pub HasOtherParts : List (List ℕ) → Type 0
HasOtherParts texts = length texts ≢ 3

-- the text is there, and is this one
abbrev pub is_text : List ℕ → Option (List ℕ) → Bool
is_text text None = false
is_text text (Some found) = bytes_eq found text

-- the first rule that a header fails: it is an object, its `alg` is HS256, it has no `crit`
abbrev pub first_header_fault : Option Data → Option JwsFault
first_header_fault None = Some Header
first_header_fault (Some header) = first_of
    (fails_if (not (is_some (as_object header))) Header
    ∷ fails_if (not (is_text (codes "HS256") (text_at (codes "alg") header))) Alg
    ∷ fails_if (is_some (get (codes "crit") header)) Crit
    ∷ [])

-- the third part is the MAC of the first two
abbrev pub is_mac : List ℕ → List ℕ → List ℕ → List ℕ → Bool
is_mac key header payload mac = is_text (hmac_of key (signing_input header payload)) (base64url_bytes mac)

-- the first rule that the parts fail
abbrev pub first_fault_of_parts : List ℕ → List (List ℕ) → Option JwsFault
first_fault_of_parts key (header ∷ payload ∷ mac ∷ []) = first_of
    (fails_if (is_none (base64url_bytes header)) (Base64 0)
    ∷ fails_if (is_none (base64url_bytes payload)) (Base64 1)
    ∷ fails_if (is_none (base64url_bytes mac)) (Base64 2)
    ∷ first_header_fault (option_and_then document (base64url_bytes header))
    ∷ fails_if (not (is_mac key header payload mac)) Mac
    ∷ [])
first_fault_of_parts key _ = Some Parts

-- the first rule that a text fails under a key, or none
unfoldable pub first_jws_fault : List ℕ → List ℕ → Option JwsFault
first_jws_fault key text = first_fault_of_parts key (parts text)

-- the text fails no rule
abbrev pub MacGood : List ℕ → List ℕ → Type 0
MacGood key text = first_jws_fault key text ≡ None

abbrev pub payload_of_parts : List (List ℕ) → List ℕ
payload_of_parts (header ∷ payload ∷ mac ∷ []) = unwrap_or (base64url_bytes payload) []
payload_of_parts _ = []

-- the bytes of the second part
unfoldable pub payload_of : List ℕ → List ℕ
payload_of text = payload_of_parts (parts text)
