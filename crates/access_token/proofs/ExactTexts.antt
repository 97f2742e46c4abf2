-- A payload's text of exact facts reads back as its tree, and tells the link's number.
use Rattle.std.proofs.Common.{◌≡◌, ℕ, List, Option, Some, None, option_and_then, refl, ap, ◌∙◌, codes}
use Rattle.std.specs.Str.{IsUtf8}
use Rattle.std.specs.Fmt.{decimal}
use Rattle.base64.specs.GeneralPurpose.{IsBytes}
use Rattle.serde_json.specs.Data.{Data, Members, number, unsigned, string, object, member}
use Rattle.serde_json.specs.Written.{compact_text}
use Rattle.json_text.specs.Document.{document, text_at}
use Rattle.json_text.proofs.Bytes.{bytes-IsUtf8}
use Rattle.json_text.proofs.CleanTexts.{read-compact_text}
use Rattle.json_text.proofs.Documents.{document-some}
use Rattle.json_text.proofs.Utf8Texts.{IsUtf8-compact_text}
use Rattle.access_token.specs.Exact.{IsExact}
use Rattle.access_token.specs.declared.facts.Facts.{Facts}
use Rattle.boundary.specs.Written.{optional}
use Rattle.access_token.specs.Payload.{nested, payload_data, payload_text}
use Rattle.access_token.proofs.Clean.{payload_clean, payload_deep}
use Rattle.access_token.proofs.Utf8.{payload_utf8}

pub IsUtf8-payload_text : (issuer : List ℕ) (facts : Facts) → IsExact issuer facts → IsUtf8 (payload_text issuer facts)
unfolding payload_text
IsUtf8-payload_text issuer facts is = IsUtf8-compact_text (payload_data issuer facts) (payload_clean issuer facts is) (payload_utf8 issuer facts is)

pub IsBytes-payload_text : (issuer : List ℕ) (facts : Facts) → IsExact issuer facts → IsBytes (payload_text issuer facts)
IsBytes-payload_text issuer facts is = bytes-IsUtf8 (payload_text issuer facts) (IsUtf8-payload_text issuer facts is)

pub document-payload_text : (issuer : List ℕ) (facts : Facts) → IsExact issuer facts → document (payload_text issuer facts) ≡ Some (payload_data issuer facts)
unfolding payload_text
document-payload_text issuer facts is =
    let d = payload_data issuer facts in
    document-some (compact_text d) d (IsUtf8-payload_text issuer facts is) (read-compact_text d (payload_clean issuer facts is) (payload_deep issuer facts is))

jti_behind : (act : Option Data) (exp at : ℕ) (issuer jti : List ℕ) (rest : Members) → text_at (codes "jti") (object (optional (codes "act") act
    (member (codes "exp") (number (unsigned exp)) (member (codes "iat") (number (unsigned at)) (member (codes "iss") (string issuer) (member (codes "jti") (string jti) rest)))))) ≡ Some jti
jti_behind None exp at issuer jti rest = refl
jti_behind (Some d) exp at issuer jti rest = refl

pub jti-payload_data : (issuer : List ℕ) (facts : Facts) → text_at (codes "jti") (payload_data issuer facts) ≡ Some (decimal facts.number)
unfolding payload_data
jti-payload_data issuer facts = jti_behind (nested (codes "act") facts.act) facts.exp facts.iat issuer (decimal facts.number) _

pub jti-payload_text : (issuer : List ℕ) (facts : Facts) → IsExact issuer facts → option_and_then (text_at (codes "jti")) (document (payload_text issuer facts)) ≡ Some (decimal facts.number)
jti-payload_text issuer facts is = ap (option_and_then (text_at (codes "jti"))) (document-payload_text issuer facts is) ∙ jti-payload_data issuer facts
