-- The body of a request for an account's token.
use Rattle.std.proofs.Common.{◌≡◌, refl, ap, ◌∙◌, arith}
use Rattle.std.specs.Prelude.{Some, option_and_then, codes}
use Rattle.json.specs.Print.{escape_byte}
use Rattle.serde_json.specs.Written.{compact_text}
use Rattle.json_text.specs.Clean.{IsClean, HasUtf8}
use Rattle.json_text.proofs.CleanTexts.{read-compact_text}
use Rattle.json_text.proofs.Documents.{document-some}
use Rattle.json_text.proofs.Utf8Texts.{IsUtf8-compact_text}
use Rattle.base_types.specs.Forms.{passing}
use Rattle.exchange_form.specs.Forms.{is_object, object_of}
use Rattle.client_proto.specs.Requests.{account_body}
use Rattle.client_conformance.specs.Meant.{account_asked, every_permission}
use Rattle.client_conformance.proofs.Visibles.{visible_utf8}

clean : IsClean account_asked
clean = (tt, ((tt, tt), tt, tt), (refl, tt))

utf8 : HasUtf8 account_asked
utf8 = (
  visible_utf8 (codes "lifetime") refl,
  visible_utf8 (codes "3600s") refl,
  (visible_utf8 (codes "scope") refl, (visible_utf8 every_permission refl, tt), tt),
)

written : account_body ≡ compact_text account_asked
unfolding escape_byte
written = refl

pub body_read : object_of account_body ≡ Some account_asked
body_read =
    ap object_of written
    ∙ ap (option_and_then (passing is_object)) (document-some (compact_text account_asked) account_asked (IsUtf8-compact_text account_asked clean utf8) (read-compact_text account_asked clean (omega arith)))
