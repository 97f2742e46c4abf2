-- Names of their forms are UTF-8, since they are ASCII.
use Rattle.std.proofs.Common.{◌≡◌, ◌<◌, ◌++◌, ℕ, Bool, true, not, ◌&&◌, List, [], ◌∷◌, flat_map, refl, sym, subst, arith, codes}
use Rattle.std.specs.List.{AllByRecursion, list_all}
use Rattle.std.specs.Str.{IsUtf8}
use Rattle.std.proofs.lemmas.Bool.{and_parts}
use Rattle.std.proofs.lemmas.Bool.Decides.{nat_tests}
use Rattle.std.proofs.lemmas.List.Sums.{AllPass-from_list_all}
use Rattle.std.proofs.lemmas.Str.{IsUtf8-append, IsUtf8-nil, IsUtf8-from_ascii}
use Rattle.std.proofs.lemmas.Str.Ascii.{IsAscii-from_all}
use Rattle.json.proofs.Printed.Utf8.{IsUtf8-are_ascii}
use Rattle.base_types.specs.Forms.{has_size}
use Rattle.iam_names.specs.Forms.{is_digit, is_id_byte, is_host_byte, is_word_byte, is_role_byte, is_plain_byte, is_attribute_byte, begins_with, is_project, is_id, is_account, is_permission, is_role, is_scope_word, is_attribute_name, is_resource}
use Rattle.iam_names.specs.Joined.{IsMadeOf, is_segment_byte}
use Rattle.iam_names.proofs.JoinedLemmas.{account_joined, permission_joined, role_joined, resource_joined}

low_utf8 : (test : ℕ → Bool) → ((byte : ℕ) → test byte ≡ true → byte < 128) → (text : List ℕ) → list_all test text ≡ true → IsUtf8 text
low_utf8 test low text all = IsUtf8-from_ascii text (IsAscii-from_all text (λ k d within. low _ (AllPass-from_list_all test text all k d within)))

digit_low : (byte : ℕ) → is_digit byte ≡ true → byte < 128
digit_low byte h = grind (arith, nat_tests)

id_low : (byte : ℕ) → is_id_byte byte ≡ true → byte < 128
id_low byte h = grind (arith, nat_tests)

host_low : (byte : ℕ) → is_host_byte byte ≡ true → byte < 128
host_low byte h = grind (arith, nat_tests)

word_low : (byte : ℕ) → is_word_byte byte ≡ true → byte < 128
word_low byte h = grind (arith, nat_tests)

role_low : (byte : ℕ) → is_role_byte byte ≡ true → byte < 128
role_low byte h = grind (arith, nat_tests)

plain_low : (byte : ℕ) → is_plain_byte byte ≡ true → byte < 128
plain_low byte h = grind (arith, nat_tests)

attribute_low : (byte : ℕ) → is_attribute_byte byte ≡ true → byte < 128
attribute_low byte h = grind (arith, nat_tests)

segment_low : (byte : ℕ) → is_segment_byte byte ≡ true → byte < 128
segment_low byte h = plain_low byte (and_parts (is_plain_byte byte) _ h).0

pub project_utf8 : (text : List ℕ) → is_project text ≡ true → IsUtf8 text
project_utf8 text is =
    let sized = and_parts (has_size 1 19 text) (list_all is_digit text && not (begins_with 48 text)) is in
    low_utf8 is_digit digit_low text (and_parts (list_all is_digit text) (not (begins_with 48 text)) sized.1).0

pub id_utf8 : (text : List ℕ) → is_id text ≡ true → IsUtf8 text
id_utf8 text is = low_utf8 is_id_byte id_low text (and_parts (has_size 4 32 text) (list_all is_id_byte text) is).1

pub word_utf8 : (text : List ℕ) → is_scope_word text ≡ true → IsUtf8 text
word_utf8 text is = low_utf8 is_plain_byte plain_low text (and_parts (has_size 1 128 text) (list_all is_plain_byte text) is).1

pub attribute_utf8 : (text : List ℕ) → is_attribute_name text ≡ true → IsUtf8 text
attribute_utf8 text is = low_utf8 is_attribute_byte attribute_low text (and_parts (has_size 1 100 text) (list_all is_attribute_byte text) is).1

between : (front middle behind : List ℕ) → IsUtf8 front → IsUtf8 middle → IsUtf8 behind → IsUtf8 (front ++ (middle ++ behind))
between front middle behind a b c = IsUtf8-append front (middle ++ behind) a (IsUtf8-append middle behind b c)

pub account_utf8 : (text : List ℕ) → is_account text ≡ true → IsUtf8 text
account_utf8 text is =
    let parts = (account_joined text).0 is in
    let name = low_utf8 is_id_byte id_low parts.name parts.name_is.bytes in
    let project = low_utf8 is_id_byte id_low parts.project parts.project_is.bytes in
    let home = IsUtf8-append parts.project (codes ".iam.gserviceaccount.com") project (IsUtf8-are_ascii (codes ".iam.gserviceaccount.com") refl) in
    subst IsUtf8 (sym parts.text_is) (between parts.name (codes "@") _ name (IsUtf8-are_ascii (codes "@") refl) home)

pub permission_utf8 : (text : List ℕ) → is_permission text ≡ true → IsUtf8 text
permission_utf8 text is =
    let parts = (permission_joined text).0 is in
    let service = low_utf8 is_word_byte word_low parts.service parts.service_is.bytes in
    let resource = low_utf8 is_word_byte word_low parts.resource parts.resource_is.bytes in
    let verb = low_utf8 is_word_byte word_low parts.verb parts.verb_is.bytes in
    let dot = IsUtf8-are_ascii (codes ".") refl in
    subst IsUtf8 (sym parts.text_is) (between parts.service (codes ".") _ service dot (between parts.resource (codes ".") parts.verb resource dot verb))

pub role_utf8 : (text : List ℕ) → is_role text ≡ true → IsUtf8 text
role_utf8 text is =
    let parts = (role_joined text).0 is in
    subst IsUtf8 (sym parts.text_is) (IsUtf8-append (codes "roles/") parts.id (IsUtf8-are_ascii (codes "roles/") refl) (low_utf8 is_role_byte role_low parts.id parts.id_is.bytes))

segments_utf8 : (segments : List (List ℕ)) → AllByRecursion (IsMadeOf is_segment_byte) segments → IsUtf8 (flat_map (λ segment. codes "/" ++ segment) segments)
segments_utf8 [] all = IsUtf8-nil
segments_utf8 (segment ∷ segments) all =
    IsUtf8-append (codes "/" ++ segment) _
    (IsUtf8-append (codes "/") segment (IsUtf8-are_ascii (codes "/") refl) (low_utf8 is_segment_byte segment_low segment all.0.bytes))
    (segments_utf8 segments all.1)

pub resource_utf8 : (text : List ℕ) → is_resource text ≡ true → IsUtf8 text
resource_utf8 text is =
    let parts = (resource_joined text).0 is in
    subst IsUtf8 (sym parts.text_is)
    (between (codes "//") parts.host _ (IsUtf8-are_ascii (codes "//") refl) (low_utf8 is_host_byte host_low parts.host parts.host_is.bytes) (segments_utf8 parts.segments parts.segments_are))
