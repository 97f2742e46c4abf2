-- What visible bytes are good for.
use Rattle.std.proofs.lemmas.Bool.Decides.{nat_tests}
use Rattle.std.proofs.lemmas.Bool.{cond-false}
use Rattle.std.proofs.lemmas.Fmt.{decimal_is_IsNumeral}
use Rattle.std.proofs.lemmas.List.{length-reverse, reverse-append}
use Rattle.std.proofs.lemmas.List.Elements.{All-nil, All-cons}
use Rattle.std.proofs.lemmas.List.Folds.{list_all-append}
use Rattle.std.proofs.lemmas.Str.{IsUtf8-from_ascii}
use Rattle.std.proofs.lemmas.Str.Ascii.{IsAscii-from_all}
use Rattle.std.proofs.lemmas.Str.Parse.{digit_from_value}
use Rattle.std.proofs.Common.{◌≡◌, ◌<◌, ◌^◌, ℕ, List, [], ◌∷◌, ◌++◌, Bool, true, false, IsTrue, ◌&&◌, not, length, reverse, nat_lt, nat_le, refl, sym, ap, ◌∙◌, arith}
use Rattle.std.specs.Prelude.{All, IsUtf8, Option, None, Some, IfSome, codes}
use Rattle.std.specs.List.{list_all}
use Rattle.std.specs.Char.{digit_value, is_ascii_digit}
use Rattle.std.specs.Fmt.{decimal}
use Rattle.std.specs.Str.{IsAscii}
use Rattle.std.specs.Str.Parse.{AllDigits}
use Rattle.httparse.specs.Grammar.{AllPass, is_ows, is_uri_byte, is_value_byte, skip_ows, trim_ows}
use Rattle.percent_encoding.proofs.PercentLemmas.{IsByte}
use Rattle.httparse.proofs.TrimLemmas.{trim_ows_space}
use Rattle.base_types.specs.Forms.{has_size, is_visible, is_visible_text}
use Rattle.iam_names.specs.Audience.{audience_text, is_audience}
use Rattle.iam_names.specs.Forms.{begins_with, is_digit, is_host, is_host_byte, is_id, is_id_byte, is_project}
use Rattle.iam_names.specs.PoolName.{is_pool_name, pool_path}
use Rattle.iam_names.specs.declared.audience.Audience.{Audience}
use Rattle.iam_names.proofs.AccountLemmas.{both}
use Rattle.iam_names.proofs.ReadBackLemmas.{implied}
use Rattle.client_proto.specs.Urls.{is_port, with_port}

pub all_pass : (test : ℕ → Bool) (v : List ℕ) → list_all test v ≡ true → AllPass test v
all_pass test [] h = All-nil (λ x. IsTrue (test x))
all_pass test (b ∷ v) h =
    let parts = both (test b) (list_all test v) h in
    All-cons (λ x. IsTrue (test x)) b v parts.0 (all_pass test v parts.1)

value_byte : (b : ℕ) → is_visible b ≡ true → is_value_byte b ≡ true
value_byte b h = grind (arith, nat_tests)

uri_byte : (b : ℕ) → is_visible b ≡ true → is_uri_byte b ≡ true
uri_byte b h = grind (arith, nat_tests)

no_blank : (b : ℕ) → is_visible b ≡ true → is_ows b ≡ false
no_blank b h = grind (arith, nat_tests)

low : (b : ℕ) → is_visible b ≡ true → nat_lt b 128 ≡ true
low b h = grind (arith, nat_tests)

pub value_bytes : (v : List ℕ) → is_visible_text v ≡ true → AllPass is_value_byte v
value_bytes v h = all_pass is_value_byte v (implied is_visible is_value_byte value_byte v h)

pub uri_bytes : (v : List ℕ) → is_visible_text v ≡ true → AllPass is_uri_byte v
uri_bytes v h = all_pass is_uri_byte v (implied is_visible is_uri_byte uri_byte v h)

all_low : (v : List ℕ) → is_visible_text v ≡ true → All (λ b. b < 128) v
all_low [] h = All-nil (λ b. b < 128)
all_low (b ∷ v) h =
    let parts = both (is_visible b) (is_visible_text v) h in
    let small : b < 128 = (let t = low b parts.0 in grind (arith, nat_tests)) in
    All-cons (λ x. x < 128) b v small (all_low v parts.1)

byte : (b : ℕ) → is_visible b ≡ true → nat_lt b 256 ≡ true
byte b h = grind (arith, nat_tests)

pub visible_bytes : (v : List ℕ) → is_visible_text v ≡ true → All IsByte v
visible_bytes [] h = All-nil IsByte
visible_bytes (b ∷ v) h =
    let parts = both (is_visible b) (is_visible_text v) h in
    let small : b < 256 = (let t = byte b parts.0 in grind (arith, nat_tests)) in
    All-cons IsByte b v small (visible_bytes v parts.1)

pub visible_ascii : (v : List ℕ) → is_visible_text v ≡ true → IsAscii v
visible_ascii v h = IsAscii-from_all v (all_low v h)

pub visible_utf8 : (v : List ℕ) → is_visible_text v ≡ true → IsUtf8 v
visible_utf8 v h = IsUtf8-from_ascii v (visible_ascii v h)

skips_none : (v : List ℕ) → is_visible_text v ≡ true → skip_ows v ≡ v
skips_none [] h = refl
skips_none (b ∷ v) h = cond-false _ _ _ (no_blank b (both (is_visible b) (is_visible_text v) h).0)

true-&& : (a b : Bool) → a ≡ true → b ≡ true → (a && b) ≡ true
true-&& true b h k = k
true-&& false b h k = cc

pub joined_visible : (v w : List ℕ) → is_visible_text v ≡ true → is_visible_text w ≡ true → is_visible_text (v ++ w) ≡ true
joined_visible v w h k = list_all-append is_visible v w ∙ true-&& (is_visible_text v) (is_visible_text w) h k

reversed_visible : (v : List ℕ) → is_visible_text v ≡ true → is_visible_text (reverse v) ≡ true
reversed_visible [] h = refl
reversed_visible (b ∷ v) h =
    let parts = both (is_visible b) (is_visible_text v) h in
    ap is_visible_text (reverse-append (b ∷ []) v)
    ∙ joined_visible (reverse v) (b ∷ []) (reversed_visible v parts.1) (true-&& (is_visible b) true parts.0 refl)

-- a visible value comes back from behind a space
pub trimmed : (v : List ℕ) → is_visible_text v ≡ true → trim_ows (32 ∷ v) ≡ v
trimmed v h = trim_ows_space v (skips_none v h) (skips_none (reverse v) (reversed_visible v h))

skips_none_before : (v w : List ℕ) → 0 < length v → is_visible_text v ≡ true → skip_ows (v ++ w) ≡ v ++ w
skips_none_before [] w some h = absurd (omega (arith, some))
skips_none_before (b ∷ v) w some h = cond-false _ _ _ (no_blank b (both (is_visible b) (is_visible_text v) h).0)

pub trimmed_bearer : (token : List ℕ) → 0 < length token → is_visible_text token ≡ true → trim_ows (32 ∷ (codes "Bearer " ++ token)) ≡ codes "Bearer " ++ token
trimmed_bearer token some h =
    let turned : reverse (codes "Bearer " ++ token) ≡ reverse token ++ reverse (codes "Bearer ") = reverse-append (codes "Bearer ") token in
    let back : skip_ows (reverse token ++ reverse (codes "Bearer ")) ≡ reverse token ++ reverse (codes "Bearer ") =
    skips_none_before (reverse token) (reverse (codes "Bearer ")) (omega (arith, length-reverse token, some)) (reversed_visible token h) in
    trim_ows_space (codes "Bearer " ++ token) refl (ap skip_ows turned ∙ back ∙ sym turned)

pub bearer_bytes : (token : List ℕ) → is_visible_text token ≡ true → AllPass is_value_byte (codes "Bearer " ++ token)
bearer_bytes token h =
    all_pass is_value_byte (codes "Bearer " ++ token)
    (list_all-append is_value_byte (codes "Bearer ") token ∙ true-&& (list_all is_value_byte (codes "Bearer ")) (list_all is_value_byte token) refl (implied is_visible is_value_byte value_byte token h))

-- ---- digits and hosts

digit_is : (c : ℕ) → digit_value c < 10 → is_ascii_digit c ≡ true
digit_is c h = let range = digit_from_value c h in grind (arith, nat_tests)

digits_are : (ds : List ℕ) → AllDigits 10 ds → list_all is_ascii_digit ds ≡ true
digits_are [] all = refl
digits_are (d ∷ ds) all = true-&& (is_ascii_digit d) (list_all is_ascii_digit ds) (digit_is d all.0) (digits_are ds all.1)

pub decimal_digits : (n : ℕ) → n < 2 ^ 64 → list_all is_ascii_digit (decimal n) ≡ true
decimal_digits n small = digits_are (decimal n) (decimal_is_IsNumeral n small).0.1

digit_visible : (c : ℕ) → is_ascii_digit c ≡ true → is_visible c ≡ true
digit_visible c h = grind (arith, nat_tests)

pub decimal_visible : (n : ℕ) → n < 2 ^ 64 → is_visible_text (decimal n) ≡ true
decimal_visible n small = implied is_ascii_digit is_visible digit_visible (decimal n) (decimal_digits n small)

host_byte_visible : (c : ℕ) → is_host_byte c ≡ true → is_visible c ≡ true
host_byte_visible c h = grind (arith, nat_tests)

host_visible : (host : List ℕ) → is_host host ≡ true → is_visible_text host ≡ true
host_visible host h = implied is_host_byte is_visible host_byte_visible host (both (nat_le 1 (length host)) (list_all is_host_byte host) h).1

port_small : (port : ℕ) → is_port port ≡ true → port < 2 ^ 64
port_small port is = let last = (both (nat_le 1 port) (nat_le port 65535) is).1 in grind (arith, nat_tests)

pub authority_visible : (host : List ℕ) (port : Option ℕ) → is_host host ≡ true → IfSome port (λ p. is_port p ≡ true)
    → is_visible_text (with_port host port) ≡ true
authority_visible host None is of = host_visible host is
authority_visible host (Some port) is of =
    joined_visible host (codes ":" ++ decimal port) (host_visible host is)
    (joined_visible (codes ":") (decimal port) refl (decimal_visible port (port_small port of)))

-- ---- names

digit_seen : (c : ℕ) → is_digit c ≡ true → is_visible c ≡ true
digit_seen c h = grind (arith, nat_tests)

id_seen : (c : ℕ) → is_id_byte c ≡ true → is_visible c ≡ true
id_seen c h = grind (arith, nat_tests)

id_visible : (id : List ℕ) → is_id id ≡ true → is_visible_text id ≡ true
id_visible id h = implied is_id_byte is_visible id_seen id (both (has_size 4 32 id) (list_all is_id_byte id) h).1

project_visible : (project : List ℕ) → is_project project ≡ true → is_visible_text project ≡ true
project_visible project h =
    let rest = (both (has_size 1 19 project) (list_all is_digit project && not (begins_with 48 project)) h).1 in
    implied is_digit is_visible digit_seen project (both (list_all is_digit project) (not (begins_with 48 project)) rest).0

pub audience_visible : (name : Audience) → is_audience name ≡ true → is_visible_text (audience_text name) ≡ true
audience_visible name h =
    let parts = both (is_pool_name name.pool) (is_id name.provider) h in
    let pool = both (is_project name.pool.project) (is_id name.pool.pool) parts.0 in
    let front = codes "iam.googleapis.com/projects/" in
    let middle = codes "/locations/global/workloadIdentityPools/" in
    let end = codes "/providers/" in
    joined_visible (codes "//") (pool_path name.pool ++ (end ++ name.provider)) refl
    (joined_visible (pool_path name.pool) (end ++ name.provider)
    (joined_visible front (name.pool.project ++ (middle ++ name.pool.pool)) refl
    (joined_visible name.pool.project (middle ++ name.pool.pool) (project_visible name.pool.project pool.0)
    (joined_visible middle name.pool.pool refl (id_visible name.pool.pool pool.1))))
    (joined_visible end name.provider refl (id_visible name.provider parts.1)))
