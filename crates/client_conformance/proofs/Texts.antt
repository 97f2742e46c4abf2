-- The client's requests as messages.
use Rattle.std.proofs.lemmas.Bool.Decides.{nat_tests}
use Rattle.std.proofs.lemmas.Fmt.{decimal_is_IsNumeral, decimal_nonempty, length-decimal-le}
use Rattle.std.proofs.lemmas.List.Elements.{All-nil, All-cons}
use Rattle.std.proofs.Common.{◌≡◌, ◌<◌, ◌≤◌, ◌^◌, ℕ, List, [], ◌∷◌, ◌++◌, true, false, ◌&&◌, length, nat_lt, nat_le, refl, sym, ap, ◌∙◌, arith, append_assoc, append-nil, lt-ltb}
use Rattle.std.specs.Prelude.{All, Option, None, Some, codes}
use Rattle.std.specs.List.{flat_map, list_all}
use Rattle.std.specs.Fmt.{decimal}
use Rattle.httparse.specs.Grammar.{IsToken, is_token_byte, RequestHead, print_blank, print_end, print_field, print_request, print_version, trim_ows}
use Rattle.httparse.proofs.GrammarLemmas.{print_request-append}
use Rattle.base_types.specs.Forms.{has_size, is_visible_text}
use Rattle.iam_names.specs.Forms.{begins_with}
use Rattle.iam_names.proofs.AccountLemmas.{both}
use Rattle.wif_base.specs.Routes.{route}
use Rattle.wif_base.specs.declared.route.Route.{Route}
use Rattle.wif_base.specs.declared.route.Route.TheVariants.{Token, Generate}
use Rattle.http_front.specs.Fields.{Fields, values, length_fault, length_of, is_of_type, bearer_of, asks_close}
use Rattle.http_front.specs.Heads.{IsHead, fault_of, type_of}
use Rattle.http_front.specs.Messages.{message_text}
use Rattle.client_proto.specs.Replies.{is_token}
use Rattle.client_proto.specs.Requests.{exchange_form, exchange_text, account_body, account_text, front_lines}
use Rattle.client_proto.specs.Urls.{authority_text, is_path}
use Rattle.client_proto.specs.declared.config.ClientConfig.{ClientConfig}
use Rattle.client_proto.specs.declared.config.Url.{Url}
use Rattle.client_conformance.specs.Meant.{IsRequest, LeadsTo, last_request}
use Rattle.client_conformance.proofs.Heads.{IsPlain, fields_back, head_of, is_head, plain, plain_bearer}
use Rattle.client_conformance.proofs.Visibles.{all_pass, authority_visible, decimal_digits, decimal_visible}

name_is : (name : List ℕ) → 0 < length name → list_all is_token_byte name ≡ true → IsToken name
name_is name some all = (some, all_pass is_token_byte name all)

-- ---- what the service makes of the fields

sound_size : (n : ℕ) → n ≤ 65536 → length_fault (decimal n ∷ []) ≡ None
sound_size n small =
    let wide : n < 2 ^ 64 = omega arith in
    let some : nat_lt 0 (length (decimal n)) ≡ true = lt-ltb 0 _ (decimal_nonempty n wide) in
    let fits : nat_lt 65536 n ≡ false = grind (arith, nat_tests) in
    rw (some, decimal_digits n wide, (decimal_is_IsNumeral n wide).1, fits) refl

no_fault : (path : List ℕ) (fields : Fields) (target : Route) → nat_lt 2048 (length path) ≡ false → route path ≡ Some target
    → values (codes "transfer-encoding") fields ≡ [] → length_fault (values (codes "content-length") fields) ≡ None
    → is_of_type (type_of (Some target)) (values (codes "content-type") fields) ≡ true → values (codes "content-encoding") fields ≡ []
    → fault_of (codes "POST") path fields ≡ None
unfolding fault_of
no_fault path fields target short there none size type plain = rw (short, there, none, size, type, plain) refl

-- a head that breaks no rule and the body that it announces, as a request
is_request : (path : List ℕ) (fields : Fields) (body : List ℕ) (target : Route) (token : Option (List ℕ)) (bytes : List ℕ)
    → IsHead (head_of path fields) → All IsPlain fields → fault_of (codes "POST") path fields ≡ None → route path ≡ Some target
    → bearer_of (values (codes "authorization") fields) ≡ token → asks_close (values (codes "connection") fields) ≡ true
    → length_of (values (codes "content-length") fields) ≡ length body
    → bytes ≡ print_request (head_of path fields) ++ body
    → IsRequest bytes (last_request target token body)
unfolding message_text
is_request path fields body target token bytes head all sound there bearer close size whole =
    let back = fields_back fields all in (
      record { head = head_of path fields; body = body },
      record {
        head = head;
        sound = ap (λ (l : Fields). fault_of (codes "POST") path l) back ∙ sound;
        body = sym (ap (λ (l : Fields). length_of (values (codes "content-length") l)) back ∙ size);
      },
      record {
        route = there;
        bearer = sym (ap (λ (l : Fields). bearer_of (values (codes "authorization") l)) back ∙ bearer);
        body = refl;
        close = sym (ap (λ (l : Fields). asks_close (values (codes "connection") l)) back ∙ close);
      },
      whole,
    )

-- ---- paths

path_some : (path : List ℕ) → is_path path ≡ true → 0 < length path
path_some [] h = cc
path_some (b ∷ path) h = omega arith

pub record IsGoodPath (path : List ℕ) : Type 0 where
  pub some : 0 < length path
  pub short : length path ≤ 2048
  pub fits : nat_lt 2048 (length path) ≡ false
  pub visible : is_visible_text path ≡ true

good_path : (path : List ℕ) → is_path path ≡ true → IsGoodPath path
good_path path h =
    let rest = (both (begins_with 47 path) (nat_le (length path) 2048 && is_visible_text path) h).1 in
    let parts = both (nat_le (length path) 2048) (is_visible_text path) rest in
    let size = parts.0 in
    record {
      some = path_some path h;
      short = grind (arith, nat_tests);
      fits = grind (arith, nat_tests);
      visible = parts.1;
    }

-- ---- the layout of the bytes

-- a text and a line end
abbrev ended : List ℕ → List ℕ → List ℕ
ended e text = text ++ e

laid : (post path version a x b y c z close e body : List ℕ)
    → (ended e (post ++ (path ++ version)) ++ ended e (a ++ x) ++ ended e (b ++ y) ++ ended e (c ++ z)) ++ ended e close ++ e ++ body
    ≡ post ++ (path ++ (version ++ (e ++ (((a ++ (x ++ e)) ++ ((b ++ (y ++ e)) ++ ((c ++ (z ++ e)) ++ ((close ++ e) ++ [])))) ++ (e ++ body)))))
laid post path version a x b y c z close e body = simp (append_assoc, append-nil)

laid_with : (post path version a x b y c z d w close e body : List ℕ)
    → ((ended e (post ++ (path ++ version)) ++ ended e (a ++ x) ++ ended e (b ++ y) ++ ended e (c ++ z)) ++ ended e (d ++ w)) ++ ended e close ++ e ++ body
    ≡ post ++ (path ++ (version ++ (e ++ (((a ++ (x ++ e)) ++ ((b ++ (y ++ e)) ++ ((c ++ (z ++ e)) ++ ((d ++ (w ++ e)) ++ ((close ++ e) ++ []))))) ++ (e ++ body)))))
laid_with post path version a x b y c z d w close e body = simp (append_assoc, append-nil)

abbrev crlf_text : List ℕ
crlf_text = 13 ∷ 10 ∷ []

-- the fields of an exchange
abbrev exchange_fields : List ℕ → ℕ → Fields
exchange_fields authority size =
    (codes "Host", authority) ∷ (codes "Content-Type", codes "application/x-www-form-urlencoded")
    ∷ (codes "Content-Length", decimal size) ∷ (codes "Connection", codes "close") ∷ []

-- the fields of a request for an account's token
abbrev account_fields : List ℕ → List ℕ → Fields
account_fields authority token =
    (codes "Host", authority) ∷ (codes "Content-Type", codes "application/json")
    ∷ (codes "Content-Length", decimal (length account_body)) ∷ (codes "Authorization", codes "Bearer " ++ token)
    ∷ (codes "Connection", codes "close") ∷ []

abbrev closing : Fields
closing = (codes "Connection", codes "close") ∷ []

closes_plain : All IsPlain closing
unfolding is_token_byte
closes_plain =
    All-cons IsPlain (codes "Connection", codes "close") [] (plain (codes "Connection") (codes "close") (name_is (codes "Connection") (omega arith) refl) refl) (All-nil IsPlain)

exchange_plain : (authority : List ℕ) (size : ℕ) → size < 2 ^ 64 → is_visible_text authority ≡ true → All IsPlain (exchange_fields authority size)
unfolding is_token_byte
exchange_plain authority size wide visible =
    let type = codes "application/x-www-form-urlencoded" in
    let third : Fields = (codes "Content-Length", decimal size) ∷ closing in
    let second : Fields = (codes "Content-Type", type) ∷ third in
    All-cons IsPlain (codes "Host", authority) second (plain (codes "Host") authority (name_is (codes "Host") (omega arith) refl) visible)
    (All-cons IsPlain (codes "Content-Type", type) third (plain (codes "Content-Type") type (name_is (codes "Content-Type") (omega arith) refl) refl)
    (All-cons IsPlain (codes "Content-Length", decimal size) closing
    (plain (codes "Content-Length") (decimal size) (name_is (codes "Content-Length") (omega arith) refl) (decimal_visible size wide)) closes_plain))

account_plain : (authority token : List ℕ) → is_visible_text authority ≡ true → 0 < length token → is_visible_text token ≡ true
    → All IsPlain (account_fields authority token)
unfolding is_token_byte
account_plain authority token visible some seen =
    let size = decimal (length account_body) in
    let bearer = codes "Bearer " ++ token in
    let type = codes "application/json" in
    let fourth : Fields = (codes "Authorization", bearer) ∷ closing in
    let third : Fields = (codes "Content-Length", size) ∷ fourth in
    let second : Fields = (codes "Content-Type", type) ∷ third in
    All-cons IsPlain (codes "Host", authority) second (plain (codes "Host") authority (name_is (codes "Host") (omega arith) refl) visible)
    (All-cons IsPlain (codes "Content-Type", type) third (plain (codes "Content-Type") type (name_is (codes "Content-Type") (omega arith) refl) refl)
    (All-cons IsPlain (codes "Content-Length", size) fourth (plain (codes "Content-Length") size (name_is (codes "Content-Length") (omega arith) refl) (decimal_visible (length account_body) (omega arith)))
    (All-cons IsPlain (codes "Authorization", bearer) closing (plain_bearer (codes "Authorization") token (name_is (codes "Authorization") (omega arith) refl) some seen) closes_plain)))

print_joined : (h : RequestHead) (body : List ℕ)
    → print_blank h.blank ++ (h.method ++ 32 ∷ (h.target ++ 32 ∷ (print_version h.minor ++ (print_end h.line_end ++ (flat_map print_field h.fields ++ (print_end h.last ++ body))))))
    ≡ print_request h ++ body
print_joined h body =
    ap (λ (l : List ℕ). print_blank h.blank ++ (h.method ++ 32 ∷ (h.target ++ 32 ∷ (print_version h.minor ++ (print_end h.line_end ++ l)))))
    (sym (append_assoc (flat_map print_field h.fields) (print_end h.last) body))
    ∙ sym (print_request-append h body)

form_type : is_of_type (type_of (Some Token)) (codes "application/x-www-form-urlencoded" ∷ []) ≡ true
unfolding trim_ows
form_type = refl

json_type : (account : List ℕ) → is_of_type (type_of (Some (Generate account))) (codes "application/json" ∷ []) ≡ true
unfolding trim_ows
json_type account = refl

exchange_whole : (config : ClientConfig) (subject : List ℕ) → exchange_text config subject
    ≡ print_request (head_of config.token.path (exchange_fields (authority_text config.token) (length (exchange_form config subject)))) ++ exchange_form config subject
unfolding exchange_text front_lines
exchange_whole config subject =
    let head = head_of config.token.path (exchange_fields (authority_text config.token) (length (exchange_form config subject))) in
    laid (codes "POST ") config.token.path (codes " HTTP/1.1") (codes "Host: ") (authority_text config.token)
    (codes "Content-Type: ") (codes "application/x-www-form-urlencoded") (codes "Content-Length: ") (decimal (length (exchange_form config subject)))
    (codes "Connection: close") crlf_text (exchange_form config subject)
    ∙ print_joined head (exchange_form config subject)

account_whole : (url : Url) (token : List ℕ) → account_text url token
    ≡ print_request (head_of url.path (account_fields (authority_text url) token)) ++ account_body
unfolding account_text front_lines
account_whole url token =
    let head = head_of url.path (account_fields (authority_text url) token) in
    laid_with (codes "POST ") url.path (codes " HTTP/1.1") (codes "Host: ") (authority_text url)
    (codes "Content-Type: ") (codes "application/json") (codes "Content-Length: ") (decimal (length account_body))
    (codes "Authorization: Bearer ") token
    (codes "Connection: close") crlf_text account_body
    ∙ print_joined head account_body

pub exchange_meant : (config : ClientConfig) (subject : List ℕ) → LeadsTo config.token Token → length (exchange_form config subject) ≤ 65536
    → IsRequest (exchange_text config subject) (last_request Token None (exchange_form config subject))
exchange_meant config subject leads fits =
    let form = exchange_form config subject in
    let size = length form in
    let wide : size < 2 ^ 64 = omega (arith, fits) in
    let authority = authority_text config.token in
    let fields = exchange_fields authority size in
    let path = good_path config.token.path leads.form.path in
    let all : All IsPlain fields = exchange_plain authority size wide (authority_visible config.token.host config.token.port leads.form.host leads.form.port) in
    let digits : length (decimal size) ≤ 5 = length-decimal-le 5 size (omega arith) (omega (arith, fits)) wide in
    is_request config.token.path fields form Token None (exchange_text config subject)
    (is_head config.token.path fields path.some path.visible all (omega arith) (omega (arith, path.short, leads.room, digits)))
    all
    (no_fault config.token.path fields Token path.fits leads.there refl (sound_size size fits) form_type refl)
    leads.there refl refl (decimal_is_IsNumeral size wide).1 (exchange_whole config subject)

token_text : (token : List ℕ) → is_token token ≡ true → (1 ≤ length token) × (length token ≤ 8192) × (is_visible_text token ≡ true)
token_text token h =
    let parts = both (has_size 1 8192 token) (is_visible_text token) h in
    let sizes = both (nat_le 1 (length token)) (nat_le (length token) 8192) parts.0 in
    let low = sizes.0 in
    let high = sizes.1 in
    (grind (arith, nat_tests), grind (arith, nat_tests), parts.1)

bearer_read : (token : List ℕ) → 1 ≤ length token → is_visible_text token ≡ true → bearer_of ((codes "Bearer " ++ token) ∷ []) ≡ Some token
bearer_read token some visible =
    let more : nat_lt 7 (length (codes "Bearer " ++ token)) ≡ true = lt-ltb 7 _ (omega (arith, some)) in
    rw (more, visible) refl

pub account_meant : (url : Url) (account token : List ℕ) → LeadsTo url (Generate account) → is_token token ≡ true
    → IsRequest (account_text url token) (last_request (Generate account) (Some token) account_body)
account_meant url account token leads is =
    let authority = authority_text url in
    let size = length account_body in
    let wide : size < 2 ^ 64 = omega arith in
    let digits : length (decimal size) ≤ 5 = length-decimal-le 5 size (omega arith) (omega arith) wide in
    let fields = account_fields authority token in
    let path = good_path url.path leads.form.path in
    let text = token_text token is in
    let all : All IsPlain fields = account_plain authority token (authority_visible url.host url.port leads.form.host leads.form.port) text.0 text.2 in
    is_request url.path fields account_body (Generate account) (Some token) (account_text url token)
    (is_head url.path fields path.some path.visible all (omega arith) (omega (arith, path.short, leads.room, text.1, digits)))
    all
    (no_fault url.path fields (Generate account) path.fits leads.there refl (sound_size size (omega arith)) (json_type account) refl)
    leads.there (bearer_read token text.0 text.2) refl (decimal_is_IsNumeral size wide).1 (account_whole url token)
