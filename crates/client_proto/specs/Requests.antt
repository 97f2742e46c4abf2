-- The client's requests, as bytes of HTTP/1.1 (RFC 9112).
use Rattle.std.specs.Prelude.{ℕ, List, [], ◌∷◌, ◌++◌, codes, length}
use Rattle.std.specs.Fmt.{decimal}
use Rattle.form_urlencoded.specs.Form.{extend_pairs}
use Rattle.iam_names.specs.Audience.{audience_text}
use Rattle.client_proto.specs.Urls.{authority_text}
use Rattle.client_proto.specs.declared.config.ClientConfig.{ClientConfig}
use Rattle.client_proto.specs.declared.config.Url.{Url}

-- CR LF
abbrev pub line_end : List ℕ
line_end = 13 ∷ 10 ∷ []

-- a line and its end
abbrev pub line : List ℕ → List ℕ
line text = text ++ line_end

-- the request line of a POST to the URL's path
abbrev pub request_line : Url → List ℕ
request_line url = codes "POST " ++ (url.path ++ codes " HTTP/1.1")

-- the field that names the host, and the port where the URL does
abbrev pub host_line : Url → List ℕ
host_line url = codes "Host: " ++ authority_text url

-- the field of the body's type
abbrev pub type_line : List ℕ → List ℕ
type_line type = codes "Content-Type: " ++ type

-- the field of the body's length
abbrev pub length_line : ℕ → List ℕ
length_line size = codes "Content-Length: " ++ decimal size

-- the field of the bearer's token (RFC 6750, section 2.1)
abbrev pub bearer_line : List ℕ → List ℕ
bearer_line token = codes "Authorization: Bearer " ++ token

-- the lines of a request for a body of this type and size
unfoldable pub front_lines : Url → List ℕ → ℕ → List ℕ
front_lines url type size = line (request_line url) ++ line (host_line url) ++ line (type_line type) ++ line (length_line size)

-- the last field, an empty line, and the body
abbrev pub closed_by : List ℕ → List ℕ → List ℕ
closed_by front body = front ++ line (codes "Connection: close") ++ line_end ++ body

-- the parameters of a token exchange (RFC 8693, section 2.1): a subject token for an access token of every permission
unfoldable pub exchange_form : ClientConfig → List ℕ → List ℕ
exchange_form config subject = extend_pairs [] (
    (codes "audience", audience_text config.audience)
    ∷ (codes "grant_type", codes "urn:ietf:params:oauth:grant-type:token-exchange")
    ∷ (codes "requested_token_type", codes "urn:ietf:params:oauth:token-type:access_token")
    ∷ (codes "scope", codes "https://www.googleapis.com/auth/cloud-platform")
    ∷ (codes "subject_token", subject)
    ∷ (codes "subject_token_type", config.token_type) ∷ [])

-- the request for an access token
unfoldable pub exchange_text : ClientConfig → List ℕ → List ℕ
exchange_text config subject =
    let body = exchange_form config subject in
    closed_by (front_lines config.token (codes "application/x-www-form-urlencoded") (length body)) body

-- one hour, every permission
abbrev pub account_body : List ℕ
account_body = codes "{\"lifetime\":\"3600s\",\"scope\":[\"https://www.googleapis.com/auth/cloud-platform\"]}"

-- the request for a token of a service account, by an access token (RFC 6750, section 2.1)
unfoldable pub account_text : Url → List ℕ → List ℕ
account_text url token =
    closed_by (front_lines url (codes "application/json") (length account_body) ++ line (bearer_line token)) account_body
