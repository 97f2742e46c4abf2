-- The client's file, of the kind `external_account`: the client that it says, or the first member that isn't of its form.
use Rattle.std.specs.Prelude.{◌⊎◌, ◌≡◌, ℕ, List, codes, Bool, ◌||◌, Option, None, Some, option_map, option_and_then, Result, Ok, Err, if◌then◌else◌, nat_eq}
use Rattle.std.specs.List.{starts_with}
use Rattle.std.specs.Str.{bytes_eq}
use Rattle.serde_json.specs.Data.{Data}
use Rattle.serde_json.specs.Find.{get, as_object, as_str}
use Rattle.base_types.specs.Steps.{◌>>=◌, needed}
use Rattle.json_text.specs.Document.{document, text_at}
use Rattle.json_text.specs.Members.{name_at}
use Rattle.iam_names.specs.Audience.{audience_of}
use Rattle.client_proto.specs.Urls.{url_of}
use Rattle.client_proto.specs.declared.config.ClientConfig.{ClientConfig}
use Rattle.client_proto.specs.declared.config.Sources.{Sources}
use Rattle.client_proto.specs.declared.config.Url.{Url}
use Rattle.client_proto.specs.declared.fault.ClientMember.{ClientMember}
use Rattle.client_proto.specs.declared.fault.ClientMember.TheVariants.{FileType, Audience, SubjectTokenType, TokenUrl, CredentialSource, ImpersonationUrl}
use Rattle.client_proto.specs.declared.fault.ConfigFault.{ConfigFault}
use Rattle.client_proto.specs.declared.fault.ConfigFault.TheVariants.{Json, Field, Tls, Memory}

-- the name of a member in the object
abbrev pub member_name : ClientMember → List ℕ
member_name FileType = codes "type"
member_name Audience = codes "audience"
member_name SubjectTokenType = codes "subject_token_type"
member_name TokenUrl = codes "token_url"
member_name CredentialSource = codes "credential_source"
member_name ImpersonationUrl = codes "service_account_impersonation_url"

-- the only kind of file that is taken
abbrev pub is_kind : List ℕ → Bool
is_kind text = bytes_eq text (codes "external_account")

-- the types of a subject token that is a JWT (RFC 8693, section 3)
abbrev pub is_token_type : List ℕ → Bool
is_token_type text =
    bytes_eq text (codes "urn:ietf:params:oauth:token-type:jwt") || bytes_eq text (codes "urn:ietf:params:oauth:token-type:id_token")

-- the URL of a member; one of TLS is told apart from what is none
abbrev pub url_in : ClientMember → List ℕ → Result Url ConfigFault
url_in member text = if starts_with nat_eq text (codes "https:") then Err (Tls member) else needed (Field member) (url_of text)

-- a text that is a URL
abbrev pub url_member : ClientMember → Data → Result Url ConfigFault
url_member member d = needed (Field member) (as_str d) >>= url_in member

-- the URL of the token service
abbrev pub needed_url : ClientMember → Option Data → Result Url ConfigFault
needed_url member None = Err (Field member)
needed_url member (Some d) = url_member member d

-- the URL of the account service, where there is one
abbrev pub optional_url : ClientMember → Option Data → Result (Option Url) ConfigFault
optional_url member None = Ok None
optional_url member (Some d) = url_member member d >>= (λ url. Ok (Some url))

-- the member of the subject token in a file of this format; none in a file that is the token itself
abbrev pub field_as : List ℕ → Data → Option (Option (List ℕ))
field_as type d =
    if bytes_eq type (codes "text") then Some None
    else (if bytes_eq type (codes "json") then option_map Some (text_at (codes "subject_token_field_name") d) else None)

-- a format that isn't told is `text`
abbrev pub field_of : Option Data → Option (Option (List ℕ))
field_of None = Some None
field_of (Some d) = option_and_then (λ type. field_as type d) (text_at (codes "type") d)

-- where the subject token is: the name of a file, and its member there
abbrev pub source_of : Data → Option (List ℕ × Option (List ℕ))
source_of d = option_and_then (λ file. option_map (λ field. (file, field)) (field_of (get (codes "format") d))) (text_at (codes "file") d)

-- where the tokens are asked for
unfoldable pub sources_of : Data → Result Sources ConfigFault
sources_of d = do
  token ← needed_url TokenUrl (get (codes "token_url") d)
  source ← needed (Field CredentialSource) (option_and_then source_of (get (codes "credential_source") d))
  account ← optional_url ImpersonationUrl (get (codes "service_account_impersonation_url") d)
  Ok (record { token = token; file = source.0; field = source.1; account = account })

-- the members in their order
unfoldable pub config_of : Data → Result ClientConfig ConfigFault
config_of d = do
  members ← needed Json (as_object d)
  kind ← needed (Field FileType) (name_at is_kind (codes "type") d)
  audience ← needed (Field Audience) (option_and_then audience_of (text_at (codes "audience") d))
  token_type ← needed (Field SubjectTokenType) (name_at is_token_type (codes "subject_token_type") d)
  at ← sources_of d
  Ok (record { audience = audience; token_type = token_type; token = at.token; file = at.file; field = at.field; account = at.account })

-- the client that a file says
unfoldable pub client_of : List ℕ → Result ClientConfig ConfigFault
client_of bytes = needed Json (document bytes) >>= config_of

-- what there is, or want of memory
abbrev pub Gives : {X : Type 0} → Result X ConfigFault → Result X ConfigFault → Type 0
Gives result there = (result ≡ there) ⊎ (result ≡ Err Memory)
