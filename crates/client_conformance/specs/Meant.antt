-- What a client means by its requests, in the service's words.
use Rattle.std.specs.Prelude.{◌≡◌, ◌≤◌, ℕ, List, [], ◌∷◌, length, codes, true, Option, None, Some, option_and_then, IfSome}
use Rattle.base_types.specs.Rules.{first_of}
use Rattle.serde_json.specs.Data.{Data, string, object, no_members, member}
use Rattle.json_text.specs.Document.{texts_data}
use Rattle.iam_names.specs.Audience.{audience_of, is_audience}
use Rattle.wif_base.specs.Routes.{route}
use Rattle.wif_base.specs.declared.route.Route.{Route}
use Rattle.http_front.specs.Messages.{Message, IsMessage, message_text, Asks}
use Rattle.http_front.specs.declared.incoming.Incoming.{Incoming}
use Rattle.exchange_form.specs.FormRules.{form_rules, grant_type, access_token_type}
use Rattle.exchange_form.specs.Forms.{once}
use Rattle.exchange_form.specs.declared.form.Parameter.{Parameter}
use Rattle.client_proto.specs.ClientFile.{is_token_type}
use Rattle.client_proto.specs.Urls.{IsUrl, authority_text}
use Rattle.client_proto.specs.declared.config.ClientConfig.{ClientConfig}
use Rattle.client_proto.specs.declared.config.Url.{Url}

-- ---- requests

-- the bytes are one message that asks for this, and nothing behind it
abbrev pub IsRequest : List ℕ → Incoming → Type 0
IsRequest bytes incoming = (message : Message) × IsMessage message × Asks message incoming × (bytes ≡ message_text message)

-- a request behind which the connection ends
abbrev pub last_request : Route → Option (List ℕ) → List ℕ → Incoming
last_request route bearer body = record { request = record { route = route; bearer = bearer; body = body }; close = true }

-- The URL is of its form, its path leads to this route of the service, and its host leaves room in a head of 16,384 bytes.
pub record LeadsTo (url : Url) (target : Route) : Type 0 where
  pub form : IsUrl url
  pub there : route url.path ≡ Some target
  pub room : length (authority_text url) ≤ 4096

-- ---- bodies

-- the scope word of every permission
abbrev pub every_permission : List ℕ
every_permission = codes "https://www.googleapis.com/auth/cloud-platform"

-- The provider and the type of the subject token are of their forms.
pub record IsNamed (config : ClientConfig) : Type 0 where
  pub audience : is_audience config.audience ≡ true
  pub token_type : is_token_type config.token_type ≡ true

-- The URLs of the services are of their form.
pub record HasUrls (config : ClientConfig) : Type 0 where
  pub token : IsUrl config.token
  pub account : IfSome config.account IsUrl

-- The form breaks no rule and has six parameters: the exchange of this subject token, of the client's type and provider, for an access
-- token of every permission.
pub record SaysExchange (form : List Parameter) (config : ClientConfig) (subject : List ℕ) : Type 0 where
  pub six : length form ≡ 6
  pub grant : once (codes "grant_type") form ≡ Some grant_type
  pub audience : option_and_then audience_of (once (codes "audience") form) ≡ Some config.audience
  pub subject_token : once (codes "subject_token") form ≡ Some subject
  pub subject_token_type : once (codes "subject_token_type") form ≡ Some config.token_type
  pub requested : once (codes "requested_token_type") form ≡ Some access_token_type
  pub scope : once (codes "scope") form ≡ Some every_permission
  pub sound : first_of (form_rules form) ≡ None

-- one hour, and the one scope word
abbrev pub account_asked : Data
account_asked =
    object (member (codes "lifetime") (string (codes "3600s")) (
    member (codes "scope") (texts_data (every_permission ∷ [])) no_members))
