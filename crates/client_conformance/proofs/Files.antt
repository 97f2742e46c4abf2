-- What a client's file says is of its forms.
use Rattle.std.proofs.Common.{◌≡◌, ℕ, List, [], Bool, true, false, ◌&&◌, Option, None, Some, Result, Ok, Err, option_and_then, refl, sym, ap, subst, ◌∙◌, codes}
use Rattle.std.specs.Prelude.{IfSome, if◌then◌else◌, nat_eq}
use Rattle.std.specs.List.{starts_with}
use Rattle.std.proofs.lemmas.Option.{same_Some, cond_some}
use Rattle.base_types.specs.Forms.{passing}
use Rattle.base_types.specs.Reading.{◌>>=◌}
use Rattle.base_types.specs.Steps.{needed}
use Rattle.boundary.proofs.Options.{passing-is, then-passing, bound, needed-is}
use Rattle.serde_json.specs.Data.{Data}
use Rattle.serde_json.specs.Find.{get, as_object, as_str}
use Rattle.json_text.specs.Document.{document, text_at}
use Rattle.json_text.specs.Members.{name_at}
use Rattle.iam_names.specs.Audience.{audience_of, is_audience}
use Rattle.iam_names.specs.Cuts.{after}
use Rattle.iam_names.specs.Forms.{is_id, is_project}
use Rattle.iam_names.specs.Parts.{path_parts, provider_at}
use Rattle.iam_names.specs.PoolName.{pool_of, is_pool_name}
use Rattle.iam_names.specs.declared.audience.Audience.{Audience as Provider}
use Rattle.iam_names.specs.declared.pool_name.PoolName.{PoolName}
use Rattle.client_proto.specs.ClientFile.{client_of, config_of, is_kind, is_token_type, needed_url, optional_url, source_of, sources_of, url_in, url_member}
use Rattle.client_proto.specs.Urls.{IsUrl, url_of}
use Rattle.client_proto.specs.declared.config.ClientConfig.{ClientConfig}
use Rattle.client_proto.specs.declared.config.Url.{Url}
use Rattle.client_proto.specs.declared.fault.ClientMember.{ClientMember}
use Rattle.client_proto.specs.declared.fault.ClientMember.TheVariants.{FileType, Audience, SubjectTokenType, TokenUrl, CredentialSource, ImpersonationUrl}
use Rattle.client_proto.specs.declared.fault.ConfigFault.{ConfigFault}
use Rattle.client_proto.specs.declared.fault.ConfigFault.TheVariants.{Json, Field, Tls, Memory}
use Rattle.client_proto.proofs.UrlLemmas.{url-sound}
use Rattle.client_conformance.specs.Meant.{IsNamed, HasUrls}

-- ---- a provider's name

-- what a step went on with
going : {A B P : Type 0} (f : A → Option B) (o : Option A) (y : B) → (o >>= f) ≡ Some y → ((x : A) → o ≡ Some x → f x ≡ Some y → P) → P
going f None y h k = cc
going f (Some x) y h k = k x refl h

pool_is : (project pool : List ℕ) (name : PoolName) → pool_of project pool ≡ Some name → is_pool_name name ≡ true
pool_is project pool name h =
    let told = cond_some (is_project project && is_id pool) (record { project = project; pool = pool }) name h in
    ap is_pool_name (sym told.1) ∙ told.0

provider_is : (text id : List ℕ) → provider_at text ≡ Some id → is_id id ≡ true
provider_is text id h = going (passing is_id) (after (codes "providers/") text) id h (λ found there k. (passing-is is_id found id k).1)

audience_is : (text : List ℕ) (name : Provider) → audience_of text ≡ Some name → is_audience name ≡ true
audience_is text name h =
    going _ (after (codes "//") text >>= path_parts) name h (λ path path_is h.
    going _ (pool_of path.0 path.1) name h (λ pool is_pool h.
    going _ (provider_at path.2) name h (λ provider is_provider h.
    ap is_audience (sym (same_Some _ name h)) ∙ rw (pool_is path.0 path.1 pool is_pool, provider_is path.2 provider is_provider) refl)))

-- ---- URLs

plain_is : (b : Bool) (member : ClientMember) (o : Option Url) (url : Url) → (if b then Err (Tls member) else needed (Field member) o) ≡ Ok url → o ≡ Some url
plain_is true member o url h = cc
plain_is false member o url h = needed-is (Field member) o url h

url_is : (member : ClientMember) (d : Data) (url : Url) → url_member member d ≡ Ok url → IsUrl url
url_is member d url h =
    bound (url_in member) (needed (Field member) (as_str d)) url h (λ text text_is k.
    (url-sound text url (plain_is (starts_with nat_eq text (codes "https:")) member (url_of text) url k)).url_is)

needed_is : (member : ClientMember) (o : Option Data) (url : Url) → needed_url member o ≡ Ok url → IsUrl url
needed_is member None url h = cc
needed_is member (Some d) url h = url_is member d url h

optional_is : (member : ClientMember) (o : Option Data) (there : Option Url) → optional_url member o ≡ Ok there → IfSome there IsUrl
optional_is member None there h = let none : ◌≡◌ {A = Option Url} None there = cc in subst (λ (o : Option Url). IfSome o IsUrl) none tt
optional_is member (Some d) there h =
    bound (λ (url : Url). Ok (Some url)) (url_member member d) there h (λ url is k.
    let whole : ◌≡◌ {A = Option Url} (Some url) there = cc in
    subst (λ (o : Option Url). IfSome o IsUrl) whole (url_is member d url is))

-- the URLs of both services
abbrev AreUrls : Url → Option Url → Type 0
AreUrls token account = IsUrl token × IfSome account IsUrl

same_Ok : {A E : Type 0} (x y : A) → ◌≡◌ {A = Result A E} (Ok x) (Ok y) → x ≡ y
same_Ok x y h = cc

sources_are : (d : Data) (at : _) → sources_of d ≡ Ok at → AreUrls at.token at.account
unfolding sources_of
sources_are d at h =
    bound _ (needed_url TokenUrl (get (codes "token_url") d)) at h (λ token token_is h.
    bound _ (needed (Field CredentialSource) (option_and_then source_of (get (codes "credential_source") d))) at h (λ source source_is h.
    bound _ (optional_url ImpersonationUrl (get (codes "service_account_impersonation_url") d)) at h (λ account account_is h.
    subst (λ s. AreUrls s.token s.account) (same_Ok _ at h) (
      needed_is TokenUrl (get (codes "token_url") d) token token_is,
      optional_is ImpersonationUrl (get (codes "service_account_impersonation_url") d) account account_is,
    ))))

-- ---- the file

-- what is said of a client
abbrev IsOfForms : ClientConfig → Type 0
IsOfForms config = IsNamed config × HasUrls config

config_is : (d : Data) (config : ClientConfig) → config_of d ≡ Ok config → IsOfForms config
unfolding config_of
config_is d config h =
    bound _ (needed Json (as_object d)) config h (λ members members_are h.
    bound _ (needed (Field FileType) (name_at is_kind (codes "type") d)) config h (λ kind kind_is h.
    bound _ (needed (Field Audience) (option_and_then audience_of (text_at (codes "audience") d))) config h (λ audience audience_there h.
    bound _ (needed (Field SubjectTokenType) (name_at is_token_type (codes "subject_token_type") d)) config h (λ type type_there h.
    bound _ (sources_of d) config h (λ at at_is h.
    let whole : ◌≡◌ {A = ClientConfig} (record { audience = audience; token_type = type; token = at.token; file = at.file; field = at.field; account = at.account }) config = cc in
    let named = audience_named (text_at (codes "audience") d) audience (needed-is _ _ audience audience_there) in
    let typed = (then-passing is_token_type (text_at (codes "subject_token_type") d) type (needed-is _ _ type type_there)).1 in
    let urls = sources_are d at at_is in
    subst IsOfForms whole (record { audience = named; token_type = typed }, record { token = urls.0; account = urls.1 }))))))
  where
    audience_named : (o : Option (List ℕ)) (name : Provider) → option_and_then audience_of o ≡ Some name → is_audience name ≡ true
    audience_named None name h = cc
    audience_named (Some text) name h = audience_is text name h

pub file_is : (bytes : List ℕ) (config : ClientConfig) → client_of bytes ≡ Ok config → IsOfForms config
unfolding client_of
file_is bytes config h = bound config_of (needed Json (document bytes)) config h (λ d there k. config_is d config k)
