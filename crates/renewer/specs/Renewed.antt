-- The renewals among the calls of a link.
use Rattle.std.specs.Prelude.{◌≡◌, ◌⊎◌, ℕ, List, [], ◌∷◌, Bool, true, false, Option, None, Some, ⊤, if◌then◌else◌}
use Rattle.client_link.specs.declared.target.LinkCall.{LinkCall}
use Rattle.client_link.specs.declared.target.Target.{Target}
use Rattle.client_link.specs.declared.target.Target.TheVariants.{Credential, Token, Account}
use Rattle.client_proto.specs.Replies.{IsReading}
use Rattle.client_proto.specs.Requests.{exchange_text, account_text}
use Rattle.client_proto.specs.Subjects.{subject_in}
use Rattle.client_proto.specs.declared.config.ClientConfig.{ClientConfig}
use Rattle.client_proto.specs.declared.config.Url.{Url}
use Rattle.client_proto.specs.declared.reply.ReadReply.TheVariants as reading
use Rattle.renewer.specs.declared.renewal.Renewal.{Renewal}

-- ---- the calls of one renewal

-- The credential file was read, and has this subject token.
pub record GivesSubject (config : ClientConfig) (call : LinkCall) (subject : List ℕ) : Type 0 where
  pub target : call.target ≡ Credential
  pub request : call.request ≡ config.file
  pub reply : subject_in config.field call.reply ≡ Some subject

-- The subject token was exchanged for this access token.
pub record GivesToken (config : ClientConfig) (asked : ℕ) (subject : List ℕ) (call : LinkCall) (token : List ℕ) (exp : ℕ) : Type 0 where
  pub target : call.target ≡ Token
  pub request : call.request ≡ exchange_text config subject
  pub reply : IsReading Token asked call.reply (reading.Token token exp)

-- This token of a service account was given for the access token.
pub record GivesAccountToken (url : Url) (asked : ℕ) (access : List ℕ) (call : LinkCall) (token : List ℕ) (exp : ℕ) : Type 0 where
  pub target : call.target ≡ Account
  pub request : call.request ≡ account_text url access
  pub reply : IsReading Account asked call.reply (reading.Token token exp)

-- the calls behind the exchange: none, or the one that asks the account service, where the file names one
abbrev pub EndsRenewal : Option Url → List ℕ → ℕ → List LinkCall → Renewal → Type 0
EndsRenewal None token exp calls renewal = (calls ≡ []) × (renewal.token ≡ token) × (renewal.exp ≡ exp)
EndsRenewal (Some url) token exp calls renewal =
    (call : LinkCall) × (calls ≡ call ∷ []) × GivesAccountToken url renewal.asked token call renewal.token renewal.exp

-- These calls gave this renewal: each request is the client's, and each reply is good.
pub record IsRenewal (config : ClientConfig) (calls : List LinkCall) (renewal : Renewal) : Type 0 where
  pub credential : LinkCall
  pub exchange : LinkCall
  pub others : List LinkCall
  pub subject : List ℕ
  pub token : List ℕ
  pub exp : ℕ
  pub whole : calls ≡ credential ∷ exchange ∷ others
  pub gives_subject : GivesSubject config credential subject
  pub gives_token : GivesToken config renewal.asked subject exchange token exp
  pub ends : EndsRenewal config.account token exp others renewal

-- ---- among many calls

abbrev pub is_credential : Target → Bool
is_credential Credential = true
is_credential Token = false
is_credential Account = false

abbrev pub begins_anew : List LinkCall → Bool
begins_anew [] = false
begins_anew (call ∷ calls) = is_credential call.target

-- a call before the pieces of those behind it
abbrev pub put_before : LinkCall → List (List LinkCall) → List (List LinkCall)
put_before call [] = (call ∷ []) ∷ []
put_before call (piece ∷ pieces) = if begins_anew piece then (call ∷ []) ∷ (piece ∷ pieces) else (call ∷ piece) ∷ pieces

-- the calls, cut before each call for a credential
unfoldable pub pieces : List LinkCall → List (List LinkCall)
pieces [] = []
pieces (call ∷ calls) = put_before call (pieces calls)

-- each of the renewals was given by one of the pieces, in their order
abbrev pub AreGivenBy : ClientConfig → List (List LinkCall) → List Renewal → Type 0
AreGivenBy config pieces [] = ⊤
AreGivenBy config [] (renewal ∷ rest) = ⊥
AreGivenBy config (piece ∷ pieces) (renewal ∷ rest) =
    (IsRenewal config piece renewal × AreGivenBy config pieces rest) ⊎ AreGivenBy config pieces (renewal ∷ rest)

-- each of the renewals was given by calls among these, in their order
abbrev pub Renewed : ClientConfig → List LinkCall → List Renewal → Type 0
Renewed config calls renewals = AreGivenBy config (pieces calls) renewals
