-- The steps of a renewal: what each asked, and why it ended.
use Rattle.std.specs.Prelude.{◌≡◌, ◌≢◌, ◌≤◌, ℕ, List, [], ◌∷◌, Result, Ok, Err, ⊤}
use Rattle.std.specs.List.{AllByRecursion}
use Rattle.wif_base.specs.Causes.{Rose}
use Rattle.client_link.specs.declared.target.LinkCall.{LinkCall}
use Rattle.client_link.specs.declared.target.Target.{Target}
use Rattle.client_link.specs.declared.target.Target.TheVariants.{Credential}
use Rattle.client_proto.specs.Replies.{IsReading}
use Rattle.client_proto.specs.declared.config.ClientConfig.{ClientConfig}
use Rattle.client_proto.specs.declared.reply.ReadReply.TheVariants as reading
use Rattle.renewer.specs.Leases.{EndsWith, IsBad, IsPiece, IsRefusal}
use Rattle.renewer.specs.Renewed.{EndsRenewal, GivesSubject, GivesToken, IsRenewal}
use Rattle.renewer.specs.declared.fault.LeaseFault.{LeaseFault}
use Rattle.renewer.specs.declared.fault.LeaseFault.TheVariants.{LinkFault, Refused, BadReply, ShortLived, Exhausted, Memory}
use Rattle.renewer.specs.declared.renewal.Given.{Given}
use Rattle.renewer.specs.declared.renewal.Renewal.{Renewal}

-- ---- why a step ended

-- why a step gave nothing
abbrev pub StopsBy : {T : Type 0} → ClientConfig → ℕ → ℕ → ℕ → Result T LeaseFault → Type 0
StopsBy config at before now (Ok given) = ⊤
StopsBy config at before now (Err LinkFault) = Rose before now
StopsBy config at before now (Err (Refused reply)) = (target : Target) × IsRefusal target at reply
StopsBy config at before now (Err (BadReply reply)) = (target : Target) × IsBad config target at reply
StopsBy config at before now (Err (ShortLived exp)) = ⊥
StopsBy config at before now (Err (Exhausted exp)) = ⊥
StopsBy config at before now (Err Memory) = ⊤

-- The count of faults never falls, and each fault has its cause.
pub record HasStopCause {T : Type 0} (config : ClientConfig) (at before now : ℕ) (result : Result T LeaseFault) : Type 0 where
  pub later : before ≤ now
  pub stopped : StopsBy config at before now result

-- why one call gave nothing
abbrev pub EndsCall : {T : Type 0} → ℕ → ℕ → Result T LeaseFault → Type 0
EndsCall before now (Ok reply) = ⊤
EndsCall before now (Err LinkFault) = Rose before now
EndsCall before now (Err (Refused reply)) = ⊥
EndsCall before now (Err (BadReply reply)) = ⊥
EndsCall before now (Err (ShortLived exp)) = ⊥
EndsCall before now (Err (Exhausted exp)) = ⊥
EndsCall before now (Err Memory) = ⊤

-- ---- what a step asked

-- The last of these calls had the reply that the fault tells.
pub record EndsByFault (config : ClientConfig) (at : ℕ) (fault : LeaseFault) (made : List LinkCall) : Type 0 where
  pub refused : (reply : List ℕ) → fault ≡ Refused reply → EndsWith made reply (λ target. IsRefusal target at reply)
  pub bad : (reply : List ℕ) → fault ≡ BadReply reply → EndsWith made reply (λ target. IsBad config target at reply)

-- each call is for a token
abbrev pub AreForTokens : List LinkCall → Type 0
AreForTokens calls = AllByRecursion (λ call. call.target ≢ Credential) calls

-- the credential
abbrev pub AsksSubject : ClientConfig → ℕ → Result (List ℕ) LeaseFault → List LinkCall → Type 0
AsksSubject config at (Ok subject) made = (call : LinkCall) × (made ≡ call ∷ []) × GivesSubject config call subject
AsksSubject config at (Err fault) made = IsPiece made × EndsByFault config at fault made

-- A service gave this.
pub record IsGiven (target : Target) (at : ℕ) (request : List ℕ) (given : Given) (call : LinkCall) : Type 0 where
  pub target_is : call.target ≡ target
  pub request_is : call.request ≡ request
  pub reply : IsReading target at call.reply (reading.Token given.token given.exp)

-- one service
abbrev pub AsksService : ClientConfig → Target → ℕ → List ℕ → Result Given LeaseFault → List LinkCall → Type 0
AsksService config target at request (Ok given) made = (call : LinkCall) × (made ≡ call ∷ []) × IsGiven target at request given call
AsksService config target at request (Err fault) made = AreForTokens made × EndsByFault config at fault made

-- the token service
abbrev pub AsksExchange : ClientConfig → ℕ → List ℕ → Result Given LeaseFault → List LinkCall → Type 0
AsksExchange config at subject (Ok given) made = (call : LinkCall) × (made ≡ call ∷ []) × GivesToken config at subject call given.token given.exp
AsksExchange config at subject (Err fault) made = AreForTokens made × EndsByFault config at fault made

-- the account service, where the file names one
abbrev pub AsksAccount : ClientConfig → ℕ → Given → Result Renewal LeaseFault → List LinkCall → Type 0
AsksAccount config at given (Ok renewal) made = EndsRenewal config.account given.token given.exp made renewal
AsksAccount config at given (Err fault) made = AreForTokens made × EndsByFault config at fault made

-- An exchange, and what was asked behind it.
pub record IsExchanged (config : ClientConfig) (at : ℕ) (subject : List ℕ) (renewal : Renewal) (made : List LinkCall) : Type 0 where
  pub exchange : LinkCall
  pub others : List LinkCall
  pub token : List ℕ
  pub exp : ℕ
  pub whole : made ≡ exchange ∷ others
  pub gives_token : GivesToken config at subject exchange token exp
  pub ends : EndsRenewal config.account token exp others renewal

-- both services
abbrev pub AsksServices : ClientConfig → ℕ → List ℕ → Result Renewal LeaseFault → List LinkCall → Type 0
AsksServices config at subject (Ok renewal) made = IsExchanged config at subject renewal made
AsksServices config at subject (Err fault) made = AreForTokens made × EndsByFault config at fault made

-- all
abbrev pub AsksRenewal : ClientConfig → ℕ → Result Renewal LeaseFault → List LinkCall → Type 0
AsksRenewal config at (Ok renewal) made = IsRenewal config made renewal
AsksRenewal config at (Err fault) made = IsPiece made × EndsByFault config at fault made
