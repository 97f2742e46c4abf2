-- What a call for a lease answers, and what it asked.
use Rattle.std.specs.Prelude.{◌≡◌, ◌≢◌, ◌<◌, ◌≤◌, ◌⊎◌, ℕ, ◌+◌, List, [], ◌∷◌, ◌++◌, length, slice_get, Option, None, Some, Result, Ok, Err, ⊤}
use Rattle.std.specs.List.{AllByRecursion}
use Rattle.client_link.specs.declared.target.LinkCall.{LinkCall}
use Rattle.client_link.specs.declared.target.Target.{Target}
use Rattle.client_link.specs.declared.target.Target.TheVariants.{Credential}
use Rattle.client_proto.specs.Replies.{IsReading}
use Rattle.client_proto.specs.Subjects.{subject_in}
use Rattle.client_proto.specs.declared.config.ClientConfig.{ClientConfig}
use Rattle.client_proto.specs.declared.reply.ReadReply.TheVariants as reading
use Rattle.renewer.specs.Histories.{CoversAt, IsUncovered, newest}
use Rattle.renewer.specs.Renewed.{IsRenewal}
use Rattle.renewer.specs.declared.fault.LeaseFault.{LeaseFault}
use Rattle.renewer.specs.declared.fault.LeaseFault.TheVariants.{LinkFault, Refused, BadReply, ShortLived, Exhausted, Memory}
use Rattle.renewer.specs.declared.renewal.Lease.{Lease}
use Rattle.renewer.specs.declared.renewal.Renewal.{Renewal}

-- The lease is the newest renewal, by its place. It ends after the moment, and covers it or was asked at it.
pub record IsLeased (margin at : ℕ) (history : List Renewal) (lease : Lease) : Type 0 where
  pub renewal : Renewal
  pub there : slice_get history lease.index ≡ Some renewal
  pub last : lease.index + 1 ≡ length history
  pub token : lease.token ≡ renewal.token
  pub exp : lease.exp ≡ renewal.exp
  pub ends : at < lease.exp
  pub good : CoversAt renewal margin at ⊎ (renewal.asked ≡ at)

-- ---- faults

-- a service's reply is a refusal
abbrev pub IsRefusal : Target → ℕ → List ℕ → Type 0
IsRefusal target at reply = (target ≢ Credential) × ((status : ℕ) × IsReading target at reply (reading.Refused status))

-- the file has no subject token, or a service's reply is neither a token nor a refusal
abbrev pub IsBad : ClientConfig → Target → ℕ → List ℕ → Type 0
IsBad config target at reply =
    ((target ≡ Credential) × (subject_in config.field reply ≡ None)) ⊎ ((target ≢ Credential) × IsReading target at reply reading.Bad)

-- behind each fault the history is as before; a renewal that is over at once is recorded
abbrev pub FaultLeaves : ℕ → List Renewal → List Renewal → LeaseFault → Type 0
FaultLeaves at old new LinkFault = new ≡ old
FaultLeaves at old new (Refused reply) = new ≡ old
FaultLeaves at old new (BadReply reply) = new ≡ old
FaultLeaves at old new (ShortLived exp) = (renewal : Renewal) × (new ≡ old ++ renewal ∷ []) × (renewal.exp ≡ exp) × (exp ≤ at)
FaultLeaves at old new (Exhausted exp) = new ≡ old
FaultLeaves at old new Memory = new ≡ old

-- what was given is recorded, and leased where it ends after the moment; at want of memory it isn't recorded
abbrev pub IsRecorded : ℕ → List Renewal → List Renewal → Renewal → Result Lease LeaseFault → Type 0
IsRecorded at old new renewal (Ok lease) =
    (new ≡ old ++ renewal ∷ []) × (at < renewal.exp) × (lease ≡ record { index = length old; token = renewal.token; exp = renewal.exp })
IsRecorded at old new renewal (Err LinkFault) = ⊥
IsRecorded at old new renewal (Err (Refused reply)) = ⊥
IsRecorded at old new renewal (Err (BadReply reply)) = ⊥
IsRecorded at old new renewal (Err (ShortLived exp)) = (new ≡ old ++ renewal ∷ []) × (exp ≡ renewal.exp) × (exp ≤ at)
IsRecorded at old new renewal (Err (Exhausted exp)) = ⊥
IsRecorded at old new renewal (Err Memory) = new ≡ old

-- there are 10,000 renewals, and the newest, with this end, doesn't cover the moment
abbrev pub IsExhausted : ℕ → ℕ → List Renewal → ℕ → Type 0
IsExhausted margin at history exp =
    (length history ≡ 10_000) × ((renewal : Renewal) × (newest history ≡ Some renewal) × (renewal.exp ≡ exp) × (exp ≤ at + margin))

-- ---- what was asked

-- told calls go on by some that are so
abbrev pub TellsMore : Option (List LinkCall) → Option (List LinkCall) → (List LinkCall → Type 0) → Type 0
TellsMore None new AreSo = ⊤
TellsMore (Some calls) None AreSo = ⊥
TellsMore (Some calls) (Some now) AreSo = (made : List LinkCall) × (now ≡ calls ++ made) × AreSo made

-- no calls, or one for a credential and others for tokens behind it
abbrev pub IsPiece : List LinkCall → Type 0
IsPiece [] = ⊤
IsPiece (call ∷ calls) = (call.target ≡ Credential) × AllByRecursion (λ other. other.target ≢ Credential) calls

-- the last call had this reply, and it is so
abbrev pub EndsWith : List LinkCall → List ℕ → (Target → Type 0) → Type 0
EndsWith made reply IsSo = (before : List LinkCall) × (call : LinkCall) × (made ≡ before ++ call ∷ []) × (call.reply ≡ reply) × IsSo call.target

-- What a call for a lease asked: nothing, or a credential first, and that only where the newest renewal doesn't cover the moment and
-- there are fewer than 10,000. What it recorded was given by these calls, and the reply that its fault has is the last.
pub record IsAsked (config : ClientConfig) (margin at : ℕ) (old new : List Renewal) (result : Result Lease LeaseFault) (made : List LinkCall) : Type 0 where
  pub piece : IsPiece made
  pub needed : (made ≡ []) ⊎ (IsUncovered margin at old × (length old < 10_000))
  pub given : (renewal : Renewal) → new ≡ old ++ renewal ∷ [] → IsRenewal config made renewal
  pub refused : (reply : List ℕ) → result ≡ Err (Refused reply) → EndsWith made reply (λ target. IsRefusal target at reply)
  pub bad : (reply : List ℕ) → result ≡ Err (BadReply reply) → EndsWith made reply (λ target. IsBad config target at reply)
