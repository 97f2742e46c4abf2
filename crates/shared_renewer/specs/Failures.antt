-- The calls of a link whose reply is refused or bad, and their number.
use Rattle.std.specs.Prelude.{◌⊎◌, ℕ, ◌+◌, List, [], ◌∷◌, Bool, if◌then◌else◌}
use Rattle.client_link.specs.declared.target.LinkCall.{LinkCall}
use Rattle.client_link.specs.declared.target.Target.{Target}
use Rattle.client_link.specs.declared.target.Target.TheVariants.{Credential, Token, Account}
use Rattle.client_proto.specs.Subjects.{subject_in}
use Rattle.client_proto.specs.declared.config.ClientConfig.{ClientConfig}
use Rattle.renewer.specs.Leases.{IsBad, IsRefusal}
use Rattle.shared_renewer.specs.Searches.{is_failed_reply, has_no_subject}

-- the reply is a refusal, or neither that nor what was asked for, as it is read at some moment
abbrev pub IsFailed : ClientConfig → LinkCall → Type 0
IsFailed config call = (at : ℕ) × (IsRefusal call.target at call.reply ⊎ IsBad config call.target at call.reply)

-- the same as a test, by a search of the reply's bytes
unfoldable pub is_failed : ClientConfig → LinkCall → Bool
is_failed config call = by_target call.target
  where
    by_target : Target → Bool
    by_target Credential = has_no_subject (subject_in config.field call.reply)
    by_target Token = is_failed_reply Token call.reply
    by_target Account = is_failed_reply Account call.reply

-- how many of the calls have such a reply
abbrev pub failed_calls : ClientConfig → List LinkCall → ℕ
failed_calls config [] = 0
failed_calls config (call ∷ calls) = (if is_failed config call then 1 else 0) + failed_calls config calls
