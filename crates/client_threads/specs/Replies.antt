-- What a held link replies.
use Rattle.std.specs.Prelude.{ℕ, List, Option, Some, None}
use Rattle.client_link.specs.declared.target.Target.{Target}
use Rattle.client_link.specs.declared.target.Target.TheVariants.{Credential, Token, Account}

-- the subject token for a credential, the reply of its token service, and no account service
abbrev pub held_reply : List ℕ → List ℕ → Target → Option (List ℕ)
held_reply subject reply Credential = Some subject
held_reply subject reply Token = Some reply
held_reply subject reply Account = None
