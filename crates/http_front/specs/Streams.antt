-- A stream of requests, one after another, and how it ends.
use Rattle.std.specs.Prelude.{ℕ, ◌≡◌, ◌⊎◌, true, false, List, [], ◌∷◌, ◌++◌}
use Rattle.std.specs.List.{flat_map, AllByRecursion}
use Rattle.http_front.specs.Heads.{closes}
use Rattle.http_front.specs.Messages.{Message, IsMessage, message_text, Refused}
use Rattle.http_front.specs.Rules.{IsOfNoHead}
use Rattle.http_front.specs.declared.rule.HttpRule.{HttpRule}

-- the bytes of the requests, one after another
abbrev pub stream_text : List Message → List ℕ
stream_text messages = flat_map message_text messages

-- The bytes begin with these requests, and the rest follows.
pub record StreamBegins (bytes : List ℕ) (messages : List Message) (rest : List ℕ) : Type 0 where
  pub whole : bytes ≡ stream_text messages ++ rest
  pub each : AllByRecursion IsMessage messages

-- none of them asks for a close
abbrev pub GoesOn : List Message → Type 0
GoesOn messages = AllByRecursion (λ message. closes message.head ≡ false) messages

-- how a stream of requests ends: with the bytes, behind a request that asks for a close, or at one that breaks a rule
pub data StreamEnd : Type 0 where
  nothing closed : StreamEnd
  refused : HttpRule → StreamEnd

-- the end comes behind these requests, and this rest follows them
abbrev pub EndsStream : StreamEnd → List Message → List ℕ → Type 0
EndsStream nothing messages rest = GoesOn messages × (rest ≡ [])
EndsStream closed messages rest =
    (front : List Message) × (last : Message) × (messages ≡ front ++ last ∷ []) × GoesOn front × (closes last.head ≡ true)
EndsStream (refused rule) messages rest = GoesOn messages × Refused rest rule

-- The bytes are these requests one after another, and then the end. What stands behind a close or a refused request does
-- not count.
pub record HttpSpells (bytes : List ℕ) (messages : List Message) (end : StreamEnd) : Type 0 where
  pub rest : List ℕ
  pub begins : StreamBegins bytes messages rest
  pub ends : EndsStream end messages rest

-- two ends are one, where the two rules that speak of bytes without a head count as one
abbrev pub SameEnd : StreamEnd → StreamEnd → Type 0
SameEnd end other =
    (end ≡ other)
    ⊎ ((rule : HttpRule) × (another : HttpRule) × (end ≡ refused rule) × (other ≡ refused another)
    × IsOfNoHead rule × IsOfNoHead another)
