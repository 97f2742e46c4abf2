-- Requests as bytes: a head that breaks no rule, and the body that it announces.
use Rattle.std.specs.Prelude.{ℕ, ◌≡◌, ◌≢◌, ◌<◌, ◌⊎◌, List, [], ◌++◌, length, None, Some}
use Rattle.httparse.specs.Grammar.{RequestHead, print_request}
use Rattle.wif_base.specs.Routes.{route}
use Rattle.http_front.specs.Heads.{IsHead, fault, body_length, bearer, closes}
use Rattle.http_front.specs.Rules.{IsOfNoHead}
use Rattle.http_front.specs.declared.incoming.Incoming.{Incoming}
use Rattle.http_front.specs.declared.rule.HttpRule.{HttpRule}
use Rattle.http_front.specs.declared.rule.HttpRule.TheVariants.{H11}

-- a head, and the body behind it
pub record Message : Type 0 where
  pub head : RequestHead
  pub body : List ℕ

-- A request that breaks no rule.
pub record IsMessage (message : Message) : Type 0 where
  pub head : IsHead message.head
  pub sound : fault message.head ≡ None
  pub body : length message.body ≡ body_length message.head

-- its bytes: the head, and the body behind it
unfoldable pub message_text : Message → List ℕ
message_text message = print_request message.head ++ message.body

-- What the message asks for.
pub record Asks (message : Message) (incoming : Incoming) : Type 0 where
  pub route : route message.head.target ≡ Some incoming.request.route
  pub bearer : incoming.request.bearer ≡ bearer message.head
  pub body : incoming.request.body ≡ message.body
  pub close : incoming.close ≡ closes message.head

-- ---- where no request stands

-- the bytes do not begin with a head
abbrev pub NoHead : List ℕ → Type 0
NoHead bytes = (head : RequestHead) (more : List ℕ) → IsHead head → bytes ≡ print_request head ++ more → ⊥

-- nor do they, however they go on
abbrev pub NeverHead : List ℕ → Type 0
NeverHead bytes = (more : List ℕ) → NoHead (bytes ++ more)

-- The bytes begin with a head, and what follows is behind it.
pub record Begins (bytes : List ℕ) (head : RequestHead) (behind : List ℕ) : Type 0 where
  pub is : IsHead head
  pub whole : bytes ≡ print_request head ++ behind

-- a head that breaks this rule first stands at the front
abbrev pub BreaksRule : List ℕ → HttpRule → Type 0
BreaksRule bytes rule = (head : RequestHead) × (behind : List ℕ) × Begins bytes head behind × (fault head ≡ Some rule)

-- no head stands at the front, and there is room for one
abbrev pub LacksHead : List ℕ → Type 0
LacksHead bytes = NoHead bytes × (length bytes < 16384)

-- a head that breaks no rule stands at the front, and its body is not whole
abbrev pub LacksBody : List ℕ → Type 0
LacksBody bytes =
    (head : RequestHead) × (behind : List ℕ) × Begins bytes head behind × (fault head ≡ None) × (length behind < body_length head)

-- The bytes, to their end, are refused by this rule: there are bytes and no head, or a head breaks the rule, or its body
-- is not whole.
abbrev pub Refused : List ℕ → HttpRule → Type 0
Refused bytes rule =
    ((bytes ≢ []) × NoHead bytes × IsOfNoHead rule)
    ⊎ (BreaksRule bytes rule ⊎ (LacksBody bytes × (rule ≡ H11)))

-- the front of a request, or nothing
abbrev pub IsPart : List ℕ → Type 0
IsPart bytes = LacksHead bytes ⊎ LacksBody bytes
