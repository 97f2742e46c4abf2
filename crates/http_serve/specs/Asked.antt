-- The requests of a connection with their moments, and the answers to them.
use Rattle.std.specs.Prelude.{ℕ, List, [], ◌∷◌, map, Option, None, Some, true}
use Rattle.wif_base.specs.Routes.{route}
use Rattle.wif_base.specs.declared.route.Route.{Route}
use Rattle.wif_base.specs.declared.request.Reply.{Reply}
use Rattle.service_config.specs.declared.config.Config.{Config}
use Rattle.links.specs.declared.entry.Entry.{Entry}
use Rattle.sts_core.specs.Machine.{Answer, step, no_entry}
use Rattle.http_front.specs.Heads.{bearer, closes}
use Rattle.http_front.specs.Messages.{Message}
use Rattle.http_front.specs.Replies.{response_text, refusal}
use Rattle.http_front.specs.declared.rule.HttpRule.{HttpRule}
use Rattle.http_front.specs.declared.rule.HttpRule.TheVariants.{H4}

-- A request, and the moment that the clock gave for it.
pub record Asked : Type 0 where
  pub message : Message
  pub at : ℕ

abbrev pub messages : List Asked → List Message
messages asked = map (λ a. a.message) asked

abbrev pub moments : List Asked → List ℕ
moments asked = map (λ a. a.at) asked

-- the machine's answer on a route; a target without one is refused
abbrev pub answer_at : Option Route → Config → List Entry → Asked → Answer
answer_at None config journal asked = no_entry (refusal H4)
answer_at (Some found) config journal asked =
    step config journal (record { route = found; bearer = bearer asked.message.head; body = asked.message.body }) asked.at

-- the answer to a request: its target's route, and the machine's answer at its moment
abbrev pub answer : Config → List Entry → Asked → Answer
answer config journal asked = answer_at (route asked.message.head.target) config journal asked

-- these replies to these requests as HTTP bytes, each of which says whether the connection ends behind it
abbrev pub response_texts : List Asked → List Reply → List (List ℕ)
response_texts [] replies = []
response_texts (a ∷ asked) [] = []
response_texts (a ∷ asked) (reply ∷ replies) = response_text reply (closes a.message.head) ∷ response_texts asked replies

-- the reply to what a rule refuses, behind which the connection ends
abbrev pub refusal_texts : Option HttpRule → List (List ℕ)
refusal_texts None = []
refusal_texts (Some rule) = response_text (refusal rule) true ∷ []
