-- What a payload's text says. The text is written again and compared, so the tree's reader needs no more than to find
-- the parts.
use Rattle.std.specs.Prelude.{◌≡◌, ⊤, Result, ℕ, List, Option, None, option_and_then}
use Rattle.std.specs.Str.{bytes_eq}
use Rattle.base_types.specs.Reading.{ReadsOr}
use Rattle.json_text.specs.Document.{document}
use Rattle.access_token.specs.declared.facts.Facts.{Facts}
use Rattle.access_token.specs.declared.reading.PayloadFault.{PayloadFault}
use Rattle.access_token.specs.declared.reading.PayloadFault.TheVariants.{Form, Memory}
use Rattle.access_token.specs.Parts.{formed, facts_in}
use Rattle.access_token.specs.Payload.{payload_text}

-- the facts of their forms whose payload the text is
unfoldable pub payload_facts : List ℕ → List ℕ → Option Facts
payload_facts issuer text = formed (λ facts. bytes_eq (payload_text issuer facts) text) (option_and_then facts_in (document text))

-- Form says that the payload says no facts, and want of memory says nothing.
abbrev pub RefusesPayload : PayloadFault → Option Facts → Type 0
RefusesPayload Form there = there ≡ None
RefusesPayload Memory there = ⊤

-- the facts that the payload says, or Form where it says none
abbrev pub ReadsPayload : Result Facts PayloadFault → Option Facts → Type 0
ReadsPayload result there = ReadsOr RefusesPayload (λ facts. facts) result there
