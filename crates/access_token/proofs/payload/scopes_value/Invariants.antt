use Rattle.std.proofs.Common.{◌≡◌, map, take}
use Rattle.serde_json.specs.Data.{string}
use Rattle.serde_json.specs.View.{view}
use Rattle.access_token.specs.Payload.{words_text}
use Rattle.access_token.proofs.payload.scopes_value.Given as goal

abbrev pub invariant-loop-words : goal.invariant-loop-words
invariant-loop-words l = map view l.list.items ≡ map (λ words. string (words_text words)) (take l.words-index l.scopes)
