use Rattle.std.proofs.Common.{◌≡◌, ◌∙◌, ap, map, take_all, arith}
use Rattle.serde_json.specs.Data.{string}
use Rattle.serde_json.specs.View.{view}
use Rattle.serde_json.proofs.Views.{view-Array}
use Rattle.access_token.specs.Payload.{words_text}
use Rattle.boundary.proofs.WrittenParts.{array_written}
use Rattle.access_token.proofs.payload.scopes_value.Goals as goal

pub returns : goal.returns
returns c =
    let all : map view c.loop-words.list.items ≡ map (λ words. string (words_text words)) c.args.scopes.now = c.loop-words.invariant ∙ ap (map (λ words. string (words_text words))) (take_all c.loop-words.words-index c.args.scopes.now (omega arith)) in
    view-Array c.loop-words.list ∙ array_written (λ words. string (words_text words)) c.loop-words.list.items c.args.scopes.now all
