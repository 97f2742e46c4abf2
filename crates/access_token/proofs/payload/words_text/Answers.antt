use Rattle.std.proofs.Common.{◌≡◌, ◌∷◌, ap, ◌∙◌, rules}
use Rattle.std.specs.String.{string_bytes}
use Rattle.access_token.specs.Payload.{words_text}
use Rattle.access_token.proofs.Writing.{words_text-spaced}
use Rattle.access_token.proofs.payload.words_text.Goals as goal

pub loop-word-init : goal.loop-word-init
loop-word-init c =
    let split : c.args.words.now ≡ c.in-Some.first.now ∷ c.in-Some.rest.now = search rules in
    let first : string_bytes c.push_str.new.self ≡ c.in-Some.first.now = search rules in
    ap words_text split ∙ words_text-spaced c.in-Some.first.now c.in-Some.rest.now ∙ rw first
