use Rattle.std.proofs.Common.{◌≡◌, ◌++◌, drop}
use Rattle.std.specs.String.{string_bytes}
use Rattle.access_token.specs.Payload.{words_text}
use Rattle.access_token.proofs.Writing.{spaced}
use Rattle.access_token.proofs.payload.words_text.Given as goal

abbrev pub invariant-loop-word : goal.invariant-loop-word
invariant-loop-word l = words_text l.words ≡ string_bytes l.text ++ spaced (drop l.word-index l.rest)
