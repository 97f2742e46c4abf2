use Rattle.std.proofs.Common.{◌≡◌, ◌+◌, drop}
use Rattle.std.specs.Prelude.{option_map}
use Rattle.grant_gate.specs.Decision.{words_allow}
use Rattle.grant_gate.specs.Decision.{place_failing}
use Rattle.grant_gate.proofs.deciding.unfit_words.Given as goal

abbrev pub invariant-loop-place : goal.invariant-loop-place
invariant-loop-place l =
    place_failing (words_allow l.view.content l.permission) l.scopes
    ≡ option_map (λ rest. l.place + rest) (place_failing (words_allow l.view.content l.permission) (drop l.place l.scopes))
