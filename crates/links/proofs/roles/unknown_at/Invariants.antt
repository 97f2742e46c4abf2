use Rattle.std.proofs.Common.{◌≡◌, ◌+◌, drop}
use Rattle.std.specs.Prelude.{option_map}
use Rattle.links.specs.Licence.{has_unknown_role}
use Rattle.links.specs.Places.{place_of}
use Rattle.links.proofs.roles.unknown_at.Given as goal

abbrev pub invariant-loop-place : goal.invariant-loop-place
invariant-loop-place l =
    place_of (has_unknown_role l.state.content) l.rules ≡ option_map (λ n. n + l.place) (place_of (has_unknown_role l.state.content) (drop l.place l.rules))
