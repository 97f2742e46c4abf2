use Rattle.std.proofs.Common.{◌≡◌, ◌-◌, ◌++◌, option_map}
use Rattle.serde_json.specs.View.{view}
use Rattle.access_token.specs.Parts.{names_in}
use Rattle.access_token.proofs.actors.names_in.Given as goal

abbrev pub invariant-loop-depth : goal.invariant-loop-depth
invariant-loop-depth l =
    names_in l.name 8 (option_map (λ value. view value.now) l.outermost)
    ≡ option_map (λ more. l.names ++ more) (names_in l.name (8 - l._depth) (option_map (λ value. view value.now) l.left))
