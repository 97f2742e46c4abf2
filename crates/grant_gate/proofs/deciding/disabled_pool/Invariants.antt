use Rattle.std.proofs.Common.{◌≡◌, ◌+◌, drop}
use Rattle.std.specs.Prelude.{option_map}
use Rattle.service_view.specs.View.{pool_enabled}
use Rattle.grant_gate.specs.Decision.{place_failing}
use Rattle.grant_gate.proofs.deciding.disabled_pool.Given as goal

abbrev pub invariant-loop-place : goal.invariant-loop-place
invariant-loop-place l =
    place_failing (pool_enabled l.view.content) l.pools
    ≡ option_map (λ rest. l.place + rest) (place_failing (pool_enabled l.view.content) (drop l.place l.pools))
