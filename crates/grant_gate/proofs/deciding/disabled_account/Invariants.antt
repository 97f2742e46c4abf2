use Rattle.std.proofs.Common.{◌≡◌, ◌+◌, drop}
use Rattle.std.specs.Prelude.{option_map}
use Rattle.service_view.specs.View.{account_enabled}
use Rattle.grant_gate.specs.Decision.{place_failing}
use Rattle.grant_gate.proofs.deciding.disabled_account.Given as goal

abbrev pub invariant-loop-place : goal.invariant-loop-place
invariant-loop-place l =
    place_failing (account_enabled l.view.content) l.accounts
    ≡ option_map (λ rest. l.place + rest) (place_failing (account_enabled l.view.content) (drop l.place l.accounts))
