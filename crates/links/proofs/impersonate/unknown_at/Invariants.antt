use Rattle.std.proofs.Common.{◌≡◌, ◌+◌, drop, not}
use Rattle.std.specs.Prelude.{option_map}
use Rattle.service_view.specs.View.{account_enabled}
use Rattle.links.specs.Places.{place_of}
use Rattle.links.proofs.impersonate.unknown_at.Given as goal

abbrev pub invariant-loop-place : goal.invariant-loop-place
invariant-loop-place l =
    place_of (λ account. not (account_enabled l.view.content account)) l.accounts
    ≡ option_map (λ n. n + l.place) (place_of (λ account. not (account_enabled l.view.content account)) (drop l.place l.accounts))
