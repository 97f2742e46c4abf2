use Rattle.std.proofs.Common.{◌≡◌, drop}
use Rattle.std.specs.List.{list_all}
use Rattle.boundary.specs.Allowing.{boundary_allows}
use Rattle.links.proofs.authority.bounds_allow.Given as goal

abbrev pub invariant-loop-boundary : goal.invariant-loop-boundary
invariant-loop-boundary l =
    list_all (λ boundary. boundary_allows l.view.content.lists.roles boundary l.permission l.resource l.now) (drop l.boundary-index l.bounds)
    ≡ list_all (λ boundary. boundary_allows l.view.content.lists.roles boundary l.permission l.resource l.now) l.bounds
