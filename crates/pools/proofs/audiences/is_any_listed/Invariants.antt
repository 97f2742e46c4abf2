use Rattle.std.proofs.Common.{◌≡◌, drop}
use Rattle.std.specs.List.{list_any}
use Rattle.pools.specs.Providers.{is_listed}
use Rattle.pools.proofs.audiences.is_any_listed.Given as goal

abbrev pub invariant-loop-audience : goal.invariant-loop-audience
invariant-loop-audience l = list_any (is_listed l.listed) (drop l.audience-index l.audiences) ≡ list_any (is_listed l.listed) l.audiences
