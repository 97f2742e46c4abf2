use Rattle.std.proofs.Common.{◌≡◌, drop}
use Rattle.std.specs.List.{list_any}
use Rattle.pools.specs.Providers.{is_one_of}
use Rattle.pools.proofs.audiences.is_any_of.Given as goal

abbrev pub invariant-loop-audience : goal.invariant-loop-audience
invariant-loop-audience l = list_any (is_one_of l.one l.other) (drop l.audience-index l.audiences) ≡ list_any (is_one_of l.one l.other) l.audiences
