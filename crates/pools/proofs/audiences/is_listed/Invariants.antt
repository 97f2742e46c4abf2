use Rattle.std.proofs.Common.{◌≡◌, drop}
use Rattle.pools.specs.Providers.{is_listed}
use Rattle.pools.proofs.audiences.is_listed.Given as goal

abbrev pub invariant-loop-text : goal.invariant-loop-text
invariant-loop-text l = is_listed (drop l.text-index l.listed) l.audience ≡ is_listed l.listed l.audience
