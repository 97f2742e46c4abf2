use Rattle.std.proofs.Common.{◌≤◌, length, take}
use Rattle.client_top.specs.Cuts.{HasNoFeed}
use Rattle.client_top.proofs.cuts.find_feed.Given as goal

abbrev pub invariant-bytes : goal.invariant-bytes
invariant-bytes l = record { clear : HasNoFeed (take l.index l.bytes); within : l.index ≤ length l.bytes }
