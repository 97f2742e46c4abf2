use Rattle.std.proofs.Common.{◌≤◌, length, take}
use Rattle.cel_lines.specs.Lines.{HasNoFeed}
use Rattle.cel_lines.proofs.front.find_feed.Given as goal

abbrev pub invariant-bytes : goal.invariant-bytes
invariant-bytes l = record { clear : HasNoFeed (take l.index l.bytes); within : l.index ≤ length l.bytes }
