use Rattle.std.proofs.Common.{◌≤◌, take}
use Rattle.std.specs.List.{AllByRecursion}
use Rattle.sts_serve.specs.Frames.{IsVisible}
use Rattle.sts_serve.proofs.cut.cut_word.Given as goal

abbrev pub invariant-bytes : goal.invariant-bytes
invariant-bytes l = record { visible : AllByRecursion IsVisible (take l.index l.bytes); within : l.index ≤ l.longest }
