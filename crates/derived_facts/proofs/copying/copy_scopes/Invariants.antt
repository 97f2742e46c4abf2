use Rattle.std.proofs.Common.{◌≡◌, take}
use Rattle.derived_facts.proofs.copying.copy_scopes.Given as goal

abbrev pub invariant-loop-words : goal.invariant-loop-words
invariant-loop-words l = l.copy ≡ take l.words-index l.scopes
