use Rattle.std.proofs.Common.{◌≡◌, drop}
use Rattle.cel_builtins.specs.Texts.{has_no_brace}
use Rattle.cel_builtins.proofs.templates.has_no_brace.Given as goal

abbrev pub invariant-loop-b : goal.invariant-loop-b
invariant-loop-b l = has_no_brace (drop l.b-index l.text) ≡ has_no_brace l.text
