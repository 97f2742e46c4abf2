use Rattle.std.proofs.Common.{◌≡◌, drop}
use Rattle.cel_builtins.specs.Texts.{continues_name}
use Rattle.cel_builtins.proofs.templates.continues_name.Given as goal

abbrev pub invariant-loop-b : goal.invariant-loop-b
invariant-loop-b l = continues_name (drop l.b-index l.text) ≡ continues_name l.text
