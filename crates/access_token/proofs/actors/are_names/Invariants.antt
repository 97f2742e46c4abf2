use Rattle.std.proofs.Common.{◌≡◌, drop}
use Rattle.std.specs.List.{list_all}
use Rattle.access_token.specs.Forms.{is_name}
use Rattle.access_token.proofs.actors.are_names.Given as goal

abbrev pub invariant-loop-name : goal.invariant-loop-name
invariant-loop-name l = list_all is_name (drop l.name-index l.names) ≡ list_all is_name l.names
