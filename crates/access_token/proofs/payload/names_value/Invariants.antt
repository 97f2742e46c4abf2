use Rattle.std.proofs.Common.{◌≡◌, drop, option_map}
use Rattle.serde_json.specs.View.{view}
use Rattle.access_token.specs.Payload.{nested}
use Rattle.access_token.proofs.payload.names_value.Given as goal

abbrev pub invariant-loop-at : goal.invariant-loop-at
invariant-loop-at l = option_map view l.found ≡ nested l.member_name (drop l.at l.names)
