use Rattle.std.proofs.Common.{◌≡◌, sym, ◌∙◌, arith}
use Rattle.std.specs.Prelude.{Some}
use Rattle.client_proto.specs.Numbers.{decimal_up_to}
use Rattle.client_proto.proofs.UrlLemmas.{port_read, port_within}
use Rattle.client_proto.proofs.url_text.read_port.Goals as goal

pub overflow_cast-result : goal.overflow_cast-result
overflow_cast-result c =
    let is : decimal_up_to 65535 c.args.text.now ≡ Some c.in-Some.port = sym c.in_ok-port.ensures ∙ c.in-Some.is in
    omega (arith, port_within c.args.text.now c.in-Some.port is)

pub returns-else-port-lt1 : goal.returns-else-port-lt1
returns-else-port-lt1 c =
    let is : decimal_up_to 65535 c.args.text.now ≡ Some c.in-Some.port = sym c.in_ok-port.ensures ∙ c.in-Some.is in
    port_read c.args.text.now c.in-Some.port is c.if-port-lt1.false
