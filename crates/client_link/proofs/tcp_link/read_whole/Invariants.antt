use Rattle.std.proofs.Common.{◌≤◌, length}
use Rattle.client_link.proofs.tcp_link.read_whole.Given as goal

abbrev pub invariant-loop : goal.invariant-loop
invariant-loop g l = length l.reply.items ≤ 65536
