use Rattle.std.proofs.Common.{◌≡◌, ◌≤◌, drop, false}
use Rattle.cel_grammar.specs.Machine.{start}
use Rattle.cel_grammar.specs.Faults.{head, kinds}
use Rattle.cel_grammar.specs.Walk.{walk}
use Rattle.cel_grammar.specs.Ready.{IsReadyFor}
use Rattle.cel_grammar.specs.Places.{state_of}
use Rattle.cel_grammar.proofs.Signs.{signs}
use Rattle.cel_grammar.proofs.parser.read.Given as goal

abbrev pub invariant-tokens : goal.invariant-tokens
invariant-tokens l = record {
  same : walk (kinds (drop l.at l.lexemes)) (state_of l.place l.frames) l.signed l.at l.deep ≡ walk (kinds l.lexemes) start false 0 0;
  ready : IsReadyFor (state_of l.place l.frames) (head (kinds (drop l.at l.lexemes)));
  sign : l.signed ≡ signs (state_of l.place l.frames);
  bound : l.deep ≤ l.at;
}
