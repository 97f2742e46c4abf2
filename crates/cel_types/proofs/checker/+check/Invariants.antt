use Rattle.std.proofs.Common.{◌≡◌, ◌++◌, ◌+◌, drop, map, Ok}
use Rattle.base_types.specs.Steps.{◌>>=◌}
use Rattle.cel_types.specs.Scopes.{declarations_of}
use Rattle.cel_types.specs.Typing.{typing, all_of, nodes_of}
use Rattle.cel_types.proofs.Pairs.{pair_typing}
use Rattle.cel_types.proofs.checker.+check.Given as goal

abbrev pub invariant-check_items-loop-item : goal.invariant-check_items-loop-item
invariant-check_items-loop-item l = record {
  types : (all_of (map typing (drop l.item-index l.items)) (declarations_of l.scope) l.next >>= λ ts. Ok (l.types ++ ts)) ≡ all_of (map typing l.items) (declarations_of l.scope) l.fn.next;
  nodes : l.next + nodes_of (map typing (drop l.item-index l.items)) ≡ l.fn.next + nodes_of (map typing l.items);
  scope : l.scope ≡ l.fn.scope;
}

abbrev pub invariant-check_pairs-loop-pair : goal.invariant-check_pairs-loop-pair
invariant-check_pairs-loop-pair l = record {
  types : (all_of (map pair_typing (drop l.pair-index l.pairs)) (declarations_of l.scope) l.next >>= λ ts. Ok (l.types ++ ts)) ≡ all_of (map pair_typing l.pairs) (declarations_of l.scope) l.fn.next;
  nodes : l.next + nodes_of (map pair_typing (drop l.pair-index l.pairs)) ≡ l.fn.next + nodes_of (map pair_typing l.pairs);
  scope : l.scope ≡ l.fn.scope;
}
