use Rattle.std.proofs.Common.{◌≡◌, ◌++◌, ◌+◌, true, false, ◌≤◌, drop, map, nat_eq, count_by, option_map, Ok}
use Rattle.cel_builtins.specs.Outcomes.{◌>>=◌, in_order}
use Rattle.cel_eval.specs.Denotation.{both, either}
use Rattle.cel_eval.specs.Denotation.{denotation, pair_denotation, each, tests, all_of, some_of, one_of, kept_of, taken_of, gathered, is_yes}
use Rattle.cel_eval.specs.Scopes.{env_of}
use Rattle.cel_eval.specs.Errors.{unless_error}
use Rattle.cel_eval.proofs.evaluator.+eval.Given as goal

abbrev pub invariant-eval_items-loop-item : goal.invariant-eval_items-loop-item
invariant-eval_items-loop-item l = record {
  value : (in_order (each (map denotation (drop l.item-index l.items)) (env_of l.scope)) >>= λ vs. Ok (l.values ++ vs)) ≡ in_order (each (map denotation l.items) (env_of l.scope));
  scope : l.scope ≡ l.fn.scope;
}

abbrev pub invariant-eval_pairs-loop-pair : goal.invariant-eval_pairs-loop-pair
invariant-eval_pairs-loop-pair l = record {
  value : (in_order (each (map pair_denotation (drop l.pair-index l.pairs)) (env_of l.scope)) >>= λ ps. Ok (l.all ++ ps)) ≡ in_order (each (map pair_denotation l.pairs) (env_of l.scope));
  scope : l.scope ≡ l.fn.scope;
}

abbrev pub invariant-holds_for_all-loop-item : goal.invariant-holds_for_all-loop-item
invariant-holds_for_all-loop-item l = record {
  value : both (unless_error l.first true) (all_of (tests l.name (denotation l.body) (env_of l.scope) (drop l.item-index l.items))) ≡ all_of (tests l.name (denotation l.body) (env_of l.scope) l.items);
  scope : l.scope ≡ l.fn.scope;
}

abbrev pub invariant-holds_for_some-loop-item : goal.invariant-holds_for_some-loop-item
invariant-holds_for_some-loop-item l = record {
  value : either (unless_error l.first false) (some_of (tests l.name (denotation l.body) (env_of l.scope) (drop l.item-index l.items))) ≡ some_of (tests l.name (denotation l.body) (env_of l.scope) l.items);
  scope : l.scope ≡ l.fn.scope;
}

abbrev pub invariant-holds_for_one-loop-item : goal.invariant-holds_for_one-loop-item
invariant-holds_for_one-loop-item l = record {
  value : (in_order (tests l.name (denotation l.body) (env_of l.scope) (drop l.item-index l.items)) >>= λ bs. Ok (nat_eq (l.count + count_by is_yes bs) 1)) ≡ one_of (tests l.name (denotation l.body) (env_of l.scope) l.items);
  count : l.count ≤ l.item-index;
  scope : l.scope ≡ l.fn.scope;
}

abbrev pub invariant-filtered-loop-item : goal.invariant-filtered-loop-item
invariant-filtered-loop-item l = record {
  value : (gathered (map (kept_of l.name (denotation l.body) (env_of l.scope)) (drop l.item-index l.items)) >>= λ vs. Ok (l.kept ++ vs)) ≡ gathered (map (kept_of l.name (denotation l.body) (env_of l.scope)) l.items);
  scope : l.scope ≡ l.fn.scope;
}

abbrev pub invariant-eval_macro-loop-item : goal.invariant-eval_macro-loop-item
invariant-eval_macro-loop-item l = record {
  value : (gathered (map (taken_of l.name (option_map denotation l.test) (denotation l.body) (env_of l.scope)) (drop l.item-index l.item-items)) >>= λ vs. Ok (l.taken ++ vs)) ≡ gathered (map (taken_of l.name (option_map denotation l.test) (denotation l.body) (env_of l.scope)) l.item-items);
  scope : l.scope ≡ l.fn.scope;
}
