-- An expression that has a type names no unbound name.
use Rattle.std.proofs.Common.{◌≡◌, ℕ, Bool, true, false, List, [], ◌∷◌, map, None, Some, Ok, cond, refl, sym, subst}
use Rattle.std.specs.Str.{bytes_eq}
use Rattle.cel_values.specs.declared.expr.Expr.{Expr}
use Rattle.cel_values.specs.declared.expr.MapPair.{MapPair}
use Rattle.cel_values.specs.declared.value.Value.{Value, out-Value}
use Rattle.cel_builtins.specs.declared.function.Function.{Function}
use Rattle.cel_builtins.specs.Functions.{applied}
use Rattle.cel_builtins.specs.Outcomes.{Outcome, ◌>>=◌, in_order}
use Rattle.cel_eval.specs.Denotation.{Env, lookup, or_unbound, denotation, pair_denotation, named, with_item, each, selected, presence, indexed, called, range_of, over}
use Rattle.cel_types.specs.declared.cel_type.CelType.{CelType}
use Rattle.cel_types.specs.Rules.{Decls, declared, with_variable, IsAny, Typed, null, bool, int, text, name, list, literal_map, select, has, index, call, not, neg, binary, choice, over as over_range, over_tested, AllTyped, no_items, item, PairsTyped, no_pairs, pair}
use Rattle.cel_soundness.specs.WellTyped.{BindsAll, HasNoUnbound}
use Rattle.cel_soundness.proofs.Denoted.{den_null, den_bool, den_int, den_text, den_name, den_list, den_map, den_select, den_has, den_index, den_call, den_member, den_not, den_neg, den_binary, den_choice, den_macro, den_tested}
use Rattle.cel_soundness.proofs.Bound.{IsBound, no_unbound, bound_then, AllBound, in_order_bound, applied_bound, called_bound, selected_bound, presence_bound, indexed_bound, tested_bound, binary_bound, chosen_bound, list_bound, map_bound, range_bound, over_bound}

named_bound : (n : List ℕ) (env : Env) → (v : Value) × (named n env ≡ Ok v) → IsBound (named n env)
named_bound n env h = subst IsBound (sym h.1) tt

binds_at : (b : Bool) (d : Decls) (env : Env) (m : List ℕ) (v : Value) (t u : CelType) → BindsAll d env → cond b (Some t) (declared m d) ≡ Some u
    → (w : Value) × (or_unbound (cond b (Some v) (lookup m env)) ≡ Ok w)
binds_at true d env m v t u s is = (v, refl)
binds_at false d env m v t u s is = s m u is

binds_with : (d : Decls) (env : Env) (n : List ℕ) (v : Value) (t : CelType) → BindsAll d env → BindsAll (with_variable n t d) (with_item n v env)
binds_with d env n v t s m u is = binds_at (bytes_eq m n) d env m v t u s is

pair_bound : (k o : Outcome) → IsBound k → IsBound o → IsBound {A = Value × Value} (k >>= λ x. o >>= λ y. Ok (x, y))
pair_bound k o h g = bound_then k (λ x. o >>= λ y. Ok (x, y)) h (λ x. bound_then o (λ y. Ok (x, y)) g (λ y. tt))

mutual
  bound : {d : Decls} {e : Expr} {t : CelType} → Typed IsAny d e t → (env : Env) → BindsAll d env → IsBound (denotation e env)
  bound (null p) env s = subst IsBound (sym (den_null env)) tt
  bound (bool {b = b} p) env s = subst IsBound (sym (den_bool b env)) tt
  bound (int {z = z} p) env s = subst IsBound (sym (den_int z env)) tt
  bound (text {s = x} p) env s = subst IsBound (sym (den_text x env)) tt
  bound (name {n = n} {t = t} is p) env s = subst IsBound (sym (den_name n env)) (named_bound n env (s n t is))
  bound (list {es = es} h p) env s =
      subst IsBound (sym (den_list es env)) (list_bound (in_order (each (map denotation es) env))
      (in_order_bound (each (map denotation es) env) (all_bound h env s)))
  bound (literal_map {ps = ps} h f p) env s =
      subst IsBound (sym (den_map ps env)) (map_bound (in_order (each (map pair_denotation ps) env))
      (in_order_bound (each (map pair_denotation ps) env) (pairs_bound h env s)))
  bound (select {e = e} f h k p) env s =
      subst IsBound (sym (den_select e f env)) (bound_then (denotation e env) (λ v. selected f (out-Value v)) (bound h env s)
      (λ v. selected_bound f (out-Value v)))
  bound (has {e = e} f h k p) env s =
      subst IsBound (sym (den_has e f env)) (bound_then (denotation e env) (λ v. presence f (out-Value v)) (bound h env s)
      (λ v. presence_bound f (out-Value v)))
  bound (index {e = e} {i = i} h g k p) env s =
      subst IsBound (sym (den_index e i env)) (bound_then (denotation e env) (λ v. denotation i env >>= λ w. indexed (out-Value v) (out-Value w))
      (bound h env s) (λ v.
      bound_then (denotation i env) (λ w. indexed (out-Value v) (out-Value w)) (bound g env s) (λ w. indexed_bound (out-Value v) (out-Value w))))
  bound (call None n es h is so p) env s =
      subst IsBound (sym (den_call n es env)) (bound_then (in_order (each (map denotation es) env)) (called false n)
      (in_order_bound (each (map denotation es) env) (all_bound h env s)) (called_bound false n))
  bound (call (Some e) n es h is so p) env s =
      subst IsBound (sym (den_member e n es env)) (bound_then (in_order (each (map denotation (e ∷ es)) env)) (called true n)
      (in_order_bound (each (map denotation (e ∷ es)) env) (all_bound h env s)) (called_bound true n))
  bound (not {e = e} h is p) env s =
      subst IsBound (sym (den_not e env)) (bound_then (denotation e env) (λ v. applied Function.Not (v ∷ [])) (bound h env s)
      (λ v. applied_bound Function.Not (v ∷ [])))
  bound (neg {e = e} h is p) env s =
      subst IsBound (sym (den_neg e env)) (bound_then (denotation e env) (λ v. applied Function.Neg (v ∷ [])) (bound h env s)
      (λ v. applied_bound Function.Neg (v ∷ [])))
  bound (binary {operator = operator} {a = a} {b = b} h g k p) env s =
      subst IsBound (sym (den_binary operator a b env)) (binary_bound operator (denotation a env) (denotation b env) (bound h env s) (bound g env s))
  bound (choice {c = c} {a = a} {b = b} h f g k i p) env s =
      subst IsBound (sym (den_choice c a b env)) (chosen_bound (denotation c env) (denotation a env) (denotation b env) (bound h env s) (bound g env s)
      (bound k env s))
  bound (over_range {d = d} {kind = kind} {n = n} {range = range} {p = body} {t = t} h k g i p) env s =
      subst IsBound (sym (den_macro kind range n body env))
      (bound_then (denotation range env) (λ v. range_of (out-Value v) >>= over kind n None (denotation body) env) (bound h env s) (λ v.
      bound_then (range_of (out-Value v)) (over kind n None (denotation body) env) (range_bound (out-Value v)) (λ vs.
      over_bound kind n None (denotation body) env vs (λ w. tested_bound (Ok (Value.Bool true)) tt)
      (λ w. bound g (with_item n w env) (binds_with d env n w t s)))))
  bound (over_tested {d = d} {kind = kind} {n = n} {range = range} {test = test} {p = body} {t = t} h k q f g i p) env s =
      subst IsBound (sym (den_tested kind range n test body env))
      (bound_then (denotation range env) (λ v. range_of (out-Value v) >>= over kind n (Some (denotation test)) (denotation body) env) (bound h env s) (λ v.
      bound_then (range_of (out-Value v)) (over kind n (Some (denotation test)) (denotation body) env) (range_bound (out-Value v)) (λ vs.
      over_bound kind n (Some (denotation test)) (denotation body) env vs
      (λ w. tested_bound (denotation test (with_item n w env)) (bound q (with_item n w env) (binds_with d env n w t s)))
      (λ w. bound g (with_item n w env) (binds_with d env n w t s)))))

  all_bound : {d : Decls} {es : List Expr} {ts : List CelType} → AllTyped IsAny d es ts → (env : Env) → BindsAll d env → AllBound (each (map denotation es) env)
  all_bound no_items env s = tt
  all_bound (item h hs) env s = (bound h env s, all_bound hs env s)

  pairs_bound : {d : Decls} {ps : List MapPair} {ks ts : List CelType} → PairsTyped IsAny d ps ks ts → (env : Env) → BindsAll d env
      → AllBound (each (map pair_denotation ps) env)
  pairs_bound no_pairs env s = tt
  pairs_bound (pair p h g hs) env s = (pair_bound (denotation p.key env) (denotation p.value env) (bound h env s) (bound g env s), pairs_bound hs env s)

pub names_bound : {d : Decls} {e : Expr} {t : CelType} → Typed IsAny d e t → (env : Env) → BindsAll d env → HasNoUnbound (denotation e env)
names_bound {e = e} h env s = no_unbound (denotation e env) (bound h env s)
