-- Where no node has a type with dyn in it, a well-typed expression runs well.
use Rattle.std.proofs.Common.{◌≡◌, ℕ, Bool, true, false, List, [], ◌∷◌, map, None, Some, Ok, sym, ◌∙◌, subst}
use Rattle.cel_values.specs.declared.expr.Expr.{Expr}
use Rattle.cel_values.specs.declared.expr.MapPair.{MapPair}
use Rattle.cel_values.specs.declared.value.Value.{Value, out-Value}
use Rattle.cel_builtins.specs.declared.function.Function.{Function}
use Rattle.cel_builtins.specs.Functions.{applied}
use Rattle.cel_builtins.specs.Outcomes.{Or, ◌>>=◌, in_order}
use Rattle.cel_builtins.specs.Overloads.{function_of}
use Rattle.cel_eval.specs.Denotation.{Env, denotation, pair_denotation, named, with_item, each, selected, presence, indexed, by_function, called, range_of, over}
use Rattle.cel_types.specs.declared.cel_type.CelType.{CelType}
use Rattle.cel_types.specs.declared.cel_type.CelType.TheViews as types
use Rattle.cel_types.specs.Types.{plain, fits, join, join_all, all_fit, IsPlain}
use Rattle.cel_types.specs.Rows.{function_type}
use Rattle.cel_types.specs.Rules.{Decls, Typed, null, bool, int, text, name, list, literal_map, select, has, index, call, not, neg, binary, choice, over as over_range, over_tested, AllTyped, no_items, item, PairsTyped, no_pairs, pair}
use Rattle.cel_soundness.specs.WellTyped.{of_type, Suits, RunsWell}
use Rattle.cel_soundness.proofs.Shapes.{null_typed, bool_typed, int_typed, text_typed}
use Rattle.cel_soundness.proofs.Plain.{and_left, and_right}
use Rattle.cel_soundness.proofs.Same.{joined, join_is, joined_all, plain_list, plain_map, plain_bool, plain_text, AllAre}
use Rattle.cel_soundness.proofs.Calls.{one_well, no_values}
use Rattle.cel_soundness.proofs.Denoted.{den_null, den_bool, den_int, den_text, den_name, den_list, den_map, den_select, den_has, den_index, den_call, den_member, den_not, den_neg, den_binary, den_choice, den_macro, den_tested}
use Rattle.cel_soundness.proofs.Steps.{tested_well, well_then, well_fitting, selected_well, presence_well, indexed_well, binary_well, chosen_well}
use Rattle.cel_soundness.proofs.Literals.{RunsEach, each_well, call_well, all_each, list_well, RunsPairs, pairs_well, map_well}
use Rattle.cel_soundness.proofs.Macros.{ranged, suits_with, over_well}

plain_type : {d : Decls} {e : Expr} {t : CelType} → Typed IsPlain d e t → plain t ≡ true
plain_type (null p) = p
plain_type (bool p) = p
plain_type (int p) = p
plain_type (text p) = p
plain_type (name is p) = p
plain_type (list h p) = p
plain_type (literal_map h f p) = p
plain_type (select f h k p) = p
plain_type (has f h k p) = p
plain_type (index h g k p) = p
plain_type (call target n es h f is p) = p
plain_type (not h is p) = p
plain_type (neg h is p) = p
plain_type (binary h g k p) = p
plain_type (choice h f g k i p) = p
plain_type (over_range h r g k p) = p
plain_type (over_tested h r g f k i p) = p

named_well : (n : List ℕ) (t : CelType) (env : Env) → (v : Value) × (named n env ≡ Ok v) × (of_type v t ≡ true) → RunsWell t (named n env)
named_well n t env h = subst (RunsWell t) (sym h.1) h.2

-- a call of a function by name
called_well : (member : Bool) (n : List ℕ) (f : Function) (r : Or (List Value)) (ts : List CelType) (v : CelType) → function_of member n ≡ Some f
    → plain v ≡ true → function_type f ts ≡ Some v → RunsEach ts r → RunsWell v (r >>= called member n)
called_well member n f r ts v is p so h =
    subst (λ o. RunsWell v (r >>= by_function o)) (sym is) (call_well f r ts v p so h)

mutual
  pub sound : {d : Decls} {e : Expr} {t : CelType} → Typed IsPlain d e t → (env : Env) → Suits d env → RunsWell t (denotation e env)
  sound (null p) env s = subst (RunsWell CelType.Null) (sym (den_null env)) null_typed
  sound (bool {b = b} p) env s = subst (RunsWell CelType.Bool) (sym (den_bool b env)) (bool_typed b)
  sound (int {z = z} p) env s = subst (RunsWell CelType.Int) (sym (den_int z env)) (int_typed z)
  sound (text {s = x} p) env s = subst (RunsWell CelType.Text) (sym (den_text x env)) (text_typed x)
  sound (name {n = n} {t = t} is p) env s = subst (RunsWell t) (sym (den_name n env)) (named_well n t env (s n t is))
  sound (list {es = es} {ts = ts} h p) env s =
      subst (RunsWell (types.List (join_all ts))) (sym (den_list es env)) (list_well (in_order (each (map denotation es) env)) (join_all ts)
      (all_each (in_order (each (map denotation es) env)) ts (join_all ts) (all_sound h env s) (joined_all ts (sym (plain_list (join_all ts)) ∙ p))))
  sound (literal_map {ps = ps} {ks = ks} {ts = ts} h f p) env s =
      subst (RunsWell (types.Map (join_all ts))) (sym (den_map ps env)) (map_well (in_order (each (map pair_denotation ps) env)) (join_all ts)
      (pairs_sound h (join_all ts) f (joined_all ts (sym (plain_map (join_all ts)) ∙ p)) env s))
  sound (select {e = e} {r = r} {t = t} f h k p) env s =
      subst (RunsWell t) (sym (den_select e f env)) (well_then r t (denotation e env) (λ v. selected f (out-Value v)) (sound h env s)
      (λ v i. selected_well f v r t k (plain_type h) i))
  sound (has {e = e} {r = r} {t = t} f h k p) env s =
      subst (RunsWell CelType.Bool) (sym (den_has e f env))
      (well_then r CelType.Bool (denotation e env) (λ v. presence f (out-Value v)) (sound h env s) (λ v i. presence_well f v r t k (plain_type h) i))
  sound (index {e = e} {i = i} {r = r} {u = u} {t = t} h g k p) env s =
      subst (RunsWell t) (sym (den_index e i env)) (well_then r t (denotation e env) (λ v. denotation i env >>= λ w. indexed (out-Value v) (out-Value w))
      (sound h env s) (λ v x.
      well_then u t (denotation i env) (λ w. indexed (out-Value v) (out-Value w)) (sound g env s)
      (λ w y. indexed_well v w r u t k (plain_type h) (plain_type g) x y)))
  sound (call {ts = ts} {f = f} {t = t} None n es h is so p) env s =
      subst (RunsWell t) (sym (den_call n es env)) (called_well false n f (in_order (each (map denotation es) env)) ts t is p so (all_sound h env s))
  sound (call {ts = ts} {f = f} {t = t} (Some e) n es h is so p) env s =
      subst (RunsWell t) (sym (den_member e n es env)) (called_well true n f (in_order (each (map denotation (e ∷ es)) env)) ts t is p so (all_sound h env s))
  sound (not {e = e} {t = t} {u = u} h is p) env s =
      subst (RunsWell u) (sym (den_not e env)) (well_then t u (denotation e env) (λ v. applied Function.Not (v ∷ [])) (sound h env s)
      (λ v k. one_well Function.Not v t u (plain_type h) k is))
  sound (neg {e = e} {t = t} {u = u} h is p) env s =
      subst (RunsWell u) (sym (den_neg e env)) (well_then t u (denotation e env) (λ v. applied Function.Neg (v ∷ [])) (sound h env s)
      (λ v k. one_well Function.Neg v t u (plain_type h) k is))
  sound (binary {operator = operator} {a = a} {b = b} {t = t} {u = u} {v = v} h g k p) env s =
      subst (RunsWell v) (sym (den_binary operator a b env))
      (binary_well operator (denotation a env) (denotation b env) t u v k (plain_type h) (plain_type g) p (sound h env s) (sound g env s))
  sound (choice {c = c} {a = a} {b = b} {r = r} {t = t} {u = u} h f g k i p) env s =
      subst (RunsWell (join t u)) (sym (den_choice c a b env)) (chosen_well (join t u) (denotation c env) (denotation a env) (denotation b env)
      (well_fitting r CelType.Bool (denotation c env) (plain_type h) plain_bool f (sound h env s))
      (subst (λ x. RunsWell x (denotation a env)) (sym (join_is t u p)) (sound g env s))
      (subst (λ x. RunsWell x (denotation b env)) (sym (joined t u p) ∙ sym (join_is t u p)) (sound k env s)))
  sound (over_range {d = d} {kind = kind} {n = n} {range = range} {p = body} {r = r} {t = t} {u = u} {v = v} h k g i p) env s =
      subst (RunsWell v) (sym (den_macro kind range n body env))
      (well_then r v (denotation range env) (λ x. range_of (out-Value x) >>= over kind n None (denotation body) env) (sound h env s) (λ x l.
      over_well kind n None (denotation body) env t u v (range_of (out-Value x)) i (plain_type g)
      (λ w j. tested_well (Ok (Value.Bool true)) (bool_typed true))
      (λ w j. sound g (with_item n w env) (suits_with d env n w t j s)) (ranged x r t k (plain_type h) l)))
  sound (over_tested {d = d} {kind = kind} {n = n} {range = range} {test = test} {p = body} {r = r} {t = t} {s = b} {u = u} {v = v} h k q f g i p) env s =
      subst (RunsWell v) (sym (den_tested kind range n test body env))
      (well_then r v (denotation range env) (λ x. range_of (out-Value x) >>= over kind n (Some (denotation test)) (denotation body) env) (sound h env s)
      (λ x l.
      over_well kind n (Some (denotation test)) (denotation body) env t u v (range_of (out-Value x)) i (plain_type g)
      (λ w j. tested_well (denotation test (with_item n w env))
      (well_fitting b CelType.Bool (denotation test (with_item n w env)) (plain_type q) plain_bool f
      (sound q (with_item n w env) (suits_with d env n w t j s))))
      (λ w j. sound g (with_item n w env) (suits_with d env n w t j s)) (ranged x r t k (plain_type h) l)))

  -- each part's value has its type
  all_sound : {d : Decls} {es : List Expr} {ts : List CelType} → AllTyped IsPlain d es ts → (env : Env) → Suits d env
      → RunsEach ts (in_order (each (map denotation es) env))
  all_sound no_items env s = no_values
  all_sound (item {e = e} {es = es} {t = t} {ts = ts} h hs) env s =
      each_well (denotation e env) (each (map denotation es) env) t ts (plain_type h) (sound h env s) (all_sound hs env s)

  -- each key is a text, and each value has the one type of all
  pairs_sound : {d : Decls} {ps : List MapPair} {ks ts : List CelType} → PairsTyped IsPlain d ps ks ts → (t : CelType) → all_fit CelType.Text ks ≡ true
      → AllAre t ts → (env : Env) → Suits d env → RunsPairs t (in_order (each (map pair_denotation ps) env))
  pairs_sound no_pairs t f k env s = tt
  pairs_sound (pair p {ps = ps} {k = key} {t = u} {ks = ks} h g hs) t f k env s =
      pairs_well (denotation p.key env) (denotation p.value env) (each (map pair_denotation ps) env) t
      (well_fitting key CelType.Text (denotation p.key env) (plain_type h) plain_text (and_left (fits key CelType.Text) (all_fit CelType.Text ks) f)
      (sound h env s))
      (subst (λ x. RunsWell x (denotation p.value env)) k.0 (sound g env s))
      (pairs_sound hs t (and_right (fits key CelType.Text) (all_fit CelType.Text ks) f) k.1 env s)
