-- What the folds over trees give at each form.
use Rattle.std.proofs.Common.{◌≡◌, ℕ, ℤ, Bool, List, [], ◌∷◌, ◌++◌, map, Some, None, codes, refl, sym, ap, ◌∙◌}
use Rattle.std.specs.Fmt.{signed_decimal}
use Rattle.cel_values.specs.declared.expr.BinaryOp.{BinaryOp}
use Rattle.cel_values.specs.declared.expr.MacroKind.{MacroKind}
use Rattle.cel_values.specs.declared.expr.MapPair.{MapPair}
use Rattle.cel_values.specs.declared.expr.Expr.{Expr}
use Rattle.cel_values.specs.declared.expr.Expr.TheViews as expr
use Rattle.cel_values.specs.declared.expr.Expr.TheOpen.{Expr-F}
use Rattle.cel_values.specs.declared.expr.Expr.TheFolds.{fold-roll-Expr, fold-roll-MapPair, fold-MapPair}
use Rattle.cel_values.specs.declared.expr.Expr.TheVariants as tree
use Rattle.cel_tokens.specs.declared.token.Literal.{Literal}
use Rattle.cel_tokens.specs.declared.token.Name.{Name}
use Rattle.cel_tokens.specs.Spelling.{quoted}
use Rattle.cel_grammar.specs.declared.draft.Draft.{Draft}
use Rattle.cel_grammar.specs.declared.draft.Draft.TheViews as draft
use Rattle.cel_grammar.specs.declared.draft.Draft.TheOpen.{Draft-F}
use Rattle.cel_grammar.specs.declared.draft.Draft.TheFolds.{fold-roll-Draft, fold-roll-DraftPair, fold-DraftPair}
use Rattle.cel_grammar.specs.declared.draft.Draft.TheVariants.{rolls-Literal, rolls-Int, rolls-Name, rolls-List, rolls-Map, rolls-Select, rolls-Index, rolls-Call, rolls-Method, rolls-Not, rolls-Neg, rolls-Binary, rolls-Cond}
use Rattle.cel_grammar.specs.declared.draft.DraftPair.{DraftPair}
use Rattle.cel_syntax.specs.declared.macro_faults.MacroFault.{MacroFault}
use Rattle.cel_syntax.specs.declared.macro_faults.Nesting.{Nesting}
use Rattle.cel_syntax.specs.Macros.{literal_tree, call_tree, method_tree, expand_step, expanded, pair_expanded}
use Rattle.cel_syntax.specs.Macros as macros
use Rattle.cel_syntax.specs.MacroFaults.{Seen, seen_step, seen, pair_seen}
use Rattle.cel_syntax.specs.MacroFaults as faults
use Rattle.cel_syntax.specs.Print.{pair_printed, Printed, print_step, printed, boolean, whole, integer_form, listed, texts_listed, method, at_level, call, called, macro_name, macro_items, grouped_unless, may_be_inverted, may_be_negated, printed_binary, printed_choice, inverse, negative}
use Rattle.cel_syntax.specs.Print as print

pub map_same : {A B : Type 0} (f g : A → B) → ((x : A) → f x ≡ g x) → (xs : List A) → map f xs ≡ map g xs
map_same f g h [] = refl
map_same f g h (x ∷ xs) = ap (λ y. y ∷ map f xs) (h x) ∙ ap (λ ys. g x ∷ ys) (map_same f g h xs)

-- ---- trees of ordinary calls

pub expanded-Literal : (l : Literal) → expanded (Draft.Literal l) ≡ literal_tree l
expanded-Literal l = ap expanded (sym (rolls-Literal l)) ∙ fold-roll-Draft Expr MapPair expand_step macros.pair_step (Draft-F.Literal l)

pub expanded-Int : (z : ℤ) → expanded (Draft.Int z) ≡ Expr.Int z
expanded-Int z = ap expanded (sym (rolls-Int z)) ∙ fold-roll-Draft Expr MapPair expand_step macros.pair_step (Draft-F.Int z)

pub expanded-Name : (n : Name) → expanded (Draft.Name n) ≡ Expr.Name n.text
expanded-Name n = ap expanded (sym (rolls-Name n)) ∙ fold-roll-Draft Expr MapPair expand_step macros.pair_step (Draft-F.Name n)

pub expanded-List : (es : List Draft) → expanded (draft.List es) ≡ expr.List (map expanded es)
expanded-List es = ap expanded (sym (rolls-List es)) ∙ fold-roll-Draft Expr MapPair expand_step macros.pair_step (Draft-F.List es)

pair_is_expanded : (p : DraftPair) → fold-DraftPair Expr MapPair expand_step macros.pair_step p ≡ pair_expanded p
pair_is_expanded p = fold-roll-DraftPair Expr MapPair expand_step macros.pair_step (record { key = p.key; value = p.value })

pub expanded-Map : (ps : List DraftPair) → expanded (draft.Map ps) ≡ expr.Map (map pair_expanded ps)
expanded-Map ps = ap expanded (sym (rolls-Map ps)) ∙ fold-roll-Draft Expr MapPair expand_step macros.pair_step (Draft-F.Map ps) ∙ ap (λ qs. expr.Map qs) (map_same _ pair_expanded pair_is_expanded ps)

pub expanded-Select : (e : Draft) (n : Name) → expanded (draft.Select e n) ≡ expr.Select (expanded e) n.text
expanded-Select e n = ap expanded (sym (rolls-Select e n)) ∙ fold-roll-Draft Expr MapPair expand_step macros.pair_step (Draft-F.Select e n)

pub expanded-Index : (a b : Draft) → expanded (draft.Index a b) ≡ expr.Index (expanded a) (expanded b)
expanded-Index a b = ap expanded (sym (rolls-Index a b)) ∙ fold-roll-Draft Expr MapPair expand_step macros.pair_step (Draft-F.Index a b)

pub expanded-Call : (n : Name) (es : List Draft) → expanded (draft.Call n es) ≡ call_tree n.text (map expanded es)
expanded-Call n es = ap expanded (sym (rolls-Call n es)) ∙ fold-roll-Draft Expr MapPair expand_step macros.pair_step (Draft-F.Call n es)

pub expanded-Method : (e : Draft) (n : Name) (es : List Draft) → expanded (draft.Method e n es) ≡ method_tree (expanded e) n.text (map expanded es)
expanded-Method e n es = ap expanded (sym (rolls-Method e n es)) ∙ fold-roll-Draft Expr MapPair expand_step macros.pair_step (Draft-F.Method e n es)

pub expanded-Not : (e : Draft) → expanded (draft.Not e) ≡ expr.Not (expanded e)
expanded-Not e = ap expanded (sym (rolls-Not e)) ∙ fold-roll-Draft Expr MapPair expand_step macros.pair_step (Draft-F.Not e)

pub expanded-Neg : (e : Draft) → expanded (draft.Neg e) ≡ expr.Neg (expanded e)
expanded-Neg e = ap expanded (sym (rolls-Neg e)) ∙ fold-roll-Draft Expr MapPair expand_step macros.pair_step (Draft-F.Neg e)

pub expanded-Binary : (op : BinaryOp) (a b : Draft) → expanded (draft.Binary op a b) ≡ expr.Binary op (expanded a) (expanded b)
expanded-Binary op a b = ap expanded (sym (rolls-Binary op a b)) ∙ fold-roll-Draft Expr MapPair expand_step macros.pair_step (Draft-F.Binary op a b)

pub expanded-Cond : (c a b : Draft) → expanded (draft.Cond c a b) ≡ expr.Cond (expanded c) (expanded a) (expanded b)
expanded-Cond c a b = ap expanded (sym (rolls-Cond c a b)) ∙ fold-roll-Draft Expr MapPair expand_step macros.pair_step (Draft-F.Cond c a b)

-- ---- what is seen of them

pub seen-Literal : (l : Literal) → seen (Draft.Literal l) ≡ seen_step (Draft-F.Literal l)
seen-Literal l = ap seen (sym (rolls-Literal l)) ∙ fold-roll-Draft Seen (Nesting → List MacroFault) seen_step faults.pair_step (Draft-F.Literal l)

pub seen-Int : (z : ℤ) → seen (Draft.Int z) ≡ seen_step (Draft-F.Int z)
seen-Int z = ap seen (sym (rolls-Int z)) ∙ fold-roll-Draft Seen (Nesting → List MacroFault) seen_step faults.pair_step (Draft-F.Int z)

pub seen-Name : (n : Name) → seen (Draft.Name n) ≡ seen_step (Draft-F.Name n)
seen-Name n = ap seen (sym (rolls-Name n)) ∙ fold-roll-Draft Seen (Nesting → List MacroFault) seen_step faults.pair_step (Draft-F.Name n)

pub seen-List : (es : List Draft) → seen (draft.List es) ≡ seen_step (Draft-F.List (map seen es))
seen-List es = ap seen (sym (rolls-List es)) ∙ fold-roll-Draft Seen (Nesting → List MacroFault) seen_step faults.pair_step (Draft-F.List es)

pair_is_seen : (p : DraftPair) → fold-DraftPair Seen (Nesting → List MacroFault) seen_step faults.pair_step p ≡ pair_seen p
pair_is_seen p = fold-roll-DraftPair Seen (Nesting → List MacroFault) seen_step faults.pair_step (record { key = p.key; value = p.value })

pub seen-Map : (ps : List DraftPair) → seen (draft.Map ps) ≡ seen_step (Draft-F.Map (map pair_seen ps))
seen-Map ps = ap seen (sym (rolls-Map ps)) ∙ fold-roll-Draft Seen (Nesting → List MacroFault) seen_step faults.pair_step (Draft-F.Map ps) ∙ ap (λ fs. seen_step (Draft-F.Map fs)) (map_same _ pair_seen pair_is_seen ps)

pub seen-Select : (e : Draft) (n : Name) → seen (draft.Select e n) ≡ seen_step (Draft-F.Select (seen e) n)
seen-Select e n = ap seen (sym (rolls-Select e n)) ∙ fold-roll-Draft Seen (Nesting → List MacroFault) seen_step faults.pair_step (Draft-F.Select e n)

pub seen-Index : (a b : Draft) → seen (draft.Index a b) ≡ seen_step (Draft-F.Index (seen a) (seen b))
seen-Index a b = ap seen (sym (rolls-Index a b)) ∙ fold-roll-Draft Seen (Nesting → List MacroFault) seen_step faults.pair_step (Draft-F.Index a b)

pub seen-Call : (n : Name) (es : List Draft) → seen (draft.Call n es) ≡ seen_step (Draft-F.Call n (map seen es))
seen-Call n es = ap seen (sym (rolls-Call n es)) ∙ fold-roll-Draft Seen (Nesting → List MacroFault) seen_step faults.pair_step (Draft-F.Call n es)

pub seen-Method : (e : Draft) (n : Name) (es : List Draft) → seen (draft.Method e n es) ≡ seen_step (Draft-F.Method (seen e) n (map seen es))
seen-Method e n es = ap seen (sym (rolls-Method e n es)) ∙ fold-roll-Draft Seen (Nesting → List MacroFault) seen_step faults.pair_step (Draft-F.Method e n es)

pub seen-Not : (e : Draft) → seen (draft.Not e) ≡ seen_step (Draft-F.Not (seen e))
seen-Not e = ap seen (sym (rolls-Not e)) ∙ fold-roll-Draft Seen (Nesting → List MacroFault) seen_step faults.pair_step (Draft-F.Not e)

pub seen-Neg : (e : Draft) → seen (draft.Neg e) ≡ seen_step (Draft-F.Neg (seen e))
seen-Neg e = ap seen (sym (rolls-Neg e)) ∙ fold-roll-Draft Seen (Nesting → List MacroFault) seen_step faults.pair_step (Draft-F.Neg e)

pub seen-Binary : (op : BinaryOp) (a b : Draft) → seen (draft.Binary op a b) ≡ seen_step (Draft-F.Binary op (seen a) (seen b))
seen-Binary op a b = ap seen (sym (rolls-Binary op a b)) ∙ fold-roll-Draft Seen (Nesting → List MacroFault) seen_step faults.pair_step (Draft-F.Binary op a b)

pub seen-Cond : (c a b : Draft) → seen (draft.Cond c a b) ≡ seen_step (Draft-F.Cond (seen c) (seen a) (seen b))
seen-Cond c a b = ap seen (sym (rolls-Cond c a b)) ∙ fold-roll-Draft Seen (Nesting → List MacroFault) seen_step faults.pair_step (Draft-F.Cond c a b)

-- ---- what expressions are printed as

pair_is_printed : (p : MapPair) → fold-MapPair Printed (List ℕ) print_step print.pair_step p ≡ pair_printed p
pair_is_printed p = fold-roll-MapPair Printed (List ℕ) print_step print.pair_step (record { key = p.key; value = p.value })

pub printed-Null : printed Expr.Null ≡ whole (codes "null")
printed-Null = ap printed (sym tree.rolls-Null) ∙ fold-roll-Expr Printed (List ℕ) print_step print.pair_step Expr-F.Null

pub printed-Bool : (b : Bool) → printed (Expr.Bool b) ≡ whole (boolean b)
printed-Bool b = ap printed (sym (tree.rolls-Bool b)) ∙ fold-roll-Expr Printed (List ℕ) print_step print.pair_step (Expr-F.Bool b)

pub printed-Int : (z : ℤ) → printed (Expr.Int z) ≡ record { form = integer_form z; text = signed_decimal z }
printed-Int z = ap printed (sym (tree.rolls-Int z)) ∙ fold-roll-Expr Printed (List ℕ) print_step print.pair_step (Expr-F.Int z)

pub printed-Text : (t : List ℕ) → printed (Expr.Text t) ≡ whole (quoted t)
printed-Text t = ap printed (sym (tree.rolls-Text t)) ∙ fold-roll-Expr Printed (List ℕ) print_step print.pair_step (Expr-F.Text t)

pub printed-Name : (n : List ℕ) → printed (Expr.Name n) ≡ whole n
printed-Name n = ap printed (sym (tree.rolls-Name n)) ∙ fold-roll-Expr Printed (List ℕ) print_step print.pair_step (Expr-F.Name n)

pub printed-List : (es : List Expr) → printed (expr.List es) ≡ whole (codes "[" ++ (listed (map printed es) ++ codes "]"))
printed-List es = ap printed (sym (tree.rolls-List es)) ∙ fold-roll-Expr Printed (List ℕ) print_step print.pair_step (Expr-F.List es)

pub printed-Map : (ps : List MapPair) → printed (expr.Map ps) ≡ whole (codes "{" ++ (texts_listed (map pair_printed ps) ++ codes "}"))
printed-Map ps = ap printed (sym (tree.rolls-Map ps)) ∙ fold-roll-Expr Printed (List ℕ) print_step print.pair_step (Expr-F.Map ps) ∙ ap (λ ts. whole (codes "{" ++ (texts_listed ts ++ codes "}"))) (map_same _ pair_printed pair_is_printed ps)

pub printed-Select : (e : Expr) (f : List ℕ) → printed (expr.Select e f) ≡ whole (method (printed e) f)
printed-Select e f = ap printed (sym (tree.rolls-Select e f)) ∙ fold-roll-Expr Printed (List ℕ) print_step print.pair_step (Expr-F.Select e f)

pub printed-Has : (e : Expr) (f : List ℕ) → printed (expr.Has e f) ≡ whole (codes "has(" ++ (method (printed e) f ++ codes ")"))
printed-Has e f = ap printed (sym (tree.rolls-Has e f)) ∙ fold-roll-Expr Printed (List ℕ) print_step print.pair_step (Expr-F.Has e f)

pub printed-Index : (e i : Expr) → printed (expr.Index e i) ≡ whole (at_level 7 (printed e) ++ (codes "[" ++ ((printed i).text ++ codes "]")))
printed-Index e i = ap printed (sym (tree.rolls-Index e i)) ∙ fold-roll-Expr Printed (List ℕ) print_step print.pair_step (Expr-F.Index e i)

pub printed-function : (n : List ℕ) (es : List Expr) → printed (expr.Call None n es) ≡ whole (called n (map printed es))
printed-function n es = ap printed (sym (tree.rolls-Call None n es)) ∙ fold-roll-Expr Printed (List ℕ) print_step print.pair_step (Expr-F.Call None n es)

pub printed-method : (e : Expr) (n : List ℕ) (es : List Expr) → printed (expr.Call (Some e) n es) ≡ whole (method (printed e) (called n (map printed es)))
printed-method e n es = ap printed (sym (tree.rolls-Call (Some e) n es)) ∙ fold-roll-Expr Printed (List ℕ) print_step print.pair_step (Expr-F.Call (Some e) n es)

pub printed-Not : (e : Expr) → printed (expr.Not e) ≡ record { form = inverse; text = codes "!" ++ grouped_unless (may_be_inverted (printed e).form) (printed e).text }
printed-Not e = ap printed (sym (tree.rolls-Not e)) ∙ fold-roll-Expr Printed (List ℕ) print_step print.pair_step (Expr-F.Not e)

pub printed-Neg : (e : Expr) → printed (expr.Neg e) ≡ record { form = negative; text = codes "-" ++ grouped_unless (may_be_negated (printed e).form) (printed e).text }
printed-Neg e = ap printed (sym (tree.rolls-Neg e)) ∙ fold-roll-Expr Printed (List ℕ) print_step print.pair_step (Expr-F.Neg e)

pub printed-Binary : (op : BinaryOp) (a b : Expr) → printed (expr.Binary op a b) ≡ printed_binary op (printed a) (printed b)
printed-Binary op a b = ap printed (sym (tree.rolls-Binary op a b)) ∙ fold-roll-Expr Printed (List ℕ) print_step print.pair_step (Expr-F.Binary op a b)

pub printed-Cond : (c a b : Expr) → printed (expr.Cond c a b) ≡ printed_choice (printed c) (printed a) (printed b)
printed-Cond c a b = ap printed (sym (tree.rolls-Cond c a b)) ∙ fold-roll-Expr Printed (List ℕ) print_step print.pair_step (Expr-F.Cond c a b)

pub printed-macro : (kind : MacroKind) (e : Expr) (n : List ℕ) (v : Expr) → printed (expr.Macro kind e n None v) ≡ whole (method (printed e) (called (macro_name kind) (macro_items n None (printed v))))
printed-macro kind e n v = ap printed (sym (tree.rolls-Macro kind e n None v)) ∙ fold-roll-Expr Printed (List ℕ) print_step print.pair_step (Expr-F.Macro kind e n None v)

pub printed-macro_of_three : (kind : MacroKind) (e : Expr) (n : List ℕ) (p v : Expr) → printed (expr.Macro kind e n (Some p) v) ≡ whole (method (printed e) (called (macro_name kind) (macro_items n (Some (printed p)) (printed v))))
printed-macro_of_three kind e n p v = ap printed (sym (tree.rolls-Macro kind e n (Some p) v)) ∙ fold-roll-Expr Printed (List ℕ) print_step print.pair_step (Expr-F.Macro kind e n (Some p) v)
