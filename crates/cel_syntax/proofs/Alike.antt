-- Trees that differ in the places of their names alone.
use Rattle.std.proofs.Common.{◌≡◌, ℕ, suc, Bool, true, false, cond, List, [], ◌∷◌, ◌++◌, map, length, refl, sym, ap, ◌∙◌, subst}
use Rattle.cel_values.specs.declared.expr.BinaryOp.{BinaryOp}
use Rattle.cel_values.specs.declared.expr.Expr.{Expr}
use Rattle.cel_values.specs.declared.expr.Expr.TheViews as expr
use Rattle.cel_tokens.specs.declared.token.Name.{Name}
use Rattle.cel_grammar.specs.declared.draft.Draft.{Draft}
use Rattle.cel_grammar.specs.declared.draft.Draft.TheViews as draft
use Rattle.cel_grammar.specs.declared.draft.Draft.TheOpen.{Draft-F}
use Rattle.cel_grammar.specs.declared.draft.DraftPair.{DraftPair}
use Rattle.cel_grammar.specs.declared.error.SyntaxRule.{SyntaxRule}
use Rattle.cel_syntax.specs.declared.macro_faults.MacroFault.{MacroFault}
use Rattle.cel_syntax.specs.declared.macro_faults.Nesting.{Nesting}
use Rattle.cel_syntax.specs.Macros.{call_tree, method_tree, expanded, pair_expanded}
use Rattle.cel_syntax.specs.MacroFaults.{Seen, seen_step, seen, pair_seen, all_faults, pair_faults, NoFormFault, unless, is_has, is_macro, is_shallow, first_selects, first_names, call_faults, method_faults, inside}
use Rattle.cel_syntax.proofs.Layers.{expanded-Name, expanded-List, expanded-Map, expanded-Select, expanded-Index, expanded-Call, expanded-Method, expanded-Not, expanded-Neg, expanded-Binary, expanded-Cond, seen-Name, seen-List, seen-Map, seen-Select, seen-Index, seen-Call, seen-Method, seen-Not, seen-Neg, seen-Binary, seen-Cond}

-- the parts of faults of which none is of a form
pub left_formed : (xs ys : List MacroFault) → NoFormFault (xs ++ ys) → NoFormFault xs
left_formed [] ys h = tt
left_formed (x ∷ xs) ys h = (h.0, left_formed xs ys h.1)

pub right_formed : (xs ys : List MacroFault) → NoFormFault (xs ++ ys) → NoFormFault ys
right_formed [] ys h = h
right_formed (x ∷ xs) ys h = right_formed xs ys h.1

pub both_formed : (xs ys : List MacroFault) → NoFormFault xs → NoFormFault ys → NoFormFault (xs ++ ys)
both_formed [] ys h k = k
both_formed (x ∷ xs) ys h k = (h.0, both_formed xs ys h.1 k)

-- where the one has no fault of a form, the other has none
abbrev pub NoMore : (Nesting → List MacroFault) → (Nesting → List MacroFault) → Type 0
NoMore f g = (n : Nesting) → NoFormFault (f n) → NoFormFault (g n)

both_none : (f g a b : Nesting → List MacroFault) → NoMore f g → NoMore a b → NoMore (λ n. f n ++ a n) (λ n. g n ++ b n)
both_none f g a b h k n e = both_formed (g n) (b n) (h n (left_formed (f n) (a n) e)) (k n (right_formed (f n) (a n) e))

-- the second tree is the first one, but for the places of names
pub record Alike (d e : Draft) : Type 0 where
  pub tree : expanded e ≡ expanded d
  pub selects : (seen e).selects ≡ (seen d).selects
  pub names : (seen e).names ≡ (seen d).names
  pub faults : NoMore (seen d).faults (seen e).faults

-- what is seen of a tree, but for the places of names
record Same (s t : Seen) : Type 0 where
  selects : t.selects ≡ s.selects
  names : t.names ≡ s.names
  faults : NoMore s.faults t.faults

alike : {d e : Draft} (s t : Seen) → expanded e ≡ expanded d → seen d ≡ s → seen e ≡ t → Same s t → Alike d e
alike {d} {e} s t x h k same =
    let between : Same (seen d) (seen e) = subst (λ v. Same v (seen e)) (sym h) (subst (λ v. Same s v) (sym k) same) in
    record { tree = x; selects = between.selects; names = between.names; faults = between.faults }

-- ---- several

abbrev pub AllAlike : List Draft → List Draft → Type 0
AllAlike [] [] = Unit {0}
AllAlike [] (e ∷ es) = ⊥
AllAlike (d ∷ ds) [] = ⊥
AllAlike (d ∷ ds) (e ∷ es) = Alike d e × AllAlike ds es

pub record PairAlike (p q : DraftPair) : Type 0 where
  pub key : Alike p.key q.key
  pub value : Alike p.value q.value

abbrev pub AllPairsAlike : List DraftPair → List DraftPair → Type 0
AllPairsAlike [] [] = Unit {0}
AllPairsAlike [] (q ∷ qs) = ⊥
AllPairsAlike (p ∷ ps) [] = ⊥
AllPairsAlike (p ∷ ps) (q ∷ qs) = PairAlike p q × AllPairsAlike ps qs

trees_alike : (ds es : List Draft) → AllAlike ds es → map expanded es ≡ map expanded ds
trees_alike [] [] h = refl
trees_alike [] (e ∷ es) h = absurd h
trees_alike (d ∷ ds) [] h = absurd h
trees_alike (d ∷ ds) (e ∷ es) h = ap (λ x. x ∷ map expanded es) h.0.tree ∙ ap (λ xs. expanded d ∷ xs) (trees_alike ds es h.1)

lengths_alike : (ds es : List Draft) → AllAlike ds es → length (map seen es) ≡ length (map seen ds)
lengths_alike [] [] h = refl
lengths_alike [] (e ∷ es) h = absurd h
lengths_alike (d ∷ ds) [] h = absurd h
lengths_alike (d ∷ ds) (e ∷ es) h = ap (λ n. suc n) (lengths_alike ds es h.1)

selects_alike : (ds es : List Draft) → AllAlike ds es → first_selects (map seen es) ≡ first_selects (map seen ds)
selects_alike [] [] h = refl
selects_alike [] (e ∷ es) h = absurd h
selects_alike (d ∷ ds) [] h = absurd h
selects_alike (d ∷ ds) (e ∷ es) h = h.0.selects

names_alike : (ds es : List Draft) → AllAlike ds es → first_names (map seen es) ≡ first_names (map seen ds)
names_alike [] [] h = refl
names_alike [] (e ∷ es) h = absurd h
names_alike (d ∷ ds) [] h = absurd h
names_alike (d ∷ ds) (e ∷ es) h = h.0.names

faults_alike : (ds es : List Draft) → AllAlike ds es → NoMore (all_faults (map seen ds)) (all_faults (map seen es))
faults_alike [] [] h n k = tt
faults_alike [] (e ∷ es) h n k = absurd h
faults_alike (d ∷ ds) [] h n k = absurd h
faults_alike (d ∷ ds) (e ∷ es) h n k =
    both_formed ((seen e).faults n) (all_faults (map seen es) n) (h.0.faults n (left_formed ((seen d).faults n) (all_faults (map seen ds) n) k)) (faults_alike ds es h.1 n (right_formed ((seen d).faults n) (all_faults (map seen ds) n) k))

pair_trees : (ps qs : List DraftPair) → AllPairsAlike ps qs → map pair_expanded qs ≡ map pair_expanded ps
pair_trees [] [] h = refl
pair_trees [] (q ∷ qs) h = absurd h
pair_trees (p ∷ ps) [] h = absurd h
pair_trees (p ∷ ps) (q ∷ qs) h =
    let one : pair_expanded q ≡ pair_expanded p = ap (λ k. record { key = k; value = expanded q.value }) h.0.key.tree ∙ ap (λ v. record { key = expanded p.key; value = v }) h.0.value.tree in
    ap (λ x. x ∷ map pair_expanded qs) one ∙ ap (λ xs. pair_expanded p ∷ xs) (pair_trees ps qs h.1)

pair_faults_alike : (ps qs : List DraftPair) → AllPairsAlike ps qs → NoMore (pair_faults (map pair_seen ps)) (pair_faults (map pair_seen qs))
pair_faults_alike [] [] h n k = tt
pair_faults_alike [] (q ∷ qs) h n k = absurd h
pair_faults_alike (p ∷ ps) [] h n k = absurd h
pair_faults_alike (p ∷ ps) (q ∷ qs) h n k =
    let front = left_formed (pair_seen p n) (pair_faults (map pair_seen ps) n) k in
    let back = right_formed (pair_seen p n) (pair_faults (map pair_seen ps) n) k in
    both_formed (pair_seen q n) (pair_faults (map pair_seen qs) n) (both_none (seen p.key).faults (seen q.key).faults (seen p.value).faults (seen q.value).faults h.0.key.faults h.0.value.faults n front) (pair_faults_alike ps qs h.1 n back)

-- ---- the forms

pub alike-itself : (d : Draft) → Alike d d
alike-itself d = record { tree = refl; selects = refl; names = refl; faults = λ n h. h }

pub alike-Name : (n m : Name) → m.text ≡ n.text → Alike (Draft.Name n) (Draft.Name m)
alike-Name n m h =
    alike (seen_step (Draft-F.Name n)) (seen_step (Draft-F.Name m)) (expanded-Name m ∙ ap (λ t. Expr.Name t) h ∙ sym (expanded-Name n)) (seen-Name n) (seen-Name m)
    (record { selects = refl; names = refl; faults = λ k e. e })

pub alike-List : (ds es : List Draft) → AllAlike ds es → Alike (draft.List ds) (draft.List es)
alike-List ds es h =
    alike (seen_step (Draft-F.List (map seen ds))) (seen_step (Draft-F.List (map seen es))) (expanded-List es ∙ ap (λ xs. expr.List xs) (trees_alike ds es h) ∙ sym (expanded-List ds)) (seen-List ds) (seen-List es)
    (record { selects = refl; names = refl; faults = faults_alike ds es h })

pub alike-Map : (ps qs : List DraftPair) → AllPairsAlike ps qs → Alike (draft.Map ps) (draft.Map qs)
alike-Map ps qs h =
    alike (seen_step (Draft-F.Map (map pair_seen ps))) (seen_step (Draft-F.Map (map pair_seen qs))) (expanded-Map qs ∙ ap (λ xs. expr.Map xs) (pair_trees ps qs h) ∙ sym (expanded-Map ps)) (seen-Map ps) (seen-Map qs)
    (record { selects = refl; names = refl; faults = pair_faults_alike ps qs h })

pub alike-Select : (d e : Draft) (n m : Name) → Alike d e → m.text ≡ n.text → Alike (draft.Select d n) (draft.Select e m)
alike-Select d e n m h k =
    alike (seen_step (Draft-F.Select (seen d) n)) (seen_step (Draft-F.Select (seen e) m))
    (expanded-Select e m ∙ ap (λ x. expr.Select x m.text) h.tree ∙ ap (λ t. expr.Select (expanded d) t) k ∙ sym (expanded-Select d n)) (seen-Select d n) (seen-Select e m)
    (record { selects = refl; names = refl; faults = h.faults })

pub alike-Index : (a b x y : Draft) → Alike a x → Alike b y → Alike (draft.Index a b) (draft.Index x y)
alike-Index a b x y h k =
    alike (seen_step (Draft-F.Index (seen a) (seen b))) (seen_step (Draft-F.Index (seen x) (seen y)))
    (expanded-Index x y ∙ ap (λ z. expr.Index z (expanded y)) h.tree ∙ ap (λ z. expr.Index (expanded a) z) k.tree ∙ sym (expanded-Index a b)) (seen-Index a b) (seen-Index x y)
    (record { selects = refl; names = refl; faults = both_none (seen a).faults (seen x).faults (seen b).faults (seen y).faults h.faults k.faults })

pub alike-Not : (d e : Draft) → Alike d e → Alike (draft.Not d) (draft.Not e)
alike-Not d e h =
    alike (seen_step (Draft-F.Not (seen d))) (seen_step (Draft-F.Not (seen e))) (expanded-Not e ∙ ap (λ x. expr.Not x) h.tree ∙ sym (expanded-Not d)) (seen-Not d) (seen-Not e)
    (record { selects = refl; names = refl; faults = h.faults })

pub alike-Neg : (d e : Draft) → Alike d e → Alike (draft.Neg d) (draft.Neg e)
alike-Neg d e h =
    alike (seen_step (Draft-F.Neg (seen d))) (seen_step (Draft-F.Neg (seen e))) (expanded-Neg e ∙ ap (λ x. expr.Neg x) h.tree ∙ sym (expanded-Neg d)) (seen-Neg d) (seen-Neg e)
    (record { selects = refl; names = refl; faults = h.faults })

pub alike-Binary : (op : BinaryOp) (a b x y : Draft) → Alike a x → Alike b y → Alike (draft.Binary op a b) (draft.Binary op x y)
alike-Binary op a b x y h k =
    alike (seen_step (Draft-F.Binary op (seen a) (seen b))) (seen_step (Draft-F.Binary op (seen x) (seen y)))
    (expanded-Binary op x y ∙ ap (λ z. expr.Binary op z (expanded y)) h.tree ∙ ap (λ z. expr.Binary op (expanded a) z) k.tree ∙ sym (expanded-Binary op a b)) (seen-Binary op a b) (seen-Binary op x y)
    (record { selects = refl; names = refl; faults = both_none (seen a).faults (seen x).faults (seen b).faults (seen y).faults h.faults k.faults })

pub alike-Cond : (c a b z x y : Draft) → Alike c z → Alike a x → Alike b y → Alike (draft.Cond c a b) (draft.Cond z x y)
alike-Cond c a b z x y g h k =
    alike (seen_step (Draft-F.Cond (seen c) (seen a) (seen b))) (seen_step (Draft-F.Cond (seen z) (seen x) (seen y)))
    (expanded-Cond z x y ∙ ap (λ w. expr.Cond w (expanded x) (expanded y)) g.tree ∙ ap (λ w. expr.Cond (expanded c) w (expanded y)) h.tree ∙ ap (λ w. expr.Cond (expanded c) (expanded a) w) k.tree ∙ sym (expanded-Cond c a b))
    (seen-Cond c a b) (seen-Cond z x y)
    (record {
      selects = refl;
      names = refl;
      faults = λ n e.
          let back = right_formed ((seen c).faults n) ((seen a).faults n ++ (seen b).faults n) e in
          both_formed ((seen z).faults n) ((seen x).faults n ++ (seen y).faults n) (g.faults n (left_formed ((seen c).faults n) ((seen a).faults n ++ (seen b).faults n) e))
          (both_formed ((seen x).faults n) ((seen y).faults n) (h.faults n (left_formed ((seen a).faults n) ((seen b).faults n) back)) (k.faults n (right_formed ((seen a).faults n) ((seen b).faults n) back)));
    })

-- ---- calls

unless_moved : (b : Bool) (at place : ℕ) (rule : SyntaxRule) → NoFormFault (unless b at rule) → NoFormFault (unless b place rule)
unless_moved true at place rule h = tt
unless_moved false at place rule h = h

call_moved_at : (has selects : Bool) (at place : ℕ) → NoFormFault (cond has (unless selects at SyntaxRule.S4) []) → NoFormFault (cond has (unless selects place SyntaxRule.S4) [])
call_moved_at true selects at place h = unless_moved selects at place SyntaxRule.S4 h
call_moved_at false selects at place h = tt

call_moved : (n m : Name) (count : ℕ) (selects : Bool) → m.text ≡ n.text → NoFormFault (call_faults n count selects) → NoFormFault (call_faults m count selects)
call_moved n m count selects h e =
    subst (λ t. NoFormFault (cond (is_has t count) (unless selects m.at SyntaxRule.S4) [])) (sym h) (call_moved_at (is_has n.text count) selects n.at m.at e)

method_moved_at : (macro names shallow : Bool) (at place : ℕ) → NoFormFault (cond macro (unless names at SyntaxRule.S4 ++ unless shallow at SyntaxRule.S5) []) → NoFormFault (cond macro (unless names place SyntaxRule.S4 ++ unless shallow place SyntaxRule.S5) [])
method_moved_at true names shallow at place h =
    both_formed (unless names place SyntaxRule.S4) (unless shallow place SyntaxRule.S5)
    (unless_moved names at place SyntaxRule.S4 (left_formed (unless names at SyntaxRule.S4) (unless shallow at SyntaxRule.S5) h))
    (unless_moved shallow at place SyntaxRule.S5 (right_formed (unless names at SyntaxRule.S4) (unless shallow at SyntaxRule.S5) h))
method_moved_at false names shallow at place h = tt

method_moved : (n m : Name) (count : ℕ) (names : Bool) (d : Nesting) → m.text ≡ n.text → NoFormFault (method_faults n count names d) → NoFormFault (method_faults m count names d)
method_moved n m count names d h e =
    subst (λ t. NoFormFault (cond (is_macro t count) (unless names m.at SyntaxRule.S4 ++ unless (is_shallow d) m.at SyntaxRule.S5) [])) (sym h) (method_moved_at (is_macro n.text count) names (is_shallow d) n.at m.at e)

inside_same : (n m : Name) (count : ℕ) (d : Nesting) → m.text ≡ n.text → inside m count d ≡ inside n count d
inside_same n m count d h = ap (λ t. inside (record { at = 0; text = t }) count d) h

pub alike-Call : (n m : Name) (ds es : List Draft) → m.text ≡ n.text → AllAlike ds es → Alike (draft.Call n ds) (draft.Call m es)
alike-Call n m ds es h k =
    alike (seen_step (Draft-F.Call n (map seen ds))) (seen_step (Draft-F.Call m (map seen es)))
    (expanded-Call m es ∙ ap (λ t. call_tree t (map expanded es)) h ∙ ap (λ xs. call_tree n.text xs) (trees_alike ds es k) ∙ sym (expanded-Call n ds)) (seen-Call n ds) (seen-Call m es)
    (record {
      selects = refl;
      names = refl;
      faults = λ d e.
          let own = left_formed (call_faults n (length (map seen ds)) (first_selects (map seen ds))) (all_faults (map seen ds) d) e in
          let moved = call_moved n m (length (map seen ds)) (first_selects (map seen ds)) h own in
          let same = ap (λ l. call_faults m l (first_selects (map seen es))) (lengths_alike ds es k) ∙ ap (λ b. call_faults m (length (map seen ds)) b) (selects_alike ds es k) in
          both_formed (call_faults m (length (map seen es)) (first_selects (map seen es))) (all_faults (map seen es) d) (subst NoFormFault (sym same) moved)
          (faults_alike ds es k d (right_formed (call_faults n (length (map seen ds)) (first_selects (map seen ds))) (all_faults (map seen ds) d) e));
    })

pub alike-Method : (a b : Draft) (n m : Name) (ds es : List Draft) → Alike a b → m.text ≡ n.text → AllAlike ds es → Alike (draft.Method a n ds) (draft.Method b m es)
alike-Method a b n m ds es g h k =
    alike (seen_step (Draft-F.Method (seen a) n (map seen ds))) (seen_step (Draft-F.Method (seen b) m (map seen es)))
    (expanded-Method b m es ∙ ap (λ x. method_tree x m.text (map expanded es)) g.tree ∙ ap (λ t. method_tree (expanded a) t (map expanded es)) h ∙ ap (λ xs. method_tree (expanded a) n.text xs) (trees_alike ds es k) ∙ sym (expanded-Method a n ds))
    (seen-Method a n ds) (seen-Method b m es)
    (record {
      selects = refl;
      names = refl;
      faults = λ d e.
          let count = length (map seen ds) in
          let own = method_faults n count (first_names (map seen ds)) d in
          let parts = all_faults (map seen ds) (inside n count d) in
          let back = right_formed ((seen a).faults d) (own ++ parts) e in
          let moved = method_moved n m count (first_names (map seen ds)) d h (left_formed own parts back) in
          let same_inside : inside m (length (map seen es)) d ≡ inside n count d = ap (λ l. inside m l d) (lengths_alike ds es k) ∙ inside_same n m count d h in
          let same = ap (λ l. method_faults m l (first_names (map seen es)) d) (lengths_alike ds es k) ∙ ap (λ b. method_faults m count b d) (names_alike ds es k) in
          let other_own = method_faults m (length (map seen es)) (first_names (map seen es)) d in
          let other_parts = all_faults (map seen es) (inside m (length (map seen es)) d) in
          both_formed ((seen b).faults d) (other_own ++ other_parts) (g.faults d (left_formed ((seen a).faults d) (own ++ parts) e))
          (both_formed other_own other_parts (subst NoFormFault (sym same) moved)
          (subst (λ w. NoFormFault (all_faults (map seen es) w)) (sym same_inside) (faults_alike ds es k (inside n count d) (right_formed own parts back))));
    })
