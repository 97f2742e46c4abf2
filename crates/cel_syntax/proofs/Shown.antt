-- What a tree of ordinary calls is printed as, its macros too: each call as the call that it is.
use Rattle.std.proofs.Common.{◌≡◌, ℕ, suc, ℤ, Bool, true, false, cond, ◌&&◌, ◌||◌, is_some, nat_eq, List, [], ◌∷◌, ◌++◌, map, length, Option, Some, None, codes, refl, sym, ap, ◌∙◌, arith}
use Rattle.std.proofs.lemmas.Bool.Decides.{nat_tests}
use Rattle.std.proofs.lemmas.Slice.Eq.{bytes_eq-Decides}
use Rattle.std.specs.Str.{bytes_eq}
use Rattle.std.specs.Fmt.{signed_decimal}
use Rattle.cel_values.specs.declared.expr.BinaryOp.{BinaryOp}
use Rattle.cel_values.specs.declared.expr.MacroKind.{MacroKind}
use Rattle.cel_values.specs.declared.expr.Expr.{out-Expr}
use Rattle.cel_values.specs.declared.expr.Expr.TheViews as expr
use Rattle.cel_values.specs.declared.expr.Expr.TheViews.{out-roll-Expr}
use Rattle.cel_values.specs.declared.expr.Expr.TheOpen.{Expr-F}
use Rattle.cel_values.specs.declared.expr.Expr.TheVariants as tree
use Rattle.cel_tokens.specs.declared.token.Literal.{Literal}
use Rattle.cel_tokens.specs.declared.token.Name.{Name}
use Rattle.cel_tokens.specs.Spelling.{quoted}
use Rattle.cel_grammar.specs.declared.draft.Draft.{Draft, roll-Draft}
use Rattle.cel_grammar.specs.declared.draft.Draft.TheViews as draft
use Rattle.cel_grammar.specs.declared.draft.Draft.TheOpen.{Draft-F}
use Rattle.cel_grammar.specs.declared.draft.Draft.TheFolds.{fold-roll-Draft, fold-DraftPair, map-Draft, ind-Draft}
use Rattle.cel_grammar.specs.declared.draft.Draft.TheVariants.{rolls-Name, rolls-Select}
use Rattle.cel_grammar.specs.declared.draft.DraftPair.{DraftPair}
use Rattle.cel_grammar.specs.declared.error.SyntaxRule.{SyntaxRule}
use Rattle.cel_syntax.specs.declared.macro_faults.MacroFault.{MacroFault}
use Rattle.cel_syntax.specs.declared.macro_faults.Nesting.{Nesting}
use Rattle.cel_syntax.specs.Macros.{kind_of, literal_tree, selection, variable, has_tree, three_tree, two_or_call, call_tree, method_tree, expanded, pair_expanded}
use Rattle.cel_syntax.specs.MacroFaults.{Seen, seen_step, seen, NoFormFault, unless, is_has, is_macro, is_shallow, first_selects, first_names, call_faults, method_faults}
use Rattle.cel_syntax.specs.MacroFaults as faults
use Rattle.cel_syntax.specs.Print.{pair_printed, Printed, printed, whole, boolean, integer_form, listed, texts_listed, method, at_level, called, macro_name, grouped_unless, may_be_inverted, may_be_negated, printed_binary, printed_choice, inverse, negative}
use Rattle.cel_syntax.proofs.Alike.{left_formed}
use Rattle.cel_syntax.proofs.Layers.{expanded-Literal, expanded-Int, expanded-Name, expanded-List, expanded-Map, expanded-Select, expanded-Index, expanded-Call, expanded-Method, expanded-Not, expanded-Neg, expanded-Binary, expanded-Cond, printed-Null, printed-Bool, printed-Int, printed-Text, printed-Name, printed-List, printed-Map, printed-Select, printed-Has, printed-Index, printed-function, printed-method, printed-Not, printed-Neg, printed-Binary, printed-Cond, printed-macro, printed-macro_of_three}

abbrev pub shown : Draft → Printed
shown d = printed (expanded d)

abbrev pub shown_pair : DraftPair → List ℕ
shown_pair p = (shown p.key).text ++ (codes ": " ++ (shown p.value).text)

abbrev pub shown_literal : Literal → Printed
shown_literal Literal.Null = whole (codes "null")
shown_literal (Literal.Bool b) = whole (boolean b)
shown_literal (Literal.Text t) = whole (quoted t)

map_shown : (es : List Draft) → map printed (map expanded es) ≡ map shown es
map_shown [] = refl
map_shown (e ∷ es) = ap (λ ps. shown e ∷ ps) (map_shown es)

map_shown_pair : (ps : List DraftPair) → map pair_printed (map pair_expanded ps) ≡ map shown_pair ps
map_shown_pair [] = refl
map_shown_pair (p ∷ ps) = ap (λ ts. shown_pair p ∷ ts) (map_shown_pair ps)

literal_shown : (l : Literal) → printed (literal_tree l) ≡ shown_literal l
literal_shown Literal.Null = printed-Null
literal_shown (Literal.Bool b) = printed-Bool b
literal_shown (Literal.Text t) = printed-Text t

pub shown-Literal : (l : Literal) → shown (Draft.Literal l) ≡ shown_literal l
shown-Literal l = ap printed (expanded-Literal l) ∙ literal_shown l

pub shown-Int : (z : ℤ) → shown (Draft.Int z) ≡ record { form = integer_form z; text = signed_decimal z }
shown-Int z = ap printed (expanded-Int z) ∙ printed-Int z

pub shown-Name : (n : Name) → shown (Draft.Name n) ≡ whole n.text
shown-Name n = ap printed (expanded-Name n) ∙ printed-Name n.text

pub shown-List : (es : List Draft) → shown (draft.List es) ≡ whole (codes "[" ++ (listed (map shown es) ++ codes "]"))
shown-List es = ap printed (expanded-List es) ∙ printed-List (map expanded es) ∙ ap (λ ps. whole (codes "[" ++ (listed ps ++ codes "]"))) (map_shown es)

pub shown-Map : (ps : List DraftPair) → shown (draft.Map ps) ≡ whole (codes "{" ++ (texts_listed (map shown_pair ps) ++ codes "}"))
shown-Map ps = ap printed (expanded-Map ps) ∙ printed-Map (map pair_expanded ps) ∙ ap (λ ts. whole (codes "{" ++ (texts_listed ts ++ codes "}"))) (map_shown_pair ps)

pub shown-Select : (e : Draft) (n : Name) → shown (draft.Select e n) ≡ whole (method (shown e) n.text)
shown-Select e n = ap printed (expanded-Select e n) ∙ printed-Select (expanded e) n.text

pub shown-Index : (e i : Draft) → shown (draft.Index e i) ≡ whole (at_level 7 (shown e) ++ (codes "[" ++ ((shown i).text ++ codes "]")))
shown-Index e i = ap printed (expanded-Index e i) ∙ printed-Index (expanded e) (expanded i)

pub shown-Not : (e : Draft) → shown (draft.Not e) ≡ record { form = inverse; text = codes "!" ++ grouped_unless (may_be_inverted (shown e).form) (shown e).text }
shown-Not e = ap printed (expanded-Not e) ∙ printed-Not (expanded e)

pub shown-Neg : (e : Draft) → shown (draft.Neg e) ≡ record { form = negative; text = codes "-" ++ grouped_unless (may_be_negated (shown e).form) (shown e).text }
shown-Neg e = ap printed (expanded-Neg e) ∙ printed-Neg (expanded e)

pub shown-Binary : (op : BinaryOp) (a b : Draft) → shown (draft.Binary op a b) ≡ printed_binary op (shown a) (shown b)
shown-Binary op a b = ap printed (expanded-Binary op a b) ∙ printed-Binary op (expanded a) (expanded b)

pub shown-Cond : (c a b : Draft) → shown (draft.Cond c a b) ≡ printed_choice (shown c) (shown a) (shown b)
shown-Cond c a b = ap printed (expanded-Cond c a b) ∙ printed-Cond (expanded c) (expanded a) (expanded b)

-- ---- calls

-- a tree that is seen to be a selection, or a name, is one
abbrev Selects : Draft → Type 0
Selects d = (seen d).selects ≡ true → (e : Draft) × (n : Name) × (d ≡ draft.Select e n)

abbrev Names : Draft → Type 0
Names d = (seen d).names ≡ true → (n : Name) × (d ≡ Draft.Name n)

seen_at : (x : Draft-F Draft DraftPair) → seen (roll-Draft x) ≡ seen_step (map-Draft Draft DraftPair Seen (Nesting → List MacroFault) seen (fold-DraftPair Seen (Nesting → List MacroFault) seen_step faults.pair_step) x)
seen_at x = fold-roll-Draft Seen (Nesting → List MacroFault) seen_step faults.pair_step x

selects_at : (x : Draft-F Draft DraftPair) → Selects (roll-Draft x)
selects_at (Draft-F.Select e n) h = (e, n, rolls-Select e n)
selects_at (Draft-F.Literal l) h = let no = sym (ap (λ s. s.selects) (seen_at (Draft-F.Literal l))) ∙ h in cc
selects_at (Draft-F.Int z) h = let no = sym (ap (λ s. s.selects) (seen_at (Draft-F.Int z))) ∙ h in cc
selects_at (Draft-F.Name n) h = let no = sym (ap (λ s. s.selects) (seen_at (Draft-F.Name n))) ∙ h in cc
selects_at (Draft-F.List es) h = let no = sym (ap (λ s. s.selects) (seen_at (Draft-F.List es))) ∙ h in cc
selects_at (Draft-F.Map ps) h = let no = sym (ap (λ s. s.selects) (seen_at (Draft-F.Map ps))) ∙ h in cc
selects_at (Draft-F.Index a b) h = let no = sym (ap (λ s. s.selects) (seen_at (Draft-F.Index a b))) ∙ h in cc
selects_at (Draft-F.Call n es) h = let no = sym (ap (λ s. s.selects) (seen_at (Draft-F.Call n es))) ∙ h in cc
selects_at (Draft-F.Method e n es) h = let no = sym (ap (λ s. s.selects) (seen_at (Draft-F.Method e n es))) ∙ h in cc
selects_at (Draft-F.Not e) h = let no = sym (ap (λ s. s.selects) (seen_at (Draft-F.Not e))) ∙ h in cc
selects_at (Draft-F.Neg e) h = let no = sym (ap (λ s. s.selects) (seen_at (Draft-F.Neg e))) ∙ h in cc
selects_at (Draft-F.Binary op a b) h = let no = sym (ap (λ s. s.selects) (seen_at (Draft-F.Binary op a b))) ∙ h in cc
selects_at (Draft-F.Cond c a b) h = let no = sym (ap (λ s. s.selects) (seen_at (Draft-F.Cond c a b))) ∙ h in cc

names_at : (x : Draft-F Draft DraftPair) → Names (roll-Draft x)
names_at (Draft-F.Name n) h = (n, rolls-Name n)
names_at (Draft-F.Literal l) h = let no = sym (ap (λ s. s.names) (seen_at (Draft-F.Literal l))) ∙ h in cc
names_at (Draft-F.Int z) h = let no = sym (ap (λ s. s.names) (seen_at (Draft-F.Int z))) ∙ h in cc
names_at (Draft-F.Select e n) h = let no = sym (ap (λ s. s.names) (seen_at (Draft-F.Select e n))) ∙ h in cc
names_at (Draft-F.List es) h = let no = sym (ap (λ s. s.names) (seen_at (Draft-F.List es))) ∙ h in cc
names_at (Draft-F.Map ps) h = let no = sym (ap (λ s. s.names) (seen_at (Draft-F.Map ps))) ∙ h in cc
names_at (Draft-F.Index a b) h = let no = sym (ap (λ s. s.names) (seen_at (Draft-F.Index a b))) ∙ h in cc
names_at (Draft-F.Call n es) h = let no = sym (ap (λ s. s.names) (seen_at (Draft-F.Call n es))) ∙ h in cc
names_at (Draft-F.Method e n es) h = let no = sym (ap (λ s. s.names) (seen_at (Draft-F.Method e n es))) ∙ h in cc
names_at (Draft-F.Not e) h = let no = sym (ap (λ s. s.names) (seen_at (Draft-F.Not e))) ∙ h in cc
names_at (Draft-F.Neg e) h = let no = sym (ap (λ s. s.names) (seen_at (Draft-F.Neg e))) ∙ h in cc
names_at (Draft-F.Binary op a b) h = let no = sym (ap (λ s. s.names) (seen_at (Draft-F.Binary op a b))) ∙ h in cc
names_at (Draft-F.Cond c a b) h = let no = sym (ap (λ s. s.names) (seen_at (Draft-F.Cond c a b))) ∙ h in cc

a_selection : (d : Draft) → Selects d
a_selection = ind-Draft Selects (λ p. Unit {0}) (λ x y is. selects_at x) (λ x y is. tt)

a_name : (d : Draft) → Names d
a_name = ind-Draft Names (λ p. Unit {0}) (λ x y is. names_at x) (λ x y is. tt)

pub unless_true : (b : Bool) (at : ℕ) → NoFormFault (unless b at SyntaxRule.S4) → b ≡ true
unless_true true at h = refl
unless_true false at h = absurd (h.0 refl)

same_bytes : (n m : List ℕ) → bytes_eq n m ≡ true → n ≡ m
same_bytes n m h = grind (arith, bytes_eq-Decides n m)

two_more : (n : ℕ) → nat_eq (suc (suc n)) 1 ≡ false
two_more n = grind (arith, nat_tests)

-- has(..)
has_selection : (e : Draft) (f : Name) → printed (has_tree (expanded (draft.Select e f) ∷ [])) ≡ whole (called (codes "has") (shown (draft.Select e f) ∷ []))
has_selection e f =
    let x = expr.Select (expanded e) f.text in
    let out : out-Expr x ≡ Expr-F.Select (expanded e) f.text = ap out-Expr (sym (tree.rolls-Select (expanded e) f.text)) ∙ out-roll-Expr (Expr-F.Select (expanded e) f.text) in
    ap (λ y. printed (has_tree (y ∷ []))) (expanded-Select e f)
    ∙ ap (λ v. printed (expr.Has (selection v x).0 (selection v x).1)) out
    ∙ printed-Has (expanded e) f.text
    ∙ ap (λ p. whole (called (codes "has") (p ∷ []))) (sym (shown-Select e f))

has_one : (b : Bool) (n : List ℕ) (d : Draft) → bytes_eq n (codes "has") ≡ b → (b ≡ true → (seen d).selects ≡ true) →
    printed (cond b (has_tree (expanded d ∷ [])) (expr.Call None n (expanded d ∷ []))) ≡ whole (called n (shown d ∷ []))
has_one false n d is h = printed-function n (expanded d ∷ [])
has_one true n d is h =
    let s = a_selection d (h refl) in
    ap (λ x. printed (has_tree (expanded x ∷ []))) s.2 ∙ has_selection s.0 s.1 ∙ ap (λ x. whole (called (codes "has") (shown x ∷ []))) (sym s.2) ∙ ap (λ w. whole (called w (shown d ∷ []))) (sym (same_bytes n (codes "has") is))

has_faults : (b selects : Bool) (at : ℕ) → NoFormFault (cond b (unless selects at SyntaxRule.S4) []) → b ≡ true → selects ≡ true
has_faults true selects at h k = unless_true selects at h
has_faults false selects at h k = cc

call_shown : (n : Name) (es : List Draft) → NoFormFault (call_faults n (length (map seen es)) (first_selects (map seen es))) → printed (call_tree n.text (map expanded es)) ≡ whole (called n.text (map shown es))
call_shown n [] h = printed-function n.text []
call_shown n (d ∷ []) h = has_one (bytes_eq n.text (codes "has")) n.text d refl (has_faults (bytes_eq n.text (codes "has")) (seen d).selects n.at h)
call_shown n (d ∷ e ∷ es) h =
    let xs = expanded d ∷ expanded e ∷ map expanded es in
    ap (λ b. printed (cond (b && bytes_eq n.text (codes "has")) (has_tree xs) (expr.Call None n.text xs))) (two_more (length (map expanded es)))
    ∙ printed-function n.text xs ∙ ap (λ ps. whole (called n.text ps)) (map_shown (d ∷ e ∷ es))

pub shown-Call : (n : Name) (es : List Draft) → NoFormFault (call_faults n (length (map seen es)) (first_selects (map seen es))) → shown (draft.Call n es) ≡ whole (called n.text (map shown es))
shown-Call n es h = ap printed (expanded-Call n es) ∙ call_shown n es h

-- ---- methods

kind_at : (all exists exists_one filter map_ : Bool) (n : List ℕ) (kind : MacroKind) →
    bytes_eq n (codes "all") ≡ all → bytes_eq n (codes "exists") ≡ exists → bytes_eq n (codes "exists_one") ≡ exists_one → bytes_eq n (codes "filter") ≡ filter → bytes_eq n (codes "map") ≡ map_ →
    cond all (Some MacroKind.All) (cond exists (Some MacroKind.Exists) (cond exists_one (Some MacroKind.ExistsOne) (cond filter (Some MacroKind.Filter) (cond map_ (Some MacroKind.Map) None)))) ≡ Some kind → macro_name kind ≡ n
kind_at true b c d e n kind ha hb hc hd he h = let is : MacroKind.All ≡ kind = cc in ap macro_name (sym is) ∙ sym (same_bytes n (codes "all") ha)
kind_at false true c d e n kind ha hb hc hd he h = let is : MacroKind.Exists ≡ kind = cc in ap macro_name (sym is) ∙ sym (same_bytes n (codes "exists") hb)
kind_at false false true d e n kind ha hb hc hd he h = let is : MacroKind.ExistsOne ≡ kind = cc in ap macro_name (sym is) ∙ sym (same_bytes n (codes "exists_one") hc)
kind_at false false false true e n kind ha hb hc hd he h = let is : MacroKind.Filter ≡ kind = cc in ap macro_name (sym is) ∙ sym (same_bytes n (codes "filter") hd)
kind_at false false false false true n kind ha hb hc hd he h = let is : MacroKind.Map ≡ kind = cc in ap macro_name (sym is) ∙ sym (same_bytes n (codes "map") he)
kind_at false false false false false n kind ha hb hc hd he h = cc

kind_name : (n : List ℕ) (kind : MacroKind) → kind_of n ≡ Some kind → macro_name kind ≡ n
kind_name n kind h = kind_at (bytes_eq n (codes "all")) (bytes_eq n (codes "exists")) (bytes_eq n (codes "exists_one")) (bytes_eq n (codes "filter")) (bytes_eq n (codes "map")) n kind refl refl refl refl refl h

-- the variable of a macro is printed as the name that it was
variable_is : (d : Draft) (v : Name) → d ≡ Draft.Name v → variable (out-Expr (expanded d)) ≡ v.text
variable_is d v h =
    ap (λ x. variable (out-Expr (expanded x))) h ∙ ap (λ x. variable (out-Expr x)) (expanded-Name v)
    ∙ ap (λ x. variable (out-Expr x)) (sym (tree.rolls-Name v.text)) ∙ ap variable (out-roll-Expr (Expr-F.Name v.text))

name_is : (d : Draft) (v : Name) → d ≡ Draft.Name v → whole v.text ≡ shown d
name_is d v h = sym (shown-Name v) ∙ ap shown (sym h)

two_at : (k : Option MacroKind) (n : List ℕ) (range a b : Draft) → kind_of n ≡ k → (is_some k ≡ true → (seen a).names ≡ true) →
    printed (two_or_call k (expanded range) n (expanded a ∷ expanded b ∷ [])) ≡ whole (method (shown range) (called n (shown a ∷ shown b ∷ [])))
two_at None n range a b is h = printed-method (expanded range) n (expanded a ∷ expanded b ∷ [])
two_at (Some kind) n range a b is h =
    let s = a_name a (h refl) in
    ap (λ v. printed (expr.Macro kind (expanded range) v None (expanded b))) (variable_is a s.0 s.1)
    ∙ printed-macro kind (expanded range) s.0.text (expanded b)
    ∙ ap (λ w. whole (method (shown range) (called w (whole s.0.text ∷ shown b ∷ [])))) (kind_name n kind is)
    ∙ ap (λ p. whole (method (shown range) (called n (p ∷ shown b ∷ [])))) (name_is a s.0 s.1)

three_at : (k : Bool) (n : List ℕ) (range a b c : Draft) → bytes_eq n (codes "map") ≡ k → (k ≡ true → (seen a).names ≡ true) →
    printed (cond k (three_tree (expanded range) (expanded a ∷ expanded b ∷ expanded c ∷ [])) (expr.Call (Some (expanded range)) n (expanded a ∷ expanded b ∷ expanded c ∷ []))) ≡ whole (method (shown range) (called n (shown a ∷ shown b ∷ shown c ∷ [])))
three_at false n range a b c is h = printed-method (expanded range) n (expanded a ∷ expanded b ∷ expanded c ∷ [])
three_at true n range a b c is h =
    let s = a_name a (h refl) in
    ap (λ v. printed (expr.Macro MacroKind.Map (expanded range) v (Some (expanded b)) (expanded c))) (variable_is a s.0 s.1)
    ∙ printed-macro_of_three MacroKind.Map (expanded range) s.0.text (expanded b) (expanded c)
    ∙ ap (λ w. whole (method (shown range) (called w (whole s.0.text ∷ shown b ∷ shown c ∷ [])))) (sym (same_bytes n (codes "map") is))
    ∙ ap (λ p. whole (method (shown range) (called n (p ∷ shown b ∷ shown c ∷ [])))) (name_is a s.0 s.1)

macro_faults_names : (b names shallow : Bool) (at : ℕ) → NoFormFault (cond b (unless names at SyntaxRule.S4 ++ unless shallow at SyntaxRule.S5) []) → b ≡ true → names ≡ true
macro_faults_names true names shallow at h k = unless_true names at (left_formed (unless names at SyntaxRule.S4) (unless shallow at SyntaxRule.S5) h)
macro_faults_names false names shallow at h k = cc

four_more : (n : ℕ) → (nat_eq (suc (suc (suc (suc n)))) 2 ≡ false) × (nat_eq (suc (suc (suc (suc n)))) 3 ≡ false)
four_more n = (grind (arith, nat_tests), grind (arith, nat_tests))

method_shown : (e : Draft) (n : Name) (es : List Draft) (d : Nesting) → NoFormFault (method_faults n (length (map seen es)) (first_names (map seen es)) d) →
    printed (method_tree (expanded e) n.text (map expanded es)) ≡ whole (method (shown e) (called n.text (map shown es)))
method_shown e n [] d h = printed-method (expanded e) n.text []
method_shown e n (a ∷ []) d h = printed-method (expanded e) n.text (expanded a ∷ [])
method_shown e n (a ∷ b ∷ []) d h =
    two_at (kind_of n.text) n.text e a b refl
    (λ k. macro_faults_names (is_macro n.text 2) (seen a).names (is_shallow d) n.at h (ap (λ i. i || (nat_eq 2 3 && bytes_eq n.text (codes "map"))) k))
method_shown e n (a ∷ b ∷ c ∷ []) d h =
    three_at (bytes_eq n.text (codes "map")) n.text e a b c refl (macro_faults_names (is_macro n.text 3) (seen a).names (is_shallow d) n.at h)
method_shown e n (a ∷ b ∷ c ∷ x ∷ es) d h =
    let xs = expanded a ∷ expanded b ∷ expanded c ∷ expanded x ∷ map expanded es in
    let more = four_more (length (map expanded es)) in
    let call = expr.Call (Some (expanded e)) n.text xs in
    ap (λ i. printed (cond i (two_or_call (kind_of n.text) (expanded e) n.text xs) (cond (nat_eq (length xs) 3 && bytes_eq n.text (codes "map")) (three_tree (expanded e) xs) call))) more.0
    ∙ ap (λ i. printed (cond (i && bytes_eq n.text (codes "map")) (three_tree (expanded e) xs) call)) more.1
    ∙ printed-method (expanded e) n.text xs ∙ ap (λ ps. whole (method (shown e) (called n.text ps))) (map_shown (a ∷ b ∷ c ∷ x ∷ es))

pub shown-Method : (e : Draft) (n : Name) (es : List Draft) (d : Nesting) → NoFormFault (method_faults n (length (map seen es)) (first_names (map seen es)) d) →
    shown (draft.Method e n es) ≡ whole (method (shown e) (called n.text (map shown es)))
shown-Method e n es d h = ap printed (expanded-Method e n es) ∙ method_shown e n es d h
