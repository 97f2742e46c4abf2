-- The negated integers of each form of a tree.
use Rattle.std.proofs.Common.{◌≡◌, ℕ, ◌+◌, ℤ, List, map, sym, ap, ◌∙◌}
use Rattle.cel_values.specs.declared.expr.BinaryOp.{BinaryOp}
use Rattle.cel_tokens.specs.declared.token.Literal.{Literal}
use Rattle.cel_tokens.specs.declared.token.Name.{Name}
use Rattle.cel_grammar.specs.declared.draft.Draft.{Draft}
use Rattle.cel_grammar.specs.declared.draft.Draft.TheViews as draft
use Rattle.cel_grammar.specs.declared.draft.Draft.TheOpen.{Draft-F}
use Rattle.cel_grammar.specs.declared.draft.Draft.TheFolds.{fold-roll-Draft, fold-roll-DraftPair, fold-DraftPair}
use Rattle.cel_grammar.specs.declared.draft.Draft.TheVariants.{rolls-Literal, rolls-Int, rolls-Name, rolls-List, rolls-Map, rolls-Select, rolls-Index, rolls-Call, rolls-Method, rolls-Not, rolls-Neg, rolls-Binary, rolls-Cond}
use Rattle.cel_grammar.specs.declared.draft.DraftPair.{DraftPair}
use Rattle.cel_syntax.specs.Parentheses.{Negated, negated_step, negated}
use Rattle.cel_syntax.specs.Parentheses as parentheses
use Rattle.cel_syntax.proofs.Layers.{map_same}

-- the negated integers of a pair of a map literal
abbrev pub pair_negated : DraftPair → ℕ
pair_negated p = (negated p.key).count + (negated p.value).count

pub negated-Literal : (l : Literal) → negated (Draft.Literal l) ≡ negated_step (Draft-F.Literal l)
negated-Literal l = ap negated (sym (rolls-Literal l)) ∙ fold-roll-Draft Negated ℕ negated_step parentheses.pair_step (Draft-F.Literal l)

pub negated-Int : (z : ℤ) → negated (Draft.Int z) ≡ negated_step (Draft-F.Int z)
negated-Int z = ap negated (sym (rolls-Int z)) ∙ fold-roll-Draft Negated ℕ negated_step parentheses.pair_step (Draft-F.Int z)

pub negated-Name : (n : Name) → negated (Draft.Name n) ≡ negated_step (Draft-F.Name n)
negated-Name n = ap negated (sym (rolls-Name n)) ∙ fold-roll-Draft Negated ℕ negated_step parentheses.pair_step (Draft-F.Name n)

pub negated-List : (es : List Draft) → negated (draft.List es) ≡ negated_step (Draft-F.List (map negated es))
negated-List es = ap negated (sym (rolls-List es)) ∙ fold-roll-Draft Negated ℕ negated_step parentheses.pair_step (Draft-F.List es)

pair_is_negated : (p : DraftPair) → fold-DraftPair Negated ℕ negated_step parentheses.pair_step p ≡ pair_negated p
pair_is_negated p = fold-roll-DraftPair Negated ℕ negated_step parentheses.pair_step (record { key = p.key; value = p.value })

pub negated-Map : (ps : List DraftPair) → negated (draft.Map ps) ≡ negated_step (Draft-F.Map (map pair_negated ps))
negated-Map ps = ap negated (sym (rolls-Map ps)) ∙ fold-roll-Draft Negated ℕ negated_step parentheses.pair_step (Draft-F.Map ps) ∙ ap (λ fs. negated_step (Draft-F.Map fs)) (map_same _ pair_negated pair_is_negated ps)

pub negated-Select : (e : Draft) (n : Name) → negated (draft.Select e n) ≡ negated_step (Draft-F.Select (negated e) n)
negated-Select e n = ap negated (sym (rolls-Select e n)) ∙ fold-roll-Draft Negated ℕ negated_step parentheses.pair_step (Draft-F.Select e n)

pub negated-Index : (a b : Draft) → negated (draft.Index a b) ≡ negated_step (Draft-F.Index (negated a) (negated b))
negated-Index a b = ap negated (sym (rolls-Index a b)) ∙ fold-roll-Draft Negated ℕ negated_step parentheses.pair_step (Draft-F.Index a b)

pub negated-Call : (n : Name) (es : List Draft) → negated (draft.Call n es) ≡ negated_step (Draft-F.Call n (map negated es))
negated-Call n es = ap negated (sym (rolls-Call n es)) ∙ fold-roll-Draft Negated ℕ negated_step parentheses.pair_step (Draft-F.Call n es)

pub negated-Method : (e : Draft) (n : Name) (es : List Draft) → negated (draft.Method e n es) ≡ negated_step (Draft-F.Method (negated e) n (map negated es))
negated-Method e n es = ap negated (sym (rolls-Method e n es)) ∙ fold-roll-Draft Negated ℕ negated_step parentheses.pair_step (Draft-F.Method e n es)

pub negated-Not : (e : Draft) → negated (draft.Not e) ≡ negated_step (Draft-F.Not (negated e))
negated-Not e = ap negated (sym (rolls-Not e)) ∙ fold-roll-Draft Negated ℕ negated_step parentheses.pair_step (Draft-F.Not e)

pub negated-Neg : (e : Draft) → negated (draft.Neg e) ≡ negated_step (Draft-F.Neg (negated e))
negated-Neg e = ap negated (sym (rolls-Neg e)) ∙ fold-roll-Draft Negated ℕ negated_step parentheses.pair_step (Draft-F.Neg e)

pub negated-Binary : (op : BinaryOp) (a b : Draft) → negated (draft.Binary op a b) ≡ negated_step (Draft-F.Binary op (negated a) (negated b))
negated-Binary op a b = ap negated (sym (rolls-Binary op a b)) ∙ fold-roll-Draft Negated ℕ negated_step parentheses.pair_step (Draft-F.Binary op a b)

pub negated-Cond : (c a b : Draft) → negated (draft.Cond c a b) ≡ negated_step (Draft-F.Cond (negated c) (negated a) (negated b))
negated-Cond c a b = ap negated (sym (rolls-Cond c a b)) ∙ fold-roll-Draft Negated ℕ negated_step parentheses.pair_step (Draft-F.Cond c a b)
