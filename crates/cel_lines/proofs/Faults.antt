-- A line has at most one answer, where a text spells at most one tree.
use Rattle.std.proofs.Common.{◌≡◌, ◌≤◌, ◌<◌, ◌⊎◌, inl, inr, ℕ, List, [], ◌∷◌, refl, sym, ◌∙◌, ap, arith}
use Rattle.std.specs.Prelude.{Option, None, Some, if◌then◌else◌, nat_eq}
use Rattle.cel_values.specs.declared.expr.Expr.{Expr}
use Rattle.cel_grammar.specs.declared.draft.Draft.{Draft}
use Rattle.cel_grammar.specs.declared.error.SyntaxRule.{SyntaxRule}
use Rattle.cel_grammar.specs.declared.error.SyntaxRule.TheVariants.{S1, S2, S3, S4, S5, S6, L1, L2}
use Rattle.cel_grammar.specs.Faults.{SpellsDraft, IsFirstFault, rank}
use Rattle.cel_syntax.specs.MacroFaults.{faults_of, first_macro_fault}
use Rattle.cel_syntax.specs.declared.macro_faults.MacroFault.{MacroFault}
use Rattle.cel_syntax.specs.Parse.{Spells, HasNoSyntaxFault, IsMacroFault, IsFirstSyntaxFault}
use Rattle.cel_lines.specs.Answers.{Answers, AnswersAsked, AnswersExpression, AreAnswers, Asked, asked, syntax_line, tree_lines}
use Rattle.cel_eval.specs.Denotation.{Env}

-- ---- one first fault

of_rank : ℕ → SyntaxRule
of_rank n = if nat_eq n 0 then S6 else (if nat_eq n 1 then L1 else (if nat_eq n 2 then L2 else (if nat_eq n 3 then S2
    else (if nat_eq n 4 then S3 else (if nat_eq n 5 then S1 else (if nat_eq n 6 then S4 else S5))))))

of_rank-rank : (rule : SyntaxRule) → of_rank (rank rule) ≡ rule
unfolding of_rank
of_rank-rank S1 = refl
of_rank-rank S2 = refl
of_rank-rank S3 = refl
of_rank-rank S4 = refl
of_rank-rank S5 = refl
of_rank-rank S6 = refl
of_rank-rank L1 = refl
of_rank-rank L2 = refl

same_rank : (rule other : SyntaxRule) → rank rule ≡ rank other → rule ≡ other
same_rank rule other same = sym (of_rank-rank rule) ∙ ap of_rank same ∙ of_rank-rank other

antisymmetric : (at place m n : ℕ) → (at < place) ⊎ ((at ≡ place) × (m ≤ n)) → (place < at) ⊎ ((place ≡ at) × (n ≤ m)) → (at ≡ place) × (m ≡ n)
antisymmetric at place m n (inl before) (inl after) = absurd (omega (arith, before, after))
antisymmetric at place m n (inl before) (inr after) = absurd (omega (arith, before, after.0))
antisymmetric at place m n (inr before) (inl after) = absurd (omega (arith, before.0, after))
antisymmetric at place m n (inr before) (inr after) = (before.0, omega (arith, before.1, after.1))

one_first : (text : List ℕ) (rule other : SyntaxRule) (at place : ℕ) → IsFirstFault text rule at → IsFirstFault text other place → (at ≡ place) × (rule ≡ other)
one_first text rule other at place first first' =
    let same = antisymmetric at place (rank rule) (rank other) (first.first other place first'.fault) (first'.first rule at first.fault) in
    (same.0, same_rank rule other same.1)

some_same : (a b : MacroFault) → Some a ≡ Some b → a ≡ b
some_same a b same = cc same

module _ (one_draft : (text : List ℕ) (a b : Draft) → SpellsDraft text a → SpellsDraft text b → a ≡ b)
    (one_tree : (text : List ℕ) (a b : Expr) → Spells text a → Spells text b → a ≡ b) where
  one_macro : (text : List ℕ) (rule other : SyntaxRule) (at place : ℕ) → IsMacroFault text rule at → IsMacroFault text other place → (at ≡ place) × (rule ≡ other)
  one_macro text rule other at place fault fault' =
      let same : Some (record { at = at; rule = rule }) ≡ Some (record { at = place; rule = other }) =
      sym fault.3 ∙ ap (λ (d : Draft). first_macro_fault (faults_of d)) (one_draft text fault.1 fault'.1 fault.2 fault'.2) ∙ fault'.3 in
      let inner : record { at = at; rule = rule } ≡ record { at = place; rule = other } = some_same _ _ same in
      (ap (λ (f : MacroFault). f.at) inner, ap (λ (f : MacroFault). f.rule) inner)

  one_fault : (text : List ℕ) (rule other : SyntaxRule) (at place : ℕ) → IsFirstSyntaxFault text rule at → IsFirstSyntaxFault text other place → (at ≡ place) × (rule ≡ other)
  one_fault text rule other at place (inl first) (inl first') = one_first text rule other at place first first'
  one_fault text rule other at place (inl first) (inr fault') = absurd (fault'.0 rule at first.fault)
  one_fault text rule other at place (inr fault) (inl first') = absurd (fault.0 other place first'.fault)
  one_fault text rule other at place (inr fault) (inr fault') = one_macro text rule other at place fault fault'

  -- what spells a tree has no fault
  not_both : (text : List ℕ) (tree : Expr) (rule : SyntaxRule) (at : ℕ) → Spells text tree → HasNoSyntaxFault text → IsFirstSyntaxFault text rule at → ⊥
  not_both text tree rule at spells none (inl first) = none.0 rule at first.fault
  not_both text tree rule at spells none (inr fault) =
      let same = sym fault.3 ∙ ap first_macro_fault (none.1 fault.1 fault.2) in cc same

  to_expression : (expression : List ℕ) (env : Env) (a b : List ℕ) → AnswersExpression expression env a → AnswersExpression expression env b → a ≡ b
  to_expression expression env a b (inl tree) (inl tree') = tree.3 ∙ ap (λ (t : Expr). tree_lines t env) (one_tree expression tree.0 tree'.0 tree.1 tree'.1) ∙ sym tree'.3
  to_expression expression env a b (inl tree) (inr fault') = absurd (not_both expression tree.0 fault'.1 fault'.0 tree.1 tree.2 fault'.2)
  to_expression expression env a b (inr fault) (inl tree') = absurd (not_both expression tree'.0 fault.1 fault.0 tree'.1 tree'.2 fault.2)
  to_expression expression env a b (inr fault) (inr fault') =
      let same = one_fault expression fault.1 fault'.1 fault.0 fault'.0 fault.2 fault'.2 in
      fault.3 ∙ ap (λ (at : ℕ). syntax_line at fault.1) same.0 ∙ ap (λ (rule : SyntaxRule). syntax_line fault'.0 rule) same.1 ∙ sym fault'.3

  to_asked : (asked : Option Asked) (a b : List ℕ) → AnswersAsked asked a → AnswersAsked asked b → a ≡ b
  to_asked None a b is is' = is ∙ sym is'
  to_asked (Some ask) a b is is' = to_expression ask.expression ask.env a b is is'

  pub one_answer : (line text other : List ℕ) → Answers line text → Answers line other → text ≡ other
  one_answer line text other is is' = to_asked (asked line) text other is is'

  pub answers : (lines texts others : List (List ℕ)) → AreAnswers lines texts → AreAnswers lines others → texts ≡ others
  answers [] [] [] are are' = refl
  answers [] [] (o ∷ others) are are' = absurd are'
  answers [] (t ∷ texts) others are are' = absurd are
  answers (l ∷ lines) [] others are are' = absurd are
  answers (l ∷ lines) (t ∷ texts) [] are are' = absurd are'
  answers (l ∷ lines) (t ∷ texts) (o ∷ others) are are' = cc (one_answer l t o are.0 are'.0, answers lines texts others are.1 are'.1)
