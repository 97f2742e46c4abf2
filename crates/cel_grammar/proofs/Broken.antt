-- What a walk over tokens tells of them.
use Rattle.std.specs.Prelude.{◌≡◌, ℕ, zero, suc, ◌+◌, List, [], ◌∷◌, ◌++◌, Bool, true, false, Option}
use Rattle.cel_tokens.specs.declared.token.Token.{Token}
use Rattle.cel_grammar.specs.declared.draft.Draft.{Draft}
use Rattle.cel_grammar.specs.declared.error.SyntaxRule.{SyntaxRule}
use Rattle.cel_grammar.specs.Faults.{Breaks, head}
use Rattle.cel_grammar.specs.Grammar.{TokensSpell, CanBegin}
use Rattle.cel_grammar.specs.Machine.{State, operand}
use Rattle.cel_grammar.specs.Walk.{Verdict}

-- a token breaks no limit
abbrev pub BreaksNoLimit : List Token → Token → Option Token → Type 0
BreaksNoLimit before t next = (Breaks SyntaxRule.L2 before t next → ⊥) × (Breaks SyntaxRule.S2 before t next → ⊥) × (Breaks SyntaxRule.S3 before t next → ⊥)

-- the rule is the first in the list that the token breaks
abbrev pub BreaksFirst : SyntaxRule → List Token → Token → Option Token → Type 0
BreaksFirst SyntaxRule.L2 before t next = Breaks SyntaxRule.L2 before t next
BreaksFirst SyntaxRule.S2 before t next = (Breaks SyntaxRule.L2 before t next → ⊥) × Breaks SyntaxRule.S2 before t next
BreaksFirst SyntaxRule.S3 before t next = (Breaks SyntaxRule.L2 before t next → ⊥) × (Breaks SyntaxRule.S2 before t next → ⊥) × Breaks SyntaxRule.S3 before t next
BreaksFirst SyntaxRule.S1 before t next = BreaksNoLimit before t next × Breaks SyntaxRule.S1 before t next
BreaksFirst _ before t next = ⊥

-- a token breaks no rule
abbrev pub BreaksNone : List Token → Token → Option Token → Type 0
BreaksNone before t next = BreaksNoLimit before t next × CanBegin (before ++ (t ∷ []))

-- behind the tokens before, the token of number k breaks the rule first, and none before it breaks one
abbrev pub IsFirstBreak : List Token → List Token → ℕ → SyntaxRule → Type 0
IsFirstBreak before [] k rule = ⊥
IsFirstBreak before (t ∷ ts) zero rule = BreaksFirst rule before t (head ts)
IsFirstBreak before (t ∷ ts) (suc k) rule = BreaksNone before t (head ts) × IsFirstBreak (before ++ (t ∷ [])) ts k rule

-- none of the tokens breaks a rule
abbrev pub IsClean : List Token → List Token → Type 0
IsClean before [] = Unit {0}
IsClean before (t ∷ ts) = BreaksNone before t (head ts) × IsClean (before ++ (t ∷ [])) ts

-- what a verdict says of the tokens from a place on
abbrev pub Says : Verdict → List Token → List Token → ℕ → Type 0
Says (Verdict.spelt e) before ts at = IsClean before ts × TokensSpell (before ++ ts) e
Says (Verdict.broken k rule) before ts at = (j : ℕ) × (k ≡ at + j) × IsFirstBreak before ts j rule
Says Verdict.unended before ts at = IsClean before ts × ((e : Draft) → TokensSpell (before ++ ts) e → ⊥)

-- an operand is to come
abbrev pub is_operand : State → Bool
is_operand (operand st) = true
is_operand _ = false
