-- What a walk over tokens answers of a text.
use Rattle.std.specs.Prelude.{◌≡◌, ℕ, zero, suc, List, [], ◌∷◌, Option, Some, None, Result, Ok, Err}
use Rattle.cel_tokens.specs.declared.token.Lexeme.{Lexeme}
use Rattle.cel_grammar.specs.declared.draft.Draft.{Draft}
use Rattle.cel_grammar.specs.declared.error.SyntaxRule.{SyntaxRule}
use Rattle.cel_grammar.specs.declared.error.ParseError.{ParseError}
use Rattle.cel_grammar.specs.declared.error.ParseError.TheVariants.{Fault, Memory}
use Rattle.cel_grammar.specs.declared.frames.Frame.{Frame}
use Rattle.cel_grammar.specs.declared.frames.Place.{Place}
use Rattle.cel_grammar.specs.Machine.{State}
use Rattle.cel_grammar.specs.Places.{state_of}
use Rattle.cel_grammar.specs.Walk.{Verdict, spelt, broken, unended}

-- where the token of a number starts
abbrev pub place_of : List Lexeme → ℕ → ℕ
place_of [] k = 0
place_of (l ∷ ls) zero = l.at
place_of (l ∷ ls) (suc k) = place_of ls k

-- at the end of the tokens: they stop there, or the text ends
abbrev pub at_end : Option ℕ → ℕ → Result Draft (ℕ × SyntaxRule) → Result Draft (ℕ × SyntaxRule)
at_end (Some at) size r = Err (at, SyntaxRule.L1)
at_end None size r = r

-- the tree of the tokens, or the place and the rule of the first fault
abbrev pub answer : List Lexeme → Option ℕ → ℕ → Verdict → Result Draft (ℕ × SyntaxRule)
answer ls stop size (broken k rule) = Err (place_of ls k, rule)
answer ls stop size (spelt e) = at_end stop size (Ok e)
answer ls stop size unended = at_end stop size (Err (size, SyntaxRule.S1))

-- a result is this answer, unless memory ran out
abbrev pub Gives : Result Draft ParseError → Result Draft (ℕ × SyntaxRule) → Type 0
Gives (Ok e) a = a ≡ Ok e
Gives (Err Memory) a = Unit {0}
Gives (Err (Fault at rule)) a = a ≡ Err (at, rule)

-- what is answered behind the last token
abbrev pub closing : Option ℕ → ℕ → Option Draft → Result Draft (ℕ × SyntaxRule)
closing stop size None = at_end stop size (Err (size, SyntaxRule.S1))
closing stop size (Some e) = at_end stop size (Ok e)

-- the rule that a token breaks, by its limit or by the state behind it
abbrev pub IsJudged : Option SyntaxRule → Option State → SyntaxRule → Type 0
IsJudged (Some limit) next rule = limit ≡ rule
IsJudged None next rule = (next ≡ None) × (rule ≡ SyntaxRule.S1)

-- what one token leads to
abbrev pub Advances : Lexeme → Option SyntaxRule → Option State → List Frame → Result Place ParseError → Type 0
Advances l limit next fs (Ok place) = (limit ≡ None) × (next ≡ Some (state_of place fs))
Advances l limit next fs (Err Memory) = Unit {0}
Advances l limit next fs (Err (Fault at rule)) = (at ≡ l.at) × IsJudged limit next rule
