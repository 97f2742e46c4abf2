-- The first fault of a list of tokens, as a walk.
use Rattle.std.specs.Prelude.{ℕ, ◌+◌, ◌^◌, List, [], ◌∷◌, Bool, true, false, Option, Some, None, if◌then◌else◌, nat_le}
use Rattle.cel_tokens.specs.declared.token.Bracket.TheVariants.{Square}
use Rattle.cel_tokens.specs.declared.token.Token.{Token}
use Rattle.cel_grammar.specs.declared.draft.Draft.{Draft}
use Rattle.cel_grammar.specs.Machine.{State, operand, step, ended}
use Rattle.cel_grammar.specs.declared.error.SyntaxRule.{SyntaxRule}
use Rattle.cel_grammar.specs.Faults.{open_after, head}

-- a tree, the number of the first token that breaks a rule, or an end too early
pub data Verdict : Type 0 where
  spelt : Draft → Verdict
  broken : ℕ → SyntaxRule → Verdict
  unended : Verdict

-- the token extends an integer before it
abbrev pub extends : Option Token → Bool
extends (Some Token.Dot) = true
extends (Some (Token.Open Square)) = true
extends _ = false

-- an integer is out of range, behind a sign of its own or not, and extended or not
abbrev pub is_out : Bool → ℕ → Bool → Bool
is_out true n extended = if nat_le (2 ^ 63 + 1) n then true else if nat_le (2 ^ 63) n then extended else false
is_out false n extended = nat_le (2 ^ 63) n

-- the limit that a token breaks
abbrev pub limit_by : Token → Bool → Bool → ℕ → ℕ → Option SyntaxRule
limit_by (Token.Integer n) extended signed count deep = if is_out signed n extended then Some SyntaxRule.L2 else if nat_le 512 count then Some SyntaxRule.S2 else None
limit_by (Token.Open b) extended signed count deep = if nat_le 512 count then Some SyntaxRule.S2 else if nat_le 32 deep then Some SyntaxRule.S3 else None
limit_by t extended signed count deep = if nat_le 512 count then Some SyntaxRule.S2 else None

-- the limit that a token breaks, by the next one
abbrev pub limit : Token → Option Token → Bool → ℕ → ℕ → Option SyntaxRule
limit t next signed count deep = limit_by t (extends next) signed count deep

-- a `-` in the place of an operand
abbrev pub is_sign : State → Token → Bool
is_sign (operand st) Token.Minus = true
is_sign _ _ = false

-- the verdict at the end of the tokens
abbrev pub ended_in : Option Draft → Verdict
ended_in None = Verdict.unended
ended_in (Some e) = Verdict.spelt e

-- the verdict of a token: the limit that it breaks, or that it cannot follow, or that of the tokens behind it
abbrev pub judge : ℕ → Option SyntaxRule → Option State → (State → Verdict) → Verdict
judge at (Some rule) next go = Verdict.broken at rule
judge at None None go = Verdict.broken at SyntaxRule.S1
judge at None (Some next) go = go next

-- at is how many tokens stand before; signed says that the last of them is a sign
abbrev pub walk : List Token → State → Bool → ℕ → ℕ → Verdict
walk [] s signed at deep = ended_in (ended s)
walk (t ∷ ts) s signed at deep = judge at (limit t (head ts) signed at deep) (step s t) (λ next. walk ts next (is_sign s t) (at + 1) (open_after deep (t ∷ [])))
