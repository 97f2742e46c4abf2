-- The faults of a text, but for those of macros.
use Rattle.std.specs.Prelude.{◌≡◌, ℕ, ◌+◌, ◌-◌, ◌^◌, ◌≤◌, ◌<◌, List, [], ◌∷◌, ◌++◌, length, map, Option, Some, None, Result, Ok, Err, ◌⊎◌}
use Rattle.cel_tokens.specs.declared.token.Bracket.TheVariants.{Square}
use Rattle.cel_tokens.specs.declared.token.Literal.{Literal}
use Rattle.cel_tokens.specs.declared.token.Token.{Token}
use Rattle.cel_grammar.specs.declared.draft.Draft.{Draft}
use Rattle.cel_tokens.specs.declared.token.Lexeme.{Lexeme}
use Rattle.cel_tokens.specs.Lexing.{Lexes}
use Rattle.cel_grammar.specs.declared.error.SyntaxRule.{SyntaxRule}
use Rattle.cel_grammar.specs.declared.error.ParseError.{ParseError}
use Rattle.cel_grammar.specs.declared.error.ParseError.TheVariants.{Fault, Memory}
use Rattle.cel_grammar.specs.Grammar.{TokensSpell, CanBegin}

-- how many brackets are open behind some tokens, if so many were open before them
abbrev pub open_after : ℕ → List Token → ℕ
open_after n [] = n
open_after n (Token.Open b ∷ ts) = open_after (n + 1) ts
open_after n (Token.Close b ∷ ts) = open_after (n - 1) ts
open_after n (_ ∷ ts) = open_after n ts

-- the last of these tokens is a `-` in the place of an operand
abbrev pub EndsInSign : List Token → Type 0
EndsInSign before = (front : List Token) × (before ≡ front ++ (Token.Minus ∷ [])) × CanBegin (front ++ (Token.Literal Literal.Null ∷ []))

-- this token extends an integer before it
abbrev pub Extends : Option Token → Type 0
Extends (Some Token.Dot) = Unit {0}
Extends (Some (Token.Open b)) = b ≡ Square
Extends _ = ⊥

-- no integer holds 2^63 or more, but for 2^63 behind a sign of its own
abbrev pub IsOutOfRange : List Token → ℕ → Option Token → Type 0
IsOutOfRange before n next = (2 ^ 63 ≤ n) × (n ≡ 2 ^ 63 → EndsInSign before → Extends next)

-- a token breaks a rule, behind the tokens before it and before the next one
abbrev pub Breaks : SyntaxRule → List Token → Token → Option Token → Type 0
Breaks SyntaxRule.L2 before (Token.Integer n) next = IsOutOfRange before n next
Breaks SyntaxRule.L2 before t next = ⊥
Breaks SyntaxRule.S2 before t next = 512 ≤ length before
Breaks SyntaxRule.S3 before (Token.Open b) next = 32 ≤ open_after 0 before
Breaks SyntaxRule.S3 before t next = ⊥
Breaks SyntaxRule.S1 before t next = CanBegin before × (CanBegin (before ++ (t ∷ [])) → ⊥)
Breaks _ before t next = ⊥

-- ---- over texts

-- the tokens without their places
abbrev pub kinds : List Lexeme → List Token
kinds ls = map (λ l. l.token) ls

-- the first of the tokens, if there is one
abbrev pub head : List Token → Option Token
head [] = None
head (t ∷ ts) = Some t

-- the text spells the tree, in which each call is an ordinary call
abbrev pub SpellsDraft : List ℕ → Draft → Type 0
SpellsDraft text e = (tokens : List Lexeme) × Lexes 0 text tokens None × TokensSpell (kinds tokens) e

-- a token of the text that starts at a place breaks a rule
pub record BreaksAt (text : List ℕ) (rule : SyntaxRule) (at : ℕ) : Type 0 where
  pub before : List Lexeme
  pub here : Lexeme
  pub after : List Lexeme
  pub stop : Option ℕ
  pub lexes : Lexes 0 text (before ++ here ∷ after) stop
  pub place : here.at ≡ at
  pub breaks : Breaks rule (kinds before) here.token (head (kinds after))

-- the text ends where more would have to follow
pub record EndsEarly (text : List ℕ) (at : ℕ) : Type 0 where
  pub tokens : List Lexeme
  pub lexes : Lexes 0 text tokens None
  pub place : at ≡ length text
  pub begins : CanBegin (kinds tokens)
  pub unspelled : (e : Draft) → TokensSpell (kinds tokens) e → ⊥

-- the text has a fault against a rule at a place
abbrev pub HasFault : List ℕ → SyntaxRule → ℕ → Type 0
HasFault text SyntaxRule.S6 at = (at ≡ 0) × (4096 < length text)
HasFault text SyntaxRule.L1 at = (tokens : List Lexeme) × Lexes 0 text tokens (Some at)
HasFault text SyntaxRule.S1 at = BreaksAt text SyntaxRule.S1 at ⊎ EndsEarly text at
HasFault text rule at = BreaksAt text rule at

-- the text has no fault at any place
abbrev pub HasNoFault : List ℕ → Type 0
HasNoFault text = (rule : SyntaxRule) (at : ℕ) → HasFault text rule at → ⊥

-- which of several faults at one place counts: the one of the least rank
abbrev pub rank : SyntaxRule → ℕ
rank SyntaxRule.S6 = 0
rank SyntaxRule.L1 = 1
rank SyntaxRule.L2 = 2
rank SyntaxRule.S2 = 3
rank SyntaxRule.S3 = 4
rank SyntaxRule.S1 = 5
rank SyntaxRule.S4 = 6
rank SyntaxRule.S5 = 7

-- one fault stands before another, or is it
abbrev pub ComesFirst : SyntaxRule → ℕ → SyntaxRule → ℕ → Type 0
ComesFirst rule at other place = (at < place) ⊎ ((at ≡ place) × (rank rule ≤ rank other))

-- the fault of the least place, and of the least rank there
pub record IsFirstFault (text : List ℕ) (rule : SyntaxRule) (at : ℕ) : Type 0 where
  pub fault : HasFault text rule at
  pub first : (other : SyntaxRule) (place : ℕ) → HasFault text other place → ComesFirst rule at other place

-- what an error says of a text
abbrev pub IsErrorOf : List ℕ → ParseError → Type 0
IsErrorOf text Memory = Unit {0}
IsErrorOf text (Fault at rule) = IsFirstFault text rule at

-- what is read is this tree, unless memory ran out
abbrev pub IsDraftOf : Draft → Result Draft ParseError → Type 0
IsDraftOf e (Ok x) = x ≡ e
IsDraftOf e (Err Memory) = Unit {0}
IsDraftOf e (Err (Fault at rule)) = ⊥
