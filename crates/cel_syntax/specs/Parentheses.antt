-- How many parentheses a text has, and where a rule of printing alone asks for them.
use Rattle.std.specs.Prelude.{ℕ, suc, ◌+◌, List, [], ◌∷◌, Bool, true, false}
use Rattle.cel_tokens.specs.declared.token.Bracket.TheVariants.{Round}
use Rattle.cel_tokens.specs.declared.token.Token.{Token}
use Rattle.cel_grammar.specs.declared.draft.Draft.{Draft, fold-Draft}
use Rattle.cel_grammar.specs.declared.draft.Draft.TheOpen.{Draft-F, DraftPair-F}

-- how many round brackets open among some tokens
abbrev pub openings : List Token → ℕ
openings [] = 0
openings (Token.Open Round ∷ ts) = suc (openings ts)
openings (_ ∷ ts) = openings ts

-- whether a tree is an integer, and how many integers in it are operands of unary `-`
pub record Negated : Type 0 where
  pub integer : Bool
  pub count : ℕ

-- a tree that is no integer
abbrev pub compound : ℕ → Negated
compound n = record { integer = false; count = n }

-- one more for an integer
abbrev pub own : Bool → ℕ
own true = 1
own false = 0

-- the sum over parts
abbrev pub total : List Negated → ℕ
total [] = 0
total (n ∷ ns) = n.count + total ns

-- the sum over pairs
abbrev pub pair_total : List ℕ → ℕ
pair_total [] = 0
pair_total (n ∷ ns) = n + pair_total ns

-- the negated integers of each form, by those of its parts
abbrev pub negated_step : Draft-F Negated ℕ → Negated
negated_step (Draft-F.Literal l) = compound 0
negated_step (Draft-F.Int z) = record { integer = true; count = 0 }
negated_step (Draft-F.Name n) = compound 0
negated_step (Draft-F.List es) = compound (total es)
negated_step (Draft-F.Map ps) = compound (pair_total ps)
negated_step (Draft-F.Select e n) = compound e.count
negated_step (Draft-F.Index a b) = compound (a.count + b.count)
negated_step (Draft-F.Call n es) = compound (total es)
negated_step (Draft-F.Method e n es) = compound (e.count + total es)
negated_step (Draft-F.Not e) = compound e.count
negated_step (Draft-F.Neg e) = compound (own e.integer + e.count)
negated_step (Draft-F.Binary op a b) = compound (a.count + b.count)
negated_step (Draft-F.Cond c a b) = compound (c.count + (a.count + b.count))

-- the negated integers of a pair
abbrev pub pair_step : DraftPair-F Negated ℕ → ℕ
pair_step p = p.key.count + p.value.count

-- the negated integers of a tree of ordinary calls
abbrev pub negated : Draft → Negated
negated = fold-Draft Negated ℕ negated_step pair_step

-- how many integers of a tree are operands of unary `-`, which is where parentheses stand by a rule of printing
abbrev pub negated_integers : Draft → ℕ
negated_integers e = (negated e).count
