-- The faults of macros in a tree of ordinary calls.
use Rattle.std.specs.Prelude.{◌≢◌, ℕ, List, [], ◌∷◌, ◌++◌, length, Bool, true, false, nat_eq, ◌&&◌, ◌||◌, if◌then◌else◌, is_some, codes, nat_lt, Option, Some, None}
use Rattle.std.specs.List.{AllByRecursion}
use Rattle.std.specs.Str.{bytes_eq}
use Rattle.cel_tokens.specs.declared.token.Name.{Name}
use Rattle.cel_grammar.specs.declared.error.SyntaxRule.{SyntaxRule}
use Rattle.cel_grammar.specs.declared.draft.Draft.{Draft, fold-Draft}
use Rattle.cel_grammar.specs.declared.draft.DraftPair.{DraftPair}
use Rattle.cel_grammar.specs.declared.draft.Draft.TheOpen.{Draft-F, DraftPair-F}
use Rattle.cel_syntax.specs.declared.macro_faults.Nesting.{Nesting}
use Rattle.cel_syntax.specs.declared.macro_faults.MacroFault.{MacroFault}
use Rattle.cel_grammar.specs.Faults.{rank}
use Rattle.cel_syntax.specs.Macros.{kind_of}

-- what a macro asks of a part, and the faults in it, by what it is inside of
pub record Seen : Type 0 where
  pub selects : Bool
  pub names : Bool
  pub faults : Nesting → List MacroFault

-- a part that is no selection and no name
abbrev pub other : (Nesting → List MacroFault) → Seen
other f = record { selects = false; names = false; faults = f }

-- inside one macro more
abbrev pub deeper : Nesting → Nesting
deeper Nesting.Outside = Nesting.Inside
deeper Nesting.Inside = Nesting.Deep
deeper Nesting.Deep = Nesting.Deep

-- the faults of parts, one after another
abbrev pub all_faults : List Seen → Nesting → List MacroFault
all_faults [] d = []
all_faults (s ∷ ss) d = s.faults d ++ all_faults ss d

-- the faults of pairs, one after another
abbrev pub pair_faults : List (Nesting → List MacroFault) → Nesting → List MacroFault
pair_faults [] d = []
pair_faults (f ∷ fs) d = f d ++ pair_faults fs d

-- a call with a macro's name, style and number of arguments
abbrev pub is_has : List ℕ → ℕ → Bool
is_has n count = nat_eq count 1 && bytes_eq n (codes "has")

-- a method call with the name and the number of arguments of a macro
abbrev pub is_macro : List ℕ → ℕ → Bool
is_macro n count = (nat_eq count 2 && is_some (kind_of n)) || (nat_eq count 3 && bytes_eq n (codes "map"))

-- a fault, where a condition does not hold
abbrev pub unless : Bool → ℕ → SyntaxRule → List MacroFault
unless true at rule = []
unless false at rule = record { at = at; rule = rule } ∷ []

-- the first argument is a selection
abbrev pub first_selects : List Seen → Bool
first_selects [] = false
first_selects (s ∷ ss) = s.selects

-- the first argument is a name alone
abbrev pub first_names : List Seen → Bool
first_names [] = false
first_names (s ∷ ss) = s.names

-- a macro may stand here: in none, or in the arguments of one that is in none
abbrev pub is_shallow : Nesting → Bool
is_shallow Nesting.Outside = true
is_shallow Nesting.Inside = true
is_shallow Nesting.Deep = false

-- the faults of a call itself
abbrev pub call_faults : Name → ℕ → Bool → List MacroFault
call_faults n count selects = if is_has n.text count then unless selects n.at SyntaxRule.S4 else []

-- the faults of a method call itself: its form, and that it stands too deep
abbrev pub method_faults : Name → ℕ → Bool → Nesting → List MacroFault
method_faults n count names d = if is_macro n.text count then unless names n.at SyntaxRule.S4 ++ unless (is_shallow d) n.at SyntaxRule.S5 else []

-- what the arguments of a method call are inside of
abbrev pub inside : Name → ℕ → Nesting → Nesting
inside n count d = if is_macro n.text count then deeper d else d

-- what is seen of each form, by what is seen of its parts
abbrev pub seen_step : Draft-F Seen (Nesting → List MacroFault) → Seen
seen_step (Draft-F.Literal l) = other (λ d. [])
seen_step (Draft-F.Int z) = other (λ d. [])
seen_step (Draft-F.Name n) = record { selects = false; names = true; faults = λ d. [] }
seen_step (Draft-F.List es) = other (all_faults es)
seen_step (Draft-F.Map ps) = other (pair_faults ps)
seen_step (Draft-F.Select e n) = record { selects = true; names = false; faults = e.faults }
seen_step (Draft-F.Index a b) = other (λ d. a.faults d ++ b.faults d)
seen_step (Draft-F.Call n es) = other (λ d. call_faults n (length es) (first_selects es) ++ all_faults es d)
seen_step (Draft-F.Method e n es) = other (λ d. e.faults d ++ (method_faults n (length es) (first_names es) d ++ all_faults es (inside n (length es) d)))
seen_step (Draft-F.Not e) = other e.faults
seen_step (Draft-F.Neg e) = other e.faults
seen_step (Draft-F.Binary op a b) = other (λ d. a.faults d ++ b.faults d)
seen_step (Draft-F.Cond c a b) = other (λ d. c.faults d ++ (a.faults d ++ b.faults d))

-- the faults of a pair, by what is seen of its parts
abbrev pub pair_step : DraftPair-F Seen (Nesting → List MacroFault) → Nesting → List MacroFault
pair_step p = λ d. p.key.faults d ++ p.value.faults d

-- what is seen of a tree of ordinary calls
abbrev pub seen : Draft → Seen
seen = fold-Draft Seen (Nesting → List MacroFault) seen_step pair_step

-- the faults of a pair of a map literal
abbrev pub pair_seen : DraftPair → Nesting → List MacroFault
pair_seen p = λ d. (seen p.key).faults d ++ (seen p.value).faults d

-- the faults of macros in a whole tree
abbrev pub faults_of : Draft → List MacroFault
faults_of e = (seen e).faults Nesting.Outside

-- none of these faults is of a macro's form
abbrev pub NoFormFault : List MacroFault → Type 0
NoFormFault faults = AllByRecursion (λ f. f.rule ≢ SyntaxRule.S4) faults

-- one fault stands before another, or at its place with a lesser rank
abbrev pub is_before : MacroFault → MacroFault → Bool
is_before f g = nat_lt f.at g.at || (nat_eq f.at g.at && nat_lt (rank f.rule) (rank g.rule))

-- the first of a fault and others
abbrev pub least : MacroFault → List MacroFault → MacroFault
least best [] = best
least best (f ∷ fs) = least (if is_before f best then f else best) fs

-- the first of the faults
abbrev pub first_macro_fault : List MacroFault → Option MacroFault
first_macro_fault [] = None
first_macro_fault (f ∷ fs) = Some (least f fs)
