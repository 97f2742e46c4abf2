-- The grammar. Each relation is between the tokens that stand at a place, those that follow the form there, and its tree.
use Rattle.std.specs.Prelude.{◌≡◌, ℕ, ◌+◌, ◌≤◌, pos, neg_ℤ, List, [], ◌∷◌, ◌++◌, Option, Some, None}
use Rattle.cel_values.specs.declared.expr.BinaryOp.{BinaryOp}
use Rattle.cel_values.specs.declared.expr.BinaryOp.TheVariants.{Or, And, Lt, Le, Gt, Ge, Eq, Ne, Within, Add, Sub, Mul, Div, Rem}
use Rattle.cel_tokens.specs.declared.token.Bracket.TheVariants.{Round, Square, Curly}
use Rattle.cel_tokens.specs.declared.token.Name.{Name}
use Rattle.cel_tokens.specs.declared.token.Token.{Token}
use Rattle.cel_grammar.specs.declared.draft.Draft.{Draft}
use Rattle.cel_grammar.specs.declared.draft.Draft.TheViews as draft
use Rattle.cel_grammar.specs.declared.draft.DraftPair.{DraftPair}

-- the operator of two operands that a token stands for
abbrev pub op_of : Token → Option BinaryOp
op_of Token.Minus = Some Sub
op_of (Token.Sign op) = Some op
op_of _ = None

-- the field that a token names
abbrev pub field_of : Token → Option Name
field_of (Token.Name n) = Some n
field_of (Token.Reserved n) = Some n
field_of _ = None

-- a pair of a map literal
abbrev pub pair_of : Draft → Draft → DraftPair
pair_of k v = record { key = k; value = v }

-- how strongly an operator binds
abbrev pub strength : BinaryOp → ℕ
strength Or = 1
strength And = 2
strength Lt = 3
strength Le = 3
strength Gt = 3
strength Ge = 3
strength Eq = 3
strength Ne = 3
strength Within = 3
strength Add = 4
strength Sub = 4
strength Mul = 5
strength Div = 5
strength Rem = 5

mutual
  -- expr is level 0, or 1, and 2, rel 3, add 4, mul 5, unary 6
  pub data Spelled : ℕ → List Token → List Token → Draft → Type 0 where
    -- what stands at a level stands at each weaker one
    up : {l m : ℕ} {from rest : List Token} {e : Draft} → l ≤ m → Spelled m from rest e → Spelled l from rest e
    choice : {from m1 m2 rest : List Token} {c a b : Draft} → Spelled 1 from (Token.Question ∷ m1) c → Spelled 1 m1 (Token.Colon ∷ m2) a → Spelled 0 m2 rest b → Spelled 0 from rest (draft.Cond c a b)
    binary : {t : Token} {op : BinaryOp} {from mid rest : List Token} {a b : Draft} → op_of t ≡ Some op → Spelled (strength op) from (t ∷ mid) a → Spelled (strength op + 1) mid rest b → Spelled (strength op) from rest (draft.Binary op a b)
    nots : {from rest : List Token} {e : Draft} → Nots from rest e → Spelled 6 from rest e
    negs : {from rest : List Token} {e : Draft} → Negs from rest e → Spelled 6 from rest e

  -- a member behind any number of `!`
  pub data Nots : List Token → List Token → Draft → Type 0 where
    unmarked : {from rest : List Token} {e : Draft} → Member from rest e → Nots from rest e
    not_of : {mid rest : List Token} {e : Draft} → Nots mid rest e → Nots (Token.Bang ∷ mid) rest (draft.Not e)

  -- a member behind any number of `-`, of which the last belongs to an integer that stands alone
  pub data Negs : List Token → List Token → Draft → Type 0 where
    unsigned : {from rest : List Token} {e : Draft} → Proper from rest e → Negs from rest e
    signed : {n : ℕ} {rest : List Token} → Negs (Token.Minus ∷ Token.Integer n ∷ rest) rest (Draft.Int (neg_ℤ (pos n)))
    neg_of : {mid rest : List Token} {e : Draft} → Negs mid rest e → Negs (Token.Minus ∷ mid) rest (draft.Neg e)

  -- a member: an integer alone, or another
  pub data Member : List Token → List Token → Draft → Type 0 where
    integer_alone : {n : ℕ} {rest : List Token} → Member (Token.Integer n ∷ rest) rest (Draft.Int (pos n))
    proper : {from rest : List Token} {e : Draft} → Proper from rest e → Member from rest e

  -- a member other than an integer alone
  pub data Proper : List Token → List Token → Draft → Type 0 where
    name : {n : Name} {rest : List Token} → Proper (Token.Name n ∷ rest) rest (Draft.Name n)
    literal : {l : _} {rest : List Token} → Proper (Token.Literal l ∷ rest) rest (Draft.Literal l)
    group : {mid rest : List Token} {e : Draft} → Spelled 0 mid (Token.Close Round ∷ rest) e → Proper (Token.Open Round ∷ mid) rest e
    list : {mid rest : List Token} {es : List Draft} → Items mid (Token.Close Square ∷ rest) es → Proper (Token.Open Square ∷ mid) rest (draft.List es)
    table : {mid rest : List Token} {ps : List DraftPair} → Entries mid (Token.Close Curly ∷ rest) ps → Proper (Token.Open Curly ∷ mid) rest (draft.Map ps)
    call : {n : Name} {mid rest : List Token} {es : List Draft} → Arguments mid (Token.Close Round ∷ rest) es → Proper (Token.Name n ∷ Token.Open Round ∷ mid) rest (draft.Call n es)
    select : {t : Token} {f : Name} {from rest : List Token} {e : Draft} → field_of t ≡ Some f → Member from (Token.Dot ∷ t ∷ rest) e → Proper from rest (draft.Select e f)
    method : {t : Token} {f : Name} {from mid rest : List Token} {e : Draft} {es : List Draft} → field_of t ≡ Some f → Member from (Token.Dot ∷ t ∷ Token.Open Round ∷ mid) e → Arguments mid (Token.Close Round ∷ rest) es → Proper from rest (draft.Method e f es)
    index : {from mid rest : List Token} {e i : Draft} → Member from (Token.Open Square ∷ mid) e → Spelled 0 mid (Token.Close Square ∷ rest) i → Proper from rest (draft.Index e i)

  -- one or more expressions
  pub data Some_of : List Token → List Token → List Draft → Type 0 where
    last_one : {from rest : List Token} {e : Draft} → Spelled 0 from rest e → Some_of from rest (e ∷ [])
    one_more : {from mid rest : List Token} {e : Draft} {es : List Draft} → Spelled 0 from (Token.Comma ∷ mid) e → Some_of mid rest es → Some_of from rest (e ∷ es)

  -- no expression, or some
  pub data Arguments : List Token → List Token → List Draft → Type 0 where
    no_arguments : {rest : List Token} → Arguments rest rest []
    arguments : {from rest : List Token} {es : List Draft} → Some_of from rest es → Arguments from rest es

  -- the same, and a comma may stand behind some
  pub data Items : List Token → List Token → List Draft → Type 0 where
    plain : {from rest : List Token} {es : List Draft} → Arguments from rest es → Items from rest es
    comma_behind : {from rest : List Token} {es : List Draft} → Some_of from (Token.Comma ∷ rest) es → Items from rest es

  -- one or more pairs
  pub data Pairs_of : List Token → List Token → List DraftPair → Type 0 where
    last_pair : {from mid rest : List Token} {k v : Draft} → Spelled 0 from (Token.Colon ∷ mid) k → Spelled 0 mid rest v → Pairs_of from rest (pair_of k v ∷ [])
    pair_more : {from m1 m2 rest : List Token} {k v : Draft} {ps : List DraftPair} → Spelled 0 from (Token.Colon ∷ m1) k → Spelled 0 m1 (Token.Comma ∷ m2) v → Pairs_of m2 rest ps → Pairs_of from rest (pair_of k v ∷ ps)

  -- no pair, or some, behind which a comma may stand
  pub data Entries : List Token → List Token → List DraftPair → Type 0 where
    no_entries : {rest : List Token} → Entries rest rest []
    entries : {from rest : List Token} {ps : List DraftPair} → Pairs_of from rest ps → Entries from rest ps
    entries_comma : {from rest : List Token} {ps : List DraftPair} → Pairs_of from (Token.Comma ∷ rest) ps → Entries from rest ps

-- the tokens spell the tree
abbrev pub TokensSpell : List Token → Draft → Type 0
TokensSpell tokens e = Spelled 0 tokens [] e

-- some expression begins with these tokens
abbrev pub CanBegin : List Token → Type 0
CanBegin tokens = (more : List Token) × (e : Draft) × TokensSpell (tokens ++ more) e
