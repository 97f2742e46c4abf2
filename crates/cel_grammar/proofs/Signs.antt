-- Where the machine expects an operand behind a sign, and where it stands behind an integer.
use Rattle.std.proofs.Common.{◌≡◌, Bool, true, false, cond, List, [], ◌∷◌, Option, Some, None, IfSome, refl}
use Rattle.cel_tokens.specs.declared.token.Bracket.{Bracket}
use Rattle.cel_tokens.specs.declared.token.Bracket.TheVariants.{Round, Square, Curly}
use Rattle.cel_tokens.specs.declared.token.Name.{Name}
use Rattle.cel_tokens.specs.declared.token.Token.{Token}
use Rattle.cel_grammar.specs.declared.draft.Draft.{Draft}
use Rattle.cel_grammar.specs.declared.frames.Pending.TheVariants.{Left, Bang, Minus, Otherwise}
use Rattle.cel_grammar.specs.declared.frames.Frame.{Frame}
use Rattle.cel_grammar.specs.declared.frames.Frame.TheVariants.{Waiting, Chosen, One, Several, Key, Value}
use Rattle.cel_grammar.specs.declared.frames.Last.{Last}
use Rattle.cel_grammar.specs.Grammar.{field_of}
use Rattle.cel_grammar.specs.Machine.{State, operand, dotted, after, one_closer, all_closer, settle, same, closed_by, can_close, closed_empty, at_colon, at_comma, at_question, at_bang, at_minus, opened, called, opened_after, at_operand, at_dotted, at_after, step}
use Rattle.cel_grammar.specs.Walk.{is_sign}

-- an operand is expected, and `-` is innermost
abbrev pub signs : State → Bool
signs (operand (Waiting Minus ∷ st)) = true
signs _ = false

-- the state stands behind an Last.Integer, which this token is
abbrev pub IsBehind : State → Token → Type 0
IsBehind (after (Last.Integer n) st) t = t ≡ Token.Integer n
IsBehind _ t = Unit {0}

abbrev Leads : Bool → Token → State → Type 0
Leads sign t next = (signs next ≡ sign) × IsBehind next t

same_leads : (b c : Bracket) (t : Token) (next : State) → Leads false t next → IfSome (same b c (Some next)) (Leads false t)
same_leads Round Round t next h = h
same_leads Round Square t next h = tt
same_leads Round Curly t next h = tt
same_leads Square Round t next h = tt
same_leads Square Square t next h = h
same_leads Square Curly t next h = tt
same_leads Curly Round t next h = tt
same_leads Curly Square t next h = tt
same_leads Curly Curly t next h = h

bang_leads : (t : Token) (st : List Frame) → IfSome (at_bang st) (Leads false t)
bang_leads t [] = (refl, tt)
bang_leads t (Waiting (Left a op) ∷ st) = (refl, tt)
bang_leads t (Waiting Bang ∷ st) = (refl, tt)
bang_leads t (Waiting Minus ∷ st) = tt
bang_leads t (Waiting (Otherwise c a) ∷ st) = (refl, tt)
bang_leads t (Chosen c ∷ st) = (refl, tt)
bang_leads t (One k ∷ st) = (refl, tt)
bang_leads t (Several k es ∷ st) = (refl, tt)
bang_leads t (Key ps ∷ st) = (refl, tt)
bang_leads t (Value ps k ∷ st) = (refl, tt)

minus_leads : (t : Token) (st : List Frame) → IfSome (at_minus st) (Leads true t)
minus_leads t [] = (refl, tt)
minus_leads t (Waiting (Left a op) ∷ st) = (refl, tt)
minus_leads t (Waiting Bang ∷ st) = tt
minus_leads t (Waiting Minus ∷ st) = (refl, tt)
minus_leads t (Waiting (Otherwise c a) ∷ st) = (refl, tt)
minus_leads t (Chosen c ∷ st) = (refl, tt)
minus_leads t (One k ∷ st) = (refl, tt)
minus_leads t (Several k es ∷ st) = (refl, tt)
minus_leads t (Key ps ∷ st) = (refl, tt)
minus_leads t (Value ps k ∷ st) = (refl, tt)

question_leads : (t : Token) (e : Draft) (st : List Frame) → IfSome (at_question e st) (Leads false t)
question_leads t e [] = (refl, tt)
question_leads t e (Waiting (Left a op) ∷ st) = (refl, tt)
question_leads t e (Waiting Bang ∷ st) = (refl, tt)
question_leads t e (Waiting Minus ∷ st) = (refl, tt)
question_leads t e (Waiting (Otherwise c a) ∷ st) = (refl, tt)
question_leads t e (Chosen c ∷ st) = tt
question_leads t e (One k ∷ st) = (refl, tt)
question_leads t e (Several k es ∷ st) = (refl, tt)
question_leads t e (Key ps ∷ st) = (refl, tt)
question_leads t e (Value ps k ∷ st) = (refl, tt)

colon_leads : (t : Token) (e : Draft) (st : List Frame) → IfSome (at_colon e st) (Leads false t)
colon_leads t e [] = tt
colon_leads t e (Waiting (Left a op) ∷ st) = tt
colon_leads t e (Waiting Bang ∷ st) = tt
colon_leads t e (Waiting Minus ∷ st) = tt
colon_leads t e (Waiting (Otherwise c a) ∷ st) = tt
colon_leads t e (Chosen c ∷ st) = (refl, tt)
colon_leads t e (One k ∷ st) = tt
colon_leads t e (Several k es ∷ st) = tt
colon_leads t e (Key ps ∷ st) = (refl, tt)
colon_leads t e (Value ps k ∷ st) = tt

comma_leads : (t : Token) (e : Draft) (st : List Frame) → IfSome (at_comma e st) (Leads false t)
comma_leads t e [] = tt
comma_leads t e (Waiting (Left a op) ∷ st) = tt
comma_leads t e (Waiting Bang ∷ st) = tt
comma_leads t e (Waiting Minus ∷ st) = tt
comma_leads t e (Waiting (Otherwise c a) ∷ st) = tt
comma_leads t e (Chosen c ∷ st) = tt
comma_leads t e (One k ∷ st) = tt
comma_leads t e (Several k es ∷ st) = (refl, tt)
comma_leads t e (Key ps ∷ st) = tt
comma_leads t e (Value ps k ∷ st) = (refl, tt)

closer_leads : (t : Token) (b : Bracket) (e : Draft) (st : List Frame) → IfSome (closed_by b e st) (Leads false t)
closer_leads t b e [] = tt
closer_leads t b e (Waiting (Left a op) ∷ st) = tt
closer_leads t b e (Waiting Bang ∷ st) = tt
closer_leads t b e (Waiting Minus ∷ st) = tt
closer_leads t b e (Waiting (Otherwise c a) ∷ st) = tt
closer_leads t b e (Chosen c ∷ st) = tt
closer_leads t b e (One k ∷ st) = same_leads b (one_closer k) t _ (refl, tt)
closer_leads t b e (Several k es ∷ st) = same_leads b (all_closer k) t _ (refl, tt)
closer_leads t b e (Key ps ∷ st) = tt
closer_leads t b e (Value ps k ∷ st) = same_leads b Curly t _ (refl, tt)

chosen_leads : (t : Token) (b : Bracket) (c : Bracket) (next : State) (x : Bool) → Leads false t next → IfSome (cond x (same b c (Some next)) None) (Leads false t)
chosen_leads t b c next true h = same_leads b c t next h
chosen_leads t b c next false h = tt

empty_leads : (t : Token) (b : Bracket) (st : List Frame) → IfSome (closed_empty b st) (Leads false t)
empty_leads t b [] = tt
empty_leads t b (Waiting (Left a op) ∷ st) = tt
empty_leads t b (Waiting Bang ∷ st) = tt
empty_leads t b (Waiting Minus ∷ st) = tt
empty_leads t b (Waiting (Otherwise c a) ∷ st) = tt
empty_leads t b (Chosen c ∷ st) = tt
empty_leads t b (One k ∷ st) = tt
empty_leads t b (Several k es ∷ st) = chosen_leads t b (all_closer k) _ (can_close k es) (refl, tt)
empty_leads t b (Key ps ∷ st) = same_leads b Curly t _ (refl, tt)
empty_leads t b (Value ps k ∷ st) = tt

called_leads : (t : Token) (last : Last) (st : List Frame) → IfSome (called last st) (Leads false t)
called_leads t (Last.Integer n) st = tt
called_leads t (Last.Name n) st = (refl, tt)
called_leads t (Last.Field e f) st = (refl, tt)
called_leads t (Last.Whole e) st = tt

opener_leads : (t : Token) (b : Bracket) (last : Last) (st : List Frame) → IfSome (opened_after b last st) (Leads false t)
opener_leads t Round last st = called_leads t last st
opener_leads t Square last st = (refl, tt)
opener_leads t Curly last st = tt

opened_leads : (t : Token) (b : Bracket) (st : List Frame) → Leads false t (opened b st)
opened_leads t Round st = (refl, tt)
opened_leads t Square st = (refl, tt)
opened_leads t Curly st = (refl, tt)

dotted_leads : (t : Token) (o : Option Name) (e : Draft) (st : List Frame) → IfSome (at_dotted o e st) (Leads false t)
dotted_leads t None e st = tt
dotted_leads t (Some f) e st = (refl, tt)

operand_leads : (t : Token) (st : List Frame) → IfSome (at_operand t st) (Leads (is_sign (operand st) t) t)
operand_leads (Token.Name n) st = (refl, tt)
operand_leads (Token.Reserved n) st = tt
operand_leads (Token.Integer n) st = (refl, refl)
operand_leads (Token.Literal l) st = (refl, tt)
operand_leads (Token.Sign op) st = tt
operand_leads Token.Minus st = minus_leads Token.Minus st
operand_leads Token.Bang st = bang_leads Token.Bang st
operand_leads Token.Question st = tt
operand_leads Token.Colon st = tt
operand_leads Token.Dot st = tt
operand_leads Token.Comma st = tt
operand_leads (Token.Open b) st = opened_leads (Token.Open b) b st
operand_leads (Token.Close b) st = empty_leads (Token.Close b) b st

after_leads : (t : Token) (last : Last) (st : List Frame) → IfSome (at_after t last st) (Leads false t)
after_leads (Token.Name n) last st = tt
after_leads (Token.Reserved n) last st = tt
after_leads (Token.Integer n) last st = tt
after_leads (Token.Literal l) last st = tt
after_leads (Token.Sign op) last st = (refl, tt)
after_leads Token.Minus last st = (refl, tt)
after_leads Token.Bang last st = tt
after_leads Token.Question last st = let r = settle 1 last st in question_leads Token.Question r.0 r.1
after_leads Token.Colon last st = let r = settle 0 last st in colon_leads Token.Colon r.0 r.1
after_leads Token.Dot last st = (refl, tt)
after_leads Token.Comma last st = let r = settle 0 last st in comma_leads Token.Comma r.0 r.1
after_leads (Token.Open b) last st = opener_leads (Token.Open b) b last st
after_leads (Token.Close b) last st = let r = settle 0 last st in closer_leads (Token.Close b) b r.0 r.1

-- `-` is innermost where an operand is expected exactly behind a sign, and only an Last.Integer leads behind an Last.Integer
pub step_leads : (s : State) (t : Token) → IfSome (step s t) (λ next. (signs next ≡ is_sign s t) × IsBehind next t)
step_leads (operand st) t = operand_leads t st
step_leads (dotted e st) t = dotted_leads t (field_of t) e st
step_leads (after last st) t = after_leads t last st
