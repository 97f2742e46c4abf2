-- Texts that are read as certain tokens, wherever they begin and whatever follows them.
use Rattle.std.proofs.Common.{◌≡◌, ℕ, ◌+◌, Bool, true, not, List, [], ◌∷◌, ◌++◌, length, Some, None, codes, refl, sym, subst, arith, append_assoc, length-append}
use Rattle.std.proofs.lemmas.Bool.Decides.{nat_tests}
use Rattle.cel_values.specs.declared.expr.BinaryOp.{BinaryOp}
use Rattle.cel_values.specs.declared.expr.BinaryOp.TheVariants.{Or, And, Lt, Le, Gt, Ge, Eq, Ne, Within, Add, Sub, Mul, Div, Rem}
use Rattle.cel_tokens.specs.declared.token.Lexeme.{Lexeme}
use Rattle.cel_tokens.specs.declared.token.Name.{Name}
use Rattle.cel_tokens.specs.declared.token.Token.{Token}
use Rattle.cel_tokens.specs.FirstWord.{word_at}
use Rattle.cel_tokens.specs.Lexing.{Lexes}
use Rattle.cel_tokens.specs.Spelling.{operator}
use Rattle.cel_tokens.proofs.Spellable.{is_name, is_reserved_name, operator_token, stops, begins}
use Rattle.cel_tokens.proofs.Spelled.{token_before, name_read, reserved_read, operator_read, lexed_token, lexed_space}
use Rattle.cel_grammar.specs.Faults.{kinds}
use Rattle.cel_grammar.specs.Grammar.{op_of, field_of}

-- with what follows it, the text is read as tokens of this relation to those that follow
pub record Reads (follow : List ℕ → Bool) (text : List ℕ) (R : List Token → List Token → Type 0) : Type 0 where
  pub reads : (more : List ℕ) → follow more ≡ true → (at : ℕ) (after : List Lexeme) → Lexes (at + length text) more after None →
      (ls : List Lexeme) × Lexes at (text ++ more) ls None × R (kinds ls) (kinds after)

-- ---- what may follow

abbrev pub anything : List ℕ → Bool
anything more = true

abbrev pub no_equals : List ℕ → Bool
no_equals more = not (begins 61 more)

abbrev pub a_space : List ℕ → Bool
a_space more = begins 32 more

-- ---- relations of tokens

-- the one, and behind it the other
pub data Joined (R S : List Token → List Token → Type 0) : List Token → List Token → Type 0 where
  joined : {from mid rest : List Token} → R from mid → S mid rest → Joined R S from rest

pub data Sign (t : Token) : List Token → List Token → Type 0 where
  sign : {rest : List Token} → Sign t (t ∷ rest) rest

pub data Named (w : List ℕ) : List Token → List Token → Type 0 where
  named : {n : Name} {rest : List Token} → n.text ≡ w → Named w (Token.Name n ∷ rest) rest

pub data Field (w : List ℕ) : List Token → List Token → Type 0 where
  field : {t : Token} {f : Name} {rest : List Token} → field_of t ≡ Some f → f.text ≡ w → Field w (t ∷ rest) rest

pub data Operator (op : BinaryOp) : List Token → List Token → Type 0 where
  operator_sign : {t : Token} {rest : List Token} → op_of t ≡ Some op → Operator op (t ∷ rest) rest

-- ---- texts

pub join : {follow next : List ℕ → Bool} {a b : List ℕ} {R S : List Token → List Token → Type 0} → Reads follow a R → ((more : List ℕ) → next more ≡ true → follow (b ++ more) ≡ true) → Reads next b S → Reads next (a ++ b) (Joined R S)
join {follow} {next} {a} {b} {R} {S} p may q = record {
  reads = λ more h at after d.
      let behind = q.reads more h (at + length a) after (subst (λ n. Lexes n more after None) (omega (arith, length-append a b)) d) in
      let front = p.reads (b ++ more) (may more h) at behind.0 behind.1 in
      (front.0, subst (λ t. Lexes at t front.0 None) (sym (append_assoc a b more)) front.1, joined front.2 behind.2);
}

pub weaken : {follow : List ℕ → Bool} {a : List ℕ} {R S : List Token → List Token → Type 0} → Reads follow a R → ((from rest : List Token) → R from rest → S from rest) → Reads follow a S
weaken {follow} {a} {R} {S} p h = record {
  reads = λ more f at after d. let r = p.reads more f at after d in (r.0, r.1, h (kinds r.0) (kinds after) r.2);
}

pub behind_space : {follow : List ℕ → Bool} {a : List ℕ} {R : List Token → List Token → Type 0} → Reads follow a R → Reads follow (codes " " ++ a) R
behind_space {follow} {a} {R} p = record {
  reads = λ more h at after d.
      let r = p.reads more h (at + 1) after (subst (λ n. Lexes n more after None) (omega (arith, length-append (codes " ") a)) d) in
      (r.0, lexed_space r.1, r.2);
}

pub sign_reads : {follow : List ℕ → Bool} {w : List ℕ} {t : Token} → ((at : ℕ) (more : List ℕ) → follow more ≡ true → word_at at (w ++ more) ≡ token_before t more) → Reads follow w (Sign t)
sign_reads {follow} {w} {t} h = record {
  reads = λ more f at after d. (record { at = at; token = t } ∷ after, lexed_token w (h at more f) d, sign);
}

pub name_reads : (w : List ℕ) → is_name w ≡ true → Reads stops w (Named w)
name_reads w h = record {
  reads = λ more f at after d. (record { at = at; token = Token.Name (record { at = at; text = w }) } ∷ after, lexed_token w (name_read at w more h f) d, named refl);
}

-- the text of a field is a name or a reserved word
pub name_field : (w : List ℕ) → is_name w ≡ true → Reads stops w (Field w)
name_field w h = record {
  reads = λ more f at after d. (record { at = at; token = Token.Name (record { at = at; text = w }) } ∷ after, lexed_token w (name_read at w more h f) d, field refl refl);
}

pub reserved_field : (w : List ℕ) → is_reserved_name w ≡ true → Reads stops w (Field w)
reserved_field w h = record {
  reads = λ more f at after d. (record { at = at; token = Token.Reserved (record { at = at; text = w }) } ∷ after, lexed_token w (reserved_read at w more h f) d, field refl refl);
}

operator_is : (op : BinaryOp) → op_of (operator_token op) ≡ Some op
operator_is Or = refl
operator_is And = refl
operator_is Lt = refl
operator_is Le = refl
operator_is Gt = refl
operator_is Ge = refl
operator_is Eq = refl
operator_is Ne = refl
operator_is Within = refl
operator_is Add = refl
operator_is Sub = refl
operator_is Mul = refl
operator_is Div = refl
operator_is Rem = refl

spaced : (op : BinaryOp) (at : ℕ) (more : List ℕ) → a_space more ≡ true → word_at at (operator op ++ more) ≡ token_before (operator_token op) more
spaced op at [] h = cc
spaced op at (b ∷ more) h =
    let is : b ≡ 32 = grind (arith, nat_tests) in
    subst (λ c. word_at at (operator op ++ (c ∷ more)) ≡ token_before (operator_token op) (c ∷ more)) (sym is) (operator_read op at more)

pub operator_reads : (op : BinaryOp) → Reads a_space (operator op) (Operator op)
operator_reads op = record {
  reads = λ more f at after d. (record { at = at; token = operator_token op } ∷ after, lexed_token (operator op) (spaced op at more f) d, operator_sign (operator_is op));
}
