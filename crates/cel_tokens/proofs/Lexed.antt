-- A text has one list of tokens, and how far a loop has come with it.
use Rattle.std.proofs.Common.{◌≡◌, ℕ, ◌+◌, ◌-◌, ◌≤◌, ◌<◌, List, [], ◌∷◌, ◌++◌, length, Option, Some, None, refl, sym, ap, ◌∙◌, subst, arith, length-append, append_assoc, append-nil, option_map, Bor}
use Rattle.cel_tokens.specs.declared.token.Token.{Token}
use Rattle.cel_tokens.specs.declared.token.Piece.{Piece}
use Rattle.cel_tokens.specs.declared.token.Lexeme.{Lexeme}
use Rattle.cel_tokens.specs.Words.{IsFirstWord, HasNoWord, form}
use Rattle.cel_tokens.specs.FirstWord.{word_at, IsFirst}
use Rattle.cel_tokens.specs.Lexing.{Lexes, ended, stopped, blank, token}
use Rattle.cel_tokens.proofs.Longest.{first_is}

same_fronts : (a b r s : List ℕ) → a ++ r ≡ b ++ s → length a ≡ length b → (a ≡ b) × (r ≡ s)
same_fronts [] [] r s h k = (refl, h)
same_fronts [] (x ∷ b) r s h k = absurd (omega arith)
same_fronts (x ∷ a) [] r s h k = absurd (omega arith)
same_fronts (x ∷ a) (y ∷ b) r s h k =
    let heads : x ≡ y = cc in
    let tails : a ++ r ≡ b ++ s = cc in
    let more = same_fronts a b r s tails (omega arith) in
    (ap (λ l. x ∷ l) more.0 ∙ ap (λ e. e ∷ b) heads, more.1)

-- two first words of a text are one
one_word : {at : ℕ} {text v w r s : List ℕ} {p q : Piece} → IsFirstWord at text v r p → IsFirstWord at text w s q → (w ≡ v) × (s ≡ r) × (q ≡ p)
one_word {at} {text} {v} {w} {r} {s} {p} {q} a b =
    let less : length v ≤ length w = b.longest v r p a.front a.is in
    let more : length w ≤ length v = a.longest w s q b.front b.is in
    let both = same_fronts w v s r (sym b.front ∙ a.front) (omega arith) in
    let pieces : Some q ≡ Some p = sym b.is ∙ ap (form at) both.0 ∙ a.is in
    (both.0, both.1, cc)

no_front : (at : ℕ) (w r : List ℕ) (p : Piece) → [] ≡ w ++ r → form at w ≡ Some p → ⊥
no_front at [] r p front is = cc
no_front at (x ∷ w) r p front is = cc

no_word : {at : ℕ} {w r : List ℕ} {p : Piece} → IsFirstWord at [] w r p → ⊥
no_word {at} {w} {r} {p} h = no_front at w r p h.front h.is

moved_on : (at : ℕ) (v w r s : List ℕ) (ts : List Lexeme) (stop : Option ℕ) → w ≡ v → s ≡ r → Lexes (at + length w) s ts stop → Lexes (at + length v) r ts stop
moved_on at v w r s ts stop e f d = subst (λ l. Lexes (at + length v) l ts stop) f (subst (λ l. Lexes (at + length l) s ts stop) e d)

refuted : {at : ℕ} {text w r : List ℕ} {p : Piece} → IsFirstWord at text w r p → HasNoWord at text → ⊥
refuted {at} {text} {w} {r} {p} h none = none w r p h.front h.is

pub one_list : {at : ℕ} {text : List ℕ} {a b : List Lexeme} {s t : Option ℕ} → Lexes at text a s → Lexes at text b t → (a ≡ b) × (s ≡ t)
one_list ended ended = (refl, refl)
one_list ended (stopped less none) = absurd (omega arith)
one_list ended (blank w d) = absurd (no_word w)
one_list ended (token w d) = absurd (no_word w)
one_list (stopped less none) ended = absurd (omega arith)
one_list (stopped less none) (stopped less' none') = (refl, refl)
one_list (stopped less none) (blank w d) = absurd (refuted w none)
one_list (stopped less none) (token w d) = absurd (refuted w none)
one_list (blank w d) ended = absurd (no_word w)
one_list (blank w d) (stopped less none) = absurd (refuted w none)
one_list (blank w d) (blank w' d') = let o = one_word w w' in one_list d (moved_on _ _ _ _ _ _ _ o.0 o.1 d')
one_list (blank w d) (token w' d') = let o = one_word w w' in let e = o.2 in cc
one_list (token w d) ended = absurd (no_word w)
one_list (token w d) (stopped less none) = absurd (refuted w none)
one_list (token w d) (blank w' d') = let o = one_word w w' in let e = o.2 in cc
one_list (token w d) (token w' d') = let o = one_word w w' in let more = one_list d (moved_on _ _ _ _ _ _ _ o.0 o.1 d') in let e = o.2 in let f = more.0 in (cc, more.1)

-- what is left of a text goes on from these tokens
abbrev pub GoesOn : List ℕ → List ℕ → List Lexeme → Type 0
GoesOn text rest tokens = (ts : List Lexeme) (stop : Option ℕ) → Lexes (length text - length rest) rest ts stop → Lexes 0 text (tokens ++ ts) stop

pub shorter : (at : ℕ) (word : List ℕ) (p : Piece) → form at word ≡ Some p → 0 < length word
shorter at [] p is = cc
shorter at (b ∷ w) p is = omega arith

next_place : (text rest word more : List ℕ) → length rest ≤ length text → rest ≡ word ++ more → length text - length rest + length word ≡ length text - length more
next_place text rest word more bound front = let long : length rest ≡ length word + length more = ap length front ∙ length-append word more in omega arith

pub first_of : (at : ℕ) (text more : List ℕ) (p : Piece) → word_at at text ≡ Some (p, more) → (word : List ℕ) × IsFirstWord at text word more p
first_of at text more p is = subst (λ o. IsFirst at text o) is (first_is at text)

pub less_left : (at : ℕ) (text more : List ℕ) (p : Piece) → word_at at text ≡ Some (p, more) → length more < length text
less_left at text more p is =
    let f = first_of at text more p is in
    let long : length text ≡ length f.0 + length more = ap length f.1.front ∙ length-append f.0 more in
    let some : 0 < length f.0 = shorter at f.0 p f.1.is in
    omega arith

pub blank_goes : (text rest more : List ℕ) (tokens : List Lexeme) → length rest ≤ length text → word_at (length text - length rest) rest ≡ Some (Piece.Blank, more) → GoesOn text rest tokens → GoesOn text more tokens
blank_goes text rest more tokens bound is go = λ ts stop d.
    let f = first_of (length text - length rest) rest more Piece.Blank is in
    go ts stop (blank f.1 (subst (λ n. Lexes n more ts stop) (sym (next_place text rest f.0 more bound f.1.front)) d))

pub token_goes : (text rest more : List ℕ) (tokens : List Lexeme) (t : Token) → length rest ≤ length text → word_at (length text - length rest) rest ≡ Some (Piece.Token t, more) → GoesOn text rest tokens →
    GoesOn text more (tokens ++ record { at = length text - length rest; token = t } ∷ [])
token_goes text rest more tokens t bound is go = λ ts stop d.
    let f = first_of (length text - length rest) rest more (Piece.Token t) is in
    let here : Lexeme = record { at = length text - length rest; token = t } in
    subst (λ l. Lexes 0 text l stop) (sym (append_assoc tokens (here ∷ []) ts))
    (go (here ∷ ts) stop (token f.1 (subst (λ n. Lexes n more ts stop) (sym (next_place text rest f.0 more bound f.1.front)) d)))

pub stops_there : (text rest : List ℕ) (tokens : List Lexeme) → 0 < length rest → word_at (length text - length rest) rest ≡ None → GoesOn text rest tokens → Lexes 0 text tokens (Some (length text - length rest))
stops_there text rest tokens some is go =
    subst (λ l. Lexes 0 text l (Some (length text - length rest))) (append-nil tokens) (go [] (Some (length text - length rest)) (stopped some (subst (λ o. IsFirst (length text - length rest) rest o) is (first_is (length text - length rest) rest))))

ends_at : (text rest : List ℕ) (tokens : List Lexeme) → rest ≡ [] → GoesOn text rest tokens → Lexes 0 text tokens None
ends_at text rest tokens is go =
    subst (λ l. Lexes 0 text l None) (append-nil tokens) (go [] None (subst (λ r. Lexes (length text - length r) r [] None) (sym is) ended))

nil_of : (l : List ℕ) → length l ≡ 0 → l ≡ []
nil_of [] h = refl
nil_of (x ∷ l) h = absurd (omega arith)

pub ends_there : (text rest : List ℕ) (tokens : List Lexeme) → length rest ≡ 0 → GoesOn text rest tokens → Lexes 0 text tokens None
ends_there text rest tokens is go = ends_at text rest tokens (nil_of rest is) go

pub begins : (text : List ℕ) → GoesOn text text []
begins text = λ ts stop d. subst (λ n. Lexes n text ts stop) (omega arith) d

pub found_word : (at : ℕ) (text : List ℕ) (o : Option (Piece × Bor (List ℕ))) (p q : Piece) (more : Bor (List ℕ)) → option_map (λ x. (x.0, x.1.now)) o ≡ word_at at text → o ≡ Some (p, more) → p ≡ q → word_at at text ≡ Some (q, more.now)
found_word at text o p q more was is same = sym was ∙ ap (option_map (λ x. (x.0, x.1.now))) is ∙ ap (λ x. Some (x, more.now)) same

pub no_word_found : (at : ℕ) (text : List ℕ) (o : Option (Piece × Bor (List ℕ))) → option_map (λ x. (x.0, x.1.now)) o ≡ word_at at text → o ≡ None → word_at at text ≡ None
no_word_found at text o was is = sym was ∙ ap (option_map (λ x. (x.0, x.1.now))) is
