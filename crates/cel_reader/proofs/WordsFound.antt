-- The words that are found are those of the text.
use Rattle.std.proofs.Common.{◌≡◌, ℕ, zero, suc, ◌+◌, ◌-◌, ◌<◌, ◌≤◌, List, [], ◌∷◌, ◌++◌, length, Option, Some, None, refl, ap, ◌∙◌, subst, arith, length-append}
use Rattle.cel_tokens.specs.declared.token.Piece.{Piece}
use Rattle.cel_tokens.specs.Words.{IsFirstWord}
use Rattle.cel_tokens.specs.FirstWord.{word_at, IsFirst}
use Rattle.cel_tokens.specs.Lexing.{Lexes, ended, stopped, blank, token}
use Rattle.cel_tokens.proofs.Lexed.{first_of, less_left}
use Rattle.cel_tokens.proofs.Longest.{first_is}
use Rattle.cel_reader.specs.Lexed.{Words, with_word, from_word, lexed, words_of}

abbrev AreWords : ℕ → List ℕ → Words → Type 0
AreWords at text words = Lexes at text words.0 words.1

next_place : (at : ℕ) (text word more : List ℕ) → text ≡ word ++ more → at + (length text - length more) ≡ at + length word
next_place at text word more front = let long : length text ≡ length word + length more = ap length front ∙ length-append word more in omega arith

behind : (at : ℕ) (text word more : List ℕ) (p : Piece) (words : Words) → IsFirstWord at text word more p → AreWords (at + length word) more words → AreWords at text (with_word at p words)
behind at text word more Piece.Blank words first are = blank first are
behind at text word more (Piece.Token t) words first are = token first are

goes_on : (at : ℕ) (text : List ℕ) (o : Option (Piece × List ℕ)) (go : ℕ → List ℕ → Words) → word_at at text ≡ o → 0 < length text →
    ((next : ℕ) (more : List ℕ) → length more < length text → AreWords next more (go next more)) → AreWords at text (from_word at (length text) o go)
goes_on at text None go is some goes = stopped some (subst (IsFirst at text) is (first_is at text))
goes_on at text (Some x) go is some goes =
    let first = first_of at text x.1 x.0 is in
    let next : ℕ = at + (length text - length x.1) in
    behind at text first.0 x.1 x.0 (go next x.1) first.1
    (subst (λ n. AreWords n x.1 (go next x.1)) (next_place at text first.0 x.1 first.1.front) (goes next x.1 (less_left at text x.1 x.0 is)))

lexed_are : (n at : ℕ) (text : List ℕ) → length text ≤ n → AreWords at text (lexed n at text)
lexed_are zero at [] enough = ended
lexed_are zero at (b ∷ bs) enough = absurd (omega arith)
lexed_are (suc n) at [] enough = ended
lexed_are (suc n) at (b ∷ bs) enough =
    goes_on at (b ∷ bs) (word_at at (b ∷ bs)) (lexed n) refl (omega arith) (λ next more less. lexed_are n next more (omega arith))

pub words_are : (text : List ℕ) → Lexes 0 text (words_of text).0 (words_of text).1
words_are text = lexed_are (length text) 0 text (omega arith)
