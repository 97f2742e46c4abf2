-- An image stands for one list of texts at most.
use Rattle.std.proofs.Common.{◌≡◌, ◌≢◌, ℕ, ◌/◌, ◌%◌, List, [], ◌∷◌, ◌++◌, length, get_or, take, drop, refl, sym, ◌∙◌, ap, arith, append_assoc}
use Rattle.std.proofs.lemmas.List.{take_at, drop_at}
use Rattle.grant_journal.specs.JournalBytes.{four_bytes, opened, StandsFor}

pub same_size : (n m : ℕ) → four_bytes n ≡ four_bytes m → n ≡ m
same_size n m e =
    let a : n / 16777216 ≡ m / 16777216 = ap (λ (l : List ℕ). get_or l 0 0) e in
    let b : n / 65536 % 256 ≡ m / 65536 % 256 = ap (λ (l : List ℕ). get_or l 1 0) e in
    let c : n / 256 % 256 ≡ m / 256 % 256 = ap (λ (l : List ℕ). get_or l 2 0) e in
    let d : n % 256 ≡ m % 256 = ap (λ (l : List ℕ). get_or l 3 0) e in
    omega arith

pub same_front : (x a y b : List ℕ) → length x ≡ length y → x ++ a ≡ y ++ b → x ≡ y
same_front x a y b size e = sym (take_at x a (length x) refl) ∙ ap (λ (l : List ℕ). take (length x) l) e ∙ take_at y b (length x) (sym size)

pub same_back : (x a y b : List ℕ) → length x ≡ length y → x ++ a ≡ y ++ b → a ≡ b
same_back x a y b size e = sym (drop_at x a (length x) refl) ∙ ap (λ (l : List ℕ). drop (length x) l) e ∙ drop_at y b (length x) (sym size)

same_texts : (xs ys : List (List ℕ)) (g h : ℕ) (r s : List ℕ) → g ≢ 1 → h ≢ 1 → opened xs ++ g ∷ r ≡ opened ys ++ h ∷ s → xs ≡ ys
same_texts [] [] g h r s gs hs e = refl
same_texts [] (y ∷ ys) g h r s gs hs e = absurd (gs (ap (λ (l : List ℕ). get_or l 0 0) e))
same_texts (x ∷ xs) [] g h r s gs hs e = absurd (hs (sym (ap (λ (l : List ℕ). get_or l 0 0) e)))
same_texts (x ∷ xs) (y ∷ ys) g h r s gs hs e =
    let size : length x ≡ length y = same_size (length x) (length y) (ap (λ (l : List ℕ). take 4 (drop 1 l)) e) in
    let rest : x ++ (opened xs ++ g ∷ r) ≡ y ++ (opened ys ++ h ∷ s) =
    sym (append_assoc x (opened xs) (g ∷ r)) ∙ ap (λ (l : List ℕ). drop 5 l) e ∙ append_assoc y (opened ys) (h ∷ s) in
    let one : x ≡ y = same_front x _ y _ size rest in
    let more : xs ≡ ys = same_texts xs ys g h r s gs hs (same_back x _ y _ size rest) in
    (λ i. one i ∷ more i)

pub one_list : (image : List ℕ) (xs ys : List (List ℕ)) → StandsFor xs image → StandsFor ys image → xs ≡ ys
one_list image xs ys a b = same_texts xs ys a.0 b.0 a.1 b.1 a.3 b.3 (ap (λ (l : List ℕ). drop 8 l) (sym a.2 ∙ b.2))
