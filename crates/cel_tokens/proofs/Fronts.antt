-- Fronts of a text: a run of bytes, and what stands before a closing quote.
use Rattle.std.proofs.Common.{◌≡◌, ℕ, suc, ◌+◌, ◌≤◌, ◌<◌, Bool, true, false, cond, ◌&&◌, List, [], ◌∷◌, ◌++◌, length, take, drop, get_or, Option, Some, None, refl, sym, ap, ◌∙◌, arith, append_assoc, drop-cons, add-one, append-nil}
use Rattle.std.proofs.lemmas.List.{drop_all}
use Rattle.std.proofs.Math.Seq.{take-suc}
use Rattle.cel_tokens.specs.declared.quoted.Mode.{Mode}
use Rattle.cel_tokens.specs.declared.quoted.Move.{Move}
use Rattle.cel_tokens.specs.Words.{all_bytes, added, with_front, moved, between}
use Rattle.cel_tokens.specs.FirstWord.{while_front}

-- ---- a run

-- one byte more, at a test
abbrev fronted : Bool → ℕ → List ℕ → List ℕ × List ℕ → List ℕ × List ℕ
fronted t b bs r = cond t (b ∷ r.0, r.1) ([], b ∷ bs)

front_at : (b : ℕ) (bs : List ℕ) (r : List ℕ × List ℕ) (t : Bool) → bs ≡ r.0 ++ r.1 → b ∷ bs ≡ (fronted t b bs r).0 ++ (fronted t b bs r).1
front_at b bs r true h = ap (λ l. b ∷ l) h
front_at b bs r false h = refl

pub front_cuts : (p : ℕ → Bool) (bs : List ℕ) → bs ≡ (while_front p bs).0 ++ (while_front p bs).1
front_cuts p [] = refl
front_cuts p (b ∷ bs) = front_at b bs (while_front p bs) (p b) (front_cuts p bs)

all_at : (p : ℕ → Bool) (b : ℕ) (bs : List ℕ) (r : List ℕ × List ℕ) (t : Bool) → p b ≡ t → all_bytes p r.0 ≡ true → all_bytes p (fronted t b bs r).0 ≡ true
all_at p b bs r true h more = ap (λ x. x && all_bytes p r.0) h ∙ more
all_at p b bs r false h more = refl

pub front_all : (p : ℕ → Bool) (bs : List ℕ) → all_bytes p (while_front p bs).0 ≡ true
front_all p [] = refl
front_all p (b ∷ bs) = all_at p b bs (while_front p bs) (p b) refl (front_all p bs)

pub and_parts : (x y : Bool) → (x && y) ≡ true → (x ≡ true) × (y ≡ true)
and_parts true true h = (refl, refl)
and_parts true false h = cc
and_parts false y h = cc

-- a choice by a test that is known, and by one that is not
pub chosen : {A : Type 0} (t : Bool) (x y : A) → t ≡ true → cond t x y ≡ x
chosen true x y h = refl
chosen false x y h = cc

pub passed : {A : Type 0} (t : Bool) (x y : A) → t ≡ false → cond t x y ≡ y
passed true x y h = cc
passed false x y h = refl

pub either : {A : Type 0} (P : A → Type 0) (t : Bool) (x y : A) → P x → P y → P (cond t x y)
either P true x y p q = p
either P false x y p q = q

longest_at : (n : ℕ) (b : ℕ) (bs : List ℕ) (r : List ℕ × List ℕ) (t : Bool) → t ≡ true → n ≤ length r.0 → suc n ≤ length (fronted t b bs r).0
longest_at n b bs r true h more = omega arith
longest_at n b bs r false h more = cc

-- no front of passing bytes is longer
pub front_longest : (p : ℕ → Bool) (w r : List ℕ) → all_bytes p w ≡ true → length w ≤ length (while_front p (w ++ r)).0
front_longest p [] r h = omega arith
front_longest p (b ∷ w) r h =
    let parts = and_parts (p b) (all_bytes p w) h in
    longest_at (length w) b (w ++ r) (while_front p (w ++ r)) (p b) parts.0 (front_longest p w r parts.1)

-- ---- between quotes

pub more_front : (bytes : List ℕ) (o : Option (List ℕ × List ℕ)) (v r : List ℕ) → with_front bytes o ≡ Some (v, r) → (u : List ℕ) × (o ≡ Some (u, r)) × (v ≡ bytes ++ u)
more_front bytes None v r h = cc
more_front bytes (Some x) v r h =
    let pairs : (bytes ++ x.0, x.1) ≡ (v, r) = cc in
    let rest : x.1 ≡ r = ap (λ (q : List ℕ × List ℕ). q.1) pairs in
    let front : bytes ++ x.0 ≡ v = ap (λ (q : List ℕ × List ℕ). q.0) pairs in
    (x.0, ap (λ l. Some (x.0, l)) rest, sym front)

moved_more : (m : Move) (w x : List ℕ) (go more : Mode → Option (List ℕ × List ℕ)) (v r : List ℕ) →
    ((mode : Mode) (u : List ℕ) → go mode ≡ Some (u, r) → more mode ≡ Some (u, r ++ x)) → moved m w go ≡ Some (v, r) → moved m (w ++ x) more ≡ Some (v, r ++ x)
moved_more Move.Stop w x go more v r each h = cc
moved_more Move.Done w x go more v r each h =
    let pairs : ([], w) ≡ (v, r) = cc in
    ap (λ (q : List ℕ × List ℕ). Some (q.0, q.1 ++ x)) pairs
moved_more (Move.On mode a) w x go more v r each h =
    let f = more_front (added a) (go mode) v r h in
    ap (λ o. with_front (added a) o) (each mode f.0 f.1) ∙ ap (λ l. Some (l, r ++ x)) (sym f.2)

-- what follows changes nothing
pub between_more : (next : Mode → ℕ → Move) (w x : List ℕ) (mode : Mode) (v r : List ℕ) → between next mode w ≡ Some (v, r) → between next mode (w ++ x) ≡ Some (v, r ++ x)
between_more next [] x mode v r h = cc
between_more next (b ∷ w) x mode v r h = moved_more (next mode b) w x (λ m. between next m w) (λ m. between next m (w ++ x)) v r (λ m u k. between_more next w x m u r k) h

moved_cut : (next : Mode → ℕ → Move) (b : ℕ) (bs : List ℕ) (m : Move) (mode : Mode) (v r : List ℕ) → next mode b ≡ m →
    ((now : Mode) (u : List ℕ) → between next now bs ≡ Some (u, r) → (w : List ℕ) × (bs ≡ w ++ r) × (between next now w ≡ Some (u, []))) →
    moved m bs (λ n. between next n bs) ≡ Some (v, r) → (w : List ℕ) × (b ∷ bs ≡ w ++ r) × (between next mode w ≡ Some (v, []))
moved_cut next b bs Move.Stop mode v r is each h = cc
moved_cut next b bs Move.Done mode v r is each h =
    let pairs : ([], bs) ≡ (v, r) = cc in
    (b ∷ [], ap (λ (q : List ℕ × List ℕ). b ∷ q.1) pairs, ap (λ m. moved m [] (λ n. between next n [])) is ∙ ap (λ (q : List ℕ × List ℕ). Some (q.0, [])) pairs)
moved_cut next b bs (Move.On now a) mode v r is each h =
    let f = more_front (added a) (between next now bs) v r h in
    let e = each now f.0 f.1 in
    (b ∷ e.0, ap (λ l. b ∷ l) e.1, ap (λ m. moved m e.0 (λ n. between next n e.0)) is ∙ ap (λ o. with_front (added a) o) e.2 ∙ ap (λ l. Some (l, [])) (sym f.2))

-- what is between quotes is a front of the text
pub between_cuts : (next : Mode → ℕ → Move) (bs : List ℕ) (mode : Mode) (v r : List ℕ) → between next mode bs ≡ Some (v, r) → (w : List ℕ) × (bs ≡ w ++ r) × (between next mode w ≡ Some (v, []))
between_cuts next [] mode v r h = cc
between_cuts next (b ∷ bs) mode v r h = moved_cut next b bs (next mode b) mode v r refl (λ now u k. between_cuts next bs now u r k) h

-- and no other front of the text is
pub between_one : (next : Mode → ℕ → Move) (mode : Mode) (w r v : List ℕ) → between next mode w ≡ Some (v, []) → between next mode (w ++ r) ≡ Some (v, r)
between_one next mode w r v h = between_more next w r mode v [] h

-- ---- as far as a loop has come

abbrev pub behind : List ℕ → List ℕ × List ℕ → List ℕ × List ℕ
behind front r = (front ++ r.0, r.1)

one_run : (front bs : List ℕ) (b : ℕ) (r : List ℕ × List ℕ) (t : Bool) → t ≡ true → behind (front ++ b ∷ []) r ≡ behind front (fronted t b bs r)
one_run front bs b r true h = ap (λ l. (l, r.1)) (append_assoc front (b ∷ []) r.0)
one_run front bs b r false h = cc

-- one byte more of a run
pub run_more : (p : ℕ → Bool) (bs : List ℕ) (i : ℕ) (d : ℕ) → i < length bs → p (get_or bs i d) ≡ true →
    behind (take (i + 1) bs) (while_front p (drop (i + 1) bs)) ≡ behind (take i bs) (while_front p (drop i bs))
run_more p bs i d less is =
    ap (λ n. behind (take n bs) (while_front p (drop n bs))) (add-one i)
    ∙ ap (λ l. behind l (while_front p (drop (suc i) bs))) (take-suc bs i d less)
    ∙ one_run (take i bs) (drop (suc i) bs) (get_or bs i d) (while_front p (drop (suc i) bs)) (p (get_or bs i d)) is
    ∙ ap (λ l. behind (take i bs) (while_front p l)) (sym (drop-cons bs i d less))

run_ended : (p : ℕ → Bool) (front bs : List ℕ) (b : ℕ) (t : Bool) → t ≡ false → behind front (fronted t b bs (while_front p bs)) ≡ (front, b ∷ bs)
run_ended p front bs b true h = cc
run_ended p front bs b false h = ap (λ l. (l, b ∷ bs)) (append-nil front)

-- a byte ends the run
pub run_end : (p : ℕ → Bool) (bs : List ℕ) (i : ℕ) (d : ℕ) → i < length bs → p (get_or bs i d) ≡ false →
    behind (take i bs) (while_front p (drop i bs)) ≡ (take i bs, drop i bs)
run_end p bs i d less is =
    ap (λ l. behind (take i bs) (while_front p l)) (drop-cons bs i d less)
    ∙ run_ended p (take i bs) (drop (suc i) bs) (get_or bs i d) (p (get_or bs i d)) is
    ∙ ap (λ l. (take i bs, l)) (sym (drop-cons bs i d less))

-- the bytes end the run
pub run_all : (p : ℕ → Bool) (bs : List ℕ) (i : ℕ) → length bs ≤ i → behind (take i bs) (while_front p (drop i bs)) ≡ (take i bs, drop i bs)
run_all p bs i past =
    ap (λ l. behind (take i bs) (while_front p l)) (drop_all i bs past) ∙ ap (λ l. (l, [])) (append-nil (take i bs))
    ∙ ap (λ l. (take i bs, l)) (sym (drop_all i bs past))

fronts_join : (x y : List ℕ) (o : Option (List ℕ × List ℕ)) → with_front (x ++ y) o ≡ with_front x (with_front y o)
fronts_join x y None = refl
fronts_join x y (Some r) = ap (λ l. Some (l, r.1)) (append_assoc x y r.0)

between_at : (next : Mode → ℕ → Move) (bs : List ℕ) (i d : ℕ) (mode : Mode) (m : Move) → i < length bs → next mode (get_or bs i d) ≡ m →
    between next mode (drop i bs) ≡ moved m (drop (i + 1) bs) (λ n. between next n (drop (i + 1) bs))
between_at next bs i d mode m less is =
    ap (between next mode) (drop-cons bs i d less)
    ∙ ap (λ x. moved x (drop (suc i) bs) (λ n. between next n (drop (suc i) bs))) is
    ∙ ap (λ k. moved m (drop k bs) (λ n. between next n (drop k bs))) (sym (add-one i))

-- a byte that goes on
pub between_on : (next : Mode → ℕ → Move) (bs value : List ℕ) (i d : ℕ) (mode now : Mode) (a : _) → i < length bs → next mode (get_or bs i d) ≡ Move.On now a →
    with_front (value ++ added a) (between next now (drop (i + 1) bs)) ≡ with_front value (between next mode (drop i bs))
between_on next bs value i d mode now a less is =
    fronts_join value (added a) (between next now (drop (i + 1) bs)) ∙ ap (with_front value) (sym (between_at next bs i d mode (Move.On now a) less is))

-- a byte that no text has there
pub between_stop : (next : Mode → ℕ → Move) (bs value : List ℕ) (i d : ℕ) (mode : Mode) → i < length bs → next mode (get_or bs i d) ≡ Move.Stop →
    with_front value (between next mode (drop i bs)) ≡ None
between_stop next bs value i d mode less is = ap (with_front value) (between_at next bs i d mode Move.Stop less is)

-- the closing quote
pub between_done : (next : Mode → ℕ → Move) (bs value : List ℕ) (i d : ℕ) (mode : Mode) → i < length bs → next mode (get_or bs i d) ≡ Move.Done →
    with_front value (between next mode (drop i bs)) ≡ Some (value, drop (i + 1) bs)
between_done next bs value i d mode less is =
    ap (with_front value) (between_at next bs i d mode Move.Done less is) ∙ ap (λ l. Some (l, drop (i + 1) bs)) (append-nil value)

-- no closing quote
pub between_open : (next : Mode → ℕ → Move) (bs value : List ℕ) (i : ℕ) (mode : Mode) → length bs ≤ i → with_front value (between next mode (drop i bs)) ≡ None
between_open next bs value i mode past = ap (λ l. with_front value (between next mode l)) (drop_all i bs past)
