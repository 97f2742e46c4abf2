-- A script is cut into frames in one way.
use Rattle.std.proofs.Common.{◌≡◌, ◌≢◌, ◌<◌, ◌^◌, ℕ, List, [], ◌∷◌, ◌++◌, length, take, drop, refl, sym, ◌∙◌, ap, subst, arith, append_assoc}
use Rattle.std.proofs.lemmas.List.{take_at, drop_at}
use Rattle.std.proofs.lemmas.Fmt.{decimal_is_IsNumeral}
use Rattle.std.specs.Prelude.{Option, None, Some, IfSome}
use Rattle.std.specs.List.{AllByRecursion}
use Rattle.std.specs.Fmt.{decimal}
use Rattle.std.specs.Str.Parse.{AllDigits, digits_value}
use Rattle.std.specs.Char.{digit_value}
use Rattle.sts_serve.specs.Frames.{IsFrame, IsVisible, IsBearer, bearer_text, frame_text, script_text, ScriptSpells, NoFrame}
use Rattle.sts_serve.specs.declared.frame.Frame.{Frame}

abbrev pub IsFree : ℕ → List ℕ → Type 0
IsFree sep bytes = AllByRecursion (λ b. b ≢ sep) bytes

-- what stands before the first separator is one
pub cut : (sep : ℕ) (a b x y : List ℕ) → IsFree sep a → IsFree sep b → a ++ (sep ∷ x) ≡ b ++ (sep ∷ y) → (a ≡ b) × (x ≡ y)
cut sep [] [] x y free free' same = (refl, cc same)
cut sep [] (b ∷ bs) x y free free' same = let head : b ≡ sep = cc same in absurd (free'.0 head)
cut sep (a ∷ as') [] x y free free' same = let head : a ≡ sep = cc same in absurd (free.0 head)
cut sep (a ∷ as') (b ∷ bs) x y free free' same =
    let head : a ≡ b = cc same in
    let tail : as' ++ (sep ∷ x) ≡ bs ++ (sep ∷ y) = cc same in
    let rest = cut sep as' bs x y free.1 free'.1 tail in
    let front : a ∷ as' ≡ b ∷ bs = cc (head, rest.0) in
    (front, rest.1)

pub free-visible : (sep : ℕ) (bytes : List ℕ) → sep < 33 → AllByRecursion IsVisible bytes → IsFree sep bytes
free-visible sep [] low all = tt
free-visible sep (b ∷ bytes) low all = (λ is. omega (arith, all.0.0), free-visible sep bytes low all.1)

pub not_space : (c : ℕ) → digit_value c < 10 → c ≢ 32
not_space c digit is = let at : digit_value 32 < 10 = subst (λ (k : ℕ). digit_value k < 10) is digit in omega (arith, at)

pub not_feed : (c : ℕ) → digit_value c < 10 → c ≢ 10
not_feed c digit is = let at : digit_value 10 < 10 = subst (λ (k : ℕ). digit_value k < 10) is digit in omega (arith, at)

pub free-digits : (sep : ℕ) → ((c : ℕ) → digit_value c < 10 → c ≢ sep) → (ds : List ℕ) → AllDigits 10 ds → IsFree sep ds
free-digits sep not [] all = tt
free-digits sep not (d ∷ ds) all = (not d all.0, free-digits sep not ds all.1)

pub decimal-inj : (m n : ℕ) → m < 2 ^ 64 → n < 2 ^ 64 → decimal m ≡ decimal n → m ≡ n
decimal-inj m n low low' same = sym (decimal_is_IsNumeral m low).1 ∙ ap (λ (l : List ℕ). digits_value 10 l) same ∙ (decimal_is_IsNumeral n low').1

pub free-bearer : (bearer : Option (List ℕ)) → IfSome bearer IsBearer → IsFree 32 (bearer_text bearer)
free-bearer None is = ((λ e. omega (arith, e)), tt)
free-bearer (Some text) is = free-visible 32 text (omega arith) is.0.2

bearer-inj : (a b : Option (List ℕ)) → IfSome a IsBearer → IfSome b IsBearer → bearer_text a ≡ bearer_text b → a ≡ b
bearer-inj None None is is' same = refl
bearer-inj None (Some text) is is' same = absurd (is'.1 (sym same))
bearer-inj (Some text) None is is' same = absurd (is.1 same)
bearer-inj (Some text) (Some text') is is' same = ap (λ (l : List ℕ). Some l) same

pub spread : (f : Frame) (x : List ℕ) → frame_text f ++ x
    ≡ f.path ++ (32 ∷ (bearer_text f.bearer ++ (32 ∷ (decimal f.moment ++ (32 ∷ (decimal (length f.body) ++ (10 ∷ (f.body ++ (10 ∷ x)))))))))
unfolding frame_text
spread f x = simp append_assoc

pub one_frame : (f g : Frame) (x y : List ℕ) → IsFrame f → IsFrame g → frame_text f ++ x ≡ frame_text g ++ y → (f ≡ g) × (x ≡ y)
unfolding frame_text
one_frame f g x y is is' same =
    let moment : f.moment < 2 ^ 64 = omega (arith, is.moment) in
    let moment' : g.moment < 2 ^ 64 = omega (arith, is'.moment) in
    let size : length f.body < 2 ^ 64 = omega (arith, is.body) in
    let size' : length g.body < 2 ^ 64 = omega (arith, is'.body) in
    let whole : f.path ++ (32 ∷ (bearer_text f.bearer ++ (32 ∷ (decimal f.moment ++ (32 ∷ (decimal (length f.body) ++ (10 ∷ (f.body ++ (10 ∷ x)))))))))
    ≡ g.path ++ (32 ∷ (bearer_text g.bearer ++ (32 ∷ (decimal g.moment ++ (32 ∷ (decimal (length g.body) ++ (10 ∷ (g.body ++ (10 ∷ y))))))))) =
    sym (spread f x) ∙ same ∙ spread g y in
    let one = cut 32 f.path g.path _ _ (free-visible 32 f.path (omega arith) is.path.2) (free-visible 32 g.path (omega arith) is'.path.2) whole in
    let two = cut 32 (bearer_text f.bearer) (bearer_text g.bearer) _ _ (free-bearer f.bearer is.bearer) (free-bearer g.bearer is'.bearer) one.1 in
    let three = cut 32 (decimal f.moment) (decimal g.moment) _ _ (free-digits 32 not_space _ (decimal_is_IsNumeral f.moment moment).0.1) (free-digits 32 not_space _ (decimal_is_IsNumeral g.moment moment').0.1) two.1 in
    let four = cut 10 (decimal (length f.body)) (decimal (length g.body)) _ _ (free-digits 10 not_feed _ (decimal_is_IsNumeral (length f.body) size).0.1) (free-digits 10 not_feed _ (decimal_is_IsNumeral (length g.body) size').0.1) three.1 in
    let long : length f.body ≡ length g.body = decimal-inj _ _ size size' four.0 in
    let body : f.body ≡ g.body = sym (take_at f.body (10 ∷ x) (length g.body) long) ∙ ap (λ (l : List ℕ). take (length g.body) l) four.1 ∙ take_at g.body (10 ∷ y) (length g.body) refl in
    let rest : 10 ∷ x ≡ 10 ∷ y = sym (drop_at f.body (10 ∷ x) (length g.body) long) ∙ ap (λ (l : List ℕ). drop (length g.body) l) four.1 ∙ drop_at g.body (10 ∷ y) (length g.body) refl in
    let bearer : f.bearer ≡ g.bearer = bearer-inj f.bearer g.bearer is.bearer is'.bearer two.0 in
    let at : f.moment ≡ g.moment = decimal-inj _ _ moment moment' three.0 in
    let path : f.path ≡ g.path = one.0 in
    let tail : x ≡ y = cc rest in
    ((λ i. record { path = path i; bearer = bearer i; moment = at i; body = body i }), tail)

pub one_cut : (fs gs : List Frame) (x y : List ℕ) → AllByRecursion IsFrame fs → AllByRecursion IsFrame gs → NoFrame x → NoFrame y → script_text fs ++ x ≡ script_text gs ++ y → (fs ≡ gs) × (x ≡ y)
one_cut [] [] x y each each' none none' same = (refl, same)
one_cut [] (g ∷ gs) x y each each' none none' same = absurd (none g (script_text gs ++ y) each'.0 (same ∙ append_assoc (frame_text g) (script_text gs) y))
one_cut (f ∷ fs) [] x y each each' none none' same = absurd (none' f (script_text fs ++ x) each.0 (sym same ∙ append_assoc (frame_text f) (script_text fs) x))
one_cut (f ∷ fs) (g ∷ gs) x y each each' none none' same =
    let first = one_frame f g (script_text fs ++ x) (script_text gs ++ y) each.0 each'.0 (sym (append_assoc (frame_text f) (script_text fs) x) ∙ same ∙ append_assoc (frame_text g) (script_text gs) y) in
    let rest = one_cut fs gs x y each.1 each'.1 none none' first.1 in
    ((λ i. first.0 i ∷ rest.0 i), rest.1)

pub one_script : (bytes : List ℕ) (fs gs : List Frame) (x y : List ℕ) → ScriptSpells bytes fs x → ScriptSpells bytes gs y → (fs ≡ gs) × (x ≡ y)
one_script bytes fs gs x y spells spells' =
    one_cut fs gs x y spells.begins.each spells'.begins.each spells.ended spells'.ended (sym spells.begins.whole ∙ spells'.begins.whole)
