-- Which bytes are the front of a frame, and which digits the front of no number.
use Rattle.std.proofs.Common.{◌≡◌, ◌≢◌, ◌≤◌, ◌<◌, ◌+◌, ◌-◌, ◌/◌, ◌%◌, ◌^◌, ◌⊎◌, inl, inr, ⊎_elim, ℕ, List, [], ◌∷◌, ◌++◌, length, take, replicate, refl, sym, ◌∙◌, ap, arith, append_assoc, length-append}
use Rattle.std.proofs.lemmas.List.{append-nil, take_at, take_all, take-append-le, length-replicate}
use Rattle.std.proofs.lemmas.Fmt.{decimal_by_steps, decimal_digit, decimal_step}
use Rattle.std.specs.Prelude.{Option, None, Some, IfSome}
use Rattle.std.specs.List.{AllByRecursion}
use Rattle.std.specs.Fmt.{decimal}
use Rattle.sts_serve.specs.Frames.{IsWord, IsVisible, IsBearer, bearer_text, frame_text, IsFront}
use Rattle.sts_serve.specs.declared.frame.Frame.{Frame}
use Rattle.sts_serve.proofs.Stages.{tail1, tail2, tail3, tail4, NoTail, longer}
use Rattle.sts_serve.proofs.Words.{goes_on}

-- ---- the front of a number

-- the digits of n, each front of which is a number's
record Fronts (n : ℕ) (digits : List ℕ) : Type 0 where
  pub whole : digits ≡ decimal n
  pub front : (k : ℕ) → 0 < k → (m : ℕ) × (m ≤ n) × (take k digits ≡ decimal m)

fronts : (n : ℕ) → n < 2 ^ 64 → Fronts n (decimal n)
fronts n low = decimal_by_steps (λ n digits. n < 2 ^ 64 → Fronts n digits) one more n low low
  where
    one : (n : ℕ) → n < 10 → n < 2 ^ 64 → Fronts n ((48 + n) ∷ [])
    one n digit small = record {
      whole = sym (decimal_digit n digit);
      front = λ k some. (n, omega arith, take_all k ((48 + n) ∷ []) (omega arith) ∙ sym (decimal_digit n digit));
    }

    more : (n : ℕ) (digits : List ℕ) → 10 ≤ n → (n / 10 < 2 ^ 64 → Fronts (n / 10) digits) → n < 2 ^ 64 → Fronts n (digits ++ ((48 + n % 10) ∷ []))
    more n digits large before small = record {
      whole = whole;
      front = λ k some. ⊎_elim
          (λ within. let at = shorter.front k some in (at.0, omega (arith, at.1), take-append-le k digits ((48 + n % 10) ∷ []) within ∙ at.2))
          (λ all. (n, omega arith, take_all k (digits ++ ((48 + n % 10) ∷ [])) (omega (arith, all, length-append digits ((48 + n % 10) ∷ []))) ∙ whole))
          (within_or k (length digits));
    }
      where
        shorter : Fronts (n / 10) digits
        shorter = before (omega arith)

        whole : digits ++ ((48 + n % 10) ∷ []) ≡ decimal n
        whole = ap (λ (l : List ℕ). l ++ ((48 + n % 10) ∷ [])) shorter.whole ∙ sym (decimal_step n large small)

        within_or : (a b : ℕ) → (a ≤ b) ⊎ (b < a)
        within_or a b = grind arith

some_length : (bytes : List ℕ) → bytes ≢ [] → 0 < length bytes
some_length [] some = absurd (some refl)
some_length (b ∷ bytes) some = omega arith

-- digits that are no number so far never become one
no_number : (separator most n : ℕ) (digits more rest : List ℕ) → separator < 33 → n ≤ most → n < 2 ^ 64 → AllByRecursion IsVisible digits → digits ≢ []
    → ((m : ℕ) → m ≤ most → digits ≡ decimal m → ⊥) → digits ++ more ≡ decimal n ++ (separator ∷ rest) → ⊥
no_number separator most n digits more rest low within small visible some none same =
    let on = goes_on separator digits more (decimal n) rest low visible same in
    let at = (fronts n small).front (length digits) (some_length digits some) in
    none at.0 (omega (arith, at.1, within))
    (sym (take_at digits on.back (length digits) refl) ∙ ap (λ (l : List ℕ). take (length digits) l) (sym on.word_is) ∙ at.2)

pub unended2 : (digits more : List ℕ) → AllByRecursion IsVisible digits → digits ≢ [] → ((m : ℕ) → m ≤ 200_000_000_000 → digits ≡ decimal m → ⊥) → NoTail tail2 (digits ++ more)
unended2 digits more visible some none f x frame same =
    no_number 32 200_000_000_000 f.moment digits more (tail3 f x) (omega arith) frame.moment (omega (arith, frame.moment)) visible some none same

pub unended3 : (digits more : List ℕ) → AllByRecursion IsVisible digits → digits ≢ [] → ((m : ℕ) → m ≤ 65536 → digits ≡ decimal m → ⊥) → NoTail tail3 (digits ++ more)
unended3 digits more visible some none f x frame same =
    no_number 10 65536 (length f.body) digits more (tail4 f x) (omega arith) frame.body (omega (arith, frame.body)) visible some none same

-- ---- the front of a frame

-- behind a word
on : (separator : ℕ) (bytes word rest more there tail : List ℕ) → bytes ≡ word ++ (separator ∷ rest) → there ≡ word → tail ≡ rest ++ more → there ++ (separator ∷ tail) ≡ bytes ++ more
on separator bytes word rest more there tail is same behind =
    ap (λ (l : List ℕ). there ++ (separator ∷ l)) behind ∙ ap (λ (l : List ℕ). l ++ (separator ∷ (rest ++ more))) same ∙ sym (longer bytes word rest separator more is)

whole_text : (f : Frame) → frame_text f ≡ f.path ++ (32 ∷ tail1 f [])
unfolding frame_text
whole_text f = refl

-- a path that these visible bytes begin
begun_path : (bytes : List ℕ) → length bytes ≤ 2048 → AllByRecursion IsVisible bytes → (path : List ℕ) × (back : List ℕ) × IsWord 2048 path × (path ≡ bytes ++ back)
begun_path [] short visible = (65 ∷ [], 65 ∷ [], (omega arith, omega arith, ((omega arith, omega arith), tt)), refl)
begun_path (b ∷ bytes) short visible = (b ∷ bytes, [], (omega arith, short, visible), sym (append-nil (b ∷ bytes)))

-- a bearer that they begin
begun_bearer : (bytes : List ℕ) → length bytes ≤ 8192 → AllByRecursion IsVisible bytes
    → (bearer : Option (List ℕ)) × (back : List ℕ) × IfSome bearer IsBearer × (bearer_text bearer ≡ bytes ++ back)
begun_bearer [] short visible = (None, 45 ∷ [], tt, refl)
begun_bearer (b ∷ []) short visible =
    (Some (b ∷ 65 ∷ []), 65 ∷ [], ((omega arith, omega arith, (visible.0, ((omega arith, omega arith), tt))), λ none. omega (arith, ap length none)), refl)
begun_bearer (b ∷ c ∷ bytes) short visible =
    (Some (b ∷ c ∷ bytes), [], ((omega arith, short, visible), λ none. omega (arith, ap length none)), sym (append-nil (b ∷ c ∷ bytes)))

-- the bearer that a word is
word_bearer : (word : List ℕ) → IsWord 8192 word → (bearer : Option (List ℕ)) × IfSome bearer IsBearer × (bearer_text bearer ≡ word)
word_bearer [] is = absurd (omega (arith, is.0))
word_bearer (b ∷ c ∷ word) is = (Some (b ∷ c ∷ word), (is, λ none. omega (arith, ap length none)), refl)
word_bearer (b ∷ []) is = ⊎_elim (λ dash. (None, tt, ap (λ (k : ℕ). k ∷ []) (sym dash))) (λ other. (Some (b ∷ []), (is, λ same. other (cc same)), refl)) (equal_or b 45)
  where
    equal_or : (a b : ℕ) → (a ≡ b) ⊎ (a ≢ b)
    equal_or a b = grind arith

-- the bytes end within a number, at its begin or behind some of its digits
abbrev pub IsNumberFront : ℕ → List ℕ → Type 0
IsNumberFront most digits = (digits ≡ []) ⊎ ((n : ℕ) × (n ≤ most) × (digits ≡ decimal n))

begun_number : (most : ℕ) (digits : List ℕ) → IsNumberFront most digits → (n : ℕ) × (back : List ℕ) × (n ≤ most) × (decimal n ≡ digits ++ back)
begun_number most digits (inl none) = (0, decimal 0, omega arith, ap (λ (l : List ℕ). l ++ decimal 0) (sym none))
begun_number most digits (inr is) = (is.0, [], is.1, sym is.2 ∙ sym (append-nil digits))

pub front0 : (bytes : List ℕ) → length bytes ≤ 2048 → AllByRecursion IsVisible bytes → IsFront bytes
front0 bytes short visible =
    let at = begun_path bytes short visible in
    let f : Frame = record { path = at.0; bearer = None; moment = 0; body = [] } in record {
      frame = f;
      more = at.1 ++ (32 ∷ tail1 f []);
      is = record { path = at.2; bearer = tt; moment = omega arith; body = omega arith };
      goes_on = whole_text f ∙ ap (λ (l : List ℕ). l ++ (32 ∷ tail1 f [])) at.3 ∙ append_assoc bytes at.1 (32 ∷ tail1 f []);
    }

pub front1 : (bytes path r1 : List ℕ) → bytes ≡ path ++ (32 ∷ r1) → IsWord 2048 path → length r1 ≤ 8192 → AllByRecursion IsVisible r1 → IsFront bytes
front1 bytes path r1 p path_is short visible =
    let at = begun_bearer r1 short visible in
    let f : Frame = record { path = path; bearer = at.0; moment = 0; body = [] } in
    let more = at.1 ++ (32 ∷ tail2 f []) in
    let one : tail1 f [] ≡ r1 ++ more = ap (λ (l : List ℕ). l ++ (32 ∷ tail2 f [])) at.3 ∙ append_assoc r1 at.1 (32 ∷ tail2 f []) in record {
      frame = f;
      more = more;
      is = record { path = path_is; bearer = at.2; moment = omega arith; body = omega arith };
      goes_on = whole_text f ∙ on 32 bytes path r1 more path _ p refl one;
    }

pub front2 : (bytes path r1 word r2 : List ℕ) → bytes ≡ path ++ (32 ∷ r1) → IsWord 2048 path → r1 ≡ word ++ (32 ∷ r2) → IsWord 8192 word → IsNumberFront 200_000_000_000 r2 → IsFront bytes
front2 bytes path r1 word r2 p path_is b word_is digits =
    let bearer = word_bearer word word_is in
    let at = begun_number 200_000_000_000 r2 digits in
    let f : Frame = record { path = path; bearer = bearer.0; moment = at.0; body = [] } in
    let more = at.1 ++ (32 ∷ tail3 f []) in
    let two : tail2 f [] ≡ r2 ++ more = ap (λ (l : List ℕ). l ++ (32 ∷ tail3 f [])) at.3 ∙ append_assoc r2 at.1 (32 ∷ tail3 f []) in
    let one : tail1 f [] ≡ r1 ++ more = on 32 r1 word r2 more _ _ b bearer.2 two in record {
      frame = f;
      more = more;
      is = record { path = path_is; bearer = bearer.1; moment = at.2; body = omega arith };
      goes_on = whole_text f ∙ on 32 bytes path r1 more path _ p refl one;
    }

-- the words before the number of bytes: the body is what is asked for
behind_moment : (bytes path r1 word r2 digits r3 body more : List ℕ) (moment : ℕ) → bytes ≡ path ++ (32 ∷ r1) → IsWord 2048 path → r1 ≡ word ++ (32 ∷ r2) → IsWord 8192 word
    → r2 ≡ digits ++ (32 ∷ r3) → moment ≤ 200_000_000_000 → digits ≡ decimal moment → length body ≤ 65536 → decimal (length body) ++ (10 ∷ (body ++ (10 ∷ []))) ≡ r3 ++ more → IsFront bytes
behind_moment bytes path r1 word r2 digits r3 body more moment p path_is b word_is m low number short three =
    let bearer = word_bearer word word_is in
    let f : Frame = record { path = path; bearer = bearer.0; moment = moment; body = body } in
    let two : tail2 f [] ≡ r2 ++ more = on 32 r2 digits r3 more _ _ m (sym number) three in
    let one : tail1 f [] ≡ r1 ++ more = on 32 r1 word r2 more _ _ b bearer.2 two in record {
      frame = f;
      more = more;
      is = record { path = path_is; bearer = bearer.1; moment = low; body = short };
      goes_on = whole_text f ∙ on 32 bytes path r1 more path _ p refl one;
    }

pub front3 : (bytes path r1 word r2 digits r3 : List ℕ) (moment : ℕ) → bytes ≡ path ++ (32 ∷ r1) → IsWord 2048 path → r1 ≡ word ++ (32 ∷ r2) → IsWord 8192 word
    → r2 ≡ digits ++ (32 ∷ r3) → moment ≤ 200_000_000_000 → digits ≡ decimal moment → IsNumberFront 65536 r3 → IsFront bytes
front3 bytes path r1 word r2 digits r3 moment p path_is b word_is m low number size =
    let at = begun_number 65536 r3 size in
    let body = replicate at.0 0 in
    let sized : length body ≡ at.0 = length-replicate at.0 0 in
    let tail = 10 ∷ (body ++ (10 ∷ [])) in
    behind_moment bytes path r1 word r2 digits r3 body (at.1 ++ tail) moment p path_is b word_is m low number (omega (arith, sized, at.2))
    (ap (λ (k : ℕ). decimal k ++ tail) sized ∙ ap (λ (l : List ℕ). l ++ tail) at.3 ∙ append_assoc r3 at.1 tail)

pub front4 : (bytes path r1 word r2 digits r3 sizes r4 : List ℕ) (moment size : ℕ) → bytes ≡ path ++ (32 ∷ r1) → IsWord 2048 path → r1 ≡ word ++ (32 ∷ r2) → IsWord 8192 word
    → r2 ≡ digits ++ (32 ∷ r3) → moment ≤ 200_000_000_000 → digits ≡ decimal moment → r3 ≡ sizes ++ (10 ∷ r4) → size ≤ 65536 → sizes ≡ decimal size → length r4 ≤ size → IsFront bytes
front4 bytes path r1 word r2 digits r3 sizes r4 moment size p path_is b word_is m low number s small sized short =
    let rest = replicate (size - length r4) 0 in
    let body = r4 ++ rest in
    let long : length body ≡ size = omega (arith, length-append r4 rest, length-replicate {A = ℕ} (size - length r4) 0, short) in
    behind_moment bytes path r1 word r2 digits r3 body (rest ++ (10 ∷ [])) moment p path_is b word_is m low number (omega (arith, long, small))
    (on 10 r3 sizes r4 (rest ++ (10 ∷ [])) _ _ s (ap decimal long ∙ sym sized) (append_assoc r4 rest (10 ∷ [])))
