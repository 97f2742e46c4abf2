-- Which bytes begin no frame, part by part.
use Rattle.std.proofs.Common.{◌≡◌, ◌≢◌, ◌≤◌, ◌<◌, ◌+◌, ◌-◌, ◌^◌, ℕ, List, [], ◌∷◌, ◌++◌, length, drop, sym, ◌∙◌, ap, arith, append_assoc, length-append}
use Rattle.std.proofs.lemmas.List.{drop_at, drop-append-le}
use Rattle.std.proofs.lemmas.Fmt.{decimal_is_IsNumeral, length-decimal-le}
use Rattle.std.specs.Prelude.{Option, None, Some, IfSome}
use Rattle.std.specs.List.{AllByRecursion}
use Rattle.std.specs.Fmt.{decimal}
use Rattle.sts_serve.specs.Frames.{IsFrame, IsWord, IsVisible, IsBearer, bearer_text, frame_text, NoFrame}
use Rattle.sts_serve.specs.declared.frame.Frame.{Frame}
use Rattle.sts_serve.proofs.Cuts.{cut, free-visible, free-bearer, free-digits, not_space, not_feed, decimal-inj, spread}
use Rattle.sts_serve.proofs.Words.{no_separator, visible_digits}

abbrev pub tail4 : Frame → List ℕ → List ℕ
tail4 f x = f.body ++ (10 ∷ x)

abbrev pub tail3 : Frame → List ℕ → List ℕ
tail3 f x = decimal (length f.body) ++ (10 ∷ tail4 f x)

abbrev pub tail2 : Frame → List ℕ → List ℕ
tail2 f x = decimal f.moment ++ (32 ∷ tail3 f x)

abbrev pub tail1 : Frame → List ℕ → List ℕ
tail1 f x = bearer_text f.bearer ++ (32 ∷ tail2 f x)

abbrev pub NoTail : (Frame → List ℕ → List ℕ) → List ℕ → Type 0
NoTail tail rest = (f : Frame) (x : List ℕ) → IsFrame f → rest ≡ tail f x → ⊥

abbrev pub NoBody : ℕ → List ℕ → Type 0
NoBody size rest = (f : Frame) (x : List ℕ) → IsFrame f → length f.body ≡ size → rest ≡ tail4 f x → ⊥

pub longer : (bytes word rest : List ℕ) (separator : ℕ) (more : List ℕ) → bytes ≡ word ++ (separator ∷ rest) → bytes ++ more ≡ word ++ (separator ∷ (rest ++ more))
longer bytes word rest separator more is = ap (λ (l : List ℕ). l ++ more) is ∙ append_assoc word (separator ∷ rest) more

-- ---- the words of a frame

moment_small : (f : Frame) → IsFrame f → f.moment < 2 ^ 64
moment_small f is = omega (arith, is.moment)

size_small : (f : Frame) → IsFrame f → length f.body < 2 ^ 64
size_small f is = omega (arith, is.body)

bearer_word : (bearer : Option (List ℕ)) → IfSome bearer IsBearer → IsWord 8192 (bearer_text bearer)
bearer_word None is = (omega arith, omega arith, ((omega arith, omega arith), tt))
bearer_word (Some text) is = is.0

decimal_word : (longest n : ℕ) → 0 < longest → n < 10 ^ longest → n < 2 ^ 64 → IsWord longest (decimal n)
decimal_word longest n some low small = (omega (arith, (decimal_is_IsNumeral n small).0.0), length-decimal-le longest n some low small, visible_digits (decimal n) (decimal_is_IsNumeral n small).0.1)

moment_word : (f : Frame) → IsFrame f → IsWord 12 (decimal f.moment)
moment_word f is = decimal_word 12 f.moment (omega arith) (omega (arith, is.moment)) (moment_small f is)

size_word : (f : Frame) → IsFrame f → IsWord 5 (decimal (length f.body))
size_word f is = decimal_word 5 (length f.body) (omega arith) (omega (arith, is.body)) (size_small f is)

-- ---- a word more

pub step0 : (bytes word rest : List ℕ) → bytes ≡ word ++ (32 ∷ rest) → IsWord 2048 word → NoTail tail1 rest → NoFrame bytes
step0 bytes word rest is word_is none_there f x frame same =
    none_there f x frame (cut 32 word f.path rest (tail1 f x) (free-visible 32 word (omega arith) word_is.2) (free-visible 32 f.path (omega arith) frame.path.2) (sym is ∙ same ∙ spread f x)).1

pub step1 : (bytes word rest : List ℕ) → bytes ≡ word ++ (32 ∷ rest) → IsWord 8192 word → NoTail tail2 rest → NoTail tail1 bytes
step1 bytes word rest is word_is none_there f x frame same =
    none_there f x frame (cut 32 word (bearer_text f.bearer) rest (tail2 f x) (free-visible 32 word (omega arith) word_is.2) (free-bearer f.bearer frame.bearer) (sym is ∙ same)).1

at2 : (bytes word rest : List ℕ) → bytes ≡ word ++ (32 ∷ rest) → IsWord 12 word → (f : Frame) (x : List ℕ) → IsFrame f → bytes ≡ tail2 f x → (word ≡ decimal f.moment) × (rest ≡ tail3 f x)
at2 bytes word rest is word_is f x frame same =
    cut 32 word (decimal f.moment) rest (tail3 f x) (free-visible 32 word (omega arith) word_is.2) (free-digits 32 not_space _ (decimal_is_IsNumeral f.moment (moment_small f frame)).0.1) (sym is ∙ same)

pub step2 : (bytes word rest : List ℕ) → bytes ≡ word ++ (32 ∷ rest) → IsWord 12 word → NoTail tail3 rest → NoTail tail2 bytes
step2 bytes word rest is word_is none_there f x frame same = none_there f x frame (at2 bytes word rest is word_is f x frame same).1

pub bad2 : (bytes word rest : List ℕ) → bytes ≡ word ++ (32 ∷ rest) → IsWord 12 word → ((n : ℕ) → n ≤ 200_000_000_000 → word ≡ decimal n → ⊥) → NoTail tail2 bytes
bad2 bytes word rest is word_is none f x frame same = none f.moment frame.moment (at2 bytes word rest is word_is f x frame same).0

at3 : (bytes word rest : List ℕ) → bytes ≡ word ++ (10 ∷ rest) → IsWord 5 word → (f : Frame) (x : List ℕ) → IsFrame f → bytes ≡ tail3 f x → (word ≡ decimal (length f.body)) × (rest ≡ tail4 f x)
at3 bytes word rest is word_is f x frame same =
    cut 10 word (decimal (length f.body)) rest (tail4 f x) (free-visible 10 word (omega arith) word_is.2) (free-digits 10 not_feed _ (decimal_is_IsNumeral (length f.body) (size_small f frame)).0.1) (sym is ∙ same)

pub step3 : (bytes word rest : List ℕ) (size : ℕ) → bytes ≡ word ++ (10 ∷ rest) → IsWord 5 word → word ≡ decimal size → size ≤ 65536 → NoBody size rest → NoTail tail3 bytes
step3 bytes word rest size is word_is number low none_there f x frame same =
    let at = at3 bytes word rest is word_is f x frame same in
    none_there f x frame (decimal-inj (length f.body) size (size_small f frame) (omega arith) (sym at.0 ∙ number)) at.1

pub bad3 : (bytes word rest : List ℕ) → bytes ≡ word ++ (10 ∷ rest) → IsWord 5 word → ((n : ℕ) → n ≤ 65536 → word ≡ decimal n → ⊥) → NoTail tail3 bytes
bad3 bytes word rest is word_is none f x frame same = none (length f.body) frame.body (at3 bytes word rest is word_is f x frame same).0

-- ---- no word yet, and never one

pub part0 : (bytes : List ℕ) → AllByRecursion IsVisible bytes → NoFrame bytes
part0 bytes all f x frame same = no_separator 32 bytes f.path (tail1 f x) (omega arith) all (same ∙ spread f x)

pub part1 : (bytes : List ℕ) → AllByRecursion IsVisible bytes → NoTail tail1 bytes
part1 bytes all f x frame same = no_separator 32 bytes (bearer_text f.bearer) (tail2 f x) (omega arith) all same

pub part2 : (bytes : List ℕ) → AllByRecursion IsVisible bytes → NoTail tail2 bytes
part2 bytes all f x frame same = no_separator 32 bytes (decimal f.moment) (tail3 f x) (omega arith) all same

pub part3 : (bytes : List ℕ) → AllByRecursion IsVisible bytes → NoTail tail3 bytes
part3 bytes all f x frame same = no_separator 10 bytes (decimal (length f.body)) (tail4 f x) (omega arith) all same

abbrev pub NoWord : ℕ → ℕ → List ℕ → Type 0
NoWord separator longest bytes = (word rest more : List ℕ) → IsWord longest word → bytes ++ more ≡ word ++ (separator ∷ rest) → ⊥

pub never0 : (bytes : List ℕ) → NoWord 32 2048 bytes → (more : List ℕ) → NoFrame (bytes ++ more)
never0 bytes none_there more f x frame same = none_there f.path (tail1 f x) more frame.path (same ∙ spread f x)

pub never1 : (bytes : List ℕ) → NoWord 32 8192 bytes → (more : List ℕ) → NoTail tail1 (bytes ++ more)
never1 bytes none_there more f x frame same = none_there (bearer_text f.bearer) (tail2 f x) more (bearer_word f.bearer frame.bearer) same

pub never2 : (bytes : List ℕ) → NoWord 32 12 bytes → (more : List ℕ) → NoTail tail2 (bytes ++ more)
never2 bytes none_there more f x frame same = none_there (decimal f.moment) (tail3 f x) more (moment_word f frame) same

pub never3 : (bytes : List ℕ) → NoWord 10 5 bytes → (more : List ℕ) → NoTail tail3 (bytes ++ more)
never3 bytes none_there more f x frame same = none_there (decimal (length f.body)) (tail4 f x) more (size_word f frame) same

-- ---- the body

pub short_body : (size : ℕ) (rest : List ℕ) → length rest ≤ size → NoBody size rest
short_body size rest short f x frame sized same = omega (arith, ap length same, length-append f.body (10 ∷ x), sized)

pub wrong_end : (size : ℕ) (rest more : List ℕ) (byte : ℕ) (end : List ℕ) → size ≤ length rest → drop size rest ≡ byte ∷ end → byte ≢ 10 → NoBody size (rest ++ more)
wrong_end size rest more byte end long is not f x frame sized same =
    let left : drop size (rest ++ more) ≡ byte ∷ (end ++ more) = drop-append-le size rest more long ∙ ap (λ (l : List ℕ). l ++ more) is in
    let right : drop size (rest ++ more) ≡ 10 ∷ x = ap (λ (l : List ℕ). drop size l) same ∙ drop_at f.body (10 ∷ x) size sized in
    not (cc (left, right))

pub some_bytes : (bytes word rest : List ℕ) (separator : ℕ) → bytes ≡ word ++ (separator ∷ rest) → bytes ≢ []
some_bytes bytes word rest separator is none = omega (arith, ap length is, ap length none, length-append word (separator ∷ rest))

some_frame : (frame : Frame) → 0 < length (frame_text frame)
unfolding frame_text
some_frame frame =
    let rest = 32 ∷ (bearer_text frame.bearer ++ (32 ∷ (decimal frame.moment ++ (32 ∷ (decimal (length frame.body) ++ (10 ∷ (frame.body ++ (10 ∷ [])))))))) in
    omega (arith, length-append frame.path rest)

pub whole : (f : Frame) (bytes r1 bw r2 mw r3 sw r4 rest : List ℕ) → bytes ≡ f.path ++ (32 ∷ r1) → r1 ≡ bw ++ (32 ∷ r2) → bearer_text f.bearer ≡ bw
    → r2 ≡ mw ++ (32 ∷ r3) → mw ≡ decimal f.moment → r3 ≡ sw ++ (10 ∷ r4) → sw ≡ decimal (length f.body) → r4 ≡ f.body ++ (10 ∷ rest) → bytes ≡ frame_text f ++ rest
whole f bytes r1 bw r2 mw r3 sw r4 rest p b bearer m moment s size body =
    let three : r3 ≡ tail3 f rest = s ∙ ap (λ (w : List ℕ). w ++ (10 ∷ r4)) size ∙ ap (λ (l : List ℕ). decimal (length f.body) ++ (10 ∷ l)) body in
    let two : r2 ≡ tail2 f rest = m ∙ ap (λ (w : List ℕ). w ++ (32 ∷ r3)) moment ∙ ap (λ (l : List ℕ). decimal f.moment ++ (32 ∷ l)) three in
    let one : r1 ≡ tail1 f rest = b ∙ ap (λ (w : List ℕ). w ++ (32 ∷ r2)) (sym bearer) ∙ ap (λ (l : List ℕ). bearer_text f.bearer ++ (32 ∷ l)) two in
    p ∙ ap (λ (l : List ℕ). f.path ++ (32 ∷ l)) one ∙ sym (spread f rest)

pub found : (f : Frame) (bytes end rest : List ℕ) → bytes ≡ frame_text f ++ rest → length end ≡ length rest + 1
    → (length bytes - length end + 1 ≡ length (frame_text f)) × (bytes ≡ frame_text f ++ drop (length bytes - length end + 1) bytes)
found f bytes end rest is long =
    let some : 0 < length (frame_text f) = some_frame f in
    let size : length bytes - length end + 1 ≡ length (frame_text f) = omega (arith, ap length is, length-append (frame_text f) rest, long, some) in
    let back : drop (length bytes - length end + 1) bytes ≡ rest = ap (λ (l : List ℕ). drop (length bytes - length end + 1) l) is ∙ drop_at (frame_text f) rest (length bytes - length end + 1) (sym size) in
    (size, is ∙ ap (λ (l : List ℕ). frame_text f ++ l) (sym back))
