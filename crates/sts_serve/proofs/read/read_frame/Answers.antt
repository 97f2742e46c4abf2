use Rattle.std.proofs.Common.{◌≡◌, ◌≢◌, ◌<◌, ◌≤◌, ◌++◌, ◌∷◌, [], length, drop, get_or, List, ℕ, sym, ◌∙◌, subst, arith, ap, length-drop, take-append-drop}
use Rattle.std.specs.Prelude.{Option, None, Some, Result, Ok, Err, IfOk}
use Rattle.std.specs.Fmt.{decimal}
use Rattle.std.proofs.lemmas.List.{drop_more}
use Rattle.sts_serve.specs.Frames.{IsWord}
use Rattle.sts_serve.specs.declared.frame.Frame.{Frame}
use Rattle.sts_serve.specs.declared.frame.Found.{Found}
use Rattle.sts_serve.specs.declared.frame.Found.TheVariants.{Whole, Part, Never}
use Rattle.sts_serve.specs.Cut.{IsNumberOf}
use Rattle.sts_serve.specs.Found.{IsFound, IsUnended}
use Rattle.sts_serve.proofs.Fronts.{IsNumberFront, unended2, unended3, front0, front1, front2, front3, front4}
use Rattle.sts_serve.proofs.Stages.{longer, some_bytes, step0, step1, step2, step3, part0, part1, part2, part3, never0, never1, never2, never3, bad2, bad3, short_body, wrong_end, whole, found}
use Rattle.sts_serve.proofs.read.read_frame.Goals as goal

number_none : {most : ℕ} {text : List ℕ} {o : Option ℕ} → o ≡ None → IsNumberOf most text o → (n : ℕ) → n ≤ most → text ≡ decimal n → ⊥
number_none {most} {text} is fits = subst (λ (o : Option ℕ). IsNumberOf most text o) is fits

number_some : {most n : ℕ} {text : List ℕ} {o : Option ℕ} → o ≡ Some n → IsNumberOf most text o → (n ≤ most) × (text ≡ decimal n)
number_some {most} {n} {text} is fits = subst (λ (o : Option ℕ). IsNumberOf most text o) is fits

unended_found : {E : Type 0} {most : ℕ} {bytes digits : List ℕ} (result : Result Found E) → IfOk result (IsUnended most digits) → (IsNumberFront most digits → IsFound bytes Part)
    → (digits ≢ [] → IsNumberOf most digits None → IsFound bytes Never) → IfOk result (IsFound bytes)
unended_found (Ok (Whole frame size)) is part never = absurd is
unended_found (Ok Part) is part never = part is
unended_found (Ok Never) is part never = never is.0 is.1
unended_found (Err e) is part never = tt

pub returns-in-Part : goal.returns-in-Part
returns-in-Part c = let e = c.in-Part.ensures in (part0 _ e.1, front0 _ e.0 e.1)

pub returns-in-Never : goal.returns-in-Never
returns-in-Never c = (c.in-Never.ensures.0, never0 _ c.in-Never.ensures.1)

pub returns-in-Part-cut_word : goal.returns-in-Part-cut_word
returns-in-Part-cut_word c = let p = c.in-Word.ensures in let e = c.in-Part-cut_word.ensures in (step0 _ _ _ p.1 p.0 (part1 _ e.1), front1 _ _ _ p.1 p.0 e.0 e.1)

pub returns-in-Never-cut_word : goal.returns-in-Never-cut_word
returns-in-Never-cut_word c = let p = c.in-Word.ensures in
    (some_bytes _ _ _ _ p.1, λ more. step0 _ _ _ (longer _ _ _ _ more p.1) p.0 (never1 _ c.in-Never-cut_word.ensures.1 more))

pub returns-in-Part-cut_word-2 : goal.returns-in-Part-cut_word-2
returns-in-Part-cut_word-2 c = let p = c.in-Word.ensures in let b = c.in-Word-cut_word.ensures in let e = c.in-Part-cut_word-2.ensures in
    unended_found c.unended.result c.unended.ensures
    (λ digits. (step0 _ _ _ p.1 p.0 (step1 _ _ _ b.1 b.0 (part2 _ e.1)), front2 _ _ _ _ _ p.1 p.0 b.1 b.0 digits))
    (λ some none. (some_bytes _ _ _ _ p.1, λ more. step0 _ _ _ (longer _ _ _ _ more p.1) p.0 (step1 _ _ _ (longer _ _ _ _ more b.1) b.0 (unended2 _ more e.1 some none))))

pub returns-in-Never-cut_word-2 : goal.returns-in-Never-cut_word-2
returns-in-Never-cut_word-2 c = let p = c.in-Word.ensures in let b = c.in-Word-cut_word.ensures in
    (some_bytes _ _ _ _ p.1, λ more. step0 _ _ _ (longer _ _ _ _ more p.1) p.0 (step1 _ _ _ (longer _ _ _ _ more b.1) b.0 (never2 _ c.in-Never-cut_word-2.ensures.1 more)))

pub returns-in_default : goal.returns-in_default
returns-in_default c = let p = c.in-Word.ensures in let b = c.in-Word-cut_word.ensures in let m = c.in-Word-cut_word-2.ensures in
    let none = number_none c.in_default.is c.in_ok-moment.ensures in
    (some_bytes _ _ _ _ p.1, λ more. step0 _ _ _ (longer _ _ _ _ more p.1) p.0 (step1 _ _ _ (longer _ _ _ _ more b.1) b.0 (bad2 _ _ _ (longer _ _ _ _ more m.1) m.0 none)))

pub returns-in-Part-cut_word-3 : goal.returns-in-Part-cut_word-3
returns-in-Part-cut_word-3 c = let p = c.in-Word.ensures in let b = c.in-Word-cut_word.ensures in let m = c.in-Word-cut_word-2.ensures in let e = c.in-Part-cut_word-3.ensures in
    let at = number_some c.in-Some.is c.in_ok-moment.ensures in
    unended_found c.unended-in-Part-cut_word-3.result c.unended-in-Part-cut_word-3.ensures
    (λ digits. (step0 _ _ _ p.1 p.0 (step1 _ _ _ b.1 b.0 (step2 _ _ _ m.1 m.0 (part3 _ e.1))), front3 _ _ _ _ _ _ _ _ p.1 p.0 b.1 b.0 m.1 at.0 at.1 digits))
    (λ some none. (
      some_bytes _ _ _ _ p.1,
      λ more. step0 _ _ _ (longer _ _ _ _ more p.1) p.0 (step1 _ _ _ (longer _ _ _ _ more b.1) b.0 (step2 _ _ _ (longer _ _ _ _ more m.1) m.0 (unended3 _ more e.1 some none))),
    ))

pub returns-in-Never-cut_word-3 : goal.returns-in-Never-cut_word-3
returns-in-Never-cut_word-3 c = let p = c.in-Word.ensures in let b = c.in-Word-cut_word.ensures in let m = c.in-Word-cut_word-2.ensures in (
  some_bytes _ _ _ _ p.1,
  λ more. step0 _ _ _ (longer _ _ _ _ more p.1) p.0 (step1 _ _ _ (longer _ _ _ _ more b.1) b.0
      (step2 _ _ _ (longer _ _ _ _ more m.1) m.0 (never3 _ c.in-Never-cut_word-3.ensures.1 more))),
)

pub returns-in_default-2 : goal.returns-in_default-2
returns-in_default-2 c = let p = c.in-Word.ensures in let b = c.in-Word-cut_word.ensures in let m = c.in-Word-cut_word-2.ensures in let s = c.in-Word-cut_word-3.ensures in
    let none = number_none c.in_default-2.is c.in_ok-size.ensures in (
      some_bytes _ _ _ _ p.1,
      λ more. step0 _ _ _ (longer _ _ _ _ more p.1) p.0 (step1 _ _ _ (longer _ _ _ _ more b.1) b.0
          (step2 _ _ _ (longer _ _ _ _ more m.1) m.0 (bad3 _ _ _ (longer _ _ _ _ more s.1) s.0 none))),
    )

pub returns-then-rest-size : goal.returns-then-rest-size
returns-then-rest-size c = let p = c.in-Word.ensures in let b = c.in-Word-cut_word.ensures in let m = c.in-Word-cut_word-2.ensures in let s = c.in-Word-cut_word-3.ensures in
    let at = number_some c.in-Some.is c.in_ok-moment.ensures in
    let n = number_some c.in-Some-2.is c.in_ok-size.ensures in
    let short : length c.in-Word-cut_word-3.rest.now ≤ c.in-Some-2.size = omega arith in (
      step0 _ _ _ p.1 p.0 (step1 _ _ _ b.1 b.0 (step2 _ _ _ m.1 m.0 (step3 _ _ _ _ s.1 s.0 n.1 n.0 (short_body _ _ short)))),
      front4 _ _ _ _ _ _ _ _ _ _ _ p.1 p.0 b.1 b.0 m.1 at.0 at.1 s.1 n.0 n.1 short,
    )

pub returns-then-end-ne10 : goal.returns-then-end-ne10
returns-then-end-ne10 c = let p = c.in-Word.ensures in let b = c.in-Word-cut_word.ensures in let m = c.in-Word-cut_word-2.ensures in let s = c.in-Word-cut_word-3.ensures in
    let n = number_some c.in-Some-2.is c.in_ok-size.ensures in
    let rest = c.in-Word-cut_word-3.rest.now in
    let end = c.split_at.result.1.now in
    let some : 0 < length end = omega (arith, ap length c.split_at.ensures.back, length-drop c.in-Some-2.size rest) in
    let cons : drop c.in-Some-2.size rest ≡ get_or end 0 0 ∷ drop 1 end = sym c.split_at.ensures.back ∙ drop_more end 0 0 some in
    let not : get_or end 0 0 ≢ 10 = omega arith in (
      some_bytes _ _ _ _ p.1,
      λ more. step0 _ _ _ (longer _ _ _ _ more p.1) p.0 (step1 _ _ _ (longer _ _ _ _ more b.1) b.0
          (step2 _ _ _ (longer _ _ _ _ more m.1) m.0 (step3 _ _ _ _ (longer _ _ _ _ more s.1) s.0 n.1 n.0 (wrong_end _ _ more _ _ (omega arith) cons not)))),
    )

pub returns : goal.returns
returns c = let p = c.in-Word.ensures in let b = c.in-Word-cut_word.ensures in let m = c.in-Word-cut_word-2.ensures in let s = c.in-Word-cut_word-3.ensures in
    let at = number_some c.in-Some.is c.in_ok-moment.ensures in
    let n = number_some c.in-Some-2.is c.in_ok-size.ensures in
    let rest = c.in-Word-cut_word-3.rest.now in
    let end = c.split_at.result.1.now in
    let f : Frame = c.in_ok-frame.frame in
    let moment : f.moment ≡ c.in-Some.moment = c.in_ok-frame.ensures.moment in
    let path : f.path ≡ c.in-Word.word.now = c.in_ok-frame.ensures.path in
    let body : f.body ≡ c.split_at.result.0.now = c.in_ok-frame.ensures.body in
    let sized : length f.body ≡ c.in-Some-2.size = omega (arith, ap length body, c.split_at.ensures.front_len) in
    let some : 0 < length end = omega (arith, ap length c.split_at.ensures.back, length-drop c.in-Some-2.size rest) in
    let feed : get_or end 0 0 ≡ 10 = omega arith in
    let cons : end ≡ 10 ∷ drop 1 end = drop_more end 0 0 some ∙ ap (λ (k : ℕ). k ∷ drop 1 end) feed in
    let last : rest ≡ f.body ++ (10 ∷ drop 1 end) = sym (take-append-drop c.in-Some-2.size rest) ∙ ap (λ (l : List ℕ). l ++ drop c.in-Some-2.size rest) (sym c.split_at.ensures.front ∙ sym body)
    ∙ ap (λ (l : List ℕ). f.body ++ l) (sym c.split_at.ensures.back ∙ cons) in
    let all = whole f c.args.bytes.now _ _ _ _ _ _ _ (drop 1 end) (p.1 ∙ ap (λ (w : List ℕ). w ++ (32 ∷ c.in-Word.rest.now)) (sym path)) b.1 c.in_ok-frame.ensures.bearer m.1 (at.1 ∙ ap decimal (sym moment)) s.1
    (n.1 ∙ ap decimal (sym sized)) last in
    let there = found f c.args.bytes.now end (drop 1 end) all (omega (arith, ap length cons)) in (
      record {
        path = subst (λ (w : List ℕ). IsWord 2048 w) (sym path) p.0;
        bearer = c.in_ok-frame.ensures.form;
        moment = omega (arith, at.0, moment);
        body = omega (arith, sized, n.0);
      },
      there.0,
      there.1,
    )
