-- A run over lines, line by line.
use Rattle.std.proofs.Common.{◌≡◌, ◌≢◌, ◌≤◌, ◌+◌, inl, inr, ℕ, List, [], ◌∷◌, ◌++◌, length, take, drop, refl, sym, ◌∙◌, ap, subst, arith, append_assoc, length-append}
use Rattle.std.proofs.lemmas.List.{append-nil, length-take}
use Rattle.std.proofs.lemmas.Grind.{flat_map-append}
use Rattle.std.specs.Prelude.{Option}
use Rattle.std.specs.List.{AllByRecursion}
use Rattle.std.specs.Io.KnownBytes.{Keeps, Appends, Consumes, IsAtEnd}
use Rattle.wif_base.proofs.Known.{appends-nothing, appends-then, consumes-nothing, consumes-then, keeps-consumes}
use Rattle.wif_base.specs.Carried.{Carried, input_limit}
use Rattle.wif_base.specs.Output.{IsProperPart}
use Rattle.cel_lines.specs.Answers.{AreAnswers, AppendsAnswer}
use Rattle.cel_lines.specs.Front.{IsFeedAt}
use Rattle.cel_lines.specs.Last.{AnswersLast}
use Rattle.cel_lines.specs.Lines.{longest, HasNoFeed, IsLine, lines_text, LinesBegin, last_line}
use Rattle.cel_lines.specs.Run.{EndsAs, LinesRun}
use Rattle.cel_lines.specs.declared.end.LinesEnd.{LinesEnd}
use Rattle.cel_lines.specs.declared.end.LinesEnd.TheVariants.{Done, ReadFault, WriteFault, LineTooLong, InputLimit, Memory}

-- ---- more lines

lines-append : (lines more : List (List ℕ)) → lines_text (lines ++ more) ≡ lines_text lines ++ lines_text more
lines-append lines more = flat_map-append _ lines more

all-push : (lines : List (List ℕ)) (line : List ℕ) → AllByRecursion IsLine lines → IsLine line → AllByRecursion IsLine (lines ++ line ∷ [])
all-push [] line each is = (is, tt)
all-push (l ∷ lines) line each is = (each.0, all-push lines line each.1 is)

answers-append : (lines answers more others : List (List ℕ)) → AreAnswers lines answers → AreAnswers more others → AreAnswers (lines ++ more) (answers ++ others)
answers-append [] [] more others are are' = are'
answers-append [] (a ∷ answers) more others are are' = absurd are
answers-append (l ∷ lines) [] more others are are' = absurd are
answers-append (l ∷ lines) (a ∷ answers) more others are are' = (are.0, answers-append lines answers more others are.1 are')

-- ---- the last line

last_is : (rest : List ℕ) → rest ≢ [] → last_line rest ≡ rest ∷ []
last_is [] some = absurd (some refl)
last_is (b ∷ rest) some = refl

-- its answer stands alone
alone : (rest before after : List ℕ) → rest ≢ [] → before ≡ [] → AppendsAnswer rest before after
    → (answers : List (List ℕ)) × AreAnswers (last_line rest) answers × (after ≡ lines_text answers)
alone rest before after some none appends =
    let text = appends.0 in (
      text ∷ [],
      subst (λ (lines : List (List ℕ)). AreAnswers lines (text ∷ [])) (sym (last_is rest some)) (appends.1, tt),
      appends.2 ∙ ap (λ (l : List ℕ). l ++ (text ++ (10 ∷ []))) none ∙ sym (append-nil (text ++ (10 ∷ []))),
    )

pub last_done : (rest before after : List ℕ) (taken taken' : Option (List ℕ)) → rest ≢ [] → before ≡ [] → AppendsAnswer rest before after → Appends taken taken' after
    → AnswersLast Done rest taken taken'
last_done rest before after taken taken' some none appends writes =
    let one = alone rest before after some none appends in (one.0, one.1, subst (λ (l : List ℕ). Appends taken taken' l) one.2 writes)

pub last_broken : (rest before after : List ℕ) (taken taken' : Option (List ℕ)) → rest ≢ [] → before ≡ [] → AppendsAnswer rest before after
    → ((part : List ℕ) × IsProperPart part after × Appends taken taken' part) → AnswersLast WriteFault rest taken taken'
last_broken rest before after taken taken' some none appends (part, proper, writes) =
    let one = alone rest before after some none appends in (one.0, one.1, (part, proper.0, sym one.2 ∙ proper.2, writes))

-- ---- what is known between two lines

pub record SoFar (left left' taken taken' : Option (List ℕ)) (carry : Carried) (pending : List ℕ) : Type 0 where
  pub read : List ℕ
  pub written : List ℕ
  pub source : Consumes left left' read
  pub sink : Appends taken taken' written
  pub lines : List (List ℕ)
  pub answers : List (List ℕ)
  pub begins : LinesBegin read lines carry.unused
  pub answered : AreAnswers lines answers
  pub output : lines_text answers ≡ written ++ pending
  pub size : carry.taken ≡ length read

pub starts : (left taken : Option (List ℕ)) (carry : Carried) (pending : List ℕ) → carry.unused ≡ [] → carry.taken ≡ 0 → pending ≡ []
    → SoFar left left taken taken carry pending
starts left taken carry pending none zero empty = record {
  read = [];
  written = [];
  source = consumes-nothing left;
  sink = appends-nothing taken;
  lines = [];
  answers = [];
  begins = record { whole = sym none; each = tt };
  answered = tt;
  output = sym empty;
  size = zero;
}

module _ (left taken : Option (List ℕ)) where
  -- a line at the front was answered, and its answer is to be written
  pub answered : (left' taken' : Option (List ℕ)) (old new : Carried) (pending pending' : List ℕ) (size : ℕ)
      → SoFar left left' taken taken' old pending
      → IsFeedAt old.unused size → size ≤ longest → AppendsAnswer (take size old.unused) pending pending'
      → new.unused ≡ drop (size + 1) old.unused → new.taken ≡ old.taken
      → SoFar left left' taken taken' new pending'
  answered left' taken' old new pending pending' size so_far feed short appends rest count =
      let line = take size old.unused in
      let text = appends.0 in record {
        read = so_far.read;
        written = so_far.written;
        source = so_far.source;
        sink = so_far.sink;
        lines = so_far.lines ++ line ∷ [];
        answers = so_far.answers ++ text ∷ [];
        begins = record {
          whole = so_far.begins.whole ∙ ap (λ (l : List ℕ). lines_text so_far.lines ++ l) feed.1
              ∙ ap (λ (l : List ℕ). lines_text so_far.lines ++ (line ++ (10 ∷ l))) (sym rest)
              ∙ regroup so_far.lines line new.unused;
          each = all-push so_far.lines line so_far.begins.each (feed.0, size_of size old.unused short);
        };
        answered = answers-append so_far.lines so_far.answers (line ∷ []) (text ∷ []) so_far.answered (appends.1, tt);
        output = lines-append so_far.answers (text ∷ []) ∙ ap (λ (l : List ℕ). l ++ lines_text (text ∷ [])) so_far.output
            ∙ append_assoc so_far.written pending (lines_text (text ∷ []))
            ∙ ap (λ (l : List ℕ). so_far.written ++ (pending ++ l)) (append-nil (text ++ (10 ∷ [])))
            ∙ ap (λ (l : List ℕ). so_far.written ++ l) (sym appends.2);
        size = count ∙ so_far.size;
      }
    where
      regroup : (lines : List (List ℕ)) (line rest : List ℕ) → lines_text lines ++ (line ++ (10 ∷ rest)) ≡ lines_text (lines ++ line ∷ []) ++ rest
      regroup lines line rest = sym (ap (λ (l : List ℕ). l ++ rest) (lines-append lines (line ∷ [])) ∙ simp append_assoc)

      size_of : (size : ℕ) (bytes : List ℕ) → size ≤ longest → length (take size bytes) ≤ longest
      size_of size bytes short = omega (arith, length-take size bytes)

  -- the answers at hand were written
  pub wrote : (left' taken' taken'' : Option (List ℕ)) (carry : Carried) (pending pending' : List ℕ)
      → SoFar left left' taken taken' carry pending → Appends taken' taken'' pending → pending' ≡ []
      → SoFar left left' taken taken'' carry pending'
  wrote left' taken' taken'' carry pending pending' so_far writes none = record {
    read = so_far.read;
    written = so_far.written ++ pending;
    source = so_far.source;
    sink = appends-then taken taken' taken'' so_far.written pending so_far.sink writes;
    lines = so_far.lines;
    answers = so_far.answers;
    begins = so_far.begins;
    answered = so_far.answered;
    output = so_far.output ∙ sym (append-nil (so_far.written ++ pending)) ∙ ap (λ (l : List ℕ). (so_far.written ++ pending) ++ l) (sym none);
    size = so_far.size;
  }

  -- more bytes were read
  pub read_on : (left' left'' taken' : Option (List ℕ)) (old new : Carried) (more pending : List ℕ)
      → SoFar left left' taken taken' old pending → Consumes left' left'' more
      → new.unused ≡ old.unused ++ more → new.taken ≡ old.taken + length more
      → SoFar left left'' taken taken' new pending
  read_on left' left'' taken' old new more pending so_far consumes rest count = record {
    read = so_far.read ++ more;
    written = so_far.written;
    source = consumes-then left left' left'' so_far.read more so_far.source consumes;
    sink = so_far.sink;
    lines = so_far.lines;
    answers = so_far.answers;
    begins = record {
      whole = ap (λ (l : List ℕ). l ++ more) so_far.begins.whole ∙ append_assoc (lines_text so_far.lines) old.unused more
          ∙ ap (λ (l : List ℕ). lines_text so_far.lines ++ l) (sym rest);
      each = so_far.begins.each;
    };
    answered = so_far.answered;
    output = so_far.output;
    size = omega (arith, so_far.size, count, length-append so_far.read more);
  }

  -- a call of the source took nothing
  pub kept : (left' left'' taken' : Option (List ℕ)) (carry : Carried) (pending : List ℕ)
      → SoFar left left' taken taken' carry pending → Keeps left' left'' → SoFar left left'' taken taken' carry pending
  kept left' left'' taken' carry pending so_far keeps = record {
    read = so_far.read;
    written = so_far.written;
    source = subst (λ (l : List ℕ). Consumes left left'' l) (append-nil so_far.read) (consumes-then left left' left'' so_far.read [] so_far.source (keeps-consumes left' left'' keeps));
    sink = so_far.sink;
    lines = so_far.lines;
    answers = so_far.answers;
    begins = so_far.begins;
    answered = so_far.answered;
    output = so_far.output;
    size = so_far.size;
  }

  -- the run ends where no answer is to be written
  pub finished : (left' taken' : Option (List ℕ)) (carry : Carried) (pending : List ℕ) (end : LinesEnd)
      → (so_far : SoFar left left' taken taken' carry pending) → pending ≡ []
      → (so_far.written ≡ lines_text so_far.answers → EndsAs end so_far.read left' so_far.lines (lines_text so_far.answers) so_far.written)
      → LinesRun left left' taken taken' end
  finished left' taken' carry pending end so_far none ends = record {
    read = so_far.read;
    written = so_far.written;
    source = so_far.source;
    sink = so_far.sink;
    lines = so_far.lines;
    answers = so_far.answers;
    answered = so_far.answered;
    ends = ends (sym (so_far.output ∙ ap (λ (l : List ℕ). so_far.written ++ l) none ∙ append-nil so_far.written));
  }

  -- one byte past the limit was read
  pub past : (left' left'' taken' : Option (List ℕ)) (old new : Carried) (pending : List ℕ) (byte : ℕ)
      → SoFar left left' taken taken' old pending → pending ≡ [] → Consumes left' left'' (byte ∷ []) → new.taken ≡ old.taken + 1
      → old.taken ≡ input_limit → HasNoFeed old.unused → LinesRun left left'' taken taken' InputLimit
  past left' left'' taken' old new pending byte so_far none consumes count full free = record {
    read = so_far.read ++ byte ∷ [];
    written = so_far.written;
    source = consumes-then left left' left'' so_far.read (byte ∷ []) so_far.source consumes;
    sink = so_far.sink;
    lines = so_far.lines;
    answers = so_far.answers;
    answered = so_far.answered;
    ends = (
      (so_far.read, old.unused, byte, refl, so_far.begins, free),
      omega (arith, full, so_far.size, length-append so_far.read (byte ∷ [])),
      sym (so_far.output ∙ ap (λ (l : List ℕ). so_far.written ++ l) none ∙ append-nil so_far.written),
    );
  }

  -- the run ends for want of memory
  pub wanting : (left' taken' : Option (List ℕ)) (carry : Carried) (pending : List ℕ)
      → SoFar left left' taken taken' carry pending → LinesRun left left' taken taken' Memory
  wanting left' taken' carry pending so_far = record {
    read = so_far.read;
    written = so_far.written;
    source = so_far.source;
    sink = so_far.sink;
    lines = so_far.lines;
    answers = so_far.answers;
    answered = so_far.answered;
    ends = (inl (carry.unused, so_far.begins), (pending, so_far.output));
  }

  -- the run ends within the answers at hand
  pub broken_off : (left' taken' taken'' : Option (List ℕ)) (carry : Carried) (pending : List ℕ) (part more : List ℕ)
      → SoFar left left' taken taken' carry pending → carry.taken ≤ input_limit → pending ≡ part ++ more → Appends taken' taken'' part
      → LinesRun left left' taken taken'' WriteFault
  broken_off left' taken' taken'' carry pending part more so_far within split writes = record {
    read = so_far.read;
    written = so_far.written ++ part;
    source = so_far.source;
    sink = appends-then taken taken' taken'' so_far.written part so_far.sink writes;
    lines = so_far.lines;
    answers = so_far.answers;
    answered = so_far.answered;
    ends = (
      inl (carry.unused, so_far.begins),
      (more, so_far.output ∙ ap (λ (l : List ℕ). so_far.written ++ l) split ∙ sym (append_assoc so_far.written part more)),
      omega (arith, so_far.size, within),
    );
  }

  -- the input is at its end, and the last line was answered as far as it went
  pub ended : (left' taken' taken'' : Option (List ℕ)) (carry : Carried) (pending : List ℕ) (end : LinesEnd)
      → SoFar left left' taken taken' carry pending → pending ≡ [] → carry.taken ≤ input_limit → IsLine carry.unused → IsAtEnd left'
      → AnswersLast end carry.unused taken' taken'' → LinesRun left left' taken taken'' end
  ended left' taken' taken'' carry pending Done so_far none within is at_end last =
      let text = lines_text last.0 in record {
        read = so_far.read;
        written = so_far.written ++ text;
        source = so_far.source;
        sink = appends-then taken taken' taken'' so_far.written text so_far.sink last.2;
        lines = so_far.lines ++ last_line carry.unused;
        answers = so_far.answers ++ last.0;
        answered = answers-append so_far.lines so_far.answers (last_line carry.unused) last.0 so_far.answered last.1;
        ends = (
          record { whole = so_far.lines; last = carry.unused; begins = so_far.begins; ends = is; all = refl },
          at_end,
          omega (arith, so_far.size, within),
          sym (lines-append so_far.answers last.0 ∙ ap (λ (l : List ℕ). l ++ text) (so_far.output ∙ ap (λ (l : List ℕ). so_far.written ++ l) none ∙ append-nil so_far.written)),
        );
      }
  ended left' taken' taken'' carry pending WriteFault so_far none within is at_end last =
      let part = last.2.0 in
      let more = last.2.1 in record {
        read = so_far.read;
        written = so_far.written ++ part;
        source = so_far.source;
        sink = appends-then taken taken' taken'' so_far.written part so_far.sink last.2.3;
        lines = so_far.lines ++ last_line carry.unused;
        answers = so_far.answers ++ last.0;
        answered = answers-append so_far.lines so_far.answers (last_line carry.unused) last.0 so_far.answered last.1;
        ends = (
          inr (record { whole = so_far.lines; last = carry.unused; begins = so_far.begins; ends = is; all = refl }),
          (
            more,
            lines-append so_far.answers last.0 ∙ ap (λ (l : List ℕ). l ++ lines_text last.0) (so_far.output ∙ ap (λ (l : List ℕ). so_far.written ++ l) none ∙ append-nil so_far.written)
                ∙ ap (λ (l : List ℕ). so_far.written ++ l) last.2.2 ∙ sym (append_assoc so_far.written part more),
          ),
          omega (arith, so_far.size, within),
        );
      }
  ended left' taken' taken'' carry pending Memory so_far none within is at_end last =
      subst (λ (t : Option (List ℕ)). LinesRun left left' taken t Memory) (sym last) (wanting left' taken' carry pending so_far)
  ended left' taken' taken'' carry pending ReadFault so_far none within is at_end last = absurd last
  ended left' taken' taken'' carry pending LineTooLong so_far none within is at_end last = absurd last
  ended left' taken' taken'' carry pending InputLimit so_far none within is at_end last = absurd last
