-- A run over a script, frame by frame.
use Rattle.std.proofs.Common.{◌≡◌, ◌≢◌, ◌≤◌, ◌<◌, ◌+◌, ◌⊎◌, inl, inr, ⊎_elim, ℕ, suc, List, [], ◌∷◌, ◌++◌, length, drop, refl, sym, ◌∙◌, ap, subst, arith, append_assoc, length-append}
use Rattle.std.proofs.lemmas.List.{append-nil, take_all, take_at, take-append-le}
use Rattle.std.specs.Prelude.{Option, Err}
use Rattle.std.specs.List.{concat, AllByRecursion}
use Rattle.std.specs.Fmt.{decimal}
use Rattle.std.specs.Io.KnownBytes.{Keeps, Appends, Consumes, IsAtEnd}
use Rattle.wif_base.proofs.Known.{appends-nothing, appends-then, consumes-nothing, consumes-then, keeps-consumes}
use Rattle.wif_base.proofs.Outputs as outputs
use Rattle.wif_base.proofs.Moments.{leaves-joins, leaves-starts, leaves-weaker, now-weaker}
use Rattle.wif_base.specs.Carried.{Carried, input_limit}
use Rattle.wif_base.specs.Disk.{Leaves}
use Rattle.service_config.specs.declared.config.Config.{Config}
use Rattle.grant_journal.specs.JournalBytes.{StandsFor}
use Rattle.links.specs.declared.entry.Entry.{Entry}
use Rattle.service_journal.specs.Journals.{texts_of}
use Rattle.sts_core.specs.Machine.{with_entry}
use Rattle.sts_core.specs.Runs.{replies_of, entries_after}
use Rattle.sts_core.specs.State.{Standing, Stands, StandsForEither}
use Rattle.sts_core.specs.declared.stop.Stop.{Stop}
use Rattle.sts_core.specs.declared.stop.Stop.TheVariants.{Memory, Journal, Broken}
use Rattle.sts_serve.specs.Frames.{bearer_text, IsFrame, frame_text, script_text, ScriptBegins, NoFrame, reply_text, reply_frames, answer}
use Rattle.sts_serve.specs.Answered.{Answers, LeftBy}
use Rattle.sts_serve.specs.Left.{LeavesService, StandsForFront, entries_behind}
use Rattle.sts_serve.specs.Served.{EndsAs, ScriptRun}
use Rattle.sts_serve.proofs.Replying.{stands_now}
use Rattle.sts_serve.specs.Found.{IsFound}
use Rattle.sts_serve.specs.declared.frame.Frame.{Frame}
use Rattle.sts_serve.specs.declared.frame.Found.TheVariants.{Whole}
use Rattle.sts_serve.specs.declared.served.Served.{Served}
use Rattle.sts_serve.specs.declared.served.Served.TheVariants.{Done, Malformed, WriteFault, Stopped}

-- ---- one frame more

all-push : (frames : List Frame) (frame : Frame) → AllByRecursion IsFrame frames → IsFrame frame → AllByRecursion IsFrame (frames ++ frame ∷ [])
all-push [] frame each is = (is, tt)
all-push (f ∷ frames) frame each is = (each.0, all-push frames frame each.1 is)

script-push : (frames : List Frame) (frame : Frame) → script_text (frames ++ frame ∷ []) ≡ script_text frames ++ frame_text frame
script-push [] frame = append-nil (frame_text frame)
script-push (f ∷ frames) frame = ap (λ (l : List ℕ). frame_text f ++ l) (script-push frames frame) ∙ sym (append_assoc (frame_text f) (script_text frames) (frame_text frame))

-- the texts of the replies to these frames
abbrev pub texts : Config → List Entry → List Frame → List (List ℕ)
texts config before frames = reply_frames (replies_of (answer config) before frames)

texts-push : (config : Config) (journal : List Entry) (frames : List Frame) (frame : Frame)
    → texts config journal (frames ++ frame ∷ []) ≡ texts config journal frames ++ reply_text (answer config (entries_after (answer config) journal frames) frame).reply ∷ []
texts-push config journal [] frame = refl
texts-push config journal (f ∷ frames) frame =
    ap (λ (l : List (List ℕ)). reply_text (answer config journal f).reply ∷ l) (texts-push config (with_entry journal (answer config journal f).entry) frames frame)

entries-push : (config : Config) (journal : List Entry) (frames : List Frame) (frame : Frame)
    → entries_after (answer config) journal (frames ++ frame ∷ []) ≡ with_entry (entries_after (answer config) journal frames) (answer config (entries_after (answer config) journal frames) frame).entry
entries-push config journal [] frame = refl
entries-push config journal (f ∷ frames) frame = entries-push config (with_entry journal (answer config journal f).entry) frames frame

pub length-texts : (config : Config) (journal : List Entry) (frames : List Frame) → length (texts config journal frames) ≡ length frames
length-texts config journal [] = refl
length-texts config journal (f ∷ frames) = ap (λ (n : ℕ). suc n) (length-texts config (with_entry journal (answer config journal f).entry) frames)

-- ---- what is known between two frames

pub record SoFar (config : Config) (before now : List Entry) (left left' taken taken' : Option (List ℕ)) (carry : Carried) (used : ℕ) : Type 0 where
  pub read : List ℕ
  pub written : List ℕ
  pub source : Consumes left left' read
  pub sink : Appends taken taken' written
  pub frames : List Frame
  pub script : ScriptBegins read frames carry.unused
  pub output : written ≡ concat (texts config before frames)
  pub journal : now ≡ entries_after (answer config) before frames
  pub place : used ≡ length (script_text frames)
  pub size : carry.taken ≡ length read

pub starts : (config : Config) (before : List Entry) (left taken : Option (List ℕ)) (carry : Carried) → carry.unused ≡ [] → carry.taken ≡ 0
    → SoFar config before before left left taken taken carry 0
starts config before left taken carry none zero = record {
  read = [];
  written = [];
  source = consumes-nothing left;
  sink = appends-nothing taken;
  frames = [];
  script = record { whole = sym none; each = tt };
  output = refl;
  journal = refl;
  place = refl;
  size = zero;
}

module _ (config : Config) (before : List Entry) (left taken : Option (List ℕ)) where
  -- a frame at the front was answered
  pub answered : (now after : List Entry) (left' taken' taken'' : Option (List ℕ)) (old new : Carried) (used size : ℕ) (frame : Frame)
      → SoFar config before now left left' taken taken' old used
      → IsFrame frame → size ≡ length (frame_text frame) → old.unused ≡ frame_text frame ++ drop size old.unused
      → new.unused ≡ drop size old.unused → new.taken ≡ old.taken
      → Appends taken' taken'' (reply_text (answer config now frame).reply) → after ≡ with_entry now (answer config now frame).entry
      → SoFar config before after left left' taken taken'' new (used + size)
  answered now after left' taken' taken'' old new used size frame so_far is sized fits rest count writes records =
      let frames = so_far.frames in
      let reply = (answer config now frame).reply in
      let same : reply_text (answer config (entries_after (answer config) before frames) frame).reply ≡ reply_text reply =
      ap (λ (j : List Entry). reply_text (answer config j frame).reply) (sym so_far.journal) in record {
        read = so_far.read;
        written = so_far.written ++ reply_text reply;
        source = so_far.source;
        sink = appends-then taken taken' taken'' so_far.written (reply_text reply) so_far.sink writes;
        frames = frames ++ frame ∷ [];
        script = record {
          whole = so_far.script.whole ∙ ap (λ (l : List ℕ). script_text frames ++ l) fits
              ∙ sym (append_assoc (script_text frames) (frame_text frame) (drop size old.unused))
              ∙ ap (λ (l : List ℕ). l ++ drop size old.unused) (sym (script-push frames frame))
              ∙ ap (λ (l : List ℕ). script_text (frames ++ frame ∷ []) ++ l) (sym rest);
          each = all-push frames frame so_far.script.each is;
        };
        output = ap (λ (l : List ℕ). l ++ reply_text reply) so_far.output
            ∙ sym (outputs.concat-push (texts config before frames) (reply_text reply))
            ∙ ap (λ (t : List ℕ). concat (texts config before frames ++ t ∷ [])) (sym same)
            ∙ ap concat (sym (texts-push config before frames frame));
        journal = records ∙ ap (λ (j : List Entry). with_entry j (answer config j frame).entry) so_far.journal ∙ sym (entries-push config before frames frame);
        place = omega (arith, so_far.place, sized, ap length (script-push frames frame), length-append (script_text frames) (frame_text frame));
        size = count ∙ so_far.size;
      }

  -- more bytes were read
  pub read_on : (now : List Entry) (left' left'' taken' : Option (List ℕ)) (old new : Carried) (more : List ℕ) (used : ℕ)
      → SoFar config before now left left' taken taken' old used → Consumes left' left'' more
      → new.unused ≡ old.unused ++ more → new.taken ≡ old.taken + length more
      → SoFar config before now left left'' taken taken' new used
  read_on now left' left'' taken' old new more used so_far consumes rest count = record {
    read = so_far.read ++ more;
    written = so_far.written;
    source = consumes-then left left' left'' so_far.read more so_far.source consumes;
    sink = so_far.sink;
    frames = so_far.frames;
    script = record {
      whole = ap (λ (l : List ℕ). l ++ more) so_far.script.whole ∙ append_assoc (script_text so_far.frames) old.unused more
          ∙ ap (λ (l : List ℕ). script_text so_far.frames ++ l) (sym rest);
      each = so_far.script.each;
    };
    output = so_far.output;
    journal = so_far.journal;
    place = so_far.place;
    size = omega (arith, so_far.size, count, length-append so_far.read more);
  }

-- ---- the journals behind the frames

behind_all : (config : Config) (before : List Entry) (frames : List Frame) (count : ℕ) → length frames ≤ count
    → entries_behind (answer config) before frames count ≡ entries_after (answer config) before frames
behind_all config before frames count all = ap (λ (fs : List Frame). entries_after (answer config) before fs) (take_all count frames all)

-- with a frame more
module _ (config : Config) (before now : List Entry) (frames : List Frame) (frame : Frame) (is : now ≡ entries_after (answer config) before frames) where
  behind_now : entries_behind (answer config) before (frames ++ frame ∷ []) (length frames) ≡ now
  behind_now = ap (λ (fs : List Frame). entries_after (answer config) before fs) (take_at frames (frame ∷ []) (length frames) refl) ∙ sym is

  behind_next : (count : ℕ) → length frames + 1 ≤ count
      → entries_behind (answer config) before (frames ++ frame ∷ []) count ≡ with_entry now (answer config now frame).entry
  behind_next count more = behind_all config before (frames ++ frame ∷ []) count (omega (arith, more, length-append frames (frame ∷ [])))
      ∙ entries-push config before frames frame ∙ ap (λ (j : List Entry). with_entry j (answer config j frame).entry) (sym is)

  front_longer : (image : List ℕ) → StandsForFront (answer config) before frames image → StandsForFront (answer config) before (frames ++ frame ∷ []) image
  front_longer image (count, within, stands) = (
    count,
    omega (arith, within, length-append frames (frame ∷ [])),
    subst (λ (fs : List Frame). StandsFor (texts_of (entries_after (answer config) before fs)) image) (sym (take-append-le count frames (frame ∷ []) within)) stands,
  )

  front_either : (image : List ℕ) → StandsForEither now (with_entry now (answer config now frame).entry) image
      → StandsForFront (answer config) before (frames ++ frame ∷ []) image
  front_either image (inl stands) = (
    length frames,
    omega (arith, length-append frames (frame ∷ [])),
    subst (λ (j : List Entry). StandsFor (texts_of j) image) (sym behind_now) stands,
  )
  front_either image (inr stands) = (
    length frames + 1,
    omega (arith, length-append frames (frame ∷ [])),
    subst (λ (j : List Entry). StandsFor (texts_of j) image) (sym (behind_next (length frames + 1) (omega arith))) stands,
  )

  -- the moments of its answer
  moments_more : (old mid new : Standing) → Leaves old.journal.told mid.journal.told (StandsForFront (answer config) before frames)
      → Leaves mid.journal.told new.journal.told (StandsForEither now (with_entry now (answer config now frame).entry))
      → Leaves old.journal.told new.journal.told (StandsForFront (answer config) before (frames ++ frame ∷ []))
  moments_more old mid new first then =
      let longer = StandsForFront (answer config) before (frames ++ frame ∷ []) in
      leaves-joins old.journal.told mid.journal.told new.journal.told longer longer
      (leaves-weaker old.journal.told mid.journal.told (StandsForFront (answer config) before frames) longer front_longer first)
      (leaves-weaker mid.journal.told new.journal.told (StandsForEither now (with_entry now (answer config now frame).entry)) longer front_either then)
      (λ image stands. stands)

-- ---- a run between two frames

-- The service stands for the journal behind the frames that were answered, and each crash so far left the journal behind some of them.
pub record Underway (config : Config) (before : List Entry) (old new : Standing) (left left' taken taken' : Option (List ℕ)) (carry : Carried) (used : ℕ) : Type 0 where
  pub now : List Entry
  pub stands : Stands new config now
  pub so_far : SoFar config before now left left' taken taken' carry used
  pub any_moment : Leaves old.journal.told new.journal.told (StandsForFront (answer config) before so_far.frames)

pub begins : (config : Config) (before : List Entry) (old : Standing) (left taken : Option (List ℕ)) (carry : Carried) → Stands old config before
    → carry.unused ≡ [] → carry.taken ≡ 0 → Underway config before old old left left taken taken carry 0
unfolding starts
begins config before old left taken carry stands none zero = record {
  now = before;
  stands = stands;
  so_far = starts config before left taken carry none zero;
  any_moment = leaves-starts old.journal.told (StandsForFront (answer config) before [])
      (now-weaker old.journal.told (StandsFor (texts_of before)) (StandsForFront (answer config) before []) (λ image s. (0, omega arith, s)) (stands_now old config before stands));
}

module _ (config : Config) (before : List Entry) (old : Standing) (left taken : Option (List ℕ)) where
  pub went_on : (new : Standing) (left' left'' taken' : Option (List ℕ)) (carry carry' : Carried) (more : List ℕ) (used : ℕ)
      → Underway config before old new left left' taken taken' carry used → Consumes left' left'' more
      → carry'.unused ≡ carry.unused ++ more → carry'.taken ≡ carry.taken + length more
      → Underway config before old new left left'' taken taken' carry' used
  unfolding read_on
  went_on new left' left'' taken' carry carry' more used run consumes rest count = record {
    now = run.now;
    stands = run.stands;
    so_far = read_on config before left taken run.now left' left'' taken' carry carry' more used run.so_far consumes rest count;
    any_moment = run.any_moment;
  }

  pub stayed : (new : Standing) (left' left'' taken' : Option (List ℕ)) (carry : Carried) (used : ℕ)
      → Underway config before old new left left' taken taken' carry used → Keeps left' left''
      → Underway config before old new left left'' taken taken' carry used
  stayed new left' left'' taken' carry used run keeps =
      went_on new left' left'' taken' carry carry [] used run (keeps-consumes left' left'' keeps) (sym (append-nil carry.unused)) (omega arith)

  -- the run ends between two frames
  pub finished : (new : Standing) (left' taken' : Option (List ℕ)) (carry : Carried) (used : ℕ) (end : Served)
      → (run : Underway config before old new left left' taken taken' carry used)
      → ((journal next : List Entry) → Stands new config journal → LeavesService end config journal next new)
      → EndsAs end run.so_far.read left' run.so_far.frames carry.unused (length run.so_far.frames)
      → ScriptRun config before old new left left' taken taken' end
  finished new left' taken' carry used end run leaves ends =
      let so_far = run.so_far in
      let frames = so_far.frames in
      let whole = outputs.whole (texts config before frames) so_far.written (length frames) (sym (length-texts config before frames)) so_far.output in record {
        read = so_far.read;
        written = so_far.written;
        source = so_far.source;
        sink = so_far.sink;
        frames = frames;
        rest = carry.unused;
        script = so_far.script;
        answered = length frames;
        within = omega arith;
        output = whole.0;
        recorded = length frames;
        cut = λ other. whole.1;
        begun = inl (refl, whole.1);
        journal = leaves (entries_behind (answer config) before frames (length frames)) (entries_behind (answer config) before frames (length frames + 1))
            (subst (λ (j : List Entry). Stands new config j) (so_far.journal ∙ sym (behind_all config before frames (length frames) (omega arith))) run.stands);
        any_moment = run.any_moment;
        ends = ends;
      }

  -- a frame at the front was answered
  pub answered_found : (mid new : Standing) (after : List Entry) (left' taken' taken'' : Option (List ℕ)) (carry carry' : Carried) (used size : ℕ) (frame : Frame)
      → (run : Underway config before old mid left left' taken taken' carry used)
      → IsFound carry.unused (Whole frame size) → carry'.unused ≡ drop size carry.unused → carry'.taken ≡ carry.taken
      → Stands new config after
      → Appends taken' taken'' (reply_text (answer config run.now frame).reply) × (after ≡ with_entry run.now (answer config run.now frame).entry)
      → Leaves mid.journal.told new.journal.told (StandsForEither run.now (with_entry run.now (answer config run.now frame).entry))
      → Underway config before old new left left' taken taken'' carry' (used + size)
  unfolding answered
  answered_found mid new after left' taken' taken'' carry carry' used size frame run found rest count stands answers moments = record {
    now = after;
    stands = stands;
    so_far = answered config before left taken run.now after left' taken' taken'' carry carry' used size frame run.so_far
        found.0 found.1 found.2 rest count answers.0 answers.1;
    any_moment = moments_more config before run.now run.so_far.frames frame run.so_far.journal old mid new run.any_moment moments;
  }

  -- the run ends within the answer to a frame
  broken_off : (mid new : Standing) (after : List Entry) (left' taken' taken'' : Option (List ℕ)) (carry : Carried) (rest : List ℕ) (used : ℕ) (frame : Frame) (end : Served)
      → (run : Underway config before old mid left left' taken taken' carry used)
      → EndsAs end run.so_far.read left' (run.so_far.frames ++ frame ∷ []) rest (length run.so_far.frames)
      → IsFrame frame → carry.unused ≡ frame_text frame ++ rest
      → LeavesService end config after (with_entry run.now (answer config run.now frame).entry) new
      → Answers taken' taken'' (reply_text (answer config run.now frame).reply) run.now (with_entry run.now (answer config run.now frame).entry) after (Err end)
      → Leaves mid.journal.told new.journal.told (StandsForEither run.now (with_entry run.now (answer config run.now frame).entry))
      → ScriptRun config before old new left left' taken taken'' end
  broken_off mid new after left' taken' taken'' carry rest used frame end run ends is fits left_so (part, proper, writes, uncut, records) moments =
      let so_far = run.so_far in
      let frames = so_far.frames in
      let now = run.now in
      let next = with_entry now (answer config now frame).entry in
      let text = reply_text (answer config now frame).reply in
      let same : reply_text (answer config (entries_after (answer config) before frames) frame).reply ≡ text =
      ap (λ (j : List Entry). reply_text (answer config j frame).reply) (sym so_far.journal) in
      let pushed : texts config before (frames ++ frame ∷ []) ≡ texts config before frames ++ text ∷ [] =
      texts-push config before frames frame ∙ ap (λ (t : List ℕ). texts config before frames ++ t ∷ []) same in
      let within = outputs.within (texts config before (frames ++ frame ∷ [])) (texts config before frames) text part so_far.written (length frames) pushed (sym (length-texts config before frames)) so_far.output proper in
      let run_with : (recorded : ℕ) → ((recorded ≡ length frames) × (part ≡ [])) ⊎ ((recorded ≡ length frames + 1) × (end ≢ Stopped Journal))
      → after ≡ entries_behind (answer config) before (frames ++ frame ∷ []) recorded → next ≡ entries_behind (answer config) before (frames ++ frame ∷ []) (recorded + 1)
      → ScriptRun config before old new left left' taken taken'' end = λ recorded begun journal then. record {
        read = so_far.read;
        written = so_far.written ++ part;
        source = so_far.source;
        sink = appends-then taken taken' taken'' so_far.written part so_far.sink writes;
        frames = frames ++ frame ∷ [];
        rest = rest;
        script = record {
          whole = so_far.script.whole ∙ ap (λ (l : List ℕ). script_text frames ++ l) fits ∙ sym (append_assoc (script_text frames) (frame_text frame) rest)
              ∙ ap (λ (l : List ℕ). l ++ rest) (sym (script-push frames frame));
          each = all-push frames frame so_far.script.each is;
        };
        answered = length frames;
        within = omega (arith, length-append frames (frame ∷ []));
        output = within.0;
        recorded = recorded;
        cut = λ other. within.1 ∙ uncut other;
        begun = ⊎_elim (λ same. inl (same.0, within.1 ∙ same.1)) (λ more. inr more) begun;
        journal = subst (λ (j : List Entry). LeavesService end config j (entries_behind (answer config) before (frames ++ frame ∷ []) (recorded + 1)) new) journal
            (subst (λ (j : List Entry). LeavesService end config after j new) then left_so);
        any_moment = moments_more config before now frames frame so_far.journal old mid new run.any_moment moments;
        ends = ends;
      } in
      ⊎_elim
      (λ same_journal. run_with (length frames) (inl (refl, same_journal.1))
      (same_journal.0 ∙ sym (behind_now config before now frames frame so_far.journal))
      (sym (behind_next config before now frames frame so_far.journal (length frames + 1) (omega arith))))
      (λ with_it. run_with (length frames + 1) (inr (refl, with_it.1))
      (with_it.0 ∙ sym (behind_next config before now frames frame so_far.journal (length frames + 1) (omega arith)))
      (sym (behind_next config before now frames frame so_far.journal (length frames + 1 + 1) (omega arith))))
      records

-- what is said of an end within the answer to the last of the frames
end_within : (end : Served) (left : Option (List ℕ)) (read : List ℕ) (config : Config) (journal next : List Entry) (new : Standing) → (end ≡ WriteFault) ⊎ ((stop : Stop) × (end ≡ Stopped stop))
    → length read ≤ input_limit → LeavesService end config journal next new → (frames : List Frame) (rest : List ℕ) (answered : ℕ) → answered < length frames
    → EndsAs end read left frames rest answered
end_within end left read config journal next new (inl is) within left_so frames rest answered fewer =
    subst (λ (e : Served). EndsAs e read left frames rest answered) (sym is) within
end_within end left read config journal next new (inr (stop, is)) within left_so frames rest answered fewer =
    subst (λ (e : Served). EndsAs e read left frames rest answered) (sym is)
    (by_stop stop (subst (λ (e : Served). LeavesService e config journal next new) is left_so))
  where
    by_stop : (stop : Stop) → LeavesService (Stopped stop) config journal next new → EndsAs (Stopped stop) read left frames rest answered
    by_stop Memory left_so = tt
    by_stop Journal left_so = fewer
    by_stop Broken left_so = left_so

pub some_frame : (frame : Frame) → 0 < length (frame_text frame)
unfolding frame_text
some_frame frame =
    let rest = 32 ∷ (bearer_text frame.bearer ++ (32 ∷ (decimal frame.moment ++ (32 ∷ (decimal (length frame.body) ++ (10 ∷ (frame.body ++ (10 ∷ [])))))))) in
    omega (arith, length-append frame.path rest)

pub broken_found : (config : Config) (before : List Entry) (old : Standing) (left taken : Option (List ℕ)) (mid new : Standing) (after : List Entry) (left' taken' taken'' : Option (List ℕ)) (carry : Carried) (used size : ℕ) (frame : Frame) (end : Served)
    → (run : Underway config before old mid left left' taken taken' carry used) → carry.taken ≤ input_limit
    → IsFound carry.unused (Whole frame size) → (end ≡ WriteFault) ⊎ ((stop : Stop) × (end ≡ Stopped stop))
    → LeftBy config after (with_entry run.now (answer config run.now frame).entry) new (Err end)
    → Answers taken' taken'' (reply_text (answer config run.now frame).reply) run.now (with_entry run.now (answer config run.now frame).entry) after (Err end)
    → Leaves mid.journal.told new.journal.told (StandsForEither run.now (with_entry run.now (answer config run.now frame).entry))
    → ScriptRun config before old new left left' taken taken'' end
broken_found config before old left taken mid new after left' taken' taken'' carry used size frame end run within found is left_so answers moments =
    let so_far = run.so_far in
    broken_off config before old left taken mid new after left' taken' taken'' carry (drop size carry.unused) used frame end run
    (end_within end left' so_far.read config after (with_entry run.now (answer config run.now frame).entry) new is (omega (arith, so_far.size, within)) left_so
    (so_far.frames ++ frame ∷ []) (drop size carry.unused) (length so_far.frames) (omega (arith, length-append so_far.frames (frame ∷ []))))
    found.0 found.2 left_so answers moments

nil_or : (xs : List ℕ) → (xs ≡ []) ⊎ (xs ≢ [])
nil_or [] = inl refl
nil_or (x ∷ xs) = inr (λ none. omega (arith, ap length none))

-- the input is at its end: nothing is left, or what is no frame
pub ended : (config : Config) (before : List Entry) (old : Standing) (left taken : Option (List ℕ)) (new : Standing) (left' taken' : Option (List ℕ)) (carry : Carried) (used : ℕ) (end : Served)
    → Underway config before old new left left' taken taken' carry used → carry.taken ≤ input_limit → NoFrame carry.unused → IsAtEnd left'
    → (carry.unused ≡ [] → end ≡ Done) → (carry.unused ≢ [] → end ≡ Malformed used)
    → ScriptRun config before old new left left' taken taken' end
ended config before old left taken new left' taken' carry used end run within none_here at_end done malformed =
    let size : length run.so_far.read ≤ input_limit = omega (arith, run.so_far.size, within) in
    ⊎_elim
    (λ none. subst (λ (e : Served). ScriptRun config before old new left left' taken taken' e) (sym (done none))
    (finished config before old left taken new left' taken' carry used Done run (λ journal next stands. stands) (none, refl, at_end, size)))
    (λ some. subst (λ (e : Served). ScriptRun config before old new left left' taken taken' e) (sym (malformed some))
    (finished config before old left taken new left' taken' carry used (Malformed used) run (λ journal next stands. stands)
    (some, none_here, refl, run.so_far.place, inr at_end, size)))
    (nil_or carry.unused)
