-- A run over a connection, request by request.
use Rattle.std.proofs.Common.{◌≡◌, ◌≢◌, ◌≤◌, ◌+◌, ◌⊎◌, inl, inr, ⊎_elim, ℕ, List, [], ◌∷◌, ◌++◌, length, refl, sym, ◌∙◌, ap, subst, arith, append_assoc, length-append}
use Rattle.std.proofs.lemmas.List.{append-nil}
use Rattle.std.specs.Prelude.{Option, None, Some, true, false, Err}
use Rattle.std.specs.List.{concat, AllByRecursion}
use Rattle.std.specs.Io.KnownBytes.{Keeps, Appends, Consumes}
use Rattle.wif_base.proofs.Known.{appends-nothing, appends-then, consumes-nothing, consumes-then, keeps-consumes}
use Rattle.wif_base.proofs.Outputs as outputs
use Rattle.wif_base.proofs.Moments.{leaves-starts, now-weaker}
use Rattle.wif_base.specs.Carried.{input_limit}
use Rattle.wif_base.specs.Disk.{Leaves}
use Rattle.wif_base.specs.Output.{IsProperPart}
use Rattle.service_config.specs.declared.config.Config.{Config}
use Rattle.grant_journal.specs.JournalBytes.{StandsFor}
use Rattle.links.specs.declared.entry.Entry.{Entry}
use Rattle.service_journal.specs.Journals.{texts_of}
use Rattle.sts_core.specs.Machine.{with_entry}
use Rattle.sts_core.specs.Runs.{entries_after}
use Rattle.sts_core.specs.State.{Standing, Stands, StandsForEither}
use Rattle.sts_core.specs.declared.stop.Stop.TheVariants.{Journal}
use Rattle.sts_serve.specs.Answered.{Answers}
use Rattle.sts_serve.specs.Left.{LeavesService, StandsForFront, entries_behind}
use Rattle.sts_serve.specs.declared.served.Served.{Served}
use Rattle.sts_serve.specs.declared.served.Served.TheVariants.{Done, WriteFault, Stopped}
use Rattle.http_front.specs.Heads.{closes}
use Rattle.http_front.specs.Messages.{Message, IsMessage, message_text}
use Rattle.http_front.specs.Reading.{RefusedAt}
use Rattle.http_front.specs.Replies.{response_text, refusal}
use Rattle.http_front.specs.Streams.{stream_text, StreamBegins, GoesOn}
use Rattle.http_front.specs.declared.rule.HttpRule.{HttpRule}
use Rattle.http_serve.specs.Asked.{Asked, answer, messages, moments}
use Rattle.http_serve.specs.Connection.{EndsAs, ConnectionRun}
use Rattle.sts_serve.proofs.Replying.{stands_now}
use Rattle.http_serve.proofs.Requests.{all-push, map-push, last-of, stream-push, front-goes, length-messages, texts, texts-push, length-texts, entries-push, behind_all, behind_now, behind_next, moments_more}

abbrev IsTimely : ℕ → Type 0
IsTimely at = at ≤ 200_000_000_000

-- What is known between two requests: each of them was answered, and so many bytes were read.
pub record Underway (config : Config) (before : List Entry) (old sts : Standing) (left left' taken taken' clock clock' : Option (List ℕ)) (rest : List ℕ) (count : ℕ) : Type 0 where
  pub read : List ℕ
  pub written : List ℕ
  pub source : Consumes left left' read
  pub sink : Appends taken taken' written
  pub asked : List Asked
  pub stream : StreamBegins read (messages asked) rest
  pub goes : GoesOn (messages asked)
  pub given : Consumes clock clock' (moments asked)
  pub timely : AllByRecursion (λ at. at ≤ 200_000_000_000) (moments asked)
  pub output : written ≡ concat (texts config before asked)
  pub now : List Entry
  pub journal : now ≡ entries_after (answer config) before asked
  pub stands : Stands sts config now
  pub any_moment : Leaves old.journal.told sts.journal.told (StandsForFront (answer config) before asked)
  pub size : count ≡ length read

pub begins : (config : Config) (before : List Entry) (old : Standing) (left taken clock : Option (List ℕ)) (rest : List ℕ) (count : ℕ) → Stands old config before
    → rest ≡ [] → count ≡ 0 → Underway config before old old left left taken taken clock clock rest count
begins config before old left taken clock rest count stands none zero = record {
  read = [];
  written = [];
  source = consumes-nothing left;
  sink = appends-nothing taken;
  asked = [];
  stream = record { whole = sym none; each = tt };
  goes = tt;
  given = consumes-nothing clock;
  timely = tt;
  output = refl;
  now = before;
  journal = refl;
  stands = stands;
  any_moment = leaves-starts old.journal.told (StandsForFront (answer config) before [])
      (now-weaker old.journal.told (StandsFor (texts_of before)) (StandsForFront (answer config) before []) (λ image s. (0, omega arith, s)) (stands_now old config before stands));
  size = zero;
}

module _ (config : Config) (before : List Entry) (old mid : Standing) (left left' taken taken' clock clock' : Option (List ℕ)) (rest : List ℕ) (count : ℕ)
    (u : Underway config before old mid left left' taken taken' clock clock' rest count) where
  -- more bytes were read
  unfoldable pub went_on : (left'' : Option (List ℕ)) (bytes : List ℕ) → Consumes left' left'' bytes
      → Underway config before old mid left left'' taken taken' clock clock' (rest ++ bytes) (count + length bytes)
  went_on left'' bytes consumes = record {
    read = u.read ++ bytes;
    written = u.written;
    source = consumes-then left left' left'' u.read bytes u.source consumes;
    sink = u.sink;
    asked = u.asked;
    stream = record {
      whole = ap (λ (l : List ℕ). l ++ bytes) u.stream.whole ∙ append_assoc (stream_text (messages u.asked)) rest bytes;
      each = u.stream.each;
    };
    goes = u.goes;
    given = u.given;
    timely = u.timely;
    output = u.output;
    now = u.now;
    journal = u.journal;
    stands = u.stands;
    any_moment = u.any_moment;
    size = omega (arith, u.size, length-append u.read bytes);
  }

  -- behind them all, and behind more than there are
  behind : (n : ℕ) → length u.asked ≤ n → Stands mid config (entries_behind (answer config) before u.asked n)
  behind n all = subst (λ (j : List Entry). Stands mid config j) (u.journal ∙ sym (behind_all config before u.asked n all)) u.stands

  -- the run ends between two requests
  pub finished : (end : Served) (clock'' : Option (List ℕ)) → Keeps clock' clock''
      → ((journal next : List Entry) → Stands mid config journal → LeavesService end config journal next mid)
      → EndsAs end u.read left' (messages u.asked) rest None (length u.asked)
      → ConnectionRun config before old mid left left' taken taken' clock clock'' end
  finished end clock'' keeps leaves ends =
      let replies = texts config before u.asked in
      let whole = outputs.whole (replies ++ []) u.written (length u.asked) (omega (arith, length-texts config before u.asked, length-append replies []))
      (u.output ∙ ap concat (sym (append-nil replies))) in record {
        read = u.read;
        written = u.written;
        source = u.source;
        sink = u.sink;
        asked = u.asked;
        rest = rest;
        stream = u.stream;
        only_last = λ front last same. front-goes (messages u.asked) front last u.goes same;
        given = subst (λ (l : List ℕ). Consumes clock clock'' l) (append-nil (moments u.asked))
            (consumes-then clock clock' clock'' (moments u.asked) [] u.given (keeps-consumes clock' clock'' keeps));
        timely = u.timely;
        by_rule = None;
        answered = length u.asked;
        within = omega arith;
        output = whole.0;
        cut = λ other. whole.1;
        recorded = length u.asked;
        begun = inl (refl, whole.1);
        journal = leaves (entries_behind (answer config) before u.asked (length u.asked)) (entries_behind (answer config) before u.asked (length u.asked + 1)) (behind (length u.asked) (omega arith));
        any_moment = u.any_moment;
        ends = ends;
      }

  -- the reply to a refusal was written whole
  pub refused_whole : (taken'' : Option (List ℕ)) (rule : HttpRule) → RefusedAt rest left' rule → count ≤ input_limit → Appends taken' taken'' (response_text (refusal rule) true)
      → ConnectionRun config before old mid left left' taken taken'' clock clock' Done
  refused_whole taken'' rule is within writes =
      let text = response_text (refusal rule) true in
      let replies = texts config before u.asked in
      let whole = outputs.whole (replies ++ text ∷ []) (u.written ++ text) (length u.asked + 1) (omega (arith, length-texts config before u.asked, length-append replies (text ∷ [])))
      (ap (λ (l : List ℕ). l ++ text) u.output ∙ sym (outputs.concat-push replies text)) in record {
        read = u.read;
        written = u.written ++ text;
        source = u.source;
        sink = appends-then taken taken' taken'' u.written text u.sink writes;
        asked = u.asked;
        rest = rest;
        stream = u.stream;
        only_last = λ front last same. front-goes (messages u.asked) front last u.goes same;
        given = u.given;
        timely = u.timely;
        by_rule = Some rule;
        answered = length u.asked + 1;
        within = omega arith;
        output = whole.0;
        cut = λ other. whole.1;
        recorded = length u.asked + 1;
        begun = inl (refl, whole.1);
        journal = behind (length u.asked + 1) (omega arith);
        any_moment = u.any_moment;
        ends = ((u.goes, is), omega (arith, length-messages u.asked), omega (arith, u.size, within));
      }

  -- a part of it was written
  pub refused_part : (taken'' : Option (List ℕ)) (rule : HttpRule) (end : Served) (part : List ℕ)
      → EndsAs end u.read left' (messages u.asked) rest (Some rule) (length u.asked)
      → IsProperPart part (response_text (refusal rule) true) → Appends taken' taken'' part
      → (end ≢ WriteFault → part ≡ []) → (end ≢ Stopped Journal)
      → ((journal next : List Entry) → Stands mid config journal → LeavesService end config journal next mid)
      → ConnectionRun config before old mid left left' taken taken'' clock clock' end
  refused_part taken'' rule end part ends proper writes uncut other leaves =
      let text = response_text (refusal rule) true in
      let replies = texts config before u.asked in
      let within = outputs.within (replies ++ text ∷ []) replies text part u.written (length u.asked) refl (sym (length-texts config before u.asked)) u.output proper in record {
        read = u.read;
        written = u.written ++ part;
        source = u.source;
        sink = appends-then taken taken' taken'' u.written part u.sink writes;
        asked = u.asked;
        rest = rest;
        stream = u.stream;
        only_last = λ front last same. front-goes (messages u.asked) front last u.goes same;
        given = u.given;
        timely = u.timely;
        by_rule = Some rule;
        answered = length u.asked;
        within = omega arith;
        output = within.0;
        cut = λ fault. within.1 ∙ uncut fault;
        recorded = length u.asked + 1;
        begun = inr (refl, other);
        journal = leaves (entries_behind (answer config) before u.asked (length u.asked + 1)) (entries_behind (answer config) before u.asked (length u.asked + 1 + 1)) (behind (length u.asked + 1) (omega arith));
        any_moment = u.any_moment;
        ends = ends;
      }

  module _ (m : Message) (at : ℕ) (rest' : List ℕ) (is : IsMessage m) (fits : rest ≡ message_text m ++ rest') (soon : at ≤ 200_000_000_000)
      (clock'' : Option (List ℕ)) (ticks : Consumes clock' clock'' (at ∷ [])) where
    abbrev pub one : Asked
    one = record { message = m; at = at }

    abbrev pub text : List ℕ
    text = response_text (answer config u.now one).reply (closes m.head)

    abbrev pub next : List Entry
    next = with_entry u.now (answer config u.now one).entry

    messages-more : messages (u.asked ++ one ∷ []) ≡ messages u.asked ++ m ∷ []
    messages-more = map-push (λ (a : Asked). a.message) u.asked one

    moments-more : moments (u.asked ++ one ∷ []) ≡ moments u.asked ++ at ∷ []
    moments-more = map-push (λ (a : Asked). a.at) u.asked one

    stream-more : StreamBegins u.read (messages (u.asked ++ one ∷ [])) rest'
    stream-more = subst (λ (ms : List Message). StreamBegins u.read ms rest') (sym messages-more) (record {
      whole = u.stream.whole ∙ ap (λ (l : List ℕ). stream_text (messages u.asked) ++ l) fits
          ∙ sym (append_assoc (stream_text (messages u.asked)) (message_text m) rest')
          ∙ ap (λ (l : List ℕ). l ++ rest') (sym (stream-push (messages u.asked) m));
      each = all-push IsMessage (messages u.asked) m u.stream.each is;
    })

    given-more : Consumes clock clock'' (moments (u.asked ++ one ∷ []))
    given-more = subst (λ (l : List ℕ). Consumes clock clock'' l) (sym moments-more)
        (consumes-then clock clock' clock'' (moments u.asked) (at ∷ []) u.given ticks)

    timely-more : AllByRecursion (λ at. at ≤ 200_000_000_000) (moments (u.asked ++ one ∷ []))
    timely-more = subst (λ (l : List ℕ). AllByRecursion (λ at. at ≤ 200_000_000_000) l) (sym moments-more) (all-push IsTimely (moments u.asked) at u.timely soon)

    texts-more : texts config before (u.asked ++ one ∷ []) ≡ texts config before u.asked ++ text ∷ []
    texts-more = texts-push config before u.asked one
        ∙ ap (λ (j : List Entry). texts config before u.asked ++ response_text (answer config j one).reply (closes m.head) ∷ []) (sym u.journal)

    output-more : u.written ++ text ≡ concat (texts config before (u.asked ++ one ∷ []))
    output-more = ap (λ (l : List ℕ). l ++ text) u.output ∙ sym (outputs.concat-push (texts config before u.asked) text) ∙ ap concat (sym texts-more)

    only_last-more : (front : List Message) (last : Message) → messages (u.asked ++ one ∷ []) ≡ front ++ last ∷ [] → GoesOn front
    only_last-more front last same = subst GoesOn (last-of (messages u.asked) front m last (sym messages-more ∙ same)) u.goes

    module _ (new : Standing) (after : List Entry) (leaves : Leaves mid.journal.told new.journal.told (StandsForEither u.now next)) where
      any_moment-more : Leaves old.journal.told new.journal.told (StandsForFront (answer config) before (u.asked ++ one ∷ []))
      any_moment-more = moments_more config before u.now u.asked one u.journal old mid new u.any_moment leaves

      -- the request was answered, and the connection goes on
      pub answered : (taken'' : Option (List ℕ)) → closes m.head ≡ false → Stands new config after → Appends taken' taken'' text → after ≡ next
          → Underway config before old new left left' taken taken'' clock clock'' rest' count
      answered taken'' goes stands writes records = record {
        read = u.read;
        written = u.written ++ text;
        source = u.source;
        sink = appends-then taken taken' taken'' u.written text u.sink writes;
        asked = u.asked ++ one ∷ [];
        stream = stream-more;
        goes = subst GoesOn (sym messages-more) (all-push (λ (n : Message). closes n.head ≡ false) (messages u.asked) m u.goes goes);
        given = given-more;
        timely = timely-more;
        output = output-more;
        now = after;
        journal = records ∙ ap (λ (j : List Entry). with_entry j (answer config j one).entry) u.journal ∙ sym (entries-push config before u.asked one);
        stands = stands;
        any_moment = any_moment-more;
        size = u.size;
      }

      -- the request was answered, and asked for a close
      pub closed_by : (taken'' : Option (List ℕ)) → closes m.head ≡ true → count ≤ input_limit → Stands new config after → Appends taken' taken'' text → after ≡ next
          → ConnectionRun config before old new left left' taken taken'' clock clock'' Done
      closed_by taken'' closing within stands writes records =
          let all = u.asked ++ one ∷ [] in
          let replies = texts config before all in
          let whole = outputs.whole (replies ++ []) (u.written ++ text) (length all) (omega (arith, length-texts config before all, length-append replies []))
          (output-more ∙ ap concat (sym (append-nil replies))) in record {
            read = u.read;
            written = u.written ++ text;
            source = u.source;
            sink = appends-then taken taken' taken'' u.written text u.sink writes;
            asked = all;
            rest = rest';
            stream = stream-more;
            only_last = only_last-more;
            given = given-more;
            timely = timely-more;
            by_rule = None;
            answered = length all;
            within = omega arith;
            output = whole.0;
            cut = λ other. whole.1;
            recorded = length all;
            begun = inl (refl, whole.1);
            journal = subst (λ (j : List Entry). Stands new config j)
                (records ∙ sym (behind_next config before u.now u.asked one u.journal (length all) (omega (arith, length-append u.asked (one ∷ []))))) stands;
            any_moment = any_moment-more;
            ends = (inr (messages u.asked, m, messages-more, u.goes, closing), omega (arith, length-messages all), omega (arith, u.size, within));
          }

      -- the run ends within the answer
      pub broken_off : (taken'' : Option (List ℕ)) (end : Served)
          → EndsAs end u.read left' (messages (u.asked ++ one ∷ [])) rest' None (length u.asked)
          → LeavesService end config after next new
          → Answers taken' taken'' text u.now next after (Err end)
          → ConnectionRun config before old new left left' taken taken'' clock clock'' end
      broken_off taken'' end ends left_so (part, proper, writes, uncut, records) =
          let all = u.asked ++ one ∷ [] in
          let replies = texts config before u.asked in
          let pushed : texts config before all ++ [] ≡ replies ++ text ∷ [] = append-nil (texts config before all) ∙ texts-more in
          let within = outputs.within (texts config before all ++ []) replies text part u.written (length u.asked) pushed (sym (length-texts config before u.asked)) u.output proper in
          let run_with : (recorded : ℕ) → ((recorded ≡ length u.asked) × (part ≡ [])) ⊎ ((recorded ≡ length u.asked + 1) × (end ≢ Stopped Journal))
          → after ≡ entries_behind (answer config) before all recorded → next ≡ entries_behind (answer config) before all (recorded + 1)
          → ConnectionRun config before old new left left' taken taken'' clock clock'' end = λ recorded begun journal then. record {
            read = u.read;
            written = u.written ++ part;
            source = u.source;
            sink = appends-then taken taken' taken'' u.written part u.sink writes;
            asked = all;
            rest = rest';
            stream = stream-more;
            only_last = only_last-more;
            given = given-more;
            timely = timely-more;
            by_rule = None;
            answered = length u.asked;
            within = omega (arith, length-append u.asked (one ∷ []));
            output = within.0;
            cut = λ other. within.1 ∙ uncut other;
            recorded = recorded;
            begun = ⊎_elim (λ same. inl (same.0, within.1 ∙ same.1)) (λ more. inr more) begun;
            journal = subst (λ (j : List Entry). LeavesService end config j (entries_behind (answer config) before all (recorded + 1)) new) journal
                (subst (λ (j : List Entry). LeavesService end config after j new) then left_so);
            any_moment = any_moment-more;
            ends = ends;
          } in
          ⊎_elim
          (λ same_journal. run_with (length u.asked) (inl (refl, same_journal.1))
          (same_journal.0 ∙ sym (behind_now config before u.now u.asked one u.journal))
          (sym (behind_next config before u.now u.asked one u.journal (length u.asked + 1) (omega arith))))
          (λ with_it. run_with (length u.asked + 1) (inr (refl, with_it.1))
          (with_it.0 ∙ sym (behind_next config before u.now u.asked one u.journal (length u.asked + 1) (omega arith)))
          (sym (behind_next config before u.now u.asked one u.journal (length u.asked + 1 + 1) (omega arith))))
          records
