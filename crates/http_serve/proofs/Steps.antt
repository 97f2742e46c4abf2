-- What a try to read a request, and the answer to it, do to the run.
use Rattle.std.proofs.Common.{◌≡◌, ◌≤◌, ◌<◌, ◌+◌, ◌-◌, ◌*◌, ◌⊎◌, inl, inr, ℕ, List, [], ◌∷◌, ◌++◌, length, refl, sym, ◌∙◌, ap, subst, arith, length-append}
use Rattle.std.specs.Prelude.{Option, None, Some, Bool, true, false, Result, Ok, Err, ⊤}
use Rattle.std.specs.Io.KnownBytes.{Keeps, Consumes}
use Rattle.wif_base.specs.Carried.{Carried, input_limit}
use Rattle.wif_base.specs.Disk.{Leaves}
use Rattle.wif_base.proofs.Known.{keeps-appends}
use Rattle.httparse.specs.Grammar.{print_request}
use Rattle.service_config.specs.declared.config.Config.{Config}
use Rattle.links.specs.declared.entry.Entry.{Entry}
use Rattle.sts_core.specs.Machine.{Answer, step, with_entry}
use Rattle.sts_core.specs.State.{Standing, StandsForEither}
use Rattle.sts_core.specs.declared.stop.Stop.{Stop}
use Rattle.sts_core.specs.declared.stop.Stop.TheVariants.{Memory, Journal, Broken}
use Rattle.sts_serve.specs.Answered.{Answers, LeftBy}
use Rattle.sts_serve.specs.Left.{LeavesService}
use Rattle.sts_serve.specs.declared.served.Served.{Served}
use Rattle.sts_serve.specs.declared.served.Served.TheVariants.{Done, ReadFault, WriteFault, ClockFault, Malformed, InputLimit, Stopped}
use Rattle.http_front.proofs.HeadTexts.{some_head}
use Rattle.http_front.specs.Heads.{closes}
use Rattle.http_front.specs.Messages.{Message, message_text, Asks}
use Rattle.http_front.specs.Reading.{Reads}
use Rattle.http_front.specs.Replies.{response_text, refusal}
use Rattle.http_front.specs.declared.incoming.Incoming.{Incoming}
use Rattle.http_front.specs.declared.incoming.HttpEnd.TheVariants as http_end
use Rattle.http_front.specs.declared.rule.HttpRule.{HttpRule}
use Rattle.http_serve.specs.Asked.{Asked, answer_at, answer, messages}
use Rattle.http_serve.specs.Connection.{EndsAs, ConnectionRun}
use Rattle.http_serve.specs.Refusing.{WritesLast}
use Rattle.http_serve.proofs.Replying.{nothing_of, some_response}
use Rattle.http_serve.proofs.Requests.{length-messages}
use Rattle.http_serve.proofs.Runs.{Underway, went_on, finished, refused_whole, refused_part, answered, closed_by, broken_off}

-- a clock that was not asked
keeps : (known : Option (List ℕ)) → Keeps known known
keeps None = tt
keeps (Some bytes) = refl

-- the machine's answer to what was read is the answer to the request
same_answer : (config : Config) (journal : List Entry) (m : Message) (incoming : Incoming) (at : ℕ) → Asks m incoming
    → step config journal incoming.request at ≡ answer config journal (record { message = m; at = at })
same_answer config journal m incoming at asks = sym (
    ap (λ (r : Option _). answer_at r config journal (record { message = m; at = at })) asks.route
    ∙ ap (λ (b : Option (List ℕ)). step config journal (record { route = incoming.request.route; bearer = b; body = m.body }) at) (sym asks.bearer)
    ∙ ap (λ (b : List ℕ). step config journal (record { route = incoming.request.route; bearer = incoming.request.bearer; body = b }) at) (sym asks.body))

some_message : (m : Message) → 0 < length (message_text m)
unfolding message_text
some_message m = omega (arith, some_head m.head, length-append (print_request m.head) m.body)

-- each request that was read is a step towards the end
pub shorter : (left left' : Option (List ℕ)) (old new : Carried) (incoming : Incoming) → old.taken ≤ input_limit → Reads left left' old new (Ok (Some incoming))
    → 2 * (input_limit - new.taken) + length new.unused < 2 * (input_limit - old.taken) + length old.unused
shorter left left' old new incoming within r =
    let m = r.found.0.0 in
    omega (arith, r.taken, r.found.1, some_message m, ap length r.found.0.3, length-append old.unused r.bytes, length-append (message_text m) new.unused)

-- what the answer to a request wrote, and how it left the service
abbrev pub Went : Config → List Entry → List Entry → Option (List ℕ) → Option (List ℕ) → Standing → Result ⊤ Served → Answer → Bool → Type 0
Went config now after taken taken' new result answer close =
    LeftBy config after (with_entry now answer.entry) new result
    × Answers taken taken' (response_text answer.reply close) now (with_entry now answer.entry) after result

went_as : (config : Config) (now after : List Entry) (taken taken' : Option (List ℕ)) (new : Standing) (result : Result ⊤ Served) (m : Message) (incoming : Incoming) (at : ℕ) → Asks m incoming
    → Went config now after taken taken' new result (step config now incoming.request at) incoming.close
    → Went config now after taken taken' new result (answer config now (record { message = m; at = at })) (closes m.head)
went_as config now after taken taken' new result m incoming at asks went =
    subst (λ (c : Bool). Went config now after taken taken' new result (answer config now (record { message = m; at = at })) c) asks.close
    (subst (λ (a : Answer). Went config now after taken taken' new result a incoming.close) (same_answer config now m incoming at asks) went)

moments_as : (config : Config) (now : List Entry) (old new : Standing) (m : Message) (incoming : Incoming) (at : ℕ) → Asks m incoming
    → Leaves old.journal.told new.journal.told (StandsForEither now (with_entry now (step config now incoming.request at).entry))
    → Leaves old.journal.told new.journal.told (StandsForEither now (with_entry now (answer config now (record { message = m; at = at })).entry))
moments_as config now old new m incoming at asks leaves =
    subst (λ (a : Answer). Leaves old.journal.told new.journal.told (StandsForEither now (with_entry now a.entry))) (same_answer config now m incoming at asks) leaves

-- what is said of an end within the answer to the last of the requests
end_within : (end : Served) (left : Option (List ℕ)) (read : List ℕ) (config : Config) (journal next : List Entry) (new : Standing) → (end ≡ WriteFault) ⊎ ((stop : Stop) × (end ≡ Stopped stop))
    → length read ≤ input_limit → LeavesService end config journal next new → (found : List Message) (rest : List ℕ) (count : ℕ) → count < length found
    → EndsAs end read left found rest None count
end_within end left read config journal next new (inl is) within left_so found rest count fewer =
    subst (λ (e : Served). EndsAs e read left found rest None count) (sym is) (fewer, within)
end_within end left read config journal next new (inr (stop, is)) within left_so found rest count fewer =
    subst (λ (e : Served). EndsAs e read left found rest None count) (sym is)
    (by_stop stop (subst (λ (e : Served). LeavesService e config journal next new) is left_so))
  where
    by_stop : (stop : Stop) → LeavesService (Stopped stop) config journal next new → EndsAs (Stopped stop) read left found rest None count
    by_stop Memory left_so = tt
    by_stop Journal left_so = (fewer, within)
    by_stop Broken left_so = left_so

module _ (config : Config) (before : List Entry) (old mid : Standing) (left left' left'' taken taken' clock clock' : Option (List ℕ)) (carry carry' : Carried)
    (u : Underway config before old mid left left' taken taken' clock clock' carry.unused carry.taken) where
  -- with the bytes that were taken
  abbrev pub on : (bytes : List ℕ) → Consumes left' left'' bytes → Underway config before old mid left left'' taken taken' clock clock' (carry.unused ++ bytes) (carry.taken + length bytes)
  on bytes consumes = went_on config before old mid left left' taken taken' clock clock' carry.unused carry.taken u left'' bytes consumes

  module _ (incoming : Incoming) (r : Reads left' left'' carry carry' (Ok (Some incoming))) (at : ℕ) (soon : at ≤ 200_000_000_000)
      (clock'' : Option (List ℕ)) (ticks : Consumes clock' clock'' (at ∷ [])) (new : Standing) (after : List Entry) (taken'' : Option (List ℕ)) where
    pub goes_on : incoming.close ≡ false
        → Went config u.now after taken' taken'' new (Ok tt) (step config u.now incoming.request at) incoming.close
        → Leaves mid.journal.told new.journal.told (StandsForEither u.now (with_entry u.now (step config u.now incoming.request at).entry))
        → Underway config before old new left left'' taken taken'' clock clock'' carry'.unused carry'.taken
    unfolding went_on
    goes_on stays went leaves =
        let m = r.found.0.0 in
        let w = went_as config u.now after taken' taken'' new (Ok tt) m incoming at r.found.0.2 went in
        subst (λ (n : ℕ). Underway config before old new left left'' taken taken'' clock clock'' carry'.unused n) (sym r.taken)
        (answered config before old mid left left'' taken taken' clock clock' (carry.unused ++ r.bytes) (carry.taken + length r.bytes) (on r.bytes r.source)
        m at carry'.unused r.found.0.1 r.found.0.3 soon clock'' ticks new after (moments_as config u.now mid new m incoming at r.found.0.2 leaves)
        taken'' (sym r.found.0.2.close ∙ stays) w.0 w.1.0 w.1.1)

    pub closes_by : incoming.close ≡ true
        → Went config u.now after taken' taken'' new (Ok tt) (step config u.now incoming.request at) incoming.close
        → Leaves mid.journal.told new.journal.told (StandsForEither u.now (with_entry u.now (step config u.now incoming.request at).entry))
        → ConnectionRun config before old new left left'' taken taken'' clock clock'' Done
    unfolding went_on
    closes_by closing went leaves =
        let m = r.found.0.0 in
        let w = went_as config u.now after taken' taken'' new (Ok tt) m incoming at r.found.0.2 went in
        closed_by config before old mid left left'' taken taken' clock clock' (carry.unused ++ r.bytes) (carry.taken + length r.bytes) (on r.bytes r.source)
        m at carry'.unused r.found.0.1 r.found.0.3 soon clock'' ticks new after (moments_as config u.now mid new m incoming at r.found.0.2 leaves)
        taken'' (sym r.found.0.2.close ∙ closing) (omega (arith, r.taken, r.found.1)) w.0 w.1.0 w.1.1

    pub breaks_off : (end : Served) → (end ≡ WriteFault) ⊎ ((stop : Stop) × (end ≡ Stopped stop))
        → Went config u.now after taken' taken'' new (Err end) (step config u.now incoming.request at) incoming.close
        → Leaves mid.journal.told new.journal.told (StandsForEither u.now (with_entry u.now (step config u.now incoming.request at).entry))
        → ConnectionRun config before old new left left'' taken taken'' clock clock'' end
    unfolding went_on
    breaks_off end is went leaves =
        let m = r.found.0.0 in
        let w = went_as config u.now after taken' taken'' new (Err end) m incoming at r.found.0.2 went in
        let one : Asked = record { message = m; at = at } in
        let u' = on r.bytes r.source in
        let size : length u'.read ≤ input_limit = omega (arith, u'.size, r.taken, r.found.1) in
        broken_off config before old mid left left'' taken taken' clock clock' (carry.unused ++ r.bytes) (carry.taken + length r.bytes) u'
        m at carry'.unused r.found.0.1 r.found.0.3 soon clock'' ticks new after (moments_as config u.now mid new m incoming at r.found.0.2 leaves)
        taken'' end
        (end_within end left'' u'.read config after (with_entry u.now (answer config u.now one).entry) new is size w.0
        (messages (u'.asked ++ one ∷ [])) carry'.unused (length u'.asked)
        (omega (arith, length-messages (u'.asked ++ one ∷ []), length-append u'.asked (one ∷ []))))
        w.0 w.1

  -- a request came, and the clock failed
  pub no_moment : (incoming : Incoming) → (r : Reads left' left'' carry carry' (Ok (Some incoming))) → (clock'' : Option (List ℕ)) → Keeps clock' clock''
      → ConnectionRun config before old mid left left'' taken taken' clock clock'' ClockFault
  no_moment incoming r clock'' kept =
      let u' = on r.bytes r.source in
      finished config before old mid left left'' taken taken' clock clock' (carry.unused ++ r.bytes) (carry.taken + length r.bytes) u' ClockFault clock'' kept (λ journal next stands. stands)
      (u'.goes, (r.found.0.0, carry'.unused, r.found.0.1, r.found.0.3), refl, sym (length-messages u'.asked), omega (arith, u'.size, r.taken, r.found.1))

  -- the input is at its end
  pub at_end : Reads left' left'' carry carry' (Ok None) → ConnectionRun config before old mid left left'' taken taken' clock clock' Done
  at_end r =
      let u' = on r.bytes r.source in
      finished config before old mid left left'' taken taken' clock clock' (carry.unused ++ r.bytes) (carry.taken + length r.bytes) u' Done clock' (keeps clock') (λ journal next stands. stands)
      (inl (u'.goes, r.found.0, r.found.1), omega (arith, length-messages u'.asked), omega (arith, u'.size, r.taken, r.found.3))

  pub read_failed : Reads left' left'' carry carry' (Err http_end.ReadFault) → ConnectionRun config before old mid left left'' taken taken' clock clock' ReadFault
  read_failed r =
      let u' = on r.bytes r.source in
      finished config before old mid left left'' taken taken' clock clock' (carry.unused ++ r.bytes) (carry.taken + length r.bytes) u' ReadFault clock' (keeps clock') (λ journal next stands. stands)
      (u'.goes, r.found.0, refl, sym (length-messages u'.asked), omega (arith, u'.size, r.taken, r.found.1))

  pub past_limit : Reads left' left'' carry carry' (Err http_end.InputLimit) → ConnectionRun config before old mid left left'' taken taken' clock clock' InputLimit
  past_limit r =
      let u' = on r.bytes r.source in
      finished config before old mid left left'' taken taken' clock clock' (carry.unused ++ r.bytes) (carry.taken + length r.bytes) u' InputLimit clock' (keeps clock') (λ journal next stands. stands)
      (u'.goes, omega (arith, u'.size, r.taken, r.found.0), refl, sym (length-messages u'.asked), r.found.1)

  pub no_memory : Reads left' left'' carry carry' (Err http_end.Memory) → ConnectionRun config before old mid left left'' taken taken' clock clock' (Stopped Memory)
  no_memory r =
      finished config before old mid left left'' taken taken' clock clock' (carry.unused ++ r.bytes) (carry.taken + length r.bytes) (on r.bytes r.source) (Stopped Memory) clock' (keeps clock')
      (λ journal next stands. stands) tt

  pub is_refused : (rule : HttpRule) (end : Served) (taken'' : Option (List ℕ)) → Reads left' left'' carry carry' (Err (http_end.Refused rule)) → WritesLast taken' taken'' (response_text (refusal rule) true) end
      → ConnectionRun config before old mid left left'' taken taken'' clock clock' end
  is_refused rule Done taken'' r writes =
      refused_whole config before old mid left left'' taken taken' clock clock' (carry.unused ++ r.bytes) (carry.taken + length r.bytes) (on r.bytes r.source) taken'' rule r.found.0 (omega (arith, r.taken, r.found.1)) writes
  is_refused rule WriteFault taken'' r (part, proper, writes) =
      let u' = on r.bytes r.source in
      refused_part config before old mid left left'' taken taken' clock clock' (carry.unused ++ r.bytes) (carry.taken + length r.bytes) u' taken'' rule WriteFault part
      (u'.goes, r.found.0, sym (length-messages u'.asked), omega (arith, u'.size, r.taken, r.found.1)) proper writes (λ other. absurd (other refl)) (λ is. cc is) (λ journal next stands. stands)
  is_refused rule (Stopped Memory) taken'' r writes =
      let u' = on r.bytes r.source in
      refused_part config before old mid left left'' taken taken' clock clock' (carry.unused ++ r.bytes) (carry.taken + length r.bytes) u' taken'' rule (Stopped Memory) []
      (u'.goes, r.found.0, sym (length-messages u'.asked), omega (arith, u'.size, r.taken, r.found.1)) (nothing_of (response_text (refusal rule) true) (some_response (refusal rule) true))
      (keeps-appends taken' taken'' writes) (λ other. refl) (λ is. cc is) (λ journal next stands. stands)
  is_refused rule (Stopped Journal) taken'' r writes = absurd writes
  is_refused rule (Stopped Broken) taken'' r writes = absurd writes
  is_refused rule ReadFault taken'' r writes = absurd writes
  is_refused rule ClockFault taken'' r writes = absurd writes
  is_refused rule (Malformed offset) taken'' r writes = absurd writes
  is_refused rule InputLimit taken'' r writes = absurd writes
