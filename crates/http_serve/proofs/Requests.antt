-- One request more.
use Rattle.std.proofs.Common.{◌≡◌, ◌≤◌, ◌+◌, inl, inr, ℕ, suc, List, [], ◌∷◌, ◌++◌, length, refl, sym, ◌∙◌, ap, subst, arith, append_assoc, length-append}
use Rattle.std.proofs.lemmas.List.{append-nil, take_all, take_at, take-append-le}
use Rattle.std.specs.Prelude.{map}
use Rattle.std.specs.List.{AllByRecursion}
use Rattle.wif_base.specs.Disk.{Leaves}
use Rattle.wif_base.proofs.Moments.{leaves-joins, leaves-weaker}
use Rattle.service_config.specs.declared.config.Config.{Config}
use Rattle.grant_journal.specs.JournalBytes.{StandsFor}
use Rattle.links.specs.declared.entry.Entry.{Entry}
use Rattle.service_journal.specs.Journals.{texts_of}
use Rattle.sts_core.specs.Machine.{with_entry}
use Rattle.sts_core.specs.Runs.{replies_of, entries_after}
use Rattle.sts_core.specs.State.{Standing, StandsForEither}
use Rattle.sts_serve.specs.Left.{StandsForFront, entries_behind}
use Rattle.http_front.specs.Heads.{closes}
use Rattle.http_front.specs.Messages.{Message, message_text}
use Rattle.http_front.specs.Replies.{response_text}
use Rattle.http_front.specs.Streams.{stream_text, GoesOn}
use Rattle.http_serve.specs.Asked.{Asked, answer, messages, response_texts}

-- ---- lists

pub all-push : {X : Type 0} (P : X → Type 0) (xs : List X) (x : X) → AllByRecursion P xs → P x → AllByRecursion P (xs ++ x ∷ [])
all-push P [] x each is = (is, tt)
all-push P (y ∷ xs) x each is = (each.0, all-push P xs x each.1 is)

pub map-push : {X Y : Type 0} (f : X → Y) (xs : List X) (x : X) → map f (xs ++ x ∷ []) ≡ map f xs ++ f x ∷ []
map-push f [] x = refl
map-push f (y ∷ xs) x = ap (λ (l : List _). f y ∷ l) (map-push f xs x)

-- what stands before the last element is one list
pub last-of : {X : Type 0} (xs ys : List X) (x y : X) → xs ++ x ∷ [] ≡ ys ++ y ∷ [] → xs ≡ ys
last-of [] [] x y same = refl
last-of [] (b ∷ ys) x y same = let none : [] ≡ ys ++ y ∷ [] = cc same in absurd (omega (arith, ap length none, length-append ys (y ∷ [])))
last-of (a ∷ xs) [] x y same = let none : xs ++ x ∷ [] ≡ [] = cc same in absurd (omega (arith, ap length none, length-append xs (x ∷ [])))
last-of (a ∷ xs) (b ∷ ys) x y same =
    let head : a ≡ b = cc same in
    let tail : xs ++ x ∷ [] ≡ ys ++ y ∷ [] = cc same in
    let rest = last-of xs ys x y tail in cc (head, rest)

-- ---- the stream

pub stream-push : (ms : List Message) (m : Message) → stream_text (ms ++ m ∷ []) ≡ stream_text ms ++ message_text m
stream-push [] m = append-nil (message_text m)
stream-push (n ∷ ms) m = ap (λ (l : List ℕ). message_text n ++ l) (stream-push ms m) ∙ sym (append_assoc (message_text n) (stream_text ms) (message_text m))

pub front-goes : (ms front : List Message) (last : Message) → GoesOn ms → ms ≡ front ++ last ∷ [] → GoesOn front
front-goes ms front last goes same = before front last (subst GoesOn same goes)
  where
    before : (front : List Message) (last : Message) → GoesOn (front ++ last ∷ []) → GoesOn front
    before [] last goes = tt
    before (m ∷ front) last goes = (goes.0, before front last goes.1)

pub length-messages : (asked : List Asked) → length (messages asked) ≡ length asked
length-messages [] = refl
length-messages (b ∷ asked) = ap (λ (n : ℕ). suc n) (length-messages asked)

-- ---- the replies

-- the texts of the replies to these requests
abbrev pub texts : Config → List Entry → List Asked → List (List ℕ)
texts config before asked = response_texts asked (replies_of (answer config) before asked)

pub texts-push : (config : Config) (journal : List Entry) (asked : List Asked) (a : Asked)
    → texts config journal (asked ++ a ∷ [])
    ≡ texts config journal asked ++ response_text (answer config (entries_after (answer config) journal asked) a).reply (closes a.message.head) ∷ []
texts-push config journal [] a = refl
texts-push config journal (b ∷ asked) a =
    ap (λ (l : List (List ℕ)). response_text (answer config journal b).reply (closes b.message.head) ∷ l)
    (texts-push config (with_entry journal (answer config journal b).entry) asked a)

pub length-texts : (config : Config) (journal : List Entry) (asked : List Asked) → length (texts config journal asked) ≡ length asked
length-texts config journal [] = refl
length-texts config journal (b ∷ asked) = ap (λ (n : ℕ). suc n) (length-texts config (with_entry journal (answer config journal b).entry) asked)

-- ---- the journals behind the requests

pub entries-push : (config : Config) (journal : List Entry) (asked : List Asked) (a : Asked)
    → entries_after (answer config) journal (asked ++ a ∷ [])
    ≡ with_entry (entries_after (answer config) journal asked) (answer config (entries_after (answer config) journal asked) a).entry
entries-push config journal [] a = refl
entries-push config journal (b ∷ asked) a = entries-push config (with_entry journal (answer config journal b).entry) asked a

pub behind_all : (config : Config) (before : List Entry) (asked : List Asked) (count : ℕ) → length asked ≤ count
    → entries_behind (answer config) before asked count ≡ entries_after (answer config) before asked
behind_all config before asked count all = ap (λ (l : List Asked). entries_after (answer config) before l) (take_all count asked all)

module _ (config : Config) (before now : List Entry) (asked : List Asked) (a : Asked) (is : now ≡ entries_after (answer config) before asked) where
  pub behind_now : entries_behind (answer config) before (asked ++ a ∷ []) (length asked) ≡ now
  behind_now = ap (λ (l : List Asked). entries_after (answer config) before l) (take_at asked (a ∷ []) (length asked) refl) ∙ sym is

  pub behind_next : (count : ℕ) → length asked + 1 ≤ count
      → entries_behind (answer config) before (asked ++ a ∷ []) count ≡ with_entry now (answer config now a).entry
  behind_next count more = behind_all config before (asked ++ a ∷ []) count (omega (arith, more, length-append asked (a ∷ [])))
      ∙ entries-push config before asked a ∙ ap (λ (j : List Entry). with_entry j (answer config j a).entry) (sym is)

  front_longer : (image : List ℕ) → StandsForFront (answer config) before asked image → StandsForFront (answer config) before (asked ++ a ∷ []) image
  front_longer image (count, within, stands) = (
    count,
    omega (arith, within, length-append asked (a ∷ [])),
    subst (λ (l : List Asked). StandsFor (texts_of (entries_after (answer config) before l)) image) (sym (take-append-le count asked (a ∷ []) within)) stands,
  )

  front_either : (image : List ℕ) → StandsForEither now (with_entry now (answer config now a).entry) image
      → StandsForFront (answer config) before (asked ++ a ∷ []) image
  front_either image (inl stands) = (
    length asked,
    omega (arith, length-append asked (a ∷ [])),
    subst (λ (j : List Entry). StandsFor (texts_of j) image) (sym behind_now) stands,
  )
  front_either image (inr stands) = (
    length asked + 1,
    omega (arith, length-append asked (a ∷ [])),
    subst (λ (j : List Entry). StandsFor (texts_of j) image) (sym (behind_next (length asked + 1) (omega arith))) stands,
  )

  -- the moments of its answer
  pub moments_more : (old mid new : Standing) → Leaves old.journal.told mid.journal.told (StandsForFront (answer config) before asked)
      → Leaves mid.journal.told new.journal.told (StandsForEither now (with_entry now (answer config now a).entry))
      → Leaves old.journal.told new.journal.told (StandsForFront (answer config) before (asked ++ a ∷ []))
  moments_more old mid new first then =
      let longer = StandsForFront (answer config) before (asked ++ a ∷ []) in
      leaves-joins old.journal.told mid.journal.told new.journal.told longer longer
      (leaves-weaker old.journal.told mid.journal.told (StandsForFront (answer config) before asked) longer front_longer first)
      (leaves-weaker mid.journal.told new.journal.told (StandsForEither now (with_entry now (answer config now a).entry)) longer front_either then)
      (λ image stands. stands)
