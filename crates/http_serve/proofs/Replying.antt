-- An answer that was not written whole, and the service that it leaves.
use Rattle.std.proofs.Common.{◌≡◌, ◌≢◌, ◌<◌, ◌⊎◌, ℕ, List, [], ◌∷◌, ◌++◌, length, refl, ap, ⊎_elim, inl, inr, arith, length-append}
use Rattle.std.specs.Prelude.{Bool, Option, Err}
use Rattle.std.specs.Io.KnownBytes.{Appends}
use Rattle.wif_base.specs.Output.{IsProperPart}
use Rattle.wif_base.specs.declared.request.Reply.{Reply}
use Rattle.grant_journal.specs.Journals.{JournalView}
use Rattle.links.specs.declared.entry.Entry.{Entry}
use Rattle.sts_core.specs.State.{Standing, Stays}
use Rattle.sts_core.specs.declared.stop.Stop.{Stop}
use Rattle.sts_core.specs.declared.stop.Stop.TheVariants.{Memory, Journal, Broken}
use Rattle.sts_serve.specs.Answered.{Answers}
use Rattle.sts_serve.specs.declared.served.Served.{Served}
use Rattle.sts_serve.specs.declared.served.Served.TheVariants.{Stopped}
use Rattle.http_front.specs.Replies.{front_text, response_text}

-- but for a fault of the disk its journal is whole or broken as before
pub stays_whole : (stop : Stop) (old new : Standing) → Stays stop old new → (stop ≢ Journal) → new.journal.broken ≡ old.journal.broken
stays_whole Memory old new stays other = ap (λ (j : JournalView). j.broken) stays.1
stays_whole Journal old new stays other = absurd (other refl)
stays_whole Broken old new stays other = ap (λ (j : JournalView). j.broken) stays.1

-- ---- the text of a reply isn't empty

some_end : (front : List ℕ) → 0 < length (front ++ (13 ∷ 10 ∷ []))
some_end front = omega (arith, length-append front (13 ∷ 10 ∷ []))

some_front : (status size : ℕ) (close : Bool) → 0 < length (front_text status size close)
unfolding front_text
some_front status size close = some_end _

pub some_response : (reply : Reply) (close : Bool) → 0 < length (response_text reply close)
unfolding response_text
some_response reply close =
    omega (arith, some_front reply.status (length reply.body) close, length-append (front_text reply.status (length reply.body) close) reply.body)

-- nothing is a proper part of it
pub nothing_of : (text : List ℕ) → 0 < length text → IsProperPart [] text
nothing_of text some = (text, (λ none. omega (arith, some, ap length none)), refl)

-- nothing of it was written
pub stopped_before : (old new : Option (List ℕ)) (text : List ℕ) (before with after : List Entry) (end : Served) → 0 < length text → Appends old new []
    → (after ≡ before) ⊎ ((after ≡ with) × (end ≢ Stopped Journal)) → Answers old new text before with after (Err end)
stopped_before old new text before with after end some writes records =
    ([], nothing_of text some, writes, (λ other. refl), ⊎_elim (λ same. inl (same, refl)) (λ more. inr more) records)
