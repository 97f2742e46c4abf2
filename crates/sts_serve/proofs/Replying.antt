-- The answer to a frame: what the disk may leave, and an answer that was not written whole.
use Rattle.std.proofs.Common.{◌≡◌, ◌≢◌, ◌<◌, ◌⊎◌, ℕ, List, [], ◌∷◌, ◌++◌, length, refl, inl, inr, ⊎_elim, sym, ◌∙◌, ap, subst, arith, length-append}
use Rattle.std.specs.Prelude.{Option, Err}
use Rattle.std.specs.Fmt.{decimal}
use Rattle.wif_base.specs.Disk.{Leaves, LeavesNow}
use Rattle.wif_base.specs.declared.request.Reply.{Reply}
use Rattle.wif_base.proofs.Known.{appends-nothing}
use Rattle.wif_base.proofs.Moments.{leaves-at_end, leaves-starts, now-weaker}
use Rattle.service_config.specs.declared.config.Config.{Config}
use Rattle.grant_journal.specs.JournalBytes.{StandsFor}
use Rattle.grant_journal.specs.Journals.{JournalView}
use Rattle.grant_journal.proofs.Stands.{settled_now}
use Rattle.links.specs.declared.entry.Entry.{Entry}
use Rattle.service_journal.specs.Journals.{texts_of}
use Rattle.sts_core.specs.State.{Causes, Standing, Stands, StandsForEither, Stays, with_journal}
use Rattle.sts_core.specs.declared.stop.Stop.{Stop}
use Rattle.sts_core.specs.declared.stop.Stop.TheVariants.{Memory, Journal, Broken}
use Rattle.sts_serve.specs.Answered.{Answers}
use Rattle.sts_serve.specs.Frames.{reply_text}
use Rattle.sts_serve.specs.Left.{LeavesService}
use Rattle.sts_serve.specs.declared.served.Served.{Served}
use Rattle.sts_serve.specs.declared.served.Served.TheVariants.{Stopped}

-- ---- the disk

-- a service that stands for a journal may be left as that journal alone
pub stands_now : (sts : Standing) (config : Config) (journal : List Entry) → Stands sts config journal → LeavesNow sts.journal.told (StandsFor (texts_of journal))
stands_now sts config journal stands = settled_now (texts_of journal) sts.journal.len sts.journal.told stands.settled

-- so it is where nothing happens
pub nothing_happens : (sts : Standing) (config : Config) (journal next : List Entry) → Stands sts config journal
    → Leaves sts.journal.told sts.journal.told (StandsForEither journal next)
nothing_happens sts config journal next stands =
    leaves-starts sts.journal.told (StandsForEither journal next)
    (now-weaker sts.journal.told (StandsFor (texts_of journal)) (StandsForEither journal next) (λ image s. inl s) (stands_now sts config journal stands))

-- a request that got no reply
pub stopped_left : (stop : Stop) (old new : Standing) (config : Config) (journal next : List Entry) → Stands old config journal → Stays stop old new
    → Causes stop old.journal new.journal → Leaves old.journal.told new.journal.told (StandsForEither journal next)
    → LeavesService (Stopped stop) config journal next new
stopped_left Memory old new config journal next stands stays cause leaves =
    subst (λ (s : Standing). Stands s config journal) (sym (stays.0 ∙ ap (λ (j : JournalView). with_journal old j) stays.1)) stands
stopped_left Journal old new config journal next stands stays cause leaves =
    (stays.1, leaves-at_end old.journal.told new.journal.told (StandsForEither journal next) leaves)
stopped_left Broken old new config journal next stands stays cause leaves = absurd (cc (cause, stands.whole))

-- ---- the reply

pub some_text : (reply : Reply) → 0 < length (reply_text reply)
unfolding reply_text
some_text reply = omega (arith, length-append (decimal reply.status) (32 ∷ (decimal (length reply.body) ++ (10 ∷ (reply.body ++ (10 ∷ []))))))

-- nothing of it was written
pub stopped_before : (old : Option (List ℕ)) (text : List ℕ) (before with after : List Entry) (end : Served) → 0 < length text
    → (after ≡ before) ⊎ ((after ≡ with) × (end ≢ Stopped Journal)) → Answers old old text before with after (Err end)
stopped_before old text before with after end some records =
    ([], (text, (λ none. absurd (omega (arith, ap length none))), refl), appends-nothing old, (λ other. refl), ⊎_elim (λ same. inl (same, refl)) (λ more. inr more) records)
