-- What a service stands for: a configuration and a journal.
use Rattle.std.specs.Prelude.{◌≡◌, ◌⊎◌, ⊤, ℕ, List, Bool, true, false}
use Rattle.service_config.specs.declared.config.Config.{Config}
use Rattle.service_config.specs.Formed.{IsFormedConfig}
use Rattle.wif_base.specs.Causes.{Rose}
use Rattle.links.specs.declared.entry.Entry.{Entry}
use Rattle.links.specs.State.{Content, content_of, start_of}
use Rattle.grant_journal.specs.JournalBytes.{StandsFor, Settled}
use Rattle.grant_journal.specs.Journals.{JournalView}
use Rattle.service_journal.specs.Journals.{IsKept, journal_size, texts_of}
use Rattle.sts_core.specs.declared.setup.Setup.{Setup}
use Rattle.sts_core.specs.declared.stop.Stop.{Stop}
use Rattle.sts_core.specs.declared.stop.Stop.TheVariants.{Memory, Journal, Broken}

-- What contracts see of a service: its state, its secrets and its journal.
pub record Standing : Type 0 where
  pub content : Content
  pub admin : List ℕ
  pub gate : List ℕ
  pub journal : JournalView

-- Its state is the one that this lawful journal leaves under this configuration, and its secrets are the configuration's. The disk
-- holds this journal where it tells its bytes, and nothing is pending.
pub record Stands (sts : Standing) (config : Config) (journal : List Entry) : Type 0 where
  pub content : sts.content ≡ content_of config journal
  pub admin : sts.admin ≡ config.admin
  pub gate : sts.gate ≡ config.gate
  pub formed : IsFormedConfig config
  pub kept : IsKept config journal
  pub size : sts.journal.len ≡ journal_size journal
  pub whole : sts.journal.broken ≡ false
  pub settled : Settled (texts_of journal) sts.journal.len sts.journal.told

-- an image stands for the one journal or for the other
abbrev pub StandsForEither : List Entry → List Entry → List ℕ → Type 0
StandsForEither journal other image = StandsFor (texts_of journal) image ⊎ StandsFor (texts_of other) image

-- What the configuration sets up: its secrets, and its state before the first entry.
pub record IsSetUp (setup : Setup) (config : Config) : Type 0 where
  pub content : setup.state.content ≡ start_of config
  pub admin : setup.admin ≡ config.admin
  pub gate : setup.gate ≡ config.gate
  pub formed : IsFormedConfig config

-- the same service, but for its journal
abbrev pub with_journal : Standing → JournalView → Standing
with_journal sts journal = record { content = sts.content; admin = sts.admin; gate = sts.gate; journal = journal }

-- Want of memory leaves the journal as it was, and so does a request over a broken one. Where the disk failed it is broken.
abbrev pub JournalStays : Stop → JournalView → JournalView → Type 0
JournalStays Memory old new = new ≡ old
JournalStays Journal old new = new.broken ≡ true
JournalStays Broken old new = new ≡ old

-- and nothing else changed
abbrev pub Stays : Stop → Standing → Standing → Type 0
Stays stop old new = (new ≡ with_journal old new.journal) × JournalStays stop old.journal new.journal

-- Why a request got no reply: the disk failed in the call, or an earlier call had ended so.
abbrev pub Causes : Stop → JournalView → JournalView → Type 0
Causes Memory old new = ⊤
Causes Journal old new = (old.broken ≡ false) × Rose old.faults new.faults
Causes Broken old new = old.broken ≡ true
