-- The empty journal, from which a run begins.
use Rattle.std.proofs.Common.{◌≡◌, ℕ, List, [], ◌∷◌, Option, Some, refl, subst, arith}
use Rattle.std.specs.List.{AllByRecursion}
use Rattle.std.specs.Prelude.{IfSome}
use Rattle.entry_texts.specs.Exact.{IsExactEntry}
use Rattle.grant_journal.specs.JournalBytes.{ReadsAs}
use Rattle.grant_journal.specs.declared.rule.JournalRule.{JournalRule}
use Rattle.links.specs.declared.entry.Entry.{Entry}
use Rattle.service_config.specs.declared.config.Config.{Config}
use Rattle.service_journal.specs.Journals.{IsKept, StandsForEntries, texts_of}
use Rattle.service_journal.specs.Opening.{IsRefusedAt}
use Rattle.sts_core.specs.State.{Standing, Stands}
use Rattle.wif_base.specs.Disk.{Told}
use Rattle.wif_base.specs.Replay.{fresh}

-- the bytes of the empty journal
abbrev pub empty_journal : List ℕ
empty_journal = 87 ∷ 73 ∷ 70 ∷ 74 ∷ 48 ∷ 48 ∷ 48 ∷ 49 ∷ 0 ∷ []

-- they stand for no entry
pub empty_stands : StandsForEntries [] empty_journal
empty_stands = (0, [], refl, λ e. absurd (omega (arith, e)))

-- what a file stands for that has these bytes is no entry
pub only_empty : (sts : Standing) (config : Config) (journal : List Entry) (told : Option Told)
    → ((file : List ℕ) (entries others : List Entry) → AllByRecursion IsExactEntry entries → AllByRecursion IsExactEntry others
    → StandsForEntries entries file → StandsForEntries others file → entries ≡ others)
    → told ≡ Some (fresh empty_journal) → Stands sts config journal → ReadsAs (texts_of journal) told → Stands sts config []
only_empty sts config journal told one is stands reads =
    let read : StandsForEntries journal empty_journal = subst (λ (o : Option Told). ReadsAs (texts_of journal) o) is reads in
    subst (λ (es : List Entry). Stands sts config es) (one empty_journal journal [] stands.kept.exact tt read empty_stands) stands

-- a file that has these bytes is not refused
pub none_refused : (config : Config) (told : Option Told) (at : ℕ) (rule : JournalRule)
    → ((config : Config) (file : List ℕ) (at : ℕ) (rule : JournalRule) → IsRefusedAt config file at rule
    → (entries : List Entry) → IsKept config entries → StandsForEntries entries file → ⊥)
    → ((config : Config) → IsKept config []) → told ≡ Some (fresh empty_journal)
    → IfSome told (λ (t : Told). IsRefusedAt config t.now.bytes at rule) → ⊥
none_refused config told at rule never begins is refused =
    let here : IsRefusedAt config empty_journal at rule = subst (λ (o : Option Told). IfSome o (λ (t : Told). IsRefusedAt config t.now.bytes at rule)) is refused in
    never config empty_journal at rule here [] (begins config) empty_stands
