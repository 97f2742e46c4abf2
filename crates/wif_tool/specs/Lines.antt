-- The last line of a run that stopped at a place, and how it is written.
use Rattle.std.specs.Prelude.{◌≡◌, ◌⊎◌, ℕ, List, [], ◌∷◌, ◌++◌, codes, Option}
use Rattle.std.specs.Fmt.{decimal}
use Rattle.std.specs.Io.KnownBytes.{Appends}
use Rattle.grant_journal.specs.declared.rule.JournalRule.{JournalRule}
use Rattle.grant_journal.specs.declared.rule.JournalRule.TheVariants.{J1, J2, J3, J4, J5}
use Rattle.wif_base.specs.Output.{IsProperPart}

-- `fault 8 at OFFSET`, a line feed
abbrev pub malformed_line : ℕ → List ℕ
malformed_line offset = codes "fault 8 at " ++ (decimal offset ++ (10 ∷ []))

-- the rule's name
abbrev pub rule_text : JournalRule → List ℕ
rule_text J1 = codes "J1"
rule_text J2 = codes "J2"
rule_text J3 = codes "J3"
rule_text J4 = codes "J4"
rule_text J5 = codes "J5"

-- `fault 6 at PLACE rule RULE`, a line feed
abbrev pub refusal_line : ℕ → JournalRule → List ℕ
refusal_line at rule = codes "fault 6 at " ++ (decimal at ++ (codes " rule " ++ (rule_text rule ++ (10 ∷ []))))

-- The line is due: it is written at this status, a proper part of it where writing fails, and nothing of it for want of memory.
abbrev pub LineDue : List ℕ → ℕ → Option (List ℕ) → Option (List ℕ) → ℕ → Type 0
LineDue line due taken taken' status =
    ((status ≡ due) × Appends taken taken' line)
    ⊎ (((status ≡ 4) × ((part : List ℕ) × IsProperPart part line × Appends taken taken' part))
    ⊎ ((status ≡ 7) × (taken' ≡ taken)))
