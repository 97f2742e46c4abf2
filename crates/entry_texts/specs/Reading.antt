-- The entry that a text says. The text is written again and compared, so the tree's reader needs no more than to find
-- the parts.
use Rattle.std.specs.Prelude.{◌≡◌, ⊤, Result, ℕ, List, Option, None, option_and_then}
use Rattle.std.specs.Str.{bytes_eq}
use Rattle.base_types.specs.Reading.{ReadsOr}
use Rattle.json_text.specs.Document.{document}
use Rattle.access_token.specs.Parts.{formed}
use Rattle.links.specs.declared.entry.Entry.{Entry}
use Rattle.entry_texts.specs.declared.reading.EntryFault.{EntryFault}
use Rattle.entry_texts.specs.declared.reading.EntryFault.TheVariants.{Form, Memory}
use Rattle.entry_texts.specs.Parts.{entry_in}
use Rattle.entry_texts.specs.Written.{entry_text}

-- the entry, its parts of their forms, whose text this is
unfoldable pub entry_of : List ℕ → Option Entry
entry_of text = formed (λ e. bytes_eq (entry_text e) text) (option_and_then entry_in (document text))

-- Form says that the text is no entry's, and want of memory says nothing.
abbrev pub RefusesEntry : EntryFault → Option Entry → Type 0
RefusesEntry Form there = there ≡ None
RefusesEntry Memory there = ⊤

-- the entry that the text says, or Form where it says none
abbrev pub ReadsEntry : Result Entry EntryFault → Option Entry → Type 0
ReadsEntry result there = ReadsOr RefusesEntry (λ e. e) result there
