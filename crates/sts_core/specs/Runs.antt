-- The machine over a list of requests, of any type for which there is an answer.
use Rattle.std.specs.Prelude.{List, [], ◌∷◌}
use Rattle.wif_base.specs.declared.request.Reply.{Reply}
use Rattle.links.specs.declared.entry.Entry.{Entry}
use Rattle.sts_core.specs.Machine.{Answer, with_entry}

-- the replies, each given over the journal that the requests before it left
abbrev pub replies_of : {X : Type 0} → (List Entry → X → Answer) → List Entry → List X → List Reply
replies_of answer journal [] = []
replies_of answer journal (x ∷ xs) = (answer journal x).reply ∷ replies_of answer (with_entry journal (answer journal x).entry) xs

-- the journal that the requests leave
abbrev pub entries_after : {X : Type 0} → (List Entry → X → Answer) → List Entry → List X → List Entry
entries_after answer journal [] = journal
entries_after answer journal (x ∷ xs) = entries_after answer (with_entry journal (answer journal x).entry) xs
