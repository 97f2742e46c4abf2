-- What a request asks to be done, before the journal is looked at.
use Rattle.std.specs.Prelude.{◌≡◌, ◌≤◌, ⊤, ℕ, List, [], ◌∷◌, ◌++◌, ◌+◌, Bool, ◌&&◌, nat_le, length, Option, None, Some}
use Rattle.links.specs.declared.entry.Entry.{Entry}
use Rattle.links.specs.Entries.{IsEntry}
use Rattle.links.specs.Licence.{Licensed, prepared_of}
use Rattle.links.specs.Prepared.{PreparedEntry}
use Rattle.links.specs.State.{Kept}
use Rattle.entry_texts.specs.Exact.{IsExactEntry}
use Rattle.entry_texts.specs.Written.{entry_text}
use Rattle.sts_core.specs.Machine.{Answer, no_entry, where_it_fits}
use Rattle.sts_core.specs.declared.proposal.Proposal.{Proposal}
use Rattle.sts_core.specs.declared.proposal.Proposal.TheVariants.{Refused, Record}

-- the answer that is proposed
abbrev pub proposed_answer : Proposal → Answer
proposed_answer (Refused reply) = no_entry reply
proposed_answer (Record prepared text reply) = record { reply = reply; entry = Some prepared.entry }

-- The entry can be recorded: the state has room for it and licenses it, it is prepared, and this is its text.
pub record CanRecord (state : Kept) (prepared : PreparedEntry) (text : List ℕ) : Type 0 where
  pub room : 1 ≤ state.spare
  pub form : IsEntry prepared.entry
  pub exact : IsExactEntry prepared.entry
  pub licensed : Licensed state.content prepared.entry
  pub prepared_is : prepared ≡ prepared_of state.content prepared.entry
  pub text_is : text ≡ entry_text prepared.entry

-- so it is with the entry that is proposed, if there is one
abbrev pub IsReady : Kept → Proposal → Type 0
IsReady state (Refused reply) = ⊤
IsReady state (Record prepared text reply) = CanRecord state prepared text

-- the answer that is proposed, where its entry fits behind a journal of so many bytes
abbrev pub answered : ℕ → List ℕ → Proposal → Answer
answered size code proposal = where_it_fits size code (proposed_answer proposal)

-- the texts with that of the entry, if there is one
abbrev pub texts_with : List (List ℕ) → Option Entry → List (List ℕ)
texts_with texts None = texts
texts_with texts (Some entry) = texts ++ entry_text entry ∷ []

-- the bytes of the journal with the entry, if there is one
abbrev pub size_with : ℕ → Option Entry → ℕ
size_with size None = size
size_with size (Some entry) = size + (5 + length (entry_text entry))

-- the text has at most 262,144 bytes, and a journal of so many bytes has with it at most 67,108,864
abbrev pub fits : ℕ → List ℕ → Bool
fits size text = nat_le (length text) 262144 && nat_le (size + (5 + length text)) 67108864
