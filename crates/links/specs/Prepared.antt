-- An entry with what its recording gives.
use Rattle.std.specs.Prelude.{ℕ, List, Option, None, Some}
use Rattle.service_view.specs.Puts.{command_of}
use Rattle.links.specs.declared.entry.Entry.{Entry}
use Rattle.links.specs.declared.entry.Entry.TheVariants as entry
use Rattle.links.specs.declared.recorded.RecordedLink.{RecordedLink}
use Rattle.links.specs.declared.tokens.Issued.{Issued}
use Rattle.links.specs.declared.prepared.Plan.{Plan}
use Rattle.links.specs.declared.prepared.Plan.TheVariants as plan

-- the entry, and what is held of the link that it records, if it records one, with its token's payload and text
pub record PreparedEntry : Type 0 where
  pub entry : Entry
  pub recorded : Option RecordedLink
  pub payload : Option (List ℕ)
  pub token : Option (List ℕ)

-- the same, but for the token's text
pub record PlannedEntry : Type 0 where
  pub entry : Entry
  pub recorded : Option RecordedLink
  pub payload : Option (List ℕ)

-- the entry, with the link that it records
abbrev pub with_link : Entry → Issued → PlannedEntry
with_link e issued = record { entry = e; recorded = Some issued.recorded; payload = Some issued.payload }

-- what a plan shows
abbrev pub planned : Plan → PlannedEntry
planned (plan.Put ready) = record { entry = entry.Put (command_of ready); recorded = None; payload = None }
planned (plan.Link e issued) = with_link e issued

-- what is planned, with the token's text
abbrev pub with_token : PlannedEntry → Option (List ℕ) → PreparedEntry
with_token planned token = record { entry = planned.entry; recorded = planned.recorded; payload = planned.payload; token = token }
