-- What went wrong at a link, and what all passes know of their client.
use Rattle.std.specs.Prelude.{◌≡◌, ◌≤◌, ℕ, List, Option, None, Some, ⊤}
use Rattle.client_link.specs.declared.target.LinkCall.{LinkCall}
use Rattle.client_proto.specs.declared.config.ClientConfig.{ClientConfig}
use Rattle.renewer.specs.Flights.{Flown}
use Rattle.renewer.specs.Leases.{TellsMore}
use Rattle.shared_renewer.specs.Failures.{failed_calls}
use Rattle.shared_renewer.specs.declared.view.ClientFacts.{ClientFacts}
use Rattle.shared_renewer.specs.declared.view.LinkCounts.{LinkCounts}

-- how many of the told calls have a reply that is refused or bad
abbrev pub told_failures : ClientConfig → Option (List LinkCall) → ℕ
told_failures config None = 0
told_failures config (Some calls) = failed_calls config calls

-- none of both counts is greater than the other's
pub record AreWithin (some more : LinkCounts) : Type 0 where
  pub faults : some.faults ≤ more.faults
  pub failed : some.failed ≤ more.failed

-- told calls go on from these
abbrev pub GoOnFrom : Option (List LinkCall) → Option (List LinkCall) → Type 0
GoOnFrom some calls = TellsMore some calls (λ _. ⊤)

module _ {L : Type 0} (faults : L → ℕ) (calls : L → Option (List LinkCall)) where
  -- the counts of a client's link
  abbrev pub counts_of : Flown L → LinkCounts
  counts_of client = record { faults = faults client.link; failed = told_failures client.config (calls client.link) }

module _ {L : Type 0} (calls : L → Option (List LinkCall)) (lender_of : L → ℕ) where
  -- what is known of a client as it is shared
  abbrev pub facts_of : Flown L → ClientFacts
  facts_of client = record {
    margin = client.margin;
    config = client.config;
    before = calls client.first;
    made = calls client.link;
    lender = lender_of client.link;
  }

  -- The client is the one that was shared: its margin, its file, the calls before it began, and the borrow of its link are the same, and
  -- its link has gone on from the calls that had been made.
  pub record HasFacts (client : Flown L) (facts : ClientFacts) : Type 0 where
    pub margin : client.margin ≡ facts.margin
    pub config : client.config ≡ facts.config
    pub before : calls client.first ≡ facts.before
    pub made : GoOnFrom facts.made (calls client.link)
    pub lender : lender_of client.link ≡ facts.lender
