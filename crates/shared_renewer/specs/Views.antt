-- What each kind of step makes of a pass's view.
use Rattle.std.specs.Prelude.{◌≡◌, ℕ, ◌+◌, ◌-◌, nat_lt, min, max, List, [], ◌∷◌, ◌++◌, length, Some, None, true, false, if◌then◌else◌, ⊤}
use Rattle.client_proto.specs.declared.config.ClientConfig.{ClientConfig}
use Rattle.client_proto.specs.declared.config.Url.{Url}
use Rattle.renewer.specs.Flights.{Flown}
use Rattle.renewer.specs.declared.renewal.Renewal.{Renewal}
use Rattle.shared_renewer.specs.declared.turns.Ending.{Ending}
use Rattle.shared_renewer.specs.declared.turns.Ending.TheVariants.{Seen, Unseen, LinkFailed, ReplyFailed}
use Rattle.shared_renewer.specs.declared.view.ClientFacts.{ClientFacts}
use Rattle.shared_renewer.specs.declared.view.LinkCounts.{LinkCounts}
use Rattle.shared_renewer.specs.declared.view.View.{View}

-- some renewals, the oldest first
abbrev pub Renewals : Type 0
Renewals = List Renewal

-- the other list goes on from this one
abbrev pub Begins : Renewals → Renewals → Type 0
Begins some all = (rest : Renewals) × (all ≡ some ++ rest)

-- each of these lists begins the one
abbrev pub EachBegins : List Renewals → Renewals → Type 0
EachBegins [] all = ⊤
EachBegins (some ∷ others) all = Begins some all × EachBegins others all

-- the longer of two lists
abbrev pub longer : Renewals → Renewals → Renewals
longer some others = if nat_lt (length some) (length others) then others else some

-- ---- counts

-- nothing went wrong
abbrev pub no_counts : LinkCounts
no_counts = record { faults = 0; failed = 0 }

-- both added up
abbrev pub sum_of : LinkCounts → LinkCounts → LinkCounts
sum_of some others = record { faults = some.faults + others.faults; failed = some.failed + others.failed }

-- the greater of each
abbrev pub greater_of : LinkCounts → LinkCounts → LinkCounts
greater_of some others = record { faults = max some.faults others.faults; failed = max some.failed others.failed }

-- one more, where the count has risen
abbrev pub one_more : ℕ → ℕ → ℕ → ℕ
one_more lost found left = lost + min 1 (left - found)

-- ---- a pass at first

-- it has every share and has seen the whole history, and its counts are those of the link
abbrev pub fresh : ClientFacts → LinkCounts → ℕ → Renewals → View
fresh facts counts shares history = record {
  seen = history;
  olds = [];
  last = 0;
  before = 0;
  steps = 0;
  turns = 0;
  share = shares;
  turn = None;
  found = counts;
  left = counts;
  lost = counts;
  facts = facts;
  spent = false;
}

-- ---- its steps

-- it looked at the word
abbrev pub looked : ℕ → View → View
looked word v = record v { last = word; before = v.last; steps = v.steps + 1 }

-- it gained the turn, behind this history and at these counts
abbrev pub took : Renewals → LinkCounts → ℕ → View → View
took history counts word v = record v { last = word; before = v.last; steps = v.steps + 1; turns = v.turns + 1; turn = Some history; found = counts }

-- it gave the turn back at these counts, and has seen this and lost that
abbrev pub gave : Renewals → LinkCounts → LinkCounts → View → View
gave seen counts lost v = record v { seen = seen; turn = None; left = counts; lost = lost }

-- It gave the turn back, with the client as it was then: it has seen the history, or nothing more, and it was told of one failure at most.
abbrev pub after_turn : {L : Type 0} → (Flown L → LinkCounts) → Ending → Flown L → View → View
after_turn counts Seen client v = gave client.history (counts client) v.lost v
after_turn counts Unseen client v = gave v.seen (counts client) v.lost v
after_turn counts LinkFailed client v =
    gave v.seen (counts client) (record { faults = one_more v.lost.faults v.found.faults (counts client).faults; failed = v.lost.failed }) v
after_turn counts ReplyFailed client v =
    gave v.seen (counts client) (record { faults = v.lost.faults; failed = one_more v.lost.failed v.found.failed (counts client).failed }) v

-- ---- passes cut and joined

-- it gave a share away
abbrev pub kept_share : View → View
kept_share v = record v { share = v.share - 1 }

-- the pass that has that share
abbrev pub new_share : View → View
new_share v = record v { olds = []; share = 1; lost = no_counts }

-- it took another in
abbrev pub joined : View → View → View
joined v other = record v {
  seen = longer v.seen other.seen;
  olds = v.seen ∷ other.seen ∷ [];
  share = v.share + other.share;
  left = greater_of v.left other.left;
  lost = sum_of v.lost other.lost;
}

-- ---- a pass that is spent, which knows nothing and has nothing

-- an empty URL
abbrev pub no_url : Url
no_url = record { host = []; port = None; path = [] }

-- an empty file
abbrev pub no_config : ClientConfig
no_config = record {
  audience = record { pool = record { project = []; pool = [] }; provider = [] };
  token_type = [];
  token = no_url;
  file = [];
  field = None;
  account = None;
}

-- no client
abbrev pub no_facts : ClientFacts
no_facts = record { margin = 0; config = no_config; before = None; made = None; lender = 0 }

-- what is left of a pass that was joined into another
abbrev pub spent_view : View
spent_view = record (fresh no_facts no_counts 0 []) { spent = true }
