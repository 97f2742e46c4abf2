-- A run of the machine: the commands that come first, and then the rounds.
use Rattle.std.specs.Prelude.{◌≤◌, ℕ, zero, suc, ◌+◌, ◌-◌, ◌%◌, ◌==◌, List, [], Bool, true, false, ◌&&◌, not, if◌then◌else◌, length, codes, unwrap_or, option_map}
use Rattle.std.specs.Str.{bytes_eq}
use Rattle.wif_base.specs.declared.request.Request.{Request}
use Rattle.wif_base.specs.declared.request.Reply.{Reply}
use Rattle.links.specs.declared.entry.Entry.{Entry}
use Rattle.links.specs.State.{Content, chain, content_of, token_text}
use Rattle.sts_core.specs.Machine.{step, with_entry}
use Rattle.generated_work.specs.declared.counts.Counts.{Counts}
use Rattle.generated_work.specs.declared.outcome.Outcome.{Outcome}
use Rattle.generated_work.specs.Draws.{draw_of, team_in}
use Rattle.generated_work.specs.Requests.{command_of, exchange_of, narrowing_of, check_of}
use Rattle.generated_work.specs.Setting.{run_config, pool_command, provider_command, role_command, policy_command}

-- ---- one request

-- the machine's reply to a request over a journal
unfoldable pub reply_to : List Entry → Request → ℕ → Reply
reply_to journal request now = (step run_config journal request now).reply

-- the journal behind the request
unfoldable pub behind : List Entry → Request → ℕ → List Entry
behind journal request now = with_entry journal (step run_config journal request now).entry

-- the reply tells a token that was issued
abbrev pub is_granted : Reply → Bool
is_granted reply = reply.status == 200

-- the reply tells that the check is admitted
abbrev pub is_admitted : Reply → Bool
is_admitted reply = bytes_eq reply.body (codes "{\"allowed\":true}")

-- the token of the link that was recorded last, and no text where there is none
unfoldable pub newest_token : Content → List ℕ
newest_token c = unwrap_or (option_map (token_text c) (chain c (length c.links - 1))) []

-- that token behind a journal
unfoldable pub token_behind : List Entry → List ℕ
token_behind journal = newest_token (content_of run_config journal)

-- ---- one round

-- the moment of a round
abbrev pub moment_of : ℕ → ℕ
moment_of round = 1700000000 + round

-- the narrowing of the newest token to the round's item
abbrev pub narrowing_behind : List Entry → ℕ → Request
narrowing_behind journal round = narrowing_of (token_behind journal) round

-- the team's number is odd
abbrev pub is_odd : ℕ → Bool
is_odd team = team % 2 == 1

-- where it is, the newest token is narrowed
unfoldable pub behind_narrowing : List Entry → ℕ → ℕ → List Entry
behind_narrowing journal round team = if is_odd team then behind journal (narrowing_behind journal round) (moment_of round) else journal

-- it is narrowed and the narrowing is granted
unfoldable pub is_narrowed : List Entry → ℕ → ℕ → Bool
is_narrowed journal round team = is_odd team && is_granted (reply_to journal (narrowing_behind journal round) (moment_of round))

-- the check of the newest token for an item
abbrev pub check_behind : List Entry → ℕ → Request
check_behind journal item = check_of (token_behind journal) item

-- behind the exchange of the round's token
unfoldable pub behind_exchange : List Entry → ℕ → ℕ → List Entry
behind_exchange journal round team = behind journal (exchange_of round team) (moment_of round)

-- behind the narrowing of what was exchanged, if any
unfoldable pub before_check : List Entry → ℕ → ℕ → List Entry
before_check journal round team = behind_narrowing (behind_exchange journal round team) round team

-- the journal behind a round: an exchange, a narrowing of it where the team's number is odd, and a check of the newest token a second later
unfoldable pub behind_round : List Entry → ℕ → ℕ → ℕ → List Entry
behind_round journal round team item =
    let checked = before_check journal round team in behind checked (check_behind checked item) (moment_of round + 1)

-- what the round's requests come to
unfoldable pub outcome_of : List Entry → ℕ → ℕ → ℕ → Outcome
outcome_of journal round team item = let checked = before_check journal round team in record {
  exchanged = is_granted (reply_to journal (exchange_of round team) (moment_of round));
  narrowed = is_narrowed (behind_exchange journal round team) round team;
  admitted = is_admitted (reply_to checked (check_behind checked item) (moment_of round + 1));
}

-- ---- the rounds

-- one more, where it is so
abbrev pub plus_one_if : Bool → ℕ → ℕ
plus_one_if true n = n + 1
plus_one_if false n = n

-- the counts with a round's outcome
unfoldable pub counts_with : Counts → Outcome → Counts
counts_with counts outcome = record {
  exchanges = plus_one_if outcome.exchanged counts.exchanges;
  narrowed = plus_one_if outcome.narrowed counts.narrowed;
  admitted = plus_one_if outcome.admitted counts.admitted;
  denied = plus_one_if (not outcome.admitted) counts.denied;
}

-- no round was counted yet
unfoldable pub no_counts : Counts
no_counts = record { exchanges = 0; narrowed = 0; admitted = 0; denied = 0 }

-- the journal behind a command
unfoldable pub behind_command : List Entry → List ℕ → List Entry
behind_command journal text = behind journal (command_of text) 1700000000

-- the journal behind the four commands
unfoldable pub first_journal : List Entry
first_journal = behind_command (behind_command (behind_command (behind_command [] pool_command) provider_command) role_command) policy_command

-- how far a run has come: its journal and its counts
pub record Progress : Type 0 where
  pub journal : List Entry
  pub counts : Counts

-- the item that a round's check asks for
unfoldable pub item_of : ℕ → ℕ → ℕ → ℕ
item_of count round team = (round + team) % count

-- the progress with one round more
unfoldable pub with_round : ℕ → ℕ → ℕ → Progress → Progress
with_round round team item progress = record {
  journal = behind_round progress.journal round team item;
  counts = counts_with progress.counts (outcome_of progress.journal round team item);
}

-- the progress behind so many rounds of a run
unfoldable pub progress_of : ℕ → ℕ → Progress
progress_of count zero = record { journal = first_journal; counts = no_counts }
progress_of count (suc round) =
    let team = team_in (draw_of count round) in with_round round team (item_of count round team) (progress_of count round)

-- each of the counts is at most this
pub record AreAtMost (most : ℕ) (counts : Counts) : Type 0 where
  pub exchanges : counts.exchanges ≤ most
  pub narrowed : counts.narrowed ≤ most
  pub admitted : counts.admitted ≤ most
  pub denied : counts.denied ≤ most
