-- What a run writes.
use Rattle.std.specs.Prelude.{ℕ, ◌+◌, List, [], ◌∷◌, ◌++◌, codes}
use Rattle.std.specs.Fmt.{decimal}
use Rattle.renewer.specs.declared.renewal.Renewal.{Renewal}
use Rattle.client_top.specs.declared.outcome.Outcome.{Outcome}
use Rattle.client_top.specs.declared.outcome.Outcome.TheVariants.{Lease, Link, Refused, BadReply, ShortLived, Exhausted}

-- `lease INDEX EXP`, or `fault NAME`
abbrev pub outcome_text : Outcome → List ℕ
outcome_text (Lease index exp) = codes "lease " ++ (decimal index ++ (codes " " ++ decimal exp))
outcome_text Link = codes "fault link"
outcome_text Refused = codes "fault refused"
outcome_text BadReply = codes "fault bad_reply"
outcome_text ShortLived = codes "fault short_lived"
outcome_text Exhausted = codes "fault exhausted"

-- `WORKER MOMENT`, and what came of it
abbrev pub line_text : ℕ → ℕ → Outcome → List ℕ
line_text worker moment outcome = decimal worker ++ (codes " " ++ (decimal moment ++ (codes " " ++ (outcome_text outcome ++ codes "\n"))))

-- the lines of one worker
abbrev pub lines_of : ℕ → List ℕ → List Outcome → List ℕ
lines_of worker [] outcomes = []
lines_of worker (moment ∷ moments) [] = []
lines_of worker (moment ∷ moments) (outcome ∷ outcomes) = line_text worker moment outcome ++ lines_of worker moments outcomes

-- the lines of the workers from this one on
abbrev pub lines_from : ℕ → List (List ℕ) → List (List Outcome) → List ℕ
lines_from worker [] lists = []
lines_from worker (moments ∷ rest) [] = []
lines_from worker (moments ∷ rest) (list ∷ lists) = lines_of worker moments list ++ lines_from (worker + 1) rest lists

-- `renewal INDEX asked A exp E token T`
abbrev pub renewal_text : ℕ → Renewal → List ℕ
renewal_text index renewal =
    codes "renewal " ++ (decimal index ++ (codes " asked " ++ (decimal renewal.asked ++ (codes " exp " ++ (decimal renewal.exp
    ++ (codes " token " ++ (renewal.token ++ codes "\n")))))))

-- the lines of the renewals from this one on
abbrev pub renewals_from : ℕ → List Renewal → List ℕ
renewals_from index [] = []
renewals_from index (renewal ∷ renewals) = renewal_text index renewal ++ renewals_from (index + 1) renewals

-- the lines of the workers, and those of the renewals
abbrev pub report_text : List (List ℕ) → List (List Outcome) → List Renewal → List ℕ
report_text moments lists history = lines_from 0 moments lists ++ renewals_from 0 history
