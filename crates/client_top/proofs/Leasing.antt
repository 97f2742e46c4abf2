-- What the workers' leases brought, from what a pass and the client tell at their end.
use Rattle.std.proofs.Common.{◌≡◌, ◌≤◌, ◌+◌, ⊎_elim, ℕ, List, String, Global, refl, sym, ◌∙◌, ap, subst, arith}
use Rattle.std.specs.Prelude.{Option, None, Some, IsSome, Result, Ok, Err, IfOk, string_bytes}
use Rattle.std.specs.List.{flat_map}
use Rattle.std.specs.declared.alloc.AllocError.{AllocError}
use Rattle.client_link.specs.declared.target.LinkCall.{LinkCall}
use Rattle.client_proto.specs.declared.config.ClientConfig.{ClientConfig}
use Rattle.renewer.specs.Flights.{Flown, AreToldSince}
use Rattle.renewer.specs.Histories.{NoWaste}
use Rattle.renewer.specs.Leases.{TellsMore}
use Rattle.renewer.specs.declared.renewal.Renewal.{Renewal}
use Rattle.shared_renewer.specs.Counts.{AreWithin, counts_of, facts_of, told_failures}
use Rattle.shared_renewer.specs.Failures.{failed_calls}
use Rattle.shared_renewer.specs.Views.{Begins, fresh}
use Rattle.shared_renewer.specs.declared.view.View.{View}
use Rattle.shared_renewer.proofs.Failing.{failed-append}
use Rattle.client_top.specs.Outcomes.{AreOutcomes, IsLostBy, how_many, is_reply}
use Rattle.client_top.specs.Report.{report_text}
use Rattle.client_top.specs.Runs.{GaveRenewals, Leased, Reports}
use Rattle.client_top.specs.declared.outcome.Outcome.{Outcome}
use Rattle.client_top.proofs.Outcomes.{lists_stay}

-- the calls since the first gave the renewals, and have each reply that was refused or bad
made_of : (client : ClientConfig) (history : List Renewal) (lists : List (List Outcome)) (before now : Option (List LinkCall))
    → AreToldSince client before now history
    → (IsSome before → told_failures client before + how_many is_reply (flat_map (λ outcomes. outcomes) lists) ≤ told_failures client now)
    → TellsMore before now (GaveRenewals client history lists)
made_of client history lists None now told within = tt
made_of client history lists (Some calls) None told within = absurd told
made_of client history lists (Some calls) (Some later) told within =
    (told.0, told.1, (told.2, omega (arith, within refl, failed-append client calls told.0, ap (failed_calls client) told.1)))

module _ {L : Type 0} (faults : L → ℕ) (calls : L → Option (List LinkCall)) (lender : L → ℕ) (margin : ℕ) (client : ClientConfig) (link : L)
    (shares : ℕ) (begun : Flown L)
    (is_link_of : begun.link ≡ link) (is_client : begun.config ≡ client) (is_margin : begun.margin ≡ margin) (is_first : begun.first ≡ link) where
  pub leased_of : (moments : List (List ℕ)) (lists : List (List Outcome)) (old new : View) (ended : Flown L)
      → old ≡ fresh (facts_of calls lender begun) (counts_of faults calls begun) shares begun.history
      → new.facts ≡ old.facts → AreOutcomes new.facts.margin new.seen moments lists → IsLostBy lists old new
      → (ended.margin ≡ begun.margin) × (ended.config ≡ begun.config) → calls ended.first ≡ calls begun.first → Begins new.seen ended.history
      → NoWaste ended.margin ended.history → AreWithin new.left (counts_of faults calls ended) → AreWithin new.lost (counts_of faults calls ended)
      → AreToldSince ended.config (calls ended.first) (calls ended.link) ended.history
      → Leased margin client moments (calls link) (calls ended.link) (faults link) (faults ended.link) lists ended.history
  leased_of moments lists old new ended at_first facts outcomes lost same first seen waste left within told =
      let facts_are : old.facts ≡ facts_of calls lender begun = ap (λ (v : View). v.facts) at_first in
      let margin_is : new.facts.margin ≡ margin = ap (λ f. f.margin) (facts ∙ facts_are) ∙ is_margin in
      let made_is : new.facts.made ≡ calls link = ap (λ f. f.made) (facts ∙ facts_are) ∙ ap calls is_link_of in
      let ended_margin : ended.margin ≡ margin = same.0 ∙ is_margin in
      let ended_client : ended.config ≡ client = same.1 ∙ is_client in
      let before_is : calls ended.first ≡ calls link = first ∙ ap calls is_first in
      let faults_are : old.lost.faults ≡ faults link = ap (λ (v : View). v.lost.faults) at_first ∙ ap faults is_link_of in
      let failures_are : old.lost.failed ≡ told_failures client (calls link) =
      ap (λ (v : View). v.lost.failed) at_first ∙ ap (λ c. told_failures c (calls begun.link)) is_client
      ∙ ap (λ l. told_failures client (calls l)) is_link_of in
      let failed_within : new.lost.failed ≤ told_failures client (calls ended.link) =
      subst (λ c. new.lost.failed ≤ told_failures c (calls ended.link)) ended_client within.failed in
      let told_since : AreToldSince client (calls link) (calls ended.link) ended.history =
      subst (λ (b : Option (List LinkCall)). AreToldSince client b (calls ended.link) ended.history) before_is
      (subst (λ (c : ClientConfig). AreToldSince c (calls ended.first) (calls ended.link) ended.history) ended_client told) in
      record {
        outcomes = lists_stay margin new.seen ended.history moments lists seen (subst (λ (m : ℕ). AreOutcomes m new.seen moments lists) margin_is outcomes);
        waste = subst (λ (m : ℕ). NoWaste m ended.history) ended_margin waste;
        made = made_of client ended.history lists (calls link) (calls ended.link) told_since
            (λ some. omega (arith, failed_within, failures_are, lost.failed (subst IsSome (sym made_is) some)));
        failed = ⊎_elim (λ risen. omega (arith, risen, faults_are, within.faults)) (λ full. omega (arith, full, left.faults)) lost.faults;
      }

-- a report that was made is the one on these leases
pub reports_of : (margin : ℕ) (client : ClientConfig) (moments : List (List ℕ)) (calls calls' later : Option (List LinkCall)) (faults faults' last : ℕ)
    (lists : List (List Outcome)) (history told : List Renewal)
    (result : Result (String Global) AllocError) → Leased margin client moments calls calls' faults faults' lists history → calls' ≡ later → faults' ≡ last
    → told ≡ history
    → IfOk result (λ text. string_bytes text ≡ report_text moments lists told)
    → IfOk result (λ text. Reports margin client moments calls later faults last (string_bytes text))
reports_of margin client moments calls calls' later faults faults' last lists history told (Err error) leased same same' is made = tt
reports_of margin client moments calls calls' later faults faults' last lists history told (Ok text) leased same same' is made = record {
  lists = lists;
  history = history;
  leased = subst (λ (n : ℕ). Leased margin client moments calls later faults n lists history) same'
      (subst (λ (c : Option (List LinkCall)). Leased margin client moments calls c faults faults' lists history) same leased);
  all = made ∙ ap (report_text moments lists) is;
}
