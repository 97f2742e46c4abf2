use Rattle.std.proofs.Common.{◌≡◌, ◌⊎◌, inl, inr, ⊎_elim, ap}
use Rattle.std.specs.Prelude.{Err}
use Rattle.client_top.specs.declared.unready.Unready.{Unready}
use Rattle.client_top.proofs.Running.{asks_not_refused, asks_not_taken, at_each, client_not_refused, client_not_taken, part_run, whole_run}
use Rattle.client_top.proofs.run.run_as.Goals as goal

pub returns-in-Ok-clause-done : goal.returns-in-Ok-clause-done
returns-in-Ok-clause-done g c = λ zero. whole_run c.args.run _ _ _ _ _ _ _ _ _ _ c.in-Ok.ready.client _ c.in-Ok.ensures.client c.in-Ok.ensures.moments
    (c.tell.ensures.done zero)

pub returns-in-Ok-clause-partly : goal.returns-in-Ok-clause-partly
returns-in-Ok-clause-partly g c = λ four. part_run c.args.run _ _ _ _ _ _ _ _ _ _ c.in-Ok.ready.client _ c.in-Ok.ensures.client c.in-Ok.ensures.moments
    (c.tell.ensures.partly four)

pub returns-in-Ok-clause-configuration_only : goal.returns-in-Ok-clause-configuration_only
returns-in-Ok-clause-configuration_only g c = λ file told none. absurd (client_not_taken file _ _ told c.in-Ok.ready.client none c.in-Ok.ensures.client)

pub returns-in-Ok-clause-malformed_only : goal.returns-in-Ok-clause-malformed_only
returns-in-Ok-clause-malformed_only g c = λ bytes told none zero. asks_not_taken c.args.run.workers bytes _ _ told _ none c.in-Ok.ensures.moments

pub returns-in-Err-clause-configuration_only : goal.returns-in-Err-clause-configuration_only
returns-in-Err-clause-configuration_only g c = λ file told none.
    let read = c.in-Err.ensures in
    let status = c.status_of.ensures in
    let eighth = λ (eight : c.status_of.result ≡ 8).
    let reads = (read.no_asks (ap (λ (end : Unready). Err end) (status.malformed eight))).1 in
    client_not_taken file _ _ told reads.0 none reads.1 in
    at_each {P = (c.status_of.result ≡ 1) ⊎ ((c.status_of.result ≡ 3) ⊎ (c.status_of.result ≡ 7))} inl (λ three. inr (inl three)) (λ seven. inr (inr seven))
    (λ eight. absurd (eighth eight)) status.no_other

pub returns-in-Err-clause-complete : goal.returns-in-Err-clause-complete
returns-in-Err-clause-complete g c = λ file client told is bytes asks told' are quiet_config quiet_input quiet_output.
    let read = c.in-Err.ensures in
    let status = c.status_of.ensures in
    let first = λ (one : c.status_of.result ≡ 1). client_not_refused file _ _ told client is
    (read.no_client (ap (λ (end : Unready). Err end) (status.configuration one))) in
    let third = λ (three : c.status_of.result ≡ 3). ⊎_elim quiet_config quiet_input (read.failed (ap (λ (end : Unready). Err end) (status.failed three))) in
    let eighth = λ (eight : c.status_of.result ≡ 8).
    asks_not_refused c.args.run.workers bytes _ _ told' asks c.requires.1 are (read.no_asks (ap (λ (end : Unready). Err end) (status.malformed eight))).0 in
    at_each {P = (c.status_of.result ≡ 0) ⊎ (c.status_of.result ≡ 7)} (λ one. absurd (first one)) (λ three. absurd (third three)) inr
    (λ eight. absurd (eighth eight)) status.no_other
