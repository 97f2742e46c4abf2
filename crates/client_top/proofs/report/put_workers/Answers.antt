use Rattle.std.proofs.Common.{◌≡◌, ◌++◌, ℕ, map, Vec, Global, ◌∙◌, ap, arith}
use Rattle.std.specs.Prelude.{string_bytes}
use Rattle.std.proofs.lemmas.List.{length-map}
use Rattle.client_top.specs.Report.{lines_of}
use Rattle.client_top.specs.declared.outcome.Outcome.{Outcome}
use Rattle.client_top.proofs.Reporting.{all_told, at_place, goes_on, lists_more, lists_over}
use Rattle.client_top.proofs.report.put_workers.Goals as goal

pub loop-worker-preserved : goal.loop-worker-preserved
loop-worker-preserved c =
    let moments = c.index-moments-worker.result in
    let outcomes = c.index-lists-worker.result in
    let at_moments = at_place (λ (list : Vec ℕ Global). list.items) c.args.moments.now c.loop-worker.worker moments (omega arith) c.index-moments-worker.is in
    let at_lists = at_place (λ (list : Vec Outcome Global). list.items) c.args.lists.now c.loop-worker.worker outcomes (omega arith) c.index-lists-worker.is in
    let more = lists_more c.loop-worker.worker _ _ _ _ moments.items outcomes.items at_moments at_lists in
    let line : string_bytes c.put_lines.new.text ≡ string_bytes c.loop-worker.text ++ lines_of c.loop-worker.worker moments.items outcomes.items =
    c.in_ok-put_lines.ensures ∙ ap (λ l. string_bytes c.loop-worker.text
    ++ lines_of c.loop-worker.worker l c.deref-in-loop-worker.result.now) c.deref.ensures.value
    ∙ ap (λ l. string_bytes c.loop-worker.text ++ lines_of c.loop-worker.worker moments.items l) c.deref-in-loop-worker.ensures.value in
    goes_on _ _ _ _ _ _ line more c.loop-worker.invariant

pub returns : goal.returns
returns c =
    let over = lists_over c.loop-worker.worker c.loop-worker.worker (map (λ (list : Vec ℕ Global). list.items) c.args.moments.now)
    (map (λ (list : Vec Outcome Global). list.items) c.args.lists.now)
    (omega (
      arith,
      length-map c.args.moments.now (λ (list : Vec ℕ Global). list.items),
      length-map c.args.lists.now
          (λ (list : Vec Outcome Global). list.items),
    )) in
    all_told _ _ _ over c.loop-worker.invariant
