use Rattle.std.proofs.Common.{List, [], ◌∷◌, ◌++◌, ℕ, refl, inl, subst, ◌∙◌}
use Rattle.std.specs.Fmt.{decimal}
use Rattle.std.specs.Io.KnownBytes.{Appends}
use Rattle.std.specs.Prelude.{codes}
use Rattle.wif_tool.proofs.fault_line.write_refusal_line.Goals as goal

pub returns-in-Ok-write_text-clause-line : goal.returns-in-Ok-write_text-clause-line
returns-in-Ok-write_text-clause-line g c =
    let old = g.O.Sink.taken c.args.output.now in
    let new = g.O.Sink.taken c.write_text.new.output in
    inl (
      refl,
      subst (λ (name : List ℕ). Appends old new (codes "fault 6 at " ++ (decimal c.args.at ++ (codes " rule " ++ (name ++ (10 ∷ [])))))) c.name_of-name.ensures
          (subst (λ (l : List ℕ). Appends old new l) (c.as_bytes.ensures.value ∙ c.in-Ok.ensures.ok) c.in-Ok-write_text.ensures.written),
    )
