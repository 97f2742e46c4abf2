use Rattle.std.proofs.Common.{◌≡◌, ℕ, List, [], Option, None, Some, option_map, Bor, refl, ap, arith, ◌∙◌}
use Rattle.std.specs.Option.{unwrap_or}
use Rattle.iam_names.proofs.CutLemmas.{cut_at-split}
use Rattle.allow_policy.specs.Conditions.{parted}
use Rattle.allow_policy.proofs.condition.parted.Goals as goal

-- the parts behind their references
abbrev parts_now : Bor (List ℕ) × Bor (List ℕ) → List ℕ × List ℕ
parts_now parts = (parts.0.now, parts.1.now)

-- the default is all of the text and nothing
now-unwrap_or : (found : Option (Bor (List ℕ) × Bor (List ℕ))) (path rest : Bor (List ℕ)) → rest.now ≡ [] → parts_now (unwrap_or found (path, rest)) ≡ parted path.now (option_map parts_now found)
now-unwrap_or None path rest empty = ap (λ (after : List ℕ). (path.now, after)) empty
now-unwrap_or (Some parts) path rest empty = refl

pub returns : goal.returns
returns c =
    ap parts_now c.unwrap_or.ensures
    ∙ now-unwrap_or c.split_once.result c.args.path _ refl
    ∙ ap (parted c.args.path.now) (cut_at-split 47 c.args.path.now c.split_once.result c.split_once.ensures.cases (omega arith))
