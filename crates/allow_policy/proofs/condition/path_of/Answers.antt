use Rattle.std.proofs.Common.{◌≡◌, ℕ, List, [], Option, None, Some, option_map, codes, Bor, refl, ap, ◌∙◌}
use Rattle.std.specs.Option.{unwrap_or}
use Rattle.iam_names.proofs.CutLemmas.{after-stripped}
use Rattle.allow_policy.proofs.condition.path_of.Goals as goal

-- the default stands behind its reference
now-unwrap_or : (found : Option (Bor (List ℕ))) (default : Bor (List ℕ)) → (unwrap_or found default).now ≡ unwrap_or (option_map (λ rest. rest.now) found) default.now
now-unwrap_or None default = refl
now-unwrap_or (Some rest) default = refl

pub returns : goal.returns
returns c =
    ap (λ (rest : Bor (List ℕ)). rest.now) c.unwrap_or.ensures
    ∙ now-unwrap_or c.strip_prefix.result _
    ∙ ap (λ (found : Option (List ℕ)). unwrap_or found []) (after-stripped (codes "//") c.args.resource.now c.strip_prefix.result c.strip_prefix.ensures.cases)
