use Rattle.std.proofs.Common.{◌≡◌, sym, ap, ◌∙◌}
use Rattle.std.specs.Prelude.{Some, codes, option_and_then, option_map}
use Rattle.serde_json.specs.Find.{as_str}
use Rattle.serde_json.specs.View.{view}
use Rattle.wif_base.specs.Routes.{before_suffix}
use Rattle.sts_core.proofs.Lifetimes.{stripped}
use Rattle.sts_core.proofs.generating.digits_in.Goals as goal

pub returns-in-Some : goal.returns-in-Some
returns-in-Some c =
    let found : as_str (view c.args.json.now) ≡ Some c.in-Some.text.now = sym c.as_str.ensures ∙ ap (option_map (λ text. text.now)) c.in-Some.is in
    stripped (codes "s") c.in-Some.text.now c.strip_suffix.result c.strip_suffix.ensures.cases ∙ ap (option_and_then (before_suffix (codes "s"))) (sym found)
