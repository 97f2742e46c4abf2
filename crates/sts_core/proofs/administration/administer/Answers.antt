use Rattle.std.proofs.Common.{◌≡◌, ap, sym, ◌∙◌, subst}
use Rattle.std.specs.Prelude.{IfSome, Option, Some, option_map}
use Rattle.exchange_form.specs.Forms.{object_of}
use Rattle.json_text.specs.Clean.{HasUtf8}
use Rattle.serde_json.specs.Data.{Data}
use Rattle.serde_json.specs.View.{view}
use Rattle.sts_core.proofs.AskedParts.{object_utf8}
use Rattle.sts_core.proofs.administration.administer.Goals as goal

pub obey-requires-clause-utf8 : goal.obey-requires-clause-utf8
obey-requires-clause-utf8 c =
    let there : object_of c.as_slice.result.now ≡ Some (view c.in-Some.json) =
    sym c.in_ok-json.ensures ∙ ap (λ found. option_map (λ json. view json) found) c.in-Some.is in
    subst (λ (found : Option Data). IfSome found HasUtf8) there (object_utf8 c.as_slice.result.now)
