use Rattle.std.proofs.Common.{◌∙◌, ap}
use Rattle.std.proofs.lemmas.Result.{IfOk-weaker}
use Rattle.serde_json.specs.Data.{array, string}
use Rattle.boundary.proofs.WrittenParts.{items_mapped}
use Rattle.access_token.proofs.payload.texts_value.Goals as goal

pub returns : goal.returns
returns c = IfOk-weaker c.texts_value.result _ _ (λ value told. told ∙ ap array (items_mapped string c.args.list.now)) c.texts_value.ensures
