use Rattle.std.proofs.Common.{◌≡◌, ◌++◌, List, ◌∙◌, append_assoc}
use Rattle.std.proofs.lemmas.Result.{on_ok_weaker}
use Rattle.cel_types.specs.declared.cel_type.Declaration.{Declaration}
use Rattle.pools.specs.Environments.{mapping_names, identity_names, condition_names}
use Rattle.pools.proofs.names.declare_all.Goals as goal

joined : (before first : List Declaration) → first ≡ before ++ mapping_names → first ++ identity_names ≡ before ++ condition_names
joined before first e = rw e (append_assoc before mapping_names identity_names)

pub returns : goal.returns
returns c =
    let first : c.declare_map.new.names ≡ c.args.names.now ++ mapping_names = c.in_ok-declare_map.ensures in
    on_ok_weaker c.declare_identity.result (λ last. last ∙ joined c.args.names.now c.declare_map.new.names first) c.declare_identity.ensures
