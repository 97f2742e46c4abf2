use Rattle.std.proofs.Common.{◌∙◌, ap₂}
use Rattle.iam_names.specs.PoolName.{pool_path}
use Rattle.iam_names.proofs.pool_name.PoolName.path.Goals as goal

pub returns : goal.returns
returns c =
    c.new.ensures ∙ c.in_ok-format.ensures.ok
    ∙ ap₂ (λ project pool. pool_path (record { project = project; pool = pool })) c.as_str-project.ensures.text c.as_str-pool.ensures.text
