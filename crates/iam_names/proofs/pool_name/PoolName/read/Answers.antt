use Rattle.std.proofs.Common.{◌≡◌}
use Rattle.iam_names.specs.PoolName.{pool_of_text, pool_text}
use Rattle.iam_names.proofs.PrintedLemmas.{if_read, pool_text-sound}
use Rattle.iam_names.proofs.pool_name.PoolName.read.Goals as goal

pub returns-clause-text : goal.returns-clause-text
returns-clause-text c =
    if_read c.read_pool.result (pool_of_text c.args.text.now) (λ name. pool_text name ≡ c.args.text.now) c.read_pool.ensures (pool_text-sound c.args.text.now)
