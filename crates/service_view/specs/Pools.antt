-- Pools, each name once.
use Rattle.std.specs.Prelude.{ℕ, List, [], ◌∷◌, Bool, Option, None, Some, if◌then◌else◌}
use Rattle.iam_names.specs.PoolName.{same_pool}
use Rattle.iam_names.specs.declared.pool_name.PoolName.{PoolName}
use Rattle.service_view.specs.declared.pool.Pool.{Pool}

-- the pools, and for how many more names there is memory
pub record Rows : Type 0 where
  pub pools : List Pool
  pub spare : ℕ

-- whether the pool of that name is disabled, where it is there
abbrev pub disabled_at : PoolName → List Pool → Option Bool
disabled_at name [] = None
disabled_at name (pool ∷ pools) = if same_pool pool.name name then Some pool.disabled else disabled_at name pools

-- the pool put in place of the one of its name, else at the end
abbrev pub put_pool : Pool → List Pool → List Pool
put_pool pool [] = pool ∷ []
put_pool pool (first ∷ pools) = if same_pool pool.name first.name then pool ∷ pools else first ∷ put_pool pool pools
