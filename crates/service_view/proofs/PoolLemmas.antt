-- A list of pools, changed at a place.
use Rattle.std.proofs.Common.{◌≡◌, ℕ, ◌<◌, ◌≤◌, List, [], ◌∷◌, ◌++◌, true, length, take, drop, get_or, set, refl, drop-cons, ◌∙◌}
use Rattle.std.proofs.lemmas.List.{set_split, take_all, drop_all}
use Rattle.iam_names.specs.PoolName.{same_pool}
use Rattle.service_view.specs.declared.pool.Pool.{Pool}
use Rattle.service_view.specs.Pools.{put_pool}

abbrev PutFrom : Pool → List Pool → ℕ → Type 0
PutFrom pool pools i = put_pool pool pools ≡ take i pools ++ put_pool pool (drop i pools)

pub put-hit : (pool : Pool) (pools : List Pool) (i : ℕ) (found : Pool) → i < length pools → found ≡ get_or pools i found → PutFrom pool pools i → same_pool pool.name found.name ≡ true → put_pool pool pools ≡ set pools i pool
put-hit pool pools i found within is so_far same =
    let here : same_pool pool.name (get_or pools i found).name ≡ true = rw (← is) same in
    so_far ∙ rw (drop-cons pools i found, here, set_split) refl

pub put-all : (pool : Pool) (pools : List Pool) (i : ℕ) → length pools ≤ i → PutFrom pool pools i → put_pool pool pools ≡ pools ++ pool ∷ []
put-all pool pools i past so_far = so_far ∙ rw (take_all i pools past, drop_all i pools past) refl
