-- A pool's name, and where it stands in longer names.
use Rattle.std.specs.Prelude.{ℕ, List, ◌++◌, Bool, ◌&&◌, Option, None, Some, if◌then◌else◌, codes}
use Rattle.std.specs.Str.{bytes_eq}
use Rattle.base_types.specs.Reading.{◌>>=◌}
use Rattle.iam_names.specs.Cuts.{cut_at}
use Rattle.iam_names.specs.Forms.{is_project, is_id}
use Rattle.iam_names.specs.declared.pool_name.PoolName.{PoolName}

-- the pool of a project's text and a pool's text
abbrev pub pool_of : List ℕ → List ℕ → Option PoolName
pool_of project pool = if is_project project && is_id pool then Some (record { project = project; pool = pool }) else None

-- whether both parts are of their forms
abbrev pub is_pool_name : PoolName → Bool
is_pool_name name = is_project name.project && is_id name.pool

-- a pool as PROJECT/POOL
abbrev pub pool_text : PoolName → List ℕ
pool_text name = name.project ++ (codes "/" ++ name.pool)

-- the pool that a whole text names
abbrev pub pool_of_text : List ℕ → Option PoolName
pool_of_text text = cut_at 47 text >>= (λ parts. pool_of parts.0 parts.1)

-- a pool as iam.googleapis.com/projects/PROJECT/locations/global/workloadIdentityPools/POOL
abbrev pub pool_path : PoolName → List ℕ
pool_path name = codes "iam.googleapis.com/projects/" ++ (name.project ++ (codes "/locations/global/workloadIdentityPools/" ++ name.pool))

-- whether two names are of one pool
abbrev pub same_pool : PoolName → PoolName → Bool
same_pool a b = bytes_eq a.project b.project && bytes_eq a.pool b.pool
