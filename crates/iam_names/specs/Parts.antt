-- The parts of a text that begins with a pool's path.
use Rattle.std.specs.Prelude.{ℕ, List, Option, Some, codes}
use Rattle.base_types.specs.Forms.{has_size, passing}
use Rattle.base_types.specs.Reading.{◌>>=◌}
use Rattle.iam_names.specs.Cuts.{after, cut_at}
use Rattle.iam_names.specs.Forms.{is_id}

-- a text that begins with a pool's path and a slash: the project, the pool, and what follows the slash
abbrev pub path_parts : List ℕ → Option (List ℕ × List ℕ × List ℕ)
path_parts text =
    (after (codes "iam.googleapis.com/projects/") text >>= cut_at 47)
    >>= (λ project. (after (codes "locations/global/workloadIdentityPools/") project.1 >>= cut_at 47)
    >>= (λ pool. Some (project.0, pool.0, pool.1)))

-- the provider behind providers/
abbrev pub provider_at : List ℕ → Option (List ℕ)
provider_at text = after (codes "providers/") text >>= passing is_id

-- the subject behind subject/, of 1 to 127 bytes
abbrev pub subject_at : List ℕ → Option (List ℕ)
subject_at text = after (codes "subject/") text >>= passing (has_size 1 127)
