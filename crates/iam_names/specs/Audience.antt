-- A provider's full name, which an outside token names as its audience.
use Rattle.std.specs.Prelude.{ℕ, List, ◌++◌, Bool, ◌&&◌, Option, Some, codes}
use Rattle.base_types.specs.Reading.{◌>>=◌}
use Rattle.iam_names.specs.Cuts.{after}
use Rattle.iam_names.specs.Forms.{is_id}
use Rattle.iam_names.specs.Parts.{path_parts, provider_at}
use Rattle.iam_names.specs.PoolName.{pool_of, pool_path, is_pool_name}
use Rattle.iam_names.specs.declared.audience.Audience.{Audience}

-- whether each part is of its form
abbrev pub is_audience : Audience → Bool
is_audience name = is_pool_name name.pool && is_id name.provider

-- the text that names the provider
abbrev pub audience_text : Audience → List ℕ
audience_text name = codes "//" ++ (pool_path name.pool ++ (codes "/providers/" ++ name.provider))

-- the provider that a text names
abbrev pub audience_of : List ℕ → Option Audience
audience_of text =
    (after (codes "//") text >>= path_parts)
    >>= (λ path. pool_of path.0 path.1
    >>= (λ pool. provider_at path.2
    >>= (λ provider. Some (record { pool = pool; provider = provider }))))
