-- The name that a token shows as its subject.
use Rattle.std.specs.Prelude.{ℕ, List, ◌++◌, codes}
use Rattle.iam_names.specs.declared.who.Who.{Who}
use Rattle.iam_names.specs.declared.who.Who.TheVariants.{Outside, Account}
use Rattle.iam_names.specs.PoolName.{pool_path}

-- a principal of a pool, or a service account
abbrev pub name_of : Who → List ℕ
name_of (Outside pool identity) = codes "principal://" ++ (pool_path pool ++ (codes "/subject/" ++ identity.subject))
name_of (Account account) = codes "serviceAccount:" ++ account
