-- Which resources a resource covers, and the resource of an account.
use Rattle.std.specs.Prelude.{ℕ, List, ◌++◌, Bool, ◌||◌, codes}
use Rattle.std.specs.Str.{bytes_eq}
use Rattle.iam_names.specs.Cuts.{after}
use Rattle.iam_names.specs.Forms.{passes, begins_with}

-- the lower text begins with the upper one and a slash
abbrev pub is_below : List ℕ → List ℕ → Bool
is_below upper lower = passes (begins_with 47) (after upper lower)

-- the same resource, or one that begins with it and a slash
abbrev pub covers : List ℕ → List ℕ → Bool
covers upper lower = bytes_eq upper lower || is_below upper lower

-- the resource that an account is, of no project's own
abbrev pub account_resource : List ℕ → List ℕ
account_resource account = codes "//iam.googleapis.com/projects/-/serviceAccounts/" ++ account
