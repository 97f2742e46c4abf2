-- The hops of an impersonation, from a link to the first service account and from each account to the next.
use Rattle.std.specs.Prelude.{◌≡◌, ℕ, ◌&&◌, Bool, true, List, [], ◌∷◌, codes, ⊤}
use Rattle.allow_policy.specs.Granting.{granted}
use Rattle.iam_names.specs.Resource.{account_resource}
use Rattle.iam_names.specs.declared.who.Who.TheVariants.{Account}
use Rattle.service_view.specs.View.{View}
use Rattle.links.specs.Authority.{admits, allows}
use Rattle.links.specs.Chain.{Chain}

-- the permission to issue tokens for a service account
abbrev pub get_access_token : List ℕ
get_access_token = codes "iam.serviceAccounts.getAccessToken"

-- the link admits that permission on the account
abbrev pub first_hop : View → Chain → List ℕ → ℕ → Bool
first_hop view parent account now = admits view parent get_access_token (account_resource account) now

-- the account before is granted it on the account, and the link allows it there
abbrev pub later_hop : View → Chain → List ℕ → List ℕ → ℕ → Bool
later_hop view parent before account now =
    granted view.lists (Account before) get_access_token (account_resource account) now
    && allows view parent get_access_token (account_resource account) now

-- whether each hop behind an account passes, in order
abbrev pub later_hops : View → Chain → List ℕ → List (List ℕ) → ℕ → List Bool
later_hops view parent before [] now = []
later_hops view parent before (account ∷ accounts) now = later_hop view parent before account now ∷ later_hops view parent account accounts now

-- whether each hop passes, in order
abbrev pub hops : View → Chain → List (List ℕ) → ℕ → List Bool
hops view parent [] now = []
hops view parent (account ∷ accounts) now = first_hop view parent account now ∷ later_hops view parent account accounts now

-- each account behind one may be reached from the one before it
abbrev pub AreReachedFrom : View → Chain → List ℕ → List (List ℕ) → ℕ → Type 0
AreReachedFrom view parent before [] now = ⊤
AreReachedFrom view parent before (account ∷ accounts) now =
    (later_hop view parent before account now ≡ true) × AreReachedFrom view parent account accounts now

-- the first account may be reached from the link, and each later one from the account before it
abbrev pub AreReached : View → Chain → List (List ℕ) → ℕ → Type 0
AreReached view parent [] now = ⊤
AreReached view parent (account ∷ accounts) now = (first_hop view parent account now ≡ true) × AreReachedFrom view parent account accounts now
