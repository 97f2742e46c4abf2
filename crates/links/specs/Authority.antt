-- Whether a link is live, allows and admits, by recursion over the links that it was made from.
use Rattle.std.specs.Prelude.{ℕ, List, Bool, true, false, ◌&&◌, nat_lt, Option, None, Some}
use Rattle.std.specs.List.{list_all}
use Rattle.allow_policy.specs.Granting.{granted, scope_allows}
use Rattle.boundary.specs.Allowing.{boundary_allows}
use Rattle.boundary.specs.declared.rules.Boundary.{Boundary}
use Rattle.service_view.specs.View.{View, account_enabled, pool_enabled}
use Rattle.links.specs.Chain.{Chain, Root, Narrowed, Impersonated, Delegated, own}
use Rattle.links.specs.Facts.{exp_of, who_of, pools_in}

-- what has to be enabled for the link itself: the pool of its subject token, the service accounts that it impersonates
abbrev pub enabled_here : View → Chain → Bool
enabled_here view (Root o source) = list_all (pool_enabled view) (pools_in source.who)
enabled_here view (Narrowed o boundary parent) = true
enabled_here view (Impersonated o accounts lifetime parent) = list_all (account_enabled view) accounts
enabled_here view (Delegated o subject actor) = true

-- what the link itself asks at a moment, beside those that it was made from
abbrev pub lives_itself : View → Chain → ℕ → Bool
lives_itself view chain now = nat_lt now (exp_of chain) && enabled_here view chain

-- a link is live at a moment
abbrev pub live : View → Chain → ℕ → Bool
live view (Root o source) now = lives_itself view (Root o source) now
live view (Narrowed o boundary parent) now = lives_itself view (Narrowed o boundary parent) now && live view parent now
live view (Impersonated o accounts lifetime parent) now = lives_itself view (Impersonated o accounts lifetime parent) now && live view parent now
live view (Delegated o subject actor) now = lives_itself view (Delegated o subject actor) now && (live view subject now && live view actor now)

-- the link of a number that is live; a number of no link isn't
abbrev pub is_live : View → Option Chain → ℕ → Bool
is_live view None now = false
is_live view (Some chain) now = live view chain now

-- the boundary allows a permission on a resource at a moment, by the roles of now; no boundary allows each
abbrev pub bound_allows : View → Option Boundary → List ℕ → List ℕ → ℕ → Bool
bound_allows view None permission resource now = true
bound_allows view (Some boundary) permission resource now = boundary_allows view.lists.roles boundary permission resource now

-- the boundary that the link itself set
abbrev pub own_bound : Chain → Option Boundary
own_bound (Root o source) = None
own_bound (Narrowed o boundary parent) = boundary
own_bound (Impersonated o accounts lifetime parent) = None
own_bound (Delegated o subject actor) = None

-- the link's own words allow the permission, and so does its own boundary, if there is one
abbrev pub allows_itself : View → Chain → List ℕ → List ℕ → ℕ → Bool
allows_itself view chain permission resource now =
    scope_allows view.lists (own chain).words permission && bound_allows view (own_bound chain) permission resource now

-- a link allows a permission on a resource at a moment; what limits an actor doesn't count
abbrev pub allows : View → Chain → List ℕ → List ℕ → ℕ → Bool
allows view (Root o source) permission resource now = allows_itself view (Root o source) permission resource now
allows view (Narrowed o boundary parent) permission resource now =
    allows_itself view (Narrowed o boundary parent) permission resource now && allows view parent permission resource now
allows view (Impersonated o accounts lifetime parent) permission resource now =
    allows_itself view (Impersonated o accounts lifetime parent) permission resource now && allows view parent permission resource now
allows view (Delegated o subject actor) permission resource now =
    allows_itself view (Delegated o subject actor) permission resource now && allows view subject permission resource now

-- it is live, it allows the permission, and its principal is granted it
abbrev pub admits : View → Chain → List ℕ → List ℕ → ℕ → Bool
admits view chain permission resource now =
    live view chain now && (allows view chain permission resource now && granted view.lists (who_of chain) permission resource now)
