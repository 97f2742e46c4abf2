-- The authority of a link, by the lists that it carries.
use Rattle.std.proofs.Common.{◌≡◌, ◌+◌, ℕ, min, Bool, true, false, ◌&&◌, nat_lt, List, refl, ◌∙◌, ap, arith, ltb-true, lt-ltb}
use Rattle.std.specs.Prelude.{None, Some}
use Rattle.std.specs.List.{list_all}
use Rattle.std.proofs.lemmas.List.Folds.{list_all-append}
use Rattle.allow_policy.specs.Granting.{scope_allows}
use Rattle.boundary.specs.Allowing.{boundary_allows}
use Rattle.boundary.specs.declared.rules.Boundary.{Boundary}
use Rattle.service_view.specs.View.{View, account_enabled, pool_enabled}
use Rattle.links.specs.Authority.{allows, live}
use Rattle.links.specs.Chain.{Chain, Root, Narrowed, Impersonated, Delegated}
use Rattle.links.specs.Facts.{exp_of, pools_in, pools_of, accounts_of, scopes_of, bounds_of}

-- before the smaller of two moments is before both
below_min : (now a b : ℕ) → nat_lt now (min a b) ≡ true → nat_lt now a ≡ true
below_min now a b h = lt-ltb now a (omega (arith, ltb-true now (min a b) h))

below_min_too : (now a b : ℕ) → nat_lt now (min a b) ≡ true → nat_lt now b ≡ true
below_min_too now a b h = lt-ltb now b (omega (arith, ltb-true now (min a b) h))

-- ---- live

-- what the link asks itself joins what its parents ask
root_lives : (early pools : Bool) → (early && pools) ≡ (early && (pools && true))
root_lives false pools = refl
root_lives true true = refl
root_lives true false = refl

narrowed_lives : (early parents pools accounts : Bool) → (early ≡ true → parents ≡ true)
    → ((early && true) && (parents && (pools && accounts))) ≡ (early && (pools && accounts))
narrowed_lives false parents pools accounts f = refl
narrowed_lives true parents pools accounts f = ap (λ (b : Bool). b && (pools && accounts)) (f refl)

own_last : (own pools accounts : Bool) → (own && (pools && accounts)) ≡ (pools && (accounts && own))
own_last true true true = refl
own_last true true false = refl
own_last true false accounts = refl
own_last false true true = refl
own_last false true false = refl
own_last false false accounts = refl

impersonated_lives : (early parents pools accounts own : Bool) → (early ≡ true → parents ≡ true)
    → ((early && own) && (parents && (pools && accounts))) ≡ (early && (pools && (accounts && own)))
impersonated_lives false parents pools accounts own f = refl
impersonated_lives true parents pools accounts own f = ap (λ (b : Bool). own && (b && (pools && accounts))) (f refl) ∙ own_last own pools accounts

paired : (p q r s : Bool) → ((p && r) && (q && s)) ≡ ((p && q) && (r && s))
paired false q r s = refl
paired true false false s = refl
paired true true false s = refl
paired true false true s = refl
paired true true true s = refl

delegated_lives : (early subjects actors p q r s : Bool) → (early ≡ true → subjects ≡ true) → (early ≡ true → actors ≡ true)
    → ((early && true) && ((subjects && (p && r)) && (actors && (q && s)))) ≡ (early && ((p && q) && (r && s)))
delegated_lives false subjects actors p q r s f g = refl
delegated_lives true subjects actors p q r s f g =
    ap (λ (b : Bool). (b && (p && r)) && (actors && (q && s))) (f refl) ∙ ap (λ (b : Bool). (p && r) && (b && (q && s))) (g refl) ∙ paired p q r s

pub live_by_lists : (view : View) (chain : Chain) (now : ℕ)
    → live view chain now
    ≡ (nat_lt now (exp_of chain) && (list_all (pool_enabled view) (pools_of chain) && list_all (account_enabled view) (accounts_of chain)))
live_by_lists view (Root o source) now = root_lives (nat_lt now (exp_of (Root o source))) (list_all (pool_enabled view) (pools_in source.who))
live_by_lists view (Narrowed o boundary parent) now =
    rw (live_by_lists view parent now)
    (narrowed_lives (nat_lt now (exp_of (Narrowed o boundary parent))) (nat_lt now (exp_of parent)) (list_all (pool_enabled view) (pools_of parent))
    (list_all (account_enabled view) (accounts_of parent)) (below_min now (exp_of parent) (o.at + 3600)))
live_by_lists view (Impersonated o accounts lifetime parent) now =
    rw (live_by_lists view parent now, list_all-append)
    (impersonated_lives (nat_lt now (exp_of (Impersonated o accounts lifetime parent))) (nat_lt now (exp_of parent))
    (list_all (pool_enabled view) (pools_of parent)) (list_all (account_enabled view) (accounts_of parent)) (list_all (account_enabled view) accounts)
    (below_min now (exp_of parent) (o.at + lifetime)))
live_by_lists view (Delegated o subject actor) now =
    let first = exp_of subject in
    let second = exp_of actor in
    rw (live_by_lists view subject now, live_by_lists view actor now)
    (simp list_all-append (delegated_lives (nat_lt now (exp_of (Delegated o subject actor))) (nat_lt now first) (nat_lt now second)
    (list_all (pool_enabled view) (pools_of subject)) (list_all (pool_enabled view) (pools_of actor))
    (list_all (account_enabled view) (accounts_of subject)) (list_all (account_enabled view) (accounts_of actor))
    (λ h. below_min now first second (below_min now (min first second) (o.at + 3600) h))
    (λ h. below_min_too now first second (below_min now (min first second) (o.at + 3600) h))))

-- ---- allows

-- each list of words that the link carries allows the permission
abbrev words_allow : View → List ℕ → List (List (List ℕ)) → Bool
words_allow view permission scopes = list_all (λ words. scope_allows view.lists words permission) scopes

-- and each boundary
abbrev bounds_allow : View → List ℕ → List ℕ → ℕ → List Boundary → Bool
bounds_allow view permission resource now bounds = list_all (λ boundary. boundary_allows view.lists.roles boundary permission resource now) bounds

root_allows : (words : Bool) → (words && true) ≡ ((words && true) && true)
root_allows false = refl
root_allows true = refl

words_last : (words scopes bounds : Bool) → ((words && true) && (scopes && bounds)) ≡ ((scopes && (words && true)) && bounds)
words_last true true bounds = refl
words_last true false bounds = refl
words_last false true bounds = refl
words_last false false bounds = refl

bounds_last : (words boundary scopes bounds : Bool)
    → ((words && boundary) && (scopes && bounds)) ≡ ((scopes && (words && true)) && (bounds && (boundary && true)))
bounds_last true true true true = refl
bounds_last true true true false = refl
bounds_last true true false bounds = refl
bounds_last true false true true = refl
bounds_last true false true false = refl
bounds_last true false false bounds = refl
bounds_last false boundary true bounds = refl
bounds_last false boundary false bounds = refl

pub allows_by_lists : (view : View) (chain : Chain) (permission resource : List ℕ) (now : ℕ)
    → allows view chain permission resource now ≡ (words_allow view permission (scopes_of chain) && bounds_allow view permission resource now (bounds_of chain))
allows_by_lists view (Root o source) permission resource now = root_allows (scope_allows view.lists o.words permission)
allows_by_lists view (Narrowed o None parent) permission resource now =
    rw (allows_by_lists view parent permission resource now, list_all-append)
    (words_last (scope_allows view.lists o.words permission) (words_allow view permission (scopes_of parent))
    (bounds_allow view permission resource now (bounds_of parent)))
allows_by_lists view (Narrowed o (Some boundary) parent) permission resource now =
    rw (allows_by_lists view parent permission resource now)
    (simp list_all-append (bounds_last (scope_allows view.lists o.words permission) (boundary_allows view.lists.roles boundary permission resource now)
    (words_allow view permission (scopes_of parent)) (bounds_allow view permission resource now (bounds_of parent))))
allows_by_lists view (Impersonated o accounts lifetime parent) permission resource now =
    rw (allows_by_lists view parent permission resource now, list_all-append)
    (words_last (scope_allows view.lists o.words permission) (words_allow view permission (scopes_of parent))
    (bounds_allow view permission resource now (bounds_of parent)))
allows_by_lists view (Delegated o subject actor) permission resource now =
    rw (allows_by_lists view subject permission resource now, list_all-append)
    (words_last (scope_allows view.lists o.words permission) (words_allow view permission (scopes_of subject))
    (bounds_allow view permission resource now (bounds_of subject)))
