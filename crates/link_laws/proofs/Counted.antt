-- Each link of a chain counts, and no link does more than those that it was made from.
use Rattle.std.proofs.Common.{◌≡◌, ◌≤◌, ℕ, Bool, true, false, ◌&&◌, nat_le, List, [], ◌∷◌, ◌++◌, refl, sym, ◌∙◌, ap, arith, Option}
use Rattle.std.specs.List.{list_all}
use Rattle.std.proofs.lemmas.Bool.{and_from, and_parts, le-leb}
use Rattle.std.proofs.lemmas.List.Folds.{list_all-append}
use Rattle.allow_policy.specs.Granting.{granted}
use Rattle.boundary.specs.declared.rules.Boundary.{Boundary}
use Rattle.iam_names.specs.declared.pool_name.PoolName.{PoolName}
use Rattle.service_view.specs.View.{View, account_enabled, pool_enabled}
use Rattle.link_laws.specs.Ancestors.{limits_in, links_in, made_from}
use Rattle.links.specs.Authority.{admits, allows, allows_itself, live, lives_itself}
use Rattle.links.specs.Chain.{Own, Chain, Root, Narrowed, Impersonated, Delegated}
use Rattle.links.specs.Facts.{accounts_of, exp_of, pools_of, who_of}
use Rattle.links.proofs.ByLists.{live_by_lists}

and_true : (a : Bool) → (a && true) ≡ a
and_true true = refl
and_true false = refl

and_false : (a : Bool) → (a && false) ≡ false
and_false true = refl
and_false false = refl

-- ---- each link of a chain

pub each_lives : (view : View) (found : Chain) (now : ℕ) → live view found now ≡ list_all (λ link. lives_itself view link now) (links_in found)
each_lives view (Root o source) now = sym (and_true (lives_itself view (Root o source) now))
each_lives view (Narrowed o boundary parent) now = ap (λ (b : Bool). lives_itself view (Narrowed o boundary parent) now && b) (each_lives view parent now)
each_lives view (Impersonated o accounts lifetime parent) now =
    ap (λ (b : Bool). lives_itself view (Impersonated o accounts lifetime parent) now && b) (each_lives view parent now)
each_lives view (Delegated o subject actor) now =
    let test : Chain → Bool = λ link. lives_itself view link now in
    let both : (live view subject now && live view actor now) ≡ list_all test (links_in subject ++ links_in actor) =
    ap (λ (b : Bool). b && live view actor now) (each_lives view subject now)
    ∙ ap (λ (b : Bool). list_all test (links_in subject) && b) (each_lives view actor now)
    ∙ sym (list_all-append test (links_in subject) (links_in actor)) in
    ap (λ (b : Bool). lives_itself view (Delegated o subject actor) now && b) both

pub each_allows : (view : View) (found : Chain) (permission resource : List ℕ) (now : ℕ)
    → allows view found permission resource now ≡ list_all (λ link. allows_itself view link permission resource now) (limits_in found)
each_allows view (Root o source) permission resource now = sym (and_true (allows_itself view (Root o source) permission resource now))
each_allows view (Narrowed o boundary parent) permission resource now =
    ap (λ (b : Bool). allows_itself view (Narrowed o boundary parent) permission resource now && b) (each_allows view parent permission resource now)
each_allows view (Impersonated o accounts lifetime parent) permission resource now =
    ap (λ (b : Bool). allows_itself view (Impersonated o accounts lifetime parent) permission resource now && b)
    (each_allows view parent permission resource now)
each_allows view (Delegated o subject actor) permission resource now =
    ap (λ (b : Bool). allows_itself view (Delegated o subject actor) permission resource now && b) (each_allows view subject permission resource now)

-- ---- those that a link was made from

one : (a : Bool) → a ≡ true → (a && true) ≡ true
one a is = and_true a ∙ is

pub those_live : (view : View) (found : Chain) (now : ℕ) → live view found now ≡ true → list_all (λ link. live view link now) (made_from found) ≡ true
those_live view (Root o source) now is = refl
those_live view (Narrowed o boundary parent) now is =
    one (live view parent now) (and_parts (lives_itself view (Narrowed o boundary parent) now) (live view parent now) is).1
those_live view (Impersonated o accounts lifetime parent) now is =
    one (live view parent now) (and_parts (lives_itself view (Impersonated o accounts lifetime parent) now) (live view parent now) is).1
those_live view (Delegated o subject actor) now is =
    let first = live view subject now in
    let second = live view actor now in
    let two = and_parts first second (and_parts (lives_itself view (Delegated o subject actor) now) (first && second) is).1 in
    and_from first (second && true) two.0 (one second two.1)

pub parent_outlives : (o : Own) (boundary : Option Boundary) (parent : Chain) → exp_of (Narrowed o boundary parent) ≤ exp_of parent
parent_outlives o boundary parent = omega arith

pub impersonator_outlives : (o : Own) (accounts : List (List ℕ)) (lifetime : ℕ) (parent : Chain)
    → exp_of (Impersonated o accounts lifetime parent) ≤ exp_of parent
impersonator_outlives o accounts lifetime parent = omega arith

pub both_outlive : (o : Own) (subject actor : Chain)
    → (exp_of (Delegated o subject actor) ≤ exp_of subject) × (exp_of (Delegated o subject actor) ≤ exp_of actor)
both_outlive o subject actor = (omega arith, omega arith)

pub those_outlive : (found : Chain) → list_all (λ link. nat_le (exp_of found) (exp_of link)) (made_from found) ≡ true
those_outlive (Root o source) = refl
those_outlive (Narrowed o boundary parent) =
    let exp = exp_of (Narrowed o boundary parent) in
    one (nat_le exp (exp_of parent)) (le-leb exp (exp_of parent) (parent_outlives o boundary parent))
those_outlive (Impersonated o accounts lifetime parent) =
    let exp = exp_of (Impersonated o accounts lifetime parent) in
    one (nat_le exp (exp_of parent)) (le-leb exp (exp_of parent) (impersonator_outlives o accounts lifetime parent))
those_outlive (Delegated o subject actor) =
    let exp = exp_of (Delegated o subject actor) in
    let lasts = both_outlive o subject actor in
    and_from (nat_le exp (exp_of subject)) (nat_le exp (exp_of actor) && true) (le-leb exp (exp_of subject) lasts.0)
    (one (nat_le exp (exp_of actor)) (le-leb exp (exp_of actor) lasts.1))

pub parent_admits : (view : View) (o : Own) (boundary : Option Boundary) (parent : Chain) (permission resource : List ℕ) (now : ℕ)
    → admits view (Narrowed o boundary parent) permission resource now ≡ true → admits view parent permission resource now ≡ true
parent_admits view o boundary parent permission resource now is =
    let found = Narrowed o boundary parent in
    let grants = granted view.lists (who_of parent) permission resource now in
    let lives = and_parts (live view found now) (allows view found permission resource now && grants) is in
    let may = and_parts (allows view found permission resource now) grants lives.1 in
    let more = and_parts (allows_itself view found permission resource now) (allows view parent permission resource now) may.0 in
    and_from (live view parent now) (allows view parent permission resource now && grants)
    (and_parts (lives_itself view found now) (live view parent now) lives.0).1
    (and_from (allows view parent permission resource now) grants more.1 may.1)

pub subject_admits : (view : View) (o : Own) (subject actor : Chain) (permission resource : List ℕ) (now : ℕ)
    → admits view (Delegated o subject actor) permission resource now ≡ true → admits view subject permission resource now ≡ true
subject_admits view o subject actor permission resource now is =
    let found = Delegated o subject actor in
    let grants = granted view.lists (who_of subject) permission resource now in
    let lives = and_parts (live view found now) (allows view found permission resource now && grants) is in
    let may = and_parts (allows view found permission resource now) grants lives.1 in
    let more = and_parts (allows_itself view found permission resource now) (allows view subject permission resource now) may.0 in
    let two = (and_parts (lives_itself view found now) (live view subject now && live view actor now) lives.0).1 in
    and_from (live view subject now) (allows view subject permission resource now && grants)
    (and_parts (live view subject now) (live view actor now) two).0
    (and_from (allows view subject permission resource now) grants more.1 may.1)

pub parent_allows : (view : View) (o : Own) (accounts : List (List ℕ)) (lifetime : ℕ) (parent : Chain) (permission resource : List ℕ) (now : ℕ)
    → admits view (Impersonated o accounts lifetime parent) permission resource now ≡ true
    → (live view parent now ≡ true) × (allows view parent permission resource now ≡ true)
parent_allows view o accounts lifetime parent permission resource now is =
    let found = Impersonated o accounts lifetime parent in
    let grants = granted view.lists (who_of found) permission resource now in
    let lives = and_parts (live view found now) (allows view found permission resource now && grants) is in
    let may = and_parts (allows view found permission resource now) grants lives.1 in (
      (and_parts (lives_itself view found now) (live view parent now) lives.0).1,
      (and_parts (allows_itself view found permission resource now) (allows view parent permission resource now) may.0).1,
    )

pub same_with_another : (view : View) (o : Own) (subject actor other : Chain) (permission resource : List ℕ) (now : ℕ)
    → allows view (Delegated o subject actor) permission resource now ≡ allows view (Delegated o subject other) permission resource now
same_with_another view o subject actor other permission resource now = refl

-- ---- what is disabled

one_fails : {A : Type 0} (test : A → Bool) (before : List A) (x : A) (behind : List A) → test x ≡ false → list_all test (before ++ x ∷ behind) ≡ false
one_fails test [] x behind is = ap (λ (b : Bool). b && list_all test behind) is
one_fails test (y ∷ before) x behind is = ap (λ (b : Bool). test y && b) (one_fails test before x behind is) ∙ and_false (test y)

pub pool_ends : (view : View) (found : Chain) (before behind : List PoolName) (pool : PoolName) (now : ℕ) → pools_of found ≡ before ++ pool ∷ behind
    → pool_enabled view pool ≡ false → live view found now ≡ false
pool_ends view found before behind pool now has is =
    let test = pool_enabled view in
    let none : list_all test (pools_of found) ≡ false = ap (list_all test) has ∙ one_fails test before pool behind is in
    rw (live_by_lists view found now, none) (and_false _)

pub account_ends : (view : View) (found : Chain) (before behind : List (List ℕ)) (account : List ℕ) (now : ℕ)
    → accounts_of found ≡ before ++ account ∷ behind → account_enabled view account ≡ false → live view found now ≡ false
account_ends view found before behind account now has is =
    let test = account_enabled view in
    let none : list_all test (accounts_of found) ≡ false = ap (list_all test) has ∙ one_fails test before account behind is in
    rw (live_by_lists view found now, none, and_false (list_all (pool_enabled view) (pools_of found))) (and_false _)
