-- What a licence says of an impersonation and of a delegation.
use Rattle.std.proofs.Common.{◌≡◌, ◌+◌, ℕ, Bool, true, false, not, ◌&&◌, List, [], ◌∷◌, ◌++◌, refl, ap}
use Rattle.std.specs.Prelude.{Option, None, Some, option_map, if◌then◌else◌}
use Rattle.std.specs.List.{list_all}
use Rattle.std.proofs.lemmas.Bool.{and_parts}
use Rattle.std.proofs.lemmas.Slice.Eq.{bytes_eq-Decides}
use Rattle.base_types.specs.Rules.{fails_if}
use Rattle.access_token.specs.Facts.{name_of}
use Rattle.entry_rules.specs.declared.fault.RuleCode.{RuleCode}
use Rattle.entry_rules.specs.declared.fault.RuleCode.TheVariants.{E21, E22, E23, E25, I8, I9, I11}
use Rattle.service_view.specs.View.{View, account_enabled}
use Rattle.links.specs.declared.entry.Delegation.{Delegation}
use Rattle.links.specs.declared.entry.Entry.TheVariants as entry
use Rattle.links.specs.declared.entry.Impersonation.{Impersonation}
use Rattle.links.specs.Authority.{is_live, live}
use Rattle.links.specs.Chain.{Chain}
use Rattle.links.specs.Facts.{may_act_of, who_of}
use Rattle.links.specs.Hops.{AreReached, AreReachedFrom, first_hop, hops, later_hop, later_hops}
use Rattle.links.specs.Licence.{Licensed, begins_with_name, delegation_rules, failing_hop, first_unlicensed, impersonation_rules, may_be_acted_for, size_rule}
use Rattle.links.specs.Places.{place_of}
use Rattle.links.specs.State.{Content, chain}
use Rattle.links.proofs.Sound.{all_pass}

map_none : {A B : Type 0} (f : A → B) (o : Option A) → option_map f o ≡ None → o ≡ None
map_none f None is = refl
map_none f (Some x) is = absurd (cc is)

-- where none is found that fails, each passes
all_step : (passes rest : Bool) (place : Option ℕ) → (place ≡ None → rest ≡ true)
    → (if not passes then Some 0 else option_map (λ (n : ℕ). n + 1) place) ≡ None → (passes && rest) ≡ true
all_step true rest place all is = all (map_none (λ (n : ℕ). n + 1) place is)
all_step false rest place all is = absurd (cc is)

all_by_place : {A : Type 0} (test : A → Bool) (xs : List A) → place_of (λ x. not (test x)) xs ≡ None → list_all test xs ≡ true
all_by_place test [] is = refl
all_by_place test (x ∷ xs) is = all_step (test x) (list_all test xs) (place_of (λ y. not (test y)) xs) (all_by_place test xs) is

-- ---- an impersonation

pub each_enabled : (c : Content) (x : Impersonation) → Licensed c (entry.Impersonate x) → list_all (account_enabled c.view) x.accounts ≡ true
unfolding first_unlicensed
each_enabled c x licensed =
    let rules = all_pass (impersonation_rules c x ++ size_rule c (entry.Impersonate x) I11 ∷ []) licensed in
    all_by_place (account_enabled c.view) x.accounts (map_none I8 (place_of (λ account. not (account_enabled c.view account)) x.accounts) rules.1.0)

reached_from : (view : View) (parent : Chain) (before : List ℕ) (accounts : List (List ℕ)) (now : ℕ)
    → list_all (λ (b : Bool). b) (later_hops view parent before accounts now) ≡ true → AreReachedFrom view parent before accounts now
reached_from view parent before [] now is = tt
reached_from view parent before (account ∷ accounts) now is =
    let parts = and_parts (later_hop view parent before account now) (list_all (λ (b : Bool). b) (later_hops view parent account accounts now)) is in
    (parts.0, reached_from view parent account accounts now parts.1)

reached : (view : View) (parent : Chain) (accounts : List (List ℕ)) (now : ℕ) → list_all (λ (b : Bool). b) (hops view parent accounts now) ≡ true
    → AreReached view parent accounts now
reached view parent [] now is = tt
reached view parent (account ∷ accounts) now is =
    let parts = and_parts (first_hop view parent account now) (list_all (λ (b : Bool). b) (later_hops view parent account accounts now)) is in
    (parts.0, reached_from view parent account accounts now parts.1)

reached_by : (c : Content) (o : Option Chain) (accounts : List (List ℕ)) (now : ℕ) → failing_hop c o accounts now ≡ None
    → (parent : Chain) × (o ≡ Some parent) × AreReached c.view parent accounts now
reached_by c None accounts now is = absurd (cc is)
reached_by c (Some parent) accounts now is =
    let tests = hops c.view parent accounts now in
    (parent, refl, reached c.view parent accounts now (all_by_place (λ (b : Bool). b) tests (map_none I9 (place_of not tests) is)))

pub each_reached : (c : Content) (x : Impersonation) → Licensed c (entry.Impersonate x)
    → (parent : Chain) × (chain c x.parent ≡ Some parent) × AreReached c.view parent x.accounts x.at
unfolding first_unlicensed
each_reached c x licensed =
    let rules = all_pass (impersonation_rules c x ++ size_rule c (entry.Impersonate x) I11 ∷ []) licensed in
    reached_by c (chain c x.parent) x.accounts x.at rules.1.1.0

-- ---- a delegation

holds : (b : Bool) (rule : RuleCode) → fails_if (not b) rule ≡ None → b ≡ true
holds true rule is = refl
holds false rule is = absurd (cc is)

begins : (name : List ℕ) (names : List (List ℕ)) → begins_with_name name names ≡ true → (later : List (List ℕ)) × (names ≡ name ∷ later)
begins name [] is = absurd (cc is)
begins name (first ∷ more) is = (more, ap (λ (n : List ℕ). n ∷ more) ((bytes_eq-Decides first name).0 is))

acted_for_by : (view : View) (s a : Option Chain) (now : ℕ) → is_live view s now ≡ true → is_live view a now ≡ true → may_be_acted_for s a ≡ true
    → (subject : Chain) × (actor : Chain) × (later : List (List ℕ)) × (s ≡ Some subject) × (a ≡ Some actor)
    × (may_act_of subject ≡ name_of (who_of actor) ∷ later) × (live view subject now ≡ true) × (live view actor now ≡ true)
acted_for_by view None a now first second may = absurd (cc first)
acted_for_by view (Some subject) None now first second may = absurd (cc second)
acted_for_by view (Some subject) (Some actor) now first second may =
    let named = begins (name_of (who_of actor)) (may_act_of subject) may in
    (subject, actor, named.0, refl, refl, named.1, first, second)

pub acted_for : (c : Content) (x : Delegation) → Licensed c (entry.Delegate x)
    → (subject : Chain) × (actor : Chain) × (later : List (List ℕ)) × (chain c x.subject ≡ Some subject) × (chain c x.actor ≡ Some actor)
    × (may_act_of subject ≡ name_of (who_of actor) ∷ later) × (live c.view subject x.at ≡ true) × (live c.view actor x.at ≡ true)
unfolding first_unlicensed
acted_for c x licensed =
    let rules = all_pass (delegation_rules c x ++ size_rule c (entry.Delegate x) E25 ∷ []) licensed in
    acted_for_by c.view (chain c x.subject) (chain c x.actor) x.at (holds (is_live c.view (chain c x.subject) x.at) E21 rules.1.0)
    (holds (is_live c.view (chain c x.actor) x.at) E22 rules.1.1.0)
    (holds (may_be_acted_for (chain c x.subject) (chain c x.actor)) E23 rules.1.1.1.0)
