-- The first hop of an impersonation that isn't allowed.
use Rattle.std.proofs.Common.{◌≡◌, ◌+◌, ◌-◌, ◌<◌, ◌≤◌, ◌⊎◌, inl, inr, ℕ, zero, suc, Bool, true, false, not, List, [], ◌∷◌, length}
use Rattle.std.proofs.Common.{get_or, refl, sym, ◌∙◌, ap, subst, arith, add-one}
use Rattle.std.proofs.Math.Nat.{eq-or-lt_of_le}
use Rattle.std.proofs.lemmas.Option.{slice_get_read}
use Rattle.std.specs.Prelude.{Option, None, Some, option_map, slice_get}
use Rattle.entry_rules.specs.declared.fault.RuleCode.TheVariants.{I9}
use Rattle.service_view.specs.View.{View}
use Rattle.links.specs.Chain.{Chain}
use Rattle.links.specs.Hops.{first_hop, later_hop, later_hops, hops}
use Rattle.links.specs.Licence.{failing_hop}
use Rattle.links.specs.Places.{place_of}
use Rattle.links.specs.State.{Content}

-- ---- the first that is false

-- the one at which all before it are true
first_false : (bs : List Bool) (n : ℕ) → ((k : ℕ) → k < n → slice_get bs k ≡ Some true) → slice_get bs n ≡ Some false → place_of not bs ≡ Some n
first_false [] n before there = absurd (cc there)
first_false (true ∷ bs) zero before there = absurd (cc there)
first_false (false ∷ bs) zero before there = refl
first_false (true ∷ bs) (suc n) before there =
    rw (first_false bs n (λ k low. before (suc k) (omega (arith, low))) there) (ap (λ (m : ℕ). Some m) (add-one n))
first_false (false ∷ bs) (suc n) before there = let no : Some false ≡ Some true = before 0 (omega arith) in absurd (cc no)

-- none, where all are true
none_false : (bs : List Bool) → ((k : ℕ) → k < length bs → slice_get bs k ≡ Some true) → place_of not bs ≡ None
none_false [] all = refl
none_false (true ∷ bs) all = rw (none_false bs (λ k low. all (suc k) (omega (arith, low)))) refl
none_false (false ∷ bs) all = let no : Some false ≡ Some true = all 0 (omega arith) in absurd (cc no)

-- ---- the hops, by their places

later_length : (view : View) (found : Chain) (before : List ℕ) (accounts : List (List ℕ)) (now : ℕ)
    → length (later_hops view found before accounts now) ≡ length accounts
later_length view found before [] now = refl
later_length view found before (account ∷ accounts) now = omega (arith, later_length view found account accounts now)

hops_length : (view : View) (found : Chain) (accounts : List (List ℕ)) (now : ℕ) → length (hops view found accounts now) ≡ length accounts
hops_length view found [] now = refl
hops_length view found (account ∷ accounts) now = omega (arith, later_length view found account accounts now)

later_at : (view : View) (found : Chain) (start : List ℕ) (accounts : List (List ℕ)) (now k : ℕ) (before account : List ℕ)
    → slice_get (start ∷ accounts) k ≡ Some before → slice_get accounts k ≡ Some account
    → slice_get (later_hops view found start accounts now) k ≡ Some (later_hop view found before account now)
later_at view found start [] now k before account is next = absurd (cc next)
later_at view found start (first ∷ accounts) now zero before account is next =
    let here : start ≡ before = cc is in
    let there : first ≡ account = cc next in
    ap (λ (b : List ℕ). Some (later_hop view found b first now)) here ∙ ap (λ (a : List ℕ). Some (later_hop view found before a now)) there
later_at view found start (first ∷ accounts) now (suc k) before account is next = later_at view found first accounts now k before account is next

first_at : (view : View) (found : Chain) (accounts : List (List ℕ)) (now : ℕ) (account : List ℕ) → slice_get accounts 0 ≡ Some account
    → slice_get (hops view found accounts now) 0 ≡ Some (first_hop view found account now)
first_at view found [] now account is = absurd (cc is)
first_at view found (first ∷ accounts) now account is =
    let here : first ≡ account = cc is in
    ap (λ (a : List ℕ). Some (first_hop view found a now)) here

hop_at : (view : View) (found : Chain) (accounts : List (List ℕ)) (now k : ℕ) (before account : List ℕ) → slice_get accounts k ≡ Some before
    → slice_get accounts (suc k) ≡ Some account → slice_get (hops view found accounts now) (suc k) ≡ Some (later_hop view found before account now)
hop_at view found [] now k before account is next = absurd (cc is)
hop_at view found (first ∷ accounts) now k before account is next = later_at view found first accounts now k before account is next

-- ---- what is known while they are looked at

-- there is the chain, and each hop before this one passes
pub record PassBefore (view : View) (o : Option Chain) (accounts : List (List ℕ)) (now hop : ℕ) : Type 0 where
  pub found : Chain
  pub there : o ≡ Some found
  pub passed : (k : ℕ) → k < hop → slice_get (hops view found accounts now) k ≡ Some true

-- the chain of an answer, and what it says of it
pub record Answered (test : Chain → Bool) (o : Option Chain) (answer : Bool) : Type 0 where
  pub found : Chain
  pub there : o ≡ Some found
  pub is : test found ≡ answer

answered : (test : Chain → Bool) (o : Option Chain) (answer : Bool) → option_map test o ≡ Some answer → Answered test o answer
answered test None answer is = absurd (cc is)
answered test (Some found) answer is = record { found = found; there = refl; is = let same : test found ≡ answer = cc is in same }

told_at : (test : Chain → Bool) (o : Option Chain) (found : Chain) (answer : Bool) → o ≡ Some found → option_map test o ≡ Some answer → test found ≡ answer
told_at test o found answer there is = let same : Some (test found) ≡ Some answer = ap (option_map test) (sym there) ∙ is in cc same

fails_at : (c : Content) (o : Option Chain) (found : Chain) (accounts : List (List ℕ)) (now hop : ℕ) → o ≡ Some found
    → place_of not (hops c.view found accounts now) ≡ Some hop → failing_hop c o accounts now ≡ Some (I9 hop)
fails_at c o found accounts now hop there is =
    ap (λ (p : Option Chain). failing_hop c p accounts now) there ∙ ap (λ (place : Option ℕ). option_map I9 place) is

-- the first hop fails
pub first_fails : (c : Content) (o : Option Chain) (accounts : List (List ℕ)) (now : ℕ) (account : List ℕ) → 1 ≤ length accounts
    → account ≡ get_or accounts 0 account
    → option_map (λ (found : Chain). first_hop c.view found account now) o ≡ Some false → failing_hop c o accounts now ≡ Some (I9 0)
first_fails c o accounts now account some at is =
    let says = answered (λ (found : Chain). first_hop c.view found account now) o false is in
    let here = first_at c.view says.found accounts now account (slice_get_read accounts _ 0 account refl some at) ∙ ap (λ (b : Bool). Some b) says.is in
    fails_at c o says.found accounts now 0 says.there (first_false (hops c.view says.found accounts now) 0 (λ k low. absurd (omega (arith, low))) here)

-- it passes
pub first_passed : (view : View) (o : Option Chain) (accounts : List (List ℕ)) (now : ℕ) (account : List ℕ) → 1 ≤ length accounts
    → account ≡ get_or accounts 0 account
    → option_map (λ (found : Chain). first_hop view found account now) o ≡ Some true → PassBefore view o accounts now 1
first_passed view o accounts now account some at is =
    let says = answered (λ (found : Chain). first_hop view found account now) o true is in
    let here = first_at view says.found accounts now account (slice_get_read accounts _ 0 account refl some at) ∙ ap (λ (b : Bool). Some b) says.is in
    record {
      found = says.found;
      there = says.there;
      passed = λ k low. let zeroth : 0 ≡ k = omega (arith, low) in
          subst (λ (n : ℕ). slice_get (hops view says.found accounts now) n ≡ Some true) zeroth here;
    }

-- what a later hop says, once the chain is known
later_says : (view : View) (o : Option Chain) (found : Chain) (accounts : List (List ℕ)) (now k : ℕ) (before account : List ℕ) (answer : Bool)
    → o ≡ Some found → suc k < length accounts → before ≡ get_or accounts (suc k - 1) before → account ≡ get_or accounts (suc k) account
    → option_map (λ (one : Chain). later_hop view one before account now) o ≡ Some answer
    → slice_get (hops view found accounts now) (suc k) ≡ Some answer
later_says view o found accounts now k before account answer there low at next is =
    let same : suc k - 1 ≡ k = omega arith in
    let says = told_at (λ (one : Chain). later_hop view one before account now) o found answer there is in
    hop_at view found accounts now k before account (slice_get_read accounts _ k before refl (omega (arith, low)) (rw same at at))
    (slice_get_read accounts _ (suc k) account refl low next)
    ∙ ap (λ (b : Bool). Some b) says

-- a later hop fails
pub later_fails : (c : Content) (o : Option Chain) (accounts : List (List ℕ)) (now hop : ℕ) (before account : List ℕ)
    → PassBefore c.view o accounts now hop → 1 ≤ hop → hop < length accounts
    → before ≡ get_or accounts (hop - 1) before → account ≡ get_or accounts hop account
    → option_map (λ (found : Chain). later_hop c.view found before account now) o ≡ Some false → failing_hop c o accounts now ≡ Some (I9 hop)
later_fails c o accounts now zero before account pass some low at next is = absurd (omega (arith, some))
later_fails c o accounts now (suc k) before account pass some low at next is =
    fails_at c o pass.found accounts now (suc k) pass.there
    (first_false (hops c.view pass.found accounts now) (suc k) pass.passed
    (later_says c.view o pass.found accounts now k before account false pass.there low at next is))

by_place : (P : ℕ → Type 0) (n k : ℕ) → ((j : ℕ) → j < n → P j) → P n → (k ≡ n) ⊎ (k < n) → P k
by_place P n k before here (inl is) = subst P (sym is) here
by_place P n k before here (inr low) = before k low

-- it passes
pub later_passed : (view : View) (o : Option Chain) (accounts : List (List ℕ)) (now hop : ℕ) (before account : List ℕ)
    → PassBefore view o accounts now hop → 1 ≤ hop → hop < length accounts
    → before ≡ get_or accounts (hop - 1) before → account ≡ get_or accounts hop account
    → option_map (λ (found : Chain). later_hop view found before account now) o ≡ Some true → PassBefore view o accounts now (hop + 1)
later_passed view o accounts now zero before account pass some low at next is = absurd (omega (arith, some))
later_passed view o accounts now (suc k) before account pass some low at next is =
    let here = later_says view o pass.found accounts now k before account true pass.there low at next is in
    record {
      found = pass.found;
      there = pass.there;
      passed = λ n below. by_place (λ (m : ℕ). slice_get (hops view pass.found accounts now) m ≡ Some true) (suc k) n pass.passed here
          (eq-or-lt_of_le (omega (arith, below)));
    }

-- all pass
pub none_fails : (c : Content) (o : Option Chain) (accounts : List (List ℕ)) (now hop : ℕ) → PassBefore c.view o accounts now hop
    → length accounts ≡ hop → failing_hop c o accounts now ≡ None
none_fails c o accounts now hop pass all =
    let none : place_of not (hops c.view pass.found accounts now) ≡ None =
    none_false (hops c.view pass.found accounts now) (λ k low. pass.passed k (omega (arith, low, all, hops_length c.view pass.found accounts now))) in
    ap (λ (p : Option Chain). failing_hop c p accounts now) pass.there ∙ ap (λ (place : Option ℕ). option_map I9 place) none
