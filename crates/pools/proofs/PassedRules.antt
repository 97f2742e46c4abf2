-- What holds where no rule fails, and the other way round.
use Rattle.std.proofs.Common.{◌≡◌, ℕ, ◌≤◌, ◌⊎◌, inl, inr, Bool, true, false, not, ◌||◌, nat_lt, List, [], ◌∷◌, ◌++◌, length, codes, Option, None, Some, Ok, Err, IfSome, refl, sym, ap, ◌∙◌, arith, if◌then◌else◌, Decides}
use Rattle.std.specs.List.{AllByRecursion, Any, list_any}
use Rattle.std.proofs.lemmas.Bool.{ltb-false}
use Rattle.std.proofs.lemmas.Bool.Decides.{Decides-or, nat_tests}
use Rattle.std.proofs.lemmas.List.Folds.{Any-from_list_any, list_any-from_Any}
use Rattle.std.proofs.lemmas.Map.Made.{is_member-Decides}
use Rattle.std.proofs.lemmas.Slice.Eq.{bytes_eq-Decides}
use Rattle.base_types.specs.Rules.{fails_if, first_of}
use Rattle.cel_values.specs.declared.value.Value.{Value, out-Value}
use Rattle.cel_values.specs.declared.value.Value.TheOpen.{Value-F}
use Rattle.cel_values.specs.declared.value.Value.TheVariants as value
use Rattle.cel_values.specs.declared.value.Value.TheViews.{roll-Value, out-roll-Value, roll-out-Value}
use Rattle.cel_builtins.specs.Outcomes.{Outcome, Shape}
use Rattle.cel_eval.specs.Denotation.{Env, denotation}
use Rattle.cel_expression.specs.declared.expression.Expression.{Expression}
use Rattle.iam_names.specs.Audience.{audience_text}
use Rattle.wif_claims.specs.declared.claims.When.TheVariants as when
use Rattle.wif_claims.specs.Timing.{begun}
use Rattle.pools.specs.declared.fault.MapFault.{MapFault}
use Rattle.pools.specs.Admission.{timing_fault, unless_true, truth_fault, condition_fault}
use Rattle.pools.specs.Admitted.{IsAcceptable, HasSize}
use Rattle.pools.specs.Answers.{passed}
use Rattle.pools.specs.Lengths.{is_long_group, are_long_groups, first_long_attribute}
use Rattle.pools.specs.Providers.{ProviderView, is_acceptable, is_named, is_listed}

pub passed-none : (o : Option MapFault) (t : Unit {0}) → passed o ≡ Ok t → o ≡ None
passed-none None t e = refl
passed-none (Some f) t e = cc

-- ---- three rules in an order

pub first-none : (a b : Bool) (x y : MapFault) (o : Option MapFault) → first_of (fails_if a x ∷ fails_if b y ∷ o ∷ []) ≡ None → (a ≡ false) × (b ≡ false) × (o ≡ None)
first-none true b x y o e = cc
first-none false true x y o e = cc
first-none false false x y None e = (refl, refl, refl)
first-none false false x y (Some f) e = cc

pub none-first : (a b : Bool) (x y : MapFault) (o : Option MapFault) → a ≡ false → b ≡ false → o ≡ None → first_of (fails_if a x ∷ fails_if b y ∷ o ∷ []) ≡ None
none-first true b x y o e f g = cc
none-first false true x y o e f g = cc
none-first false false x y None e f g = refl
none-first false false x y (Some fault) e f g = cc

pub not-false : (b : Bool) → not b ≡ false → b ≡ true
not-false true e = refl
not-false false e = cc

-- ---- time

pub begun-live : (early : Bool) → timing_fault (if early then when.NotYet else when.Live) ≡ None → early ≡ false
begun-live true e = cc
begun-live false e = refl

pub expired-live : (expired : Bool) (nbf : Option ℕ) (now : ℕ) → timing_fault (if expired then when.Expired else begun nbf now) ≡ None → (expired ≡ false) × IfSome nbf (λ n. n ≤ now)
expired-live true nbf now e = cc
expired-live false None now e = (refl, tt)
expired-live false (Some n) now e = (refl, ltb-false now n (begun-live (nat_lt now n) e))

not-below : (a b : ℕ) → b ≤ a → nat_lt a b ≡ false
not-below a b h = grind (arith, nat_tests)

pub live-expired : (expired : Bool) (nbf : Option ℕ) (now : ℕ) → expired ≡ false → IfSome nbf (λ n. n ≤ now) → timing_fault (if expired then when.Expired else begun nbf now) ≡ None
live-expired true nbf now e h = cc
live-expired false None now e h = refl
live-expired false (Some n) now e h = rw (not-below now n h) refl

-- ---- audiences

named : (p : ProviderView) (audience : List ℕ) → p.audiences ≡ [] → is_acceptable p audience ≡ is_named (audience_text p.name) audience
named p audience none = rw none refl

listed : (p : ProviderView) (audience x : List ℕ) (xs : List (List ℕ)) → p.audiences ≡ x ∷ xs → is_acceptable p audience ≡ is_listed p.audiences audience
listed p audience x xs some = rw some refl

is_named-Decides : (name audience : List ℕ) → Decides (is_named name audience) ((audience ≡ name) ⊎ (audience ≡ codes "https:" ++ name))
is_named-Decides name audience = Decides-or _ _ (bytes_eq-Decides audience name) (bytes_eq-Decides audience (codes "https:" ++ name))

acceptable-named : (p : ProviderView) (audience : List ℕ) → p.audiences ≡ [] → Decides (is_acceptable p audience) (IsAcceptable p audience)
acceptable-named p audience none =
    let decides = is_named-Decides (audience_text p.name) audience in
    let is = named p audience none in (
      λ h. inr (none, decides.0 (sym is ∙ h)),
      λ w. is ∙ decides.1 (elim w [ inl c ↦ absurd (omega (arith, c.1, ap length none)) | inr r ↦ r.1 ]),
    )

acceptable-listed : (p : ProviderView) (audience x : List ℕ) (xs : List (List ℕ)) → p.audiences ≡ x ∷ xs → Decides (is_acceptable p audience) (IsAcceptable p audience)
acceptable-listed p audience x xs some =
    let decides = is_member-Decides bytes_eq-Decides p.audiences audience in
    let is = listed p audience x xs some in (
      λ h. inl (decides.0 (sym is ∙ h)),
      λ w. is ∙ decides.1 (elim w [ inl c ↦ c | inr r ↦ absurd (omega (arith, ap length r.0, ap length some)) ]),
    )

pub acceptable-Decides : (p : ProviderView) (audience : List ℕ) → Decides (is_acceptable p audience) (IsAcceptable p audience)
acceptable-Decides p audience = by p.audiences refl
  where
    by : (all : List (List ℕ)) → p.audiences ≡ all → Decides (is_acceptable p audience) (IsAcceptable p audience)
    by [] e = acceptable-named p audience e
    by (x ∷ xs) e = acceptable-listed p audience x xs e

-- one audience that passes the test, where the test decides
pub some-audience : (p : ProviderView) (audiences : List (List ℕ)) → Decides (list_any (is_acceptable p) audiences) (Any (IsAcceptable p) audiences)
some-audience p audiences = (
  λ h. let found = Any-from_list_any (is_acceptable p) audiences h in (found.0, found.1, found.2, found.3, (acceptable-Decides p found.1).0 found.4),
  λ w. list_any-from_Any (is_acceptable p) audiences (w.0, w.1, w.2, w.3, (acceptable-Decides p w.1).1 w.4),
)

-- ---- lengths

or-false : (a b : Bool) → (a || b) ≡ false → (a ≡ false) × (b ≡ false)
or-false true b e = cc
or-false false b e = (refl, e)

choice-none : (b : Bool) (fault : MapFault) (o : Option MapFault) → (if b then Some fault else o) ≡ None → (b ≡ false) × (o ≡ None)
choice-none true fault o e = cc
choice-none false fault o e = (refl, e)

short-groups : (groups : List (List ℕ)) → list_any is_long_group groups ≡ false → AllByRecursion (λ g. 1 ≤ length g) groups → AllByRecursion (HasSize 1 256) groups
short-groups [] e some = tt
short-groups (g ∷ gs) e some =
    let each = or-false (is_long_group g) (list_any is_long_group gs) e in
    ((some.0, ltb-false 256 (length g) each.0), short-groups gs each.1 some.1)

groups-short : (groups : List (List ℕ)) → AllByRecursion (HasSize 1 256) groups → list_any is_long_group groups ≡ false
groups-short [] sizes = refl
groups-short (g ∷ gs) sizes = rw (not-below 256 (length g) sizes.0.1) (groups-short gs sizes.1)

-- groups of which none is empty are few and short exactly where each has its size
pub sized-groups : (groups : List (List ℕ)) → are_long_groups groups ≡ false → AllByRecursion (λ g. 1 ≤ length g) groups → (length groups ≤ 64) × AllByRecursion (HasSize 1 256) groups
sized-groups groups e some =
    let each = or-false (nat_lt 64 (length groups)) (list_any is_long_group groups) e in
    (ltb-false 64 (length groups) each.0, short-groups groups each.1 some)

pub groups-sized : (groups : List (List ℕ)) → length groups ≤ 64 → AllByRecursion (HasSize 1 256) groups → are_long_groups groups ≡ false
groups-sized groups few sizes = rw (not-below 64 (length groups) few) (groups-short groups sizes)

pub sized-attributes : (attributes : List (List ℕ × List ℕ)) → first_long_attribute attributes ≡ None → AllByRecursion (λ a. 1 ≤ length a.1) attributes → AllByRecursion (λ a. HasSize 1 256 a.1) attributes
sized-attributes [] e some = tt
sized-attributes (a ∷ more) e some =
    let each = choice-none (nat_lt 256 (length a.1)) _ (first_long_attribute more) e in
    ((some.0, ltb-false 256 (length a.1) each.0), sized-attributes more each.1 some.1)

pub attributes-sized : (attributes : List (List ℕ × List ℕ)) → AllByRecursion (λ a. HasSize 1 256 a.1) attributes → first_long_attribute attributes ≡ None
attributes-sized [] sizes = refl
attributes-sized (a ∷ more) sizes = rw (not-below 256 (length a.1) sizes.0.1) (attributes-sized more sizes.1)

pub sized-subject : (subject : List ℕ) → length subject ≤ 127 → nat_lt 127 (length subject) ≡ false
sized-subject subject h = not-below 127 (length subject) h

pub short-subject : (subject : List ℕ) → nat_lt 127 (length subject) ≡ false → length subject ≤ 127
short-subject subject e = ltb-false 127 (length subject) e

-- ---- the condition

pub true-value : (v : Value) → out-Value v ≡ Value-F.Bool true → v ≡ value.Bool true
true-value v e = sym (roll-out-Value v) ∙ ap roll-Value e ∙ value.rolls-Bool true

pub true-shape : (shape : Shape) → unless_true shape ≡ None → shape ≡ Value-F.Bool true
true-shape (Value-F.Bool true) e = refl
true-shape (Value-F.Bool false) e = cc
true-shape (Value-F.Text t) e = cc
true-shape Value-F.Null e = cc
true-shape (Value-F.Int z) e = cc
true-shape (Value-F.List vs) e = cc
true-shape (Value-F.Map es) e = cc
true-shape (Value-F.Time z) e = cc
true-shape (Value-F.Span z) e = cc
true-shape Value-F.Opaque e = cc

pub true-outcome : (outcome : Outcome) → truth_fault outcome ≡ None → outcome ≡ Ok (value.Bool true)
true-outcome (Ok v) e = ap Ok (true-value v (true-shape (out-Value v) e))
true-outcome (Err fault) e = cc

pub true-condition : (condition : Option Expression) (env : Env) → condition_fault condition env ≡ None → IfSome condition (λ e. denotation e.tree env ≡ Ok (value.Bool true))
true-condition None env e = tt
true-condition (Some c) env e = true-outcome (denotation c.tree env) e

pub condition-true : (condition : Option Expression) (env : Env) → IfSome condition (λ e. denotation e.tree env ≡ Ok (value.Bool true)) → condition_fault condition env ≡ None
condition-true None env e = refl
condition-true (Some c) env e = rw e (ap unless_true (ap out-Value (sym (value.rolls-Bool true)) ∙ out-roll-Value (Value-F.Bool true)))
