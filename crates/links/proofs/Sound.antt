-- Where the chains are of their forms, so is that of the next link.
use Rattle.std.proofs.Common.{◌≡◌, ◌+◌, ◌<◌, ◌≤◌, ℕ, zero, suc, Bool, true, false, List, [], ◌∷◌, ◌++◌, length, refl, sym, ◌∙◌, ap, subst, arith, ◌⊎◌, inl, inr}
use Rattle.std.specs.Prelude.{⊤, Option, None, Some, IfSome, option_map}
use Rattle.std.specs.List.{AllByRecursion, list_all}
use Rattle.std.proofs.lemmas.Bool.{ltb-false}
use Rattle.base_types.specs.Rules.{fails_if, first_of}
use Rattle.boundary.specs.declared.rules.Boundary.{Boundary}
use Rattle.boundary.specs.Exact.{IsExactBoundary}
use Rattle.iam_names.specs.Forms.{is_account}
use Rattle.subject_token.specs.declared.source.Source.{Source}
use Rattle.links.specs.Chain.{Kind, Federated, Narrow, Impersonate, Delegate, Link, Own, Chain, Root, Narrowed, Impersonated, Delegated, own, own_at}
use Rattle.links.specs.Chain.{chains_of, next_chain, chain_of_kind, chain_at, delegated}
use Rattle.links.specs.Facts.{depth_of}
use Rattle.links.specs.Licence.{is_deep}
use Rattle.links.specs.State.{with_link}
use Rattle.links.proofs.Chains.{chains_of-last, chain_at-more}
use Rattle.links.proofs.Good.{IsGood, IsGoodChain, IsGoodOwn, IsGoodSource, IsWhole, AreGood, AreSound}

good_last : (n : ℕ) (chains : List (Option Chain)) (x : Option Chain) (chain : Chain) → x ≡ Some chain → AreGood n chains → IsGood (n + length chains) chain
    → AreGood n (chains ++ x ∷ [])
good_last n [] x chain is all good = ((chain, is, subst (λ (k : ℕ). IsGood k chain) (omega arith) good), tt)
good_last n (y ∷ chains) x chain is all good = (all.0, good_last (suc n) chains x chain is all.1 (subst (λ (k : ℕ). IsGood k chain) (omega arith) good))

good_from : (m : ℕ) (chains : List (Option Chain)) (n : ℕ) (chain : Chain) → AreGood m chains → chain_at chains n ≡ Some chain → IsGood (m + n) chain
good_from m [] n chain all is = absurd (cc is)
good_from m (x ∷ chains) zero chain all is =
    let same : all.0.0 ≡ chain = cc (is, all.0.1) in
    subst (λ (k : ℕ). IsGood k chain) (omega arith) (subst (λ (c : Chain). IsGood m c) same all.0.2)
good_from m (x ∷ chains) (suc n) chain all is = subst (λ (k : ℕ). IsGood k chain) (omega arith) (good_from (suc m) chains n chain all.1 is)

-- the chain of a number has its form
pub good_at : (chains : List (Option Chain)) (n : ℕ) (chain : Chain) → AreGood 0 chains → chain_at chains n ≡ Some chain → IsGood n chain
good_at chains n chain all is = subst (λ (k : ℕ). IsGood k chain) (omega arith) (good_from 0 chains n chain all is)

there_from : (m : ℕ) (chains : List (Option Chain)) (n : ℕ) → AreGood m chains → n < length chains → (chain : Chain) × (chain_at chains n ≡ Some chain)
there_from m [] n all within = absurd (omega arith)
there_from m (x ∷ chains) zero all within = (all.0.0, all.0.1)
there_from m (x ∷ chains) (suc n) all within = there_from (suc m) chains n all.1 (omega arith)

-- each number below their count has its chain
pub good_there : (chains : List (Option Chain)) (n : ℕ) → AreGood 0 chains → n < length chains → (chain : Chain) × (chain_at chains n ≡ Some chain)
good_there chains n all within = there_from 0 chains n all within

-- and no other
pub chain_within : (chains : List (Option Chain)) (n : ℕ) (chain : Chain) → chain_at chains n ≡ Some chain → n < length chains
chain_within [] n chain is = absurd (cc is)
chain_within (x ∷ chains) zero chain is = omega arith
chain_within (x ∷ chains) (suc n) chain is = omega (arith, chain_within chains n chain is)

-- ---- rules

-- where no rule fails, each passes
pub all_pass : {R : Type 0} (rules : List (Option R)) → first_of rules ≡ None → AllByRecursion (λ rule. rule ≡ None) rules
all_pass [] is = tt
all_pass (None ∷ rules) is = (refl, all_pass rules is)
all_pass (Some rule ∷ rules) is = absurd (cc is)

pub rule_passes : {R : Type 0} (failed : Bool) (rule : R) → fails_if failed rule ≡ None → failed ≡ false
rule_passes true rule is = absurd (cc is)
rule_passes false rule is = refl

not_deep : (x : Option Chain) → is_deep x ≡ false → (chain : Chain) × (x ≡ Some chain) × (depth_of chain ≤ 8)
not_deep None is = absurd (cc is)
not_deep (Some chain) is = (chain, refl, ltb-false 8 (depth_of chain) is)

-- ---- the next link

pub map_some : {A B : Type 0} (f : A → B) (o : Option A) (y : B) → option_map f o ≡ Some y → (x : A) × (o ≡ Some x) × (f x ≡ y)
map_some f None y is = absurd (cc is)
map_some f (Some x) y is = (x, refl, cc is)

-- where a subject with an actor is a chain, both are there
pub delegated_some : (o : Own) (subject actor : Option Chain) (chain : Chain) → delegated o subject actor ≡ Some chain
    → (s : Chain) × (a : Chain) × (subject ≡ Some s) × (actor ≡ Some a) × (Delegated o s a ≡ chain)
delegated_some o None actor chain is = absurd (cc is)
delegated_some o (Some s) None chain is = absurd (cc is)
delegated_some o (Some s) (Some a) chain is = (s, a, refl, refl, cc is)

-- it is a chain that has its form behind the others
pub record Joins (chains : List (Option Chain)) (x : Option Chain) : Type 0 where
  pub chain : Chain
  pub is : x ≡ Some chain
  pub good : IsGood (length chains) chain

-- what the next link has of its own
pub record IsNext (chains : List (Option Chain)) (o : Own) : Type 0 where
  pub number : o.number ≡ length chains
  pub form : IsGoodOwn o

pub federated_joins : (chains : List (Option Chain)) (o : Own) (source : Source) → IsNext chains o → IsGoodSource source
    → Joins chains (chain_of_kind o chains (Federated source))
federated_joins chains o source next form = record {
  chain = Root o source;
  is = refl;
  good = record { number = next.number; deep = omega arith; form = (next.form, form) };
}

pub narrow_joins : (chains : List (Option Chain)) (o : Own) (parent : ℕ) (boundary : Option Boundary) → AreGood 0 chains → IsNext chains o
    → IfSome boundary IsExactBoundary
    → is_deep (chain_of_kind o chains (Narrow parent boundary)) ≡ false → Joins chains (chain_of_kind o chains (Narrow parent boundary))
narrow_joins chains o parent boundary all next bound deep =
    let there = not_deep (chain_of_kind o chains (Narrow parent boundary)) deep in
    let from = map_some (Narrowed o boundary) (chain_at chains parent) there.0 there.1 in
    let good = good_at chains parent from.0 all from.1 in
    let low : (own from.0).number < o.number = omega (arith, good.number, chain_within chains parent from.0 from.1, next.number) in
    record {
      chain = there.0;
      is = there.1;
      good = record {
        number = sym (ap (λ (c : Chain). (own c).number) from.2) ∙ next.number;
        deep = there.2;
        form = subst IsGoodChain from.2 (next.form, bound, low, good.form);
      };
    }

pub impersonate_joins : (chains : List (Option Chain)) (o : Own) (parent : ℕ) (accounts : List (List ℕ)) (lifetime : ℕ) → AreGood 0 chains
    → IsNext chains o → 1 ≤ length accounts → list_all is_account accounts ≡ true
    → is_deep (chain_of_kind o chains (Impersonate parent accounts lifetime)) ≡ false
    → Joins chains (chain_of_kind o chains (Impersonate parent accounts lifetime))
impersonate_joins chains o parent accounts lifetime all next some formed deep =
    let there = not_deep (chain_of_kind o chains (Impersonate parent accounts lifetime)) deep in
    let from = map_some (Impersonated o accounts lifetime) (chain_at chains parent) there.0 there.1 in
    let good = good_at chains parent from.0 all from.1 in
    let low : (own from.0).number < o.number = omega (arith, good.number, chain_within chains parent from.0 from.1, next.number) in
    record {
      chain = there.0;
      is = there.1;
      good = record {
        number = sym (ap (λ (c : Chain). (own c).number) from.2) ∙ next.number;
        deep = there.2;
        form = subst IsGoodChain from.2 (next.form, some, formed, low, good.form);
      };
    }

pub delegate_joins : (chains : List (Option Chain)) (o : Own) (subject actor : ℕ) → AreGood 0 chains → IsNext chains o
    → is_deep (chain_of_kind o chains (Delegate subject actor)) ≡ false → Joins chains (chain_of_kind o chains (Delegate subject actor))
delegate_joins chains o subject actor all next deep =
    let there = not_deep (chain_of_kind o chains (Delegate subject actor)) deep in
    let from = delegated_some o (chain_at chains subject) (chain_at chains actor) there.0 there.1 in
    let first = good_at chains subject from.0 all from.2 in
    let second = good_at chains actor from.1 all from.3 in
    let first_low : (own from.0).number < o.number = omega (arith, first.number, chain_within chains subject from.0 from.2, next.number) in
    let second_low : (own from.1).number < o.number = omega (arith, second.number, chain_within chains actor from.1 from.3, next.number) in
    record {
      chain = there.0;
      is = there.1;
      good = record {
        number = sym (ap (λ (c : Chain). (own c).number) from.4) ∙ next.number;
        deep = there.2;
        form = subst IsGoodChain from.4 (next.form, first_low, second_low, first.form, second.form);
      };
    }

-- no link, or one that joins
abbrev pub JoinsAll : List (Option Chain) → Option Link → Type 0
JoinsAll chains None = ⊤
JoinsAll chains (Some link) = Joins chains (next_chain chains link)

-- the chain of a number stands at its own number
own_place : (chains : List (Option Chain)) (n : ℕ) (chain : Chain) → AreGood 0 chains → chain_at chains n ≡ Some chain
    → chain_at chains (own chain).number ≡ Some chain
own_place chains n chain all is = subst (λ (k : ℕ). chain_at chains k ≡ Some chain) (sym (good_at chains n chain all is).number) is

whole_next : (chains : List (Option Chain)) (o : Own) (kind : Kind) (chain : Chain) → AreGood 0 chains → chain_of_kind o chains kind ≡ Some chain
    → IsWhole chains chain
whole_next chains o (Federated source) chain all is =
    let same : Root o source ≡ chain = cc is in
    subst (IsWhole chains) same tt
whole_next chains o (Narrow parent boundary) chain all is =
    let from = map_some (Narrowed o boundary) (chain_at chains parent) chain is in
    subst (IsWhole chains) from.2 (own_place chains parent from.0 all from.1)
whole_next chains o (Impersonate parent accounts lifetime) chain all is =
    let from = map_some (Impersonated o accounts lifetime) (chain_at chains parent) chain is in
    subst (IsWhole chains) from.2 (own_place chains parent from.0 all from.1)
whole_next chains o (Delegate subject actor) chain all is =
    let from = delegated_some o (chain_at chains subject) (chain_at chains actor) chain is in
    subst (IsWhole chains) from.4 (own_place chains subject from.0 all from.2, own_place chains actor from.1 all from.3)

whole_more : (chains more : List (Option Chain)) (chain : Chain) → IsWhole chains chain → IsWhole (chains ++ more) chain
whole_more chains more (Root o source) is = tt
whole_more chains more (Narrowed o boundary parent) is = chain_at-more chains more (own parent).number parent is
whole_more chains more (Impersonated o accounts lifetime parent) is = chain_at-more chains more (own parent).number parent is
whole_more chains more (Delegated o subject actor) is =
    (chain_at-more chains more (own subject).number subject is.0, chain_at-more chains more (own actor).number actor is.1)

chain_either : (chains : List (Option Chain)) (x : Option Chain) (n : ℕ) (chain : Chain) → chain_at (chains ++ x ∷ []) n ≡ Some chain
    → (chain_at chains n ≡ Some chain) ⊎ (x ≡ Some chain)
chain_either [] x zero chain is = inr is
chain_either [] x (suc n) chain is = absurd (cc is)
chain_either (y ∷ chains) x zero chain is = inl is
chain_either (y ∷ chains) x (suc n) chain is = chain_either chains x n chain is

whole_by : (chains : List (Option Chain)) (o : Own) (kind : Kind) (chain : Chain) (n : ℕ) → AreSound chains
    → (chain_at chains n ≡ Some chain) ⊎ (chain_of_kind o chains kind ≡ Some chain)
    → IsWhole (chains ++ chain_of_kind o chains kind ∷ []) chain
whole_by chains o kind chain n are (inl is) = whole_more chains (chain_of_kind o chains kind ∷ []) chain (are.whole n chain is)
whole_by chains o kind chain n are (inr is) = whole_more chains (chain_of_kind o chains kind ∷ []) chain (whole_next chains o kind chain are.good is)

-- the chains with that of the next link behind them
sound_last : (chains : List (Option Chain)) (link : Link) → AreSound chains → Joins chains (next_chain chains link)
    → AreSound (chains ++ next_chain chains link ∷ [])
sound_last chains link are joins = record {
  good = good_last 0 chains (next_chain chains link) joins.chain joins.is are.good (subst (λ (k : ℕ). IsGood k joins.chain) (omega arith) joins.good);
  whole = λ n chain is. whole_by chains (own_at (length chains) link) link.kind chain n are (chain_either chains (next_chain chains link) n chain is);
}

pub sound_with : (links : List Link) (link : Option Link) → AreSound (chains_of links) → JoinsAll (chains_of links) link
    → AreSound (chains_of (with_link links link))
sound_with links None are joins = are
sound_with links (Some link) are joins = rw (chains_of-last links link) (sound_last (chains_of links) link are joins)
