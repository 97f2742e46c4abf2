-- A boundary that is read from texts of UTF-8 is exact.
use Rattle.std.proofs.Common.{◌≡◌, ℕ, suc, List, [], ◌∷◌, Option, None, Some, option_and_then, IfSome, Ok, sym, ap, subst, ◌∙◌, nat_lt, nat_le, codes}
use Rattle.std.specs.List.{AllByRecursion}
use Rattle.std.specs.Result.{result_ok}
use Rattle.std.specs.Str.{IsUtf8}
use Rattle.std.proofs.lemmas.Option.{same_Some, option_and_then_some}
use Rattle.serde_json.specs.Data.{Data, null, boolean, number, string, array, object, Items, no_items, item}
use Rattle.serde_json.specs.Find.{get, as_array}
use Rattle.base_types.specs.Forms.{passing}
use Rattle.base_types.specs.Steps.{needed}
use Rattle.json_text.specs.Arrays.{count}
use Rattle.json_text.specs.Clean.{HasUtf8, ItemsHaveUtf8}
use Rattle.json_text.specs.Document.{text_at}
use Rattle.json_text.proofs.FoundTexts.{get_utf8, text_at_utf8}
use Rattle.cel_expression.specs.declared.expression.Expression.{Expression}
use Rattle.cel_reader.proofs.ExpressionsFound.{expression_found}
use Rattle.cel_types.specs.declared.cel_type.CelType.{CelType}
use Rattle.allow_policy.specs.Conditions.{condition_names}
use Rattle.boundary.specs.declared.rules.Rule.{Rule}
use Rattle.boundary.specs.declared.rules.Boundary.{Boundary}
use Rattle.boundary.specs.declared.fault.BoundaryCause.TheVariants.{Shape, TooMany, Resource, Permission, Condition}
use Rattle.boundary.specs.Boundaries.{refusal, resource_at, roles_at, condition_in, condition_of, condition_at, rule_of, rules_from, boundary_in}
use Rattle.boundary.specs.Exact.{AreSaid, IsSaid, IsExactBoundary}
use Rattle.boundary.specs.Written.{listed_boundary}
use Rattle.boundary.proofs.Formed.{exact-from}
use Rattle.boundary.proofs.Options.{passing-is, option_map_some, bound, needed-is, result_ok-is}
use Rattle.command_texts.proofs.ReadParts.{if_there}

array_utf8 : (d : Data) → HasUtf8 d → IfSome (as_array d) ItemsHaveUtf8
array_utf8 null u = tt
array_utf8 (boolean b) u = tt
array_utf8 (number n) u = tt
array_utf8 (string s) u = tt
array_utf8 (array ds) u = u
array_utf8 (object ms) u = tt

said : (text : List ℕ) (e : Expression) → IsUtf8 text → condition_in text ≡ Some e → IsSaid e
said text e u read =
    let same : e.text ≡ text = (expression_found condition_names CelType.Bool text e read).text in
    record { utf8 = subst IsUtf8 (sym same) u; read = ap condition_in same ∙ read }

condition_said : (o : Option Data) (condition : Option Expression) → IfSome o HasUtf8 → condition_of o ≡ Some condition → IfSome condition IsSaid
condition_said None condition u read = subst (λ (c : Option Expression). IfSome c IsSaid) (same_Some None condition read) tt
condition_said (Some d) condition u read =
    option_map_some Some (option_and_then condition_in (text_at (codes "expression") d)) condition read (λ e there whole.
    subst (λ (c : Option Expression). IfSome c IsSaid) whole
    (option_and_then_some condition_in (text_at (codes "expression") d) e there (λ text text_is k.
    said text e (if_there IsUtf8 (text_at (codes "expression") d) text (text_at_utf8 (codes "expression") d u) text_is) k)))

rule_said : (n : ℕ) (d : Data) (rule : Rule) → HasUtf8 d → rule_of n d ≡ Ok rule → AreSaid rule
unfolding rule_of
rule_said n d rule u h =
    bound _ (needed (refusal n Resource) (resource_at d)) rule h (λ resource resource_is h.
    bound _ (needed (refusal n Permission) (roles_at d)) rule h (λ roles roles_is h.
    bound _ (needed (refusal n Condition) (condition_at d)) rule h (λ condition condition_is h.
    let same : record { resource = resource; roles = roles; condition = condition } ≡ rule = cc in
    let is = condition_said (get (codes "availabilityCondition") d) condition (get_utf8 (codes "availabilityCondition") d u) (needed-is _ _ condition condition_is) in
    subst AreSaid same is)))

rules_said : (n : ℕ) (ds : Items) (rules : List Rule) → ItemsHaveUtf8 ds → rules_from n ds ≡ Ok rules → AllByRecursion AreSaid rules
rules_said n no_items rules u h = let same : [] ≡ rules = cc in subst (AllByRecursion AreSaid) same tt
rules_said n (item d ds) rules u h =
    bound _ (rule_of n d) rules h (λ rule there k.
    bound _ (rules_from (suc n) ds) rules k (λ more rest whole.
    let same : rule ∷ more ≡ rules = cc in
    subst (AllByRecursion AreSaid) same (rule_said n d rule u.0 there, rules_said (suc n) ds more u.1 rest)))

rules_of_boundary : (ds : Items) (boundary : Boundary) → boundary_in ds ≡ Ok boundary → rules_from 0 ds ≡ Ok boundary.rules
unfolding boundary_in
rules_of_boundary ds boundary h =
    bound _ (needed (refusal 0 Shape) (passing (λ found. nat_lt 0 (count found)) ds)) boundary h (λ some some_is h.
    bound _ (needed (refusal 10 TooMany) (passing (λ found. nat_le (count found) 10) some)) boundary h (λ few few_is h.
    bound _ (rules_from 0 few) boundary h (λ rules rules_are h.
    let there = passing-is (λ (found : Items). nat_lt 0 (count found)) ds some (needed-is _ _ some some_is) in
    let most = passing-is (λ (found : Items). nat_le (count found) 10) some few (needed-is _ _ few few_is) in
    let same : record { rules = rules } ≡ boundary = cc in
    ap (rules_from 0) (there.0 ∙ most.0) ∙ rules_are ∙ ap (λ (b : Boundary). Ok b.rules) same)))

pub boundary_exact : (d : Data) (boundary : Boundary) → HasUtf8 d → listed_boundary d ≡ Some boundary → IsExactBoundary boundary
unfolding listed_boundary
boundary_exact d boundary u h =
    option_and_then_some (λ ds. result_ok (boundary_in ds)) (as_array d) boundary h (λ ds there k.
    let read = result_ok-is (boundary_in ds) boundary k in
    let utf8 = if_there ItemsHaveUtf8 (as_array d) ds (array_utf8 d u) there in
    exact-from ds boundary read (rules_said 0 ds boundary.rules utf8 (rules_of_boundary ds boundary read)))
