-- A written boundary: its tree is clean, not deep and without floats, and its texts are UTF-8.
use Rattle.std.proofs.Common.{◌≡◌, ◌≤◌, ◌<◌, ◌++◌, ℕ, Bool, true, false, ◌&&◌, nat_lt, List, [], ◌∷◌, length, flat_map, Option, None, Some, option_map, IfSome, refl, sym, subst, arith, codes}
use Rattle.std.specs.List.{AllByRecursion, list_all}
use Rattle.std.specs.Str.{IsUtf8}
use Rattle.std.proofs.lemmas.Bool.{and_parts}
use Rattle.std.proofs.lemmas.Bool.Decides.{nat_tests, Decides-ltb}
use Rattle.std.proofs.lemmas.List.Sums.{AllPass-from_list_all}
use Rattle.std.proofs.lemmas.Str.{IsUtf8-append, IsUtf8-nil, IsUtf8-from_ascii}
use Rattle.std.proofs.lemmas.Str.Ascii.{IsAscii-from_all}
use Rattle.serde_json.specs.Data.{string, array, member, no_members, depth}
use Rattle.serde_json.specs.Written.{has_float}
use Rattle.json_text.specs.Clean.{IsClean, HasUtf8, ItemsHaveUtf8}
use Rattle.cel_expression.specs.declared.expression.Expression.{Expression}
use Rattle.iam_names.specs.Forms.{is_resource, is_role, is_role_byte, is_host_byte}
use Rattle.iam_names.specs.Joined.{IsMadeOf, is_segment_byte}
use Rattle.iam_names.proofs.JoinedLemmas.{resource_joined, role_joined}
use Rattle.boundary.specs.declared.rules.Rule.{Rule}
use Rattle.boundary.specs.declared.rules.Boundary.{Boundary}
use Rattle.boundary.specs.Exact.{is_count, is_rule, AreSaid, IsSaid, IsExactBoundary}
use Rattle.boundary.specs.Written.{items, role_data, condition_data, rule_data, boundary_data}
use Rattle.boundary.proofs.WrittenParts.{optional_clean, items_clean, deep, optional_deep, items_deep, optional_floatless, items_floatless, optional_utf8}

-- ---- clean

condition_clean : (condition : Option Expression) → IfSome (option_map condition_data condition) IsClean
condition_clean None = tt
condition_clean (Some e) = (tt, tt, tt)

rule_clean : (rule : Rule) → IsClean (rule_data rule)
unfolding rule_data
rule_clean rule =
    optional_clean (codes "availabilityCondition") (option_map condition_data rule.condition)
    (member (codes "availablePermissions") (array (items role_data rule.roles)) (member (codes "availableResource") (string rule.resource) no_members))
    (condition_clean rule.condition)
    (items_clean role_data (λ role. tt) rule.roles, (tt, tt, tt), (refl, tt))
    (refl, (refl, tt))

pub boundary_clean : (boundary : Boundary) → IsClean (boundary_data boundary)
unfolding boundary_data
boundary_clean boundary = items_clean rule_data rule_clean boundary.rules

-- ---- not deep

condition_deep : (condition : Option Expression) → deep (option_map condition_data condition) ≤ 1
unfolding deep
condition_deep None = omega arith
condition_deep (Some e) = omega arith

rule_deep : (rule : Rule) → depth (rule_data rule) ≤ 2
unfolding rule_data
rule_deep rule = omega (
  arith,
  optional_deep (codes "availabilityCondition") (option_map condition_data rule.condition)
      (member (codes "availablePermissions") (array (items role_data rule.roles)) (member (codes "availableResource") (string rule.resource) no_members)),
  condition_deep rule.condition,
  items_deep role_data 0 (λ role. omega arith) rule.roles,
)

pub boundary_deep : (boundary : Boundary) → depth (boundary_data boundary) ≤ 3
unfolding boundary_data
boundary_deep boundary = omega (arith, items_deep rule_data 2 rule_deep boundary.rules)

-- ---- without floats

condition_floatless : (condition : Option Expression) → IfSome (option_map condition_data condition) (λ d. has_float d ≡ false)
condition_floatless None = tt
condition_floatless (Some e) = refl

rule_floatless : (rule : Rule) → has_float (rule_data rule) ≡ false
unfolding rule_data
rule_floatless rule =
    optional_floatless (codes "availabilityCondition") (option_map condition_data rule.condition)
    (member (codes "availablePermissions") (array (items role_data rule.roles)) (member (codes "availableResource") (string rule.resource) no_members))
    (condition_floatless rule.condition)
    (rw (items_floatless role_data (λ role. refl) rule.roles) refl)

pub boundary_floatless : (boundary : Boundary) → has_float (boundary_data boundary) ≡ false
unfolding boundary_data
boundary_floatless boundary = items_floatless rule_data rule_floatless boundary.rules

-- ---- UTF-8

low_utf8 : (test : ℕ → Bool) → ((byte : ℕ) → test byte ≡ true → byte < 128) → (text : List ℕ) → list_all test text ≡ true → IsUtf8 text
low_utf8 test low text all = IsUtf8-from_ascii text (IsAscii-from_all text (λ k d within. low _ (AllPass-from_list_all test text all k d within)))

name_utf8 : (name : List ℕ) → list_all (λ byte. nat_lt byte 128) name ≡ true → IsUtf8 name
name_utf8 name low = low_utf8 (λ byte. nat_lt byte 128) (λ byte h. (Decides-ltb byte 128).0 h) name low

role_low : (byte : ℕ) → is_role_byte byte ≡ true → byte < 128
role_low byte h = grind (arith, nat_tests)

host_low : (byte : ℕ) → is_host_byte byte ≡ true → byte < 128
host_low byte h = grind (arith, nat_tests)

segment_low : (byte : ℕ) → is_segment_byte byte ≡ true → byte < 128
segment_low byte h = grind (arith, nat_tests)

role_utf8 : (role : List ℕ) → is_role role ≡ true → IsUtf8 role
role_utf8 role is =
    let parts = (role_joined role).0 is in
    let id = low_utf8 is_role_byte role_low parts.id parts.id_is.bytes in
    subst IsUtf8 (sym parts.text_is) (IsUtf8-append (codes "roles/") parts.id (name_utf8 (codes "roles/") refl) id)

segments_utf8 : (segments : List (List ℕ)) → AllByRecursion (IsMadeOf is_segment_byte) segments
    → IsUtf8 (flat_map (λ segment. codes "/" ++ segment) segments)
segments_utf8 [] all = IsUtf8-nil
segments_utf8 (segment ∷ segments) all =
    IsUtf8-append (codes "/" ++ segment) _
    (IsUtf8-append (codes "/") segment (name_utf8 (codes "/") refl) (low_utf8 is_segment_byte segment_low segment all.0.bytes))
    (segments_utf8 segments all.1)

resource_utf8 : (resource : List ℕ) → is_resource resource ≡ true → IsUtf8 resource
resource_utf8 resource is =
    let parts = (resource_joined resource).0 is in
    let path = IsUtf8-append parts.host _ (low_utf8 is_host_byte host_low parts.host parts.host_is.bytes) (segments_utf8 parts.segments parts.segments_are) in
    subst IsUtf8 (sym parts.text_is) (IsUtf8-append (codes "//") _ (name_utf8 (codes "//") refl) path)

roles_utf8 : (roles : List (List ℕ)) → list_all is_role roles ≡ true → ItemsHaveUtf8 (items role_data roles)
roles_utf8 [] all = tt
roles_utf8 (role ∷ roles) all =
    let parts = and_parts (is_role role) (list_all is_role roles) all in
    (IsUtf8-append (codes "inRole:") role (name_utf8 (codes "inRole:") refl) (role_utf8 role parts.0), roles_utf8 roles parts.1)

condition_utf8 : (condition : Option Expression) → IfSome condition IsSaid → IfSome (option_map condition_data condition) HasUtf8
condition_utf8 None said = tt
condition_utf8 (Some e) said = (name_utf8 (codes "expression") refl, said.utf8, tt)

rule_utf8 : (rule : Rule) → is_rule rule ≡ true → AreSaid rule → HasUtf8 (rule_data rule)
unfolding rule_data
rule_utf8 rule is said =
    let resource = and_parts (is_resource rule.resource) (is_count (length rule.roles) && list_all is_role rule.roles) is in
    let roles = and_parts (is_count (length rule.roles)) (list_all is_role rule.roles) resource.1 in
    optional_utf8 (codes "availabilityCondition") (option_map condition_data rule.condition)
    (member (codes "availablePermissions") (array (items role_data rule.roles)) (member (codes "availableResource") (string rule.resource) no_members))
    (name_utf8 (codes "availabilityCondition") refl)
    (condition_utf8 rule.condition said) (
      name_utf8 (codes "availablePermissions") refl,
      roles_utf8 rule.roles roles.1,
      (name_utf8 (codes "availableResource") refl, resource_utf8 rule.resource resource.0, tt),
    )

rules_utf8 : (rules : List Rule) → list_all is_rule rules ≡ true → AllByRecursion AreSaid rules → ItemsHaveUtf8 (items rule_data rules)
rules_utf8 [] all said = tt
rules_utf8 (rule ∷ rules) all said =
    let parts = and_parts (is_rule rule) (list_all is_rule rules) all in
    (rule_utf8 rule parts.0 said.0, rules_utf8 rules parts.1 said.1)

pub boundary_utf8 : (boundary : Boundary) → IsExactBoundary boundary → HasUtf8 (boundary_data boundary)
unfolding boundary_data
boundary_utf8 boundary is =
    let parts = and_parts (is_count (length boundary.rules)) (list_all is_rule boundary.rules) is.form in
    rules_utf8 boundary.rules parts.1 is.conditions
