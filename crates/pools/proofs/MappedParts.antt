-- What is mapped is UTF-8 and isn't empty, and its attributes have the mapping's names.
use Rattle.std.proofs.Common.{◌≡◌, ℕ, ◌≤◌, Bool, true, false, nat_lt, if◌then◌else◌, List, [], ◌∷◌, length, map, Option, None, Some, Result, Ok, Err, refl, ap, ◌∙◌, subst, option_map, IfSome, IfOk, arith}
use Rattle.std.specs.List.{AllByRecursion}
use Rattle.std.specs.Str.{IsUtf8, is_utf8}
use Rattle.std.proofs.lemmas.Bool.{and_parts, ltb-true}
use Rattle.std.proofs.lemmas.Str.{IsUtf8-from_is_utf8}
use Rattle.base_types.specs.Steps.{◌>>=◌, needed}
use Rattle.cel_values.specs.declared.value.Value.{Value, out-Value}
use Rattle.cel_values.specs.declared.value.Value.TheOpen.{Value-F}
use Rattle.cel_builtins.specs.Outcomes.{Outcome, Shape}
use Rattle.cel_eval.specs.Denotation.{Env, denotation}
use Rattle.cel_expression.specs.declared.expression.Expression.{Expression}
use Rattle.iam_names.specs.declared.identity.Identity.{Identity}
use Rattle.pools.specs.declared.fault.MapFault.{MapFault}
use Rattle.pools.specs.declared.fault.MapFault.TheVariants as fault
use Rattle.pools.specs.declared.mapping.Mapping.{Mapping}
use Rattle.wif_claims.specs.declared.claims.Claims.{Claims}
use Rattle.pools.specs.Providers.{ProviderView}
use Rattle.pools.specs.Environments.{mapping_env, condition_env}
use Rattle.pools.specs.Answers.{passed}
use Rattle.pools.specs.Lengths.{first_long}
use Rattle.pools.specs.Admission.{first_claims_fault, condition_fault, identity_in, identity_of}
use Rattle.pools.specs.Mapped.{is_text, text_of_shape, text_of_value, text_of, all_there, texts_of_shape, texts_of, groups_of, attribute_of, attributes_of, mapped}

-- a first step that went well, and what came of it
pub bound-ok : {X Y E : Type 0} (r : Result X E) (next : X → Result Y E) (y : Y) → (r >>= next) ≡ Ok y → (x : X) × (r ≡ Ok x) × (next x ≡ Ok y)
bound-ok (Ok x) next y e = (x, refl, e)
bound-ok (Err fault) next y e = cc

needed-ok : {X E : Type 0} (fault : E) (o : Option X) (x : X) → needed fault o ≡ Ok x → o ≡ Some x
needed-ok fault None x e = cc
needed-ok fault (Some y) x e = cc

-- UTF-8 that has a byte at least
record IsText (text : List ℕ) : Type 0 where
  some : 1 ≤ length text
  utf8 : IsUtf8 text

tested-IsText : (bytes : List ℕ) → is_text bytes ≡ true → IsText bytes
tested-IsText bytes e =
    let both = and_parts (nat_lt 0 (length bytes)) (is_utf8 bytes) e in
    record { some = omega (arith, ltb-true 0 (length bytes) both.0); utf8 = IsUtf8-from_is_utf8 bytes both.1 }

passed-test : {X : Type 0} (passes : Bool) (x y : X) → (if passes then Some x else None) ≡ Some y → (passes ≡ true) × (x ≡ y)
passed-test true x y e = (refl, cc)
passed-test false x y e = cc

shape-some : (shape : Shape) (text : List ℕ) → text_of_shape shape ≡ Some text → IsText text
shape-some (Value-F.Text bytes) text e =
    let passes = passed-test (is_text bytes) bytes text e in
    subst IsText passes.1 (tested-IsText bytes passes.0)
shape-some Value-F.Null text e = cc
shape-some (Value-F.Bool b) text e = cc
shape-some (Value-F.Int z) text e = cc
shape-some (Value-F.List vs) text e = cc
shape-some (Value-F.Map es) text e = cc
shape-some (Value-F.Time z) text e = cc
shape-some (Value-F.Span z) text e = cc
shape-some Value-F.Opaque text e = cc

text-some : (outcome : Outcome) (text : List ℕ) → text_of outcome ≡ Some text → IsText text
text-some (Ok v) text e = shape-some (out-Value v) text e
text-some (Err fault) text e = cc

with-first : (x : List ℕ) (o : Option (List (List ℕ))) (texts : List (List ℕ)) → IsText x → ((rest : List (List ℕ)) → o ≡ Some rest → AllByRecursion IsText rest)
    → option_map (λ xs. x ∷ xs) o ≡ Some texts → AllByRecursion IsText texts
with-first x None texts first behind e = cc
with-first x (Some rest) texts first behind e = subst (λ (o : Option (List (List ℕ))). IfSome o (AllByRecursion IsText)) e (first, behind rest refl)

all-some : (found : List (Option (List ℕ))) (texts : List (List ℕ)) → AllByRecursion (λ o. (text : List ℕ) → o ≡ Some text → IsText text) found → all_there found ≡ Some texts
    → AllByRecursion IsText texts
all-some [] [] each e = tt
all-some [] (text ∷ texts) each e = cc
all-some (None ∷ found) texts each e = cc
all-some (Some x ∷ found) texts each e = with-first x (all_there found) texts (each.0 x refl) (λ rest is. all-some found rest each.1 is) e

values-some : (vs : List Value) → AllByRecursion (λ o. (text : List ℕ) → o ≡ Some text → IsText text) (map text_of_value vs)
values-some [] = tt
values-some (v ∷ vs) = (λ text e. shape-some (out-Value v) text e, values-some vs)

texts-some : (shape : Shape) (texts : List (List ℕ)) → texts_of_shape shape ≡ Some texts → AllByRecursion IsText texts
texts-some (Value-F.List vs) texts e = all-some (map text_of_value vs) texts (values-some vs) e
texts-some (Value-F.Text t) texts e = cc
texts-some Value-F.Null texts e = cc
texts-some (Value-F.Bool b) texts e = cc
texts-some (Value-F.Int z) texts e = cc
texts-some (Value-F.Map es) texts e = cc
texts-some (Value-F.Time z) texts e = cc
texts-some (Value-F.Span z) texts e = cc
texts-some Value-F.Opaque texts e = cc

meant-some : (outcome : Outcome) (texts : List (List ℕ)) → texts_of outcome ≡ Some texts → AllByRecursion IsText texts
meant-some (Ok v) texts e = texts-some (out-Value v) texts e
meant-some (Err fault) texts e = cc

groups-some : (groups : Option Expression) (env : Env) (texts : List (List ℕ)) → groups_of groups env ≡ Some texts → AllByRecursion IsText texts
groups-some None env [] e = tt
groups-some None env (text ∷ texts) e = cc
groups-some (Some groups) env texts e = meant-some (denotation groups.tree env) texts e

abbrev HasText : List ℕ × List ℕ → Type 0
HasText attribute = IsText attribute.1

-- attributes that have texts, under these names
abbrev AreUnder : List (List ℕ) → List (List ℕ × List ℕ) → Type 0
AreUnder names attributes = AllByRecursion HasText attributes × (map (λ a. a.0) attributes ≡ names)

attributes-some : (rows : List (List ℕ × Expression)) (env : Env) (texts : List (List ℕ × List ℕ)) → attributes_of rows env ≡ Ok texts → AreUnder (map (λ row. row.0) rows) texts
attributes-some [] env [] e = (tt, refl)
attributes-some [] env (text ∷ texts) e = cc
attributes-some (row ∷ rows) env texts e =
    let first = bound-ok (attribute_of row.0 row.1 env) (λ text. attributes_of rows env >>= λ more. Ok ((row.0, text) ∷ more)) texts e in
    let rest = bound-ok (attributes_of rows env) (λ more. Ok ((row.0, first.0) ∷ more)) texts first.2 in
    let found = needed-ok (fault.Attribute row.0) (text_of (denotation row.1.tree env)) first.0 first.1 in
    let behind = attributes-some rows env rest.0 rest.1 in
    subst (λ (r : Result (List (List ℕ × List ℕ)) MapFault). IfOk r (AreUnder (row.0 ∷ map (λ row. row.0) rows))) rest.2
    ((text-some (denotation row.1.tree env) first.0 found, behind.0), ap (λ names. row.0 ∷ names) behind.1)

-- ---- the identity

-- The parts of an identity that is mapped are UTF-8 and have a byte at least, and its attributes have the mapping's names.
pub record HasParts (mapping : Mapping) (who : Identity) : Type 0 where
  pub subject : 1 ≤ length who.subject
  pub groups : AllByRecursion (λ g. 1 ≤ length g) who.groups
  pub attributes : AllByRecursion (λ a. 1 ≤ length a.1) who.attributes
  pub subject_utf8 : IsUtf8 who.subject
  pub groups_utf8 : AllByRecursion IsUtf8 who.groups
  pub attributes_utf8 : AllByRecursion (λ a. IsUtf8 a.1) who.attributes
  pub names : map (λ a. a.0) who.attributes ≡ map (λ row. row.0) mapping.attributes

all-also : {A : Type 0} (P Q : A → Type 0) → ((x : A) → P x → Q x) → (xs : List A) → AllByRecursion P xs → AllByRecursion Q xs
all-also P Q also [] all = tt
all-also P Q also (x ∷ xs) all = (also x all.0, all-also P Q also xs all.1)

abbrev made : List ℕ → List (List ℕ) → List (List ℕ × List ℕ) → Identity
made subject groups attributes = record { subject = subject; groups = groups; attributes = attributes }

-- an identity as the answer
abbrev answer : Identity → Result Identity MapFault
answer who = Ok who

made-HasParts : (mapping : Mapping) (subject : List ℕ) (groups : List (List ℕ)) (attributes : List (List ℕ × List ℕ))
    → IsText subject → AllByRecursion IsText groups → AreUnder (map (λ row. row.0) mapping.attributes) attributes → HasParts mapping (made subject groups attributes)
made-HasParts mapping subject groups attributes s g a = record {
  subject = s.some;
  groups = all-also IsText (λ g. 1 ≤ length g) (λ g is. is.some) groups g;
  attributes = all-also HasText (λ a. 1 ≤ length a.1) (λ a is. is.some) attributes a.0;
  subject_utf8 = s.utf8;
  groups_utf8 = all-also IsText IsUtf8 (λ g is. is.utf8) groups g;
  attributes_utf8 = all-also HasText (λ a. IsUtf8 a.1) (λ a is. is.utf8) attributes a.0;
  names = a.1;
}

parts-HasParts : (mapping : Mapping) (env : Env) (subject : List ℕ) (groups : List (List ℕ)) (attributes : List (List ℕ × List ℕ)) (who : Identity)
    → needed fault.Subject (text_of (denotation mapping.subject.tree env)) ≡ Ok subject → needed fault.Groups (groups_of mapping.groups env) ≡ Ok groups
    → attributes_of mapping.attributes env ≡ Ok attributes
    → answer (made subject groups attributes) ≡ answer who → HasParts mapping who
parts-HasParts mapping env subject groups attributes who s g a e =
    let subject_is = text-some (denotation mapping.subject.tree env) subject (needed-ok fault.Subject (text_of (denotation mapping.subject.tree env)) subject s) in
    let groups_are = groups-some mapping.groups env groups (needed-ok fault.Groups (groups_of mapping.groups env) groups g) in
    let attributes_are = attributes-some mapping.attributes env attributes a in
    subst (λ (r : Result Identity MapFault). IfOk r (HasParts mapping)) e (made-HasParts mapping subject groups attributes subject_is groups_are attributes_are)

pub mapped-HasParts : (mapping : Mapping) (env : Env) (who : Identity) → mapped mapping env ≡ Ok who → HasParts mapping who
unfolding mapped
mapped-HasParts mapping env who e =
    let behind_subject = λ (subject : List ℕ). needed fault.Groups (groups_of mapping.groups env) >>= λ groups.
    attributes_of mapping.attributes env >>= λ attributes. Ok (record { subject = subject; groups = groups; attributes = attributes }) in
    let subject = bound-ok (needed fault.Subject (text_of (denotation mapping.subject.tree env))) behind_subject who e in
    let behind_groups = λ (groups : List (List ℕ)). attributes_of mapping.attributes env >>= λ attributes. Ok (record { subject = subject.0; groups = groups; attributes = attributes }) in
    let groups = bound-ok (needed fault.Groups (groups_of mapping.groups env)) behind_groups who subject.2 in
    let behind_attributes = λ (attributes : List (List ℕ × List ℕ)). Ok (record { subject = subject.0; groups = groups.0; attributes = attributes }) in
    let attributes = bound-ok (attributes_of mapping.attributes env) behind_attributes who groups.2 in
    parts-HasParts mapping env subject.0 groups.0 attributes.0 who subject.1 groups.1 attributes.1 attributes.2

-- what a provider admits is what its mapping gives
pub admitted-mapped : (provider : ProviderView) (claims : Claims) (now : ℕ) (who : Identity) → identity_of provider claims now ≡ Ok who → mapped provider.mapping (mapping_env claims) ≡ Ok who
unfolding identity_of identity_in
admitted-mapped provider claims now who e =
    let live = bound-ok (passed (first_claims_fault provider claims now)) (λ _. identity_in provider claims) who e in
    let condition_of = λ (w : Identity). passed (condition_fault provider.condition (condition_env claims w)) >>= λ _. Ok w in
    let identity = bound-ok (mapped provider.mapping (mapping_env claims)) (λ w. passed (first_long w) >>= λ _. condition_of w) who live.2 in
    let sized = bound-ok (passed (first_long identity.0)) (λ _. condition_of identity.0) who identity.2 in
    let condition = bound-ok (passed (condition_fault provider.condition (condition_env claims identity.0))) (λ _. Ok identity.0) who sized.2 in
    identity.1 ∙ condition.2

pub admitted_parts : (provider : ProviderView) (claims : Claims) (now : ℕ) (who : Identity) → identity_of provider claims now ≡ Ok who → HasParts provider.mapping who
admitted_parts provider claims now who e = mapped-HasParts provider.mapping (mapping_env claims) who (admitted-mapped provider claims now who e)
