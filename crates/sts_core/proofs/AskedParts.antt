-- What an exchange reads has its form: its boundary, and the words of the link that it goes on from.
use Rattle.std.proofs.Common.{◌≡◌, ◌<◌, ◌⊎◌, inl, inr, ℕ, suc, List, length, Bool, true, false, refl, ap, ◌∙◌, subst, arith}
use Rattle.std.proofs.lemmas.Grind.{common_steps}
use Rattle.std.specs.Prelude.{⊤, codes, IfOk, IfSome, Option, None, Some, Result, Ok, Err, option_and_then, option_map, nat_le, nat_lt, slice_get, if◌then◌else◌}
use Rattle.std.specs.List.{AllByRecursion}
use Rattle.std.specs.Str.{IsUtf8}
use Rattle.base_types.specs.Forms.{passing}
use Rattle.base_types.specs.Steps.{◌>>=◌, needed}
use Rattle.serde_json.specs.Data.{Data, null, boolean, number, string, array, object, Items, no_items, item}
use Rattle.serde_json.specs.Find.{get, as_array}
use Rattle.json_text.specs.Arrays.{count}
use Rattle.json_text.specs.Clean.{HasUtf8, ItemsHaveUtf8}
use Rattle.json_text.specs.Document.{document, text_at}
use Rattle.json_text.proofs.FoundTexts.{get_utf8, text_at_utf8}
use Rattle.json_text.proofs.ValueTexts.{read_document_utf8}
use Rattle.access_token.specs.Forms.{are_words}
use Rattle.boundary.specs.Boundaries.{Refusal, boundary_in, boundary_of, condition_at, condition_in, condition_of, refusal, resource_at, roles_at, rule_of, rules_from}
use Rattle.boundary.specs.Exact.{AreSaid, IsExactBoundary, IsSaid}
use Rattle.boundary.specs.declared.fault.BoundaryCause.TheVariants.{Shape, TooMany, Resource, Permission, Condition}
use Rattle.boundary.specs.declared.rules.Boundary.{Boundary}
use Rattle.boundary.proofs.Formed.{exact-from}
use Rattle.boundary.proofs.Options.{then-passing}
use Rattle.service_view.specs.View.{View}
use Rattle.links.specs.Authority.{is_live, live}
use Rattle.links.specs.Chain.{Chain, chains_of, joined}
use Rattle.links.specs.Issued.{is_text_of, issued_link}
use Rattle.links.specs.Licence.{unknown_role}
use Rattle.links.specs.Places.{place_of}
use Rattle.links.specs.State.{Content, chain}
use Rattle.links.proofs.Journals.{within_of_chain}
use Rattle.links.proofs.Places.{FoundAt, cases}
use Rattle.sts_core.specs.Asked.{as_rule, asked_boundary, boundary_under, known_boundary, live_issued, read_boundary, words_of}
use Rattle.exchange_form.specs.FormRules.{unless}
use Rattle.exchange_form.specs.Forms.{is_object, object_of}
use Rattle.exchange_form.specs.declared.exchange_rule.ExchangeRule.{ExchangeRule}
use Rattle.exchange_form.specs.declared.exchange_rule.ExchangeRule.TheVariants.{Options}
use Rattle.sts_core.proofs.LinkWords.{HaveWords}

-- ---- steps

pub anything : {X E : Type 0} (found : Result X E) → IfOk found (λ x. ⊤)
anything (Ok x) = tt
anything (Err failed) = tt

pub after_rule : {X : Type 0} (rule : Option ExchangeRule) (next : Result X ExchangeRule) (P : X → Type 0) → IfOk next P → IfOk (unless rule next) P
after_rule None next P is = is
after_rule (Some failed) next P is = tt

pub after_step : {X Y E : Type 0} (found : Result X E) (next : X → Result Y E) (P : X → Type 0) (Q : Y → Type 0)
    → IfOk found P → ((x : X) → P x → IfOk (next x) Q) → IfOk (found >>= next) Q
after_step (Ok x) next P Q is step = step x is
after_step (Err failed) next P Q is step = tt

pub where_needed : {X E : Type 0} (fault : E) (found : Option X) (P : X → Type 0) → IfSome found P → IfOk (needed fault found) P
where_needed fault None P is = tt
where_needed fault (Some x) P is = is

pub where_there : {X Y : Type 0} (found : Option X) (next : X → Option Y) (P : X → Type 0) (Q : Y → Type 0)
    → IfSome found P → ((x : X) → P x → IfSome (next x) Q) → IfSome (option_and_then next found) Q
where_there None next P Q is step = tt
where_there (Some x) next P Q is step = step x is

still : {X : Type 0} (x : X) (passes : Bool) (P : X → Type 0) → P x → IfSome (if passes then Some x else None) P
still x true P is = is
still x false P is = tt

pub still_formed : {X : Type 0} (test : X → Bool) (found : Option X) (P : X → Type 0) → IfSome found P → IfSome (option_and_then (passing test) found) P
still_formed test None P is = tt
still_formed test (Some x) P is = still x (test x) P is

-- ---- an object

pub object_utf8 : (text : List ℕ) → IfSome (object_of text) HasUtf8
object_utf8 text = still_formed is_object (document text) HasUtf8 (read_document_utf8 text)

-- ---- the boundary

said_by : (text : List ℕ) (found : _) → condition_in text ≡ found → IsUtf8 text → IfSome found IsSaid
said_by text found is utf8 = grind (arith, common_steps)

condition_by : (found : _) → IfSome found IsSaid → IfSome (option_map (λ e. Some e) found) (λ condition. IfSome condition IsSaid)
condition_by None said = tt
condition_by (Some e) said = said

condition_said : (found : Option Data) → IfSome found HasUtf8 → IfSome (condition_of found) (λ condition. IfSome condition IsSaid)
condition_said None utf8 = tt
condition_said (Some d) utf8 =
    condition_by _ (where_there (text_at (codes "expression") d) condition_in IsUtf8 IsSaid (text_at_utf8 (codes "expression") d utf8)
    (λ text is. said_by text (condition_in text) refl is))

rule_said : (place : ℕ) (d : Data) → HasUtf8 d → IfOk (rule_of place d) AreSaid
unfolding rule_of
rule_said place d utf8 =
    after_step (needed (refusal place Resource) (resource_at d)) _ (λ resource. ⊤) AreSaid (anything _) (λ resource there.
    after_step (needed (refusal place Permission) (roles_at d)) _ (λ roles. ⊤) AreSaid (anything _) (λ roles are.
    after_step (needed (refusal place Condition) (condition_at d)) _ (λ condition. IfSome condition IsSaid) AreSaid
    (where_needed (refusal place Condition) (condition_at d) (λ condition. IfSome condition IsSaid)
    (condition_said (get (codes "availabilityCondition") d) (get_utf8 (codes "availabilityCondition") d utf8))) (λ condition said. said)))

rules_said : (place : ℕ) (ds : Items) → ItemsHaveUtf8 ds → IfOk (rules_from place ds) (AllByRecursion AreSaid)
rules_said place no_items utf8 = tt
rules_said place (item d ds) utf8 =
    after_step (rule_of place d) _ AreSaid (AllByRecursion AreSaid) (rule_said place d utf8.0) (λ rule first.
    after_step (rules_from (suc place) ds) _ (AllByRecursion AreSaid) (AllByRecursion AreSaid) (rules_said (suc place) ds utf8.1) (λ rules rest. (first, rest)))

AreAllSaid : Boundary → Type 0
AreAllSaid boundary = AllByRecursion AreSaid boundary.rules

all_said : (ds : Items) → ItemsHaveUtf8 ds → IfOk (boundary_in ds) AreAllSaid
unfolding boundary_in AreAllSaid
all_said ds utf8 =
    let some = λ (found : Items). nat_lt 0 (count found) in
    let few = λ (found : Items). nat_le (count found) 10 in
    after_step (needed (refusal 0 Shape) (passing some ds)) _ ItemsHaveUtf8 AreAllSaid
    (where_needed (refusal 0 Shape) (passing some ds) ItemsHaveUtf8 (still ds (some ds) ItemsHaveUtf8 utf8)) (λ found is.
    after_step (needed (refusal 10 TooMany) (passing few found)) _ ItemsHaveUtf8 AreAllSaid
    (where_needed (refusal 10 TooMany) (passing few found) ItemsHaveUtf8 (still found (few found) ItemsHaveUtf8 is)) (λ most are.
    after_step (rules_from 0 most) _ (AllByRecursion AreSaid) AreAllSaid (rules_said 0 most are) (λ rules said. said)))

exact_by : (ds : Items) (found : Result Boundary Refusal) → boundary_in ds ≡ found → IfOk found AreAllSaid → IfOk found IsExactBoundary
unfolding AreAllSaid
exact_by ds (Ok boundary) is said = exact-from ds boundary is said
exact_by ds (Err failed) is said = tt

array_utf8 : (d : Data) → HasUtf8 d → IfSome (as_array d) ItemsHaveUtf8
array_utf8 null utf8 = tt
array_utf8 (boolean b) utf8 = tt
array_utf8 (number n) utf8 = tt
array_utf8 (string s) utf8 = tt
array_utf8 (array ds) utf8 = utf8
array_utf8 (object ms) utf8 = tt

exact : (d : Data) → HasUtf8 d → IfOk (boundary_of d) IsExactBoundary
unfolding boundary_of
exact d utf8 =
    let under = get (codes "accessBoundaryRules") d in
    after_step (needed (refusal 0 Shape) (option_and_then as_array under)) boundary_in ItemsHaveUtf8 IsExactBoundary
    (where_needed (refusal 0 Shape) (option_and_then as_array under) ItemsHaveUtf8
    (where_there under as_array HasUtf8 ItemsHaveUtf8 (get_utf8 (codes "accessBoundaryRules") d utf8) array_utf8))
    (λ ds are. exact_by ds (boundary_in ds) refl (all_said ds are))

-- the boundary is exact, if there is one
abbrev pub IsExactIfThere : Option Boundary → Type 0
IsExactIfThere boundary = IfSome boundary IsExactBoundary

read_exact : (found : Result Boundary Refusal) → IfOk found IsExactBoundary → IfOk (read_boundary found) IsExactBoundary
read_exact (Ok boundary) is = is
read_exact (Err refusal) is = tt

under_exact : (c : Content) (found : Option Data) → IfSome found HasUtf8 → IfOk (boundary_under c found) IsExactIfThere
under_exact c None utf8 = tt
under_exact c (Some d) utf8 =
    after_step (read_boundary (boundary_of d)) (known_boundary c) IsExactBoundary IsExactIfThere (read_exact (boundary_of d) (exact d utf8))
    (λ boundary is. after_rule (as_rule (unknown_role c boundary)) (Ok (Some boundary)) IsExactIfThere is)

pub boundary_exact : (c : Content) (options : Option (List ℕ)) → IfOk (asked_boundary c options) IsExactIfThere
unfolding asked_boundary
boundary_exact c None = tt
boundary_exact c (Some text) =
    after_step (needed Options (object_of text)) _ HasUtf8 IsExactIfThere
    (where_needed Options (object_of text) HasUtf8 (still_formed is_object (document text) HasUtf8 (read_document_utf8 text)))
    (λ d utf8. under_exact c (get (codes "accessBoundary") d) (get_utf8 (codes "accessBoundary") d utf8))

-- ---- the link that an access token was issued for

-- the chain of that number is there
pub record IsLinked (c : Content) (n : ℕ) : Type 0 where
  pub found : Chain
  pub is : chain c n ≡ Some found

linked_by : (c : Content) (text : List ℕ) (n : ℕ) (element : Option Chain) → slice_get (chains_of c.links) n ≡ Some element → is_text_of c text element ≡ true → IsLinked c n
linked_by c text n None there passes = absurd (cc passes)
linked_by c text n (Some found) there passes = record { found = found; is = ap joined there }

linked_at : (c : Content) (text : List ℕ) (n : ℕ) → issued_link c text ≡ Some n
    → (((k : ℕ) (x : Option Chain) → slice_get (chains_of c.links) k ≡ Some x → is_text_of c text x ≡ false) × (place_of (is_text_of c text) (chains_of c.links) ≡ None))
    ⊎ FoundAt (is_text_of c text) (chains_of c.links) (place_of (is_text_of c text) (chains_of c.links)) → IsLinked c n
unfolding issued_link
linked_at c text n is (inl (none, nowhere)) = absurd (cc (is, nowhere))
linked_at c text n is (inr found) =
    let same : found.number ≡ n = cc (found.is, is) in
    subst (IsLinked c) same (linked_by c text found.number found.element found.there found.passes)

pub linked : (c : Content) (text : List ℕ) (n : ℕ) → issued_link c text ≡ Some n → IsLinked c n
linked c text n is = linked_at c text n is (cases (is_text_of c text) (chains_of c.links))

pub issued_within : (c : Content) (text : List ℕ) (n : ℕ) → issued_link c text ≡ Some n → n < length c.links
issued_within c text n is = let at = linked c text n is in within_of_chain c n at.found at.is

-- the token of a live link was issued for it
pub live_number : (c : Content) (now : ℕ) (text : List ℕ) (n : ℕ) → live_issued c now text ≡ Some n → issued_link c text ≡ Some n
live_number c now text n is = (then-passing (λ (number : ℕ). is_live c.view (chain c number) now) (issued_link c text) n is).0

pub live_words : (c : Content) (now : ℕ) (text : List ℕ) (n : ℕ) → HaveWords c → live_issued c now text ≡ Some n → are_words (words_of (chain c n)) ≡ true
live_words c now text n words is =
    let at = linked c text n (live_number c now text n is) in
    ap (λ (found : Option Chain). are_words (words_of found)) at.is ∙ words n at.found at.is

is_live_by : (view : View) (found : Option Chain) (now : ℕ) (alive : Bool) → option_map (λ (one : Chain). live view one now) found ≡ Some alive
    → is_live view found now ≡ alive
is_live_by view None now alive is = absurd (cc is)
is_live_by view (Some one) now alive is = cc is

pub found_live : (c : Content) (now : ℕ) (text : List ℕ) (n : ℕ) → issued_link c text ≡ Some n
    → option_map (λ (one : Chain). live c.view one now) (chain c n) ≡ Some true → live_issued c now text ≡ Some n
found_live c now text n issued alive = rw (issued, is_live_by c.view (chain c n) now true alive) refl

pub found_ended : (c : Content) (now : ℕ) (text : List ℕ) (n : ℕ) → issued_link c text ≡ Some n
    → option_map (λ (one : Chain). live c.view one now) (chain c n) ≡ Some false → live_issued c now text ≡ None
found_ended c now text n issued ended = rw (issued, is_live_by c.view (chain c n) now false ended) refl
