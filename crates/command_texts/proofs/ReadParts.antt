-- What the parts of an object in UTF-8 say.
use Rattle.std.proofs.Common.{◌≡◌, ℕ, zero, suc, ◌<◌, ◌≤◌, Bool, true, false, ◌&&◌, cond, List, [], ◌∷◌, ◌++◌, length, Option, None, Some, option_map, option_and_then, IfSome, Ordering, Less, Equal, Greater, nat_cmp, nat_le, refl, sym, ap, ◌∙◌, subst, arith, ⊎_elim}
use Rattle.std.specs.List.{AllByRecursion, list_all}
use Rattle.std.specs.Ordering.{match_ordering}
use Rattle.std.specs.Cmp.Lexicographic.{slice_cmp}
use Rattle.std.specs.Str.{IsUtf8}
use Rattle.std.proofs.Math.Utf8.{scalar, scalars, encode, encodes, scalar_cases}
use Rattle.std.proofs.lemmas.Bool.{and_parts, leb-true}
use Rattle.std.proofs.lemmas.Bool.Decides.{Decides-ltb}
use Rattle.std.proofs.lemmas.Option.{same_Some, cond_some, option_and_then_some}
use Rattle.base64.specs.GeneralPurpose.{IsBytes}
use Rattle.serde_json.specs.Data.{Data, null, boolean, number, string, array, object, Items, no_items, item, Members, no_members, member}
use Rattle.serde_json.specs.Find.{get, get_member, as_str, as_array, as_object}
use Rattle.json_text.specs.Arrays.{each, count, short_array, short_list}
use Rattle.json_text.specs.Clean.{HasUtf8, ItemsHaveUtf8, MembersHaveUtf8}
use Rattle.json_text.specs.Document.{text_at}
use Rattle.cel_values.specs.declared.expr.Expr.{Expr}
use Rattle.cel_types.specs.Rules.{Decls}
use Rattle.cel_types.specs.declared.cel_type.CelType.{CelType}
use Rattle.cel_expression.specs.declared.expression.Expression.{Expression}
use Rattle.cel_reader.specs.Expressions.{expression, expression_of, typed_tree}
use Rattle.boundary.proofs.Options.{then-passing, option_map_some}
use Rattle.command_texts.specs.Exact.{IsSaidUnder}

-- ---- tests

pub joined : (a b : Bool) → a ≡ true → b ≡ true → (a && b) ≡ true
joined true b is h = h
joined false b is h = cc

pub all_pass : {A : Type 0} (test : A → Bool) (xs : List A) → AllByRecursion (λ x. test x ≡ true) xs → list_all test xs ≡ true
all_pass test [] all = refl
all_pass test (x ∷ xs) all = joined (test x) (list_all test xs) all.0 (all_pass test xs all.1)

pub each_passes : {A : Type 0} (test : A → Bool) (xs : List A) → list_all test xs ≡ true → AllByRecursion (λ x. test x ≡ true) xs
each_passes test [] all = tt
each_passes test (x ∷ xs) all = let parts = and_parts (test x) (list_all test xs) all in (parts.0, each_passes test xs parts.1)

-- ---- UTF-8

-- what is there has what all of them have
pub if_there : {A : Type 0} (P : A → Type 0) (o : Option A) (x : A) → IfSome o P → o ≡ Some x → P x
if_there P o x h is = let there : IfSome (Some x) P = subst (λ (p : Option _). IfSome p P) is h in there

found_utf8 : (o : Ordering) (rest : Option Data) (d : Data) → IfSome rest HasUtf8 → HasUtf8 d → IfSome (match_ordering o rest (Some d) rest) HasUtf8
found_utf8 Less rest d r h = r
found_utf8 Equal rest d r h = h
found_utf8 Greater rest d r h = r

pub member_utf8 : (k : List ℕ) (ms : Members) → MembersHaveUtf8 ms → IfSome (get_member k ms) HasUtf8
member_utf8 k no_members all = tt
member_utf8 k (member l d ms) all = found_utf8 (slice_cmp nat_cmp k l) (get_member k ms) d (member_utf8 k ms all.2) all.1

pub get_utf8 : (k : List ℕ) (d : Data) → HasUtf8 d → IfSome (get k d) HasUtf8
get_utf8 k null h = tt
get_utf8 k (boolean b) h = tt
get_utf8 k (number n) h = tt
get_utf8 k (string s) h = tt
get_utf8 k (array ds) h = tt
get_utf8 k (object ms) h = member_utf8 k ms h

pub str_utf8 : (d : Data) → HasUtf8 d → IfSome (as_str d) IsUtf8
str_utf8 null h = tt
str_utf8 (boolean b) h = tt
str_utf8 (number n) h = tt
str_utf8 (string s) h = h
str_utf8 (array ds) h = tt
str_utf8 (object ms) h = tt

array_utf8 : (d : Data) → HasUtf8 d → IfSome (as_array d) ItemsHaveUtf8
array_utf8 null h = tt
array_utf8 (boolean b) h = tt
array_utf8 (number n) h = tt
array_utf8 (string s) h = tt
array_utf8 (array ds) h = h
array_utf8 (object ms) h = tt

pub object_utf8 : (d : Data) → HasUtf8 d → IfSome (as_object d) MembersHaveUtf8
object_utf8 null h = tt
object_utf8 (boolean b) h = tt
object_utf8 (number n) h = tt
object_utf8 (string s) h = tt
object_utf8 (array ds) h = tt
object_utf8 (object ms) h = h

then_utf8 : (o : Option Data) → IfSome o HasUtf8 → IfSome (option_and_then as_str o) IsUtf8
then_utf8 None h = tt
then_utf8 (Some d) h = str_utf8 d h

pub text_utf8 : (k : List ℕ) (d : Data) → HasUtf8 d → IfSome (text_at k d) IsUtf8
text_utf8 k d h = then_utf8 (get k d) (get_utf8 k d h)

-- ---- the bytes of a text

abbrev AreBytes : List ℕ → Type 0
AreBytes bytes = AllByRecursion (λ byte. byte < 256) bytes

chosen : (b : Bool) (xs ys : List ℕ) → (b ≡ true → AreBytes xs) → AreBytes ys → AreBytes (cond b xs ys)
chosen true xs ys h k = h refl
chosen false xs ys h k = k

encode_bytes : (c : ℕ) → c < 1114112 → AreBytes (encode c)
unfolding encode
encode_bytes c h =
    chosen _ _ _ (λ is. let low = (Decides-ltb c 128).0 is in (omega (arith, low), tt))
    (chosen _ _ _ (λ is. let low = (Decides-ltb c 2048).0 is in (omega (arith, low), (omega arith, tt)))
    (chosen _ _ _ (λ is. let low = (Decides-ltb c 65536).0 is in (omega (arith, low), (omega arith, (omega arith, tt))))
    (omega (arith, h), (omega arith, (omega arith, (omega arith, tt))))))

all_append : (xs ys : List ℕ) → AreBytes xs → AreBytes ys → AreBytes (xs ++ ys)
all_append [] ys all more = more
all_append (x ∷ xs) ys all more = (all.0, all_append xs ys all.1 more)

low_scalar : (c : ℕ) → scalar c ≡ true → c < 1114112
low_scalar c is = ⊎_elim (λ below. omega (arith, below)) (λ above. above.1) (scalar_cases c is)

encodes_bytes : (cs : List ℕ) → scalars cs ≡ true → AreBytes (encodes cs)
encodes_bytes [] all = tt
encodes_bytes (c ∷ cs) all =
    let parts = and_parts (scalar c) (scalars cs) all in
    all_append (encode c) (encodes cs) (encode_bytes c (low_scalar c parts.0)) (encodes_bytes cs parts.1)

at_each : (bytes : List ℕ) → AreBytes bytes → IsBytes bytes
at_each [] all i = omega arith
at_each (byte ∷ bytes) all zero = all.0
at_each (byte ∷ bytes) all (suc i) = at_each bytes all.1 i

pub utf8_bytes : (text : List ℕ) → IsUtf8 text → IsBytes text
utf8_bytes text utf8 = at_each text (subst AreBytes utf8.1.1 (encodes_bytes utf8.0 utf8.1.0))

-- ---- lists

-- so many at most, each of its form
pub record AreFew {A : Type 0} (P : A → Type 0) (most : ℕ) (xs : List A) : Type 0 where
  pub few : length xs ≤ most
  pub each : AllByRecursion P xs

each_all : {A : Type 0} (read : Data → Option A) (P : A → Type 0) → ((d : Data) (x : A) → HasUtf8 d → read d ≡ Some x → P x)
    → (ds : Items) (xs : List A) → ItemsHaveUtf8 ds → each read ds ≡ Some xs → AllByRecursion P xs × (length xs ≡ count ds)
each_all read P is no_items xs all h = subst (λ (found : List _). AllByRecursion P found × (length found ≡ 0)) (same_Some [] xs h) (tt, refl)
each_all read P is (item d ds) xs all h =
    option_and_then_some (λ x. option_map (λ more. x ∷ more) (each read ds)) (read d) xs h (λ x there k.
    option_map_some (λ more. x ∷ more) (each read ds) xs k (λ more rest whole.
    let tail = each_all read P is ds more all.1 rest in
    subst (λ (found : List _). AllByRecursion P found × (length found ≡ suc (count ds))) whole ((is d x all.0 there, tail.0), ap suc tail.1)))

pub short_all : {A : Type 0} (read : Data → Option A) (P : A → Type 0) → ((d : Data) (x : A) → HasUtf8 d → read d ≡ Some x → P x)
    → (most : ℕ) (d : Data) (xs : List A) → HasUtf8 d → short_list read most d ≡ Some xs → AreFew P most xs
short_all read P is most d xs utf8 h =
    option_and_then_some (each read) (short_array most d) xs h (λ ds there k.
    let few = then-passing (λ (items : Items). nat_le (count items) most) (as_array d) ds there in
    let all = each_all read P is ds xs (if_there ItemsHaveUtf8 (as_array d) ds (array_utf8 d utf8) few.0) k in
    record { few = rw all.1 (leb-true (count ds) most few.1); each = all.0 })

-- ---- expressions

text_said : (names : Decls) (wanted : CelType) (text : List ℕ) (o : Option Expr) (e : Expression) → typed_tree names wanted text o ≡ Some e → e.text ≡ text
text_said names wanted text None e h = cc
text_said names wanted text (Some tree) e h = ap (λ (x : Expression). x.text) (sym (cond_some _ (expression text tree) e h).1)

pub said : (names : Decls) (wanted : CelType) (text : List ℕ) (e : Expression) → IsUtf8 text → expression_of names wanted text ≡ Some e → IsSaidUnder names wanted e
said names wanted text e utf8 h =
    let same : e.text ≡ text = text_said names wanted text _ e h in
    record { utf8 = subst IsUtf8 (sym same) utf8; read = ap (expression_of names wanted) same ∙ h }

-- an expression that may be absent
pub said_there : (names : Decls) (wanted : CelType) (text : List ℕ) (found : Option Expression) → IsUtf8 text
    → option_map (λ e. Some e) (expression_of names wanted text) ≡ Some found → IfSome found (IsSaidUnder names wanted)
said_there names wanted text found utf8 h =
    option_map_some (λ (e : Expression). Some e) (expression_of names wanted text) found h (λ e there whole.
    subst (λ (o : Option Expression). IfSome o (IsSaidUnder names wanted)) whole (said names wanted text e utf8 there))
