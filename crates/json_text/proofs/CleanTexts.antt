-- The compact text of a clean value reads as that value.
use Rattle.std.proofs.Common.{◌≡◌, ℕ, suc, ◌≤◌, max, pos, negsuc, List, false, [], ◌++◌, Some, option_map, option_and_then, refl, sym, ap, ap₂, ◌∙◌, arith, append-nil, Greater, nat_cmp}
use Rattle.std.specs.Prelude.{⊤}
use Rattle.std.specs.Cmp.Lexicographic.{slice_cmp}
use Rattle.std.specs.Ordering.{ordering_reverse}
use Rattle.std.proofs.lemmas.Cmp.{nat_list_cmp_total}
use Rattle.json.specs.Token.{Token}
use Rattle.json.specs.Lex.{tokens}
use Rattle.json.specs.Json as json
use Rattle.json.specs.Tree as tree
use Rattle.json.proofs.Printed.Tokens.{tokens-print}
use Rattle.json.proofs.Printed.Trees.{value-json_tokens, ArePrintable-json_tokens}
use Rattle.json.proofs.Printed.Decimals.{IsNumber-decimal, IsNumber-signed_decimal}
use Rattle.serde_json.specs.Data.{Num, unsigned, negative, float, Data, null, boolean, number, string, array, object, Items, no_items, item, Members, no_members, member, put, depth, items_depth, members_depth}
use Rattle.serde_json.specs.Read.{read, max_depth, number_of, of_json, of_items, of_members}
use Rattle.serde_json.specs.Written.{number_text, outline, items_outline, members_outline, compact_text, has_float, items_have_float, members_have_float}
use Rattle.serde_json.proofs.Numbers.{number_of-decimal, number_of-negative}
use Rattle.serde_json.proofs.Texts.{print-outline}
use Rattle.json_text.specs.Clean.{IsWhole, AreAfter, IsClean, AreClean, HasCleanMembers}

-- ---- numbers

number_of-text : (n : Num) → IsWhole n → number_of (number_text n) ≡ Some n
number_of-text (unsigned n) h = number_of-decimal n h
number_of-text (negative (pos n)) h = absurd h
number_of-text (negative (negsuc n)) h = number_of-negative n h
number_of-text (float x) h = absurd h

IsNumber-text : (n : Num) → IsWhole n → tree.HasNumbers (json.number (number_text n))
IsNumber-text (unsigned n) h = IsNumber-decimal n h
IsNumber-text (negative (pos n)) h = absurd h
IsNumber-text (negative (negsuc n)) h = IsNumber-signed_decimal (negsuc n) (omega arith)
IsNumber-text (float x) h = absurd h

-- ---- members that are put in order

abbrev pub followed : Members → Members → Members
followed no_members ms = ms
followed (member k d rest) ms = member k d (followed rest ms)

pub followed-none : (ms : Members) → followed ms no_members ≡ ms
followed-none no_members = refl
followed-none (member k d ms) = ap (member k d) (followed-none ms)

pub followed-more : (a : Members) (k : List ℕ) (d : Data) (ms : Members) → followed (followed a (member k d no_members)) ms ≡ followed a (member k d ms)
followed-more no_members k d ms = refl
followed-more (member l e a) k d ms = ap (member l e) (followed-more a k d ms)

-- each name of the first members is before each of the second
abbrev pub AreBefore : Members → Members → Type 0
AreBefore no_members ms = ⊤
AreBefore (member k d rest) ms = AreAfter k ms × AreBefore rest ms

pub AreBefore-tail : (a : Members) (k : List ℕ) (d : Data) (ms : Members) → AreBefore a (member k d ms) → AreBefore a ms
AreBefore-tail no_members k d ms h = tt
AreBefore-tail (member l e a) k d ms h = (h.0.1, AreBefore-tail a k d ms h.1)

pub AreBefore-grown : (a : Members) (k : List ℕ) (d : Data) (ms : Members) → AreBefore a ms → AreAfter k ms → AreBefore (followed a (member k d no_members)) ms
AreBefore-grown no_members k d ms h after = (after, tt)
AreBefore-grown (member l e a) k d ms h after = (h.0, AreBefore-grown a k d ms h.1 after)

pub put-last : (a : Members) (k : List ℕ) (d e : Data) (ms : Members) → AreBefore a (member k e ms) → put k d a ≡ followed a (member k d no_members)
put-last no_members k d e ms h = refl
put-last (member l x a) k d e ms h =
    let above : slice_cmp nat_cmp k l ≡ Greater = nat_list_cmp_total.antisymm k l ∙ ap ordering_reverse h.0.0 in
    rw above (ap (member l x) (put-last a k d e ms h.1))

-- ---- what was written, read

mutual
  of_json-outline : (d : Data) → IsClean d → of_json (outline d) ≡ Some d
  of_json-outline null h = refl
  of_json-outline (boolean b) h = refl
  of_json-outline (number n) h = ap (option_map number) (number_of-text n h)
  of_json-outline (string s) h = refl
  of_json-outline (array ds) h = ap (option_map array) (of_items-outline ds h)
  of_json-outline (object ms) h = ap (option_map object) (of_members-outline ms no_members h tt)

  of_items-outline : (ds : Items) → AreClean ds → of_items (items_outline ds) ≡ Some ds
  of_items-outline no_items h = refl
  of_items-outline (item d ds) h = rw (of_json-outline d h.0, of_items-outline ds h.1)

  of_members-outline : (ms found : Members) → HasCleanMembers ms → AreBefore found ms → of_members (members_outline ms) found ≡ Some (followed found ms)
  of_members-outline no_members found h before = ap Some (sym (followed-none found))
  of_members-outline (member k d ms) found h before =
      rw (of_json-outline d h.0)
      (ap (of_members (members_outline ms)) (put-last found k d d ms before)
      ∙ of_members-outline ms (followed found (member k d no_members)) h.1 (AreBefore-grown found k d ms (AreBefore-tail found k d ms before) h.2)
      ∙ ap Some (followed-more found k d ms))

mutual
  HasNumbers-outline : (d : Data) → IsClean d → tree.HasNumbers (outline d)
  HasNumbers-outline null h = tt
  HasNumbers-outline (boolean b) h = tt
  HasNumbers-outline (number n) h = IsNumber-text n h
  HasNumbers-outline (string s) h = tt
  HasNumbers-outline (array ds) h = HasNumbers-items ds h
  HasNumbers-outline (object ms) h = HasNumbers-members ms h

  HasNumbers-items : (ds : Items) → AreClean ds → tree.ItemsHaveNumbers (items_outline ds)
  HasNumbers-items no_items h = tt
  HasNumbers-items (item d ds) h = (HasNumbers-outline d h.0, HasNumbers-items ds h.1)

  HasNumbers-members : (ms : Members) → HasCleanMembers ms → tree.MembersHaveNumbers (members_outline ms)
  HasNumbers-members no_members h = tt
  HasNumbers-members (member k d ms) h = (HasNumbers-outline d h.0, HasNumbers-members ms h.1)

mutual
  depth-outline : (d : Data) → tree.depth (outline d) ≡ depth d
  depth-outline null = refl
  depth-outline (boolean b) = refl
  depth-outline (number n) = refl
  depth-outline (string s) = refl
  depth-outline (array ds) = ap suc (depth-items ds)
  depth-outline (object ms) = ap suc (depth-members ms)

  depth-items : (ds : Items) → tree.items_depth (items_outline ds) ≡ items_depth ds
  depth-items no_items = refl
  depth-items (item d ds) = ap₂ max (depth-outline d) (depth-items ds)

  depth-members : (ms : Members) → tree.members_depth (members_outline ms) ≡ members_depth ms
  depth-members no_members = refl
  depth-members (member k d ms) = ap₂ max (depth-outline d) (depth-members ms)

-- the compact text of a clean value reads as that value
pub read-compact_text : (d : Data) → IsClean d → depth d ≤ max_depth → read (compact_text d) ≡ Some d
read-compact_text d clean shallow =
    let ts = tree.json_tokens (outline d) in
    let told : tokens (compact_text d) ≡ ts ++ [] =
    ap tokens (sym (print-outline d)) ∙ tokens-print ts (ArePrintable-json_tokens (outline d) (HasNumbers-outline d clean)) ∙ sym (append-nil ts) in
    ap (λ (us : List Token). option_and_then of_json (option_and_then (λ p. json.if_last p.0 p.1) (json.value max_depth us))) told
    ∙ ap (λ r. option_and_then of_json (option_and_then (λ p. json.if_last p.0 p.1) r)) (value-json_tokens (outline d) max_depth [] (rw (depth-outline d) shallow))
    ∙ of_json-outline d clean

-- two clean values with one text are one
pub compact_text-injective : (d e : Data) → IsClean d → IsClean e → depth d ≤ max_depth → depth e ≤ max_depth → compact_text d ≡ compact_text e → d ≡ e
compact_text-injective d e cd ce sd se same =
    let both : ◌≡◌ (Some d) (Some e) = sym (read-compact_text d cd sd) ∙ ap read same ∙ read-compact_text e ce se in
    cc

-- ---- a clean value has no float

mutual
  pub has_float-clean : (d : Data) → IsClean d → has_float d ≡ false
  has_float-clean null h = refl
  has_float-clean (boolean b) h = refl
  has_float-clean (number (unsigned n)) h = refl
  has_float-clean (number (negative z)) h = refl
  has_float-clean (number (float x)) h = absurd h
  has_float-clean (string s) h = refl
  has_float-clean (array ds) h = items_have_float-clean ds h
  has_float-clean (object ms) h = members_have_float-clean ms h

  items_have_float-clean : (ds : Items) → AreClean ds → items_have_float ds ≡ false
  items_have_float-clean no_items h = refl
  items_have_float-clean (item d ds) h = rw (has_float-clean d h.0) (items_have_float-clean ds h.1)

  members_have_float-clean : (ms : Members) → HasCleanMembers ms → members_have_float ms ≡ false
  members_have_float-clean no_members h = refl
  members_have_float-clean (member k d ms) h = rw (has_float-clean d h.0) (members_have_float-clean ms h.1)
