-- The compact text of a clean value is UTF-8.
use Rattle.std.proofs.Common.{ℕ, suc, pos, negsuc, List, [], ◌∷◌, Bool, true, false, decimal, refl, arith}
use Rattle.std.specs.Str.{IsUtf8}
use Rattle.std.proofs.lemmas.Str.{IsUtf8-append, IsUtf8-nil, IsUtf8-from_ascii}
use Rattle.std.proofs.lemmas.Fmt.{IsAscii-decimal}
use Rattle.json.proofs.Printed.Utf8.{IsUtf8-are_ascii, IsUtf8-quoted, IsUtf8-boolean}
use Rattle.serde_json.specs.Data.{Num, unsigned, negative, float, Data, null, boolean, number, string, array, object, Items, no_items, item, Members, no_members, member}
use Rattle.serde_json.specs.Written.{number_text, compact_text, items_text, members_text, comma_if}
use Rattle.json_text.specs.Clean.{IsWhole, IsClean, AreClean, HasCleanMembers, HasUtf8, ItemsHaveUtf8, MembersHaveUtf8}

ascii_first : (x : ℕ) (xs : List ℕ) → IsUtf8 (x ∷ []) → IsUtf8 xs → IsUtf8 (x ∷ xs)
ascii_first x xs a b = IsUtf8-append (x ∷ []) xs a b

IsUtf8-number : (n : Num) → IsWhole n → IsUtf8 (number_text n)
IsUtf8-number (unsigned n) h = IsUtf8-from_ascii (decimal n) (IsAscii-decimal n h)
IsUtf8-number (negative (pos n)) h = absurd h
IsUtf8-number (negative (negsuc n)) h = ascii_first 45 (decimal (suc n)) (IsUtf8-are_ascii _ refl) (IsUtf8-from_ascii (decimal (suc n)) (IsAscii-decimal (suc n) (omega arith)))
IsUtf8-number (float x) h = absurd h

IsUtf8-comma : (b : Bool) → IsUtf8 (comma_if b)
IsUtf8-comma true = IsUtf8-are_ascii _ refl
IsUtf8-comma false = IsUtf8-nil

mutual
  pub IsUtf8-compact_text : (d : Data) → IsClean d → HasUtf8 d → IsUtf8 (compact_text d)
  IsUtf8-compact_text null h u = IsUtf8-are_ascii _ refl
  IsUtf8-compact_text (boolean b) h u = IsUtf8-boolean b
  IsUtf8-compact_text (number n) h u = IsUtf8-number n h
  IsUtf8-compact_text (string s) h u = IsUtf8-quoted s u
  IsUtf8-compact_text (array ds) h u = ascii_first 91 _ (IsUtf8-are_ascii _ refl) (IsUtf8-items false ds h u)
  IsUtf8-compact_text (object ms) h u = ascii_first 123 _ (IsUtf8-are_ascii _ refl) (IsUtf8-members false ms h u)

  IsUtf8-items : (later : Bool) (ds : Items) → AreClean ds → ItemsHaveUtf8 ds → IsUtf8 (items_text later ds)
  IsUtf8-items later no_items h u = IsUtf8-are_ascii _ refl
  IsUtf8-items later (item d ds) h u = IsUtf8-append _ _ (IsUtf8-comma later) (IsUtf8-append _ _ (IsUtf8-compact_text d h.0 u.0) (IsUtf8-items true ds h.1 u.1))

  IsUtf8-members : (later : Bool) (ms : Members) → HasCleanMembers ms → MembersHaveUtf8 ms → IsUtf8 (members_text later ms)
  IsUtf8-members later no_members h u = IsUtf8-are_ascii _ refl
  IsUtf8-members later (member k d ms) h u =
      IsUtf8-append _ _ (IsUtf8-comma later) (IsUtf8-append _ _ (IsUtf8-quoted k u.0)
      (ascii_first 58 _ (IsUtf8-are_ascii _ refl) (IsUtf8-append _ _ (IsUtf8-compact_text d h.0 u.1) (IsUtf8-members true ms h.1 u.2))))
