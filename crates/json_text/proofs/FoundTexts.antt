-- What is found in a value whose texts are UTF-8.
use Rattle.std.proofs.Common.{ℕ, List, Option, None, Some, IfSome, option_and_then, Ordering, Less, Equal, Greater, nat_cmp}
use Rattle.std.specs.Str.{IsUtf8}
use Rattle.std.specs.Ordering.{match_ordering}
use Rattle.std.specs.Cmp.Lexicographic.{slice_cmp}
use Rattle.serde_json.specs.Data.{Data, null, boolean, number, string, array, object, Members, no_members, member}
use Rattle.serde_json.specs.Find.{get_member, get, as_str}
use Rattle.json_text.specs.Clean.{HasUtf8, MembersHaveUtf8}
use Rattle.json_text.specs.Document.{text_at}

here_or_later : (o : Ordering) (here later : Option Data) → IfSome here HasUtf8 → IfSome later HasUtf8 → IfSome (match_ordering o later here later) HasUtf8
here_or_later Less here later h l = l
here_or_later Equal here later h l = h
here_or_later Greater here later h l = l

member_utf8 : (k : List ℕ) (ms : Members) → MembersHaveUtf8 ms → IfSome (get_member k ms) HasUtf8
member_utf8 k no_members u = tt
member_utf8 k (member l d ms) u = here_or_later (slice_cmp nat_cmp k l) (Some d) (get_member k ms) u.1 (member_utf8 k ms u.2)

pub get_utf8 : (k : List ℕ) (d : Data) → HasUtf8 d → IfSome (get k d) HasUtf8
get_utf8 k null u = tt
get_utf8 k (boolean b) u = tt
get_utf8 k (number n) u = tt
get_utf8 k (string s) u = tt
get_utf8 k (array ds) u = tt
get_utf8 k (object ms) u = member_utf8 k ms u

text_utf8 : (d : Data) → HasUtf8 d → IfSome (as_str d) IsUtf8
text_utf8 null u = tt
text_utf8 (boolean b) u = tt
text_utf8 (number n) u = tt
text_utf8 (string s) u = u
text_utf8 (array ds) u = tt
text_utf8 (object ms) u = tt

found_text : (o : Option Data) → IfSome o HasUtf8 → IfSome (option_and_then as_str o) IsUtf8
found_text None u = tt
found_text (Some d) u = text_utf8 d u

pub text_at_utf8 : (name : List ℕ) (d : Data) → HasUtf8 d → IfSome (text_at name d) IsUtf8
text_at_utf8 name d u = found_text (get name d) (get_utf8 name d u)
