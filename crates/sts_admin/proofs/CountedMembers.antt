-- The members of an object.
use Rattle.std.proofs.Common.{◌≡◌, ℕ, List, [], ◌∷◌, length, String, Some, Global, refl, ap, suc}
use Rattle.serde_json.specs.Data.{Data, null, boolean, number, string, array, object, Members}
use Rattle.serde_json.specs.Find.{get, get_member, as_object}
use Rattle.serde_json.specs.View.{members_view}
use Rattle.serde_json.specs.declared.value.Value.{Value}
use Rattle.sts_admin.specs.Mappings.{member_count}

pub count_members : (entries : List (String Global × Value)) → member_count (members_view entries) ≡ length entries
count_members [] = refl
count_members (entry ∷ entries) = ap suc (count_members entries)

-- what an object has under a name is what its members have
pub get_in : (name : List ℕ) (d : Data) (ms : Members) → as_object d ≡ Some ms → get name d ≡ get_member name ms
get_in name null ms is = cc
get_in name (boolean b) ms is = cc
get_in name (number n) ms is = cc
get_in name (string s) ms is = cc
get_in name (array ds) ms is = cc
get_in name (object ns) ms is = let same : ns ≡ ms = cc in ap (get_member name) same
