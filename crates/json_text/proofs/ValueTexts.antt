-- The texts and names of a UTF-8 document are UTF-8.
use Rattle.std.proofs.Common.{◌≡◌, ℕ, zero, suc, List, [], ◌∷◌, length, Bool, true, false, Option, Some, None, IfSome, option_map, option_and_then, subst, refl, Less, Equal, Greater, Ordering, nat_cmp}
use Rattle.std.specs.Prelude.{⊤, if◌then◌else◌}
use Rattle.std.specs.Str.{IsUtf8, is_utf8}
use Rattle.std.specs.Ordering.{match_ordering}
use Rattle.std.specs.Cmp.Lexicographic.{slice_cmp}
use Rattle.std.proofs.lemmas.Str.{IsUtf8-from_is_utf8}
use Rattle.json.specs.Token.{Token}
use Rattle.json.specs.Lex.{tokens}
use Rattle.json.specs.Json as json
use Rattle.serde_json.specs.Data.{Num, Data, number, array, object, Items, item, Members, no_members, member, put}
use Rattle.serde_json.specs.Read.{read, max_depth, number_of, of_json, of_items, of_members}
use Rattle.json_text.specs.Clean.{HasUtf8, ItemsHaveUtf8, MembersHaveUtf8}
use Rattle.json_text.specs.Document.{document}
use Rattle.json_text.proofs.TokenTexts.{TokensHaveUtf8, tokens_utf8}

abbrev mutual
  JsonHasUtf8 : json.Json → Type 0
  JsonHasUtf8 json.null = ⊤
  JsonHasUtf8 (json.boolean b) = ⊤
  JsonHasUtf8 (json.number s) = ⊤
  JsonHasUtf8 (json.string s) = IsUtf8 s
  JsonHasUtf8 (json.array js) = JsonItemsHaveUtf8 js
  JsonHasUtf8 (json.object ms) = JsonMembersHaveUtf8 ms

  JsonItemsHaveUtf8 : json.Items → Type 0
  JsonItemsHaveUtf8 json.no_items = ⊤
  JsonItemsHaveUtf8 (json.item j js) = JsonHasUtf8 j × JsonItemsHaveUtf8 js

  JsonMembersHaveUtf8 : json.Members → Type 0
  JsonMembersHaveUtf8 json.no_members = ⊤
  JsonMembersHaveUtf8 (json.member k j ms) = IsUtf8 k × JsonHasUtf8 j × JsonMembersHaveUtf8 ms

-- ---- from tokens to a value of the grammar

-- what was read has P, and UTF-8 tokens follow it
abbrev Reads : {A : Type 0} → (A → Type 0) → Option (A × List Token) → Type 0
Reads P None = ⊤
Reads P (Some p) = P p.0 × TokensHaveUtf8 p.1

abbrev Parses : {A : Type 0} → (A → Type 0) → json.Parse A → Type 0
Parses P parse = (ts : List Token) → TokensHaveUtf8 ts → Reads P (parse ts)

mapped : {A B : Type 0} (P : A → Type 0) (Q : B → Type 0) (f : A → B) → ((a : A) → P a → Q (f a)) → (o : Option (A × List Token)) → Reads P o → Reads Q (json.parse_map f o)
mapped P Q f each None h = tt
mapped P Q f each (Some p) h = (each p.0 h.0, h.1)

and_more : {B : Type 0} (Q : B → Type 0) (f : json.Json → B → B) → ((j : json.Json) (b : B) → JsonHasUtf8 j → Q b → Q (f j b)) → (more : json.Parse B) → Parses Q more
    → (o : Option (json.Json × List Token)) → Reads JsonHasUtf8 o → Reads Q (option_and_then (λ p. json.parse_map (f p.0) (more p.1)) o)
and_more Q f each more parses None h = tt
and_more Q f each more parses (Some p) h = mapped Q Q (f p.0) (λ b q. each p.0 b h.0 q) (more p.1) (parses p.1 h.1)

end_utf8 : (ts : List Token) → TokensHaveUtf8 ts → IfSome (json.after_end_array ts) TokensHaveUtf8
end_utf8 [] h = tt
end_utf8 (Token.begin_object ∷ ts) h = tt
end_utf8 (Token.end_object ∷ ts) h = tt
end_utf8 (Token.begin_array ∷ ts) h = tt
end_utf8 (Token.end_array ∷ ts) h = h.1
end_utf8 (Token.key s ∷ ts) h = tt
end_utf8 (Token.string s ∷ ts) h = tt
end_utf8 (Token.number s ∷ ts) h = tt
end_utf8 (Token.boolean b ∷ ts) h = tt
end_utf8 (Token.null ∷ ts) h = tt
end_utf8 (Token.bad ∷ ts) h = tt

abbrev KeyHasUtf8 : Option (List ℕ) → Type 0
KeyHasUtf8 None = ⊤
KeyHasUtf8 (Some k) = IsUtf8 k

key_utf8 : Parses KeyHasUtf8 json.read_key
key_utf8 [] h = tt
key_utf8 (Token.begin_object ∷ ts) h = tt
key_utf8 (Token.end_object ∷ ts) h = (tt, h.1)
key_utf8 (Token.begin_array ∷ ts) h = tt
key_utf8 (Token.end_array ∷ ts) h = tt
key_utf8 (Token.key s ∷ ts) h = (h.0, h.1)
key_utf8 (Token.string s ∷ ts) h = tt
key_utf8 (Token.number s ∷ ts) h = tt
key_utf8 (Token.boolean b ∷ ts) h = tt
key_utf8 (Token.null ∷ ts) h = tt
key_utf8 (Token.bad ∷ ts) h = tt

module _ (value : json.Parse json.Json) (parses : Parses JsonHasUtf8 value) where
  item_utf8 : (more : json.Parse json.Items) → Parses JsonItemsHaveUtf8 more → (ts : List Token) → TokensHaveUtf8 ts
      → (o : Option (List Token)) → IfSome o TokensHaveUtf8 → Reads JsonItemsHaveUtf8 (json.items_step value more ts o)
  item_utf8 more again ts h (Some rest) ended = (tt, ended)
  item_utf8 more again ts h None ended = and_more JsonItemsHaveUtf8 json.item (λ j js a b. (a, b)) more again (value ts) (parses ts h)

  items_utf8 : (n : ℕ) → Parses JsonItemsHaveUtf8 (json.items value n)
  unfolding json.items
  items_utf8 zero ts h = tt
  items_utf8 (suc n) ts h = item_utf8 (json.items value n) (items_utf8 n) ts h (json.after_end_array ts) (end_utf8 ts h)

  member_utf8 : (more : json.Parse json.Members) → Parses JsonMembersHaveUtf8 more → (o : Option (Option (List ℕ) × List Token)) → Reads KeyHasUtf8 o
      → Reads JsonMembersHaveUtf8 (option_and_then (λ p. json.members_step value more p.0 p.1) o)
  member_utf8 more again None h = tt
  member_utf8 more again (Some (None, ts)) h = (tt, h.1)
  member_utf8 more again (Some (Some k, ts)) h = and_more JsonMembersHaveUtf8 (json.member k) (λ j ms a b. (h.0, a, b)) more again (value ts) (parses ts h.1)

  members_utf8 : (n : ℕ) → Parses JsonMembersHaveUtf8 (json.members value n)
  unfolding json.members
  members_utf8 zero ts h = tt
  members_utf8 (suc n) ts h = member_utf8 (json.members value n) (members_utf8 n) (json.read_key ts) (key_utf8 ts h)

one_utf8 : (items : json.Parse json.Items) (members : json.Parse json.Members) → Parses JsonItemsHaveUtf8 items → Parses JsonMembersHaveUtf8 members → Parses JsonHasUtf8 (json.value_with items members)
one_utf8 items members a o [] h = tt
one_utf8 items members a o (Token.begin_object ∷ ts) h = mapped JsonMembersHaveUtf8 JsonHasUtf8 json.object (λ ms u. u) (members ts) (o ts h.1)
one_utf8 items members a o (Token.end_object ∷ ts) h = tt
one_utf8 items members a o (Token.begin_array ∷ ts) h = mapped JsonItemsHaveUtf8 JsonHasUtf8 json.array (λ js u. u) (items ts) (a ts h.1)
one_utf8 items members a o (Token.end_array ∷ ts) h = tt
one_utf8 items members a o (Token.key s ∷ ts) h = tt
one_utf8 items members a o (Token.string s ∷ ts) h = h
one_utf8 items members a o (Token.number s ∷ ts) h = (tt, h.1)
one_utf8 items members a o (Token.boolean b ∷ ts) h = (tt, h.1)
one_utf8 items members a o (Token.null ∷ ts) h = (tt, h.1)
one_utf8 items members a o (Token.bad ∷ ts) h = tt

value_utf8 : (depth : ℕ) → Parses JsonHasUtf8 (json.value depth)
unfolding json.value
value_utf8 zero = one_utf8 (λ ts. None) (λ ts. None) (λ ts h. tt) (λ ts h. tt)
value_utf8 (suc depth) =
    one_utf8 (λ ts. json.items (json.value depth) (length ts) ts) (λ ts. json.members (json.value depth) (length ts) ts)
    (λ ts h. items_utf8 (json.value depth) (value_utf8 depth) (length ts) ts h)
    (λ ts h. members_utf8 (json.value depth) (value_utf8 depth) (length ts) ts h)

-- ---- from a value of the grammar to the value

placed : (P : Members → Type 0) (o : Ordering) (before same after : Members) → P before → P same → P after → P (match_ordering o before same after)
placed P Less before same after a b c = a
placed P Equal before same after a b c = b
placed P Greater before same after a b c = c

put_utf8 : (k : List ℕ) (d : Data) (ms : Members) → IsUtf8 k → HasUtf8 d → MembersHaveUtf8 ms → MembersHaveUtf8 (put k d ms)
put_utf8 k d no_members name value h = (name, value, tt)
put_utf8 k d (member l e ms) name value h =
    placed MembersHaveUtf8 (slice_cmp nat_cmp k l) _ _ _ (name, value, h) (h.0, value, h.2) (h.0, h.1, put_utf8 k d ms name value h.2)

in_number : (o : Option Num) → IfSome (option_map number o) HasUtf8
in_number None = tt
in_number (Some n) = tt

in_array : (o : Option Items) → IfSome o ItemsHaveUtf8 → IfSome (option_map array o) HasUtf8
in_array None h = tt
in_array (Some ds) h = h

in_object : (o : Option Members) → IfSome o MembersHaveUtf8 → IfSome (option_map object o) HasUtf8
in_object None h = tt
in_object (Some ms) h = h

one_more : (first : Option Data) (more : Option Items) → IfSome first HasUtf8 → IfSome more ItemsHaveUtf8 → IfSome (option_and_then (λ d. option_map (item d) more) first) ItemsHaveUtf8
one_more None more a b = tt
one_more (Some d) None a b = tt
one_more (Some d) (Some ds) a b = (a, b)

then_members : (o : Option Data) (next : Data → Option Members) → IfSome o HasUtf8 → ((d : Data) → HasUtf8 d → IfSome (next d) MembersHaveUtf8) → IfSome (option_and_then next o) MembersHaveUtf8
then_members None next h more = tt
then_members (Some d) next h more = more d h

mutual
  of_json_utf8 : (j : json.Json) → JsonHasUtf8 j → IfSome (of_json j) HasUtf8
  of_json_utf8 json.null h = tt
  of_json_utf8 (json.boolean b) h = tt
  of_json_utf8 (json.number s) h = in_number (number_of s)
  of_json_utf8 (json.string s) h = h
  of_json_utf8 (json.array js) h = in_array (of_items js) (of_items_utf8 js h)
  of_json_utf8 (json.object ms) h = in_object (of_members ms no_members) (of_members_utf8 ms no_members h tt)

  of_items_utf8 : (js : json.Items) → JsonItemsHaveUtf8 js → IfSome (of_items js) ItemsHaveUtf8
  of_items_utf8 json.no_items h = tt
  of_items_utf8 (json.item j js) h = one_more (of_json j) (of_items js) (of_json_utf8 j h.0) (of_items_utf8 js h.1)

  of_members_utf8 : (ms : json.Members) (found : Members) → JsonMembersHaveUtf8 ms → MembersHaveUtf8 found → IfSome (of_members ms found) MembersHaveUtf8
  of_members_utf8 json.no_members found h u = u
  of_members_utf8 (json.member k j ms) found h u =
      then_members (of_json j) (λ d. of_members ms (put k d found)) (of_json_utf8 j h.1)
      (λ d value. of_members_utf8 ms (put k d found) h.2 (put_utf8 k d found h.0 value u))

-- ---- a document

last_utf8 : (j : json.Json) (ts : List Token) → JsonHasUtf8 j → IfSome (json.if_last j ts) JsonHasUtf8
last_utf8 j [] h = h
last_utf8 j (t ∷ ts) h = tt

whole_utf8 : (o : Option (json.Json × List Token)) → Reads JsonHasUtf8 o → IfSome (option_and_then (λ p. json.if_last p.0 p.1) o) JsonHasUtf8
whole_utf8 None h = tt
whole_utf8 (Some p) h = last_utf8 p.0 p.1 h.0

data_utf8 : (o : Option json.Json) → IfSome o JsonHasUtf8 → IfSome (option_and_then of_json o) HasUtf8
data_utf8 None h = tt
data_utf8 (Some j) h = of_json_utf8 j h

pub read_utf8 : (text : List ℕ) → IsUtf8 text → IfSome (read text) HasUtf8
read_utf8 text u =
    let ts = tokens text in
    let read_one = json.value max_depth ts in
    data_utf8 (option_and_then (λ p. json.if_last p.0 p.1) read_one) (whole_utf8 read_one (value_utf8 max_depth ts (tokens_utf8 text u)))

by_test : (text : List ℕ) (b : Bool) → is_utf8 text ≡ b → IfSome (if b then read text else None) HasUtf8
by_test text true is = read_utf8 text (IsUtf8-from_is_utf8 text is)
by_test text false is = tt

pub read_document_utf8 : (bytes : List ℕ) → IfSome (document bytes) HasUtf8
read_document_utf8 bytes = by_test bytes (is_utf8 bytes) refl

-- each text and each name of a document is UTF-8
pub document_utf8 : (bytes : List ℕ) (d : Data) → document bytes ≡ Some d → HasUtf8 d
document_utf8 bytes d is = subst (λ o. IfSome o HasUtf8) is (read_document_utf8 bytes)
