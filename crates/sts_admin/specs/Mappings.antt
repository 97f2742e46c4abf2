-- The mapping of a provider: the form in which it is written, and its expressions.
use Rattle.std.specs.Prelude.{ℕ, zero, suc, List, [], Bool, true, ◌&&◌, ◌||◌, nat_le, is_some, Option, None, Some, option_map, option_and_then, codes}
use Rattle.std.specs.Str.{bytes_eq}
use Rattle.serde_json.specs.Data.{Data, Members, no_members, member}
use Rattle.serde_json.specs.Find.{get_member, as_str, as_object}
use Rattle.base_types.specs.Forms.{passing}
use Rattle.base_types.specs.Named.{put_in_order}
use Rattle.base_types.specs.Reading.{◌>>=◌}
use Rattle.json_text.specs.Document.{text_at}
use Rattle.iam_names.specs.Cuts.{after}
use Rattle.iam_names.specs.Forms.{passes, is_attribute_name}
use Rattle.cel_types.specs.declared.cel_type.CelType.{CelType}
use Rattle.cel_types.specs.declared.cel_type.CelType.TheViews as types
use Rattle.cel_expression.specs.declared.expression.Expression.{Expression}
use Rattle.cel_reader.specs.Expressions.{expression_of}
use Rattle.pools.specs.Environments.{mapping_names}
use Rattle.pools.specs.declared.mapping.Mapping.{Mapping}

-- ---- its form

-- the name behind `attribute.`
abbrev pub attribute_name : List ℕ → Option (List ℕ)
attribute_name key = option_and_then (passing is_attribute_name) (after (codes "attribute.") key)

-- `google.subject`, `google.groups` or `attribute.NAME`
abbrev pub is_mapping_key : List ℕ → Bool
is_mapping_key key = bytes_eq key (codes "google.subject") || (bytes_eq key (codes "google.groups") || is_some (attribute_name key))

-- a text under a key of a mapping
abbrev pub is_mapped : List ℕ → Data → Bool
is_mapped key d = is_mapping_key key && is_some (as_str d)

-- each member is one
abbrev pub are_mapped : Members → Bool
are_mapped no_members = true
are_mapped (member key d ms) = is_mapped key d && are_mapped ms

-- how many members there are
abbrev pub member_count : Members → ℕ
member_count no_members = zero
member_count (member key d ms) = suc (member_count ms)

-- at most 50 texts under keys of a mapping, `google.subject` among them
abbrev pub are_mapping : Members → Bool
are_mapping ms = nat_le (member_count ms) 50 && (are_mapped ms && is_some (get_member (codes "google.subject") ms))

-- an object of them
abbrev pub is_mapping : Data → Bool
is_mapping d = passes are_mapping (as_object d)

-- ---- its expressions

-- a list of texts
abbrev pub text_list : CelType
text_list = types.List CelType.Text

-- the text as an expression of a mapping of that type
abbrev pub mapped_text : CelType → List ℕ → Option Expression
mapped_text wanted text = expression_of mapping_names wanted text

-- the subject's expression
abbrev pub subject_of : Data → Option Expression
subject_of d = option_and_then (mapped_text CelType.Text) (text_at (codes "google.subject") d)

-- the groups' expression, where there is a text
abbrev pub groups_by : Option (List ℕ) → Option (Option Expression)
groups_by None = Some None
groups_by (Some text) = option_map (λ e. Some e) (mapped_text text_list text)

-- the attribute's expression under its name, beside those that were found
abbrev pub with_attribute : Option (List ℕ) → Data → List (List ℕ × Expression) → Option (List (List ℕ × Expression))
with_attribute None d found = Some found
with_attribute (Some name) d found = option_map (λ e. put_in_order name e found) (option_and_then (mapped_text CelType.Text) (as_str d))

-- the attributes' expressions under their names, beside those that were found
abbrev pub attributes_in : Members → List (List ℕ × Expression) → Option (List (List ℕ × Expression))
attributes_in no_members found = Some found
attributes_in (member key d ms) found = with_attribute (attribute_name key) d found >>= (λ more. attributes_in ms more)

-- the attributes' expressions
abbrev pub attributes_of : Data → Option (List (List ℕ × Expression))
attributes_of d = option_and_then (λ ms. attributes_in ms []) (as_object d)

-- the mapping's expressions, where each text is one
unfoldable pub mapping_of : Data → Option Mapping
mapping_of d = do
  subject ← subject_of d
  groups ← groups_by (text_at (codes "google.groups") d)
  attributes ← attributes_of d
  Some (record { subject = subject; groups = groups; attributes = attributes })
