-- Members of bindings: whom they name, and their texts.
use Rattle.std.specs.Prelude.{ℕ, List, ◌++◌, Bool, ◌&&◌, Option, None, Some, option_map, is_some, if◌then◌else◌, codes}
use Rattle.std.specs.Option.{option_map_or}
use Rattle.std.specs.List.{list_any}
use Rattle.std.specs.Str.{bytes_eq}
use Rattle.base_types.specs.Named.{value_at}
use Rattle.base_types.specs.Forms.{has_size, passing}
use Rattle.base_types.specs.Reading.{◌>>=◌}
use Rattle.iam_names.specs.Cuts.{after, cut_at}
use Rattle.iam_names.specs.Forms.{passes, is_account, is_attribute_name}
use Rattle.iam_names.specs.Parts.{path_parts, subject_at}
use Rattle.iam_names.specs.PoolName.{pool_of, pool_path, same_pool, is_pool_name}
use Rattle.iam_names.specs.declared.pool_name.PoolName.{PoolName}
use Rattle.iam_names.specs.declared.member.Member.{Member}
use Rattle.iam_names.specs.declared.member.Member.TheVariants.{Principal, Group, Attribute, Pool, Account}
use Rattle.iam_names.specs.declared.identity.Identity.{Identity}
use Rattle.iam_names.specs.declared.who.Who.{Who}
use Rattle.iam_names.specs.declared.who.Who.TheVariants.{Outside, Account as OfAccount}

-- who asks, where that is an outside identity of the pool
abbrev pub identity_in : PoolName → Who → Option Identity
identity_in pool (Outside other identity) = if same_pool pool other then Some identity else None
identity_in pool (OfAccount account) = None

-- who asks, where that is an account
abbrev pub account_in : Who → Option (List ℕ)
account_in (Outside pool identity) = None
account_in (OfAccount account) = Some account

-- Whom a member names: an outside identity of its pool with that subject, with that group, with exactly
-- that value of the attribute, or any; or that account.
abbrev pub names_who : Member → Who → Bool
names_who (Principal pool subject) who = passes (λ (identity : Identity). bytes_eq subject identity.subject) (identity_in pool who)
names_who (Group pool group) who = passes (λ (identity : Identity). list_any (bytes_eq group) identity.groups) (identity_in pool who)
names_who (Attribute pool name value) who =
    passes (λ (identity : Identity). passes (bytes_eq value) (value_at name identity.attributes)) (identity_in pool who)
names_who (Pool pool) who = is_some (identity_in pool who)
names_who (Account account) who = passes (bytes_eq account) (account_in who)

-- whether each part is of its form
abbrev pub is_member : Member → Bool
is_member (Principal pool subject) = is_pool_name pool && has_size 1 127 subject
is_member (Group pool group) = is_pool_name pool && has_size 1 256 group
is_member (Attribute pool name value) = is_pool_name pool && (is_attribute_name name && has_size 1 256 value)
is_member (Pool pool) = is_pool_name pool
is_member (Account account) = is_account account

-- the text that says the member
abbrev pub member_text : Member → List ℕ
member_text (Principal pool subject) = codes "principal://" ++ (pool_path pool ++ (codes "/subject/" ++ subject))
member_text (Group pool group) = codes "principalSet://" ++ (pool_path pool ++ (codes "/group/" ++ group))
member_text (Attribute pool name value) = codes "principalSet://" ++ (pool_path pool ++ (codes "/attribute." ++ (name ++ (codes "/" ++ value))))
member_text (Pool pool) = codes "principalSet://" ++ (pool_path pool ++ codes "/*")
member_text (Account account) = codes "serviceAccount:" ++ account

-- the principal of a text behind principal://
abbrev pub principal_of : List ℕ → Option Member
principal_of text =
    path_parts text
    >>= (λ path. pool_of path.0 path.1
    >>= (λ pool. subject_at path.2
    >>= (λ subject. Some (Principal pool subject))))

-- the set of a pool that a text NAME/VALUE says
abbrev pub attribute_of : PoolName → List ℕ → Option Member
attribute_of pool text =
    cut_at 47 text
    >>= (λ parts. passing is_attribute_name parts.0
    >>= (λ name. passing (has_size 1 256) parts.1
    >>= (λ value. Some (Attribute pool name value))))

-- the set of a pool's principals that a text says
abbrev pub set_in : PoolName → List ℕ → Option Member
set_in pool text =
    option_map_or (λ group. option_map (Group pool) (passing (has_size 1 256) group)) (after (codes "group/") text)
    (option_map_or (attribute_of pool) (after (codes "attribute.") text)
    (if bytes_eq text (codes "*") then Some (Pool pool) else None))

-- the set of a text behind principalSet://
abbrev pub set_of : List ℕ → Option Member
set_of text = path_parts text >>= (λ path. pool_of path.0 path.1 >>= (λ pool. set_in pool path.2))

-- the member that a text says
abbrev pub member_of : List ℕ → Option Member
member_of text =
    option_map_or principal_of (after (codes "principal://") text)
    (option_map_or set_of (after (codes "principalSet://") text)
    (option_map_or (λ account. option_map Account (passing is_account account)) (after (codes "serviceAccount:") text) None))
