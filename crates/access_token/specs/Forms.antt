-- The forms of the facts that a payload says.
use Rattle.std.specs.Prelude.{ℕ, ◌^◌, Bool, true, false, ◌&&◌, List, length, nat_le, nat_lt}
use Rattle.std.specs.List.{list_all}
use Rattle.base_types.specs.Forms.{has_size}
use Rattle.iam_names.specs.Forms.{passes, is_account, is_attribute_name, is_scope_word}
use Rattle.iam_names.specs.Member.{member_of}
use Rattle.iam_names.specs.declared.identity.Identity.{Identity}
use Rattle.iam_names.specs.declared.member.Member.{Member}
use Rattle.iam_names.specs.declared.member.Member.TheVariants as member
use Rattle.iam_names.specs.PoolName.{is_pool_name}
use Rattle.iam_names.specs.declared.who.Who.{Who}
use Rattle.iam_names.specs.declared.who.Who.TheVariants.{Outside, Account}
use Rattle.boundary.specs.Exact.{is_boundary}
use Rattle.access_token.specs.declared.facts.Facts.{Facts}

-- a name of its form, and a value of 1 to 256 bytes
abbrev pub is_attribute : List ℕ × List ℕ → Bool
is_attribute attribute = is_attribute_name attribute.0 && has_size 1 256 attribute.1

-- a subject of 1 to 127 bytes, groups of 1 to 256 bytes each, and attributes of their forms
abbrev pub is_identity : Identity → Bool
is_identity identity = has_size 1 127 identity.subject && (list_all (has_size 1 256) identity.groups && list_all is_attribute identity.attributes)

-- an identity of a pool, or an account
abbrev pub is_who : Who → Bool
is_who (Outside pool identity) = is_pool_name pool && is_identity identity
is_who (Account account) = is_account account

-- a member that is one principal or one service account
abbrev pub is_single : Member → Bool
is_single (member.Principal pool subject) = true
is_single (member.Account account) = true
is_single (member.Group pool group) = false
is_single (member.Attribute pool name value) = false
is_single (member.Pool pool) = false

-- a name that a subject has
abbrev pub is_name : List ℕ → Bool
is_name name = passes is_single (member_of name)

-- those who may act, of 1 to 1,024 bytes each
abbrev pub are_actors : List (List ℕ) → Bool
are_actors names = nat_le (length names) 8 && list_all (has_size 1 1024) names

-- 1 to 16 scope words
abbrev pub are_words : List (List ℕ) → Bool
are_words words = nat_le 1 (length words) && (nat_le (length words) 16 && list_all is_scope_word words)

-- Each fact is of its form. No relation between them is asked for: a token may show another subject than its principal.
unfoldable pub is_facts : Facts → Bool
is_facts facts =
    nat_lt facts.number (2 ^ 32) && (is_name facts.sub && (nat_lt facts.iat (2 ^ 53) && (nat_lt facts.exp (2 ^ 53) && (is_who facts.who
    && ((nat_le (length facts.act) 8 && list_all is_name facts.act) && (are_actors facts.may_act
    && (list_all is_pool_name facts.pools && (list_all is_account facts.accounts
    && ((nat_le 1 (length facts.scopes) && list_all are_words facts.scopes) && list_all is_boundary facts.bounds)))))))))
