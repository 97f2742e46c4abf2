-- The name of a principal.
use Rattle.std.proofs.Common.{◌≡◌, Bool, true, false, ◌&&◌, ◌++◌, refl, ap, ◌∙◌, sym, codes, Option}
use Rattle.std.specs.Str.{IsUtf8}
use Rattle.std.proofs.lemmas.Bool.{and_from}
use Rattle.std.proofs.lemmas.Str.{IsUtf8-append}
use Rattle.json.proofs.Printed.Utf8.{IsUtf8-are_ascii}
use Rattle.base_types.specs.Forms.{has_size}
use Rattle.iam_names.specs.Forms.{passes}
use Rattle.iam_names.specs.Member.{member_text, is_member}
use Rattle.iam_names.specs.PoolName.{pool_path, is_pool_name}
use Rattle.iam_names.specs.declared.member.Member.{Member}
use Rattle.iam_names.specs.declared.member.Member.TheVariants as member
use Rattle.iam_names.specs.declared.pool_name.PoolName.{PoolName}
use Rattle.iam_names.specs.declared.who.Who.{Who}
use Rattle.iam_names.specs.declared.who.Who.TheVariants.{Outside, Account}
use Rattle.iam_names.proofs.ReadBackLemmas.{member_of-member_text}
use Rattle.access_token.specs.Exact.{IsExactPool, IsExactWho}
use Rattle.access_token.specs.Facts.{name_of}
use Rattle.access_token.specs.Forms.{is_name, is_single, is_who, is_identity}

both : (a b : Bool) → (a && b) ≡ true → (a ≡ true) × (b ≡ true)
both true b h = (refl, h)
both false b h = cc

-- who is named as a member
abbrev as_member : Who → Member
as_member (Outside pool identity) = member.Principal pool identity.subject
as_member (Account account) = member.Account account

text_same : (who : Who) → member_text (as_member who) ≡ name_of who
text_same (Outside pool identity) = refl
text_same (Account account) = refl

member_good : (who : Who) → is_who who ≡ true → is_member (as_member who) ≡ true
member_good (Outside pool identity) is =
    let parts = both (is_pool_name pool) (is_identity identity) is in
    let subject = both (has_size 1 127 identity.subject) _ parts.1 in
    and_from _ _ parts.0 subject.0
member_good (Account account) is = is

single : (who : Who) → is_single (as_member who) ≡ true
single (Outside pool identity) = refl
single (Account account) = refl

pub name_formed : (who : Who) → is_who who ≡ true → is_name (name_of who) ≡ true
name_formed who is =
    let read = member_of-member_text (as_member who) (member_good who is) in
    ap is_name (sym (text_same who)) ∙ ap (λ (o : Option Member). passes is_single o) read ∙ single who

path_utf8 : (pool : PoolName) → IsExactPool pool → IsUtf8 (pool_path pool)
path_utf8 pool is =
    let place = codes "/locations/global/workloadIdentityPools/" in
    let front = codes "iam.googleapis.com/projects/" in
    IsUtf8-append front (pool.project ++ (place ++ pool.pool)) (IsUtf8-are_ascii front refl)
    (IsUtf8-append pool.project (place ++ pool.pool) is.project (IsUtf8-append place pool.pool (IsUtf8-are_ascii place refl) is.pool_utf8))

pub name_utf8 : (who : Who) → IsExactWho who → IsUtf8 (name_of who)
name_utf8 (Outside pool identity) is =
    IsUtf8-append (codes "principal://") (pool_path pool ++ (codes "/subject/" ++ identity.subject)) (IsUtf8-are_ascii (codes "principal://") refl)
    (IsUtf8-append (pool_path pool) (codes "/subject/" ++ identity.subject) (path_utf8 pool is.0)
    (IsUtf8-append (codes "/subject/") identity.subject (IsUtf8-are_ascii (codes "/subject/") refl) is.1.subject))
name_utf8 (Account account) is = IsUtf8-append (codes "serviceAccount:") account (IsUtf8-are_ascii (codes "serviceAccount:") refl) is
