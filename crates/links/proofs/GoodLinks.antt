-- What the token of a chain of its form says is exact and of its form.
use Rattle.std.proofs.Common.{◌≡◌, ℕ, ◌+◌, ◌<◌, ◌≤◌, ◌^◌, Bool, true, false, not, ◌&&◌, nat_lt, nat_le, List, [], ◌∷◌, ◌++◌, length, drop, codes}
use Rattle.std.proofs.Common.{refl, sym, subst, arith, length-append}
use Rattle.std.specs.Prelude.{Option, None, Some, IfSome}
use Rattle.std.specs.List.{AllByRecursion, list_all}
use Rattle.std.specs.Str.{IsUtf8}
use Rattle.std.proofs.lemmas.Bool.{and_from, le-leb, leb-true}
use Rattle.std.proofs.lemmas.List.Folds.{list_all-append}
use Rattle.std.proofs.lemmas.Str.{IsUtf8-append}
use Rattle.std.proofs.lemmas.Bool.Decides.{Decides-ltb, nat_tests}
use Rattle.json.proofs.Printed.Utf8.{are_ascii, IsUtf8-are_ascii}
use Rattle.base_types.specs.Forms.{has_size}
use Rattle.iam_names.specs.Forms.{is_digit, begins_with, is_id_byte, is_plain_byte, is_project, is_id, is_scope_word, is_account}
use Rattle.iam_names.specs.Joined.{IsAccountText}
use Rattle.iam_names.specs.PoolName.{is_pool_name}
use Rattle.iam_names.specs.declared.pool_name.PoolName.{PoolName}
use Rattle.iam_names.specs.declared.who.Who.{Who}
use Rattle.iam_names.specs.declared.who.Who.TheVariants.{Outside, Account}
use Rattle.iam_names.proofs.JoinedLemmas.{account_joined}
use Rattle.access_token.specs.Exact.{AreActors, AreUtf8, IsExactPool, IsExactWho, IsExact}
use Rattle.access_token.specs.Facts.{name_of}
use Rattle.access_token.specs.Forms.{is_facts, is_identity, is_name, is_who, are_actors, are_words}
use Rattle.boundary.specs.declared.rules.Boundary.{Boundary}
use Rattle.boundary.specs.Exact.{IsExactBoundary, is_boundary}
use Rattle.derived_facts.specs.Derived.{target_of, with_boundary}
use Rattle.links.specs.Chain.{Chain, Root, Narrowed, Impersonated, Delegated, own}
use Rattle.links.specs.Facts.{facts_of, pools_in, exp_of, who_of, act_of, may_act_of, depth_of, pools_of, accounts_of, scopes_of, bounds_of}
use Rattle.links.proofs.Good.{IsGood, IsGoodChain, IsGoodOwn}
use Rattle.links.proofs.Names.{name_formed, name_utf8}

both : (a b : Bool) → (a && b) ≡ true → (a ≡ true) × (b ≡ true)
both true b h = (refl, h)
both false b h = cc

pub all_ascii : (test : ℕ → Bool) → ((byte : ℕ) → test byte ≡ true → nat_lt byte 128 ≡ true) → (text : List ℕ) → list_all test text ≡ true
    → are_ascii text ≡ true
all_ascii test low [] all = refl
all_ascii test low (byte ∷ text) all =
    let parts = both (test byte) (list_all test text) all in
    rw (low byte parts.0, all_ascii test low text parts.1) refl

digit_low : (byte : ℕ) → is_digit byte ≡ true → nat_lt byte 128 ≡ true
digit_low byte h = grind (arith, nat_tests)

id_low : (byte : ℕ) → is_id_byte byte ≡ true → nat_lt byte 128 ≡ true
id_low byte h = grind (arith, nat_tests)

plain_low : (byte : ℕ) → is_plain_byte byte ≡ true → nat_lt byte 128 ≡ true
plain_low byte h = grind (arith, nat_tests)

project_utf8 : (text : List ℕ) → is_project text ≡ true → IsUtf8 text
project_utf8 text h =
    let rest = both (has_size 1 19 text) (list_all is_digit text && not (begins_with 48 text)) h in
    let digits = both (list_all is_digit text) (not (begins_with 48 text)) rest.1 in
    IsUtf8-are_ascii text (all_ascii is_digit digit_low text digits.0)

id_utf8 : (text : List ℕ) → is_id text ≡ true → IsUtf8 text
id_utf8 text h = IsUtf8-are_ascii text (all_ascii is_id_byte id_low text (both (has_size 4 32 text) (list_all is_id_byte text) h).1)

word_utf8 : (text : List ℕ) → is_scope_word text ≡ true → IsUtf8 text
word_utf8 text h = IsUtf8-are_ascii text (all_ascii is_plain_byte plain_low text (both (has_size 1 128 text) (list_all is_plain_byte text) h).1)

-- a name, an @, a project and a domain
account_utf8 : (text : List ℕ) → is_account text ≡ true → IsUtf8 text
account_utf8 text h =
    let parts : IsAccountText text = (account_joined text).0 h in
    let domain = codes ".iam.gserviceaccount.com" in
    let home : IsUtf8 (parts.project ++ domain) =
    IsUtf8-append parts.project domain (IsUtf8-are_ascii parts.project (all_ascii is_id_byte id_low parts.project parts.project_is.bytes))
    (IsUtf8-are_ascii domain refl) in
    subst IsUtf8 (sym parts.text_is)
    (IsUtf8-append parts.name (codes "@" ++ (parts.project ++ domain))
    (IsUtf8-are_ascii parts.name (all_ascii is_id_byte id_low parts.name parts.name_is.bytes))
    (IsUtf8-append (codes "@") (parts.project ++ domain) (IsUtf8-are_ascii (codes "@") refl) home))

accounts_utf8 : (accounts : List (List ℕ)) → list_all is_account accounts ≡ true → AreUtf8 accounts
accounts_utf8 [] all = tt
accounts_utf8 (account ∷ accounts) all =
    let parts = both (is_account account) (list_all is_account accounts) all in
    (account_utf8 account parts.0, accounts_utf8 accounts parts.1)

-- the one that is impersonated has its form
target_formed : (accounts : List (List ℕ)) → 1 ≤ length accounts → list_all is_account accounts ≡ true → is_account (target_of accounts) ≡ true
target_formed [] some all = absurd (omega (arith, some))
target_formed (account ∷ []) some all = (both (is_account account) true all).0
target_formed (account ∷ next ∷ more) some all =
    target_formed (next ∷ more) (omega arith) (both (is_account account) (list_all is_account (next ∷ more)) all).1

words_each : (words : List (List ℕ)) → list_all is_scope_word words ≡ true → AreUtf8 words
words_each [] all = tt
words_each (word ∷ words) all = let parts = both (is_scope_word word) (list_all is_scope_word words) all in (word_utf8 word parts.0, words_each words parts.1)

words_utf8 : (words : List (List ℕ)) → are_words words ≡ true → AreUtf8 words
words_utf8 words is = words_each words (both (nat_le (length words) 16) (list_all is_scope_word words) (both (nat_le 1 (length words)) _ is).1).1

pub pool_exact : (pool : PoolName) → is_pool_name pool ≡ true → IsExactPool pool
pool_exact pool is =
    let parts = both (is_project pool.project) (is_id pool.pool) is in
    record { project = project_utf8 pool.project parts.0; pool_utf8 = id_utf8 pool.pool parts.1 }

pools_exact : (who : Who) → IsExactWho who → AllByRecursion IsExactPool (pools_in who)
pools_exact (Outside pool identity) is = (is.0, tt)
pools_exact (Account account) is = tt

pools_formed : (who : Who) → is_who who ≡ true → list_all is_pool_name (pools_in who) ≡ true
pools_formed (Outside pool identity) is = rw (both (is_pool_name pool) (is_identity identity) is).0 refl
pools_formed (Account account) is = refl

-- ---- each part of what a token says

all_append : {A : Type 0} (P : A → Type 0) (xs ys : List A) → AllByRecursion P xs → AllByRecursion P ys → AllByRecursion P (xs ++ ys)
all_append P [] ys all more = more
all_append P (x ∷ xs) ys all more = (all.0, all_append P xs ys all.1 more)

all_both : {A : Type 0} (test : A → Bool) (xs ys : List A) → list_all test xs ≡ true → list_all test ys ≡ true → list_all test (xs ++ ys) ≡ true
all_both test xs ys all more = rw (list_all-append test xs ys, all, more) refl

pub own_good : (chain : Chain) → IsGoodChain chain → IsGoodOwn (own chain)
own_good (Root o source) is = is.0
own_good (Narrowed o boundary parent) is = is.0
own_good (Impersonated o accounts lifetime parent) is = is.0
own_good (Delegated o subject actor) is = is.0

exp_low : (chain : Chain) → IsGoodChain chain → exp_of chain < 2 ^ 53
exp_low (Root o source) is = omega (arith, is.1.exp)
exp_low (Narrowed o boundary parent) is = omega (arith, exp_low parent is.3)
exp_low (Impersonated o accounts lifetime parent) is = omega (arith, exp_low parent is.4)
exp_low (Delegated o subject actor) is = omega (arith, exp_low subject is.3)

target_good : (accounts : List (List ℕ)) → is_account (target_of accounts) ≡ true
    → (is_who (Account (target_of accounts)) ≡ true) × IsExactWho (Account (target_of accounts))
target_good accounts is = (is, account_utf8 (target_of accounts) is)

who_good : (chain : Chain) → IsGoodChain chain → (is_who (who_of chain) ≡ true) × IsExactWho (who_of chain)
who_good (Root o source) is = (is.1.who, is.1.exact)
who_good (Narrowed o boundary parent) is = who_good parent is.3
who_good (Impersonated o accounts lifetime parent) is = target_good accounts (target_formed accounts is.1 is.2)
who_good (Delegated o subject actor) is = who_good subject is.3

-- a chain has fewer actors than links
pub act_few : (chain : Chain) → length (act_of chain) + 1 ≤ depth_of chain
act_few (Root o source) = omega arith
act_few (Narrowed o boundary parent) = omega (arith, act_few parent)
act_few (Impersonated o accounts lifetime parent) = omega (arith, act_few parent)
act_few (Delegated o subject actor) = omega (arith, act_few subject)

act_formed : (chain : Chain) → IsGoodChain chain → list_all is_name (act_of chain) ≡ true
act_formed (Root o source) is = refl
act_formed (Narrowed o boundary parent) is = act_formed parent is.3
act_formed (Impersonated o accounts lifetime parent) is = act_formed parent is.4
act_formed (Delegated o subject actor) is =
    and_from (is_name (name_of (who_of actor))) (list_all is_name (act_of subject)) (name_formed (who_of actor) (who_good actor is.4).0)
    (act_formed subject is.3)

act_utf8 : (chain : Chain) → IsGoodChain chain → AreUtf8 (act_of chain)
act_utf8 (Root o source) is = tt
act_utf8 (Narrowed o boundary parent) is = act_utf8 parent is.3
act_utf8 (Impersonated o accounts lifetime parent) is = act_utf8 parent is.4
act_utf8 (Delegated o subject actor) is = (name_utf8 (who_of actor) (who_good actor is.4).1, act_utf8 subject is.3)

abbrev AreGoodActors : List (List ℕ) → Type 0
AreGoodActors names = (are_actors names ≡ true) × AreActors names

-- so are those behind the first one
later_actors : (names : List (List ℕ)) → AreGoodActors names → AreGoodActors (drop 1 names)
later_actors [] are = are
later_actors (name ∷ names) are =
    let sizes = both (nat_le (length (name ∷ names)) 8) (list_all (has_size 1 1024) (name ∷ names)) are.0 in
    let few : length names ≤ 8 = omega (arith, leb-true (length (name ∷ names)) 8 sizes.0) in (
      and_from (nat_le (length names) 8) (list_all (has_size 1 1024) names) (le-leb (length names) 8 few)
          (both (has_size 1 1024 name) (list_all (has_size 1 1024) names) sizes.1).1,
      record { few = few; utf8 = are.1.utf8.1 },
    )

may_act_good : (chain : Chain) → IsGoodChain chain → AreGoodActors (may_act_of chain)
may_act_good (Root o source) is = (is.1.may_act, is.1.few)
may_act_good (Narrowed o boundary parent) is = may_act_good parent is.3
may_act_good (Impersonated o accounts lifetime parent) is = (refl, record { few = omega arith; utf8 = tt })
may_act_good (Delegated o subject actor) is = later_actors (may_act_of subject) (may_act_good subject is.3)

abbrev AreGoodPools : List PoolName → Type 0
AreGoodPools pools = (list_all is_pool_name pools ≡ true) × AllByRecursion IsExactPool pools

pools_both : (xs ys : List PoolName) → AreGoodPools xs → AreGoodPools ys → AreGoodPools (xs ++ ys)
pools_both xs ys are more = (all_both is_pool_name xs ys are.0 more.0, all_append IsExactPool xs ys are.1 more.1)

pools_good : (chain : Chain) → IsGoodChain chain → AreGoodPools (pools_of chain)
pools_good (Root o source) is = (pools_formed source.who is.1.who, pools_exact source.who is.1.exact)
pools_good (Narrowed o boundary parent) is = pools_good parent is.3
pools_good (Impersonated o accounts lifetime parent) is = pools_good parent is.4
pools_good (Delegated o subject actor) is = pools_both (pools_of subject) (pools_of actor) (pools_good subject is.3) (pools_good actor is.4)

pub accounts_formed : (chain : Chain) → IsGoodChain chain → list_all is_account (accounts_of chain) ≡ true
accounts_formed (Root o source) is = refl
accounts_formed (Narrowed o boundary parent) is = accounts_formed parent is.3
accounts_formed (Impersonated o accounts lifetime parent) is =
    all_both is_account (accounts_of parent) accounts (accounts_formed parent is.4) is.2
accounts_formed (Delegated o subject actor) is =
    all_both is_account (accounts_of subject) (accounts_of actor) (accounts_formed subject is.3) (accounts_formed actor is.4)

-- words behind others
more_words : (scopes : List (List (List ℕ))) (words : List (List ℕ)) → AllByRecursion AreUtf8 scopes → are_words words ≡ true
    → AllByRecursion AreUtf8 (scopes ++ words ∷ [])
more_words scopes words all is = all_append AreUtf8 scopes (words ∷ []) all (words_utf8 words is, tt)

scopes_exact : (chain : Chain) → IsGoodChain chain → AllByRecursion AreUtf8 (scopes_of chain)
scopes_exact (Root o source) is = (words_utf8 o.words is.0.words, tt)
scopes_exact (Narrowed o boundary parent) is = more_words (scopes_of parent) o.words (scopes_exact parent is.3) is.0.words
scopes_exact (Impersonated o accounts lifetime parent) is = more_words (scopes_of parent) o.words (scopes_exact parent is.4) is.0.words
scopes_exact (Delegated o subject actor) is = more_words (scopes_of subject) o.words (scopes_exact subject is.3) is.0.words

-- what all of a list and the one behind it pass
passed_last : {A : Type 0} (test : A → Bool) (xs : List A) (x : A) → list_all test xs ≡ true → test x ≡ true → list_all test (xs ++ x ∷ []) ≡ true
passed_last test xs x all is = rw (list_all-append test xs (x ∷ []), all, is) refl

scopes_formed : (chain : Chain) → IsGoodChain chain → list_all are_words (scopes_of chain) ≡ true
scopes_formed (Root o source) is = rw is.0.words refl
scopes_formed (Narrowed o boundary parent) is = passed_last are_words (scopes_of parent) o.words (scopes_formed parent is.3) is.0.words
scopes_formed (Impersonated o accounts lifetime parent) is = passed_last are_words (scopes_of parent) o.words (scopes_formed parent is.4) is.0.words
scopes_formed (Delegated o subject actor) is = passed_last are_words (scopes_of subject) o.words (scopes_formed subject is.3) is.0.words

some_last : (scopes : List (List (List ℕ))) (words : List (List ℕ)) → nat_le 1 (length (scopes ++ words ∷ [])) ≡ true
some_last scopes words = le-leb 1 (length (scopes ++ words ∷ [])) (omega (arith, length-append scopes (words ∷ [])))

scopes_some : (chain : Chain) → nat_le 1 (length (scopes_of chain)) ≡ true
scopes_some (Root o source) = refl
scopes_some (Narrowed o boundary parent) = some_last (scopes_of parent) o.words
scopes_some (Impersonated o accounts lifetime parent) = some_last (scopes_of parent) o.words
scopes_some (Delegated o subject actor) = some_last (scopes_of subject) o.words

with_exact : (bounds : List Boundary) (boundary : Option Boundary) → AllByRecursion IsExactBoundary bounds → IfSome boundary IsExactBoundary
    → AllByRecursion IsExactBoundary (with_boundary bounds boundary)
with_exact bounds None all is = all
with_exact bounds (Some boundary) all is = all_append IsExactBoundary bounds (boundary ∷ []) all (is, tt)

pub bounds_exact : (chain : Chain) → IsGoodChain chain → AllByRecursion IsExactBoundary (bounds_of chain)
bounds_exact (Root o source) is = tt
bounds_exact (Narrowed o boundary parent) is = with_exact (bounds_of parent) boundary (bounds_exact parent is.3) is.1
bounds_exact (Impersonated o accounts lifetime parent) is = bounds_exact parent is.4
bounds_exact (Delegated o subject actor) is = bounds_exact subject is.3

bounds_each : (bounds : List Boundary) → AllByRecursion IsExactBoundary bounds → list_all is_boundary bounds ≡ true
bounds_each [] all = refl
bounds_each (boundary ∷ bounds) all = rw (all.0.form, bounds_each bounds all.1) refl

-- ---- all of it

pub exact-good : (issuer : List ℕ) (n : ℕ) (chain : Chain) → n < 2 ^ 32 → IsUtf8 issuer → IsGood n chain → IsExact issuer (facts_of chain)
unfolding facts_of
exact-good issuer n chain low utf8 good =
    let who = who_good chain good.form in
    record {
      issuer_utf8 = utf8;
      number = omega (arith, good.number, low);
      sub = name_utf8 (who_of chain) who.1;
      iat = omega (arith, (own_good chain good.form).at);
      exp = omega (arith, exp_low chain good.form);
      who = who.1;
      act = record { few = omega (arith, act_few chain, good.deep); utf8 = act_utf8 chain good.form };
      may_act = (may_act_good chain good.form).1;
      pools = (pools_good chain good.form).1;
      accounts = accounts_utf8 (accounts_of chain) (accounts_formed chain good.form);
      scopes = scopes_exact chain good.form;
      bounds = bounds_exact chain good.form;
    }

lower : (n k : ℕ) → n < k → nat_lt n k ≡ true
lower n k h = (Decides-ltb n k).1 h

pub formed-good : (n : ℕ) (chain : Chain) → n < 2 ^ 32 → IsGood n chain → is_facts (facts_of chain) ≡ true
unfolding facts_of is_facts
formed-good n chain low good =
    let who = who_good chain good.form in
    rw (
      lower (own chain).number (2 ^ 32) (omega (arith, good.number, low)),
      name_formed (who_of chain) who.0,
      lower (own chain).at (2 ^ 53) (omega (arith, (own_good chain good.form).at)),
      lower (exp_of chain) (2 ^ 53) (exp_low chain good.form),
      who.0,
      le-leb (length (act_of chain)) 8 (omega (arith, act_few chain, good.deep)),
      act_formed chain good.form,
      (may_act_good chain good.form).0,
      (pools_good chain good.form).0,
      accounts_formed chain good.form,
      scopes_some chain,
      scopes_formed chain good.form,
      bounds_each (bounds_of chain) (bounds_exact chain good.form),
    ) refl
