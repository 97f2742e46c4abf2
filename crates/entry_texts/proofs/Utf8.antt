-- The texts in the tree of an exact entry are UTF-8.
use Rattle.std.proofs.Common.{◌≡◌, ℕ, true, List, [], ◌∷◌, Option, None, Some, option_map, IfSome, refl, codes}
use Rattle.std.specs.List.{list_all}
use Rattle.std.specs.Str.{IsUtf8}
use Rattle.std.proofs.lemmas.Bool.{and_parts}
use Rattle.std.proofs.lemmas.Str.{IsUtf8-append, IsUtf8-nil}
use Rattle.json.proofs.Printed.Utf8.{IsUtf8-are_ascii}
use Rattle.serde_json.specs.Data.{number, unsigned, string, no_members, member}
use Rattle.json_text.specs.Clean.{HasUtf8, ItemsHaveUtf8}
use Rattle.iam_names.specs.Audience.{is_audience}
use Rattle.iam_names.specs.Forms.{is_account, is_id, is_project, is_scope_word}
use Rattle.iam_names.specs.PoolName.{is_pool_name}
use Rattle.iam_names.specs.declared.audience.Audience.{Audience}
use Rattle.boundary.specs.Exact.{IsExactBoundary}
use Rattle.boundary.specs.Written.{items, boundary_data}
use Rattle.boundary.specs.declared.rules.Boundary.{Boundary}
use Rattle.boundary.proofs.WrittenBoundaries.{boundary_utf8}
use Rattle.boundary.proofs.WrittenParts.{optional_utf8}
use Rattle.access_token.specs.Forms.{are_words}
use Rattle.access_token.specs.Payload.{words_text}
use Rattle.command_texts.proofs.NamesInAscii.{project_utf8, id_utf8, word_utf8, account_utf8}
use Rattle.command_texts.proofs.WrittenTexts.{command_utf8}
use Rattle.links.specs.declared.entry.Entry.{Entry}
use Rattle.links.specs.declared.entry.Entry.TheVariants.{Put, Federated, Narrow, Impersonate, Delegate}
use Rattle.links.specs.declared.entry.Exchange.{Exchange}
use Rattle.links.specs.declared.entry.Narrowing.{Narrowing}
use Rattle.links.specs.declared.entry.Impersonation.{Impersonation}
use Rattle.links.specs.declared.entry.Delegation.{Delegation}
use Rattle.entry_texts.specs.Exact.{IsExactExchange, IsExactNarrowing, IsExactImpersonation, IsExactDelegation, IsExactEntry}
use Rattle.entry_texts.specs.Written.{provider_text, exchange_data, narrowing_data, impersonation_data, delegation_data, entry_data}
use Rattle.entry_texts.proofs.PartsBack.{words_all}

words_utf8 : (words : List (List ℕ)) → list_all is_scope_word words ≡ true → IsUtf8 (words_text words)
words_utf8 [] all = IsUtf8-nil
words_utf8 (word ∷ []) all = word_utf8 word (and_parts (is_scope_word word) true all).0
words_utf8 (word ∷ next ∷ words) all =
    let parts = and_parts (is_scope_word word) (list_all is_scope_word (next ∷ words)) all in
    IsUtf8-append word (32 ∷ words_text (next ∷ words)) (word_utf8 word parts.0)
    (IsUtf8-append (32 ∷ []) (words_text (next ∷ words)) (IsUtf8-are_ascii (32 ∷ []) refl) (words_utf8 (next ∷ words) parts.1))

scope_utf8 : (words : List (List ℕ)) → are_words words ≡ true → IsUtf8 (words_text words)
scope_utf8 words h = words_utf8 words (words_all words h)

provider_utf8 : (name : Audience) → is_audience name ≡ true → IsUtf8 (provider_text name)
provider_utf8 name h =
    let parts = and_parts (is_pool_name name.pool) (is_id name.provider) h in
    let pool = and_parts (is_project name.pool.project) (is_id name.pool.pool) parts.0 in
    let slash = IsUtf8-are_ascii (codes "/") refl in
    IsUtf8-append name.pool.project _ (project_utf8 name.pool.project pool.0)
    (IsUtf8-append (codes "/") _ slash
    (IsUtf8-append name.pool.pool _ (id_utf8 name.pool.pool pool.1)
    (IsUtf8-append (codes "/") name.provider slash (id_utf8 name.provider parts.1))))

exchange_utf8 : (x : Exchange) → IsExactExchange x → HasUtf8 (exchange_data x)
unfolding exchange_data
exchange_utf8 x is = (
  IsUtf8-are_ascii (codes "at") refl,
  tt,
  (
    IsUtf8-are_ascii (codes "kind") refl,
    IsUtf8-are_ascii (codes "federated") refl,
    (
      IsUtf8-are_ascii (codes "provider") refl,
      provider_utf8 x.provider is.provider,
      (
        IsUtf8-are_ascii (codes "scope") refl,
        scope_utf8 x.scope is.form.words,
        (IsUtf8-are_ascii (codes "token") refl, is.token, tt),
      ),
    ),
  ),
)

rules_utf8 : (o : Option Boundary) → IfSome o IsExactBoundary → IfSome (option_map boundary_data o) HasUtf8
rules_utf8 None is = tt
rules_utf8 (Some boundary) is = boundary_utf8 boundary is

narrowing_utf8 : (x : Narrowing) → IsExactNarrowing x → HasUtf8 (narrowing_data x)
unfolding narrowing_data
narrowing_utf8 x is = (
  IsUtf8-are_ascii (codes "at") refl,
  tt,
  optional_utf8 (codes "boundary") (option_map boundary_data x.boundary)
      (member (codes "kind") (string (codes "narrow")) (member (codes "parent") (number (unsigned x.parent)) (member (codes "scope") (string (words_text x.scope)) no_members)))
      (IsUtf8-are_ascii (codes "boundary") refl)
      (rules_utf8 x.boundary is.form.boundary) (
        IsUtf8-are_ascii (codes "kind") refl,
        IsUtf8-are_ascii (codes "narrow") refl,
        (
          IsUtf8-are_ascii (codes "parent") refl,
          tt,
          (IsUtf8-are_ascii (codes "scope") refl, scope_utf8 x.scope is.form.words, tt),
        ),
      ),
)

accounts_utf8 : (accounts : List (List ℕ)) → list_all is_account accounts ≡ true → ItemsHaveUtf8 (items string accounts)
accounts_utf8 [] all = tt
accounts_utf8 (account ∷ accounts) all =
    let parts = and_parts (is_account account) (list_all is_account accounts) all in
    (account_utf8 account parts.0, accounts_utf8 accounts parts.1)

impersonation_utf8 : (x : Impersonation) → IsExactImpersonation x → HasUtf8 (impersonation_data x)
unfolding impersonation_data
impersonation_utf8 x is = (
  IsUtf8-are_ascii (codes "accounts") refl,
  accounts_utf8 x.accounts is.form.accounts,
  (
    IsUtf8-are_ascii (codes "at") refl,
    tt,
    (
      IsUtf8-are_ascii (codes "kind") refl,
      IsUtf8-are_ascii (codes "impersonate") refl,
      (
        IsUtf8-are_ascii (codes "lifetime") refl,
        tt,
        (
          IsUtf8-are_ascii (codes "parent") refl,
          tt,
          (IsUtf8-are_ascii (codes "scope") refl, scope_utf8 x.scope is.form.words, tt),
        ),
      ),
    ),
  ),
)

delegation_utf8 : (x : Delegation) → IsExactDelegation x → HasUtf8 (delegation_data x)
unfolding delegation_data
delegation_utf8 x is = (
  IsUtf8-are_ascii (codes "actor") refl,
  tt,
  (
    IsUtf8-are_ascii (codes "at") refl,
    tt,
    (
      IsUtf8-are_ascii (codes "kind") refl,
      IsUtf8-are_ascii (codes "delegate") refl,
      (
        IsUtf8-are_ascii (codes "scope") refl,
        scope_utf8 x.scope is.form.words,
        (IsUtf8-are_ascii (codes "subject") refl, tt, tt),
      ),
    ),
  ),
)

pub entry_utf8 : (e : Entry) → IsExactEntry e → HasUtf8 (entry_data e)
entry_utf8 (Put command) is = command_utf8 command is
entry_utf8 (Federated x) is = exchange_utf8 x is
entry_utf8 (Narrow x) is = narrowing_utf8 x is
entry_utf8 (Impersonate x) is = impersonation_utf8 x is
entry_utf8 (Delegate x) is = delegation_utf8 x is
