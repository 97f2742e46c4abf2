-- An entry that is read from texts of UTF-8 is exact.
use Rattle.std.proofs.Common.{◌≡◌, ◌≤◌, ◌<◌, ◌^◌, ℕ, ◌==◌, Bool, true, false, ◌&&◌, List, length, Option, None, Some, option_map, option_and_then, IfSome, refl, sym, ap, subst, ◌∙◌, nat_le, codes}
use Rattle.std.specs.Prelude.{if◌then◌else◌}
use Rattle.std.specs.List.{list_all, slice_split}
use Rattle.std.specs.Result.{result_ok}
use Rattle.std.specs.Str.{IsUtf8, bytes_eq}
use Rattle.std.proofs.lemmas.Bool.{and_parts, leb-true, ltb-true}
use Rattle.std.proofs.lemmas.Option.{same_Some, cond_some, option_and_then_some}
use Rattle.base_types.specs.Forms.{passing}
use Rattle.serde_json.specs.Data.{Data}
use Rattle.serde_json.specs.Find.{get, as_str, as_array}
use Rattle.json_text.specs.Arrays.{each, list_at}
use Rattle.json_text.specs.Clean.{HasUtf8}
use Rattle.json_text.specs.Document.{text_at, whole_number_at}
use Rattle.json_text.proofs.FoundTexts.{get_utf8, text_at_utf8}
use Rattle.iam_names.specs.Audience.{is_audience}
use Rattle.iam_names.specs.Cuts.{cut_at}
use Rattle.iam_names.specs.Forms.{is_account, is_id, is_project}
use Rattle.iam_names.specs.PoolName.{pool_of, is_pool_name}
use Rattle.iam_names.specs.declared.audience.Audience.{Audience}
use Rattle.iam_names.specs.declared.pool_name.PoolName.{PoolName}
use Rattle.boundary.specs.declared.rules.Boundary.{Boundary}
use Rattle.boundary.specs.Exact.{IsExactBoundary}
use Rattle.boundary.specs.Written.{listed_boundary}
use Rattle.boundary.proofs.Formed.{each-formed}
use Rattle.boundary.proofs.Options.{result_ok-is}
use Rattle.access_token.specs.Forms.{are_words}
use Rattle.access_token.specs.Parts.{account_in, scope_in, words_in}
use Rattle.access_token.proofs.Options.{formed-is, option_map_some, bound}
use Rattle.sts_admin.specs.Commands.{command_of}
use Rattle.command_texts.proofs.ReadCommands.{command_exact}
use Rattle.command_texts.proofs.ReadParts.{if_there}
use Rattle.links.specs.declared.entry.Entry.{Entry}
use Rattle.links.specs.declared.entry.Entry.TheVariants.{Put, Federated, Narrow, Impersonate, Delegate}
use Rattle.links.specs.declared.entry.Exchange.{Exchange}
use Rattle.links.specs.declared.entry.Narrowing.{Narrowing}
use Rattle.links.specs.declared.entry.Impersonation.{Impersonation}
use Rattle.links.specs.declared.entry.Delegation.{Delegation}
use Rattle.entry_texts.specs.Exact.{IsExactExchange, IsExactNarrowing, IsExactImpersonation, IsExactDelegation, IsExactEntry}
use Rattle.entry_texts.specs.Parts.{is_moment, moment_in, is_link_number, link_number_in, is_lifetime, lifetime_in, words_at, provider_of_text, provider_in, boundary_of, boundary_in, are_one_to_five, accounts_in, exchange_in, narrowing_in, impersonation_in, delegation_in, entry_of_kind, entry_in}
use Rattle.entry_texts.proofs.BoundariesExact.{boundary_exact}

-- ---- the parts

moment_is : (d : Data) (at : ℕ) → moment_in d ≡ Some at → at ≤ 200_000_000_000
moment_is d at h = leb-true at 200_000_000_000 (formed-is is_moment (whole_number_at (codes "at") d) at h).1

number_is : (name : List ℕ) (d : Data) (n : ℕ) → link_number_in name d ≡ Some n → n < 2 ^ 32
number_is name d n h = ltb-true n (2 ^ 32) (formed-is is_link_number (whole_number_at name d) n h).1

lifetime_is : (d : Data) (seconds : ℕ) → lifetime_in d ≡ Some seconds → (1 ≤ seconds) × (seconds ≤ 3600)
lifetime_is d seconds h =
    let parts = and_parts (nat_le 1 seconds) (nat_le seconds 3600) (formed-is is_lifetime (whole_number_at (codes "lifetime") d) seconds h).1 in
    (leb-true 1 seconds parts.0, leb-true seconds 3600 parts.1)

words_are : (d : Data) (words : List (List ℕ)) → words_at d ≡ Some words → are_words words ≡ true
words_are d words h =
    option_and_then_some scope_in (get (codes "scope") d) words h (λ found there k.
    option_and_then_some words_in (as_str found) words k (λ text text_is last.
    (formed-is are_words (Some (slice_split (λ byte. byte == 32) text)) words last).1))

passed : {A : Type 0} (test : A → Bool) (x y : A) → passing test x ≡ Some y → test y ≡ true
passed test x y h = (formed-is test (Some x) y h).1

pool_is : (project pool : List ℕ) (name : PoolName) → pool_of project pool ≡ Some name → is_pool_name name ≡ true
pool_is project pool name h =
    let told = cond_some (is_project project && is_id pool) (record { project = project; pool = pool }) name h in
    ap is_pool_name (sym told.1) ∙ told.0

provider_is : (text : List ℕ) (name : Audience) → provider_of_text text ≡ Some name → is_audience name ≡ true
unfolding provider_of_text
provider_is text name h =
    bound _ (cut_at 47 text) name h (λ first first_is h.
    bound _ (cut_at 47 first.1) name h (λ second second_is h.
    bound _ (pool_of first.0 second.0) name h (λ pool is_pool h.
    bound _ (passing is_id second.1) name h (λ provider is_provider h.
    ap is_audience (sym (same_Some _ name h)) ∙ rw (pool_is first.0 second.0 pool is_pool, passed is_id second.1 provider is_provider) refl))))

provider_at_is : (d : Data) (name : Audience) → provider_in d ≡ Some name → is_audience name ≡ true
provider_at_is d name h = option_and_then_some provider_of_text (text_at (codes "provider") d) name h (λ text there k. provider_is text name k)

rules_are : (o : Option Data) (boundary : Option Boundary) → IfSome o HasUtf8 → boundary_of o ≡ Some boundary → IfSome boundary IsExactBoundary
rules_are None boundary u h = subst (λ (b : Option Boundary). IfSome b IsExactBoundary) (same_Some None boundary h) tt
rules_are (Some d) boundary u h =
    option_map_some Some (listed_boundary d) boundary h (λ b there whole.
    subst (λ (found : Option Boundary). IfSome found IsExactBoundary) whole (boundary_exact d b u there))

account_is : (d : Data) (account : List ℕ) → account_in d ≡ Some account → is_account account ≡ true
account_is d account h = (formed-is is_account (as_str d) account h).1

-- 1 to 5 service accounts
record AreAccounts (accounts : List (List ℕ)) : Type 0 where
  some : 1 ≤ length accounts
  few : length accounts ≤ 5
  form : list_all is_account accounts ≡ true

accounts_are : (d : Data) (accounts : List (List ℕ)) → accounts_in d ≡ Some accounts → AreAccounts accounts
accounts_are d accounts h =
    let found = formed-is are_one_to_five (list_at account_in (codes "accounts") d) accounts h in
    let size = and_parts (nat_le 1 (length accounts)) (nat_le (length accounts) 5) found.1 in
    record {
      some = leb-true 1 (length accounts) size.0;
      few = leb-true (length accounts) 5 size.1;
      form = option_and_then_some (each account_in) (option_and_then as_array (get (codes "accounts") d)) accounts found.0 (λ ds there k. (each-formed is_account account_in account_is ds accounts k).0);
    }

-- ---- the links' entries

exchange_exact : (d : Data) (x : Exchange) → HasUtf8 d → exchange_in d ≡ Some x → IsExactExchange x
unfolding exchange_in
exchange_exact d x u h =
    bound _ (moment_in d) x h (λ at at_is h.
    bound _ (provider_in d) x h (λ provider provider_is h.
    bound _ (words_at d) x h (λ scope scope_is h.
    bound _ (text_at (codes "token") d) x h (λ token token_is h.
    let told : IsExactExchange (record { provider = provider; token = token; scope = scope; at = at }) = record {
      form = record { moment = moment_is d at at_is; words = words_are d scope scope_is };
      provider = provider_at_is d provider provider_is;
      token = if_there IsUtf8 (text_at (codes "token") d) token (text_at_utf8 (codes "token") d u) token_is;
    } in
    subst IsExactExchange (same_Some _ x h) told))))

narrowing_exact : (d : Data) (x : Narrowing) → HasUtf8 d → narrowing_in d ≡ Some x → IsExactNarrowing x
unfolding narrowing_in
narrowing_exact d x u h =
    bound _ (moment_in d) x h (λ at at_is h.
    bound _ (boundary_in d) x h (λ boundary boundary_is h.
    bound _ (link_number_in (codes "parent") d) x h (λ parent parent_is h.
    bound _ (words_at d) x h (λ scope scope_is h.
    let told : IsExactNarrowing (record { parent = parent; boundary = boundary; scope = scope; at = at }) = record {
      form = record {
        moment = moment_is d at at_is;
        words = words_are d scope scope_is;
        boundary = rules_are (get (codes "boundary") d) boundary (get_utf8 (codes "boundary") d u) boundary_is;
      };
      parent = number_is (codes "parent") d parent parent_is;
    } in
    subst IsExactNarrowing (same_Some _ x h) told))))

impersonation_exact : (d : Data) (x : Impersonation) → impersonation_in d ≡ Some x → IsExactImpersonation x
unfolding impersonation_in
impersonation_exact d x h =
    bound _ (accounts_in d) x h (λ accounts accounts_is h.
    bound _ (moment_in d) x h (λ at at_is h.
    bound _ (lifetime_in d) x h (λ lifetime lifetime_there h.
    bound _ (link_number_in (codes "parent") d) x h (λ parent parent_is h.
    bound _ (words_at d) x h (λ scope scope_is h.
    let are = accounts_are d accounts accounts_is in
    let lasts = lifetime_is d lifetime lifetime_there in
    let told : IsExactImpersonation (record { parent = parent; accounts = accounts; scope = scope; lifetime = lifetime; at = at }) = record {
      form = record {
        moment = moment_is d at at_is;
        words = words_are d scope scope_is;
        some = are.some;
        few = are.few;
        accounts = are.form;
        lasts = lasts.0;
        short = lasts.1;
      };
      parent = number_is (codes "parent") d parent parent_is;
    } in
    subst IsExactImpersonation (same_Some _ x h) told)))))

delegation_exact : (d : Data) (x : Delegation) → delegation_in d ≡ Some x → IsExactDelegation x
unfolding delegation_in
delegation_exact d x h =
    bound _ (link_number_in (codes "actor") d) x h (λ actor actor_is h.
    bound _ (moment_in d) x h (λ at at_is h.
    bound _ (words_at d) x h (λ scope scope_is h.
    bound _ (link_number_in (codes "subject") d) x h (λ subject subject_is h.
    let told : IsExactDelegation (record { subject = subject; actor = actor; scope = scope; at = at }) = record {
      form = record { moment = moment_is d at at_is; words = words_are d scope scope_is };
      subject = number_is (codes "subject") d subject subject_is;
      actor = number_is (codes "actor") d actor actor_is;
    } in
    subst IsExactDelegation (same_Some _ x h) told))))

-- ---- the entry

put_exact : (d : Data) (e : Entry) → HasUtf8 d → option_map Put (result_ok (command_of d)) ≡ Some e → IsExactEntry e
put_exact d e u h =
    option_map_some Put (result_ok (command_of d)) e h (λ command there whole.
    subst IsExactEntry whole (command_exact d command u (result_ok-is (command_of d) command there)))

federated_exact : (d : Data) (e : Entry) → HasUtf8 d → option_map Federated (exchange_in d) ≡ Some e → IsExactEntry e
federated_exact d e u h = option_map_some Federated (exchange_in d) e h (λ x there whole. subst IsExactEntry whole (exchange_exact d x u there))

narrow_exact : (d : Data) (e : Entry) → HasUtf8 d → option_map Narrow (narrowing_in d) ≡ Some e → IsExactEntry e
narrow_exact d e u h = option_map_some Narrow (narrowing_in d) e h (λ x there whole. subst IsExactEntry whole (narrowing_exact d x u there))

impersonate_exact : (d : Data) (e : Entry) → option_map Impersonate (impersonation_in d) ≡ Some e → IsExactEntry e
impersonate_exact d e h = option_map_some Impersonate (impersonation_in d) e h (λ x there whole. subst IsExactEntry whole (impersonation_exact d x there))

delegate_exact : (d : Data) (e : Entry) → option_map Delegate (delegation_in d) ≡ Some e → IsExactEntry e
delegate_exact d e h = option_map_some Delegate (delegation_in d) e h (λ x there whole. subst IsExactEntry whole (delegation_exact d x there))

either : (b : Bool) (one other : Option Entry) (e : Entry) → (if b then one else other) ≡ Some e → (one ≡ Some e → IsExactEntry e) → (other ≡ Some e → IsExactEntry e) → IsExactEntry e
either true one other e h first second = first h
either false one other e h first second = second h

kind_exact : (kind : List ℕ) (d : Data) (e : Entry) → HasUtf8 d → entry_of_kind kind d ≡ Some e → IsExactEntry e
unfolding entry_of_kind
kind_exact kind d e u h =
    either (bytes_eq kind (codes "federated")) _ _ e h (federated_exact d e u) (λ h.
    either (bytes_eq kind (codes "narrow")) _ _ e h (narrow_exact d e u) (λ h.
    either (bytes_eq kind (codes "impersonate")) _ _ e h (impersonate_exact d e) (λ h.
    either (bytes_eq kind (codes "delegate")) _ _ e h (delegate_exact d e) (put_exact d e u))))

pub entry_exact : (d : Data) (e : Entry) → HasUtf8 d → entry_in d ≡ Some e → IsExactEntry e
entry_exact d e u h = option_and_then_some (λ kind. entry_of_kind kind d) (text_at (codes "kind") d) e h (λ kind there k. kind_exact kind d e u k)
