-- The links that a lawful journal leaves have their forms.
use Rattle.std.proofs.Common.{◌≡◌, ◌≤◌, ◌<◌, ◌+◌, ℕ, List, [], ◌∷◌, ◌++◌, length, Bool, true, false, not, refl, sym, ◌∙◌, subst, arith, length-append}
use Rattle.std.specs.Prelude.{Option, None, Some, Result, Ok, Err, option_map, if◌then◌else◌}
use Rattle.std.specs.Result.{result_ok}
use Rattle.std.specs.List.{AllByRecursion}
use Rattle.std.specs.Str.{bytes_eq, IsUtf8}
use Rattle.std.proofs.lemmas.Bool.{and_from}
use Rattle.base_types.specs.Named.{value_at, put}
use Rattle.base_types.specs.Rules.{fails_if}
use Rattle.base_types.specs.Steps.{◌>>=◌, needed}
use Rattle.iam_names.specs.Audience.{audience_text}
use Rattle.access_token.specs.Forms.{are_words}
use Rattle.service_config.specs.declared.config.Config.{Config}
use Rattle.service_config.specs.declared.config.StartProvider.{StartProvider}
use Rattle.service_config.specs.Configuration.{provider_name}
use Rattle.service_config.specs.Formed.{IsFormedConfig, IsFormedStart}
use Rattle.pools.specs.Providers.{ProviderView, IsFormed}
use Rattle.pools.proofs.FormedProviders.{formed_subject}
use Rattle.service_view.specs.Commands.{IsCommand}
use Rattle.service_view.specs.View.{View, start_view, view_after}
use Rattle.service_view.specs.declared.command.Command.{Command}
use Rattle.service_view.specs.declared.command.Command.TheVariants as command
use Rattle.links.specs.declared.entry.Entry.{Entry}
use Rattle.links.specs.declared.entry.Entry.TheVariants as entry
use Rattle.links.specs.declared.entry.Exchange.{Exchange}
use Rattle.entry_rules.specs.declared.fault.RuleCode.{RuleCode}
use Rattle.entry_rules.specs.declared.fault.RuleCode.TheVariants.{E14, E15, E24, E25, I10, I11}
use Rattle.subject_token.specs.declared.source.Source.{Source}
use Rattle.links.specs.Chain.{Link, Chain, chains_of, own_at}
use Rattle.links.specs.Entries.{IsEntry, IsExchange}
use Rattle.links.specs.Licence.{first_unlicensed, is_deep, narrow_rules, impersonation_rules, delegation_rules, size_rule}
use Rattle.links.specs.Licence.{Licensed, LawfulFrom, Lawful, Reached}
use Rattle.subject_token.specs.Sources.{passed, source_of}
use Rattle.links.specs.State.{Content, provider_enabled, source_at, federated_link, narrow_link, impersonate_link, delegate_link}
use Rattle.links.specs.State.{link_of, made, with_link, after, start_of, start_provider, state_after, content_of, chain, view_behind}
use Rattle.links.proofs.Chains.{length-chains_of}
use Rattle.links.proofs.Good.{IsGood, IsGoodSource, IsWhole, AreGood, AreSound}
use Rattle.links.proofs.Sound.{IsNext, JoinsAll, all_pass, rule_passes, federated_joins, narrow_joins, impersonate_joins, delegate_joins}
use Rattle.links.proofs.Sound.{good_at, good_there, sound_with, chain_within}
use Rattle.links.proofs.SourceForms.{source_forms}

-- ---- the providers that are there

abbrev pub AreProviders : List (List ℕ × ProviderView) → Type 0
AreProviders rows = AllByRecursion (λ (row : List ℕ × ProviderView). IsFormed row.1) rows

found_by : (name : List ℕ) (row : List ℕ × ProviderView) (rows : List (List ℕ × ProviderView)) (here : Bool) (provider : ProviderView)
    → IsFormed row.1 → ((p : ProviderView) → value_at name rows ≡ Some p → IsFormed p) → (if here then Some row.1 else value_at name rows) ≡ Some provider
    → IsFormed provider
found_by name row rows true provider first more is = let same : row.1 ≡ provider = cc is in subst IsFormed same first
found_by name row rows false provider first more is = more provider is

-- a provider that is found has its form
found_formed : (name : List ℕ) (rows : List (List ℕ × ProviderView)) (provider : ProviderView) → AreProviders rows → value_at name rows ≡ Some provider
    → IsFormed provider
found_formed name [] provider all is = absurd (cc is)
found_formed name (row ∷ rows) provider all is =
    found_by name row rows (bytes_eq name row.0) provider all.0 (λ p there. found_formed name rows p all.1 there) is

put_by : (name : List ℕ) (provider : ProviderView) (row : List ℕ × ProviderView) (rows : List (List ℕ × ProviderView)) (here : Bool)
    → IsFormed provider → AreProviders (row ∷ rows) → AreProviders (put name provider rows)
    → AreProviders (if here then (name, provider) ∷ rows else row ∷ put name provider rows)
put_by name provider row rows true formed all more = (formed, all.1)
put_by name provider row rows false formed all more = (all.0, more)

put_formed : (name : List ℕ) (provider : ProviderView) (rows : List (List ℕ × ProviderView)) → IsFormed provider → AreProviders rows
    → AreProviders (put name provider rows)
put_formed name provider [] formed all = (formed, tt)
put_formed name provider (row ∷ rows) formed all = put_by name provider row rows (bytes_eq name row.0) formed all (put_formed name provider rows formed all.1)

command_providers : (view : View) (command : Command) → IsCommand command → AreProviders view.providers → AreProviders (view_after view command).providers
command_providers view (command.Pool pool disabled) form all = all
command_providers view (command.Provider provider) form all = put_formed (audience_text provider.name) provider view.providers form all
command_providers view (command.Account account disabled) form all = all
command_providers view (command.Role role permissions) form all = all
command_providers view (command.Scope word permissions) form all = all
command_providers view (command.Policy resource bindings) form all = all

entry_providers : (view : View) (e : Entry) → IsEntry e → AreProviders view.providers → AreProviders (view_behind view e).providers
entry_providers view (entry.Put command) form all = command_providers view command form all
entry_providers view (entry.Federated x) form all = all
entry_providers view (entry.Narrow x) form all = all
entry_providers view (entry.Impersonate x) form all = all
entry_providers view (entry.Delegate x) form all = all

start_providers_formed : (start : Option StartProvider) → IsFormedStart start → AreProviders (start_view (option_map start_provider start)).providers
start_providers_formed None formed = tt
start_providers_formed (Some start) formed = (formed_subject (provider_name start) _ (and_from _ _ formed.pool formed.id), tt)

-- ---- the source of an exchange

by_enabled : (enabled : Bool) (r : Result Source RuleCode) (s : Source) → passed (fails_if (not enabled) E15) r ≡ Ok s → r ≡ Ok s
by_enabled true r s is = is
by_enabled false r s is = absurd (cc is)

by_found : (c : Content) (x : Exchange) (found : Option ProviderView) (s : Source) → ((p : ProviderView) → found ≡ Some p → IsFormed p)
    → (needed E14 found >>= (λ p. passed (fails_if (not (provider_enabled c.view p)) E15) (source_of p x.token x.at))) ≡ Ok s → IsGoodSource s
by_found c x None s good is = absurd (cc is)
by_found c x (Some provider) s good is =
    source_forms provider x.token x.at s (good provider refl) (by_enabled (provider_enabled c.view provider) (source_of provider x.token x.at) s is)

-- ---- the link of an entry

next_is : (chains : List (Option Chain)) (link : Link) → link.at ≤ 200_000_000_000 → are_words link.words ≡ true → IsNext chains (own_at (length chains) link)
next_is chains link at words = record { number = refl; form = record { at = at; words = words } }

by_source : (chains : List (Option Chain)) (x : Exchange) (r : Result Source RuleCode) → IsExchange x → ((s : Source) → r ≡ Ok s → IsGoodSource s)
    → JoinsAll chains (option_map (federated_link x.scope x.at) (result_ok r))
by_source chains x (Err rule) form good = tt
by_source chains x (Ok s) form good = federated_joins chains _ s (next_is chains (federated_link x.scope x.at s) form.moment form.words) (good s refl)

-- a licensed entry records no link, or one whose chain has its form
entry_joins : (c : Content) (e : Entry) → AreProviders c.view.providers → AreGood 0 (chains_of c.links) → IsEntry e → Licensed c e
    → JoinsAll (chains_of c.links) (link_of c e)
unfolding first_unlicensed
entry_joins c (entry.Put command) providers all form licensed = tt
entry_joins c (entry.Federated x) providers all form licensed =
    let name = audience_text x.provider in
    by_source (chains_of c.links) x (source_at c x.provider x.token x.at) form (λ s there.
    by_found c x (value_at name c.view.providers) s (λ p at. found_formed name c.view.providers p providers at) there)
entry_joins c (entry.Narrow x) providers all form licensed =
    narrow_joins (chains_of c.links) _ x.parent x.boundary all (next_is (chains_of c.links) (narrow_link x) form.moment form.words) form.boundary
    (rule_passes (is_deep (made c (entry.Narrow x))) E24 (all_pass (narrow_rules c x ++ size_rule c (entry.Narrow x) E25 ∷ []) licensed).1.1.1.0)
entry_joins c (entry.Impersonate x) providers all form licensed =
    impersonate_joins (chains_of c.links) _ x.parent x.accounts x.lifetime all
    (next_is (chains_of c.links) (impersonate_link x) form.moment form.words) form.some form.accounts
    (rule_passes (is_deep (made c (entry.Impersonate x))) I10
    (all_pass (impersonation_rules c x ++ size_rule c (entry.Impersonate x) I11 ∷ []) licensed).1.1.1.0)
entry_joins c (entry.Delegate x) providers all form licensed =
    delegate_joins (chains_of c.links) _ x.subject x.actor all (next_is (chains_of c.links) (delegate_link x) form.moment form.words)
    (rule_passes (is_deep (made c (entry.Delegate x))) E24
    (all_pass (delegation_rules c x ++ size_rule c (entry.Delegate x) E25 ∷ []) licensed).1.1.1.1.0)

with_few : (links : List Link) (link : Option Link) → length (with_link links link) ≤ length links + 1
with_few links None = omega arith
with_few links (Some link) = omega (arith, length-append links (link ∷ []))

-- ---- the links of a journal

-- what is known of the state behind a journal
pub record Follows (c d : Content) (es : List Entry) : Type 0 where
  pub key : d.key ≡ c.key
  pub issuer : d.issuer ≡ c.issuer
  pub count : d.count ≡ c.count + length es
  pub few : length d.links ≤ length c.links + length es
  pub sound : AreProviders c.view.providers → LawfulFrom c es → AreSound (chains_of c.links) → AreSound (chains_of d.links)

pub follows : (c : Content) (es : List Entry) → Follows c (state_after c es) es
follows c [] = record { key = refl; issuer = refl; count = omega arith; few = omega arith; sound = λ providers lawful are. are }
follows c (e ∷ es) =
    let rest = follows (after c e) es in
    record {
      key = rest.key;
      issuer = rest.issuer;
      count = rest.count ∙ omega arith;
      few = omega (arith, rest.few, with_few c.links (link_of c e));
      sound = λ providers lawful are. rest.sound (entry_providers c.view e lawful.0.0 providers) lawful.1
          (sound_with c.links (link_of c e) are (entry_joins c e providers are.good lawful.0.0 lawful.0.1));
    }

-- ---- each state that is reached

-- what is known of each state
pub record IsKept (c : Content) : Type 0 where
  pub issuer : IsUtf8 c.issuer
  pub chains : AreSound (chains_of c.links)
  pub few : length c.links ≤ c.count

none_sound : AreSound (chains_of [])
unfolding chains_of
none_sound = record { good = tt; whole = λ n chain is. absurd (cc is) }

pub lawful_kept : (config : Config) (journal : List Entry) → IsFormedConfig config → Lawful config journal → IsKept (content_of config journal)
lawful_kept config journal formed lawful =
    let to = follows (start_of config) journal in
    record {
      issuer = subst IsUtf8 (sym to.issuer) formed.issuer.utf8;
      chains = to.sound (start_providers_formed config.start formed.start) lawful none_sound;
      few = omega (arith, to.few, to.count);
    }

pub reached_kept : (c : Content) → Reached c → IsKept c
reached_kept c is = subst IsKept (sym is.content) (lawful_kept is.config is.journal is.formed is.lawful)

-- ---- the chain of a number

pub good_of_chain : (c : Content) (n : ℕ) (found : Chain) → IsKept c → chain c n ≡ Some found → IsGood n found
good_of_chain c n found kept is = good_at (chains_of c.links) n found kept.chains.good is

pub within_of_chain : (c : Content) (n : ℕ) (found : Chain) → chain c n ≡ Some found → n < length c.links
within_of_chain c n found is = omega (arith, chain_within (chains_of c.links) n found is, length-chains_of c.links)

pub chain_of_number : (c : Content) (n : ℕ) → IsKept c → n < length c.links → (found : Chain) × (chain c n ≡ Some found)
chain_of_number c n kept within = good_there (chains_of c.links) n kept.chains.good (omega (arith, length-chains_of c.links))

-- what the chain goes on from stands at its number
pub whole_of_chain : (c : Content) (n : ℕ) (found : Chain) → IsKept c → chain c n ≡ Some found → IsWhole (chains_of c.links) found
whole_of_chain c n found kept is = kept.chains.whole n found is
