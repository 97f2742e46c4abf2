-- Each link of a lawful journal has its scope words in their form.
use Rattle.std.proofs.Common.{◌≡◌, ℕ, zero, suc, List, [], ◌∷◌, ◌++◌, true, sym, subst}
use Rattle.std.specs.Prelude.{IfSome, Option, None, Some, Result, Ok, Err, option_map}
use Rattle.std.specs.Result.{result_ok}
use Rattle.access_token.specs.Forms.{are_words}
use Rattle.boundary.specs.declared.rules.Boundary.{Boundary}
use Rattle.service_config.specs.declared.config.Config.{Config}
use Rattle.links.specs.declared.entry.Entry.{Entry}
use Rattle.links.specs.declared.entry.Entry.TheVariants.{Put, Federated, Narrow, Impersonate, Delegate}
use Rattle.links.specs.declared.entry.Exchange.{Exchange}
use Rattle.entry_rules.specs.declared.fault.RuleCode.{RuleCode}
use Rattle.subject_token.specs.declared.source.Source.{Source}
use Rattle.links.specs.Chain.{Chain, Kind, Link, Narrowed, Impersonated, Own, chain_at, chain_of_kind, chains_of, delegated, next_chain, own, own_at}
use Rattle.links.specs.Entries.{IsEntry, IsExchange}
use Rattle.links.specs.Licence.{Lawful, LawfulFrom, Reached}
use Rattle.links.specs.State.{Content, after, chain, content_of, federated_link, link_of, source_at, start_of, state_after, with_link}
use Rattle.links.proofs.Chains.{chains_of-last}

-- the link's own words are 1 to 16
HasWords : Chain → Type 0
HasWords found = are_words (own found).words ≡ true

AllHaveWords : List (Option Chain) → Type 0
AllHaveWords chains = (n : ℕ) (found : Chain) → chain_at chains n ≡ Some found → are_words (own found).words ≡ true

-- each link's own words are 1 to 16
abbrev pub HaveWords : Content → Type 0
HaveWords c = (n : ℕ) (found : Chain) → chain c n ≡ Some found → are_words (own found).words ≡ true

-- ---- a link more

last_has : (chains : List (Option Chain)) (last : Option Chain) (n : ℕ) (found : Chain) → AllHaveWords chains → IfSome last HasWords
    → chain_at (chains ++ last ∷ []) n ≡ Some found → are_words (own found).words ≡ true
unfolding AllHaveWords HasWords
last_has [] last zero found have words is = subst (λ (o : Option Chain). IfSome o (λ one. are_words (own one).words ≡ true)) is words
last_has [] last (suc n) found have words is = absurd (cc is)
last_has (first ∷ chains) last zero found have words is = have 0 found is
last_has (first ∷ chains) last (suc n) found have words is = last_has chains last n found (λ m one there. have (suc m) one there) words is

narrowed_has : (o : Own) (boundary : Option Boundary) (parent : Option Chain) → are_words o.words ≡ true → IfSome (option_map (Narrowed o boundary) parent) HasWords
unfolding HasWords
narrowed_has o boundary None words = tt
narrowed_has o boundary (Some parent) words = words

impersonated_has : (o : Own) (accounts : List (List ℕ)) (lifetime : ℕ) (parent : Option Chain) → are_words o.words ≡ true
    → IfSome (option_map (Impersonated o accounts lifetime) parent) HasWords
unfolding HasWords
impersonated_has o accounts lifetime None words = tt
impersonated_has o accounts lifetime (Some parent) words = words

delegated_has : (o : Own) (subject actor : Option Chain) → are_words o.words ≡ true → IfSome (delegated o subject actor) HasWords
unfolding HasWords
delegated_has o None actor words = tt
delegated_has o (Some subject) None words = tt
delegated_has o (Some subject) (Some actor) words = words

kind_has : (o : Own) (chains : List (Option Chain)) (kind : Kind) → are_words o.words ≡ true → IfSome (chain_of_kind o chains kind) HasWords
unfolding HasWords
kind_has o chains (Kind.Federated source) words = words
kind_has o chains (Kind.Narrow parent boundary) words = narrowed_has o boundary (chain_at chains parent) words
kind_has o chains (Kind.Impersonate parent accounts lifetime) words = impersonated_has o accounts lifetime (chain_at chains parent) words
kind_has o chains (Kind.Delegate subject actor) words = delegated_has o (chain_at chains subject) (chain_at chains actor) words

link_has : (links : List Link) (link : Option Link) → AllHaveWords (chains_of links) → IfSome link (λ one. are_words one.words ≡ true)
    → AllHaveWords (chains_of (with_link links link))
unfolding AllHaveWords
link_has links None have words = have
link_has links (Some link) have words =
    subst AllHaveWords (sym (chains_of-last links link)) (λ n found is.
    last_has (chains_of links) (next_chain (chains_of links) link) n found have (kind_has (own_at _ link) (chains_of links) link.kind words) is)

-- ---- the links of a journal

source_has : (x : Exchange) (found : Result Source RuleCode) → IsExchange x
    → IfSome (option_map (federated_link x.scope x.at) (result_ok found)) (λ one. are_words one.words ≡ true)
source_has x (Ok source) form = form.words
source_has x (Err rule) form = tt

entry_has : (c : Content) (e : Entry) → IsEntry e → IfSome (link_of c e) (λ one. are_words one.words ≡ true)
entry_has c (Put command) form = tt
entry_has c (Federated x) form = source_has x (source_at c x.provider x.token x.at) form
entry_has c (Narrow x) form = form.words
entry_has c (Impersonate x) form = form.words
entry_has c (Delegate x) form = form.words

after_have : (c : Content) (es : List Entry) → AllHaveWords (chains_of c.links) → LawfulFrom c es → AllHaveWords (chains_of (state_after c es).links)
after_have c [] have lawful = have
after_have c (e ∷ es) have lawful = after_have (after c e) es (link_has c.links (link_of c e) have (entry_has c e lawful.0.0)) lawful.1

none_have : AllHaveWords (chains_of [])
unfolding chains_of AllHaveWords
none_have = λ n found is. cc is

pub lawful_words : (config : Config) (journal : List Entry) → Lawful config journal → HaveWords (content_of config journal)
unfolding AllHaveWords
lawful_words config journal lawful = after_have (start_of config) journal none_have lawful

pub reached_words : (c : Content) → Reached c → HaveWords c
reached_words c is = subst HaveWords (sym is.content) (lawful_words is.config is.journal is.lawful)
