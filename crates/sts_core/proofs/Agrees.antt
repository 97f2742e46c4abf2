-- The gate agrees with the chain of a recorded link.
use Rattle.std.proofs.Common.{◌≡◌, ℕ, ◌+◌, ◌<◌, ◌≤◌, ◌^◌, ◌++◌, List, [], ◌∷◌, Bool, true, false, ◌&&◌, nat_lt, length, refl}
use Rattle.std.proofs.Common.{sym, ap, ◌∙◌, subst, arith, ◌⊎◌, inl, inr}
use Rattle.std.specs.Prelude.{⊤, Option, None, Some, Ok, IsUtf8, option_and_then, option_map}
use Rattle.std.specs.List.{list_all}
use Rattle.allow_policy.specs.Granting.{granted}
use Rattle.hmac_jws.specs.Compact.{compact}
use Rattle.hmac_jws.specs.Verified.{first_jws_fault, payload_of}
use Rattle.hmac_jws.proofs.Issued.{MacGood-compact, payload_of-compact}
use Rattle.service_config.specs.declared.config.Config.{Config}
use Rattle.service_config.specs.Formed.{IsFormedConfig}
use Rattle.service_view.specs.View.{View, pool_enabled, account_enabled}
use Rattle.access_token.specs.declared.facts.Facts.{Facts}
use Rattle.access_token.specs.Payload.{payload_text}
use Rattle.access_token.specs.Reading.{payload_facts}
use Rattle.access_token.proofs.ExactTexts.{IsBytes-payload_text}
use Rattle.access_token.proofs.Says.{text_back}
use Rattle.grant_gate.specs.Carried.{carried_of}
use Rattle.grant_gate.specs.Decision.{boundary_holds, facts_decision, carried_decision, place_failing, words_allow}
use Rattle.links.specs.declared.entry.Entry.{Entry}
use Rattle.links.specs.Authority.{admits, allows}
use Rattle.links.specs.Chain.{Chain}
use Rattle.links.specs.Facts.{facts_of, exp_of, who_of, pools_of, accounts_of, scopes_of, bounds_of}
use Rattle.links.specs.Issued.{issued_link}
use Rattle.links.specs.Licence.{Lawful}
use Rattle.links.specs.State.{Content, chain, content_of, start_of, token_text}
use Rattle.links.proofs.ByLists.{allows_by_lists, live_by_lists}
use Rattle.links.proofs.Good.{IsGood}
use Rattle.links.proofs.GoodLinks.{exact-good, formed-good}
use Rattle.links.proofs.Issuing.{IsIssued, issued_cases}
use Rattle.links.proofs.Journals.{IsKept, follows, good_of_chain, lawful_kept, within_of_chain}
use Rattle.sts_core.specs.Check.{check_decision, chain_or_carried, issued_chain, first_denial, link_decision}

-- ---- the facts of a link decide as the link does

-- whether all pass, and the place of the first that doesn't
Fits : Bool → Option ℕ → Type 0
Fits true None = ⊤
Fits true (Some place) = ⊥
Fits false None = ⊥
Fits false (Some place) = ⊤

shifted : (all : Bool) (place : Option ℕ) → Fits all place → Fits all (option_map (λ n. n + 1) place)
unfolding Fits
shifted true None is = tt
shifted true (Some place) is = is
shifted false None is = is
shifted false (Some place) is = tt

fits_by : {A : Type 0} (test : A → Bool) (x : A) (xs : List A) (passes : Bool) → test x ≡ passes → Fits (list_all test xs) (place_failing test xs)
    → Fits (list_all test (x ∷ xs)) (place_failing test (x ∷ xs))
unfolding Fits
fits_by test x xs true is rest = rw is (shifted (list_all test xs) (place_failing test xs) rest)
fits_by test x xs false is rest = rw is tt

fits : {A : Type 0} (test : A → Bool) (xs : List A) → Fits (list_all test xs) (place_failing test xs)
unfolding Fits
fits test [] = tt
fits test (x ∷ xs) = fits_by test x xs (test x) refl (fits test xs)

-- what the rules of a link come to, each by itself
record Told (view : View) (found : Chain) (permission resource : List ℕ) (now : ℕ) (lives : Bool) (pools accounts words bounds : Option ℕ) (grants : Bool) : Type 0 where
  lives_is : nat_lt now (exp_of found) ≡ lives
  pools_is : place_failing (pool_enabled view) (pools_of found) ≡ pools
  accounts_is : place_failing (account_enabled view) (accounts_of found) ≡ accounts
  words_is : place_failing (words_allow view permission) (scopes_of found) ≡ words
  bounds_is : place_failing (boundary_holds view permission resource now) (bounds_of found) ≡ bounds
  grants_is : granted view.lists (who_of found) permission resource now ≡ grants

-- the facts and the link decide by the same rules, where the link admits exactly if none of them fails
same_by : (view : View) (found : Chain) (permission resource : List ℕ) (now : ℕ) (lives : Bool) (pools accounts words bounds : Option ℕ) (grants : Bool)
    (pools_pass accounts_pass words_pass bounds_pass : Bool) → Told view found permission resource now lives pools accounts words bounds grants
    → Fits pools_pass pools → Fits accounts_pass accounts → Fits words_pass words → Fits bounds_pass bounds
    → admits view found permission resource now ≡ ((lives && (pools_pass && accounts_pass)) && ((words_pass && bounds_pass) && grants))
    → facts_decision view (facts_of found) permission resource now ≡ link_decision view found permission resource now
unfolding facts_decision link_decision first_denial facts_of Fits
same_by view found permission resource now false pools accounts words bounds grants p a w b told pf af wf bf is = rw (is, told.lives_is) refl
same_by view found permission resource now true (Some k) accounts words bounds grants false a w b told pf af wf bf is = rw (is, told.lives_is, told.pools_is) refl
same_by view found permission resource now true (Some k) accounts words bounds grants true a w b told pf af wf bf is = absurd pf
same_by view found permission resource now true None accounts words bounds grants false a w b told pf af wf bf is = absurd pf
same_by view found permission resource now true None (Some k) words bounds grants true false w b told pf af wf bf is =
    rw (is, told.lives_is, told.pools_is, told.accounts_is) refl
same_by view found permission resource now true None (Some k) words bounds grants true true w b told pf af wf bf is = absurd af
same_by view found permission resource now true None None words bounds grants true false w b told pf af wf bf is = absurd af
same_by view found permission resource now true None None (Some k) bounds grants true true false b told pf af wf bf is =
    rw (is, told.lives_is, told.pools_is, told.accounts_is, told.words_is) refl
same_by view found permission resource now true None None (Some k) bounds grants true true true b told pf af wf bf is = absurd wf
same_by view found permission resource now true None None None bounds grants true true false b told pf af wf bf is = absurd wf
same_by view found permission resource now true None None None (Some k) grants true true true false told pf af wf bf is =
    rw (is, told.lives_is, told.pools_is, told.accounts_is, told.words_is, told.bounds_is) refl
same_by view found permission resource now true None None None (Some k) grants true true true true told pf af wf bf is = absurd bf
same_by view found permission resource now true None None None None grants true true true false told pf af wf bf is = absurd bf
same_by view found permission resource now true None None None None false true true true true told pf af wf bf is =
    rw (is, told.lives_is, told.pools_is, told.accounts_is, told.words_is, told.bounds_is, told.grants_is) refl
same_by view found permission resource now true None None None None true true true true true told pf af wf bf is =
    rw (is, told.lives_is, told.pools_is, told.accounts_is, told.words_is, told.bounds_is, told.grants_is) refl

pub facts_agree : (view : View) (found : Chain) (permission resource : List ℕ) (now : ℕ)
    → facts_decision view (facts_of found) permission resource now ≡ link_decision view found permission resource now
facts_agree view found permission resource now =
    same_by view found permission resource now _ _ _ _ _ _
    (list_all (pool_enabled view) (pools_of found)) (list_all (account_enabled view) (accounts_of found))
    (list_all (words_allow view permission) (scopes_of found)) (list_all (boundary_holds view permission resource now) (bounds_of found))
    (record { lives_is = refl; pools_is = refl; accounts_is = refl; words_is = refl; bounds_is = refl; grants_is = refl })
    (fits (pool_enabled view) (pools_of found)) (fits (account_enabled view) (accounts_of found))
    (fits (words_allow view permission) (scopes_of found)) (fits (boundary_holds view permission resource now) (bounds_of found))
    (ap (λ (b : Bool). b && (allows view found permission resource now && granted view.lists (who_of found) permission resource now)) (live_by_lists view found now)
    ∙ ap (λ (b : Bool). (nat_lt now (exp_of found) && (list_all (pool_enabled view) (pools_of found) && list_all (account_enabled view) (accounts_of found)))
    && (b && granted view.lists (who_of found) permission resource now)) (allows_by_lists view found permission resource now))

-- ---- a link's token carries its facts

carried_by : (key issuer text payload : List ℕ) (facts : Facts) → first_jws_fault key text ≡ None → payload_of text ≡ payload
    → payload_facts issuer payload ≡ Some facts
    → carried_of key issuer text ≡ Ok facts
unfolding carried_of
carried_by key issuer text payload facts good is says = rw (good, is, says) refl

pub token_carries : (c : Content) (n : ℕ) (found : Chain) → IsUtf8 c.issuer → n < 2 ^ 32 → IsGood n found
    → carried_of c.key c.issuer (token_text c found) ≡ Ok (facts_of found)
unfolding token_text
token_carries c n found utf8 low good =
    let facts = facts_of found in
    let payload = payload_text c.issuer facts in
    let exact = exact-good c.issuer n found low utf8 good in
    let bytes = IsBytes-payload_text c.issuer facts exact in
    carried_by c.key c.issuer (compact c.key payload) payload facts (MacGood-compact c.key payload bytes) (payload_of-compact c.key payload bytes)
    (text_back c.issuer facts exact (formed-good n found low good))

-- and so does that of each recorded link
pub carries_its_facts : (config : Config) (journal : List Entry) (n : ℕ) (found : Chain) → IsFormedConfig config → Lawful config journal
    → length journal ≤ 2 ^ 32 → chain (content_of config journal) n ≡ Some found
    → carried_of (content_of config journal).key (content_of config journal).issuer (token_text (content_of config journal) found) ≡ Ok (facts_of found)
carries_its_facts config journal n found formed lawful few there =
    let c = content_of config journal in
    let kept = lawful_kept config journal formed lawful in
    let within : n < length c.links = within_of_chain c n found there in
    let low : n < 2 ^ 32 = omega (arith, within, (follows (start_of config) journal).few, few) in
    token_carries c n found kept.issuer low (good_of_chain c n found kept there)

-- the decision by a link's token, in a state under the same key and issuer, is the link's own
pub agrees : (before later : Content) (n : ℕ) (found : Chain) (permission resource : List ℕ) (now : ℕ) → IsUtf8 before.issuer → n < 2 ^ 32 → IsGood n found
    → later.key ≡ before.key → later.issuer ≡ before.issuer
    → carried_decision later.view later.key later.issuer (token_text before found) permission resource now
    ≡ link_decision later.view found permission resource now
unfolding carried_decision link_decision first_denial
agrees before later n found permission resource now utf8 low good key issuer =
    rw (key, issuer, token_carries before n found utf8 low good) (facts_agree later.view found permission resource now)

-- ---- at each later time

pub agrees_later : (config : Config) (journal more : List Entry) (n : ℕ) (found : Chain) (permission resource : List ℕ) (now : ℕ)
    → IsFormedConfig config → Lawful config journal → length journal ≤ 2 ^ 32 → chain (content_of config journal) n ≡ Some found
    → let later = content_of config (journal ++ more) in
    carried_decision later.view later.key later.issuer (token_text (content_of config journal) found) permission resource now
    ≡ link_decision later.view found permission resource now
agrees_later config journal more n found permission resource now formed lawful few there =
    let before = content_of config journal in
    let later = content_of config (journal ++ more) in
    let first = follows (start_of config) journal in
    let all = follows (start_of config) (journal ++ more) in
    let kept = lawful_kept config journal formed lawful in
    let within : n < length before.links = within_of_chain before n found there in
    let low : n < 2 ^ 32 = omega (arith, within, first.few, few) in
    agrees before later n found permission resource now kept.issuer low (good_of_chain before n found kept there) (all.key ∙ sym first.key) (all.issuer ∙ sym first.issuer)

-- ---- a check

check_by : (c : Content) (text permission resource : List ℕ) (now : ℕ) → IsKept c
    → (issued_link c text ≡ None) ⊎ ((n : ℕ) × (found : Chain) × IsIssued c text n found)
    → carried_decision c.view c.key c.issuer text permission resource now ≡ check_decision c text permission resource now
unfolding check_decision
check_by c text permission resource now kept (inl none) = rw none refl
check_by c text permission resource now kept (inr (n, found, is)) =
    let there : issued_chain c text ≡ Some found = ap (λ (o : Option ℕ). option_and_then (chain c) o) is.number ∙ is.chain_is in
    let own = link_decision c.view found permission resource now in
    subst (λ (t : List ℕ). carried_decision c.view c.key c.issuer t permission resource now ≡ own) is.text_is
    (agrees c c n found permission resource now kept.issuer is.low is.good refl refl)
    ∙ ap (chain_or_carried c text permission resource now) (sym there)

pub check_is : (c : Content) (text permission resource : List ℕ) (now : ℕ) → IsKept c → length c.links ≤ 2 ^ 32
    → carried_decision c.view c.key c.issuer text permission resource now ≡ check_decision c text permission resource now
check_is c text permission resource now kept few = check_by c text permission resource now kept (issued_cases c text kept few)
