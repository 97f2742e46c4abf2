-- What a state holds of its links stays right when a link comes.
use Rattle.std.proofs.Common.{◌≡◌, ◌+◌, ◌<◌, ◌≤◌, ℕ, zero, suc, List, [], ◌∷◌, ◌++◌, length, map, refl, sym, ◌∙◌, ap, subst, arith, Option, None, Some}
use Rattle.std.proofs.Math.Seq.{drop-append_seam}
use Rattle.std.proofs.lemmas.Bool.Decides.{nat_tests}
use Rattle.std.specs.Prelude.{Bool, true, false, ◌&&◌, nat_lt, is_some, slice_get, option_map}
use Rattle.std.specs.List.{list_all}
use Rattle.hmac_jws.specs.Compact.{compact}
use Rattle.access_token.specs.declared.facts.Facts.{Facts}
use Rattle.access_token.specs.Payload.{last_words, payload_text}
use Rattle.allow_policy.specs.Granting.{granted, scope_allows}
use Rattle.boundary.specs.Allowing.{boundary_allows}
use Rattle.derived_facts.specs.Derived.{with_boundary}
use Rattle.service_view.specs.View.{View, account_enabled, pool_enabled}
use Rattle.boundary.specs.declared.rules.Boundary.{Boundary}
use Rattle.links.specs.declared.entry.Entry.{Entry}
use Rattle.links.specs.declared.entry.Entry.TheVariants as entry
use Rattle.links.specs.declared.recorded.RecordedLink.{RecordedLink}
use Rattle.links.specs.Authority.{admits, allows, live}
use Rattle.subject_token.specs.declared.source.Source.{Source}
use Rattle.links.specs.Chain.{Kind, Federated, Narrow, Impersonate, Delegate, Link, Own, Chain, Root, Narrowed, Impersonated, Delegated, own, own_at}
use Rattle.links.specs.Chain.{chains_of, chain_at, chain_of_kind, next_chain}
use Rattle.links.specs.Facts.{exp_of, facts_of, who_of, accounts_of, scopes_of, bounds_of}
use Rattle.links.specs.Recorded.{recorded, link_of_recorded, last_bound, IsHeld, AreHeld}
use Rattle.links.specs.State.{Content, link_of, made, made_by, token_text, view_behind, with_link, after}
use Rattle.links.proofs.ByLists.{allows_by_lists, live_by_lists}
use Rattle.links.proofs.Chains.{chains_of-last, chain_at-last, length-chains_of, chain_stays}
use Rattle.links.proofs.Good.{AreGood}
use Rattle.links.proofs.Sound.{delegated_some, good_at, map_some}

pub map-last : {A B : Type 0} (f : A → B) (xs : List A) (x : A) → map f (xs ++ x ∷ []) ≡ map f xs ++ f x ∷ []
map-last f [] x = refl
map-last f (y ∷ xs) x = ap (λ (l : List _). f y ∷ l) (map-last f xs x)

pub map-length : {A B : Type 0} (f : A → B) (xs : List A) → length (map f xs) ≡ length xs
map-length f [] = refl
map-length f (x ∷ xs) = omega (arith, map-length f xs)

-- the element of a list with one more is one of the list or the last
pub data IsEither {A : Type 0} (xs : List A) (x : A) (n : ℕ) (y : A) : Type 0 where
  Earlier : slice_get xs n ≡ Some y → IsEither xs x n y
  Last : n ≡ length xs → x ≡ y → IsEither xs x n y

step_either : {A : Type 0} (z : A) (xs : List A) (x : A) (n : ℕ) (y : A) → IsEither xs x n y → IsEither (z ∷ xs) x (suc n) y
step_either z xs x n y (Earlier is) = Earlier is
step_either z xs x n y (Last last same) = Last (ap suc last) same

pub either : {A : Type 0} (xs : List A) (x : A) (n : ℕ) (y : A) → slice_get (xs ++ x ∷ []) n ≡ Some y → IsEither xs x n y
either [] x zero y there = Last refl (let same : x ≡ y = cc there in same)
either [] x (suc n) y there = absurd (cc there)
either (z ∷ xs) x zero y there = Earlier there
either (z ∷ xs) x (suc n) y there = step_either z xs x n y (either xs x n y there)

held_either : (links : List Link) (rows : List RecordedLink) (link : Link) (chain : Chain) (n : ℕ) (row : RecordedLink) → AreHeld links rows
    → length rows ≡ length links
    → next_chain (chains_of links) link ≡ Some chain → IsEither rows (recorded chain) n row → IsHeld (links ++ link ∷ []) n row
held_either links rows link chain n row are size next (Earlier there) =
    let held = are.each n row there in
    record { chain = held.chain; there = chain_stays links (link ∷ []) n held.chain held.there; is = held.is }
held_either links rows link chain n row are size next (Last last same) =
    let number : n ≡ length (chains_of links) = last ∙ size ∙ sym (length-chains_of links) in
    let at : chain_at (chains_of links ++ next_chain (chains_of links) link ∷ []) (length (chains_of links)) ≡ next_chain (chains_of links) link =
    chain_at-last (chains_of links) (next_chain (chains_of links) link) in
    record {
      chain = chain;
      there = ap (λ (cs : List (Option Chain)). chain_at cs n) (chains_of-last links link)
          ∙ ap (chain_at (chains_of links ++ next_chain (chains_of links) link ∷ [])) number ∙ at ∙ next;
      is = sym same;
    }

-- the next link, with what is held of it
pub held_last : (links : List Link) (rows : List RecordedLink) (link : Link) (chain : Chain) → AreHeld links rows → length rows ≡ length links
    → next_chain (chains_of links) link ≡ Some chain → AreHeld (links ++ link ∷ []) (rows ++ recorded chain ∷ [])
held_last links rows link chain are size next =
    record { each = λ n row there. held_either links rows link chain n row are size next (either rows (recorded chain) n row there) }

-- ---- what an entry records

made_some : (o : Option Chain) (row : RecordedLink) → Some row ≡ option_map recorded o → (chain : Chain) × (o ≡ Some chain) × (row ≡ recorded chain)
made_some None row is = absurd (cc is)
made_some (Some chain) row is = (chain, refl, let same : row ≡ recorded chain = cc is in same)

made_link : (c : Content) (link : Option Link) (chain : Chain) → made_by c link ≡ Some chain
    → (found : Link) × (link ≡ Some found) × (next_chain (chains_of c.links) found ≡ Some chain)
made_link c None chain is = absurd (cc is)
made_link c (Some link) chain is = (link, refl, is)

-- the last of a list with one more is that one
last_words-last : (xs : List (List (List ℕ))) (x : List (List ℕ)) → last_words (xs ++ x ∷ []) ≡ x
last_words-last [] x = refl
last_words-last (y ∷ []) x = refl
last_words-last (y ∷ z ∷ xs) x = last_words-last (z ∷ xs) x

last_bound-last : (xs : List Boundary) (x : Boundary) → last_bound true (xs ++ x ∷ []) ≡ Some x
last_bound-last [] x = refl
last_bound-last (y ∷ []) x = refl
last_bound-last (y ∷ z ∷ xs) x = last_bound-last (z ∷ xs) x

last_bound-with : (bounds : List Boundary) (boundary : Option Boundary) → last_bound (is_some boundary) (with_boundary bounds boundary) ≡ boundary
last_bound-with bounds None = refl
last_bound-with bounds (Some boundary) = last_bound-last bounds boundary

root_told : (o : Own) (source : Source) → link_of_recorded (recorded (Root o source)) ≡ record { at = o.at; words = o.words; kind = Federated source }
unfolding facts_of
root_told o source = refl

narrowed_told : (o : Own) (boundary : Option Boundary) (parent : Chain) (n : ℕ) → (own parent).number ≡ n
    → link_of_recorded (recorded (Narrowed o boundary parent)) ≡ record { at = o.at; words = o.words; kind = Narrow n boundary }
unfolding facts_of
narrowed_told o boundary parent n is = rw (last_words-last (scopes_of parent) o.words, last_bound-with (bounds_of parent) boundary, is) refl

impersonated_told : (o : Own) (accounts : List (List ℕ)) (lifetime : ℕ) (parent : Chain) (n : ℕ) → (own parent).number ≡ n
    → link_of_recorded (recorded (Impersonated o accounts lifetime parent))
    ≡ record { at = o.at; words = o.words; kind = Impersonate n accounts lifetime }
unfolding facts_of
impersonated_told o accounts lifetime parent n is =
    rw (last_words-last (scopes_of parent) o.words, drop-append_seam (accounts_of parent) accounts, is) refl

delegated_told : (o : Own) (subject actor : Chain) (n m : ℕ) → (own subject).number ≡ n → (own actor).number ≡ m
    → link_of_recorded (recorded (Delegated o subject actor)) ≡ record { at = o.at; words = o.words; kind = Delegate n m }
unfolding facts_of
delegated_told o subject actor n m is also = rw (last_words-last (scopes_of subject) o.words, is, also) refl

next_by : (chains : List (Option Chain)) (o : Own) (kind : Kind) (chain : Chain) → AreGood 0 chains → chain_of_kind o chains kind ≡ Some chain
    → link_of_recorded (recorded chain) ≡ record { at = o.at; words = o.words; kind = kind }
next_by chains o (Federated source) chain all is =
    let same : Root o source ≡ chain = cc is in
    ap (λ (c : Chain). link_of_recorded (recorded c)) (sym same) ∙ root_told o source
next_by chains o (Narrow parent boundary) chain all is =
    let from = map_some (Narrowed o boundary) (chain_at chains parent) chain is in
    ap (λ (c : Chain). link_of_recorded (recorded c)) (sym from.2) ∙ narrowed_told o boundary from.0 parent (good_at chains parent from.0 all from.1).number
next_by chains o (Impersonate parent accounts lifetime) chain all is =
    let from = map_some (Impersonated o accounts lifetime) (chain_at chains parent) chain is in
    ap (λ (c : Chain). link_of_recorded (recorded c)) (sym from.2)
    ∙ impersonated_told o accounts lifetime from.0 parent (good_at chains parent from.0 all from.1).number
next_by chains o (Delegate subject actor) chain all is =
    let from = delegated_some o (chain_at chains subject) (chain_at chains actor) chain is in
    ap (λ (c : Chain). link_of_recorded (recorded c)) (sym from.4)
    ∙ delegated_told o from.0 from.1 subject actor (good_at chains subject from.0 all from.2).number (good_at chains actor from.1 all from.3).number

-- what is held of the next link is held of that link
next_held : (chains : List (Option Chain)) (link : Link) (chain : Chain) → AreGood 0 chains → next_chain chains link ≡ Some chain
    → link_of_recorded (recorded chain) ≡ link
next_held chains link chain all is = next_by chains (own_at (length chains) link) link.kind chain all is

-- an entry that records a link changes nothing that stands under a name
view_stays : (c : Content) (e : Entry) (chain : Chain) → made c e ≡ Some chain → view_behind c.view e ≡ c.view
view_stays c (entry.Put command) chain is = absurd (cc is)
view_stays c (entry.Federated x) chain is = refl
view_stays c (entry.Narrow x) chain is = refl
view_stays c (entry.Impersonate x) chain is = refl
view_stays c (entry.Delegate x) chain is = refl

-- the content behind an entry that records a link: one entry more, and these links
abbrev pub with_links : Content → List Link → Content
with_links c links = record { issuer = c.issuer; key = c.key; view = c.view; count = c.count + 1; links = links }

content_behind : (c : Content) (e : Entry) (links : List Link) → view_behind c.view e ≡ c.view → with_link c.links (link_of c e) ≡ links
    → after c e ≡ with_links c links
content_behind c e links view all =
    ap (λ (v : View). record { issuer = c.issuer; key = c.key; view = v; count = c.count + 1; links = with_link c.links (link_of c e) }) view
    ∙ ap (λ (l : List Link). with_links c l) all

pub record Pushed (before : Content) (e : Entry) (rows : List RecordedLink) : Type 0 where
  pub held : AreHeld (map link_of_recorded rows) rows
  pub content : after before e ≡ with_links before (map link_of_recorded rows)

-- the row of an entry's link behind the others
pub pushed : (before : Content) (e : Entry) (rows : List RecordedLink) (row : RecordedLink) → before.links ≡ map link_of_recorded rows
    → AreHeld (map link_of_recorded rows) rows
    → AreGood 0 (chains_of before.links) → Some row ≡ option_map recorded (made before e) → Pushed before e (rows ++ row ∷ [])
pushed before e rows row links are good is =
    let made_is = made_some (made before e) row is in
    let chain = made_is.0 in
    let link_is = made_link before (link_of before e) chain made_is.1 in
    let link = link_is.0 in
    let next : next_chain (chains_of (map link_of_recorded rows)) link ≡ Some chain =
    subst (λ (l : List Link). next_chain (chains_of l) link ≡ Some chain) links link_is.2 in
    let all : AreGood 0 (chains_of (map link_of_recorded rows)) = subst (λ (l : List Link). AreGood 0 (chains_of l)) links good in
    let last : link_of_recorded row ≡ link = ap link_of_recorded made_is.2 ∙ next_held (chains_of (map link_of_recorded rows)) link chain all next in
    let mapped : map link_of_recorded (rows ++ row ∷ []) ≡ map link_of_recorded rows ++ link ∷ [] =
    map-last link_of_recorded rows row ∙ ap (λ (l : Link). map link_of_recorded rows ++ l ∷ []) last in
    let size : length rows ≡ length (map link_of_recorded rows) = sym (map-length link_of_recorded rows) in
    let held = held_last (map link_of_recorded rows) rows link chain are size next in
    let all_links : with_link before.links (link_of before e) ≡ map link_of_recorded (rows ++ row ∷ []) =
    ap (with_link before.links) link_is.1 ∙ ap (λ (l : List Link). l ++ link ∷ []) links ∙ sym mapped in
    record {
      held = subst (λ (l : List Link). AreHeld l (rows ++ row ∷ [])) (sym mapped)
          (subst (λ (r : RecordedLink). AreHeld (map link_of_recorded rows ++ link ∷ []) (rows ++ r ∷ [])) (sym made_is.2) held);
      content = content_behind before e (map link_of_recorded (rows ++ row ∷ [])) (view_stays before e chain made_is.1) all_links;
    }

-- ---- what a link's facts say of its chain

pub from_facts : {A : Type 0} (told : Facts → A) (meant : Chain → A) (o : Option Chain) (facts : Facts)
    → ((chain : Chain) → meant chain ≡ told (facts_of chain)) → option_map facts_of o ≡ Some facts
    → option_map meant o ≡ Some (told facts)
from_facts told meant None facts same is = absurd (cc is)
from_facts told meant (Some chain) facts same is =
    let here : facts_of chain ≡ facts = cc is in
    ap (λ a. Some a) (same chain ∙ ap told here)

pub exp_told : (chain : Chain) → exp_of chain ≡ (facts_of chain).exp
unfolding facts_of
exp_told chain = refl

pub words_told : (chain : Chain) → (own chain).words ≡ last_words (facts_of chain).scopes
unfolding facts_of
words_told (Root o source) = refl
words_told (Narrowed o boundary parent) = sym (last_words-last (scopes_of parent) o.words)
words_told (Impersonated o accounts lifetime parent) = sym (last_words-last (scopes_of parent) o.words)
words_told (Delegated o subject actor) = sym (last_words-last (scopes_of subject) o.words)

-- ---- what facts allow

-- the facts aren't expired, and the pools and accounts that they carry are enabled
abbrev pub facts_live : View → ℕ → Facts → Bool
facts_live view now facts =
    nat_lt now facts.exp && (list_all (pool_enabled view) facts.pools && list_all (account_enabled view) facts.accounts)

-- each list of words and each boundary that the facts carry allows the permission
abbrev pub facts_allow : View → List ℕ → List ℕ → ℕ → Facts → Bool
facts_allow view permission resource now facts =
    list_all (λ words. scope_allows view.lists words permission) facts.scopes
    && list_all (λ boundary. boundary_allows view.lists.roles boundary permission resource now) facts.bounds

-- both, and their principal is granted the permission
abbrev pub facts_admit : View → List ℕ → List ℕ → ℕ → Facts → Bool
facts_admit view permission resource now facts =
    facts_live view now facts && (facts_allow view permission resource now facts && granted view.lists facts.who permission resource now)

pub who_told : (chain : Chain) → who_of chain ≡ (facts_of chain).who
unfolding facts_of
who_told chain = refl

pub live_told : (view : View) (now : ℕ) (chain : Chain) → live view chain now ≡ facts_live view now (facts_of chain)
unfolding facts_of
live_told view now chain = live_by_lists view chain now

pub allows_told : (view : View) (permission resource : List ℕ) (now : ℕ) (chain : Chain)
    → allows view chain permission resource now ≡ facts_allow view permission resource now (facts_of chain)
unfolding facts_of
allows_told view permission resource now chain = allows_by_lists view chain permission resource now

pub admits_told : (view : View) (permission resource : List ℕ) (now : ℕ) (chain : Chain)
    → admits view chain permission resource now ≡ facts_admit view permission resource now (facts_of chain)
admits_told view permission resource now chain =
    rw (live_told view now chain, allows_told view permission resource now chain, who_told chain) refl

pub text_told : (c : Content) (chain : Chain) → token_text c chain ≡ compact c.key (payload_text c.issuer (facts_of chain))
unfolding token_text
text_told c chain = refl

pub kept_row : (rows : List RecordedLink) (n : ℕ) (row : RecordedLink) → AreHeld (map link_of_recorded rows) rows → slice_get rows n ≡ Some row
    → option_map recorded (chain_at (chains_of (map link_of_recorded rows)) n) ≡ Some row
kept_row rows n row are at =
    let held = are.each n row at in
    ap (option_map recorded) held.there ∙ ap (λ (r : RecordedLink). Some r) (sym held.is)

pub less : (n k : ℕ) → n < k → nat_lt n k ≡ true
less n k h = grind (arith, nat_tests)

pub not_less : (n k : ℕ) → k ≤ n → nat_lt n k ≡ false
not_less n k h = grind (arith, nat_tests)
