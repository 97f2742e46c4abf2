-- What is held of a recorded link: its kind, how many links its chain is long, and what its token says, made once when it is
-- recorded.
use Rattle.std.specs.Prelude.{◌≡◌, ℕ, ◌+◌, max, Bool, true, false, List, [], ◌∷◌, drop, length, Option, None, Some, is_some, slice_get}
use Rattle.boundary.specs.declared.rules.Boundary.{Boundary}
use Rattle.access_token.specs.declared.facts.Facts.{Facts}
use Rattle.access_token.specs.Payload.{last_words}
use Rattle.derived_facts.specs.Derived.{narrowed_facts, impersonated_facts, delegated_facts}
use Rattle.links.specs.declared.entry.Narrowing.{Narrowing}
use Rattle.links.specs.declared.entry.Impersonation.{Impersonation}
use Rattle.links.specs.declared.entry.Delegation.{Delegation}
use Rattle.links.specs.declared.recorded.RecordedKind.{RecordedKind}
use Rattle.links.specs.declared.recorded.RecordedKind.TheVariants as held
use Rattle.links.specs.declared.recorded.RecordedLink.{RecordedLink}
use Rattle.links.specs.Chain.{Kind, Link, Chain, Root, Narrowed, Impersonated, Delegated, own, chains_of, chain_at}
use Rattle.links.specs.Facts.{accounts_of, depth_of, facts_of}

-- the kind of a link, as it is held
abbrev pub held_kind : Chain → RecordedKind
held_kind (Root o source) = held.Federated source.exp
held_kind (Narrowed o boundary parent) = held.Narrow (own parent).number (is_some boundary)
held_kind (Impersonated o accounts lifetime parent) = held.Impersonate (own parent).number (length (accounts_of parent)) lifetime
held_kind (Delegated o subject actor) = held.Delegate (own subject).number (own actor).number

-- what is held of the last link of a chain
abbrev pub recorded : Chain → RecordedLink
recorded chain = record { kind = held_kind chain; depth = depth_of chain; facts = facts_of chain }

-- the last boundary, where one was set
abbrev pub last_bound : Bool → List Boundary → Option Boundary
last_bound false bounds = None
last_bound true [] = None
last_bound true (boundary ∷ []) = Some boundary
last_bound true (boundary ∷ next ∷ more) = last_bound true (next ∷ more)

-- the kind of the link of which this is held
abbrev pub kind_of : RecordedKind → Facts → Kind
kind_of (held.Federated exp) facts = Kind.Federated (record { who = facts.who; exp = exp; may_act = facts.may_act })
kind_of (held.Narrow parent bounded) facts = Kind.Narrow parent (last_bound bounded facts.bounds)
kind_of (held.Impersonate parent earlier lifetime) facts = Kind.Impersonate parent (drop earlier facts.accounts) lifetime
kind_of (held.Delegate subject actor) facts = Kind.Delegate subject actor

-- the link of which this row is held
abbrev pub link_of_recorded : RecordedLink → Link
link_of_recorded row = record { at = row.facts.iat; words = last_words row.facts.scopes; kind = kind_of row.kind row.facts }

-- what is held of a narrowing of that number, behind what is held of its parent
abbrev pub narrowed : ℕ → Narrowing → RecordedLink → RecordedLink
narrowed number x parent = record {
  kind = held.Narrow x.parent (is_some x.boundary);
  depth = parent.depth + 1;
  facts = narrowed_facts number x.at x.scope x.boundary parent.facts;
}

-- the same of an impersonation
abbrev pub impersonated : ℕ → Impersonation → RecordedLink → RecordedLink
impersonated number x parent = record {
  kind = held.Impersonate x.parent (length parent.facts.accounts) x.lifetime;
  depth = parent.depth + 1;
  facts = impersonated_facts number x.at x.scope x.accounts x.lifetime parent.facts;
}

-- the same of a delegation, behind what is held of its subject and of its actor
abbrev pub delegated : ℕ → Delegation → RecordedLink → RecordedLink → RecordedLink
delegated number x subject actor = record {
  kind = held.Delegate x.subject x.actor;
  depth = max subject.depth actor.depth + 1;
  facts = delegated_facts number x.at x.scope subject.facts actor.facts;
}

-- this is what is held of link n
pub record IsHeld (links : List Link) (n : ℕ) (row : RecordedLink) : Type 0 where
  pub chain : Chain
  pub there : chain_at (chains_of links) n ≡ Some chain
  pub is : row ≡ recorded chain

-- and this of each link
pub record AreHeld (links : List Link) (rows : List RecordedLink) : Type 0 where
  pub each : (n : ℕ) (row : RecordedLink) → slice_get rows n ≡ Some row → IsHeld links n row
