-- The recorded links, and the chain of each: the link together with the links that it was made from.
use Rattle.std.specs.Prelude.{ℕ, List, [], ◌∷◌, ◌++◌, length, Option, None, Some, option_map, slice_get}
use Rattle.boundary.specs.declared.rules.Boundary.{Boundary}
use Rattle.subject_token.specs.declared.source.Source.{Source}

-- What a link was made from, where a parent, a subject and an actor are earlier links, by their numbers: what a subject token gave;
-- a parent with an access boundary, if one was set; a parent that impersonates service accounts, one after another, for so many
-- seconds; a subject with the actor that acts for it.
pub data Kind : Type 0 where
  Federated : Source → Kind
  Narrow : ℕ → Option Boundary → Kind
  Impersonate : ℕ → List (List ℕ) → ℕ → Kind
  Delegate : ℕ → ℕ → Kind

-- a recorded link
pub record Link : Type 0 where
  pub at : ℕ
  pub words : List (List ℕ)
  pub kind : Kind

-- what each link has of its own, whatever its kind
pub record Own : Type 0 where
  pub number : ℕ
  pub at : ℕ
  pub words : List (List ℕ)

-- a link with the links that it was made from, down to the subject tokens
pub data Chain : Type 0 where
  Root : Own → Source → Chain
  Narrowed : Own → Option Boundary → Chain → Chain
  Impersonated : Own → List (List ℕ) → ℕ → Chain → Chain
  Delegated : Own → Chain → Chain → Chain

-- what the last link of a chain has of its own
abbrev pub own : Chain → Own
own (Root o source) = o
own (Narrowed o boundary parent) = o
own (Impersonated o accounts lifetime parent) = o
own (Delegated o subject actor) = o

-- the chain of a number, where it is that of a link whose parents stand earlier
abbrev pub joined : Option (Option Chain) → Option Chain
joined None = None
joined (Some chain) = chain

-- the chain of that number, where there is one
abbrev pub chain_at : List (Option Chain) → ℕ → Option Chain
chain_at chains n = joined (slice_get chains n)

-- the chain of a subject with an actor, where both are there
abbrev pub delegated : Own → Option Chain → Option Chain → Option Chain
delegated o None actor = None
delegated o (Some subject) None = None
delegated o (Some subject) (Some actor) = Some (Delegated o subject actor)

-- the chain of a link of this kind, from those of the links before it
abbrev pub chain_of_kind : Own → List (Option Chain) → Kind → Option Chain
chain_of_kind o chains (Federated source) = Some (Root o source)
chain_of_kind o chains (Narrow parent boundary) = option_map (Narrowed o boundary) (chain_at chains parent)
chain_of_kind o chains (Impersonate parent accounts lifetime) = option_map (Impersonated o accounts lifetime) (chain_at chains parent)
chain_of_kind o chains (Delegate subject actor) = delegated o (chain_at chains subject) (chain_at chains actor)

-- what link n has of its own
abbrev pub own_at : ℕ → Link → Own
own_at n link = record { number = n; at = link.at; words = link.words }

-- the chain of a link behind those that are there
abbrev pub next_chain : List (Option Chain) → Link → Option Chain
next_chain chains link = chain_of_kind (own_at (length chains) link) chains link.kind

-- the chains of the links, in order, behind those that are there
abbrev pub chains_after : List (Option Chain) → List Link → List (Option Chain)
chains_after chains [] = chains
chains_after chains (link ∷ links) = chains_after (chains ++ next_chain chains link ∷ []) links

-- the chains of the links, in order
unfoldable pub chains_of : List Link → List (Option Chain)
chains_of links = chains_after [] links
