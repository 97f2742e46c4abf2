-- Links of their forms.
use Rattle.std.specs.Prelude.{◌≡◌, ◌<◌, ◌≤◌, ◌^◌, ℕ, true, suc, List, [], ◌∷◌, length, Option, Some, IfSome, ⊤}
use Rattle.std.specs.List.{list_all}
use Rattle.access_token.specs.Exact.{AreActors, IsExactWho}
use Rattle.access_token.specs.Forms.{are_actors, are_words, is_who}
use Rattle.boundary.specs.Exact.{IsExactBoundary}
use Rattle.iam_names.specs.Forms.{is_account}
use Rattle.subject_token.specs.declared.source.Source.{Source}
use Rattle.links.specs.Chain.{Own, Chain, Root, Narrowed, Impersonated, Delegated, own, chain_at}
use Rattle.links.specs.Facts.{depth_of}

pub record IsGoodSource (source : Source) : Type 0 where
  pub who : is_who source.who ≡ true
  pub exact : IsExactWho source.who
  pub exp : source.exp < 2 ^ 53
  pub few : AreActors source.may_act
  pub may_act : are_actors source.may_act ≡ true

pub record IsGoodOwn (o : Own) : Type 0 where
  pub at : o.at ≤ 200_000_000_000
  pub words : are_words o.words ≡ true

-- each link of the chain has its form, and stands behind those that it was made from
abbrev pub IsGoodChain : Chain → Type 0
IsGoodChain (Root o source) = IsGoodOwn o × IsGoodSource source
IsGoodChain (Narrowed o boundary parent) = IsGoodOwn o × IfSome boundary IsExactBoundary × ((own parent).number < o.number) × IsGoodChain parent
IsGoodChain (Impersonated o accounts lifetime parent) =
    IsGoodOwn o × (1 ≤ length accounts) × (list_all is_account accounts ≡ true) × ((own parent).number < o.number) × IsGoodChain parent
IsGoodChain (Delegated o subject actor) =
    IsGoodOwn o × ((own subject).number < o.number) × ((own actor).number < o.number) × IsGoodChain subject × IsGoodChain actor

-- the chain of link n
pub record IsGood (n : ℕ) (chain : Chain) : Type 0 where
  pub number : (own chain).number ≡ n
  pub deep : depth_of chain ≤ 8
  pub form : IsGoodChain chain

-- the chains of the links from n on
abbrev pub AreGood : ℕ → List (Option Chain) → Type 0
AreGood n [] = ⊤
AreGood n (x ∷ chains) = ((chain : Chain) × (x ≡ Some chain) × IsGood n chain) × AreGood (suc n) chains

-- the links that the last link was made from stand at their numbers
abbrev pub IsWhole : List (Option Chain) → Chain → Type 0
IsWhole chains (Root o source) = ⊤
IsWhole chains (Narrowed o boundary parent) = chain_at chains (own parent).number ≡ Some parent
IsWhole chains (Impersonated o accounts lifetime parent) = chain_at chains (own parent).number ≡ Some parent
IsWhole chains (Delegated o subject actor) =
    (chain_at chains (own subject).number ≡ Some subject) × (chain_at chains (own actor).number ≡ Some actor)

-- each chain has its form, and those that it goes on from stand among them
pub record AreSound (chains : List (Option Chain)) : Type 0 where
  pub good : AreGood 0 chains
  pub whole : (n : ℕ) (chain : Chain) → chain_at chains n ≡ Some chain → IsWhole chains chain
