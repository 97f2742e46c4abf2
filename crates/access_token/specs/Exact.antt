-- Facts that a payload's text gives back whole.
use Rattle.std.specs.Prelude.{ℕ, ◌<◌, ◌≤◌, ◌^◌, List, map, length}
use Rattle.std.specs.List.{AllByRecursion}
use Rattle.std.specs.List.Sorted.{IsStrictlySortedBy}
use Rattle.std.specs.Str.{IsUtf8}
use Rattle.std.specs.Ordering.{nat_cmp}
use Rattle.std.specs.Cmp.Lexicographic.{slice_cmp}
use Rattle.iam_names.specs.declared.identity.Identity.{Identity}
use Rattle.iam_names.specs.declared.pool_name.PoolName.{PoolName}
use Rattle.iam_names.specs.declared.who.Who.{Who}
use Rattle.iam_names.specs.declared.who.Who.TheVariants.{Outside, Account}
use Rattle.boundary.specs.Exact.{IsExactBoundary}
use Rattle.access_token.specs.declared.facts.Facts.{Facts}

-- texts of UTF-8
abbrev pub AreUtf8 : List (List ℕ) → Type 0
AreUtf8 xs = AllByRecursion IsUtf8 xs

-- names of actors, at most 8 of them
pub record AreActors (names : List (List ℕ)) : Type 0 where
  pub few : length names ≤ 8
  pub utf8 : AreUtf8 names

-- UTF-8, and the attributes' names each once in byte order
pub record IsExactIdentity (identity : Identity) : Type 0 where
  pub subject : IsUtf8 identity.subject
  pub groups : AreUtf8 identity.groups
  pub attributes : AllByRecursion (λ (attribute : List ℕ × List ℕ). IsUtf8 attribute.0 × IsUtf8 attribute.1) identity.attributes
  pub rising : IsStrictlySortedBy (slice_cmp nat_cmp) (map (λ attribute. attribute.0) identity.attributes)

-- a pool of UTF-8
pub record IsExactPool (pool : PoolName) : Type 0 where
  pub project : IsUtf8 pool.project
  pub pool_utf8 : IsUtf8 pool.pool

-- an identity of a pool, or an account of UTF-8
abbrev pub IsExactWho : Who → Type 0
IsExactWho (Outside pool identity) = IsExactPool pool × IsExactIdentity identity
IsExactWho (Account account) = IsUtf8 account

-- what a payload's text says exactly: numbers of their sizes, short chains of actors, and UTF-8
pub record IsExact (issuer : List ℕ) (facts : Facts) : Type 0 where
  pub issuer_utf8 : IsUtf8 issuer
  pub number : facts.number < 2 ^ 32
  pub sub : IsUtf8 facts.sub
  pub iat : facts.iat < 2 ^ 64
  pub exp : facts.exp < 2 ^ 64
  pub who : IsExactWho facts.who
  pub act : AreActors facts.act
  pub may_act : AreActors facts.may_act
  pub pools : AllByRecursion IsExactPool facts.pools
  pub accounts : AreUtf8 facts.accounts
  pub scopes : AllByRecursion AreUtf8 facts.scopes
  pub bounds : AllByRecursion IsExactBoundary facts.bounds
