-- What a link is and carries: recursion over the links that it was made from.
use Rattle.std.specs.Prelude.{ℕ, ◌+◌, min, max, List, [], ◌∷◌, ◌++◌, drop}
use Rattle.boundary.specs.declared.rules.Boundary.{Boundary}
use Rattle.iam_names.specs.declared.pool_name.PoolName.{PoolName}
use Rattle.iam_names.specs.declared.who.Who.{Who}
use Rattle.iam_names.specs.declared.who.Who.TheVariants.{Outside, Account}
use Rattle.access_token.specs.declared.facts.Facts.{Facts}
use Rattle.access_token.specs.Facts.{name_of}
use Rattle.derived_facts.specs.Derived.{target_of, with_boundary}
use Rattle.links.specs.Chain.{Chain, Root, Narrowed, Impersonated, Delegated, own}

-- the moment from which on the link isn't live: that of what it was made from, and at most 3,600 seconds, or the lifetime of an
-- impersonation, after it was issued
abbrev pub exp_of : Chain → ℕ
exp_of (Root o source) = min source.exp (o.at + 3600)
exp_of (Narrowed o boundary parent) = min (exp_of parent) (o.at + 3600)
exp_of (Impersonated o accounts lifetime parent) = min (exp_of parent) (o.at + lifetime)
exp_of (Delegated o subject actor) = min (min (exp_of subject) (exp_of actor)) (o.at + 3600)

-- the principal that the link speaks for
abbrev pub who_of : Chain → Who
who_of (Root o source) = source.who
who_of (Narrowed o boundary parent) = who_of parent
who_of (Impersonated o accounts lifetime parent) = Account (target_of accounts)
who_of (Delegated o subject actor) = who_of subject

-- the actors' names, the newest first
abbrev pub act_of : Chain → List (List ℕ)
act_of (Root o source) = []
act_of (Narrowed o boundary parent) = act_of parent
act_of (Impersonated o accounts lifetime parent) = act_of parent
act_of (Delegated o subject actor) = name_of (who_of actor) ∷ act_of subject

-- those who may act, the next one first
abbrev pub may_act_of : Chain → List (List ℕ)
may_act_of (Root o source) = source.may_act
may_act_of (Narrowed o boundary parent) = may_act_of parent
may_act_of (Impersonated o accounts lifetime parent) = []
may_act_of (Delegated o subject actor) = drop 1 (may_act_of subject)

-- how many links it is long
abbrev pub depth_of : Chain → ℕ
depth_of (Root o source) = 1
depth_of (Narrowed o boundary parent) = depth_of parent + 1
depth_of (Impersonated o accounts lifetime parent) = depth_of parent + 1
depth_of (Delegated o subject actor) = max (depth_of subject) (depth_of actor) + 1

-- the pool of an identity
abbrev pub pools_in : Who → List PoolName
pools_in (Outside pool identity) = pool ∷ []
pools_in (Account account) = []

-- the pools of the subject tokens
abbrev pub pools_of : Chain → List PoolName
pools_of (Root o source) = pools_in source.who
pools_of (Narrowed o boundary parent) = pools_of parent
pools_of (Impersonated o accounts lifetime parent) = pools_of parent
pools_of (Delegated o subject actor) = pools_of subject ++ pools_of actor

-- the service accounts that were impersonated
abbrev pub accounts_of : Chain → List (List ℕ)
accounts_of (Root o source) = []
accounts_of (Narrowed o boundary parent) = accounts_of parent
accounts_of (Impersonated o accounts lifetime parent) = accounts_of parent ++ accounts
accounts_of (Delegated o subject actor) = accounts_of subject ++ accounts_of actor

-- the scope words of each link, its own last; those of an actor don't count
abbrev pub scopes_of : Chain → List (List (List ℕ))
scopes_of (Root o source) = o.words ∷ []
scopes_of (Narrowed o boundary parent) = scopes_of parent ++ o.words ∷ []
scopes_of (Impersonated o accounts lifetime parent) = scopes_of parent ++ o.words ∷ []
scopes_of (Delegated o subject actor) = scopes_of subject ++ o.words ∷ []

-- the access boundaries that were set, the last one last; those of an actor don't count
abbrev pub bounds_of : Chain → List Boundary
bounds_of (Root o source) = []
bounds_of (Narrowed o boundary parent) = with_boundary (bounds_of parent) boundary
bounds_of (Impersonated o accounts lifetime parent) = bounds_of parent
bounds_of (Delegated o subject actor) = bounds_of subject

-- the links' numbers, from the first to the last, through parents and subjects
abbrev pub numbers_of : Chain → List ℕ
numbers_of (Root o source) = o.number ∷ []
numbers_of (Narrowed o boundary parent) = numbers_of parent ++ o.number ∷ []
numbers_of (Impersonated o accounts lifetime parent) = numbers_of parent ++ o.number ∷ []
numbers_of (Delegated o subject actor) = numbers_of subject ++ o.number ∷ []

-- All that a token of the link says, beside the issuer. Its `sub` is the name of the principal.
unfoldable pub facts_of : Chain → Facts
facts_of chain = record {
  number = (own chain).number;
  sub = name_of (who_of chain);
  iat = (own chain).at;
  exp = exp_of chain;
  act = act_of chain;
  may_act = may_act_of chain;
  who = who_of chain;
  pools = pools_of chain;
  accounts = accounts_of chain;
  scopes = scopes_of chain;
  bounds = bounds_of chain;
}
