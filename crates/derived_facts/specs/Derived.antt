-- What the token of a link says, from what the tokens of the links that it was made from say.
use Rattle.std.specs.Prelude.{ℕ, ◌+◌, min, List, [], ◌∷◌, ◌++◌, drop, Option, None, Some}
use Rattle.iam_names.specs.declared.who.Who.TheVariants.{Account}
use Rattle.boundary.specs.declared.rules.Boundary.{Boundary}
use Rattle.access_token.specs.declared.facts.Facts.{Facts}
use Rattle.access_token.specs.Facts.{name_of}

-- the boundaries with this one behind them, if there is one
abbrev pub with_boundary : List Boundary → Option Boundary → List Boundary
with_boundary bounds None = bounds
with_boundary bounds (Some boundary) = bounds ++ boundary ∷ []

-- the last service account, which is the one that is impersonated
abbrev pub target_of : List (List ℕ) → List ℕ
target_of [] = []
target_of (account ∷ []) = account
target_of (account ∷ next ∷ more) = target_of (next ∷ more)

-- the token of that number, issued at that moment for these words, that narrows its parent's
abbrev pub narrowed_facts : ℕ → ℕ → List (List ℕ) → Option Boundary → Facts → Facts
narrowed_facts number at words boundary parent = record {
  number = number;
  sub = parent.sub;
  iat = at;
  exp = min parent.exp (at + 3600);
  act = parent.act;
  may_act = parent.may_act;
  who = parent.who;
  pools = parent.pools;
  accounts = parent.accounts;
  scopes = parent.scopes ++ words ∷ [];
  bounds = with_boundary parent.bounds boundary;
}

-- the one that impersonates the last of these service accounts with its parent's, for at most so many seconds
abbrev pub impersonated_facts : ℕ → ℕ → List (List ℕ) → List (List ℕ) → ℕ → Facts → Facts
impersonated_facts number at words accounts lifetime parent = record {
  number = number;
  sub = name_of (Account (target_of accounts));
  iat = at;
  exp = min parent.exp (at + lifetime);
  act = parent.act;
  may_act = [];
  who = Account (target_of accounts);
  pools = parent.pools;
  accounts = parent.accounts ++ accounts;
  scopes = parent.scopes ++ words ∷ [];
  bounds = parent.bounds;
}

-- the one by which the actor acts for the subject (RFC 8693, section 4.1)
abbrev pub delegated_facts : ℕ → ℕ → List (List ℕ) → Facts → Facts → Facts
delegated_facts number at words subject actor = record {
  number = number;
  sub = subject.sub;
  iat = at;
  exp = min (min subject.exp actor.exp) (at + 3600);
  act = actor.sub ∷ subject.act;
  may_act = drop 1 subject.may_act;
  who = subject.who;
  pools = subject.pools ++ actor.pools;
  accounts = subject.accounts ++ actor.accounts;
  scopes = subject.scopes ++ words ∷ [];
  bounds = subject.bounds;
}
