-- A provider of subject tokens: whom it vouches for, and how its claims become a principal.
use Rattle.std.specs.Prelude.{◌≡◌, ℕ, List, [], ◌∷◌, ◌++◌, Bool, true, false, ◌||◌, Option, None, codes}
use Rattle.std.specs.List.{list_all, list_any}
use Rattle.std.specs.Str.{bytes_eq}
use Rattle.iam_names.specs.declared.audience.Audience.{Audience}
use Rattle.base_types.specs.Named.{InOrder}
use Rattle.iam_names.specs.Audience.{audience_text, is_audience}
use Rattle.iam_names.specs.Forms.{is_attribute_name}
use Rattle.cel_values.specs.declared.expr.Expr.{Expr}
use Rattle.cel_values.specs.declared.expr.Expr.TheViews as expr
use Rattle.cel_expression.specs.declared.expression.Expression.{Expression}
use Rattle.pools.specs.declared.mapping.Mapping.{Mapping}
use Rattle.pools.specs.declared.provider.TokenIssuer.{TokenIssuer}

-- What contracts see of a provider.
pub record ProviderView : Type 0 where
  pub name : Audience
  -- the `iss` of its tokens
  pub issuer : List ℕ
  -- the key that they are signed with
  pub key : List ℕ
  -- the audiences that it accepts; none is for those that its name gives
  pub audiences : List (List ℕ)
  pub mapping : Mapping
  pub condition : Option Expression
  pub disabled : Bool

-- one of these two
abbrev pub is_one_of : List ℕ → List ℕ → List ℕ → Bool
is_one_of one other audience = bytes_eq audience one || bytes_eq audience other

-- the provider's name, or `https:` followed by it
abbrev pub is_named : List ℕ → List ℕ → Bool
is_named name audience = is_one_of name (codes "https:" ++ name) audience

-- one of these audiences
abbrev pub is_listed : List (List ℕ) → List ℕ → Bool
is_listed audiences audience = list_any (bytes_eq audience) audiences

-- an audience that the provider accepts: one that it lists, and one that its name gives where it lists none
abbrev pub is_acceptable : ProviderView → List ℕ → Bool
is_acceptable provider audience = acceptable provider.audiences
  where
    acceptable : List (List ℕ) → Bool
    acceptable [] = is_named (audience_text provider.name) audience
    acceptable (listed ∷ more) = is_listed (listed ∷ more) audience

-- some audience of these is accepted
abbrev pub accepts : ProviderView → List (List ℕ) → Bool
accepts provider audiences = list_any (is_acceptable provider) audiences

-- The provider's name and the names of its attributes have their forms, and the attributes stand in byte order.
pub record IsFormed (provider : ProviderView) : Type 0 where
  pub name : is_audience provider.name ≡ true
  pub attributes : list_all (λ row. is_attribute_name row.0) provider.mapping.attributes ≡ true
  pub rising : InOrder provider.mapping.attributes

-- ---- the provider that is there from the start

-- the claim `sub` of the claims
abbrev pub subject_claim : Expression
subject_claim = record { text = codes "assertion.sub"; tree = expr.Select (Expr.Name (codes "assertion")) (codes "sub") }

-- the claim `sub` is the subject, and nothing else is mapped
abbrev pub of_subject : Audience → TokenIssuer → ProviderView
of_subject name issuer = record {
  name = name;
  issuer = issuer.name;
  key = issuer.key;
  audiences = issuer.audiences;
  mapping = record { subject = subject_claim; groups = None; attributes = [] };
  condition = None;
  disabled = false;
}
