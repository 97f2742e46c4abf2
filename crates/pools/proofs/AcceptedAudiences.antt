-- Audiences that a provider's name gives.
use Rattle.std.proofs.Common.{◌≡◌, ℕ, List, [], refl}
use Rattle.std.specs.List.{list_any}
use Rattle.iam_names.specs.Audience.{audience_text}
use Rattle.pools.specs.Providers.{ProviderView, accepts, is_named}

pub accepts_named : (p : ProviderView) (audiences : List (List ℕ)) → p.audiences ≡ [] → accepts p audiences ≡ list_any (is_named (audience_text p.name)) audiences
accepts_named p audiences none = rw none refl
