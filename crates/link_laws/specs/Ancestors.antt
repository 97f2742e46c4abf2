-- The links that a chain has.
use Rattle.std.specs.Prelude.{List, [], ◌∷◌, ◌++◌}
use Rattle.links.specs.Chain.{Chain, Root, Narrowed, Impersonated, Delegated}

-- the links that the last link was made from: its parent, or its subject and its actor
abbrev pub made_from : Chain → List Chain
made_from (Root o source) = []
made_from (Narrowed o boundary parent) = parent ∷ []
made_from (Impersonated o accounts lifetime parent) = parent ∷ []
made_from (Delegated o subject actor) = subject ∷ actor ∷ []

-- all links of the chain, those of each actor too, the last one first
abbrev pub links_in : Chain → List Chain
links_in (Root o source) = Root o source ∷ []
links_in (Narrowed o boundary parent) = Narrowed o boundary parent ∷ links_in parent
links_in (Impersonated o accounts lifetime parent) = Impersonated o accounts lifetime parent ∷ links_in parent
links_in (Delegated o subject actor) = Delegated o subject actor ∷ (links_in subject ++ links_in actor)

-- those that limit what the last link allows: the links of actors aren't among them
abbrev pub limits_in : Chain → List Chain
limits_in (Root o source) = Root o source ∷ []
limits_in (Narrowed o boundary parent) = Narrowed o boundary parent ∷ limits_in parent
limits_in (Impersonated o accounts lifetime parent) = Impersonated o accounts lifetime parent ∷ limits_in parent
limits_in (Delegated o subject actor) = Delegated o subject actor ∷ limits_in subject
