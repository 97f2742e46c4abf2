-- The calls that a link tells.
use Rattle.std.specs.Prelude.{◌≡◌, List, [], ◌∷◌, ◌++◌, Option, None, Some, ⊤}
use Rattle.client_link.specs.declared.target.LinkCall.{LinkCall}

-- told calls go on by these
abbrev pub GoesOn : Option (List LinkCall) → Option (List LinkCall) → List LinkCall → Type 0
GoesOn None new more = ⊤
GoesOn (Some calls) None more = ⊥
GoesOn (Some calls) (Some now) more = now ≡ calls ++ more

-- one call more
abbrev pub Adds : Option (List LinkCall) → Option (List LinkCall) → LinkCall → Type 0
Adds old new call = GoesOn old new (call ∷ [])

-- told calls stay as they were
abbrev pub Keeps : Option (List LinkCall) → Option (List LinkCall) → Type 0
Keeps old new = GoesOn old new []
