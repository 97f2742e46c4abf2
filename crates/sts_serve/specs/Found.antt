-- What stands at the front of some bytes.
use Rattle.std.specs.Prelude.{◌≡◌, ◌≢◌, ◌≤◌, ◌⊎◌, ℕ, List, [], ◌++◌, length, drop, None}
use Rattle.std.specs.Fmt.{decimal}
use Rattle.sts_serve.specs.Cut.{IsNumberOf}
use Rattle.sts_serve.specs.Frames.{IsFrame, frame_text, NoFrame, NeverFrame, IsFront}
use Rattle.sts_serve.specs.declared.frame.Found.{Found}
use Rattle.sts_serve.specs.declared.frame.Found.TheVariants.{Whole, Part, Never}

-- what is found at the front is right: a whole frame of that size, the begin of one, or neither
abbrev pub IsFound : List ℕ → Found → Type 0
IsFound bytes (Whole frame size) = IsFrame frame × (size ≡ length (frame_text frame)) × (bytes ≡ frame_text frame ++ drop size bytes)
IsFound bytes Part = NoFrame bytes × IsFront bytes
IsFound bytes Never = (bytes ≢ []) × NeverFrame bytes

-- What stands at the front where the bytes end within a number of at most that.
abbrev pub IsUnended : ℕ → List ℕ → Found → Type 0
IsUnended most digits (Whole frame size) = ⊥
IsUnended most digits Part = (digits ≡ []) ⊎ ((n : ℕ) × (n ≤ most) × (digits ≡ decimal n))
IsUnended most digits Never = (digits ≢ []) × IsNumberOf most digits None
