-- A text without its front, and a text cut at a byte.
use Rattle.std.specs.Prelude.{ℕ, List, [], ◌∷◌, Option, None, Some, option_map, ◌==◌, if◌then◌else◌}

-- what follows the front, where the text begins with it
abbrev pub after : List ℕ → List ℕ → Option (List ℕ)
after [] text = Some text
after (x ∷ front) [] = None
after (x ∷ front) (y ∷ text) = if x == y then after front text else None

-- what stands before the first such byte, and what follows it
abbrev pub cut_at : ℕ → List ℕ → Option (List ℕ × List ℕ)
cut_at byte [] = None
cut_at byte (x ∷ text) = if x == byte then Some ([], text) else option_map (λ parts. (x ∷ parts.0, parts.1)) (cut_at byte text)
