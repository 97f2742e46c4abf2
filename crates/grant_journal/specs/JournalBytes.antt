-- A list of texts as the bytes of a journal, and what a file stands for.
use Rattle.std.specs.Prelude.{◌≡◌, ◌≢◌, ◌⊎◌, ℕ, ◌+◌, ◌-◌, ◌/◌, ◌%◌, List, [], ◌∷◌, ◌++◌, length, take, drop, Option, None, Some, ⊤}
use Rattle.wif_base.specs.Disk.{Held, Told}

-- four bytes, the most significant first
abbrev pub four_bytes : ℕ → List ℕ
four_bytes n = n / 16777216 ∷ n / 65536 % 256 ∷ n / 256 % 256 ∷ n % 256 ∷ []

-- a length, a text and a closed gate
abbrev pub framed : List ℕ → List ℕ
framed text = four_bytes (length text) ++ (text ++ 0 ∷ [])

-- the text between a length and a gate
abbrev pub text_of : List ℕ → List ℕ
text_of bytes = take (length bytes - 5) (drop 4 bytes)

-- behind open gates the records of these texts
abbrev pub opened : List (List ℕ) → List ℕ
opened [] = []
opened (text ∷ texts) = 1 ∷ (four_bytes (length text) ++ (text ++ opened texts))

-- WIFJ0001
abbrev pub marker : List ℕ
marker = 87 ∷ 73 ∷ 70 ∷ 74 ∷ 48 ∷ 48 ∷ 48 ∷ 49 ∷ []

-- the marker and the records of these texts
abbrev pub before_gate : List (List ℕ) → List ℕ
before_gate texts = marker ++ opened texts

-- the bytes of a journal of these texts
abbrev pub journal_bytes : List (List ℕ) → List ℕ
journal_bytes texts = before_gate texts ++ 0 ∷ []

-- behind the records of these texts stands a gate that is closed, and anything behind that
abbrev pub StandsFor : List (List ℕ) → List ℕ → Type 0
StandsFor texts image = (gate : ℕ) × (rest : List ℕ) × (image ≡ before_gate texts ++ gate ∷ rest) × (gate ≢ 1)

-- it stands for these texts, with this one behind them or without
abbrev pub IsBeforeOrAfter : List (List ℕ) → List ℕ → List ℕ → Type 0
IsBeforeOrAfter texts text image = StandsFor texts image ⊎ StandsFor (texts ++ text ∷ []) image

-- The disk reads as a file that stands for these texts, with its closed gate right before len, and nothing is pending.
pub record Rests (texts : List (List ℕ)) (len : ℕ) (held : Held) : Type 0 where
  pub stands : StandsFor texts held.bytes
  pub len_is : len ≡ length (before_gate texts) + 1
  pub pending : held.pending ≡ []
  pub synced : held.synced ≡ length held.bytes

-- the same, where the disk tells its bytes
abbrev pub Settled : List (List ℕ) → ℕ → Option Told → Type 0
Settled texts len None = ⊤
Settled texts len (Some told) = Rests texts len told.now

-- it reads as a file that stands for these texts, where it tells its bytes
abbrev pub ReadsAs : List (List ℕ) → Option Told → Type 0
ReadsAs texts None = ⊤
ReadsAs texts (Some told) = StandsFor texts told.now.bytes
