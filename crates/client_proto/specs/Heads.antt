-- What is found at the front of a reply's bytes.
use Rattle.std.specs.Prelude.{◌≡◌, ℕ, List, [], ◌∷◌, ◌++◌, length, Option, None, Some}
use Rattle.std.specs.Borrow.{Bor}
use Rattle.std.specs.Fmt.{decimal}
use Rattle.client_proto.specs.Replies.{IsReply}

-- the front of the bytes whose length is that decimal, where there are so many
abbrev pub IsSizedFront : List ℕ → List ℕ → Option (Bor (List ℕ)) → Type 0
IsSizedFront value bytes None = (body more : List ℕ) → bytes ≡ body ++ more → value ≡ decimal (length body) → ⊥
IsSizedFront value bytes (Some body) = ((more : List ℕ) × (bytes ≡ body.now ++ more)) × (value ≡ decimal (length body.now))

-- the front of the bytes whose length is the one value
abbrev pub IsBody : List (List ℕ) → List ℕ → Option (Bor (List ℕ)) → Type 0
IsBody values bytes None = (body more : List ℕ) → bytes ≡ body ++ more → values ≡ decimal (length body) ∷ [] → ⊥
IsBody values bytes (Some body) = ((more : List ℕ) × (bytes ≡ body.now ++ more)) × (values ≡ decimal (length body.now) ∷ [])

-- the status and the body of the reply that stands at the front, where one does
abbrev pub IsFoundReply : List ℕ → Option (ℕ × Bor (List ℕ)) → Type 0
IsFoundReply bytes None = (status : ℕ) (body : List ℕ) → IsReply bytes status body → ⊥
IsFoundReply bytes (Some found) = IsReply bytes found.0 found.1.now
