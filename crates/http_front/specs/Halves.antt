-- The two halves of reading a request: its head, and the body behind it.
use Rattle.std.specs.Prelude.{ℕ, ◌≡◌, ◌≢◌, ◌≤◌, ◌<◌, ◌⊎◌, ◌+◌, List, [], ◌∷◌, ◌++◌, length, drop, Option, None, Some, Result, Ok, Err}
use Rattle.std.specs.Io.KnownBytes.{Consumes, IsAtEnd}
use Rattle.httparse.specs.Grammar.{RequestHead, print_request}
use Rattle.wif_base.specs.Carried.{Carried, input_limit}
use Rattle.wif_base.specs.Routes.{route}
use Rattle.http_front.specs.Heads.{fault, body_length, bearer, closes}
use Rattle.http_front.specs.Messages.{LacksHead, NeverHead, Begins, BreaksRule}
use Rattle.http_front.specs.Reading.{RefusedAt, CountedAs}
use Rattle.http_front.specs.Rules.{IsOfNoHead}
use Rattle.http_front.specs.declared.incoming.HttpEnd.{HttpEnd}
use Rattle.http_front.specs.declared.incoming.HttpEnd.TheVariants as http_end
use Rattle.http_front.specs.declared.head.Head.{Head}
use Rattle.http_front.specs.declared.head.FoundHead.{FoundHead}
use Rattle.http_front.specs.declared.head.FoundHead.TheVariants as found
use Rattle.http_front.specs.declared.rule.HttpRule.{HttpRule}
use Rattle.http_front.specs.declared.rule.HttpRule.TheVariants.{H1, H11}

-- ---- what stands at the front of some bytes

-- What is kept of a head that breaks no rule.
pub record Says (head : RequestHead) (kept : Head) : Type 0 where
  pub sound : fault head ≡ None
  pub route : route head.target ≡ Some kept.route
  pub bearer : kept.bearer ≡ bearer head
  pub close : kept.close ≡ closes head
  pub size : kept.size ≡ length (print_request head)
  pub body : kept.body ≡ body_length head

-- a head of which this is kept stands at the front
abbrev pub HasHead : List ℕ → Head → Type 0
HasHead bytes kept = (head : RequestHead) × Begins bytes head (drop kept.size bytes) × Says head kept

-- refused, however the bytes go on
abbrev pub IsRefused : List ℕ → HttpRule → Type 0
IsRefused bytes rule = (NeverHead bytes × IsOfNoHead rule) ⊎ BreaksRule bytes rule

-- what a head that stands at the front turns out to be
abbrev pub IsJudged : List ℕ → FoundHead → Type 0
IsJudged bytes (found.Whole kept) = HasHead bytes kept
IsJudged bytes (found.Refused rule) = BreaksRule bytes rule
IsJudged bytes found.Part = ⊥

-- what stands at the front
abbrev pub IsFoundHead : List ℕ → FoundHead → Type 0
IsFoundHead bytes (found.Whole kept) = HasHead bytes kept
IsFoundHead bytes (found.Refused rule) = (bytes ≢ []) × IsRefused bytes rule
IsFoundHead bytes found.Part = LacksHead bytes

-- ---- the head

-- what was found, by all bytes and by what is at hand and was taken in all then
abbrev pub FoundHeadOf : Option (List ℕ) → List ℕ → Carried → Result (Option Head) HttpEnd → Type 0
FoundHeadOf left all now (Ok (Some kept)) = (now.unused ≡ all) × HasHead all kept × (now.taken ≤ input_limit)
FoundHeadOf left all now (Ok None) = (all ≡ []) × IsAtEnd left × (now.unused ≡ []) × (now.taken ≤ input_limit)
FoundHeadOf left all now (Err (http_end.Refused rule)) = RefusedAt all left rule × (now.taken ≤ input_limit)
FoundHeadOf left all now (Err http_end.ReadFault) = LacksHead all × (now.taken ≤ input_limit)
FoundHeadOf left all now (Err http_end.InputLimit) =
    (now.taken ≡ input_limit + 1)
    × ((within : List ℕ) × (last : ℕ) × (all ≡ within ++ last ∷ []) × LacksHead within)
FoundHeadOf left all now (Err http_end.Memory) = Unit {0}

-- These bytes were taken from the source, and this head was found.
pub record ReadsHead
    (left left' : Option (List ℕ)) (old new : Carried) (result : Result (Option Head) HttpEnd) : Type 0 where
  pub bytes : List ℕ
  pub source : Consumes left left' bytes
  pub taken : CountedAs (old.taken + length bytes) new.taken result
  pub found : FoundHeadOf left' (old.unused ++ bytes) new result

-- what is answered at the input's end, where no head stands
abbrev pub IsAtEndOf : List ℕ → Result (Option Head) HttpEnd → Type 0
IsAtEndOf unused (Ok (Some kept)) = ⊥
IsAtEndOf unused (Ok None) = unused ≡ []
IsAtEndOf unused (Err (http_end.Refused rule)) = (unused ≢ []) × (rule ≡ H1)
IsAtEndOf unused (Err http_end.ReadFault) = ⊥
IsAtEndOf unused (Err http_end.InputLimit) = ⊥
IsAtEndOf unused (Err http_end.Memory) = ⊥

-- ---- the body

-- what was found of a body of that size behind a head of that size
abbrev pub FoundBody : Option (List ℕ) → List ℕ → Carried → ℕ → ℕ → Result (List ℕ) HttpEnd → Type 0
FoundBody left all now head size (Ok body) =
    (length body ≡ size) × (drop head all ≡ body ++ now.unused) × (now.taken ≤ input_limit)
FoundBody left all now head size (Err (http_end.Refused rule)) =
    (rule ≡ H11) × IsAtEnd left × (length all < head + size) × (now.taken ≤ input_limit)
FoundBody left all now head size (Err http_end.ReadFault) = (length all < head + size) × (now.taken ≤ input_limit)
FoundBody left all now head size (Err http_end.InputLimit) =
    (now.taken ≡ input_limit + 1)
    × ((within : List ℕ) × (last : ℕ) × (all ≡ within ++ last ∷ []) × (length within < head + size))
FoundBody left all now head size (Err http_end.Memory) = Unit {0}

-- These bytes were taken from the source, and this body was found.
pub record ReadsBody
    (left left' : Option (List ℕ)) (old new : Carried) (head size : ℕ) (result : Result (List ℕ) HttpEnd) : Type 0 where
  pub bytes : List ℕ
  pub source : Consumes left left' bytes
  pub taken : CountedAs (old.taken + length bytes) new.taken result
  pub found : FoundBody left' (old.unused ++ bytes) new head size result
