-- When the last operand has a value of its type.
use Rattle.std.specs.Prelude.{◌^◌, ◌<◌, ◌≤◌, List, ◌∷◌, Option}
use Rattle.cel_tokens.specs.declared.token.Token.{Token}
use Rattle.cel_grammar.specs.declared.frames.Pending.TheVariants.{Minus}
use Rattle.cel_grammar.specs.declared.frames.Frame.{Frame}
use Rattle.cel_grammar.specs.declared.frames.Frame.TheVariants.{Waiting}
use Rattle.cel_grammar.specs.declared.frames.Last.{Last}
use Rattle.cel_grammar.specs.Machine.{State, after}
use Rattle.cel_grammar.specs.Faults.{Extends}

-- an integer that has a value without a sign
abbrev pub IsSmall : Last → Type 0
IsSmall (Last.Integer n) = n < 2 ^ 63
IsSmall _ = Unit {0}

-- an integer that has a value with the sign before it, if there is one
abbrev pub IsReady : Last → List Frame → Type 0
IsReady (Last.Integer n) (Waiting Minus ∷ st) = n ≤ 2 ^ 63
IsReady (Last.Integer n) st = n < 2 ^ 63
IsReady _ st = Unit {0}

-- whatever the next token is, an Last.Integer before it has a Value
abbrev pub IsReadyFor : State → Option Token → Type 0
IsReadyFor (after last st) next = IsReady last st × (Extends next → IsSmall last)
IsReadyFor _ next = Unit {0}
