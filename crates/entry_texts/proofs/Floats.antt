-- No part of an entry is a float.
use Rattle.std.proofs.Common.{◌≡◌, false, Option, None, Some, option_map, IfSome, codes, refl}
use Rattle.serde_json.specs.Data.{number, unsigned, string, no_members, member}
use Rattle.serde_json.specs.Written.{has_float}
use Rattle.boundary.specs.declared.rules.Boundary.{Boundary}
use Rattle.boundary.specs.Written.{boundary_data}
use Rattle.boundary.proofs.WrittenBoundaries.{boundary_floatless}
use Rattle.boundary.proofs.WrittenParts.{optional_floatless, items_floatless}
use Rattle.access_token.specs.Payload.{words_text}
use Rattle.links.specs.declared.entry.Entry.{Entry}
use Rattle.links.specs.declared.entry.Entry.TheVariants.{Put, Federated, Narrow, Impersonate, Delegate}
use Rattle.links.specs.declared.entry.Narrowing.{Narrowing}
use Rattle.entry_texts.proofs.Commands.{command_floatless}
use Rattle.entry_texts.specs.Written.{exchange_data, narrowing_data, impersonation_data, delegation_data, entry_data}

rules_floatless : (o : Option Boundary) → IfSome (option_map boundary_data o) (λ d. has_float d ≡ false)
rules_floatless None = tt
rules_floatless (Some boundary) = boundary_floatless boundary

narrowing_floatless : (x : Narrowing) → has_float (narrowing_data x) ≡ false
unfolding narrowing_data
narrowing_floatless x =
    optional_floatless (codes "boundary") (option_map boundary_data x.boundary)
    (member (codes "kind") (string (codes "narrow")) (member (codes "parent") (number (unsigned x.parent)) (member (codes "scope") (string (words_text x.scope)) no_members)))
    (rules_floatless x.boundary) refl

pub entry_floatless : (e : Entry) → has_float (entry_data e) ≡ false
unfolding exchange_data impersonation_data delegation_data
entry_floatless (Put command) = command_floatless command
entry_floatless (Federated x) = refl
entry_floatless (Narrow x) = narrowing_floatless x
entry_floatless (Impersonate x) = rw (items_floatless string (λ text. refl) x.accounts) refl
entry_floatless (Delegate x) = refl
