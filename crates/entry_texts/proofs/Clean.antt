-- The tree of an exact entry is clean, and not deep.
use Rattle.std.proofs.Common.{◌≤◌, ◌<◌, ◌^◌, ℕ, List, Option, None, Some, option_map, IfSome, refl, arith, codes}
use Rattle.serde_json.specs.Data.{number, unsigned, string, no_members, member, depth, items_depth}
use Rattle.serde_json.specs.Read.{max_depth}
use Rattle.json_text.specs.Clean.{IsClean, AreClean, HasCleanMembers}
use Rattle.boundary.specs.Written.{items, boundary_data}
use Rattle.boundary.specs.declared.rules.Boundary.{Boundary}
use Rattle.boundary.proofs.WrittenBoundaries.{boundary_clean, boundary_deep}
use Rattle.boundary.proofs.WrittenParts.{after_optional, optional_clean, items_clean, deep, optional_deep, items_deep}
use Rattle.access_token.specs.Payload.{words_text}
use Rattle.command_texts.proofs.WrittenCommands.{command_clean, command_deep}
use Rattle.links.specs.declared.entry.Entry.{Entry}
use Rattle.links.specs.declared.entry.Entry.TheVariants.{Put, Federated, Narrow, Impersonate, Delegate}
use Rattle.links.specs.declared.entry.Exchange.{Exchange}
use Rattle.links.specs.declared.entry.Narrowing.{Narrowing}
use Rattle.links.specs.declared.entry.Impersonation.{Impersonation}
use Rattle.links.specs.declared.entry.Delegation.{Delegation}
use Rattle.entry_texts.specs.Exact.{IsExactExchange, IsExactNarrowing, IsExactImpersonation, IsExactDelegation, IsExactEntry}
use Rattle.entry_texts.specs.Written.{exchange_data, narrowing_data, impersonation_data, delegation_data, entry_data}

moment_whole : (at : ℕ) → at ≤ 200_000_000_000 → at < 2 ^ 64
moment_whole at h = omega arith

number_whole : (n : ℕ) → n < 2 ^ 32 → n < 2 ^ 64
number_whole n h = omega arith

lifetime_whole : (n : ℕ) → n ≤ 3600 → n < 2 ^ 64
lifetime_whole n h = omega arith

exchange_clean : (x : Exchange) → IsExactExchange x → IsClean (exchange_data x)
unfolding exchange_data
exchange_clean x is = (
  moment_whole x.at is.form.moment,
  (tt, (tt, (tt, (tt, tt, tt), (refl, tt)), (refl, (refl, tt))), (refl, (refl, (refl, tt)))),
  (refl, (refl, (refl, (refl, tt)))),
)

rules_clean : (o : Option Boundary) → IfSome (option_map boundary_data o) IsClean
rules_clean None = tt
rules_clean (Some boundary) = boundary_clean boundary

narrowing_clean : (x : Narrowing) → IsExactNarrowing x → IsClean (narrowing_data x)
unfolding narrowing_data
narrowing_clean x is =
    let rules = option_map boundary_data x.boundary in
    let tail = member (codes "kind") (string (codes "narrow")) (member (codes "parent") (number (unsigned x.parent)) (member (codes "scope") (string (words_text x.scope)) no_members)) in
    let tail_is : HasCleanMembers tail = (tt, (number_whole x.parent is.parent, (tt, tt, tt), (refl, tt)), (refl, (refl, tt))) in (
      moment_whole x.at is.form.moment,
      optional_clean (codes "boundary") rules tail (rules_clean x.boundary) tail_is (refl, (refl, (refl, tt))),
      after_optional (codes "at") (codes "boundary") rules tail refl (refl, (refl, (refl, tt))),
    )

texts_clean : (xs : List (List ℕ)) → AreClean (items string xs)
texts_clean xs = items_clean string (λ x. tt) xs

impersonation_clean : (x : Impersonation) → IsExactImpersonation x → IsClean (impersonation_data x)
unfolding impersonation_data
impersonation_clean x is = (
  texts_clean x.accounts,
  (
    moment_whole x.at is.form.moment,
    (
      tt,
      (
        lifetime_whole x.lifetime is.form.short,
        (number_whole x.parent is.parent, (tt, tt, tt), (refl, tt)),
        (refl, (refl, tt)),
      ),
      (refl, (refl, (refl, tt))),
    ),
    (refl, (refl, (refl, (refl, tt)))),
  ),
  (refl, (refl, (refl, (refl, (refl, tt))))),
)

delegation_clean : (x : Delegation) → IsExactDelegation x → IsClean (delegation_data x)
unfolding delegation_data
delegation_clean x is = (
  number_whole x.actor is.actor,
  (
    moment_whole x.at is.form.moment,
    (tt, (tt, (number_whole x.subject is.subject, tt, tt), (refl, tt)), (refl, (refl, tt))),
    (refl, (refl, (refl, tt))),
  ),
  (refl, (refl, (refl, (refl, tt)))),
)

pub entry_clean : (e : Entry) → IsExactEntry e → IsClean (entry_data e)
entry_clean (Put command) is = command_clean command is
entry_clean (Federated x) is = exchange_clean x is
entry_clean (Narrow x) is = narrowing_clean x is
entry_clean (Impersonate x) is = impersonation_clean x is
entry_clean (Delegate x) is = delegation_clean x is

-- ---- how deep the tree is

exchange_deep : (x : Exchange) → depth (exchange_data x) ≤ 4
unfolding exchange_data
exchange_deep x = omega arith

rules_deep : (o : Option Boundary) → deep (option_map boundary_data o) ≤ 3
unfolding deep
rules_deep None = omega arith
rules_deep (Some boundary) = boundary_deep boundary

narrowing_deep : (x : Narrowing) → depth (narrowing_data x) ≤ 4
unfolding narrowing_data
narrowing_deep x =
    let tail = member (codes "kind") (string (codes "narrow")) (member (codes "parent") (number (unsigned x.parent)) (member (codes "scope") (string (words_text x.scope)) no_members)) in
    omega (arith, optional_deep (codes "boundary") (option_map boundary_data x.boundary) tail, rules_deep x.boundary)

texts_deep : (xs : List (List ℕ)) → items_depth (items string xs) ≤ 0
texts_deep xs = items_deep string 0 (λ x. omega arith) xs

impersonation_deep : (x : Impersonation) → depth (impersonation_data x) ≤ 4
unfolding impersonation_data
impersonation_deep x = omega (arith, texts_deep x.accounts)

delegation_deep : (x : Delegation) → depth (delegation_data x) ≤ 4
unfolding delegation_data
delegation_deep x = omega arith

within : (n most : ℕ) → n ≤ most → most ≤ 8 → n ≤ max_depth
within n most low small = omega arith

pub entry_deep : (e : Entry) → depth (entry_data e) ≤ max_depth
entry_deep (Put command) = within (depth (entry_data (Put command))) 8 (command_deep command) (omega arith)
entry_deep (Federated x) = within (depth (exchange_data x)) 4 (exchange_deep x) (omega arith)
entry_deep (Narrow x) = within (depth (narrowing_data x)) 4 (narrowing_deep x) (omega arith)
entry_deep (Impersonate x) = within (depth (impersonation_data x)) 4 (impersonation_deep x) (omega arith)
entry_deep (Delegate x) = within (depth (delegation_data x)) 4 (delegation_deep x) (omega arith)
