-- An exact entry's tree says that entry.
use Rattle.std.proofs.Common.{◌≡◌, ◌≤◌, ◌<◌, ◌^◌, ℕ, Bool, true, false, ◌&&◌, List, length, refl, ◌∙◌, ap, sym, Option, None, Some, option_map, option_and_then, IfSome, Result, Ok, Err, codes, nat_le}
use Rattle.std.specs.Result.{result_ok}
use Rattle.std.specs.Str.{bytes_eq}
use Rattle.std.proofs.lemmas.Bool.{le-leb, lt-ltb}
use Rattle.std.proofs.lemmas.Slice.Eq.{bytes_eq-Decides}
use Rattle.serde_json.specs.Data.{Data, number, unsigned, string, object, no_members, member}
use Rattle.base_types.specs.Reading.{◌>>=◌}
use Rattle.json_text.specs.Document.{text_at}
use Rattle.iam_names.specs.Forms.{is_account}
use Rattle.boundary.specs.Exact.{IsExactBoundary}
use Rattle.boundary.specs.Written.{optional, boundary_data}
use Rattle.boundary.specs.declared.rules.Boundary.{Boundary}
use Rattle.boundary.proofs.Back.{boundary_back}
use Rattle.boundary.proofs.WrittenParts.{each_back}
use Rattle.access_token.specs.Parts.{account_in}
use Rattle.access_token.specs.Payload.{words_text}
use Rattle.service_view.specs.declared.command.Command.{Command}
use Rattle.sts_admin.specs.Commands.{command_of, command_of_kind, command_under}
use Rattle.sts_admin.specs.declared.command.CommandFault.TheVariants.{Kind}
use Rattle.links.specs.declared.entry.Entry.{Entry}
use Rattle.links.specs.declared.entry.Entry.TheVariants.{Put, Federated, Narrow, Impersonate, Delegate}
use Rattle.links.specs.declared.entry.Exchange.{Exchange}
use Rattle.links.specs.declared.entry.Narrowing.{Narrowing}
use Rattle.links.specs.declared.entry.Impersonation.{Impersonation}
use Rattle.links.specs.declared.entry.Delegation.{Delegation}
use Rattle.entry_texts.specs.Exact.{IsExactExchange, IsExactNarrowing, IsExactImpersonation, IsExactDelegation}
use Rattle.entry_texts.specs.Parts.{is_moment, is_link_number, boundary_of, exchange_in, narrowing_in, impersonation_in, delegation_in, entry_of_kind, entry_in}
use Rattle.entry_texts.specs.Written.{exchange_data, narrowing_data, impersonation_data, delegation_data}
use Rattle.entry_texts.proofs.PartsBack.{words_back, account_back, provider_back}

moment_passes : (at : ℕ) → at ≤ 200_000_000_000 → is_moment at ≡ true
moment_passes at h = le-leb at 200_000_000_000 h

number_passes : (n : ℕ) → n < 2 ^ 32 → is_link_number n ≡ true
number_passes n h = lt-ltb n (2 ^ 32) h

between_passes : (low high n : ℕ) → low ≤ n → n ≤ high → (nat_le low n && nat_le n high) ≡ true
between_passes low high n some few = rw (le-leb low n some, le-leb n high few) refl

-- ---- the links' entries

pub exchange_back : (x : Exchange) → IsExactExchange x → exchange_in (exchange_data x) ≡ Some x
unfolding exchange_in exchange_data
exchange_back x is = rw (moment_passes x.at is.form.moment, provider_back x.provider is.provider, words_back x.scope is.form.words) refl

-- the narrowing of the parts that are there
abbrev narrowing_of : Option ℕ → Option (Option Boundary) → Option ℕ → Option (List (List ℕ)) → Option Narrowing
narrowing_of at_there boundary_there parent_there scope_there = do
  at ← at_there
  boundary ← boundary_there
  parent ← parent_there
  scope ← scope_there
  Some (record { parent = parent; boundary = boundary; scope = scope; at = at })

narrowing_joined : (x : Narrowing) (at : Option ℕ) (boundary : Option (Option Boundary)) (parent : Option ℕ) (scope : Option (List (List ℕ)))
    → at ≡ Some x.at → boundary ≡ Some x.boundary → parent ≡ Some x.parent → scope ≡ Some x.scope → narrowing_of at boundary parent scope ≡ Some x
narrowing_joined x at boundary parent scope a b p s = rw (a, b, p, s) refl

-- a narrowing's tree, with its rules aside
tree : Narrowing → Option Data → Data
tree x rules = object (
    member (codes "at") (number (unsigned x.at)) (
    optional (codes "boundary") rules (
    member (codes "kind") (string (codes "narrow")) (
    member (codes "parent") (number (unsigned x.parent)) (
    member (codes "scope") (string (words_text x.scope)) no_members)))))

tree_back : (x : Narrowing) (rules : Option Data) → IsExactNarrowing x → boundary_of rules ≡ Some x.boundary → narrowing_in (tree x rules) ≡ Some x
unfolding tree narrowing_in
tree_back x None is b =
    narrowing_joined x _ _ _ _ (rw (moment_passes x.at is.form.moment) refl) b (rw (number_passes x.parent is.parent) refl) (words_back x.scope is.form.words)
tree_back x (Some d) is b =
    narrowing_joined x _ _ _ _ (rw (moment_passes x.at is.form.moment) refl) b (rw (number_passes x.parent is.parent) refl) (words_back x.scope is.form.words)

rules_back : (o : Option Boundary) → IfSome o IsExactBoundary → boundary_of (option_map boundary_data o) ≡ Some o
rules_back None is = refl
rules_back (Some boundary) is = ap (option_map Some) (boundary_back boundary is)

pub narrowing_back : (x : Narrowing) → IsExactNarrowing x → narrowing_in (narrowing_data x) ≡ Some x
unfolding narrowing_data tree
narrowing_back x is = tree_back x (option_map boundary_data x.boundary) is (rules_back x.boundary is.form.boundary)

pub impersonation_back : (x : Impersonation) → IsExactImpersonation x → impersonation_in (impersonation_data x) ≡ Some x
unfolding impersonation_in impersonation_data
impersonation_back x is = rw (
  each_back string account_in is_account account_back x.accounts is.form.accounts,
  between_passes 1 5 (length x.accounts) is.form.some is.form.few,
  moment_passes x.at is.form.moment,
  between_passes 1 3600 x.lifetime is.form.lasts is.form.short,
  number_passes x.parent is.parent,
  words_back x.scope is.form.words,
) refl

pub delegation_back : (x : Delegation) → IsExactDelegation x → delegation_in (delegation_data x) ≡ Some x
unfolding delegation_in delegation_data
delegation_back x is = rw (number_passes x.actor is.actor, moment_passes x.at is.form.moment, words_back x.scope is.form.words, number_passes x.subject is.subject) refl

-- ---- by their kinds

of_kind : (kind : List ℕ) (d : Data) (o : Option Entry) → text_at (codes "kind") d ≡ Some kind → entry_of_kind kind d ≡ o → entry_in d ≡ o
of_kind kind d o there is = ap (option_and_then (λ (found : List ℕ). entry_of_kind found d)) there ∙ is

of_federated : (d : Data) → entry_of_kind (codes "federated") d ≡ option_map Federated (exchange_in d)
unfolding entry_of_kind
of_federated d = refl

of_narrow : (d : Data) → entry_of_kind (codes "narrow") d ≡ option_map Narrow (narrowing_in d)
unfolding entry_of_kind
of_narrow d = refl

of_impersonate : (d : Data) → entry_of_kind (codes "impersonate") d ≡ option_map Impersonate (impersonation_in d)
unfolding entry_of_kind
of_impersonate d = refl

of_delegate : (d : Data) → entry_of_kind (codes "delegate") d ≡ option_map Delegate (delegation_in d)
unfolding entry_of_kind
of_delegate d = refl

exchange_kind : (x : Exchange) → text_at (codes "kind") (exchange_data x) ≡ Some (codes "federated")
unfolding exchange_data
exchange_kind x = refl

tree_kind : (x : Narrowing) (rules : Option Data) → text_at (codes "kind") (tree x rules) ≡ Some (codes "narrow")
unfolding tree
tree_kind x None = refl
tree_kind x (Some d) = refl

narrowing_kind : (x : Narrowing) → text_at (codes "kind") (narrowing_data x) ≡ Some (codes "narrow")
unfolding narrowing_data tree
narrowing_kind x = tree_kind x (option_map boundary_data x.boundary)

impersonation_kind : (x : Impersonation) → text_at (codes "kind") (impersonation_data x) ≡ Some (codes "impersonate")
unfolding impersonation_data
impersonation_kind x = refl

delegation_kind : (x : Delegation) → text_at (codes "kind") (delegation_data x) ≡ Some (codes "delegate")
unfolding delegation_data
delegation_kind x = refl

pub federated_back : (x : Exchange) → IsExactExchange x → entry_in (exchange_data x) ≡ Some (Federated x)
federated_back x is = of_kind (codes "federated") (exchange_data x) _ (exchange_kind x) (of_federated (exchange_data x) ∙ ap (option_map Federated) (exchange_back x is))

pub narrow_back : (x : Narrowing) → IsExactNarrowing x → entry_in (narrowing_data x) ≡ Some (Narrow x)
narrow_back x is = of_kind (codes "narrow") (narrowing_data x) _ (narrowing_kind x) (of_narrow (narrowing_data x) ∙ ap (option_map Narrow) (narrowing_back x is))

pub impersonate_back : (x : Impersonation) → IsExactImpersonation x → entry_in (impersonation_data x) ≡ Some (Impersonate x)
impersonate_back x is =
    of_kind (codes "impersonate") (impersonation_data x) _ (impersonation_kind x) (of_impersonate (impersonation_data x) ∙ ap (option_map Impersonate) (impersonation_back x is))

pub delegate_back : (x : Delegation) → IsExactDelegation x → entry_in (delegation_data x) ≡ Some (Delegate x)
delegate_back x is = of_kind (codes "delegate") (delegation_data x) _ (delegation_kind x) (of_delegate (delegation_data x) ∙ ap (option_map Delegate) (delegation_back x is))

-- ---- commands

-- a kind that is no command's isn't the kind of one
other_kind : (kind name : List ℕ) (d : Data) (command : Command) → command_of_kind name d ≡ Err Kind → command_of_kind kind d ≡ Ok command → bytes_eq kind name ≡ false
other_kind kind name d command none is = by_test (bytes_eq kind name) (bytes_eq-Decides kind name).0
  where
    by_test : (b : Bool) → (b ≡ true → kind ≡ name) → b ≡ false
    by_test true same =
        let one : Ok command ≡ Err Kind = sym is ∙ ap (λ (k : List ℕ). command_of_kind k d) (same refl) ∙ none in
        cc
    by_test false same = refl

no_federated : (d : Data) → command_of_kind (codes "federated") d ≡ Err Kind
no_federated d = refl

no_narrow : (d : Data) → command_of_kind (codes "narrow") d ≡ Err Kind
no_narrow d = refl

no_impersonate : (d : Data) → command_of_kind (codes "impersonate") d ≡ Err Kind
no_impersonate d = refl

no_delegate : (d : Data) → command_of_kind (codes "delegate") d ≡ Err Kind
no_delegate d = refl

of_command : (kind : List ℕ) (d : Data) (command : Command) → command_of_kind kind d ≡ Ok command → entry_of_kind kind d ≡ option_map Put (result_ok (command_of d))
unfolding entry_of_kind
of_command kind d command is = rw (
  other_kind kind (codes "federated") d command (no_federated d) is,
  other_kind kind (codes "narrow") d command (no_narrow d) is,
  other_kind kind (codes "impersonate") d command (no_impersonate d) is,
  other_kind kind (codes "delegate") d command (no_delegate d) is,
) refl

under : (kind : Option (List ℕ)) (d : Data) (command : Command) → command_under kind d ≡ Ok command
    → option_and_then (λ found. entry_of_kind found d) kind ≡ option_map Put (result_ok (command_of d))
under None d command is = cc
under (Some kind) d command is = of_command kind d command is

pub put_back : (d : Data) (command : Command) → command_of d ≡ Ok command → entry_in d ≡ Some (Put command)
put_back d command is =
    under (text_at (codes "kind") d) d command is ∙ ap (λ (r : Result Command _). option_map Put (result_ok r)) is
