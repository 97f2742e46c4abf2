-- Told calls that go on, one step after another.
use Rattle.std.proofs.Common.{◌++◌, List, [], sym, ◌∙◌, ap, append_assoc}
use Rattle.std.proofs.lemmas.List.{append-nil}
use Rattle.std.specs.Prelude.{Option, None, Some}
use Rattle.client_link.specs.declared.target.LinkCall.{LinkCall}
use Rattle.renewer.specs.Leases.{TellsMore}

pub tells-then : (P Q R : List LinkCall → Type 0) (a b c : Option (List LinkCall)) → TellsMore a b P → TellsMore b c Q
    → ((m n : List LinkCall) → P m → Q n → R (m ++ n)) → TellsMore a c R
tells-then P Q R None b c first then joined = tt
tells-then P Q R (Some xs) None c first then joined = absurd first
tells-then P Q R (Some xs) (Some ys) None first then joined = absurd then
tells-then P Q R (Some xs) (Some ys) (Some zs) (m, first, p) (n, then, q) joined =
    (m ++ n, then ∙ ap (λ (l : List LinkCall). l ++ n) first ∙ append_assoc xs m n, joined m n p q)

pub tells-as : (P Q : List LinkCall → Type 0) (a b : Option (List LinkCall)) → TellsMore a b P → ((m : List LinkCall) → P m → Q m) → TellsMore a b Q
tells-as P Q None b tells so = tt
tells-as P Q (Some xs) None tells so = absurd tells
tells-as P Q (Some xs) (Some ys) (m, is, p) so = (m, is, so m p)

pub tells-nothing : (P : List LinkCall → Type 0) (a : Option (List LinkCall)) → P [] → TellsMore a a P
tells-nothing P None p = tt
tells-nothing P (Some xs) p = ([], sym (append-nil xs), p)
