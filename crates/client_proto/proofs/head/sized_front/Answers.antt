use Rattle.std.proofs.Common.{◌≡◌, ◌<◌, ◌≤◌, ◌^◌, ◌++◌, length, drop, sym, ◌∙◌, ap, subst, arith, take-append-drop, length-append}
use Rattle.std.specs.Prelude.{IsUtf8, Some}
use Rattle.std.specs.Fmt.{decimal}
use Rattle.std.proofs.lemmas.Fmt.{IsAscii-decimal}
use Rattle.std.proofs.lemmas.Str.{IsUtf8-from_ascii}
use Rattle.client_proto.specs.Numbers.{decimal_up_to}
use Rattle.client_proto.proofs.NumberLemmas.{up_to-decimal, up_to-sound}
use Rattle.client_proto.proofs.head.sized_front.Goals as goal

pub returns-in_default : goal.returns-in_default
returns-in_default c = λ body more front is.
    let small : length body < 2 ^ 64 = omega (arith, ap length front, length-append body more) in
    c.in_default.ensures.cases.0 (subst IsUtf8 (sym is) (IsUtf8-from_ascii (decimal (length body)) (IsAscii-decimal (length body) small)))

pub split_at-requires : goal.split_at-requires
split_at-requires c =
    let is : decimal_up_to (length c.args.rest.now) c.in-Ok.text.now ≡ Some c.in-Some.size = sym c.in_ok-size.ensures ∙ c.in-Some.is in
    omega (arith, (up_to-sound (length c.args.rest.now) c.in-Ok.text.now c.in-Some.size is).0)

pub returns-in-Some : goal.returns-in-Some
returns-in-Some c =
    let is : decimal_up_to (length c.args.rest.now) c.in-Ok.text.now ≡ Some c.in-Some.size = sym c.in_ok-size.ensures ∙ c.in-Some.is in
    let found = up_to-sound (length c.args.rest.now) c.in-Ok.text.now c.in-Some.size is in
    let rest = c.args.rest.now in
    let size = c.in-Some.size in (
      (c.split_at.result.1.now, sym (take-append-drop size rest) ∙ ap (λ x. x ++ drop size rest) (sym c.split_at.ensures.front) ∙ ap (λ x. c.split_at.result.0.now ++ x) (sym c.split_at.ensures.back)),
      sym c.in-Ok.ensures.cases.0 ∙ found.1 ∙ ap decimal (sym c.split_at.ensures.front_len),
    )

pub returns-in-None : goal.returns-in-None
returns-in-None c = λ body more front is.
    let within : length body ≤ (length c.args.rest.now) = omega (arith, ap length front, length-append body more) in
    let small : length body < 2 ^ 64 = omega arith in
    let read : decimal_up_to (length c.args.rest.now) c.in-Ok.text.now ≡ Some (length body) =
    ap (decimal_up_to (length c.args.rest.now)) (c.in-Ok.ensures.cases.0 ∙ is) ∙ up_to-decimal (length c.args.rest.now) (length body) within small in
    cc (read, c.in_ok-size.ensures, c.in-None.is)
