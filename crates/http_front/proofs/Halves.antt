-- The two halves of reading a request: its head, and then its body.
use Rattle.std.proofs.Common.{◌≡◌, ◌≢◌, ◌≤◌, ◌<◌, ℕ, ◌+◌, List, [], ◌∷◌, ◌++◌, length, drop, refl, sym, ◌∙◌, ap, subst, arith, inl, inr, append_assoc, length-append}
use Rattle.std.proofs.lemmas.List.{drop_at}
use Rattle.std.specs.Prelude.{Option, None, Some, Ok, Err, Bool, true, false, nat_lt, cond, codes}
use Rattle.std.specs.List.{AllByRecursion}
use Rattle.std.specs.Str.Parse.{digits_value}
use Rattle.httparse.specs.Grammar.{RequestHead, print_request}
use Rattle.wif_base.proofs.Known.{consumes-then}
use Rattle.wif_base.specs.Carried.{Carried}
use Rattle.base_types.specs.Rules.{first_of}
use Rattle.http_front.specs.Fields.{values, is_digits, length_fault, length_of}
use Rattle.http_front.specs.Heads.{fault_of, rules_of, fields_of, fault, body_length}
use Rattle.http_front.specs.Messages.{Message, message_text, LacksBody}
use Rattle.http_front.specs.Halves.{HasHead, IsRefused, ReadsHead, ReadsBody}
use Rattle.http_front.specs.Reading.{RefusedAt, Reads}
use Rattle.http_front.specs.declared.head.Head.{Head}
use Rattle.http_front.specs.declared.rule.HttpRule.{HttpRule}
use Rattle.http_front.specs.declared.rule.HttpRule.TheVariants.{H8, H9}
use Rattle.http_front.specs.declared.incoming.Incoming.{Incoming}
use Rattle.http_front.specs.declared.incoming.HttpEnd.{HttpEnd}
use Rattle.http_front.specs.declared.incoming.HttpEnd.TheVariants as http_end
use Rattle.http_front.proofs.HeadTexts.{front_within}

-- ---- a length that is not refused is small

passes : (rules : List (Option HttpRule)) → first_of rules ≡ None → AllByRecursion (λ rule. rule ≡ None) rules
passes [] none = tt
passes (None ∷ rules) none = (refl, passes rules none)
passes (Some n ∷ rules) none = cc none

small_value : (fine big : Bool) → cond {A = Option HttpRule} fine (cond {A = Option HttpRule} big (Some H9) None) (Some H8) ≡ None → big ≡ false
small_value true true none = cc none
small_value true false none = refl
small_value false big none = cc none

small_length : (vs : List (List ℕ)) → length_fault vs ≡ None → length_of vs ≤ 65536
small_length [] none = cc none
small_length (v ∷ []) none = let low : nat_lt 65536 (digits_value 10 v) ≡ false = small_value (is_digits v) (nat_lt 65536 (digits_value 10 v)) none in grind arith
small_length (v ∷ w ∷ vs) none = cc none

pub small_body : (head : RequestHead) → fault head ≡ None → body_length head ≤ 65536
unfolding fault_of
small_body head none = small_length (values (codes "content-length") (fields_of head)) (passes (rules_of head.method head.target (fields_of head)) none).1.1.1.1.0

-- ---- refusals

not_nothing : (bytes more : List ℕ) → bytes ≢ [] → bytes ++ more ≢ []
not_nothing [] more some = absurd (some refl)
not_nothing (b ∷ bytes) more some = λ none. cc none

pub refused_on : (bytes : List ℕ) (left : Option (List ℕ)) (rule : HttpRule) → bytes ≢ [] → IsRefused bytes rule → RefusedAt bytes left rule
refused_on bytes left rule some (inl never) = inl (λ more. inl (not_nothing bytes more some, never.0 more, never.1))
refused_on bytes left rule some (inr (head, behind, begins, breaks)) = inl (λ more. inr (inl (
  head,
  behind ++ more,
  record {
    is = begins.is;
    whole = ap (λ (l : List ℕ). l ++ more) begins.whole ∙ append_assoc (print_request head) behind more;
  },
  breaks,
)))

-- ---- the head goes on standing there

pub head_stays : (bytes more : List ℕ) (kept : Head) → HasHead bytes kept → HasHead (bytes ++ more) kept
head_stays bytes more kept (head, begins, says) =
    let spread : bytes ++ more ≡ print_request head ++ (drop kept.size bytes ++ more) = ap (λ (l : List ℕ). l ++ more) begins.whole ∙ append_assoc (print_request head) (drop kept.size bytes) more in (
      head,
      record { is = begins.is; whole = spread ∙ ap (λ (l : List ℕ). print_request head ++ l) (sym (ap (λ (l : List ℕ). drop kept.size l) spread ∙ drop_at (print_request head) (drop kept.size bytes ++ more) kept.size (sym says.size))) },
      says,
    )

lacks_body : (all : List ℕ) (kept : Head) → HasHead all kept → length all < kept.size + kept.body → LacksBody all
lacks_body all kept (head, begins, says) short =
    (head, drop kept.size all, begins, says.sound, omega (arith, says.size, says.body, ap length begins.whole, length-append (print_request head) (drop kept.size all)))

-- without the byte past the limit
within_limit : (within more : List ℕ) (kept : Head) → HasHead (within ++ more) kept → kept.size ≤ length within → HasHead within kept
within_limit within more kept (head, begins, says) fits = (
  head,
  record {
    is = begins.is;
    whole = subst (λ (n : ℕ). within ≡ print_request head ++ drop n within) (sym says.size)
        (front_within within more (print_request head) (drop kept.size (within ++ more)) begins.whole (omega (arith, says.size)));
  },
  says,
)

-- ---- both together

module _ (left left' left'' : Option (List ℕ)) (old mid new : Carried) (kept : Head) (first : ReadsHead left left' old mid (Ok (Some kept))) where
  abbrev pub all_bytes : List ℕ → List ℕ
  all_bytes more = old.unused ++ (first.bytes ++ more)

  pub together : (more : List ℕ) → all_bytes more ≡ mid.unused ++ more
  together more = sym (append_assoc old.unused first.bytes more) ∙ ap (λ (l : List ℕ). l ++ more) (sym first.found.0)

  head_here : HasHead mid.unused kept
  head_here = subst (λ (l : List ℕ). HasHead l kept) (sym first.found.0) first.found.1

  head_there : (more : List ℕ) → HasHead (all_bytes more) kept
  head_there more = subst (λ (l : List ℕ). HasHead l kept) (sym (together more)) (head_stays mid.unused more kept head_here)

  sizes : (more : List ℕ) → length (all_bytes more) ≡ length mid.unused + length more
  sizes more = ap length (together more) ∙ length-append mid.unused more

  within_body : (more within : List ℕ) (last : ℕ) → mid.unused ++ more ≡ within ++ last ∷ [] → 0 < length more → length within < kept.size + kept.body
      → LacksBody within
  within_body more within last cut some short =
      let here = head_here in
      let fits : kept.size ≤ length mid.unused = omega (arith, here.2.size, ap length here.1.whole, length-append (print_request here.0) (drop kept.size mid.unused)) in
      let room : length mid.unused ≤ length within = omega (arith, ap length cut, length-append mid.unused more, length-append within (last ∷ [])) in
      lacks_body within kept (within_limit within (last ∷ []) kept (subst (λ (l : List ℕ). HasHead l kept) cut (head_stays mid.unused more kept here)) (omega arith)) short

  pub body_ended : (end : HttpEnd) → ReadsBody left' left'' mid new kept.size kept.body (Err end) → Reads left left'' old new (Err end)
  body_ended (http_end.Refused rule) second = record {
    bytes = first.bytes ++ second.bytes;
    source = consumes-then left left' left'' first.bytes second.bytes first.source second.source;
    taken = omega (arith, first.taken, second.taken, length-append first.bytes second.bytes);
    found = (
      inr (inr (inr (lacks_body (all_bytes second.bytes) kept (head_there second.bytes) (subst (λ (l : List ℕ). length l < kept.size + kept.body) (sym (together second.bytes)) second.found.2), second.found.0)), second.found.1),
      second.found.3,
    );
  }
  body_ended http_end.ReadFault second = record {
    bytes = first.bytes ++ second.bytes;
    source = consumes-then left left' left'' first.bytes second.bytes first.source second.source;
    taken = omega (arith, first.taken, second.taken, length-append first.bytes second.bytes);
    found = (
      inr (lacks_body (all_bytes second.bytes) kept (head_there second.bytes) (subst (λ (l : List ℕ). length l < kept.size + kept.body) (sym (together second.bytes)) second.found.0)),
      second.found.1,
    );
  }
  body_ended http_end.InputLimit second =
      let some : 0 < length second.bytes = omega (arith, first.taken, first.found.2, second.taken, second.found.0) in
      record {
        bytes = first.bytes ++ second.bytes;
        source = consumes-then left left' left'' first.bytes second.bytes first.source second.source;
        taken = omega (arith, first.taken, second.taken, length-append first.bytes second.bytes);
        found = (
          second.found.0,
          (second.found.1.0, second.found.1.1, together second.bytes ∙ second.found.1.2, inr (within_body second.bytes second.found.1.0 second.found.1.1 second.found.1.2 some second.found.1.3)),
        );
      }
  body_ended http_end.Memory second = record {
    bytes = first.bytes ++ second.bytes;
    source = consumes-then left left' left'' first.bytes second.bytes first.source second.source;
    taken = tt;
    found = tt;
  }

  pub body_read : (body : List ℕ) (incoming : Incoming) → ReadsBody left' left'' mid new kept.size kept.body (Ok body)
      → incoming.request.route ≡ kept.route → incoming.request.bearer ≡ kept.bearer → incoming.request.body ≡ body → incoming.close ≡ kept.close
      → Reads left left'' old new (Ok (Some incoming))
  unfolding message_text
  body_read body incoming second route_is bearer_is body_is close_is =
      let there = head_there second.bytes in
      let head = there.0 in
      let says = there.2 in
      let message : Message = record { head = head; body = body } in
      record {
        bytes = first.bytes ++ second.bytes;
        source = consumes-then left left' left'' first.bytes second.bytes first.source second.source;
        taken = omega (arith, first.taken, second.taken, length-append first.bytes second.bytes);
        found = (
          (
            message,
            record { head = there.1.is; sound = says.sound; body = second.found.0 ∙ says.body },
            record {
              route = says.route ∙ ap (λ (r : _). Some r) (sym route_is);
              bearer = bearer_is ∙ says.bearer;
              body = body_is;
              close = close_is ∙ says.close;
            },
            there.1.whole
                ∙ ap (λ (l : List ℕ). print_request head ++ l) (ap (λ (l : List ℕ). drop kept.size l) (together second.bytes) ∙ second.found.1)
                ∙ sym (append_assoc (print_request head) body new.unused),
          ),
          second.found.2,
        );
      }
