-- What a call for a lease leaves, from what its steps did.
use Rattle.std.proofs.Common.{◌≡◌, ◌≢◌, ◌<◌, ◌≤◌, ◌⊎◌, inl, inr, ℕ, ◌+◌, ◌-◌, List, [], ◌∷◌, ◌++◌, length, refl, sym, ◌∙◌, ap, subst, arith, length-append}
use Rattle.std.specs.Prelude.{Option, None, Some, Result, Ok, Err, IfOk, IfErr, IfSome, slice_get}
use Rattle.client_link.specs.declared.target.LinkCall.{LinkCall}
use Rattle.client_link.specs.declared.target.Target.TheVariants.{Credential, Token, Account}
use Rattle.client_proto.specs.declared.config.ClientConfig.{ClientConfig}
use Rattle.client_proto.specs.declared.config.Url.{Url}
use Rattle.renewer.specs.Flights.{IsSound}
use Rattle.renewer.specs.Histories.{IsUncovered, newest}
use Rattle.renewer.specs.Leases.{IsAsked, IsLeased, IsPiece, IsRecorded, TellsMore}
use Rattle.renewer.specs.Renewed.{EndsRenewal, IsRenewal}
use Rattle.renewer.specs.Steps.{AreForTokens, AsksRenewal}
use Rattle.renewer.specs.declared.fault.LeaseFault.{LeaseFault}
use Rattle.renewer.specs.declared.fault.LeaseFault.TheVariants.{LinkFault, Refused, BadReply, ShortLived, Exhausted, Memory}
use Rattle.renewer.specs.declared.renewal.Lease.{Lease}
use Rattle.renewer.specs.declared.renewal.Renewal.{Renewal}
use Rattle.renewer.proofs.Newest.{none_newest, waste-push}
use Rattle.renewer.proofs.Pieces.{told_last, told_more}
use Rattle.renewer.proofs.Telling.{tells-as}

-- ---- there is room, and a need

pub record HasNeed (margin at : ℕ) (history : List Renewal) : Type 0 where
  pub uncovered : IsUncovered margin at history
  pub room : length history < 10_000

pub need_some : (margin at : ℕ) (history slice : List Renewal) (r : Renewal) → slice ≡ history → Some r ≡ slice_get slice (length slice - 1) → r.exp ≤ at + margin
    → length history ≢ 10_000 → length history ≤ 10_000 → HasNeed margin at history
need_some margin at history slice r same last late full most =
    let found : newest history ≡ Some r = sym (last ∙ ap (λ (h : List Renewal). newest h) same) in
    record { uncovered = subst (λ (o : Option Renewal). IfSome o (λ n. n.exp ≤ at + margin)) (sym found) late; room = omega (arith, full, most) }

pub need_none : (margin at : ℕ) (history slice : List Renewal) → slice ≡ history → None ≡ slice_get slice (length slice - 1) → HasNeed margin at history
need_none margin at history slice same last =
    let found : newest history ≡ None = sym (last ∙ ap (λ (h : List Renewal). newest h) same) in
    record { uncovered = subst (λ (o : Option Renewal). IfSome o (λ n. n.exp ≤ at + margin)) (sym found) tt; room = omega (arith, none_newest history found) }

-- ---- one renewal more

last_get : (history : List Renewal) (r : Renewal) → slice_get (history ++ r ∷ []) (length history) ≡ Some r
last_get [] r = refl
last_get (x ∷ history) r = last_get history r

push_same : (history : List Renewal) (r s : Renewal) → history ++ r ∷ [] ≡ history ++ s ∷ [] → r ≡ s
push_same history r s same =
    let both : Some r ≡ Some s = sym (last_get history r) ∙ ap (λ (h : List Renewal). slice_get h (length history)) same ∙ last_get history s in
    cc both

push_differs : (history : List Renewal) (r : Renewal) → history ≡ history ++ r ∷ [] → ⊥
push_differs history r same = omega (arith, ap length same, length-append history (r ∷ []))

-- ---- the calls of a renewal

token_target : (call : LinkCall) → call.target ≡ Token → call.target ≢ Credential
token_target call is same = cc

account_target : (call : LinkCall) → call.target ≡ Account → call.target ≢ Credential
account_target call is same = cc

others_for_tokens : (account : Option Url) (token : List ℕ) (exp : ℕ) (others : List LinkCall) (r : Renewal) → EndsRenewal account token exp others r → AreForTokens others
others_for_tokens None token exp others r (none, same, ends) = subst (λ (l : List LinkCall). AreForTokens l) (sym none) tt
others_for_tokens (Some url) token exp others r (call, one, gives) = subst (λ (l : List LinkCall). AreForTokens l) (sym one) (account_target call gives.target, tt)

renewal_is_piece : (config : ClientConfig) (made : List LinkCall) (r : Renewal) → IsRenewal config made r → IsPiece made
renewal_is_piece config made r is =
    subst (λ (l : List LinkCall). IsPiece l) (sym is.whole)
    (is.gives_subject.target, (token_target is.exchange is.gives_token.target, others_for_tokens config.account is.token is.exp is.others r is.ends))

-- ---- what holds of the client

grown : (config : ClientConfig) (margin at : ℕ) (old new : List Renewal) (r : Renewal) (before now later : Option (List LinkCall))
    → IsSound config margin old before now → HasNeed margin at old → r.asked ≡ at → TellsMore now later (AsksRenewal config at (Ok r)) → new ≡ old ++ r ∷ []
    → IsSound config margin new before later
grown config margin at old new r before now later sound need asked tells is = subst (λ (h : List Renewal). IsSound config margin h before later) (sym is) (record {
  within = sound.within;
  waste = waste-push margin at old r sound.waste need.uncovered asked;
  most = omega (arith, need.room, length-append old (r ∷ []));
  told = told_last config before now later old r sound.told
      (tells-as (AsksRenewal config at (Ok r)) (λ made. IsPiece made × IsRenewal config made r) now later tells (λ made renewal. (renewal_is_piece config made r renewal, renewal)));
})

pub sound_recorded : (config : ClientConfig) (margin at : ℕ) (old new : List Renewal) (r : Renewal) (result : Result Lease LeaseFault) (before now later : Option (List LinkCall))
    → IsSound config margin old before now → HasNeed margin at old → r.asked ≡ at → TellsMore now later (AsksRenewal config at (Ok r)) → IsRecorded at old new r result
    → IsSound config margin new before later
sound_recorded config margin at old new r (Ok lease) before now later sound need asked tells (is, ends, same) = grown config margin at old new r before now later sound need asked tells is
sound_recorded config margin at old new r (Err LinkFault) before now later sound need asked tells is = absurd is
sound_recorded config margin at old new r (Err (Refused reply)) before now later sound need asked tells is = absurd is
sound_recorded config margin at old new r (Err (BadReply reply)) before now later sound need asked tells is = absurd is
sound_recorded config margin at old new r (Err (ShortLived exp)) before now later sound need asked tells (is, same, over) = grown config margin at old new r before now later sound need asked tells is
sound_recorded config margin at old new r (Err (Exhausted exp)) before now later sound need asked tells is = absurd is
sound_recorded config margin at old new r (Err Memory) before now later sound need asked tells is =
    subst (λ (h : List Renewal). IsSound config margin h before later) (sym is) (record {
      within = sound.within;
      waste = sound.waste;
      most = sound.most;
      told = told_more config before now later old sound.told
          (tells-as (AsksRenewal config at (Ok r)) IsPiece now later tells (λ made renewal. renewal_is_piece config made r renewal));
    })

pub sound_still : (config : ClientConfig) (margin at : ℕ) (history : List Renewal) (fault : LeaseFault) (before now later : Option (List LinkCall))
    → IsSound config margin history before now → TellsMore now later (AsksRenewal config at (Err fault)) → IsSound config margin history before later
sound_still config margin at history fault before now later sound tells = record {
  within = sound.within;
  waste = sound.waste;
  most = sound.most;
  told = told_more config before now later history sound.told (tells-as (AsksRenewal config at (Err fault)) IsPiece now later tells (λ made ends. ends.0));
}

-- ---- what is answered

pub leased_recorded : (margin at : ℕ) (old new : List Renewal) (r : Renewal) (result : Result Lease LeaseFault) → IsRecorded at old new r result → r.asked ≡ at
    → IfOk result (IsLeased margin at new)
leased_recorded margin at old new r (Ok lease) (is, ends, same) asked =
    subst (λ (l : Lease). IsLeased margin at new l) (sym same) (record {
      renewal = r;
      there = ap (λ (h : List Renewal). slice_get h (length old)) is ∙ last_get old r;
      last = omega (arith, ap length is, length-append old (r ∷ []));
      token = refl;
      exp = refl;
      ends = ends;
      good = inr asked;
    })
leased_recorded margin at old new r (Err fault) recorded asked = tt

pub short_recorded : (at : ℕ) (old new : List Renewal) (r s : Renewal) (result : Result Lease LeaseFault) → IsRecorded at old new r result → new ≡ old ++ s ∷ [] → s.exp ≤ at
    → result ≡ Err (ShortLived s.exp)
short_recorded at old new r s (Ok lease) (is, ends, same) grew over =
    let one : r ≡ s = push_same old r s (sym is ∙ grew) in
    absurd (omega (arith, ends, over, ap (λ (x : Renewal). x.exp) one))
short_recorded at old new r s (Err LinkFault) recorded grew over = absurd recorded
short_recorded at old new r s (Err (Refused reply)) recorded grew over = absurd recorded
short_recorded at old new r s (Err (BadReply reply)) recorded grew over = absurd recorded
short_recorded at old new r s (Err (ShortLived exp)) (is, same, past) grew over =
    ap (λ (e : ℕ). Err (ShortLived e)) (same ∙ ap (λ (x : Renewal). x.exp) (push_same old r s (sym is ∙ grew)))
short_recorded at old new r s (Err (Exhausted exp)) recorded grew over = absurd recorded
short_recorded at old new r s (Err Memory) recorded grew over = absurd (push_differs old s (sym recorded ∙ grew))

-- ---- what was asked

-- nothing
pub asked_nothing : (config : ClientConfig) (margin at : ℕ) (history : List Renewal) (result : Result Lease LeaseFault)
    → ((reply : List ℕ) → result ≡ Err (Refused reply) → ⊥) → ((reply : List ℕ) → result ≡ Err (BadReply reply) → ⊥) → IsAsked config margin at history history result []
asked_nothing config margin at history result refused bad = record {
  piece = tt;
  needed = inl refl;
  given = λ r grew. absurd (push_differs history r grew);
  refused = λ reply is. absurd (refused reply is);
  bad = λ reply is. absurd (bad reply is);
}

pub only_memory : (result : Result Lease LeaseFault) → IfErr result (λ error. error ≡ Memory) → (fault : LeaseFault) → result ≡ Err fault → fault ≡ Memory
only_memory (Ok lease) memory fault is = cc is
only_memory (Err error) memory fault is = let same : error ≡ fault = cc is in sym same ∙ memory

-- one renewal, of which the history tells whether it was recorded
given_recorded : (config : ClientConfig) (at : ℕ) (old new : List Renewal) (r s : Renewal) (made : List LinkCall) → IsRenewal config made r → (new ≡ old ++ r ∷ []) ⊎ (new ≡ old)
    → new ≡ old ++ s ∷ [] → IsRenewal config made s
given_recorded config at old new r s made is (inl grew) so = subst (λ (x : Renewal). IsRenewal config made x) (push_same old r s (sym grew ∙ so)) is
given_recorded config at old new r s made is (inr same) so = absurd (push_differs old s (sym same ∙ so))

recorded_or_not : (at : ℕ) (old new : List Renewal) (r : Renewal) (result : Result Lease LeaseFault) → IsRecorded at old new r result → (new ≡ old ++ r ∷ []) ⊎ (new ≡ old)
recorded_or_not at old new r (Ok lease) (is, ends, same) = inl is
recorded_or_not at old new r (Err LinkFault) recorded = absurd recorded
recorded_or_not at old new r (Err (Refused reply)) recorded = absurd recorded
recorded_or_not at old new r (Err (BadReply reply)) recorded = absurd recorded
recorded_or_not at old new r (Err (ShortLived exp)) (is, same, over) = inl is
recorded_or_not at old new r (Err (Exhausted exp)) recorded = absurd recorded
recorded_or_not at old new r (Err Memory) recorded = inr recorded

pub asked_renewal : (config : ClientConfig) (margin at : ℕ) (old new : List Renewal) (r : Renewal) (result : Result Lease LeaseFault) (made : List LinkCall)
    → HasNeed margin at old → IsRecorded at old new r result → AsksRenewal config at (Ok r) made → IsAsked config margin at old new result made
asked_renewal config margin at old new r result made need recorded is = record {
  piece = renewal_is_piece config made r is;
  needed = inr (need.uncovered, need.room);
  given = λ s grew. given_recorded config at old new r s made is (recorded_or_not at old new r result recorded) grew;
  refused = λ reply same. absurd (subst (λ (x : Result Lease LeaseFault). IsRecorded at old new r x) same recorded);
  bad = λ reply same. absurd (subst (λ (x : Result Lease LeaseFault). IsRecorded at old new r x) same recorded);
}

pub asked_in_vain : (config : ClientConfig) (margin at : ℕ) (history : List Renewal) (fault : LeaseFault) (made : List LinkCall) → HasNeed margin at history
    → AsksRenewal config at (Err fault) made → IsAsked config margin at history history (Err fault) made
asked_in_vain config margin at history fault made need (piece, ends) = record {
  piece = piece;
  needed = inr (need.uncovered, need.room);
  given = λ r grew. absurd (push_differs history r grew);
  refused = λ reply same. ends.refused reply (fault_is (Refused reply) same);
  bad = λ reply same. ends.bad reply (fault_is (BadReply reply) same);
}
  where
    fault_is : (other : LeaseFault) → ◌≡◌ {A = Result Lease LeaseFault} (Err fault) (Err other) → fault ≡ other
    fault_is other same = cc same
