-- The calls that are counted as failed are those whose reply is refused or bad.
use Rattle.std.proofs.Common.{◌≡◌, ◌≢◌, ◌≤◌, ◌⊎◌, inl, inr, ℕ, ◌+◌, List, [], ◌∷◌, ◌++◌, length, map, Bool, true, false, not, cond, ◌&&◌, ◌==◌, nat_le, refl, sym, ◌∙◌, ap, subst, arith, codes}
use Rattle.std.specs.Prelude.{Option, None, Some, option_map, option_and_then, if◌then◌else◌}
use Rattle.std.specs.Fmt.{decimal}
use Rattle.std.specs.Str.Parse.{digits_value}
use Rattle.serde_json.specs.Data.{Data}
use Rattle.httparse.specs.Grammar.{Field, ReadsResponse}
use Rattle.httparse.specs.Spans.{name_and_value}
use Rattle.base_types.specs.Reading.{◌>>=◌}
use Rattle.json_text.specs.Document.{document}
use Rattle.json_text.specs.Members.{name_at}
use Rattle.client_link.specs.declared.target.LinkCall.{LinkCall}
use Rattle.client_link.specs.declared.target.Target.{Target}
use Rattle.client_link.specs.declared.target.Target.TheVariants.{Credential, Token, Account}
use Rattle.client_proto.specs.Replies.{IsReading, IsReply, end_after, is_bearer, is_token, reading_of, told_token, token_of, values}
use Rattle.client_proto.specs.Subjects.{subject_in}
use Rattle.client_proto.specs.declared.config.ClientConfig.{ClientConfig}
use Rattle.client_proto.specs.declared.reply.ReadReply.{ReadReply}
use Rattle.client_proto.specs.declared.reply.ReadReply.TheVariants as reading
use Rattle.renewer.specs.Leases.{EndsWith, IsBad, IsRefusal}
use Rattle.shared_renewer.specs.Failures.{IsFailed, failed_calls, is_failed}
use Rattle.shared_renewer.specs.Searches.{has_no_subject, is_failed_reply, is_no_token, is_only, some_cut, some_reply}
use Rattle.shared_renewer.proofs.Heads.{both_pass, bytes_same, cut_found, cut_there, head_found, head_there, one_passes, passes_both, passes_first, passes_second, same_bytes}

-- ---- replies

only_found : (text : List ℕ) (texts : List (List ℕ)) → is_only text texts ≡ true → texts ≡ text ∷ []
only_found text [] is = cc is
only_found text (one ∷ []) is = ap (λ (t : List ℕ). t ∷ []) (same_bytes one text is)
only_found text (one ∷ other ∷ texts) is = cc is

only_there : (text : List ℕ) (texts : List (List ℕ)) → texts ≡ text ∷ [] → is_only text texts ≡ true
only_there text texts is = subst (λ (l : List (List ℕ)). is_only text l ≡ true) (sym is) (bytes_same text text refl)

-- the body is of the length that the fields say, and passes
abbrev sized : (ℕ → List ℕ → Bool) → List ℕ → List Field → List ℕ → List ℕ → Bool
sized passes digits fields body more = is_only (decimal (length body)) (values (codes "content-length") (map name_and_value fields)) && passes (digits_value 10 digits) body

pub reply_found : (passes : ℕ → List ℕ → Bool) (bytes : List ℕ) → some_reply passes bytes ≡ true
    → (status : ℕ) × (body : List ℕ) × IsReply bytes status body × (passes status body ≡ true)
unfolding some_reply
reply_found passes bytes is =
    let h = head_found (λ digits fields. some_cut (sized passes digits fields)) bytes is in
    let c = cut_found (sized passes h.0.digits h.0.fields) h.2.0 h.2.2 in
    let t = both_pass (is_only (decimal (length c.0)) (values (codes "content-length") (map name_and_value h.0.fields))) (passes (digits_value 10 h.0.digits) c.0) c.3 in (
      digits_value 10 h.0.digits,
      c.0,
      record {
        head = h.0;
        more = c.1;
        reads = subst (λ (l : List ℕ). ReadsResponse bytes h.0 l) c.2 h.2.1;
        room = h.1;
        status_is = refl;
        size = only_found (decimal (length c.0)) (values (codes "content-length") (map name_and_value h.0.fields)) t.0;
      },
      t.1,
    )

pub reply_there : (passes : ℕ → List ℕ → Bool) (bytes : List ℕ) (status : ℕ) (body : List ℕ) → IsReply bytes status body → passes status body ≡ true
    → some_reply passes bytes ≡ true
unfolding some_reply
reply_there passes bytes status body is ok =
    let passed : passes (digits_value 10 is.head.digits) body ≡ true = subst (λ (s : ℕ). passes s body ≡ true) is.status_is ok in
    head_there (λ digits fields. some_cut (sized passes digits fields)) bytes is.head (body ++ is.more) is.reads is.room
    (cut_there (sized passes is.head.digits is.head.fields) body is.more
    (passes_both (is_only (decimal (length body)) (values (codes "content-length") (map name_and_value is.head.fields))) (passes (digits_value 10 is.head.digits) body)
    (only_there (decimal (length body)) (values (codes "content-length") (map name_and_value is.head.fields)) is.size) passed))

-- ---- whether there is a token doesn't depend on the moment

token_at : (a b : ℕ) (d : Data) → is_no_token (told_token (token_of Token a d)) ≡ is_no_token (told_token (token_of Token b d))
token_at a b d = by_token (name_at is_token (codes "access_token") d)
  where
    by_end : (token : List ℕ) (seconds : Option ℕ) → is_no_token (told_token (option_map (λ n. a + n) seconds >>= (λ end. Some (token, end))))
        ≡ is_no_token (told_token (option_map (λ n. b + n) seconds >>= (λ end. Some (token, end))))
    by_end token None = refl
    by_end token (Some n) = refl

    by_type : (token : List ℕ) (type : Option (List ℕ)) → is_no_token (told_token (type >>= (λ t. end_after a d >>= (λ end. Some (token, end)))))
        ≡ is_no_token (told_token (type >>= (λ t. end_after b d >>= (λ end. Some (token, end)))))
    by_type token None = refl
    by_type token (Some t) = by_end token _

    by_token : (token : Option (List ℕ)) → is_no_token (told_token (token >>= (λ k. name_at is_bearer (codes "token_type") d >>= (λ t. end_after a d >>= (λ end. Some (k, end))))))
        ≡ is_no_token (told_token (token >>= (λ k. name_at is_bearer (codes "token_type") d >>= (λ t. end_after b d >>= (λ end. Some (k, end))))))
    by_token None = refl
    by_token (Some k) = by_type k (name_at is_bearer (codes "token_type") d)

token_any : (target : Target) (a b : ℕ) (d : Option Data) → is_no_token (told_token (option_and_then (token_of target a) d)) ≡ is_no_token (told_token (option_and_then (token_of target b) d))
token_any target a b None = refl
token_any Credential a b (Some d) = refl
token_any Token a b (Some d) = token_at a b d
token_any Account a b (Some d) = refl

reading_any : (target : Target) (a b status : ℕ) (body : List ℕ) → is_no_token (reading_of target a status body) ≡ is_no_token (reading_of target b status body)
unfolding reading_of
reading_any target a b status body = by_test (status == 200)
  where
    other : ReadReply
    other = if nat_le 400 status && nat_le status 599 then reading.Refused status else reading.Bad

    by_test : (t : Bool) → is_no_token (cond {A = ReadReply} t (told_token (option_and_then (token_of target a) (document body))) (if nat_le 400 status && nat_le status 599 then reading.Refused status else reading.Bad))
        ≡ is_no_token (cond {A = ReadReply} t (told_token (option_and_then (token_of target b) (document body))) (if nat_le 400 status && nat_le status 599 then reading.Refused status else reading.Bad))
    by_test true = token_any target a b (document body)
    by_test false = refl

-- ---- a service's reply

no_token_means : (target : Target) (config : ClientConfig) (bytes : List ℕ) (status : ℕ) (body : List ℕ) → target ≢ Credential → IsReply bytes status body → (said : ReadReply)
    → reading_of target 0 status body ≡ said → is_no_token said ≡ true → IsRefusal target 0 bytes ⊎ IsBad config target 0 bytes
no_token_means target config bytes status body service is (reading.Token token exp) says without = cc without
no_token_means target config bytes status body service is (reading.Refused s) says without = inl (service, (s, inl (status, body, is, sym says)))
no_token_means target config bytes status body service is reading.Bad says without = inr (inr (service, inl (status, body, is, sym says)))

no_reply : (bytes : List ℕ) → not (some_reply (λ status body. true) bytes) ≡ true → (status : ℕ) (body : List ℕ) → IsReply bytes status body → ⊥
no_reply bytes none status body is =
    let found = reply_there (λ s b. true) bytes status body is refl in
    let wrong : not true ≡ true = sym (ap not found) ∙ none in
    cc wrong

pub failed_means : (target : Target) (config : ClientConfig) (bytes : List ℕ) → target ≢ Credential → is_failed_reply target bytes ≡ true
    → IsRefusal target 0 bytes ⊎ IsBad config target 0 bytes
unfolding is_failed_reply
failed_means target config bytes service is =
    elim (one_passes (not (some_reply (λ status body. true) bytes)) (some_reply (λ status body. is_no_token (reading_of target 0 status body)) bytes) is) [
      | inl none ↦ inr (inr (service, inr (no_reply bytes none, refl)))
      | inr some ↦
          let r = reply_found (λ status body. is_no_token (reading_of target 0 status body)) bytes some in
          no_token_means target config bytes r.0 r.1 service r.2 (reading_of target 0 r.0 r.1) refl r.3
    ]

there_fails : (target : Target) (at : ℕ) (bytes : List ℕ) (said : ReadReply) → is_no_token said ≡ true → IsReading target at bytes said → is_failed_reply target bytes ≡ true
unfolding is_failed_reply
there_fails target at bytes said without (inl (status, body, is, says)) =
    let none : is_no_token (reading_of target 0 status body) ≡ true = reading_any target 0 at status body ∙ sym (ap is_no_token says) ∙ without in
    passes_second (not (some_reply (λ s b. true) bytes)) (some_reply (λ s b. is_no_token (reading_of target 0 s b)) bytes)
    (reply_there (λ s b. is_no_token (reading_of target 0 s b)) bytes status body is none)
there_fails target at bytes said without (inr (none, bad)) =
    passes_first (not (some_reply (λ s b. true) bytes)) (some_reply (λ s b. is_no_token (reading_of target 0 s b)) bytes)
    (by_test (some_reply (λ s b. true) bytes) refl)
  where
    by_test : (t : Bool) → some_reply (λ s b. true) bytes ≡ t → not t ≡ true
    by_test true found = let r = reply_found (λ s b. true) bytes found in absurd (none r.0 r.1 r.2)
    by_test false found = refl

pub service_fails : (target : Target) (config : ClientConfig) (at : ℕ) (bytes : List ℕ) → target ≢ Credential → IsRefusal target at bytes ⊎ IsBad config target at bytes
    → is_failed_reply target bytes ≡ true
service_fails target config at bytes service (inl (is, (status, reads))) = there_fails target at bytes (reading.Refused status) refl reads
service_fails target config at bytes service (inr (inl (credential, none))) = absurd (service credential)
service_fails target config at bytes service (inr (inr (is, reads))) = there_fails target at bytes reading.Bad refl reads

-- ---- a call

no_subject : (there : Option (List ℕ)) → has_no_subject there ≡ true → there ≡ None
no_subject None is = refl
no_subject (Some subject) is = cc is

failed_at : (config : ClientConfig) (target : Target) (request reply : List ℕ) → is_failed config (record { target = target; request = request; reply = reply }) ≡ true
    → IsFailed config (record { target = target; request = request; reply = reply })
unfolding is_failed
failed_at config Credential request reply is = (0, inr (inl (refl, no_subject (subject_in config.field reply) is)))
failed_at config Token request reply is = (0, failed_means Token config reply (λ same. cc same) is)
failed_at config Account request reply is = (0, failed_means Account config reply (λ same. cc same) is)

fails_at : (config : ClientConfig) (target : Target) (request reply : List ℕ) (at : ℕ) → IsRefusal target at reply ⊎ IsBad config target at reply
    → is_failed config (record { target = target; request = request; reply = reply }) ≡ true
unfolding is_failed
fails_at config Credential request reply at (inl (service, refused)) = absurd (service refl)
fails_at config Credential request reply at (inr (inl (same, none))) = ap has_no_subject none
fails_at config Credential request reply at (inr (inr (service, reads))) = absurd (service refl)
fails_at config Token request reply at so = service_fails Token config at reply (λ same. cc same) so
fails_at config Account request reply at so = service_fails Account config at reply (λ same. cc same) so

pub failed_is : (config : ClientConfig) (call : LinkCall) → is_failed config call ≡ true → IsFailed config call
failed_is config call is = failed_at config call.target call.request call.reply is

pub is_counted : (config : ClientConfig) (call : LinkCall) → IsFailed config call → is_failed config call ≡ true
is_counted config call (at, so) = fails_at config call.target call.request call.reply at so

-- ---- many calls

pub failed-append : (config : ClientConfig) (calls more : List LinkCall) → failed_calls config (calls ++ more) ≡ failed_calls config calls + failed_calls config more
failed-append config [] more = omega arith
failed-append config (call ∷ calls) more = omega (arith, failed-append config calls more)

-- calls that end with such a reply have one at least
pub ends_failed : (config : ClientConfig) (made : List LinkCall) (reply : List ℕ) (IsSo : Target → Type 0) → EndsWith made reply IsSo
    → ((target : Target) → IsSo target → (at : ℕ) × (IsRefusal target at reply ⊎ IsBad config target at reply)) → 1 ≤ failed_calls config made
ends_failed config made reply IsSo (before, call, whole, same, so) means =
    let is : IsFailed config call = let m = means call.target so in (m.0, subst (λ (r : List ℕ). IsRefusal call.target m.0 r ⊎ IsBad config call.target m.0 r) (sym same) m.1) in
    let one : failed_calls config (call ∷ []) ≡ 1 = ap (λ (b : Bool). cond {A = ℕ} b 1 0 + 0) (is_counted config call is) ∙ omega arith in
    omega (arith, one, failed-append config before (call ∷ []), ap (failed_calls config) whole)
