-- The steps of a renewal, one after another.
use Rattle.std.proofs.Common.{◌≡◌, ◌≢◌, ◌++◌, inr, ℕ, List, [], ◌∷◌, refl, sym, ◌∙◌, ap, subst, append_assoc}
use Rattle.std.specs.Prelude.{Option, None, Some, Result, Ok, Err, IfOk}
use Rattle.client_link.specs.Calls.{Adds}
use Rattle.client_link.specs.declared.target.LinkCall.{LinkCall}
use Rattle.client_link.specs.declared.target.Target.{Target}
use Rattle.client_link.specs.declared.target.Target.TheVariants.{Credential, Token, Account}
use Rattle.client_proto.specs.Replies.{IsReading}
use Rattle.client_proto.specs.Requests.{account_text}
use Rattle.client_proto.specs.declared.config.ClientConfig.{ClientConfig}
use Rattle.client_proto.specs.declared.config.Url.{Url}
use Rattle.client_proto.specs.declared.reply.ReadReply.{ReadReply}
use Rattle.client_proto.specs.declared.reply.ReadReply.TheVariants as reading
use Rattle.renewer.specs.Leases.{EndsWith, IsBad, IsPiece, IsRefusal, TellsMore}
use Rattle.renewer.specs.Renewed.{EndsRenewal, GivesToken}
use Rattle.renewer.specs.Steps.{AreForTokens, AsksAccount, AsksExchange, AsksRenewal, AsksService, AsksServices, AsksSubject, EndsByFault}
use Rattle.renewer.specs.declared.fault.LeaseFault.{LeaseFault}
use Rattle.renewer.specs.declared.fault.LeaseFault.TheVariants.{Refused, BadReply}
use Rattle.renewer.specs.declared.renewal.Given.{Given}
use Rattle.renewer.specs.declared.renewal.Renewal.{Renewal}

pub tells-added : (P : List LinkCall → Type 0) (a b : Option (List LinkCall)) (call : LinkCall) → Adds a b call → P (call ∷ []) → TellsMore a b P
tells-added P None b call adds p = tt
tells-added P (Some xs) None call adds p = absurd adds
tells-added P (Some xs) (Some ys) call adds p = (call ∷ [], adds, p)

-- ---- one call that gave nothing

pub ends_refused : (config : ClientConfig) (at status : ℕ) (call : LinkCall) → call.target ≢ Credential → IsReading call.target at call.reply (reading.Refused status)
    → AreForTokens (call ∷ []) × EndsByFault config at (Refused call.reply) (call ∷ [])
ends_refused config at status call token is = (
  (token, tt),
  record {
    refused = λ reply same.
        let told : call.reply ≡ reply = cc in
        ([], call, refl, told, (token, (status, subst (λ (r : List ℕ). IsReading call.target at r (reading.Refused status)) told is)));
    bad = λ reply same. cc;
  },
)

pub ends_bad : (config : ClientConfig) (at : ℕ) (call : LinkCall) → call.target ≢ Credential → IsReading call.target at call.reply reading.Bad
    → AreForTokens (call ∷ []) × EndsByFault config at (BadReply call.reply) (call ∷ [])
ends_bad config at call token is = (
  (token, tt),
  record {
    refused = λ reply same. cc;
    bad = λ reply same.
        let told : call.reply ≡ reply = cc in
        ([], call, refl, told, inr (token, subst (λ (r : List ℕ). IsReading call.target at r reading.Bad) told is));
  },
)

-- ---- calls before the last one

ends_behind : (front made : List LinkCall) (reply : List ℕ) (IsSo : Target → Type 0) → EndsWith made reply IsSo → EndsWith (front ++ made) reply IsSo
ends_behind front made reply IsSo (before, call, whole, same, so) =
    (front ++ before, call, ap (λ (l : List LinkCall). front ++ l) whole ∙ sym (append_assoc front before (call ∷ [])), same, so)

fault_behind : (config : ClientConfig) (at : ℕ) (fault : LeaseFault) (front made : List LinkCall) → EndsByFault config at fault made → EndsByFault config at fault (front ++ made)
fault_behind config at fault front made ends = record {
  refused = λ reply same. ends_behind front made reply (λ target. IsRefusal target at reply) (ends.refused reply same);
  bad = λ reply same. ends_behind front made reply (λ target. IsBad config target at reply) (ends.bad reply same);
}

-- ---- the account service

pub account_ends : (config : ClientConfig) (at : ℕ) (given other : Given) (request : List ℕ) (url : Url) (account : Option Url) (made : List LinkCall) → account ≡ Some url
    → request ≡ account_text url given.token → AsksService config Account at request (Ok other) made
    → EndsRenewal account given.token given.exp made (record { asked = at; token = other.token; exp = other.exp })
account_ends config at given other request url account made is asks (call, one, gives) =
    subst (λ (a : Option Url). EndsRenewal a given.token given.exp made (record { asked = at; token = other.token; exp = other.exp })) (sym is)
    (call, one, record { target = gives.target_is; request = gives.request_is ∙ asks; reply = gives.reply })

-- ---- both services

token_target : (call : LinkCall) → call.target ≡ Token → call.target ≢ Credential
token_target call is same = cc

pub services_joined : (config : ClientConfig) (at : ℕ) (subject : List ℕ) (given : Given) (result : Result Renewal LeaseFault) (m n : List LinkCall)
    → AsksExchange config at subject (Ok given) m → AsksAccount config at given result n → AsksServices config at subject result (m ++ n)
services_joined config at subject given (Ok renewal) m n (call, one, gives) ends = record {
  exchange = call;
  others = n;
  token = given.token;
  exp = given.exp;
  whole = ap (λ (l : List LinkCall). l ++ n) one;
  gives_token = gives;
  ends = ends;
}
services_joined config at subject given (Err fault) m n (call, one, gives) (tokens, ends) =
    subst (λ (l : List LinkCall). AreForTokens (l ++ n) × EndsByFault config at fault (l ++ n)) (sym one)
    ((token_target call gives.target, tokens), fault_behind config at fault (call ∷ []) n ends)

-- ---- all

pub renewal_joined : (config : ClientConfig) (at : ℕ) (subject text : List ℕ) (result : Result Renewal LeaseFault) (m n : List LinkCall) → text ≡ subject
    → IfOk result (λ renewal. renewal.asked ≡ at) → AsksSubject config at (Ok subject) m → AsksServices config at text result n → AsksRenewal config at result (m ++ n)
renewal_joined config at subject text (Ok renewal) m n same asked (call, one, gives) is = record {
  credential = call;
  exchange = is.exchange;
  others = is.others;
  subject = subject;
  token = is.token;
  exp = is.exp;
  whole = ap (λ (l : List LinkCall). l ++ n) one ∙ ap (λ (l : List LinkCall). call ∷ l) is.whole;
  gives_subject = gives;
  gives_token = subst (λ (a : ℕ). GivesToken config a subject is.exchange is.token is.exp) (sym asked)
      (subst (λ (s : List ℕ). GivesToken config at s is.exchange is.token is.exp) same is.gives_token);
  ends = is.ends;
}
renewal_joined config at subject text (Err fault) m n same asked (call, one, gives) (tokens, ends) =
    subst (λ (l : List LinkCall). IsPiece (l ++ n) × EndsByFault config at fault (l ++ n)) (sym one)
    ((gives.target, tokens), fault_behind config at fault (call ∷ []) n ends)

-- what was read from the slice of a reply is read from the reply
pub reading_as : (target : Target) (at : ℕ) (slice reply : List ℕ) (said other : ReadReply) → slice ≡ reply → said ≡ other → IsReading target at slice said → IsReading target at reply other
reading_as target at slice reply said other same means is =
    subst (λ (r : List ℕ). IsReading target at r other) same (subst (λ (s : ReadReply). IsReading target at slice s) means is)
