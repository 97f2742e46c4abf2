-- Calls that begin with one for a credential are pieces of their own.
use Rattle.std.proofs.Common.{◌≡◌, ◌++◌, inl, inr, List, [], ◌∷◌, Bool, true, false, cond, refl, sym, ◌∙◌, ap, subst}
use Rattle.std.specs.Prelude.{Option, None, Some}
use Rattle.client_link.specs.declared.target.LinkCall.{LinkCall}
use Rattle.client_link.specs.declared.target.Target.TheVariants.{Credential}
use Rattle.client_proto.specs.declared.config.ClientConfig.{ClientConfig}
use Rattle.client_proto.specs.declared.config.Url.{Url}
use Rattle.renewer.specs.Flights.{AreToldSince}
use Rattle.renewer.specs.Leases.{IsPiece, TellsMore}
use Rattle.renewer.specs.Renewed.{AreGivenBy, EndsRenewal, IsRenewal, Renewed, begins_anew, is_credential, pieces, put_before}
use Rattle.renewer.specs.declared.renewal.Renewal.{Renewal}
use Rattle.std.proofs.Common.{append_assoc}

abbrev Pieces : Type 0
Pieces = List (List LinkCall)

-- ---- cutting

before_append : (call : LinkCall) (piece : List LinkCall) (ps qs : Pieces) → put_before call ((piece ∷ ps) ++ qs) ≡ put_before call (piece ∷ ps) ++ qs
before_append call piece ps qs = by_test (begins_anew piece)
  where
    by_test : (b : Bool) → cond {A = Pieces} b ((call ∷ []) ∷ (piece ∷ (ps ++ qs))) ((call ∷ piece) ∷ (ps ++ qs)) ≡ cond {A = Pieces} b ((call ∷ []) ∷ (piece ∷ ps)) ((call ∷ piece) ∷ ps) ++ qs
    by_test true = refl
    by_test false = refl

-- what stands behind a call is one piece at least
before_twice : (call other : LinkCall) (ps qs : Pieces) → put_before call (put_before other ps ++ qs) ≡ put_before call (put_before other ps) ++ qs
before_twice call other [] qs = before_append call (other ∷ []) [] qs
before_twice call other (piece ∷ ps) qs = by_test (begins_anew piece)
  where
    by_test : (b : Bool) → put_before call (cond {A = Pieces} b ((other ∷ []) ∷ (piece ∷ ps)) ((other ∷ piece) ∷ ps) ++ qs)
        ≡ put_before call (cond {A = Pieces} b ((other ∷ []) ∷ (piece ∷ ps)) ((other ∷ piece) ∷ ps)) ++ qs
    by_test true = before_append call (other ∷ []) (piece ∷ ps) qs
    by_test false = before_append call (other ∷ piece) ps qs

-- a call before one for a credential
before_credential : (call other : LinkCall) (ps : Pieces) → is_credential other.target ≡ true → put_before call (put_before other ps) ≡ (call ∷ []) ∷ put_before other ps
before_credential call other [] anew = ap (λ (b : Bool). cond {A = Pieces} b ((call ∷ []) ∷ ((other ∷ []) ∷ [])) ((call ∷ (other ∷ [])) ∷ [])) anew
before_credential call other (piece ∷ ps) anew = by_test (begins_anew piece)
  where
    by_test : (b : Bool) → put_before call (cond {A = Pieces} b ((other ∷ []) ∷ (piece ∷ ps)) ((other ∷ piece) ∷ ps)) ≡ (call ∷ []) ∷ cond {A = Pieces} b ((other ∷ []) ∷ (piece ∷ ps)) ((other ∷ piece) ∷ ps)
    by_test true = ap (λ (b : Bool). cond {A = Pieces} b ((call ∷ []) ∷ ((other ∷ []) ∷ (piece ∷ ps))) ((call ∷ (other ∷ [])) ∷ (piece ∷ ps))) anew
    by_test false = ap (λ (b : Bool). cond {A = Pieces} b ((call ∷ []) ∷ ((other ∷ piece) ∷ ps)) ((call ∷ (other ∷ piece)) ∷ ps)) anew

credential_target : (call : LinkCall) → call.target ≡ Credential → is_credential call.target ≡ true
credential_target call is = ap is_credential is

pieces-append : (calls more : List LinkCall) → IsPiece more → pieces (calls ++ more) ≡ pieces calls ++ pieces more
unfolding pieces
pieces-append [] more piece = refl
pieces-append (call ∷ []) [] piece = refl
pieces-append (call ∷ []) (other ∷ more) piece = before_credential call other (pieces more) (credential_target other piece.0)
pieces-append (call ∷ other ∷ calls) more piece =
    ap (put_before call) (pieces-append (other ∷ calls) more piece) ∙ before_twice call other (pieces calls) (pieces more)

-- the calls of a renewal are one piece

three_pieces : (a b c : LinkCall) → is_credential b.target ≡ false → is_credential c.target ≡ false → pieces (a ∷ b ∷ c ∷ []) ≡ (a ∷ b ∷ c ∷ []) ∷ []
unfolding pieces
three_pieces a b c second third =
    ap (λ (x : Bool). put_before a (cond {A = Pieces} x ((b ∷ []) ∷ ((c ∷ []) ∷ [])) ((b ∷ (c ∷ [])) ∷ []))) third
    ∙ ap (λ (x : Bool). cond {A = Pieces} x ((a ∷ []) ∷ ((b ∷ (c ∷ [])) ∷ [])) ((a ∷ (b ∷ (c ∷ []))) ∷ [])) second

two_pieces : (a b : LinkCall) → is_credential b.target ≡ false → pieces (a ∷ b ∷ []) ≡ (a ∷ b ∷ []) ∷ []
unfolding pieces
two_pieces a b second = ap (λ (x : Bool). cond {A = Pieces} x ((a ∷ []) ∷ ((b ∷ []) ∷ [])) ((a ∷ (b ∷ [])) ∷ [])) second

ends_piece : (credential exchange : LinkCall) (others : List LinkCall) (account : Option Url) (token : _) (exp : _) (renewal : Renewal)
    → is_credential exchange.target ≡ false → EndsRenewal account token exp others renewal → pieces (credential ∷ exchange ∷ others) ≡ (credential ∷ exchange ∷ others) ∷ []
ends_piece credential exchange others None token exp renewal second (none, same, ends) =
    ap (λ (l : List LinkCall). pieces (credential ∷ exchange ∷ l)) none ∙ two_pieces credential exchange second ∙ ap (λ (l : List LinkCall). (credential ∷ exchange ∷ l) ∷ []) (sym none)
ends_piece credential exchange others (Some url) token exp renewal second (call, one, gives) =
    ap (λ (l : List LinkCall). pieces (credential ∷ exchange ∷ l)) one ∙ three_pieces credential exchange call second (ap is_credential gives.target)
    ∙ ap (λ (l : List LinkCall). (credential ∷ exchange ∷ l) ∷ []) (sym one)

pub renewal_piece : (config : ClientConfig) (made : List LinkCall) (renewal : Renewal) → IsRenewal config made renewal → pieces made ≡ made ∷ []
renewal_piece config made renewal is =
    ap pieces is.whole
    ∙ ends_piece is.credential is.exchange is.others config.account is.token is.exp renewal (ap is_credential is.gives_token.target) is.ends
    ∙ ap (λ (l : List LinkCall). l ∷ []) (sym is.whole)

-- ---- renewals among pieces

given_front : (config : ClientConfig) (ps qs : Pieces) (rs : List Renewal) → AreGivenBy config ps rs → AreGivenBy config (ps ++ qs) rs
given_front config ps qs [] given = tt
given_front config [] qs (r ∷ rs) given = absurd given
given_front config (p ∷ ps) qs (r ∷ rs) (inl (is, rest)) = inl (is, given_front config ps qs rs rest)
given_front config (p ∷ ps) qs (r ∷ rs) (inr later) = inr (given_front config ps qs (r ∷ rs) later)

given_last : (config : ClientConfig) (ps : Pieces) (p : List LinkCall) (rs : List Renewal) (r : Renewal) → AreGivenBy config ps rs → IsRenewal config p r
    → AreGivenBy config (ps ++ p ∷ []) (rs ++ r ∷ [])
given_last config [] p [] r given is = inl (is, tt)
given_last config [] p (x ∷ rs) r given is = absurd given
given_last config (q ∷ ps) p [] r given is = inr (given_last config ps p [] r tt is)
given_last config (q ∷ ps) p (x ∷ rs) r (inl (one, rest)) is = inl (one, given_last config ps p rs r rest is)
given_last config (q ∷ ps) p (x ∷ rs) r (inr later) is = inr (given_last config ps p (x ∷ rs) r later is)

renewed_more : (config : ClientConfig) (calls made : List LinkCall) (rs : List Renewal) → IsPiece made → Renewed config calls rs → Renewed config (calls ++ made) rs
renewed_more config calls made rs piece given =
    subst (λ (ps : Pieces). AreGivenBy config ps rs) (sym (pieces-append calls made piece)) (given_front config (pieces calls) (pieces made) rs given)

renewed_last : (config : ClientConfig) (calls made : List LinkCall) (rs : List Renewal) (r : Renewal) → IsPiece made → IsRenewal config made r → Renewed config calls rs
    → Renewed config (calls ++ made) (rs ++ r ∷ [])
renewed_last config calls made rs r piece is given =
    subst (λ (ps : Pieces). AreGivenBy config ps (rs ++ r ∷ [])) (sym (pieces-append calls made piece ∙ ap (λ (ps : Pieces). pieces calls ++ ps) (renewal_piece config made r is)))
    (given_last config (pieces calls) made rs r given is)

-- ---- since the first call

pub told_more : (config : ClientConfig) (before now later : Option (List LinkCall)) (rs : List Renewal) → AreToldSince config before now rs
    → TellsMore now later IsPiece → AreToldSince config before later rs
told_more config None now later rs told tells = tt
told_more config (Some xs) None later rs told tells = absurd told
told_more config (Some xs) (Some ys) None rs told tells = absurd tells
told_more config (Some xs) (Some ys) (Some zs) rs (since, is, given) (made, goes_on, piece) =
    (since ++ made, goes_on ∙ ap (λ (l : List LinkCall). l ++ made) is ∙ append_assoc xs since made, renewed_more config since made rs piece given)

pub told_last : (config : ClientConfig) (before now later : Option (List LinkCall)) (rs : List Renewal) (r : Renewal) → AreToldSince config before now rs
    → TellsMore now later (λ made. IsPiece made × IsRenewal config made r) → AreToldSince config before later (rs ++ r ∷ [])
told_last config None now later rs r told tells = tt
told_last config (Some xs) None later rs r told tells = absurd told
told_last config (Some xs) (Some ys) None rs r told tells = absurd tells
told_last config (Some xs) (Some ys) (Some zs) rs r (since, is, given) (made, goes_on, (piece, renewal)) =
    (since ++ made, goes_on ∙ ap (λ (l : List LinkCall). l ++ made) is ∙ append_assoc xs since made, renewed_last config since made rs r piece renewal given)
