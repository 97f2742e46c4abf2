-- Which fault of a text stands first.
use Rattle.std.proofs.Common.{◌≡◌, ℕ, zero, suc, ◌+◌, ◌≤◌, ◌<◌, List, [], ◌∷◌, ◌++◌, length, Option, Some, None, Result, Ok, Err, inl, inr, refl, sym, ap, ◌∙◌, subst, arith, append_assoc, append-nil, length-append, zero-le, IfOk, IfErr}
use Rattle.cel_tokens.specs.declared.token.Token.{Token}
use Rattle.cel_tokens.specs.declared.token.Piece.{Piece}
use Rattle.cel_tokens.specs.declared.token.Lexeme.{Lexeme}
use Rattle.cel_tokens.specs.Words.{IsFirstWord}
use Rattle.cel_tokens.specs.Lexing.{Lexes, ended, stopped, blank, token}
use Rattle.cel_tokens.proofs.Lexed.{one_list, shorter}
use Rattle.cel_grammar.specs.declared.draft.Draft.{Draft}
use Rattle.cel_grammar.specs.declared.error.SyntaxRule.{SyntaxRule}
use Rattle.cel_grammar.specs.declared.error.ParseError.{ParseError}
use Rattle.cel_grammar.specs.declared.error.ParseError.TheVariants.{Fault, Memory}
use Rattle.cel_grammar.specs.Grammar.{TokensSpell, CanBegin}
use Rattle.cel_grammar.specs.Machine.{start}
use Rattle.cel_grammar.specs.Faults.{Breaks, kinds, head, SpellsDraft, BreaksAt, EndsEarly, HasFault, HasNoFault, rank, ComesFirst, IsFirstFault, IsErrorOf, IsDraftOf}
use Rattle.cel_grammar.specs.Walk.{Verdict, spelt, broken, unended}
use Rattle.cel_grammar.proofs.Broken.{BreaksFirst, BreaksNone, IsFirstBreak, IsClean, Says}
use Rattle.cel_grammar.specs.Answer.{place_of, answer, Gives}
use Rattle.cel_grammar.proofs.Completed.{can_begin}
use Rattle.cel_grammar.proofs.Walked.{unique}

-- ---- tokens ascend

abbrev Ascends : ℕ → List Lexeme → Type 0
Ascends low [] = Unit {0}
Ascends low (l ∷ ls) = (low ≤ l.at) × Ascends (l.at + 1) ls

abbrev AllBelow : ℕ → List Lexeme → Type 0
AllBelow high [] = Unit {0}
AllBelow high (l ∷ ls) = (l.at < high) × AllBelow high ls

abbrev end_of : ℕ → List ℕ → Option ℕ → ℕ
end_of at text (Some k) = k
end_of at text None = at + length text

abbrev Bounded : ℕ → List ℕ → List Lexeme → Option ℕ → Type 0
Bounded at text ls stop = Ascends at ls × AllBelow (end_of at text stop) ls × (at ≤ end_of at text stop)

from_lower : (low high : ℕ) (ls : List Lexeme) → low ≤ high → Ascends high ls → Ascends low ls
from_lower low high [] less asc = tt
from_lower low high (l ∷ ls) less asc = let first : high ≤ l.at = asc.0 in (omega arith, asc.1)

same_end : (at : ℕ) (text word rest : List ℕ) (stop : Option ℕ) → text ≡ word ++ rest → end_of (at + length word) rest stop ≡ end_of at text stop
same_end at text word rest (Some k) front = refl
same_end at text word rest None front = let long : length text ≡ length word + length rest = ap length front ∙ length-append word rest in omega arith

blank_bounded : (at : ℕ) (text word rest : List ℕ) (p : Piece) (ls : List Lexeme) (stop : Option ℕ) → IsFirstWord at text word rest p → Bounded (at + length word) rest ls stop → Bounded at text ls stop
blank_bounded at text word rest p ls stop w b =
    let same = same_end at text word rest stop w.front in
    let last : at + length word ≤ end_of (at + length word) rest stop = b.2 in
    (from_lower at (at + length word) ls (omega arith) b.0, subst (λ n. AllBelow n ls) same b.1, subst (λ n. at ≤ n) same (omega arith))

token_bounded : (at : ℕ) (text word rest : List ℕ) (t : Token) (p : Piece) (ls : List Lexeme) (stop : Option ℕ) → IsFirstWord at text word rest p → Bounded (at + length word) rest ls stop → Bounded at text (record { at = at; token = t } ∷ ls) stop
token_bounded at text word rest t p ls stop w b =
    let same = same_end at text word rest stop w.front in
    let last : at + length word ≤ end_of (at + length word) rest stop = b.2 in
    let some : 0 < length word = shorter at word p w.is in
    let high : at < end_of at text stop = subst (λ n. at < n) same (omega arith) in
    ((omega arith, from_lower (at + 1) (at + length word) ls (omega arith) b.0), (high, subst (λ n. AllBelow n ls) same b.1), omega arith)

bounded : {at : ℕ} {text : List ℕ} {ls : List Lexeme} {stop : Option ℕ} → Lexes at text ls stop → Bounded at text ls stop
bounded ended = (tt, tt, omega arith)
bounded (stopped less none) = (tt, tt, omega arith)
bounded (blank {tokens = ts} {stop = s} w d) = blank_bounded _ _ _ _ _ ts s w (bounded d)
bounded (token {t = t} {tokens = ts} {stop = s} w d) = token_bounded _ _ _ _ t _ ts s w (bounded d)

later : (low : ℕ) (before : List Lexeme) (l : Lexeme) (after : List Lexeme) → Ascends low (before ++ l ∷ after) → low ≤ l.at
later low [] l after asc = asc.0
later low (x ∷ before) l after asc =
    let first : low ≤ x.at = asc.0 in
    let more : x.at + 1 ≤ l.at = later (x.at + 1) before l after asc.1 in
    omega arith

below_at : (high : ℕ) (before : List Lexeme) (l : Lexeme) (after : List Lexeme) → AllBelow high (before ++ l ∷ after) → l.at < high
below_at high [] l after b = b.0
below_at high (x ∷ before) l after b = below_at high before l after b.1

kinds-append : (a b : List Lexeme) → kinds (a ++ b) ≡ kinds a ++ kinds b
kinds-append [] b = refl
kinds-append (x ∷ a) b = ap (λ l. x.token ∷ l) (kinds-append a b)

-- ---- the rules of one token

rank_first : (rule r : SyntaxRule) (before : List Token) (t : Token) (next : Option Token) → BreaksFirst rule before t next → Breaks r before t next → rank rule ≤ rank r
rank_first SyntaxRule.L2 SyntaxRule.L2 before t next f b = omega arith
rank_first SyntaxRule.L2 SyntaxRule.S2 before t next f b = omega arith
rank_first SyntaxRule.L2 SyntaxRule.S3 before t next f b = omega arith
rank_first SyntaxRule.L2 SyntaxRule.S1 before t next f b = omega arith
rank_first SyntaxRule.L2 SyntaxRule.S4 before t next f b = absurd b
rank_first SyntaxRule.L2 SyntaxRule.S5 before t next f b = absurd b
rank_first SyntaxRule.L2 SyntaxRule.S6 before t next f b = absurd b
rank_first SyntaxRule.L2 SyntaxRule.L1 before t next f b = absurd b
rank_first SyntaxRule.S2 SyntaxRule.L2 before t next f b = absurd (f.0 b)
rank_first SyntaxRule.S2 SyntaxRule.S2 before t next f b = omega arith
rank_first SyntaxRule.S2 SyntaxRule.S3 before t next f b = omega arith
rank_first SyntaxRule.S2 SyntaxRule.S1 before t next f b = omega arith
rank_first SyntaxRule.S2 SyntaxRule.S4 before t next f b = absurd b
rank_first SyntaxRule.S2 SyntaxRule.S5 before t next f b = absurd b
rank_first SyntaxRule.S2 SyntaxRule.S6 before t next f b = absurd b
rank_first SyntaxRule.S2 SyntaxRule.L1 before t next f b = absurd b
rank_first SyntaxRule.S3 SyntaxRule.L2 before t next f b = absurd (f.0 b)
rank_first SyntaxRule.S3 SyntaxRule.S2 before t next f b = absurd (f.1 b)
rank_first SyntaxRule.S3 SyntaxRule.S3 before t next f b = omega arith
rank_first SyntaxRule.S3 SyntaxRule.S1 before t next f b = omega arith
rank_first SyntaxRule.S3 SyntaxRule.S4 before t next f b = absurd b
rank_first SyntaxRule.S3 SyntaxRule.S5 before t next f b = absurd b
rank_first SyntaxRule.S3 SyntaxRule.S6 before t next f b = absurd b
rank_first SyntaxRule.S3 SyntaxRule.L1 before t next f b = absurd b
rank_first SyntaxRule.S1 SyntaxRule.L2 before t next f b = absurd (f.0.0 b)
rank_first SyntaxRule.S1 SyntaxRule.S2 before t next f b = absurd (f.0.1 b)
rank_first SyntaxRule.S1 SyntaxRule.S3 before t next f b = absurd (f.0.2 b)
rank_first SyntaxRule.S1 SyntaxRule.S1 before t next f b = omega arith
rank_first SyntaxRule.S1 SyntaxRule.S4 before t next f b = absurd b
rank_first SyntaxRule.S1 SyntaxRule.S5 before t next f b = absurd b
rank_first SyntaxRule.S1 SyntaxRule.S6 before t next f b = absurd b
rank_first SyntaxRule.S1 SyntaxRule.L1 before t next f b = absurd b
rank_first SyntaxRule.S4 r before t next f b = absurd f
rank_first SyntaxRule.S5 r before t next f b = absurd f
rank_first SyntaxRule.S6 r before t next f b = absurd f
rank_first SyntaxRule.L1 r before t next f b = absurd f

none_breaks : (r : SyntaxRule) (before : List Token) (t : Token) (next : Option Token) → BreaksNone before t next → Breaks r before t next → ⊥
none_breaks SyntaxRule.L2 before t next clean b = clean.0.0 b
none_breaks SyntaxRule.S2 before t next clean b = clean.0.1 b
none_breaks SyntaxRule.S3 before t next clean b = clean.0.2 b
none_breaks SyntaxRule.S1 before t next clean b = b.1 clean.1
none_breaks SyntaxRule.S4 before t next clean b = b
none_breaks SyntaxRule.S5 before t next clean b = b
none_breaks SyntaxRule.S6 before t next clean b = b
none_breaks SyntaxRule.L1 before t next clean b = b

-- a fault of a token
fault_of_break : (text : List ℕ) (rule : SyntaxRule) (before : List Token) (t : Token) (next : Option Token) (at : ℕ) → BreaksFirst rule before t next → (Breaks rule before t next → BreaksAt text rule at) → HasFault text rule at
fault_of_break text SyntaxRule.L2 before t next at f make = make f
fault_of_break text SyntaxRule.S2 before t next at f make = make f.1
fault_of_break text SyntaxRule.S3 before t next at f make = make f.2
fault_of_break text SyntaxRule.S1 before t next at f make = inl (make f.1)
fault_of_break text SyntaxRule.S4 before t next at f make = absurd f
fault_of_break text SyntaxRule.S5 before t next at f make = absurd f
fault_of_break text SyntaxRule.S6 before t next at f make = absurd f
fault_of_break text SyntaxRule.L1 before t next at f make = absurd f

-- ---- against the first token that breaks a rule

compare : (done before : List Lexeme) (l : Lexeme) (after : List Lexeme) (k low : ℕ) (rule r : SyntaxRule) → Ascends low (before ++ l ∷ after) → IsFirstBreak (kinds done) (kinds (before ++ l ∷ after)) k rule →
    Breaks r (kinds (done ++ before)) l.token (head (kinds after)) → ComesFirst rule (place_of (before ++ l ∷ after) k) r l.at
compare done [] l after zero low rule r asc f b =
    inr (refl, rank_first rule r (kinds done) l.token (head (kinds after)) f (subst (λ d. Breaks r (kinds d) l.token (head (kinds after))) (append-nil done) b))
compare done [] l after (suc k) low rule r asc f b =
    absurd (none_breaks r (kinds done) l.token (head (kinds after)) f.0 (subst (λ d. Breaks r (kinds d) l.token (head (kinds after))) (append-nil done) b))
compare done (x ∷ before) l after zero low rule r asc f b =
    let more : x.at + 1 ≤ l.at = later (x.at + 1) before l after asc.1 in
    inl (omega arith)
compare done (x ∷ before) l after (suc k) low rule r asc f b =
    compare (done ++ x ∷ []) before l after k (x.at + 1) rule r asc.1
    (subst (λ d. IsFirstBreak d (kinds (before ++ l ∷ after)) k rule) (sym (kinds-append done (x ∷ []))) f.1)
    (subst (λ d. Breaks r (kinds d) l.token (head (kinds after))) (sym (append_assoc done (x ∷ []) before)) b)

clean_no : (done before : List Lexeme) (l : Lexeme) (after : List Lexeme) (r : SyntaxRule) → IsClean (kinds done) (kinds (before ++ l ∷ after)) → Breaks r (kinds (done ++ before)) l.token (head (kinds after)) → ⊥
clean_no done [] l after r clean b = none_breaks r (kinds done) l.token (head (kinds after)) clean.0 (subst (λ d. Breaks r (kinds d) l.token (head (kinds after))) (append-nil done) b)
clean_no done (x ∷ before) l after r clean b =
    clean_no (done ++ x ∷ []) before l after r
    (subst (λ d. IsClean d (kinds (before ++ l ∷ after))) (sym (kinds-append done (x ∷ []))) clean.1)
    (subst (λ d. Breaks r (kinds d) l.token (head (kinds after))) (sym (append_assoc done (x ∷ []) before)) b)

record Found (done ls : List Lexeme) (k : ℕ) (rule : SyntaxRule) : Type 0 where
  before : List Lexeme
  here : Lexeme
  after : List Lexeme
  cut : ls ≡ before ++ here ∷ after
  place : here.at ≡ place_of ls k
  breaks : BreaksFirst rule (kinds (done ++ before)) here.token (head (kinds after))

found_break : (done ls : List Lexeme) (k : ℕ) (rule : SyntaxRule) → IsFirstBreak (kinds done) (kinds ls) k rule → Found done ls k rule
found_break done [] k rule f = absurd f
found_break done (l ∷ ls) zero rule f =
    record { before = []; here = l; after = ls; cut = refl; place = refl; breaks = subst (λ d. BreaksFirst rule (kinds d) l.token (head (kinds ls))) (sym (append-nil done)) f }
found_break done (l ∷ ls) (suc k) rule f =
    let more = found_break (done ++ l ∷ []) ls k rule (subst (λ d. IsFirstBreak d (kinds ls) k rule) (sym (kinds-append done (l ∷ []))) f.1) in
    record {
      before = l ∷ more.before;
      here = more.here;
      after = more.after;
      cut = ap (λ x. l ∷ x) more.cut;
      place = more.place;
      breaks = subst (λ d. BreaksFirst rule (kinds d) more.here.token (head (kinds more.after))) (append_assoc done (l ∷ []) more.before) more.breaks;
    }

-- ---- the first fault

break_place : (text : List ℕ) (ls : List Lexeme) (stop : Option ℕ) (k : ℕ) (rule r : SyntaxRule) (place : ℕ) → Lexes 0 text ls stop → IsFirstBreak [] (kinds ls) k rule → BreaksAt text r place → ComesFirst rule (place_of ls k) r place
break_place text ls stop k rule r place lexes f b =
    let same : ls ≡ b.before ++ b.here ∷ b.after = (one_list lexes b.lexes).0 in
    subst (λ n. ComesFirst rule (place_of ls k) r n) b.place
    (subst (λ l. ComesFirst rule (place_of l k) r b.here.at) (sym same)
    (compare [] b.before b.here b.after k 0 rule r (subst (Ascends 0) same (bounded lexes).0) (subst (λ l. IsFirstBreak [] (kinds l) k rule) same f) b.breaks))

break_below : (text : List ℕ) (ls : List Lexeme) (stop : Option ℕ) (k : ℕ) (rule : SyntaxRule) → Lexes 0 text ls stop → IsFirstBreak [] (kinds ls) k rule → place_of ls k < end_of 0 text stop
break_below text ls stop k rule lexes f =
    let found = found_break [] ls k rule f in
    subst (λ n. n < end_of 0 text stop) found.place (below_at (end_of 0 text stop) found.before found.here found.after (subst (AllBelow (end_of 0 text stop)) found.cut (bounded lexes).1))

pub break_first : (text : List ℕ) (ls : List Lexeme) (stop : Option ℕ) (k : ℕ) (rule : SyntaxRule) → length text ≤ 4096 → Lexes 0 text ls stop → IsFirstBreak [] (kinds ls) k rule → IsFirstFault text rule (place_of ls k)
break_first text ls stop k rule short lexes f = record { fault = fault; first = first }
  where
    fault : HasFault text rule (place_of ls k)
    fault =
        let found = found_break [] ls k rule f in
        fault_of_break text rule (kinds found.before) found.here.token (head (kinds found.after)) (place_of ls k) found.breaks
        (λ b. record { before = found.before; here = found.here; after = found.after; stop = stop; lexes = subst (λ l. Lexes 0 text l stop) found.cut lexes; place = found.place; breaks = b })

    below : (end : Option ℕ) → stop ≡ end → place_of ls k < end_of 0 text end
    below end same = subst (λ s. place_of ls k < end_of 0 text s) same (break_below text ls stop k rule lexes f)

    by_end : (place : ℕ) → SyntaxRule → HasFault text SyntaxRule.S1 place → ComesFirst rule (place_of ls k) SyntaxRule.S1 place
    by_end place r (inl b) = break_place text ls stop k rule SyntaxRule.S1 place lexes f b
    by_end place r (inr e) =
        let under : place_of ls k < 0 + length text = below None (one_list lexes e.lexes).1 in
        let less : place_of ls k < length text = omega arith in
        let there : place ≡ length text = e.place in
        inl (omega arith)

    first : (other : SyntaxRule) (place : ℕ) → HasFault text other place → ComesFirst rule (place_of ls k) other place
    first SyntaxRule.S6 place h = let long : 4096 < length text = h.1 in absurd (omega arith)
    first SyntaxRule.L1 place h = inl (below (Some place) (one_list lexes h.1).1)
    first SyntaxRule.S1 place h = by_end place rule h
    first SyntaxRule.L2 place h = break_place text ls stop k rule SyntaxRule.L2 place lexes f h
    first SyntaxRule.S2 place h = break_place text ls stop k rule SyntaxRule.S2 place lexes f h
    first SyntaxRule.S3 place h = break_place text ls stop k rule SyntaxRule.S3 place lexes f h
    first SyntaxRule.S4 place h = break_place text ls stop k rule SyntaxRule.S4 place lexes f h
    first SyntaxRule.S5 place h = break_place text ls stop k rule SyntaxRule.S5 place lexes f h

no_break : (text : List ℕ) (ls : List Lexeme) (stop : Option ℕ) (r : SyntaxRule) (place : ℕ) → Lexes 0 text ls stop → IsClean [] (kinds ls) → BreaksAt text r place → ⊥
no_break text ls stop r place lexes clean b =
    clean_no [] b.before b.here b.after r (subst (λ l. IsClean [] (kinds l)) (one_list lexes b.lexes).0 clean) b.breaks

-- without a token that breaks a rule, the end decides
end_first : (text : List ℕ) (ls : List Lexeme) (stop : Option ℕ) (rule : SyntaxRule) (at : ℕ) → length text ≤ 4096 → Lexes 0 text ls stop → IsClean [] (kinds ls) →
    ((place : ℕ) → stop ≡ Some place → ComesFirst rule at SyntaxRule.L1 place) → ((place : ℕ) → EndsEarly text place → ComesFirst rule at SyntaxRule.S1 place) →
    (other : SyntaxRule) (place : ℕ) → HasFault text other place → ComesFirst rule at other place
end_first text ls stop rule at short lexes clean stops ends SyntaxRule.S6 place h = let long : 4096 < length text = h.1 in absurd (omega arith)
end_first text ls stop rule at short lexes clean stops ends SyntaxRule.L1 place h = stops place (one_list lexes h.1).1
end_first text ls stop rule at short lexes clean stops ends SyntaxRule.S1 place (inl b) = absurd (no_break text ls stop SyntaxRule.S1 place lexes clean b)
end_first text ls stop rule at short lexes clean stops ends SyntaxRule.S1 place (inr e) = ends place e
end_first text ls stop rule at short lexes clean stops ends SyntaxRule.L2 place h = absurd (no_break text ls stop SyntaxRule.L2 place lexes clean h)
end_first text ls stop rule at short lexes clean stops ends SyntaxRule.S2 place h = absurd (no_break text ls stop SyntaxRule.S2 place lexes clean h)
end_first text ls stop rule at short lexes clean stops ends SyntaxRule.S3 place h = absurd (no_break text ls stop SyntaxRule.S3 place lexes clean h)
end_first text ls stop rule at short lexes clean stops ends SyntaxRule.S4 place h = absurd (no_break text ls stop SyntaxRule.S4 place lexes clean h)
end_first text ls stop rule at short lexes clean stops ends SyntaxRule.S5 place h = absurd (no_break text ls stop SyntaxRule.S5 place lexes clean h)

pub stop_first : (text : List ℕ) (ls : List Lexeme) (at : ℕ) → length text ≤ 4096 → Lexes 0 text ls (Some at) → IsClean [] (kinds ls) → IsFirstFault text SyntaxRule.L1 at
stop_first text ls at short lexes clean = record {
  fault = (ls, lexes);
  first = end_first text ls (Some at) SyntaxRule.L1 at short lexes clean (λ place same. inr (cc, omega arith)) (λ place e. let no = (one_list lexes e.lexes).1 in cc);
}

clean_begins : (ts before : List Token) → CanBegin before → IsClean before ts → CanBegin (before ++ ts)
clean_begins [] before can clean = subst CanBegin (sym (append-nil before)) can
clean_begins (t ∷ ts) before can clean = subst CanBegin (append_assoc before (t ∷ []) ts) (clean_begins ts (before ++ t ∷ []) clean.0.1 clean.1)

pub early_first : (text : List ℕ) (ls : List Lexeme) → length text ≤ 4096 → Lexes 0 text ls None → IsClean [] (kinds ls) → ((e : Draft) → TokensSpell (kinds ls) e → ⊥) → IsFirstFault text SyntaxRule.S1 (length text)
early_first text ls short lexes clean unspelled = record {
  fault = inr (record { tokens = ls; lexes = lexes; place = refl; begins = clean_begins (kinds ls) [] (can_begin [] start refl) clean; unspelled = unspelled });
  first = end_first text ls None SyntaxRule.S1 (length text) short lexes clean (λ place same. cc) (λ place e. inr (sym e.place, omega arith));
}

pub no_fault : (text : List ℕ) (ls : List Lexeme) (e : Draft) → length text ≤ 4096 → Lexes 0 text ls None → IsClean [] (kinds ls) → TokensSpell (kinds ls) e → HasNoFault text
no_fault text ls e short lexes clean spelled SyntaxRule.S6 place h = let long : 4096 < length text = h.1 in omega arith
no_fault text ls e short lexes clean spelled SyntaxRule.L1 place h = let no = (one_list lexes h.1).1 in cc
no_fault text ls e short lexes clean spelled SyntaxRule.S1 place (inl b) = no_break text ls None SyntaxRule.S1 place lexes clean b
no_fault text ls e short lexes clean spelled SyntaxRule.S1 place (inr x) = x.unspelled e (subst (λ l. TokensSpell (kinds l) e) (one_list lexes x.lexes).0 spelled)
no_fault text ls e short lexes clean spelled SyntaxRule.L2 place h = no_break text ls None SyntaxRule.L2 place lexes clean h
no_fault text ls e short lexes clean spelled SyntaxRule.S2 place h = no_break text ls None SyntaxRule.S2 place lexes clean h
no_fault text ls e short lexes clean spelled SyntaxRule.S3 place h = no_break text ls None SyntaxRule.S3 place lexes clean h
no_fault text ls e short lexes clean spelled SyntaxRule.S4 place h = no_break text ls None SyntaxRule.S4 place lexes clean h
no_fault text ls e short lexes clean spelled SyntaxRule.S5 place h = no_break text ls None SyntaxRule.S5 place lexes clean h

zero_first : (other : SyntaxRule) (place : ℕ) → ComesFirst SyntaxRule.S6 0 other place
zero_first other zero = inr (refl, zero-le)
zero_first other (suc place) = inl (omega arith)

pub long_first : (text : List ℕ) → 4096 < length text → IsFirstFault text SyntaxRule.S6 0
long_first text long = record { fault = (refl, long); first = λ other place h. zero_first other place }

-- ---- a text spells one tree

pub one_draft : (text : List ℕ) (a b : Draft) → SpellsDraft text a → SpellsDraft text b → a ≡ b
one_draft text a b da db = unique (kinds da.0) a b da.2 (subst (λ l. TokensSpell (kinds l) b) (one_list db.1 da.1).0 db.2)

-- ---- the contract, from the walk

found_in : (text : List ℕ) (ls : List Lexeme) (stop : Option ℕ) (v : Verdict) (e : Draft) → length text ≤ 4096 → Lexes 0 text ls stop → Says v [] (kinds ls) 0 → answer ls stop (length text) v ≡ Ok e → SpellsDraft text e × HasNoFault text
found_in text ls stop (broken k rule) e short lexes says is = cc
found_in text ls (Some at) (spelt x) e short lexes says is = cc
found_in text ls None (spelt x) e short lexes says is =
    let same : x ≡ e = cc in
    let spelled : TokensSpell (kinds ls) e = subst (λ y. TokensSpell (kinds ls) y) same says.1 in
    ((ls, lexes, spelled), no_fault text ls e short lexes says.0 spelled)
found_in text ls (Some at) unended e short lexes says is = cc
found_in text ls None unended e short lexes says is = cc

fault_in : (text : List ℕ) (ls : List Lexeme) (stop : Option ℕ) (v : Verdict) (at : ℕ) (rule : SyntaxRule) → length text ≤ 4096 → Lexes 0 text ls stop → Says v [] (kinds ls) 0 → answer ls stop (length text) v ≡ Err (at, rule) → IsFirstFault text rule at
fault_in text ls stop (broken k r) at rule short lexes says is =
    let number : says.0 ≡ k = omega (arith, says.1) in
    let pairs : (place_of ls k, r) ≡ (at, rule) = cc in
    let first = break_first text ls stop k r short lexes (subst (λ n. IsFirstBreak [] (kinds ls) n r) number says.2) in
    subst (λ (p : ℕ × SyntaxRule). IsFirstFault text p.1 p.0) pairs first
fault_in text ls (Some stop) (spelt x) at rule short lexes says is =
    let pairs : (stop, SyntaxRule.L1) ≡ (at, rule) = cc in
    subst (λ (p : ℕ × SyntaxRule). IsFirstFault text p.1 p.0) pairs (stop_first text ls stop short lexes says.0)
fault_in text ls None (spelt x) at rule short lexes says is = cc
fault_in text ls (Some stop) unended at rule short lexes says is =
    let pairs : (stop, SyntaxRule.L1) ≡ (at, rule) = cc in
    subst (λ (p : ℕ × SyntaxRule). IsFirstFault text p.1 p.0) pairs (stop_first text ls stop short lexes says.0)
fault_in text ls None unended at rule short lexes says is =
    let pairs : (length text, SyntaxRule.S1) ≡ (at, rule) = cc in
    subst (λ (p : ℕ × SyntaxRule). IsFirstFault text p.1 p.0) pairs (early_first text ls short lexes says.0 says.1)

pub found_of : (text : List ℕ) (ls : List Lexeme) (stop : Option ℕ) (v : Verdict) (r : Result Draft ParseError) → length text ≤ 4096 → Lexes 0 text ls stop → Says v [] (kinds ls) 0 → Gives r (answer ls stop (length text) v) → IfOk r (λ e. SpellsDraft text e × HasNoFault text)
found_of text ls stop v (Ok e) short lexes says g = found_in text ls stop v e short lexes says g
found_of text ls stop v (Err x) short lexes says g = tt

pub error_of : (text : List ℕ) (ls : List Lexeme) (stop : Option ℕ) (v : Verdict) (r : Result Draft ParseError) → length text ≤ 4096 → Lexes 0 text ls stop → Says v [] (kinds ls) 0 → Gives r (answer ls stop (length text) v) → IfErr r (IsErrorOf text)
error_of text ls stop v (Ok e) short lexes says g = tt
error_of text ls stop v (Err Memory) short lexes says g = tt
error_of text ls stop v (Err (Fault at rule)) short lexes says g = fault_in text ls stop v at rule short lexes says g

pub only_of : (text : List ℕ) (r : Result Draft ParseError) → IfOk r (λ e. SpellsDraft text e × HasNoFault text) → IfErr r (IsErrorOf text) → (e : Draft) → SpellsDraft text e → HasNoFault text → IsDraftOf e r
only_of text (Ok x) found error e spells none = one_draft text x e found.0 spells
only_of text (Err Memory) found error e spells none = tt
only_of text (Err (Fault at rule)) found error e spells none = none rule at error.fault
