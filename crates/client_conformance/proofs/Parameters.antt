-- The form of an exchange, as it is read back.
use Rattle.std.proofs.lemmas.Bool.Decides.{nat_tests}
use Rattle.std.proofs.lemmas.List.Elements.{All-nil, All-cons, All-head, All-tail}
use Rattle.std.proofs.lemmas.Str.{utf8_lossy-IsUtf8}
use Rattle.std.proofs.Common.{◌≡◌, ℕ, List, [], ◌∷◌, Bool, true, false, length, map, refl, sym, ap, ◌∙◌, subst, arith, lt-ltb}
use Rattle.std.specs.Prelude.{All, None, Some, codes, nat_lt, nat_le}
use Rattle.std.specs.Str.Lossy.{utf8_lossy}
use Rattle.base_types.specs.Forms.{is_visible, is_visible_text}
use Rattle.form_urlencoded.specs.Form.{decode, extend_pairs, raw_pairs}
use Rattle.form_urlencoded.proofs.FormLemmas.{IsBytePair, round_trip}
use Rattle.exchange_form.specs.Forms.{form_of, holds_replacement, parameter_of}
use Rattle.exchange_form.specs.declared.form.Parameter.{Parameter}
use Rattle.base_types.specs.Rules.{first_of}
use Rattle.exchange_form.specs.FormRules.{form_rules, grant_type, access_token_type, jwt_type, id_token_type}
use Rattle.iam_names.specs.Audience.{audience_of, audience_text}
use Rattle.iam_names.proofs.AccountLemmas.{both}
use Rattle.iam_names.proofs.ReadBackLemmas.{audience_of-audience_text}
use Rattle.client_proto.specs.ClientFile.{is_token_type}
use Rattle.client_proto.specs.Requests.{exchange_form}
use Rattle.client_proto.specs.Subjects.{is_subject}
use Rattle.client_proto.specs.declared.config.ClientConfig.{ClientConfig}
use Rattle.std.specs.Str.{bytes_eq}
use Rattle.std.proofs.lemmas.Slice.Eq.{bytes_eq-Decides}
use Rattle.std.specs.Prelude.{◌||◌, ◌==◌}
use Rattle.client_conformance.specs.Meant.{IsNamed, SaysExchange, every_permission}
use Rattle.client_conformance.proofs.Visibles.{audience_visible, visible_bytes, visible_utf8}

abbrev pub Pairs : Type 0
Pairs = List (List ℕ × List ℕ)

-- a name and a value as a parameter
abbrev pub named : List ℕ × List ℕ → Parameter
named pair = record { name = pair.0; value = pair.1 }

abbrev lossy : List ℕ × List ℕ → Parameter
lossy pair = record { name = utf8_lossy pair.0; value = utf8_lossy pair.1 }

-- both texts are visible
abbrev pub IsVisible : List ℕ × List ℕ → Type 0
IsVisible pair = (is_visible_text pair.0 ≡ true) × (is_visible_text pair.1 ≡ true)

by_parsed : (raw : Pairs) → map parameter_of raw ≡ map lossy (map (λ (name, value). (decode name, decode value)) raw)
by_parsed [] = refl
by_parsed (pair ∷ raw) = ap (λ (l : List Parameter). parameter_of pair ∷ l) (by_parsed raw)

same : (pair : List ℕ × List ℕ) → IsVisible pair → lossy pair ≡ named pair
same pair visible =
    ap (λ (l : List ℕ). record { name = l; value = utf8_lossy pair.1 }) (utf8_lossy-IsUtf8 pair.0 (visible_utf8 pair.0 visible.0))
    ∙ ap (λ (l : List ℕ). record { name = pair.0; value = l }) (utf8_lossy-IsUtf8 pair.1 (visible_utf8 pair.1 visible.1))

all_same : (pairs : Pairs) → All IsVisible pairs → map lossy pairs ≡ map named pairs
all_same [] all = refl
all_same (pair ∷ pairs) all =
    ap (λ (p : Parameter). p ∷ map lossy pairs) (same pair (All-head IsVisible pair pairs all))
    ∙ ap (λ (l : List Parameter). named pair ∷ l) (all_same pairs (All-tail IsVisible pair pairs all))

are_bytes : (pairs : Pairs) → All IsVisible pairs → All IsBytePair pairs
are_bytes [] all = All-nil IsBytePair
are_bytes (pair ∷ pairs) all =
    let first = All-head IsVisible pair pairs all in
    All-cons IsBytePair pair pairs (visible_bytes pair.0 first.0, visible_bytes pair.1 first.1) (are_bytes pairs (All-tail IsVisible pair pairs all))

-- a form of visible texts is read as these
pub read_back : (pairs : Pairs) → All IsVisible pairs → form_of (extend_pairs [] pairs) ≡ map named pairs
read_back pairs all =
    by_parsed (raw_pairs (extend_pairs [] pairs)) ∙ ap (map lossy) (round_trip pairs (are_bytes pairs all)) ∙ all_same pairs all

-- the pairs of an exchange
abbrev pub pairs_of : List ℕ → List ℕ → List ℕ → Pairs
pairs_of audience subject type =
    (codes "audience", audience) ∷ (codes "grant_type", grant_type) ∷ (codes "requested_token_type", access_token_type)
    ∷ (codes "scope", every_permission) ∷ (codes "subject_token", subject) ∷ (codes "subject_token_type", type) ∷ []

not_high : (a : ℕ) → is_visible a ≡ true → (a == 239) ≡ false
not_high a h = grind (arith, nat_tests)

-- visible bytes have no U+FFFD
no_replacement : (v : List ℕ) → is_visible_text v ≡ true → holds_replacement v ≡ false
no_replacement [] h = refl
no_replacement (a ∷ []) h = refl
no_replacement (a ∷ b ∷ []) h = refl
no_replacement (a ∷ b ∷ c ∷ rest) h =
    let parts = both (is_visible a) (is_visible_text (b ∷ c ∷ rest)) h in
    rw (not_high a parts.0) (no_replacement (b ∷ c ∷ rest) parts.1)

type_named : (type : List ℕ) → is_token_type type ≡ true → (nat_lt 0 (length type) ≡ true) × (is_visible_text type ≡ true)
type_named type h = by_test (bytes_eq type jwt_type) refl h
  where
    Named : List ℕ → Type 0
    Named t = (nat_lt 0 (length t) ≡ true) × (is_visible_text t ≡ true)

    by_test : (b : Bool) → bytes_eq type jwt_type ≡ b → (b || bytes_eq type id_token_type) ≡ true → Named type
    by_test true is g = subst Named (sym ((bytes_eq-Decides type jwt_type).0 is)) (refl, refl)
    by_test false is g = subst Named (sym ((bytes_eq-Decides type id_token_type).0 g)) (refl, refl)

no_rule : (audience subject type : List ℕ) → nat_lt 0 (length audience) ≡ true → nat_lt 0 (length subject) ≡ true → nat_lt 0 (length type) ≡ true
    → holds_replacement audience ≡ false → holds_replacement subject ≡ false → holds_replacement type ≡ false → is_token_type type ≡ true
    → first_of (form_rules (map named (pairs_of audience subject type))) ≡ None
unfolding form_rules
no_rule audience subject type a s t clean_audience clean_subject clean_type known =
    rw (s, t, clean_audience, clean_subject, clean_type, known) refl

said : (config : ClientConfig) (audience subject : List ℕ) → nat_lt 0 (length audience) ≡ true → nat_lt 0 (length subject) ≡ true
    → nat_lt 0 (length config.token_type) ≡ true → audience_of audience ≡ Some config.audience
    → first_of (form_rules (map named (pairs_of audience subject config.token_type))) ≡ None
    → SaysExchange (map named (pairs_of audience subject config.token_type)) config subject
said config audience subject a s t read sound = record {
  six = refl;
  grant = refl;
  audience = rw a read;
  subject_token = rw s refl;
  subject_token_type = rw t refl;
  requested = refl;
  scope = refl;
  sound = sound;
}

subject_seen : (subject : List ℕ) → is_subject subject ≡ true → (nat_lt 0 (length subject) ≡ true) × (is_visible_text subject ≡ true)
subject_seen subject h =
    let parts = both (nat_le 1 (length subject)) (is_visible_text subject) h in
    let some = parts.0 in
    (grind (arith, nat_tests), parts.1)

form_is : (config : ClientConfig) (subject : List ℕ) → is_visible_text (audience_text config.audience) ≡ true → is_visible_text subject ≡ true
    → is_visible_text config.token_type ≡ true
    → form_of (exchange_form config subject) ≡ map named (pairs_of (audience_text config.audience) subject config.token_type)
unfolding exchange_form
form_is config subject a s t =
    let audience = audience_text config.audience in
    let p1 = pairs_of audience subject config.token_type in
    let p2 : Pairs = (codes "grant_type", grant_type) ∷ (codes "requested_token_type", access_token_type) ∷ (codes "scope", every_permission)
    ∷ (codes "subject_token", subject) ∷ (codes "subject_token_type", config.token_type) ∷ [] in
    let p3 : Pairs = (codes "requested_token_type", access_token_type) ∷ (codes "scope", every_permission)
    ∷ (codes "subject_token", subject) ∷ (codes "subject_token_type", config.token_type) ∷ [] in
    let p4 : Pairs = (codes "scope", every_permission) ∷ (codes "subject_token", subject) ∷ (codes "subject_token_type", config.token_type) ∷ [] in
    let p5 : Pairs = (codes "subject_token", subject) ∷ (codes "subject_token_type", config.token_type) ∷ [] in
    let p6 : Pairs = (codes "subject_token_type", config.token_type) ∷ [] in
    read_back p1
    (All-cons IsVisible (codes "audience", audience) p2 (refl, a)
    (All-cons IsVisible (codes "grant_type", grant_type) p3 (refl, refl)
    (All-cons IsVisible (codes "requested_token_type", access_token_type) p4 (refl, refl)
    (All-cons IsVisible (codes "scope", every_permission) p5 (refl, refl)
    (All-cons IsVisible (codes "subject_token", subject) p6 (refl, s)
    (All-cons IsVisible (codes "subject_token_type", config.token_type) [] (refl, t) (All-nil IsVisible)))))))

pub form_meant : (config : ClientConfig) (subject : List ℕ) → IsNamed config → is_subject subject ≡ true
    → SaysExchange (form_of (exchange_form config subject)) config subject
form_meant config subject is meant =
    let audience = audience_text config.audience in
    let some : nat_lt 0 (length audience) ≡ true = lt-ltb 0 (length audience) (omega arith) in
    let seen = audience_visible config.audience is.audience in
    let s = subject_seen subject meant in
    let t = type_named config.token_type is.token_type in
    subst (λ (form : List Parameter). SaysExchange form config subject) (sym (form_is config subject seen s.1 t.1))
    (said config audience subject some s.0 t.0 (audience_of-audience_text config.audience is.audience)
    (no_rule audience subject config.token_type some s.0 t.0 (no_replacement audience seen) (no_replacement subject s.1) (no_replacement config.token_type t.1) is.token_type))
