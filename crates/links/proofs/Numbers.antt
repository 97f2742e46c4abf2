-- What a link's own words and numbers are, by what is held of it.
use Rattle.std.proofs.Common.{◌≡◌, ◌<◌, ℕ, true, List, [], ◌∷◌, ◌++◌, length, refl, ◌∙◌, ap, subst, arith}
use Rattle.std.specs.Prelude.{Option, None, Some, option_map}
use Rattle.access_token.specs.Forms.{are_words}
use Rattle.links.specs.declared.recorded.RecordedKind.{RecordedKind}
use Rattle.links.specs.declared.recorded.RecordedKind.TheVariants as held
use Rattle.links.specs.declared.recorded.RecordedLink.{RecordedLink}
use Rattle.links.specs.Chain.{Chain, Root, Narrowed, Impersonated, Delegated, own}
use Rattle.links.specs.Facts.{numbers_of}
use Rattle.links.specs.Recorded.{recorded, held_kind}
use Rattle.links.specs.State.{Content, chain}
use Rattle.links.proofs.GoodLinks.{own_good}
use Rattle.links.proofs.Journals.{IsKept, good_of_chain, whole_of_chain, within_of_chain}

words_by : (c : Content) (n : ℕ) (o : Option Chain) (words : List (List ℕ)) → IsKept c → chain c n ≡ o
    → option_map (λ (found : Chain). (own found).words) o ≡ Some words → are_words words ≡ true
words_by c n None words kept there is = absurd (cc is)
words_by c n (Some found) words kept there is =
    let same : (own found).words ≡ words = cc is in
    subst (λ (w : List (List ℕ)). are_words w ≡ true) same (own_good found (good_of_chain c n found kept there).form).words

-- a link's own words have their form
pub words_good : (c : Content) (n : ℕ) (words : List (List ℕ)) → IsKept c → option_map (λ (found : Chain). (own found).words) (chain c n) ≡ Some words
    → are_words words ≡ true
words_good c n words kept is = words_by c n (chain c n) words kept refl is

-- ---- the numbers of the links that a link goes back to

-- the number of the link that it goes on from, if there is one: its parent, or its subject
abbrev pub from_kind : RecordedKind → Option ℕ
from_kind (held.Federated exp) = None
from_kind (held.Narrow parent bounded) = Some parent
from_kind (held.Impersonate parent earlier lifetime) = Some parent
from_kind (held.Delegate subject actor) = Some subject

-- link n goes on from this one, and its numbers are this one's and its own
pub record IsBehind (c : Content) (n before : ℕ) : Type 0 where
  pub below : before < n
  pub within : before < length c.links
  pub numbers : (ns : List ℕ) → option_map numbers_of (chain c before) ≡ Some ns → option_map numbers_of (chain c n) ≡ Some (ns ++ n ∷ [])

-- a chain that goes on from another
record GoesOn (c : Content) (found from : Chain) : Type 0 where
  numbers : numbers_of found ≡ numbers_of from ++ (own found).number ∷ []
  low : (own from).number < (own found).number
  at : chain c (own from).number ≡ Some from

goes_on_behind : (c : Content) (n before : ℕ) (found from : Chain) → IsKept c → chain c n ≡ Some found → GoesOn c found from
    → (own from).number ≡ before → IsBehind c n before
goes_on_behind c n before found from kept there on number =
    let at : chain c before ≡ Some from = subst (λ (k : ℕ). chain c k ≡ Some from) number on.at in
    let last : (own found).number ≡ n = (good_of_chain c n found kept there).number in
    record {
      below = omega (arith, on.low, last, number);
      within = within_of_chain c before from at;
      numbers = λ ns told.
          let first : numbers_of from ≡ ns = cc (told, at) in
          ap (option_map numbers_of) there ∙ ap (λ (l : List ℕ). Some l) on.numbers
          ∙ ap (λ (k : ℕ). Some (numbers_of from ++ k ∷ [])) last ∙ ap (λ (l : List ℕ). Some (l ++ n ∷ [])) first;
    }

-- the kind by which a chain's row is held
kind_is : (found : Chain) (row : RecordedLink) (before : Option ℕ) → option_map recorded (Some found) ≡ Some row → from_kind row.kind ≡ before
    → from_kind (held_kind found) ≡ before
kind_is found row before is kind =
    let same : recorded found ≡ row = cc is in
    ap (λ (r : RecordedLink). from_kind r.kind) same ∙ kind

behind_of : (c : Content) (n before : ℕ) (found : Chain) → IsKept c → chain c n ≡ Some found → from_kind (held_kind found) ≡ Some before
    → IsBehind c n before
behind_of c n before (Root o source) kept there kind = absurd (cc kind)
behind_of c n before (Narrowed o boundary parent) kept there kind =
    let found = Narrowed o boundary parent in
    goes_on_behind c n before found parent kept there
    (record { numbers = refl; low = (good_of_chain c n found kept there).form.2; at = whole_of_chain c n found kept there }) (cc kind)
behind_of c n before (Impersonated o accounts lifetime parent) kept there kind =
    let found = Impersonated o accounts lifetime parent in
    goes_on_behind c n before found parent kept there
    (record { numbers = refl; low = (good_of_chain c n found kept there).form.3; at = whole_of_chain c n found kept there }) (cc kind)
behind_of c n before (Delegated o subject actor) kept there kind =
    let found = Delegated o subject actor in
    goes_on_behind c n before found subject kept there
    (record { numbers = refl; low = (good_of_chain c n found kept there).form.1; at = (whole_of_chain c n found kept there).0 }) (cc kind)

behind_by : (c : Content) (n before : ℕ) (o : Option Chain) (row : RecordedLink) → IsKept c → chain c n ≡ o → option_map recorded o ≡ Some row
    → from_kind row.kind ≡ Some before → IsBehind c n before
behind_by c n before None row kept there is kind = absurd (cc is)
behind_by c n before (Some found) row kept there is kind = behind_of c n before found kept there (kind_is found row (Some before) is kind)

pub is_behind : (c : Content) (n : ℕ) (row : RecordedLink) (before : ℕ) → IsKept c → option_map recorded (chain c n) ≡ Some row
    → from_kind row.kind ≡ Some before → IsBehind c n before
is_behind c n row before kept is kind = behind_by c n before (chain c n) row kept refl is kind

alone_of : (c : Content) (n : ℕ) (found : Chain) → IsKept c → chain c n ≡ Some found → from_kind (held_kind found) ≡ None
    → numbers_of found ≡ n ∷ []
alone_of c n (Root o source) kept there kind = ap (λ (k : ℕ). k ∷ []) (good_of_chain c n (Root o source) kept there).number
alone_of c n (Narrowed o boundary parent) kept there kind = absurd (cc kind)
alone_of c n (Impersonated o accounts lifetime parent) kept there kind = absurd (cc kind)
alone_of c n (Delegated o subject actor) kept there kind = absurd (cc kind)

alone_by : (c : Content) (n : ℕ) (o : Option Chain) (row : RecordedLink) → IsKept c → chain c n ≡ o → option_map recorded o ≡ Some row
    → from_kind row.kind ≡ None → option_map numbers_of o ≡ Some (n ∷ [])
alone_by c n None row kept there is kind = absurd (cc is)
alone_by c n (Some found) row kept there is kind = ap (λ (l : List ℕ). Some l) (alone_of c n found kept there (kind_is found row None is kind))

-- a link that goes on from no other has its own number alone
pub is_alone : (c : Content) (n : ℕ) (row : RecordedLink) → IsKept c → option_map recorded (chain c n) ≡ Some row → from_kind row.kind ≡ None
    → option_map numbers_of (chain c n) ≡ Some (n ∷ [])
is_alone c n row kept is kind = alone_by c n (chain c n) row kept refl is kind
