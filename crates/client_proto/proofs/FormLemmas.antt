-- Pairs that are put into a form one after another.
use Rattle.std.proofs.Common.{◌≡◌, ◌++◌, ℕ, List, [], ◌∷◌, ◌∙◌, ap}
use Rattle.form_urlencoded.specs.Form.{append_pair, extend_pairs}
use Rattle.form_urlencoded.specs.Target.{Target}

-- one pair more
abbrev pub added : Target → List ℕ × List ℕ → Target
added t pair = record t { form = append_pair t.form pair.0 pair.1 }

pub six_pairs : (t t₁ t₂ t₃ t₄ t₅ t₆ : Target) (a b c d e f : List ℕ × List ℕ)
    → t ≡ record { prefix = []; form = [] } → t₁ ≡ added t a → t₂ ≡ added t₁ b → t₃ ≡ added t₂ c → t₄ ≡ added t₃ d → t₅ ≡ added t₄ e → t₆ ≡ added t₅ f
    → t₆.prefix ++ t₆.form ≡ extend_pairs [] (a ∷ b ∷ c ∷ d ∷ e ∷ f ∷ [])
six_pairs t t₁ t₂ t₃ t₄ t₅ t₆ a b c d e f e₀ e₁ e₂ e₃ e₄ e₅ e₆ =
    let one = e₁ ∙ ap (λ (s : Target). added s a) e₀ in
    let two = e₂ ∙ ap (λ (s : Target). added s b) one in
    let three = e₃ ∙ ap (λ (s : Target). added s c) two in
    let four = e₄ ∙ ap (λ (s : Target). added s d) three in
    let five = e₅ ∙ ap (λ (s : Target). added s e) four in
    ap (λ (s : Target). s.prefix ++ s.form) (e₆ ∙ ap (λ (s : Target). added s f) five)
