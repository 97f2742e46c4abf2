-- What a check decides: by the recorded link that a token was issued for, and for any other text by what it carries.
use Rattle.std.specs.Prelude.{ℕ, List, [], ◌∷◌, Option, None, Some, option_and_then, nat_lt, if◌then◌else◌}
use Rattle.base_types.specs.Rules.{first_failing}
use Rattle.service_view.specs.View.{View, pool_enabled, account_enabled}
use Rattle.grant_gate.specs.declared.decision.Decision.{Decision}
use Rattle.grant_gate.specs.declared.decision.Decision.TheVariants.{Admit, Deny}
use Rattle.grant_gate.specs.declared.decision.GateRule.TheVariants.{G4, G5, G6, G7, G8, G9}
use Rattle.grant_gate.specs.Decision.{carried_decision, denied_at, denied_unless, boundary_holds, place_failing, words_allow}
use Rattle.links.specs.Authority.{admits}
use Rattle.links.specs.Chain.{Chain}
use Rattle.links.specs.Facts.{exp_of, pools_of, accounts_of, scopes_of, bounds_of}
use Rattle.links.specs.Issued.{issued_link}
use Rattle.links.specs.State.{Content, chain}

-- why a link isn't admitted: it is expired, the first of its pools or accounts that is disabled, the first of its lists of
-- words or of its boundaries that doesn't allow the permission, or no grant
unfoldable pub first_denial : View → Chain → List ℕ → List ℕ → ℕ → Decision
first_denial view chain permission resource now = first_failing (
    denied_unless (nat_lt now (exp_of chain)) G4 ∷
    denied_at G5 (place_failing (pool_enabled view) (pools_of chain)) ∷
    denied_at G6 (place_failing (account_enabled view) (accounts_of chain)) ∷
    denied_at G7 (place_failing (words_allow view permission) (scopes_of chain)) ∷
    denied_at G8 (place_failing (boundary_holds view permission resource now) (bounds_of chain)) ∷ []
    ) (Deny G9 0)

-- a link that admits is admitted, and any other is denied by its first denial
unfoldable pub link_decision : View → Chain → List ℕ → List ℕ → ℕ → Decision
link_decision view chain permission resource now = if admits view chain permission resource now then Admit else first_denial view chain permission resource now

-- the chain of the link that a token was issued for
abbrev pub issued_chain : Content → List ℕ → Option Chain
issued_chain c text = option_and_then (chain c) (issued_link c text)

-- the chain decides where there is one, and else what the text carries
abbrev pub chain_or_carried : Content → List ℕ → List ℕ → List ℕ → ℕ → Option Chain → Decision
chain_or_carried c text permission resource now None = carried_decision c.view c.key c.issuer text permission resource now
chain_or_carried c text permission resource now (Some found) = link_decision c.view found permission resource now

-- a token that was issued is decided by its link, and any other text by what it carries
unfoldable pub check_decision : Content → List ℕ → List ℕ → List ℕ → ℕ → Decision
check_decision c text permission resource now = chain_or_carried c text permission resource now (issued_chain c text)
