-- The link that a token's text was issued for.
use Rattle.std.specs.Prelude.{ℕ, Bool, false, List, Option, None, Some}
use Rattle.std.specs.Str.{bytes_eq}
use Rattle.links.specs.Chain.{Chain, chains_of}
use Rattle.links.specs.Places.{place_of}
use Rattle.links.specs.State.{Content, token_text}

-- the text is that of the chain's token
abbrev pub is_text_of : Content → List ℕ → Option Chain → Bool
is_text_of c text None = false
is_text_of c text (Some chain) = bytes_eq (token_text c chain) text

-- the number of the link whose token the text is
unfoldable pub issued_link : Content → List ℕ → Option ℕ
issued_link c text = place_of (is_text_of c text) (chains_of c.links)
