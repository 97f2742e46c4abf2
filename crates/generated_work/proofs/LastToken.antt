-- The token of the link that was recorded last.
use Rattle.std.proofs.Common.{◌≡◌, ℕ, ◌-◌, List, [], ◌∷◌, Some, length, refl, ap, arith}
use Rattle.std.specs.Prelude.{option_map}
use Rattle.sts_core.specs.State.{Standing, Stands}
use Rattle.links.specs.declared.entry.Entry.{Entry}
use Rattle.links.specs.Chain.{Link, chains_of}
use Rattle.links.specs.State.{Content, chain, token_text}
use Rattle.generated_work.specs.Run.{newest_token, token_behind}
use Rattle.generated_work.specs.Setting.{run_config}

-- where there is no link there is no token
pub none_newest : (c : Content) (links : List Link) → c.links ≡ links → length c.links ≡ 0 → newest_token c ≡ []
unfolding newest_token chains_of
none_newest c [] e none = rw e refl
none_newest c (link ∷ links) e none = let f : length (link ∷ links) ≡ 0 = rw e at none in absurd (omega (arith, f))

-- the token of the last link is the newest
pub last_newest : (c : Content) (number : ℕ) (token : List ℕ) → number ≡ length c.links - 1
    → option_map (token_text c) (chain c number) ≡ Some token → token ≡ newest_token c
unfolding newest_token
last_newest c number token last e =
    let f : option_map (token_text c) (chain c (length c.links - 1)) ≡ Some token = rw (← last) e in
    rw f refl

-- the newest of a service's content is the newest behind its journal
pub newest_behind : (sts : Standing) (journal : List Entry) → Stands sts run_config journal → newest_token sts.content ≡ token_behind journal
unfolding token_behind
newest_behind sts journal stands = ap newest_token stands.content
