-- Lawful journals with one entry more.
use Rattle.std.proofs.Common.{◌≡◌, List, [], ◌∷◌, ◌++◌, refl, ap, ◌∙◌, sym, subst}
use Rattle.links.specs.declared.entry.Entry.{Entry}
use Rattle.links.specs.Entries.{IsEntry}
use Rattle.links.specs.Licence.{Licensed, LawfulFrom, Reached}
use Rattle.links.specs.State.{Content, after, start_of, state_after}

pub state_after-append : (c : Content) (xs ys : List Entry) → state_after c (xs ++ ys) ≡ state_after (state_after c xs) ys
state_after-append c [] ys = refl
state_after-append c (x ∷ xs) ys = state_after-append (after c x) xs ys

-- a lawful journal, and an entry of its form that the state behind it licenses
pub lawful-last : (c : Content) (journal : List Entry) (e : Entry) → LawfulFrom c journal → IsEntry e → Licensed (state_after c journal) e
    → LawfulFrom c (journal ++ e ∷ [])
lawful-last c [] e lawful form licensed = ((form, licensed), tt)
lawful-last c (x ∷ journal) e lawful form licensed = (lawful.0, lawful-last (after c x) journal e lawful.1 form licensed)

pub reached-after : (c : Content) (e : Entry) → Reached c → IsEntry e → Licensed c e → Reached (after c e)
reached-after c e is form licensed = record {
  config = is.config;
  formed = is.formed;
  journal = is.journal ++ e ∷ [];
  lawful = lawful-last (start_of is.config) is.journal e is.lawful form (subst (λ (k : Content). Licensed k e) is.content licensed);
  content = ap (λ (k : Content). after k e) is.content ∙ sym (state_after-append (start_of is.config) is.journal (e ∷ []));
}
