-- The output fixes how many texts stand in it whole.
use Rattle.std.proofs.Common.{◌≡◌, ◌≤◌, ◌<◌, ℕ, zero, suc, List, [], ◌∷◌, ◌++◌, length, take, refl, sym, ◌∙◌, ap, arith, append_assoc, length-append}
use Rattle.std.proofs.lemmas.List.{append_cancel_left}
use Rattle.std.specs.Prelude.{slice_get}
use Rattle.std.specs.List.{concat, AllByRecursion}
use Rattle.wif_base.specs.Output.{IsPartOf, IsProperPart, OutputIs}
use Rattle.wif_base.specs.declared.request.Reply.{Reply}
use Rattle.sts_serve.specs.Frames.{reply_frames}
use Rattle.sts_serve.proofs.Replying.{some_text}

-- a proper part is shorter
shorter : (part text : List ℕ) → IsProperPart part text → length part < length text
shorter part text (more, some, is) = by more refl
  where
    by : (rest : List ℕ) → more ≡ rest → length part < length text
    by [] none = absurd (some none)
    by (x ∷ rest) same = omega (arith, ap length is, length-append part more, ap length same)

-- the text isn't empty
unfoldable pub IsText : List ℕ → Type 0
IsText text = 0 < length text

-- so many whole texts and a part of the next are so many
pub counted : (texts : List (List ℕ)) (m n : ℕ) (p q : List ℕ) → AllByRecursion IsText texts → m ≤ length texts → n ≤ length texts
    → IsPartOf (slice_get texts m) p → IsPartOf (slice_get texts n) q → concat (take m texts) ++ p ≡ concat (take n texts) ++ q → m ≡ n
unfolding IsText
counted [] m n p q some m_low n_low m_part n_part is = omega arith
counted (text ∷ texts) zero zero p q some m_low n_low m_part n_part is = refl
counted (text ∷ texts) zero (suc n) p q some m_low n_low m_part n_part is =
    absurd (omega (arith, shorter p text m_part, ap length is, length-append (text ++ concat (take n texts)) q, length-append text (concat (take n texts))))
counted (text ∷ texts) (suc m) zero p q some m_low n_low m_part n_part is =
    absurd (omega (arith, shorter q text n_part, ap length is, length-append (text ++ concat (take m texts)) p, length-append text (concat (take m texts))))
counted (text ∷ texts) (suc m) (suc n) p q some m_low n_low m_part n_part is =
    ap suc (counted texts m n p q some.1 (omega arith) (omega arith) m_part n_part
    (append_cancel_left text (concat (take m texts) ++ p) (concat (take n texts) ++ q)
    (sym (append_assoc text (concat (take m texts)) p) ∙ is ∙ append_assoc text (concat (take n texts)) q)))

some_texts : (replies : List Reply) → AllByRecursion IsText (reply_frames replies)
unfolding IsText
some_texts [] = tt
some_texts (reply ∷ replies) = (some_text reply, some_texts replies)

frames_length : (replies : List Reply) → length (reply_frames replies) ≡ length replies
frames_length [] = refl
frames_length (reply ∷ replies) = ap suc (frames_length replies)

pub one_count : (replies : List Reply) (written : List ℕ) (m n : ℕ) → m ≤ length replies → n ≤ length replies
    → OutputIs (reply_frames replies) m written → OutputIs (reply_frames replies) n written → m ≡ n
one_count replies written m n m_low n_low a b =
    counted (reply_frames replies) m n a.part b.part (some_texts replies) (omega (arith, frames_length replies)) (omega (arith, frames_length replies)) a.proper b.proper (sym a.whole ∙ b.whole)
