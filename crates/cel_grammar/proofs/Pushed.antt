-- The stack with one more frame.
use Rattle.std.proofs.Common.{◌≡◌, ℕ, ◌≤◌, ◌<◌, ◌+◌, Option, Some, None, length-append, MatchOption, List, [], ◌∷◌, ◌++◌, length, refl, sym, ap, ◌∙◌, subst, arith}
use Rattle.cel_grammar.specs.declared.draft.Draft.{Draft}
use Rattle.cel_grammar.specs.declared.frames.Pending.{Pending}
use Rattle.cel_grammar.specs.declared.frames.Frame.{Frame}
use Rattle.cel_grammar.specs.declared.frames.Frame.TheVariants.{Waiting}
use Rattle.cel_grammar.specs.Machine.{level_of, join, reduce}
use Rattle.cel_grammar.specs.Places.{onto, stack_of}
use Rattle.cel_grammar.specs.Due.{IsTop, Stays, IsTaken}
use Rattle.cel_grammar.proofs.Stack.{le_true, le_false, one_reduced}

pub onto-push : (fs : List Frame) (f : Frame) (st : List Frame) → onto (fs ++ f ∷ []) st ≡ f ∷ onto fs st
onto-push [] f st = refl
onto-push (g ∷ fs) f st = onto-push fs f (g ∷ st)

pub stack-push : (fs : List Frame) (f : Frame) → stack_of (fs ++ f ∷ []) ≡ f ∷ stack_of fs
stack-push fs f = onto-push fs f []

-- the stack of frames that were pushed
pub pushed : (old new : List Frame) (f : Frame) → new ≡ old ++ f ∷ [] → stack_of new ≡ f ∷ stack_of old
pushed old new f is = ap stack_of is ∙ stack-push old f

pub stays_weak : (l : ℕ) (p : Pending) (st : List Frame) → level_of p < l → Stays l (Waiting p ∷ st)
stays_weak l p st h e = ap (λ b. one_reduced b l e p st) (le_false l (level_of p) h)

pub reduce_due : (l : ℕ) (p : Pending) (e : Draft) (st : List Frame) → l ≤ level_of p → reduce l e (Waiting p ∷ st) ≡ reduce l (join p e) st
reduce_due l p e st h = ap (λ b. one_reduced b l e p st) (le_true l (level_of p) h)

pub top_none : (old new : List Frame) → length old ≡ 0 → length new ≡ 0 → IsTop old new None
top_none [] [] h k = (refl, refl)
top_none (x ∷ old) new h k = absurd (omega arith)
top_none [] (y ∷ new) h k = absurd (omega arith)

pub top_some : (old new : List Frame) (f : Frame) → old ≡ new ++ f ∷ [] → IsTop old new (Some f)
top_some old new f is =
    let long : length old ≡ length new + 1 = ap length is ∙ length-append new (f ∷ []) in
    (pushed new old f is, omega arith)

-- a frame that was taken off and put back
pub due_other : (l : ℕ) (old mid new : List Frame) (f : Frame) → IsTop old mid (Some f) → stack_of new ≡ f ∷ stack_of mid → Stays l (f ∷ stack_of mid) → IsTaken l old new None
due_other l old mid new f top put stays = (put ∙ sym top.0, subst (λ st. Stays l st) (sym top.0) stays)

pub due_none : (l : ℕ) (old new : List Frame) → IsTop old new None → IsTaken l old new None
due_none l old new top = (top.1 ∙ sym top.0, subst (λ st. Stays l st) (sym top.0) (λ e. refl))

pub top_of : (old new : List Frame) (o : Option Frame) → MatchOption o ((old ≡ []) × (new ≡ [])) (λ last. old ≡ new ++ last ∷ []) → IsTop old new o
top_of old new None h = (ap stack_of h.0, ap stack_of h.1)
top_of old new (Some f) h = top_some old new f h
