-- What a loop that reads more has taken so far.
use Rattle.std.proofs.Common.{◌≡◌, ℕ, ◌+◌, List, [], ◌++◌, length, sym, ◌∙◌, ap, subst, arith, append_assoc, length-append}
use Rattle.std.proofs.lemmas.List.{append-nil}
use Rattle.std.specs.Prelude.{Option}
use Rattle.std.specs.Io.KnownBytes.{Consumes, Keeps}
use Rattle.wif_base.proofs.Known.{consumes-nothing, consumes-then, keeps-consumes}
use Rattle.wif_base.specs.Carried.{Carried, Moves}

-- these bytes were taken, and stand behind those at hand
pub record Taken (left left' : Option (List ℕ)) (old new : Carried) : Type 0 where
  pub bytes : List ℕ
  pub source : Consumes left left' bytes
  pub unused : new.unused ≡ old.unused ++ bytes
  pub taken : new.taken ≡ old.taken + length bytes

pub nothing_taken : (left : Option (List ℕ)) (carry : Carried) → Taken left left carry carry
nothing_taken left carry = record {
  bytes = [];
  source = consumes-nothing left;
  unused = sym (append-nil carry.unused);
  taken = omega arith;
}

pub taken_more : (left left' left'' : Option (List ℕ)) (old now new : Carried) (bytes : List ℕ) → Taken left left' old now → Moves left' left'' now new bytes → Taken left left'' old new
taken_more left left' left'' old now new bytes taken moves = record {
  bytes = taken.bytes ++ bytes;
  source = consumes-then left left' left'' taken.bytes bytes taken.source moves.source;
  unused = moves.unused ∙ ap (λ (l : List ℕ). l ++ bytes) taken.unused ∙ append_assoc old.unused taken.bytes bytes;
  taken = omega (arith, moves.taken, taken.taken, length-append taken.bytes bytes);
}

pub taken_still : (left left' left'' : Option (List ℕ)) (old now new : Carried) → Taken left left' old now → Keeps left' left'' → new ≡ now → Taken left left'' old new
taken_still left left' left'' old now new taken keeps same = subst (λ (c : Carried). Taken left left'' old c) (sym same) (record {
  bytes = taken.bytes;
  source = subst (λ (l : List ℕ). Consumes left left'' l) (append-nil taken.bytes) (consumes-then left left' left'' taken.bytes [] taken.source (keeps-consumes left' left'' keeps));
  unused = taken.unused;
  taken = taken.taken;
})
