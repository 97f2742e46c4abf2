use Rattle.std.proofs.Common.{◌≡◌, ℕ, List, ◌++◌, subst}
use Rattle.wif_base.proofs.Known.{consumes-then}
use Rattle.http_front.specs.Halves.{IsFoundHead}
use Rattle.http_front.specs.Reading.{RefusedAt}
use Rattle.http_front.specs.declared.head.FoundHead.{FoundHead}
use Rattle.http_front.specs.declared.head.FoundHead.TheVariants as found
use Rattle.http_front.proofs.Halves.{refused_on}
use Rattle.http_front.proofs.read.read_head.Goals as goal

at_front : {buffer bytes : List ℕ} {found there : FoundHead} → bytes ≡ buffer → found ≡ there → IsFoundHead bytes found → IsFoundHead buffer there
at_front {buffer} {bytes} {found} {there} same is fits = subst (λ (b : List ℕ). IsFoundHead b there) same (subst (λ (f : FoundHead). IsFoundHead bytes f) is fits)

pub returns-in-Ok-Refused-clause-reads : goal.returns-in-Ok-Refused-clause-reads
returns-in-Ok-Refused-clause-reads g c =
    let i = c.tries.invariant in
    let w = c.in-Ok-Refused in
    let found : IsFoundHead c.tries.buffer.unused (found.Refused w.rule) = at_front c.unused.ensures.unused w.field-0-is w.ensures in
    record {
      bytes = i.taken.bytes;
      source = i.taken.source;
      taken = i.taken.taken;
      found = (subst (λ (l : List ℕ). RefusedAt l (g.I.Source.left c.tries.input) w.rule) i.taken.unused (refused_on c.tries.buffer.unused (g.I.Source.left c.tries.input) w.rule found.0 found.1), i.within);
    }

pub returns-in-Memory-clause-reads : goal.returns-in-Memory-clause-reads
returns-in-Memory-clause-reads g c =
    let i = c.tries.invariant in
    let more = c.in-Memory.ensures.more in
    record {
      bytes = i.taken.bytes ++ more.0;
      source = consumes-then _ _ _ i.taken.bytes more.0 i.taken.source more.1;
      taken = tt;
      found = tt;
    }
