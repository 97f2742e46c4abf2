use Rattle.std.proofs.Common.{List, ℕ, refl}
use Rattle.std.specs.Prelude.{Option, None, Some}
use Rattle.std.specs.Io.KnownBytes.{Keeps}
use Rattle.http_front.proofs.reply.write_reply.Goals as goal

keeps : (taken : Option (List ℕ)) → Keeps taken taken
keeps None = tt
keeps (Some bytes) = refl

pub returns-in_default-clause-written : goal.returns-in_default-clause-written
returns-in_default-clause-written g c = keeps _
