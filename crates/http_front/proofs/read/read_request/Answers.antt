use Rattle.std.proofs.Common.{refl}
use Rattle.std.proofs.Common.{arith}
use Rattle.http_front.proofs.Halves.{small_body, body_ended, body_read}
use Rattle.http_front.proofs.read.read_request.Goals as goal

pub read_body-requires-clause-body : goal.read_body-requires-clause-body
read_body-requires-clause-body g c =
    let reads = rw c.in-Ok-Some.field-0-is at c.in-Ok-Some.ensures.reads in
    let says = reads.found.1.2 in
    let small = small_body reads.found.1.0 says.sound in
    omega (arith, says.body, small)

pub returns-in-Err-read_body-clause-reads : goal.returns-in-Err-read_body-clause-reads
returns-in-Err-read_body-clause-reads g c =
    let reads = rw c.in-Ok-Some.field-0-is at c.in-Ok-Some.ensures.reads in
    body_ended _ _ _ _ _ _ c.in-Ok-Some.head reads c.in-Err-read_body.end c.in-Err-read_body.ensures.reads

pub returns-clause-reads : goal.returns-clause-reads
returns-clause-reads g c =
    let reads = rw c.in-Ok-Some.field-0-is at c.in-Ok-Some.ensures.reads in
    body_read _ _ _ _ _ _ c.in-Ok-Some.head reads c.in-Ok.body _ c.in-Ok.ensures.reads refl refl refl refl
