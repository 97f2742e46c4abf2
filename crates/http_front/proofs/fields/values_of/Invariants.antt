use Rattle.std.proofs.Common.{◌≡◌, length, map, take, All}
use Rattle.httparse.specs.Spans.{header_bytes, span_bytes, IsWithin}
use Rattle.http_front.specs.Fields.{values}
use Rattle.http_front.proofs.fields.values_of.Given as goal

abbrev pub invariant-loop-field : goal.invariant-loop-field
invariant-loop-field l = record {
  values : map (span_bytes l.bytes) l.spans.items ≡ values l.name (map (header_bytes l.bytes) (take l.field-index l.fields));
  within : All (IsWithin (length l.bytes)) l.spans.items;
}
