use Rattle.std.proofs.Common.{◌≡◌, take, map}
use Rattle.httparse.specs.Spans.{header_bytes}
use Rattle.ur_http.specs.Reading.{field_pair}
use Rattle.ur_http.proofs.fields.fields_at.Given as goal

abbrev pub invariant-loop-span : goal.invariant-loop-span
invariant-loop-span l = map field_pair l.fields.items ≡ map (header_bytes l.bytes) (take l.span-index l.spans)
