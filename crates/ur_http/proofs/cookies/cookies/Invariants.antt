use Rattle.std.proofs.Common.{◌≡◌, take, map}
use Rattle.ur_http.specs.Fields.{cookies_of}
use Rattle.ur_http.specs.Reading.{field_pair}
use Rattle.ur_http.proofs.cookies.cookies.Given as goal

abbrev pub invariant-loop-field : goal.invariant-loop-field
invariant-loop-field l = l.cookies ≡ cookies_of (map field_pair (take l.field-index l.fields))
