use Rattle.std.proofs.Common.{ap, ◌∙◌}
use Rattle.ur_source.specs.Reading.{value_type}
use Rattle.ur_unfold_pieces.proofs.Values.{pushed_field}
use Rattle.ur_unfold_pieces.proofs.reading.+reading.Goals as goal

pub push_field_type-returns-in_ok-of-in-Field : goal.push_field_type-returns-in_ok-of-in-Field
push_field_type-returns-in_ok-of-in-Field _ c = pushed_field c.args.names.now c.args.part.now c.in-Field.label c.in-Field.t c.in_ok-name-in-Field.name c.in_ok-of-in-Field.of c.args.fields.now c.push.new.self c.push.result c.in-Field.is c.in_ok-name-in-Field.ensures (c.in_ok-of-in-Field.ensures ∙ ap (value_type c.args.names.now) c.get.ensures) c.push.ensures.ok
