use Rattle.ur_parse_rules.proofs.Steps.{passed, found_map, refused_map}
use Rattle.ur_parse_rules.proofs.Places.{name_moves, mark_moves, moves_on}
use Rattle.ur_parse_embed.specs.Pieces.{no_as, no_name}
use Rattle.ur_parse_embed.proofs.Piecing.{called_by}
use Rattle.ur_parse_embed.proofs.selection.called.Goals as goal

pub returns-in_err-begin-clause-refused : goal.returns-in_err-begin-clause-refused
returns-in_err-begin-clause-refused c = passed _ _ c.from_residual.ensures.1 c.in_err-begin.ensures.refused (λ r h. no_as h)

pub returns-clause-moves : goal.returns-clause-moves
returns-clause-moves c = found_map _ c.expect_field.ensures.found (λ p h. moves_on (mark_moves c.in_ok-begin.ensures.found) (name_moves h))

pub returns-clause-found : goal.returns-clause-found
returns-clause-found c = found_map _ c.expect_field.ensures.found (λ p h. called_by c.in_ok-begin.ensures.found h)

pub returns-clause-refused : goal.returns-clause-refused
returns-clause-refused c = refused_map _ c.expect_field.ensures.refused (λ r h. no_name _ c.in_ok-begin.ensures.found h)
