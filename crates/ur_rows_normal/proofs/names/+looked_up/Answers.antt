use Rattle.std.proofs.Common.{ap, sym, ◌∙◌}
use Rattle.ur_syntax.specs.Names.{looked_up}
use Rattle.ur_rows_normal.specs.Walk.{names_of, key_of}
use Rattle.ur_rows_normal.proofs.NormalStanding.{over-some, over-none}
use Rattle.ur_rows_normal.proofs.names.+looked_up.Goals as goal

pub returns-in-Some : goal.returns-in-Some
returns-in-Some t c = over-some (key_of c.args.key.now) c.in-Over.entries.now (names_of c.in-Over.rest.now) _ c.in-Some.ensures ∙ ap (λ z. looked_up (key_of c.args.key.now) (names_of z)) (sym c.in-Over.is)

pub returns-in-None : goal.returns-in-None
returns-in-None t c = c.looked_up.ensures ∙ over-none (key_of c.args.key.now) c.in-Over.entries.now (names_of c.in-Over.rest.now) c.in-None.ensures ∙ ap (λ z. looked_up (key_of c.args.key.now) (names_of z)) (sym c.in-Over.is)
