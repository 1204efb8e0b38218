use Rattle.std.proofs.Common.{sym, ap, ◌∙◌}
use Rattle.std.specs.Option.{option_copied}
use Rattle.ur_rows.specs.declared.normal.Normal.TheVariants as normal
use Rattle.ur_unfold_pieces.proofs.Labels.{con_past}
use Rattle.ur_unfold_pieces.proofs.constructors.con_at.Goals as goal

pub returns-in-None-clause-of : goal.returns-in-None-clause-of
returns-in-None-clause-of c = ap normal.Type c.unit.ensures ∙ sym (con_past c.args.closing.now.cons c.args.number (sym c.con.ensures.of ∙ ap option_copied c.in-None.is))
