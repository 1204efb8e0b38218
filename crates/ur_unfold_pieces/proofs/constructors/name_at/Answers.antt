use Rattle.std.proofs.Common.{sym, ap, ◌∙◌}
use Rattle.std.specs.Option.{option_copied}
use Rattle.ur_unfold_pieces.proofs.Labels.{name_past, name_there}
use Rattle.ur_unfold_pieces.proofs.constructors.name_at.Goals as goal

pub returns-in-None-con : goal.returns-in-None-con
returns-in-None-con c = sym (name_past c.args.closing.now.cons c.args.scope.now.cons c.args.n c.in-Some.number.now (sym c.get.ensures.value ∙ ap option_copied c.in-Some.is) (sym c.con.ensures.of ∙ ap option_copied c.in-None-con.is))

pub returns-in-Some-con : goal.returns-in-Some-con
returns-in-Some-con c = c.name_in.ensures ∙ sym (name_there c.args.closing.now.cons c.args.scope.now.cons c.args.n c.in-Some.number.now c.in-Some-con.con.now (sym c.get.ensures.value ∙ ap option_copied c.in-Some.is) (sym c.con.ensures.of ∙ ap option_copied c.in-Some-con.is))
