use Rattle.std.proofs.Common.{sym, ◌∙◌}
use Rattle.std.proofs.lemmas.Result.{IfOk-weaker}
use Rattle.ur_rows_reduce.proofs.Holding.{map-held, map-dropped}
use Rattle.ur_rows_reduce.proofs.maps.mapped_large.Goals as goal

pub returns-then-holds_type : goal.returns-then-holds_type
returns-then-holds_type c = λ r n p m k. map-held c.args.f.now r c.args.o.now c.in_ok-copy_outline.field-0 c.in_ok-copy_outline.ensures (sym c.holds_type.ensures ∙ c.if-holds_type.true) p m k

pub returns-in-Some : goal.returns-in-Some
returns-in-Some c = IfOk-weaker c.mapped_small.result _ _ (λ m g r n p q k. map-dropped c.args.f.now r c.args.o.now c.in-Some.s m c.in_ok-uses_type.field-0 c.in_ok-uses_type.ensures c.if-branch.false c.in-Some.is n g k) c.mapped_small.ensures
