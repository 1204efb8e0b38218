use Rattle.std.proofs.Common.{◌≡◌, List, map, Err, subst}
use Rattle.ur_rows_reduce.specs.declared.count.Halt.TheVariants as halt
use Rattle.ur_rows.specs.Put.{instance}
use Rattle.ur_rows.specs.declared.normal.Normal.{Normal}
use Rattle.ur_unfold_static.proofs.Laws.{grows_so}
use Rattle.ur_unfold_pieces.specs.Sizes.{SomeLarge}
use Rattle.ur_unfold_pieces.proofs.constructors.instances_under.Goals as goal

pub returns-in_err-args-clause-grows : goal.returns-in_err-args-clause-grows
returns-in_err-args-clause-grows c = grows_so c.args.closing.now

pub returns-clause-over : goal.returns-clause-over
returns-clause-over c = subst (λ (a : List Normal). c.numbers_of.result ≡ Err halt.TooLarge → SomeLarge (map (instance a) c.args.cons.now)) c.in_ok-args.ensures.are c.numbers_of.ensures.over
