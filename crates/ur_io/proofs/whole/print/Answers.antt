use Rattle.std.proofs.Common.{arith, rules, ◌++◌, ℕ, List}
use Rattle.std.proofs.lemmas.Result.{err_from_is_err_and}
use Rattle.ur_io.proofs.Pieces.{added-more, front_given, onto_sink}
use Rattle.ur_io.proofs.whole.print.Goals as goal

pub loop-given-preserved : goal.loop-given-preserved
loop-given-preserved g c = record {
  within = search rules;
  later = omega arith;
  told =
      added-more (λ (given bytes : List ℕ). given ++ bytes) onto_sink _ _ (g.O.Sink.told c.write.new.self) c.loop-given.given c.in_ok-given.field-0
      c.args.text.now c.loop-given.invariant.told c.in_ok-given.ensures.contents;
}

pub returns-in_err-given-clause-err : goal.returns-in_err-given-clause-err
returns-in_err-given-clause-err g c =
    let p = err_from_is_err_and c.from_residual.result c.from_residual.ensures.1 in
    rw (p.1) (front_given (λ (given bytes : List ℕ). given ++ bytes) _ _ (g.O.Sink.told c.write.new.self) c.loop-given.given c.args.text.now
    c.loop-given.invariant.told c.in_err-given.ensures.err)
