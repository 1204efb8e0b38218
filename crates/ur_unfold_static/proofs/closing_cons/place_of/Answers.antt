use Rattle.std.proofs.Common.{sym, ◌∙◌}
use Rattle.std.proofs.lemmas.Bool.{false≢true}
use Rattle.ur_unfold_static.specs.declared.con.Con.{Con}
use Rattle.ur_unfold_static.proofs.Finding.{found, passed, nowhere}
use Rattle.ur_unfold_static.proofs.closing_cons.place_of.Goals as goal

pub returns-then-same_con : goal.returns-then-same_con
returns-then-same_con c = found (λ (k : Con). k.of) c.args.cons.now c.as_slice-known.result.now c.loop-i.i c.index-known-i.result c.args.con.now.of
    c.as_slice-known.ensures c.loop-i-test.true c.index-known-i.is (c.same_con.ensures.0 c.if-same_con.true)

pub loop-i-preserved : goal.loop-i-preserved
loop-i-preserved c = passed (λ (k : Con). k.of) c.as_slice-known.result.now c.loop-i.i c.index-known-i.result c.args.con.now.of c.loop-i-test.true c.index-known-i.is
    (λ same. false≢true (sym c.if-same_con.false ∙ c.same_con.ensures.1 same)) c.loop-i.invariant

pub returns : goal.returns
returns c = nowhere (λ (k : Con). k.of) c.args.cons.now c.as_slice-known.result.now c.loop-i.i c.args.con.now.of
    c.as_slice-known.ensures c.loop-i-test.false c.loop-i.invariant
