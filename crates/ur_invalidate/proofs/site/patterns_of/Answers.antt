use Rattle.std.proofs.Common.{◌≤◌, List, All, length, sym, subst, ◌∙◌}
use Rattle.ur_conditions.specs.declared.pair.Pair.{Pair}
use Rattle.ur_conditions.specs.Pairs.{pairs_of, AreAtoms}
use Rattle.ur_invalidate.proofs.Pointwise.{few_pairs}
use Rattle.ur_invalidate.proofs.site.patterns_of.Goals as goal

pub read_pairs-requires : goal.read_pairs-requires
read_pairs-requires c =
    let counted : length (pairs_of c.args.query.now c.args.change.now) ≤ 64 = few_pairs (length (pairs_of c.args.query.now c.args.change.now)) c.pairs.result c.pairs.ensures c.if-pairs-gt64.false in
    subst (λ (pairs : List Pair). All AreAtoms pairs) (sym (c.as_slice.ensures ∙ c.in_ok-pairs.ensures)) (c.requires counted)
