use Rattle.ur_invalidate.proofs.Stages.{pair_numbered}
use Rattle.ur_invalidate.proofs.pair_numbers.number_pair.Goals as goal

pub returns : goal.returns
returns c =
    pair_numbered c.args.pair.now c.as_slice.result.now c.as_slice-2.result.now c.equate_all.new.numbering c.number_sides.new.numbering c.number_keys.new.numbering c.number_args.new.numbering
    c.in_ok-sides.sides c.in_ok-keys.keys c.in_ok-args.args c.as_slice.ensures c.as_slice-2.ensures c.in_ok-equate_all.ensures c.in_ok-sides.ensures c.in_ok-keys.ensures c.in_ok-args.ensures
