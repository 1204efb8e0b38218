use Rattle.std.proofs.Common.{arith}
use Rattle.ur_parse_rules.proofs.Steps.{passed}
use Rattle.ur_parse_embed_code.proofs.Attributed.{attrs_here, attrs_refused, attrs_more, attrs_done}
use Rattle.ur_parse_embed_code.proofs.attrs.attrs.Goals as goal

pub attrs-init : goal.attrs-init
attrs-init c = let e = c.new-list.ensures in record { start = omega arith; within = λ h. h; so_far = rw e (attrs_here c.args.depth c.args.tokens.now c.args.at _) }

pub returns-in_err-item-clause-refused : goal.returns-in_err-item-clause-refused
returns-in_err-item-clause-refused c = passed _ _ c.from_residual.ensures.1 c.in_err-item.ensures.refused (λ r h. attrs_refused c.attrs.invariant.so_far (c.sees.ensures.yes c.attrs-test.true) h)

pub attrs-preserved : goal.attrs-preserved
attrs-preserved c = let s = c.attrs.invariant.start in let m = c.in_ok-item.ensures.moves in let o = m.on in let p = c.in_ok-pushed.ensures.found in record {
  start = omega (arith, s, o);
  within = λ h. m.within;
  so_far = rw p (attrs_more c.attrs.invariant.so_far c.in_ok-item.next (c.sees.ensures.yes c.attrs-test.true) c.in_ok-item.ensures.found);
}

pub returns-clause-found : goal.returns-clause-found
returns-clause-found c = attrs_done c.attrs.invariant.so_far (c.sees.ensures.no c.attrs-test.false)
