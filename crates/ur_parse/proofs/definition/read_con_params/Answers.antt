use Rattle.std.proofs.Common.{inl, refl}
use Rattle.ur_parse_rules.proofs.Steps.{passed}
use Rattle.ur_parse.proofs.Params.{stays_moves, con_params_start, con_params_refused, con_params_more, con_params_done}
use Rattle.ur_parse.proofs.definition.read_con_params.Goals as goal

pub params-init : goal.params-init
params-init c = let e = c.new-list.ensures in rw e (record { stays = inl refl; read = con_params_start c.args.at })

pub returns-in_err-next-clause-refused : goal.returns-in_err-next-clause-refused
returns-in_err-next-clause-refused c = passed _ _ c.from_residual.ensures.1 c.in_err-next.ensures.refused (λ r h. con_params_refused c.params.invariant.read (c.sees.ensures.yes c.params-test.true) h)

pub params-preserved : goal.params-preserved
params-preserved c = let p = c.in_ok-pushed.ensures.found in rw p (record {
  stays = stays_moves c.params.invariant.stays c.in_ok-next.ensures.moves;
  read = con_params_more c.params.invariant.read (c.sees.ensures.yes c.params-test.true) c.in_ok-next.next.end c.in_ok-next.ensures.found;
})

pub returns-clause-found : goal.returns-clause-found
returns-clause-found c = con_params_done c.params.invariant.read (c.sees.ensures.no c.params-test.false)
