use Rattle.std.proofs.Common.{ap, ◌∙◌}
use Rattle.ur_typed.specs.Rules.{local_or}
use Rattle.ur_check_scopes.proofs.Exits.{ok-along, refused-along}
use Rattle.ur_check_rules.proofs.Naming.{place-there, free-there}
use Rattle.ur_check_rules.proofs.values.var_out.Goals as goal

pub returns-in-Some-clause-named : goal.returns-in-Some-clause-named
returns-in-Some-clause-named c = ok-along c.local_out.result (λ o h w s st k. h w s st (place-there c.args.around.now c.args.x.now c.in_ok-found.found c.in-Some.place c.in-Some.is c.in_ok-found.ensures w s k)) c.local_out.ensures.local

pub returns-in-Some-clause-refused : goal.returns-in-Some-clause-refused
returns-in-Some-clause-refused c =
    refused-along c.local_out.result (λ r h w s st m k. h c.args.around.now.world.now.datatype_names w s st m (place-there c.args.around.now c.args.x.now c.in_ok-found.found c.in-Some.place c.in-Some.is c.in_ok-found.ensures w s k)) c.local_out.ensures.refused

pub returns-in-None-clause-named : goal.returns-in-None-clause-named
returns-in-None-clause-named c =
    ok-along c.declared_out.result (λ o h w s st k. ap (local_or w s st c.args.x.now) (free-there c.args.around.now c.args.x.now c.in_ok-found.found c.in-None.is c.in_ok-found.ensures w s k) ∙ h w s st k) c.declared_out.ensures.declared

pub returns-in-None-clause-refused : goal.returns-in-None-clause-refused
returns-in-None-clause-refused c =
    refused-along c.declared_out.result (λ r h w s st m k. h w s st m k (free-there c.args.around.now c.args.x.now c.in_ok-found.found c.in-None.is c.in_ok-found.ensures w s k)) c.declared_out.ensures.refused
