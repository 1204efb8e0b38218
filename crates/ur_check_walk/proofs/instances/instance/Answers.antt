use Rattle.ur_check_scopes.proofs.Exits.{ok-along, refused-along, refused-exit}
use Rattle.ur_check_walk.proofs.Passing.{applied-there, given-gives, given-to-tells, no-function-tells}
use Rattle.ur_check_walk.proofs.Steps.{rule}
use Rattle.ur_check_walk.proofs.instances.instance.Goals as goal

pub passed_out-requires : goal.passed_out-requires
passed_out-requires c = record { ordered = (applied-there c.requires.0 c.requires.1 c.args.e.now.form c.in_ok-found.found c.in-Some.applied c.in-Some.is (c.in_ok-found.ensures.applied c.requires.0 c.requires.1 c.requires.2)).ordered }

pub returns-in-Some-clause-typed : goal.returns-in-Some-clause-typed
returns-in-Some-clause-typed c =
    ok-along c.passed_out.result (λ o h m. given-gives c.args.around.now c.args.e.now.form m c.in-Some.applied o (λ w s st. applied-there w s c.args.e.now.form c.in_ok-found.found c.in-Some.applied c.in-Some.is (c.in_ok-found.ensures.applied w s st)) h) c.passed_out.ensures.passed

pub returns-in-Some-clause-refused : goal.returns-in-Some-clause-refused
returns-in-Some-clause-refused c =
    refused-along c.passed_out.result (λ r h g m w s st stands. rule (h w s st c.args.e.now.form m stands (applied-there w s c.args.e.now.form c.in_ok-found.found c.in-Some.applied c.in-Some.is (c.in_ok-found.ensures.applied w s stands)))) c.passed_out.ensures.refused

pub returns-in-None-clause-refused : goal.returns-in-None-clause-refused
returns-in-None-clause-refused c = no-function-tells c.args.around.now c.args.e.now.form c.no_function.result c.no_function.ensures

pub returns-in_err-found-clause-refused : goal.returns-in_err-found-clause-refused
returns-in_err-found-clause-refused c =
    refused-exit c.from_residual.result c.in_err-found.field-0.0 c.from_residual.ensures.1 (λ r h g m. given-to-tells c.args.around.now c.args.e.now.form m r h) c.in_err-found.ensures.refused
