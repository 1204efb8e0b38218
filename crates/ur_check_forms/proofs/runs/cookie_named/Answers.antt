use Rattle.std.proofs.Common.{Some, None}
use Rattle.ur_check_scopes.specs.Views.{key_in}
use Rattle.ur_check_forms.proofs.Running.{cookie-is, no-cookie-told}
use Rattle.ur_check_forms.proofs.runs.cookie_named.Goals as goal

pub returns-in-Some-clause-number : goal.returns-in-Some-clause-number
returns-in-Some-clause-number c = cookie-is c.args.around.now c.args.name.now (key_in c.key_of-key.result) c.as_slice-home.result.now c.as_slice.result.now c.seen.result (Some c.in-Some.number) c.key_of-key.ensures c.seen.ensures c.as_slice-home.ensures c.as_slice.ensures c.in-Some.is

pub returns-in-None-clause-refused : goal.returns-in-None-clause-refused
returns-in-None-clause-refused c = no-cookie-told c.args.around.now c.args.name.now c.no_name.result (cookie-is c.args.around.now c.args.name.now (key_in c.key_of-key.result) c.as_slice-home.result.now c.as_slice.result.now c.seen.result None c.key_of-key.ensures c.seen.ensures c.as_slice-home.ensures c.as_slice.ensures c.in-None.is) c.no_name.ensures
