use Rattle.std.proofs.Common.{◌∙◌, ap}
use Rattle.ur_rows.specs.Put.{as_type}
use Rattle.ur_rows_reduce.proofs.Applying.{body-type, function-no_type}
use Rattle.ur_rows_reduce.proofs.maps.body_of.Goals as goal

pub returns-in-Type-get : goal.returns-in-Type-get
returns-in-Type-get c = body-type c.args.f.now c.in-Fn.body c.get.result.now c.in-Fn.field-0 c.in-Fn.is c.get.ensures ∙ ap as_type c.in-Type-get.is

pub returns-in-Name-get : goal.returns-in-Name-get
returns-in-Name-get c = body-type c.args.f.now c.in-Fn.body c.get.result.now c.in-Fn.field-0 c.in-Fn.is c.get.ensures ∙ ap as_type c.in-Name-get.is

pub returns-in-Row-get : goal.returns-in-Row-get
returns-in-Row-get c = body-type c.args.f.now c.in-Fn.body c.get.result.now c.in-Fn.field-0 c.in-Fn.is c.get.ensures ∙ ap as_type c.in-Row-get.is

pub returns-in-Fn-get : goal.returns-in-Fn-get
returns-in-Fn-get c = body-type c.args.f.now c.in-Fn.body c.get.result.now c.in-Fn.field-0 c.in-Fn.is c.get.ensures ∙ function-no_type c.get.result.now _ _ c.in-Fn-get.is
