use Rattle.std.proofs.Common.{ap, ◌∙◌}
use Rattle.std.specs.Option.{option_copied}
use Rattle.ur_typed_rules.specs.Repeats.{first_repeated}
use Rattle.ur_check_scopes.proofs.Repeating.{in-lambda, both-none, written-arrow, written-concat, written-app}
use Rattle.ur_check_scopes.proofs.given.+given.Goals as goal

pub given_twice-returns-in-Lambda : goal.given_twice-returns-in-Lambda
given_twice-returns-in-Lambda t c =
    in-lambda c.args.con.now.form c.in-Lambda.field-0 c.in-Lambda.field-1 c.in-Lambda.body c.get.result.now (option_copied c.given_twice.result)
    c.in-Lambda.is c.get.ensures c.given_twice.ensures

pub given_twice-returns-in-None : goal.given_twice-returns-in-None
given_twice-returns-in-None t c = both-none c.args.con.now.form _ _ c.get-in-Arrow.result.now c.get-in-None.result.now (option_copied c.given_twice-in-None.result)
    (ap first_repeated c.in-Arrow.is ∙ written-arrow _ _) c.get-in-Arrow.ensures c.get-in-None.ensures c.in-None.ensures c.given_twice-in-None.ensures

pub given_twice-returns-in-None-given_twice : goal.given_twice-returns-in-None-given_twice
given_twice-returns-in-None-given_twice t c = both-none c.args.con.now.form _ _ c.get-in-Concat.result.now c.get-in-None-given_twice.result.now (option_copied c.given_twice-in-None-given_twice.result)
    (ap first_repeated c.in-Concat.is ∙ written-concat _ _) c.get-in-Concat.ensures c.get-in-None-given_twice.ensures c.in-None-given_twice.ensures c.given_twice-in-None-given_twice.ensures

pub given_twice-returns-in-None-given_twice-2 : goal.given_twice-returns-in-None-given_twice-2
given_twice-returns-in-None-given_twice-2 t c = both-none c.args.con.now.form _ _ c.get-in-App.result.now c.get-in-None-given_twice-2.result.now (option_copied c.given_twice-in-None-given_twice-2.result)
    (ap first_repeated c.in-App.is ∙ written-app _ _) c.get-in-App.ensures c.get-in-None-given_twice-2.ensures c.in-None-given_twice-2.ensures c.given_twice-in-None-given_twice-2.ensures
