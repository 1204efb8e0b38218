use Rattle.ur_parse_rules.proofs.Steps.{passed, made}
use Rattle.ur_parse.proofs.ParseModuleDeclaring.{no_decl}
use Rattle.ur_parse.proofs.decl.read_short.Goals as goal

pub returns-in_ok-made-clause-found : goal.returns-in_ok-made-clause-found
returns-in_ok-made-clause-found c = c.in_ok-made.ensures.found _

pub returns-in_err-made-clause-refused : goal.returns-in_err-made-clause-refused
returns-in_err-made-clause-refused c = λ o. passed _ _ c.from_residual.ensures.1 c.in_err-made.ensures.refused (λ r h. h _)

pub returns-else-sees-4-clause-refused : goal.returns-else-sees-4-clause-refused
returns-else-sees-4-clause-refused c = λ o. made _ c.unexpected.ensures
    (λ r s. no_decl s o (c.sees.ensures.no c.if-sees.false) (c.sees-else-sees.ensures.no c.if-sees-2.false) (c.sees-else-sees-2.ensures.no c.if-sees-3.false) (c.sees-else-sees-3.ensures.no c.if-sees-4.false))
