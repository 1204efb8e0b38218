use Rattle.ur_parse.proofs.decl.read_decl.Goals as goal

pub returns-else-sees-4-clause-refused : goal.returns-else-sees-4-clause-refused
returns-else-sees-4-clause-refused c = c.read_short.ensures.refused
    (record { val = c.sees.ensures.no c.if-sees.false; functions = c.sees-else-sees.ensures.no c.if-sees-2.false; datatype = c.sees-else-sees-2.ensures.no c.if-sees-3.false; table = c.sees-else-sees-3.ensures.no c.if-sees-4.false })
