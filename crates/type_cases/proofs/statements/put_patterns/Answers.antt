use Rattle.type_cases.proofs.statements.put_patterns.Goals as goal

pub patterns-requires : goal.patterns-requires
patterns-requires c = (c.args.schema.now, c.requires.queries, c.requires.changes)
