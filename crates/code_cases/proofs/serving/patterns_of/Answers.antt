use Rattle.code_cases.proofs.serving.patterns_of.Goals as goal

pub patterns-requires : goal.patterns-requires
patterns-requires c = (c.args.code.now.schema, c.requires.queries, c.requires.changes)

pub returns : goal.returns
returns c = c.patterns_are_sound.ensures c.args.code.now _ c.requires c.in_ok-patterns.ensures.patterns
