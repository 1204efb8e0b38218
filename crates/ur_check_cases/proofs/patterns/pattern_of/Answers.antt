use Rattle.ur_check_scopes.specs.Views.{globals_in}
use Rattle.ur_check_cases.proofs.Telling.{bare-pattern, bare-refused, member-pattern, member-refused}
use Rattle.ur_check_cases.proofs.patterns.pattern_of.Goals as goal

pub returns-in-Constructor-clause-pattern : goal.returns-in-Constructor-clause-pattern
returns-in-Constructor-clause-pattern c = bare-pattern (globals_in c.args.world.now) c.args.pat.now.form c.in-Constructor.x c.as_slice-own.result.now c.tagged.result c.in-Constructor.is c.as_slice-own.ensures c.tagged.ensures.tag

pub returns-in-Constructor-clause-refused : goal.returns-in-Constructor-clause-refused
returns-in-Constructor-clause-refused c = bare-refused (globals_in c.args.world.now) c.args.pat.now.form c.in-Constructor.x c.as_slice-own.result.now c.tagged.result c.in-Constructor.is c.as_slice-own.ensures c.tagged.ensures.refused

pub returns-in-Member-clause-pattern : goal.returns-in-Member-clause-pattern
returns-in-Member-clause-pattern c = member-pattern (globals_in c.args.world.now) c.args.pat.now.form c.in-Member.m c.in-Member.x c.as_slice-home.result.now c.as_slice-name.result.now c.tagged-in-Member.result c.in-Member.is c.as_slice-home.ensures c.as_slice-name.ensures c.tagged-in-Member.ensures.tag

pub returns-in-Member-clause-refused : goal.returns-in-Member-clause-refused
returns-in-Member-clause-refused c = member-refused (globals_in c.args.world.now) c.args.pat.now.form c.in-Member.m c.in-Member.x c.as_slice-home.result.now c.as_slice-name.result.now c.tagged-in-Member.result c.in-Member.is c.as_slice-home.ensures c.as_slice-name.ensures c.tagged-in-Member.ensures.refused
