use Rattle.ur_check_scopes.specs.Views.{world_in}
use Rattle.ur_check_scopes.proofs.Exits.{refused-exit}
use Rattle.ur_check_cases.specs.Binding.{names_of}
use Rattle.ur_check_cases.proofs.Broken.{whole-bound, bound-pattern, unknown-told, other-told, twice-told, once-distinct}
use Rattle.ur_check_cases.proofs.patterns.pattern_at.Goals as goal

pub returns-in_err-pattern-clause-refused : goal.returns-in_err-pattern-clause-refused
returns-in_err-pattern-clause-refused c = refused-exit c.from_residual.result c.in_err-pattern.field-0.0 c.from_residual.ensures.1 (unknown-told c.args.world.now.datatype_names (world_in c.args.world.now) c.args.of.now c.args.pat.now.form) c.in_err-pattern.ensures.refused

pub returns-in_err-locals-clause-refused : goal.returns-in_err-locals-clause-refused
returns-in_err-locals-clause-refused c = refused-exit c.from_residual-in_err-locals.result c.in_err-locals.field-0.0 c.from_residual-in_err-locals.ensures.1
    (other-told c.args.world.now.datatype_names (world_in c.args.world.now) c.args.of.now c.args.pat.now.form c.in_ok-pattern.pattern c.in_ok-pattern.ensures.pattern) c.in_err-locals.ensures.refused

pub returns-in_err-are_once-clause-refused : goal.returns-in_err-are_once-clause-refused
returns-in_err-are_once-clause-refused c = refused-exit c.from_residual-in_err-are_once.result c.in_err-are_once.field-0.0 c.from_residual-in_err-are_once.ensures.1
    (twice-told c.args.world.now.datatype_names (world_in c.args.world.now) c.args.of.now c.args.pat.now.form c.in_ok-pattern.pattern c.in_ok-locals.locals c.as_slice.result.now c.in_ok-pattern.ensures.pattern c.in_ok-locals.ensures.locals c.as_slice.ensures) c.in_err-are_once.ensures.refused

pub returns-clause-pattern : goal.returns-clause-pattern
returns-clause-pattern c = bound-pattern (world_in c.args.world.now) c.args.of.now c.args.pat.now.form c.in_ok-pattern.pattern c.in_ok-locals.locals c.in_ok-pattern.ensures.pattern c.in_ok-locals.ensures.locals

pub returns-clause-bound : goal.returns-clause-bound
returns-clause-bound c = whole-bound (world_in c.args.world.now) c.args.of.now c.in_ok-pattern.pattern (names_of c.args.pat.now.form) c.in_ok-locals.locals c.in_ok-locals.ensures.locals

pub returns-clause-distinct : goal.returns-clause-distinct
returns-clause-distinct c = once-distinct c.in_ok-locals.locals c.as_slice.result.now c.as_slice.ensures c.in_ok-are_once.ensures.ok
