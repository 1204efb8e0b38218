-- The patterns are those of the code that is verified.
use Rattle.std.proofs.Common.{subst}
use Rattle.ur_code.specs.declared.code.Code.{Code}
use Rattle.ur_conditions.specs.Patterns.{AreAllPatterns}
use Rattle.ur_conditions.specs.Law.{IsSoundInvalidation, ReadArguments}
use Rattle.ur_compile.proofs.compiling.with_patterns.Goals as goal

pub returns-clause-patterns : goal.returns-clause-patterns
returns-clause-patterns c = subst (λ (code : Code). AreAllPatterns code.queries code.changes c.in_ok-patterns.patterns) c.code-code.ensures.same c.in_ok-patterns.ensures.patterns

pub returns-clause-sound : goal.returns-clause-sound
returns-clause-sound c =
    let code = c.code-code.result.now in
    subst (λ (code : Code). IsSoundInvalidation code.schema code.queries code.changes c.in_ok-patterns.patterns) c.code-code.ensures.same
    (c.in_ok-patterns.ensures.sound code.schema c.code-code.ensures.fits.queries c.code-code.ensures.fits.changes)

pub returns-clause-reads : goal.returns-clause-reads
returns-clause-reads c =
    let code = c.code-code.result.now in
    subst (λ (code : Code). ReadArguments code.changes c.in_ok-patterns.patterns) c.code-code.ensures.same
    (c.patterns_read_arguments.ensures code.schema code.queries code.changes c.in_ok-patterns.patterns c.code-code.ensures.fits.queries c.code-code.ensures.fits.changes c.in_ok-patterns.ensures.patterns)
