use Rattle.std.proofs.Common.{subst}
use Rattle.ur_compile.specs.Kept.{IsCodeFor}
use Rattle.ur_top.specs.Sources.{OfFiles}
use Rattle.ur_top.proofs.compiling.compiled.Goals as goal

pub returns-in-Ok-compile-clause-coded : goal.returns-in-Ok-compile-clause-coded
returns-in-Ok-compile-clause-coded g c =
    subst (λ w. OfFiles (g.S.Shelf.told c.args.shelf.now) w (λ app. IsCodeFor app c.in-Ok-compile.compiled.verified)) (search (c.in-Ok.ensures.cases, c.as_slice.ensures)) c.in-Ok-compile.ensures.compiled
