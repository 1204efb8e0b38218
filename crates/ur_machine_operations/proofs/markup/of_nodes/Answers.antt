use Rattle.std.proofs.Common.{◌≡◌, sym, subst}
use Rattle.std.specs.Prelude.{MatchResult}
use Rattle.ur_terms.specs.Ops.{markup}
use Rattle.ur_machine_frames.specs.declared.control.Performed.TheVariants as performed
use Rattle.ur_machine_operations.specs.Comes.{Comes}
use Rattle.ur_machine_operations.proofs.markup.of_nodes.Goals as goal

pub returns-in-Ok : goal.returns-in-Ok
returns-in-Ok c = subst (λ o. MatchResult o (λ ns. Comes (markup ns) c.built.result) (λ _. c.built.result ≡ performed.Memory)) (sym c.in-Ok.is) c.built.ensures
