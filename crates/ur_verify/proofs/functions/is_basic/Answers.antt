-- A kind with nothing inside is no option.
use Rattle.std.proofs.Common.{refl, sym, ◌∙◌}
use Rattle.std.proofs.lemmas.Option.{none-some}
use Rattle.ur_verify.proofs.Loops.{never}
use Rattle.ur_verify.proofs.functions.is_basic.Goals as goal

pub returns-in-None : goal.returns-in-None
returns-in-None c = ((λ q. sym c.inside.ensures ∙ c.in-None.is), (λ a. refl))

pub returns-in-Some : goal.returns-in-Some
returns-in-Some c = never (λ a. none-some c.in-Some.field-0 (sym a ∙ (sym c.inside.ensures ∙ c.in-Some.is)))
