use Rattle.std.proofs.Common.{◌∙◌, sym, refl}
use Rattle.ur_parse_rules.proofs.Choices.{starts_at}
use Rattle.ur_parse_rules.specs.Classes.{member}
use Rattle.ur_parse_rules.proofs.Places.{missing}
use Rattle.ur_parse_con.specs.Forms.{pat_more}
use Rattle.ur_parse_con.proofs.Patterns.{goes_on_by}
use Rattle.ur_parse_con.proofs.pattern.goes_on.Goals as goal

pub returns-then-sees : goal.returns-then-sees
returns-then-sees c = sym (starts_at (member pat_more) (c.sees.ensures.yes c.if-sees.true) (λ w. refl))

pub returns-then-sees-2 : goal.returns-then-sees-2
returns-then-sees-2 c = sym (starts_at (member pat_more) (c.sees-else-sees.ensures.yes c.if-sees-2.true) (λ w. refl))

pub returns-else-sees-2 : goal.returns-else-sees-2
returns-else-sees-2 c = c.sees_binder.ensures ∙ goes_on_by _ (missing refl (c.sees.ensures.no c.if-sees.false)) (missing refl (c.sees-else-sees.ensures.no c.if-sees-2.false))
