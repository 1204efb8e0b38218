use Rattle.std.proofs.Common.{subst}
use Rattle.std.proofs.lemmas.Result.{IfOk-weaker}
use Rattle.ur_congruence.specs.Graph.{Graph}
use Rattle.ur_congruence.specs.Terms.{IsNumberOf}
use Rattle.ur_congruence.specs.declared.terms.TermNode.TheVariants.{Variable}
use Rattle.ur_invalidate.proofs.numbering.Numbering.place.Goals as goal

pub returns : goal.returns
returns c =
    IfOk-weaker c.variable.result _ _
    (λ number is. record {
      leaves = c.in_ok-place.ensures.leaves;
      place = c.in_ok-place.place;
      placed = c.in_ok-place.ensures.placed;
      node = subst (λ (g : Graph). IsNumberOf (Variable c.in_ok-place.place) g c.variable.new.self number.number) c.in_ok-place.ensures.closure is;
      constants = c.in_ok-place.ensures.constants;
    }) c.variable.ensures.ok
