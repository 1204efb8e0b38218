use Rattle.std.proofs.Common.{sym, ◌∙◌, ap}
use Rattle.ur_parse_exp_parts.specs.Lines.{ended}
use Rattle.ur_parse_exp.specs.Choices.{chosen}
use Rattle.ur_parse_exp.proofs.ChoiceRules.{chosen-push}
use Rattle.ur_parse_exp.proofs.choice.chosen.Goals as goal

pub choices-preserved : goal.choices-preserved
choices-preserved c = let e = c.in_ok-whole.ensures.found in let p = c.in-Some.ensures in record {
  whole = ap (chosen c.pop.new.self c.args.covered) e.0 ∙ sym (chosen-push c.pop.new.self c.in-Some.choice c.args.covered (ended c.choices.whole.tree))
      ∙ ap (λ z. chosen z c.args.covered (ended c.choices.whole.tree)) (sym p) ∙ c.choices.invariant.whole;
  end = e.1 ∙ c.choices.invariant.end;
}
