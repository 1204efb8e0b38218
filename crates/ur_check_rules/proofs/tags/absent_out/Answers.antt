use Rattle.std.proofs.Common.{ap, sym, ◌∙◌}
use Rattle.std.specs.Prelude.{codes}
use Rattle.std.specs.Option.{option_copied}
use Rattle.ur_syntax.specs.declared.exp.ExpForm.TheVariants as e
use Rattle.ur_typed.specs.Causes.{none}
use Rattle.ur_check_scopes.specs.Views.{mode_of}
use Rattle.ur_check_rules.proofs.Tagging.{absent-made, no-annotation, absent-told}
use Rattle.ur_check_rules.proofs.tags.absent_out.Goals as goal

pub returns-in-None-clause-refused : goal.returns-in-None-clause-refused
returns-in-None-clause-refused c = no-annotation c.args.around.now.world.now.datatype_names (e.Constructor (codes "None")) (codes "None") c.mismatch.result (mode_of (option_copied c.args.wanted)) (ap (λ z. mode_of (option_copied z)) c.in-None.is) none c.mismatch.ensures

pub returns-then-not-is_option-clause-refused : goal.returns-then-not-is_option-clause-refused
returns-then-not-is_option-clause-refused c = absent-told c.args.around.now.world.now.datatype_names c.in-Some.t.now c.not_wanted.result (mode_of (option_copied c.args.wanted)) (ap (λ z. mode_of (option_copied z)) c.in-Some.is) (sym c.is_option.ensures ∙ c.if-not-is_option.true) c.not_wanted.ensures

pub returns-in_ok-made-in-Some-clause-absent : goal.returns-in_ok-made-in-Some-clause-absent
returns-in_ok-made-in-Some-clause-absent c = absent-made c.in-Some.t.now c.in_ok-of-in-Some.of c.in_ok-at-in-Some.at (mode_of (option_copied c.args.wanted)) c.in_ok-made-in-Some.made (ap (λ z. mode_of (option_copied z)) c.in-Some.is) (sym c.is_option.ensures ∙ c.if-not-is_option.false) c.in_ok-of-in-Some.ensures c.in_ok-at-in-Some.ensures c.in_ok-made-in-Some.ensures
