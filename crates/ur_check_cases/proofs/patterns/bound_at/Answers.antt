use Rattle.std.proofs.Common.{◌≡◌, ap, sym, ◌∙◌, None}
use Rattle.ur_typed_rules.specs.Patterns.{of_another}
use Rattle.ur_check_scopes.specs.Views.{declared_in}
use Rattle.ur_check_cases.specs.Binding.{names_of, bound_as}
use Rattle.ur_check_cases.proofs.Telling.{other-says}
use Rattle.ur_check_cases.proofs.patterns.bound_at.Goals as goal

pub returns-in-Some-clause-locals : goal.returns-in-Some-clause-locals
returns-in-Some-clause-locals c = ap (bound_as (declared_in c.args.world.now) c.args.of.now c.args.pattern.now) (sym (c.as_slice.ensures ∙ c.in_ok-names.ensures)) ∙ sym c.in_ok-bound.ensures ∙ c.in-Some.is

pub returns-clause-refused : goal.returns-clause-refused
returns-clause-refused c = other-says c.args.world.now.datatype_names c.other_pattern.result (of_another c.args.world.now.datatype_names c.args.of.now) (bound_as (declared_in c.args.world.now) c.args.of.now c.args.pattern.now (names_of c.args.pat.now.form) ≡ None) (ap (bound_as (declared_in c.args.world.now) c.args.of.now c.args.pattern.now) (sym (c.as_slice.ensures ∙ c.in_ok-names.ensures)) ∙ sym c.in_ok-bound.ensures ∙ c.in-None.is) c.other_pattern.ensures
