use Rattle.std.proofs.Common.{refl, ap, ◌∙◌, arith}
use Rattle.ur_values.specs.declared.value.Value.TheVariants as v
use Rattle.ur_terms.specs.declared.term.Pattern.TheVariants as p
use Rattle.ur_terms.specs.Run.{first_and_rest}
use Rattle.ur_machine_operations.proofs.Opened.{matched-Cons}
use Rattle.ur_emit.proofs.Forms.{no_items}
use Rattle.ur_emit.proofs.Matching.{bound_two}
use Rattle.ur_emit.proofs.binding.bind_items.Goals as goal

pub returns-in_ok-push-in-Some-2 : goal.returns-in_ok-push-in-Some-2
returns-in_ok-push-in-Some-2 c =
    bound_two p.Cons (v.Many c.args.items.now) c.in-Some.first.now c.in-Some.rest.now c.in-Some.first c.in-Some.rest c.args.slots.now c.push.new.self
    c.push-in-Some.new.self refl refl
    c.in_ok-push-in-Some.ensures.ok c.in_ok-push-in-Some-2.ensures.ok (matched-Cons c.args.items.now ∙ ap first_and_rest c.in-Some.ensures.cases.0)

pub returns-in-None : goal.returns-in-None
returns-in-None c = (matched-Cons c.args.items.now ∙ ap first_and_rest (no_items c.args.items.now (omega (arith, c.in-None.ensures.cases))), refl)
