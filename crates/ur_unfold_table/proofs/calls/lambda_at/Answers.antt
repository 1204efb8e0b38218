use Rattle.std.proofs.Common.{List, ℕ, option_map, sym, ap, subst, ◌∙◌}
use Rattle.ur_unfold_static.specs.Lists.{written}
use Rattle.ur_unfold_static.specs.Scopes.{AreAt}
use Rattle.ur_unfold_pieces.proofs.Lists.{the_same}
use Rattle.ur_unfold_table.proofs.Applies.{lambda_applied}
use Rattle.ur_unfold_table.proofs.calls.lambda_at.Goals as goal

pub returns-in-Some : goal.returns-in-Some
returns-in-Some c = λ l cs fs at h g.
    lambda_applied c.args.closing.now c.in-Some.lambda (record { cons = c.in_ok-cons.cons; fixed = c.in_ok-fixed.fixed }) l cs fs (the_same (written c.in-Some.lambda) l (sym (ap (option_map written) c.in-Some.is) ∙ c.lambda.ensures ∙ at))
    (subst (λ (js : List ℕ). AreAt c.args.closing.now.cons js cs) (sym (c.in_ok-cons.ensures ∙ c.as_slice.ensures)) h)
    (subst (λ (js : List ℕ). AreAt c.args.closing.now.statics js fs) (sym (c.in_ok-fixed.ensures ∙ c.as_slice-2.ensures)) g)
