use Rattle.std.proofs.Common.{subst, sym, ap, ◌∙◌}
use Rattle.ur_check_heads.specs.Forms.{AreRising}
use Rattle.ur_check_heads.proofs.Forming.{form-is, not-empty}
use Rattle.ur_check_heads.proofs.forms.form_in.Goals as goal

pub returns-then-are_rising : goal.returns-then-are_rising
returns-then-are_rising c =
    form-is c.args.names.now c.args.row.now c.in_ok-form.form (not-empty c.is_empty.result c.in_ok-form.form c.is_empty.ensures c.if-is_empty.false) (c.in_ok-ordered.ensures c.if-not-ordered.false) (c.in_ok-form.ensures.parts ∙ c.as_slice.ensures) c.in_ok-form.ensures.named
    (subst AreRising c.as_slice-2.ensures (c.are_rising.ensures.0 c.if-are_rising.true))
