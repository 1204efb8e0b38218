use Rattle.std.proofs.Common.{◌∙◌, ap₂, subst}
use Rattle.ur_rows_normal.specs.Preparing.{Covers}
use Rattle.ur_check_heads.specs.Views.{IsHeadScope, written_locals, names_after}
use Rattle.ur_check_heads.proofs.Binding.{body-is}
use Rattle.ur_check_heads.proofs.bodies.body_scope.Goals as goal

pub returns : goal.returns
returns c =
    body-is c.args.place.now c.args.function.now c.args.head.now _ (λ known reads. subst (λ ps. Covers c.in_ok-names.names c.args.place.now (names_after ps known).cons) c.as_slice.ensures (c.in_ok-names.ensures known reads))
    (subst (IsHeadScope c.in_ok-cons.cons) c.as_slice-2.ensures c.in_ok-cons.ensures) (c.in_ok-locals.ensures ∙ ap₂ written_locals c.as_slice-3.ensures c.as_slice-4.ensures)
