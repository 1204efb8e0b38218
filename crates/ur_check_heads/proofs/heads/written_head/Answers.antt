use Rattle.std.proofs.Common.{◌≡◌, subst, Some}
use Rattle.ur_rows_normal.specs.Preparing.{Covers}
use Rattle.ur_check_scopes.proofs.Exits.{refused-exit}
use Rattle.ur_typed.specs.Declaring.{con_params_out}
use Rattle.ur_typed.specs.DeclFaults.{HasLargeSide, large_side}
use Rattle.ur_check_heads.specs.Views.{names_after}
use Rattle.ur_check_heads.proofs.heads.written_head.Goals as goal

pub returns-in_err-parameters-clause-refused : goal.returns-in_err-parameters-clause-refused
returns-in_err-parameters-clause-refused c =
    refused-exit c.from_residual.result c.in_err-parameters.field-0.0 c.from_residual.ensures.1 (λ r h. (h.0, λ known texts reads. large_side (subst (HasLargeSide 65536 known) c.as_slice.ensures (h.1 known reads)))) c.in_err-parameters.ensures.refused

pub returns-in_err-head-clause-refused : goal.returns-in_err-head-clause-refused
returns-in_err-head-clause-refused c =
    refused-exit c.from_residual-in_err-head.result c.in_err-head.field-0.0 c.from_residual-in_err-head.ensures.1
    (λ r h. (
      h.0,
      λ known texts reads.
          h.1 known texts (subst (λ ps. Covers c.in_ok-parameters.parameters.names c.args.place.now (names_after ps known).cons) c.as_slice.ensures (c.in_ok-parameters.ensures.names known reads))
          (subst (λ ps. con_params_out 65536 known ps ≡ Some (names_after ps known, c.in_ok-parameters.parameters.cons)) c.as_slice.ensures (c.in_ok-parameters.ensures.params known reads)),
    ))
    c.in_err-head.ensures.refused

pub returns-clause-head : goal.returns-clause-head
returns-clause-head c = λ known reads.
    c.in_ok-head.ensures.head known (subst (λ ps. Covers c.in_ok-parameters.parameters.names c.args.place.now (names_after ps known).cons) c.as_slice.ensures (c.in_ok-parameters.ensures.names known reads))
    (subst (λ ps. con_params_out 65536 known ps ≡ Some (names_after ps known, c.in_ok-parameters.parameters.cons)) c.as_slice.ensures (c.in_ok-parameters.ensures.params known reads))
