use Rattle.ur_check_scopes.proofs.Exits.{refused-exit}
use Rattle.ur_typed.specs.DeclFaults.{large_left, large_right}
use Rattle.ur_check_heads.proofs.heads.sides.Goals as goal

pub returns-in_err-left-clause-refused : goal.returns-in_err-left-clause-refused
returns-in_err-left-clause-refused c =
    refused-exit c.from_residual.result c.in_err-left.field-0.0 c.from_residual.ensures.1 (λ r h. (h.0, λ known reads. large_left (h.1 known.cons reads))) c.in_err-left.ensures.refused

pub returns-in_err-right-clause-refused : goal.returns-in_err-right-clause-refused
returns-in_err-right-clause-refused c =
    refused-exit c.from_residual-in_err-right.result c.in_err-right.field-0.0 c.from_residual-in_err-right.ensures.1 (λ r h. (h.0, λ known reads. large_right (h.1 known.cons reads))) c.in_err-right.ensures.refused
