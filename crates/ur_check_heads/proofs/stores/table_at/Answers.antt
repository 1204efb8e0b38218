use Rattle.std.proofs.Common.{sym, ◌∙◌}
use Rattle.ur_typed_rules.specs.Faults.{too_large}
use Rattle.ur_check_scopes.proofs.Exits.{refused-exit}
use Rattle.ur_typed.specs.DeclFaults.{large_table}
use Rattle.ur_check_heads.proofs.Seeing.{full-seen}
use Rattle.ur_check_heads.proofs.Storing.{table-breaks, table-shape}
use Rattle.ur_check_heads.proofs.stores.table_at.Goals as goal

pub returns-in_err-of-clause-refused : goal.returns-in_err-of-clause-refused
returns-in_err-of-clause-refused c =
    refused-exit c.from_residual.result c.in_err-of.field-0.0 c.from_residual.ensures.1 (λ r h home z s primary cs e. (too_large, large_table (h.1 home z s), h.0)) c.in_err-of.ensures.refused

pub returns-in_err-shape-clause-refused : goal.returns-in_err-shape-clause-refused
returns-in_err-shape-clause-refused c =
    refused-exit c.from_residual-in_err-shape.result c.in_err-shape.field-0.0 c.from_residual-in_err-shape.ensures.1
    (λ r h home z s primary cs e. table-breaks c.args.project.now home z c.args.con.now c.in_ok-of.of c.args.keys.now primary cs r s (c.in_ok-of.ensures.of home z s) e h) c.in_err-shape.ensures.refused

pub returns-clause-shape : goal.returns-clause-shape
returns-clause-shape c = λ home z s.
    table-shape z c.args.name.now c.as_slice.result.now c.args.keys.now c.args.con.now c.in_ok-of.of c.in_ok-shape.shape (c.in_ok-of.ensures.of home z s)
    (c.as_slice.ensures ∙ c.in_ok-full.ensures ∙ sym (full-seen c.args.project.now home z c.args.name.now s)) c.in_ok-shape.ensures.shape
