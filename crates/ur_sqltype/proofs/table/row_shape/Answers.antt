use Rattle.std.proofs.Common.{◌≡◌, ◌∙◌, sym, ap, subst, Some, None, map, bytes_eq, All}
use Rattle.ur_sqltype.specs.Lists.{all_of, repeated}
use Rattle.ur_sqltype.specs.Table.{key_of, HasNoOption}
use Rattle.ur_sqltype.specs.SqltableFaults.{column_twice, in_keys, KeysBreak}
use Rattle.ur_sqltype.proofs.Exits.{refused-exit}
use Rattle.ur_sqltype.proofs.Once.{distinct}
use Rattle.ur_sqltype.proofs.table.row_shape.Goals as goal

pub returns-in-Some-clause-refused : goal.returns-in-Some-clause-refused
returns-in-Some-clause-refused c =
    column_twice c.in_ok-columns.columns c.in-Some.a.now c.in_ok-columns.ensures.columns (ap (λ cs. repeated bytes_eq (map (λ c. c.0) cs)) (sym c.as_slice.ensures) ∙ c.in-Some.ensures) c.in_ok-twice-in-Some.ensures

pub returns-in_err-made-clause-refused : goal.returns-in_err-made-clause-refused
returns-in_err-made-clause-refused c =
    refused-exit c.from_residual-in_err-made.result c.in_err-made.field-0.0 c.from_residual-in_err-made.ensures.1
    (λ r k. in_keys c.in_ok-columns.columns c.in_ok-columns.ensures.columns (subst (λ z. KeysBreak z c.args.keys.now r) c.as_slice-2.ensures k)) c.in_err-made.ensures.refused

pub returns-clause-shape : goal.returns-clause-shape
returns-clause-shape c = record {
  named = c.in_ok-name.ensures ∙ c.as_bytes.ensures.value;
  columns = c.in_ok-columns.ensures.columns;
  distinct = distinct bytes_eq (map (λ c. c.0) c.in_ok-columns.columns) (ap (λ cs. repeated bytes_eq (map (λ c. c.0) cs)) (sym c.as_slice.ensures) ∙ c.in-None.ensures);
  are_keys = ap (λ cs. all_of (key_of cs) c.args.keys.now) (sym c.as_slice-2.ensures) ∙ c.in_ok-made.ensures.places;
  once = c.in_ok-made.ensures.once;
  plain_keys = subst (λ cs. All (HasNoOption cs) c.in_ok-made.made) c.as_slice-2.ensures c.in_ok-made.ensures.plain;
  primary = c.has_primary.ensures;
}
