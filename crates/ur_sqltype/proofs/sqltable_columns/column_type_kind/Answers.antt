use Rattle.std.proofs.Common.{◌∙◌, ap, sym}
use Rattle.std.specs.Prelude.{option_and_then}
use Rattle.ur_values.specs.Kinds.{optional}
use Rattle.ur_rows.proofs.Shapes.{option-made}
use Rattle.ur_sqltype.specs.Table.{type_kind, column_type_kind}
use Rattle.ur_sqltype.proofs.sqltable_columns.column_type_kind.Goals as goal

pub returns-in-Opt : goal.returns-in-Opt
returns-in-Opt c =
    c.option_kind.ensures ∙ ap (λ t. option_and_then optional (type_kind t)) c.get.ensures ∙ sym
    (ap column_type_kind (c.in-Opt.is ∙ option-made c.in-Opt.t))
