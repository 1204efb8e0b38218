use Rattle.std.proofs.Common.{◌≡◌, drop}
use Rattle.std.specs.List.{flat_map}
use Rattle.ur_sqltype.specs.Lists.{behind, all_of}
use Rattle.ur_values.specs.declared.schema.ColumnKind.TheVariants as kind
use Rattle.ur_sqltype.specs.Query.{of_kind, on_of}
use Rattle.ur_sqltype_statements.proofs.conditions.ons_of.Given as goal

abbrev pub invariant-loop-i : goal.invariant-loop-i
invariant-loop-i l = all_of (of_kind kind.Bool l.within) (flat_map on_of l.items) ≡ behind l.ons (all_of (of_kind kind.Bool l.within) (flat_map on_of (drop l.i l.items)))
