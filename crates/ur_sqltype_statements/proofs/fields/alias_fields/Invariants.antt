use Rattle.std.proofs.Common.{◌≡◌, ◌++◌, drop}
use Rattle.ur_sqltype.specs.Query.{alias_fields}
use Rattle.ur_sqltype_statements.proofs.fields.alias_fields.Given as goal

abbrev pub invariant-loop-i : goal.invariant-loop-i
invariant-loop-i l = l.fields ++ alias_fields l.names l.chosen l.i (drop l.i l.sources) ≡ alias_fields l.names l.chosen 0 l.sources
