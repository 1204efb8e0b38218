use Rattle.std.proofs.Common.{◌≡◌, drop}
use Rattle.std.specs.List.{flat_map}
use Rattle.ur_sqltype.specs.Lists.{behind, all_of}
use Rattle.ur_sqltype.specs.Query.{named_field, named_form}
use Rattle.ur_sqltype_statements.proofs.fields.named_in.Given as goal

abbrev pub invariant-loop-i : goal.invariant-loop-i
invariant-loop-i l = all_of (named_field l.names l.within) (flat_map named_form l.items) ≡ behind l.fields (all_of (named_field l.names l.within) (flat_map named_form (drop l.i l.items)))
