use Rattle.std.proofs.Common.{◌≡◌, drop}
use Rattle.ur_kinds.specs.Walk.{scope_of}
use Rattle.ur_kinds.proofs.Walking.{unknown_fields, unknown_record}
use Rattle.ur_kinds.proofs.name_walk.+naming.Given as goal

-- the first unknown name is that of the fields that are left
abbrev pub invariant-fields_known-loop-i : goal.invariant-fields_known-loop-i
invariant-fields_known-loop-i l = unknown_fields (scope_of l.names) l.fields ≡ unknown_fields (scope_of l.names) (drop l.i l.fields)

abbrev pub invariant-record_known-loop-i : goal.invariant-record_known-loop-i
invariant-record_known-loop-i l = unknown_record (scope_of l.names) l.fields ≡ unknown_record (scope_of l.names) (drop l.i l.fields)
