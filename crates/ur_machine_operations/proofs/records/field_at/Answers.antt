use Rattle.std.proofs.Common.{sym}
use Rattle.ur_machine_operations.proofs.Fields.{found_field, no_field, is_within}
use Rattle.ur_machine_operations.proofs.records.field_at.Goals as goal

pub remove-requires : goal.remove-requires
remove-requires c = is_within _ c.args.fields c.in-Some.place (sym c.in-Some.ensures)

pub returns-in-Some : goal.returns-in-Some
returns-in-Some c = sym (found_field c.args.name c.args.fields c.in-Some.place c.remove.result (sym c.in-Some.ensures) c.remove.ensures.element)

pub returns : goal.returns
returns c = sym (no_field c.args.name c.args.fields (sym c.in-None.ensures))
