-- The cause, in the file of its place.
use Rattle.ur_compile.proofs.Refusing.{cause_refused}
use Rattle.ur_compile.proofs.compiling.typed_of.Goals as goal

pub returns-in-Err-clause-refused : goal.returns-in-Err-clause-refused
returns-in-Err-clause-refused c =
    cause_refused c.args.loaded.now c.as_slice-names.result.now c.as_slice-modules.result.now _ c.file_at-file.result.now c.file_number.result c.in-Err.stop c.stopped_in.result c.as_slice-names.ensures c.as_slice-modules.ensures
    c.as_ref.ensures.value c.file_number.ensures c.file_at-file.ensures c.stopped_in.ensures c.in-Err.ensures.refused
