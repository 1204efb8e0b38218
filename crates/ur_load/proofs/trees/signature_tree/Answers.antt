-- The signature's tree, or why it has none.
use Rattle.std.proofs.Common.{Option}
use Rattle.ur_syntax.specs.declared.decl.Signature.{Signature}
use Rattle.ur_load.proofs.Reading.{signature_refused, no_fault_in}
use Rattle.ur_load.proofs.trees.signature_tree.Goals as goal

pub returns-in-Err-clause-refused : goal.returns-in-Err-clause-refused
returns-in-Err-clause-refused c =
    rw c.in-Some.is (signature_refused Signature (Option Signature) c.in-Some.source c.in-Err.stop c.refused_at.result c.in-Err.ensures.refused c.refused_at.ensures)

pub returns-in-Err-clause-no_shelf : goal.returns-in-Err-clause-no_shelf
returns-in-Err-clause-no_shelf c = no_fault_in (Option Signature) _ c.in-Some.source c.in-Err.stop c.refused_at.result c.refused_at.ensures
