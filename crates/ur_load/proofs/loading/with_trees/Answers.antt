-- Why the sources have no trees.
use Rattle.std.proofs.Common.{List, Option}
use Rattle.ur_syntax.specs.declared.decl.Module.{Module}
use Rattle.ur_syntax.specs.declared.decl.Signature.{Signature}
use Rattle.ur_load.specs.declared.loading.Spelled.{Spelled}
use Rattle.ur_load.proofs.Made.{modules_why, signature_why}
use Rattle.ur_load.proofs.loading.with_trees.Goals as goal

pub returns-in-Err-signature_tree-clause-refused : goal.returns-in-Err-signature_tree-clause-refused
returns-in-Err-signature_tree-clause-refused c =
    signature_why (Option Signature) Spelled c.args.sources c.in-Ok.modules c.in-Err-signature_tree.end (rw c.as_slice.ensures at c.in-Ok.ensures.trees) c.in-Err-signature_tree.ensures.refused

pub returns-in-Err-clause-refused : goal.returns-in-Err-clause-refused
returns-in-Err-clause-refused c = modules_why (List Module) Spelled c.args.sources c.in-Err.end (rw c.as_slice.ensures at c.in-Err.ensures.refused)
