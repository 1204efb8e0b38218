-- What the code holds of an answer, as the definitions of typing see it.
use Rattle.std.specs.Prelude.{List, [], ◌∷◌}
use Rattle.ur_rows.specs.declared.normal.Part.{Part}
use Rattle.ur_rows.specs.Order.{with_part}
use Rattle.ur_tree.specs.Scalars.{is_basic, is_ordered}
use Rattle.ur_tree.specs.declared.exp.Exp.{Exp}
use Rattle.ur_tree.specs.declared.exp.Exp.TheBlock.{end_of-Branch, more_of-Branch, end_of-FieldExp, more_of-FieldExp}
use Rattle.ur_tree.specs.declared.exp.FieldExp.{FieldExp}
use Rattle.ur_tree.specs.declared.exp.Branch.{Branch}
use Rattle.ur_tree.specs.Typing.{Operation, of_two, compares, conses, joins}
use Rattle.ur_typed.specs.Rules.{Sites, Out, Args, no_args, with_arg, ResolvedBranches, ResolvedFields, Fields}
use Rattle.ur_check_rules.specs.declared.out.Out.{Out as HeldOut}
use Rattle.ur_check_rules.specs.declared.out.Sites.{Sites as HeldSites}
use Rattle.ur_check_rules.specs.declared.operators.Operation.{Operation as HeldOperation}
use Rattle.ur_check_rules.specs.declared.operators.Operation.TheVariants as op

abbrev pub sites_in : HeldSites → Sites
sites_in st = record { queries = st.queries; changes = st.changes }

-- an answer with the statements that are numbered behind it
abbrev pub out_with : HeldOut → Sites → Out
out_with o st = record { of = o.of; exp = o.exp; sites = st }

abbrev pub out_in : HeldOut → HeldSites → Out
out_in o st = out_with o (sites_in st)

-- what an operator asks of its sides
abbrev pub operation_in : HeldOperation → Operation
operation_in (op.OfTwo u v) = of_two u v
operation_in op.Equates = compares is_basic
operation_in op.Orders = compares is_ordered
operation_in op.Conses = conses
operation_in op.Joins = joins

-- ---- lists of expressions, as they stand in a tree

abbrev pub args_with : List Exp → Args
args_with [] = no_args
args_with (x ∷ xs) = with_arg x (args_with xs)

abbrev pub exps_with : List FieldExp → ResolvedFields
exps_with [] = ([], end_of-FieldExp)
exps_with (f ∷ fs) = (tt ∷ (exps_with fs).0, more_of-FieldExp f.name f.of (exps_with fs).1)

abbrev pub branches_with : List Branch → ResolvedBranches
branches_with [] = ([], end_of-Branch)
branches_with (b ∷ bs) = (tt ∷ (branches_with bs).0, more_of-Branch b.pattern b.body (branches_with bs).1)

-- the row of parts that come in any order
abbrev pub row_with : List Part → List Part
row_with [] = []
row_with (p ∷ ps) = with_part p (row_with ps)

-- the fields of a record with their types, in written order
abbrev pub fields_with : List Part → List FieldExp → Sites → Fields
fields_with parts fields st = record { row = row_with parts; exps = exps_with fields; sites = st }
