-- Which functions have a method behind the links and actions of a part of the source.
use Rattle.std.specs.Prelude.{List, [], ◌∷◌, Option, Some, None}
use Rattle.ur_tree.specs.declared.exp.Exp.{Exp}
use Rattle.ur_tree.specs.declared.exp.Branch.{Branch}
use Rattle.ur_tree.specs.declared.exp.FieldExp.{FieldExp}
use Rattle.ur_tree.specs.declared.exp.Markup.{Markup}
use Rattle.ur_tree.specs.Occurrences.{Occurrence, occurrences, part_occurrences}
use Rattle.ur_check_heads.specs.declared.aims.Aims.{Aims}
use Rattle.ur_check_heads.specs.Aims.{aimed_by}

-- one part after another
abbrev pub each_by : {A : Type 0} → (A → List Occurrence) → List A → Aims → Aims
each_by f [] a = a
each_by f (x ∷ xs) a = each_by f xs (aimed_by (f x) a)

unfoldable pub exp_aims : Exp → Aims → Aims
exp_aims e a = aimed_by (occurrences e) a

unfoldable pub exps_aim : List Exp → Aims → Aims
exps_aim es a = each_by occurrences es a

unfoldable pub held_aims : Option Exp → Aims → Aims
held_aims None a = a
held_aims (Some e) a = aimed_by (occurrences e) a

unfoldable pub field_aims : FieldExp → Aims → Aims
field_aims f a = aimed_by (occurrences f.of) a

unfoldable pub fields_aim : List FieldExp → Aims → Aims
fields_aim fs a = each_by (λ f. occurrences f.of) fs a

unfoldable pub branch_aims : Branch → Aims → Aims
branch_aims b a = aimed_by (occurrences b.body) a

unfoldable pub branches_aim : List Branch → Aims → Aims
branches_aim bs a = each_by (λ b. occurrences b.body) bs a

unfoldable pub part_aims : Markup → Aims → Aims
part_aims m a = aimed_by (part_occurrences m) a

unfoldable pub parts_aim : List Markup → Aims → Aims
parts_aim ms a = each_by part_occurrences ms a
