-- What the functions promise that put an expression together of typed parts. The parts stand in the words by what the walk gives of
-- them: an answer with the statements that are numbered behind it.
use Rattle.std.specs.Prelude.{◌≡◌, true, List, Some}
use Rattle.ur_base.specs.Shape.{Shape, count}
use Rattle.ur_base.specs.declared.refusal.Refusal.{Refusal}
use Rattle.ur_base.specs.declared.refusal.Span.{Span}
use Rattle.ur_syntax.specs.declared.con.FieldName.{FieldName}
use Rattle.ur_syntax.specs.declared.exp.Binary.{Binary as Written}
use Rattle.ur_syntax.specs.declared.exp.Field.{Field}
use Rattle.ur_syntax.specs.declared.exp.Removed.{Removed}
use Rattle.ur_syntax.specs.declared.exp.ExpForm.{ExpForm, Row_of-Field, end_of-Exp as alone, more_of-Exp as its}
use Rattle.ur_syntax.specs.declared.exp.ExpForm.TheVariants as e
use Rattle.ur_rows.specs.declared.normal.Label.{Label}
use Rattle.ur_rows.specs.declared.normal.Part.{Part}
use Rattle.ur_tree.specs.declared.exp.Binary.{Binary}
use Rattle.ur_tree.specs.declared.exp.FieldExp.{FieldExp}
use Rattle.ur_tree.specs.Typing as typing
use Rattle.ur_typed_rules.specs.Repeats.{literal_names}
use Rattle.ur_typed_rules.specs.Rules.{label_at}
use Rattle.ur_typed_rules.specs.Scopes.{World, Scope, Mode, finds}
use Rattle.ur_typed.specs.Rules as rules
use Rattle.ur_typed.specs.Rules.{Sites, Walk}
use Rattle.ur_typed.specs.Walking.{typed, fields_walk}
use Rattle.ur_typed.specs.Causes.{Breaks}
use Rattle.ur_check_scopes.specs.declared.around.Around.{Around}
use Rattle.ur_check_scopes.specs.Views.{Stands, Refuses}
use Rattle.ur_check_rules.specs.declared.out.Out.{Out}
use Rattle.ur_check_rules.specs.declared.operators.Operation.{Operation}
use Rattle.ur_check_rules.specs.Views.{out_with, fields_with, operation_in}
use Rattle.ur_check_rules.specs.Written.{written_names}

-- the refusal tells a fault of the expression in this world and scope, behind these statements
abbrev pub TellsFault : Around → World → Scope → Sites → ExpForm → Mode → Refusal → Type 0
TellsFault a w s before x m r = Refuses a.world.now.datatype_names (Breaks a.world.now.datatype_names w s before x m) r

-- an operator between two sides
abbrev pub GivesSides : Around → Binary → Operation → (left right : Out) → Out → Type 0
GivesSides around op operation left right o = (w : World) (s : Scope) (before between after : Sites) (m : Mode) (a b : Walk) → Stands around w s
    → operation_in operation ≡ typing.operation op → a s before (rules.left_mode (typing.operation op) m) ≡ Some (out_with left between)
    → rules.left_may (typing.operation op) left.of ≡ true → b s between (rules.right_mode (typing.operation op) left.of) ≡ Some (out_with right after)
    → rules.sides_out op s before m a b ≡ Some (out_with o after)

abbrev pub TellsSides : Around → Binary → Operation → (left right : Out) → Refusal → Type 0
TellsSides around op operation left right r = (w : World) (s : Scope) (before between after : Sites) (m : Mode) (written : Written) (p q : Span) (x y : ExpForm)
    → Stands around w s → rules.operator_of written ≡ op → operation_in operation ≡ typing.operation op
    → typed w x s before (rules.left_mode (typing.operation op) m) ≡ Some (out_with left between)
    → typed w y s between (rules.right_mode (typing.operation op) left.of) ≡ Some (out_with right after)
    → TellsFault around w s before (e.Binary' written tt (its p x alone) tt (its q y alone)) m r

-- `show e`
abbrev pub TellsShow : Around → Out → Refusal → Type 0
TellsShow around out r = (w : World) (s : Scope) (before after : Sites) (m : Mode) (p : Span) (x : ExpForm)
    → typed w x s before finds ≡ Some (out_with out after) → TellsFault around w s before (e.Show' tt (its p x alone)) m r

-- a record
abbrev pub TellsRecord : Around → List Field → List Part → List FieldExp → Refusal → Type 0
TellsRecord around written parts fields r = (w : World) (s : Scope) (before after : Sites) (m : Mode) (q : Shape) (row : Row_of-Field (count q))
    → Stands around w s → literal_names row ≡ written_names written → fields_walk w row s before m ≡ Some (fields_with parts fields after)
    → TellsFault around w s before (e.Record' q row) m r

-- a projection
abbrev pub GivesProjection : Label → Out → Out → Type 0
GivesProjection label out o = (s : Scope) (before after : Sites) (f : FieldName) (a : Walk) → label ≡ label_at s f
    → a s before finds ≡ Some (out_with out after) → rules.project_out s before f a ≡ Some (out_with o after)

abbrev pub TellsProjection : Around → Label → Out → Refusal → Type 0
TellsProjection around label out r = (w : World) (s : Scope) (before after : Sites) (m : Mode) (p : Span) (x : ExpForm) (f : FieldName)
    → label ≡ label_at s f → typed w x s before finds ≡ Some (out_with out after) → TellsFault around w s before (e.Project' tt (its p x alone) f) m r

-- a record without a field
abbrev pub GivesCut : Label → Out → Out → Type 0
GivesCut label out o = (s : Scope) (before after : Sites) (f : FieldName) (a : Walk) → label ≡ label_at s f
    → a s before finds ≡ Some (out_with out after) → rules.cut_out s before f a ≡ Some (out_with o after)

abbrev pub TellsCut : Around → Label → Out → Refusal → Type 0
TellsCut around label out r = (w : World) (s : Scope) (before after : Sites) (m : Mode) (p : Span) (x : ExpForm) (c : Removed)
    → label ≡ label_at s c.name → typed w x s before finds ≡ Some (out_with out after) → TellsFault around w s before (e.Remove' tt (its p x alone) c) m r
