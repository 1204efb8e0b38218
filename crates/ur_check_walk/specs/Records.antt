-- What is told of the fields of a record.
use Rattle.std.specs.Prelude.{◌≡◌, ℕ, true, false, List, [], ◌∷◌, ◌++◌, Some, codes}
use Rattle.ur_base.specs.Shape.{Shape, count}
use Rattle.ur_base.specs.declared.refusal.Refusal.{Refusal}
use Rattle.ur_syntax.specs.declared.con.FieldName.{FieldName}
use Rattle.ur_syntax.specs.declared.exp.Field.{Field}
use Rattle.ur_syntax.specs.declared.exp.ExpForm.{ExpForm, Row_of-Field, end_of-Field}
use Rattle.ur_syntax.specs.declared.exp.ExpForm.TheVariants as e
use Rattle.ur_rows.specs.declared.normal.Label.{Label}
use Rattle.ur_rows.specs.Kinded.{label_is_in}
use Rattle.ur_rows.specs.Types.{field}
use Rattle.ur_tree.specs.Env.{variables}
use Rattle.ur_typed_rules.specs.Scopes.{World, Scope, Mode, of_field}
use Rattle.ur_typed_rules.specs.Faults.{Fault, unkinded}
use Rattle.ur_typed_rules.specs.Rules.{label_at}
use Rattle.ur_typed.specs.Causes.{HasFault}
use Rattle.ur_typed.specs.Rules.{Sites}
use Rattle.ur_typed.specs.Walking.{typed, fields_walk}
use Rattle.ur_check_scopes.specs.declared.around.Around.{Around}
use Rattle.ur_check_scopes.specs.Views.{Stands, Refuses}
use Rattle.ur_check_rules.specs.declared.out.Out.{Out as HeldOut}
use Rattle.ur_check_rules.specs.declared.out.Sites.{Sites as HeldSites}
use Rattle.ur_check_rules.specs.Views.{sites_in, out_in, fields_with}
use Rattle.ur_check_walk.specs.declared.fields.Fields.{Fields as HeldFields}

-- the fields of a record
abbrev pub row_in : ExpForm → (q : Shape) × Row_of-Field (count q)
row_in (e.Record' q row) = (q, row)
row_in _ = ([], end_of-Field)

-- the name of a field is no name in its scope
pub data BreaksLabel (s : Scope) (f : FieldName) : Fault → Type 0 where
  stray : label_is_in (variables s.env) (label_at s f) ≡ false → BreaksLabel s f (unkinded (codes "another kind") (codes "Name"))

-- a field whose name is none in scope, or whose value has a fault
pub data FieldHasFault (names : List (List ℕ)) (w : World) (s : Scope) (st : Sites) (f : Field) (m : Mode) (r : Refusal) : Type 0 where
  bad_name : Refuses names (BreaksLabel s f.name) r → FieldHasFault names w s st f m r
  bad_value : label_is_in (variables s.env) (label_at s f.name) ≡ true → HasFault names w s st f.value.form (of_field (label_at s f.name) m) r → FieldHasFault names w s st f m r

abbrev pub TellsField : Around → HeldSites → Field → Mode → Refusal → Type 0
TellsField a before f m r = (w : World) (s : Scope) → Stands a w s → FieldHasFault a.world.now.datatype_names w s (sites_in before) f m r

-- the fields with one more
pub record TakesField (a : Around) (before : HeldSites) (f : Field) (m : Mode) (fields more : HeldFields) (after : HeldSites) : Type 0 where
  pub label : Label
  pub out : HeldOut
  pub parts : more.parts ≡ fields.parts ++ field label out.of ∷ []
  pub values : more.values ≡ fields.values ++ record { name = label; of = out.exp } ∷ []
  pub named : (w : World) (s : Scope) → Stands a w s → label ≡ label_at s f.name
  pub scoped : (w : World) (s : Scope) → Stands a w s → label_is_in (variables s.env) (label_at s f.name) ≡ true
  pub value : (w : World) (s : Scope) → Stands a w s → typed w f.value.form s (sites_in before) (of_field (label_at s f.name) m) ≡ Some (out_in out after)

-- the fields of a record with their types
abbrev pub GivesFields : Around → HeldSites → List Field → Mode → HeldFields → HeldSites → Type 0
GivesFields a before fs m held after = (w : World) (s : Scope) → Stands a w s → fields_walk w (row_in (e.Record fs)).1 s (sites_in before) m ≡ Some (fields_with held.parts held.values (sites_in after))
