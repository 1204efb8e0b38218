-- The text of a type at the plain constructors, one equation for each that holds others.
use Rattle.std.proofs.Common.{◌≡◌, ◌∙◌, ◌++◌, List, [], ◌∷◌, codes, refl, ap}
use Rattle.ur_rows.specs.declared.normal.Var.{Var}
use Rattle.ur_rows.specs.declared.normal.Label.{Label}
use Rattle.ur_rows.specs.declared.normal.NormalType.{NormalType}
use Rattle.ur_rows.specs.declared.normal.NormalType.TheVariants as ty
use Rattle.ur_rows.specs.declared.normal.Part.{Part}
use Rattle.ur_rows.specs.declared.normal.Part.TheVariants as part
use Rattle.ur_rows.specs.Made.{row}
use Rattle.ur_rows.proofs.Shapes.{option-made, list-made, transaction-made, arrow-made, record-made, form-made, field-made, mapped-made}
use Rattle.ur_tree.specs.Text.{Names, var_text, label_text, wrapped, type_text, parts_text, part_text, inner_text}

pub type_text-Opt : (names : Names) (t : NormalType) → type_text names (ty.Opt t) ≡ codes "option " ++ wrapped (type_text names t)
type_text-Opt names t = ap (type_text names) (option-made t)

pub type_text-Many : (names : Names) (t : NormalType) → type_text names (ty.Many t) ≡ codes "list " ++ wrapped (type_text names t)
type_text-Many names t = ap (type_text names) (list-made t)

pub type_text-Transaction : (names : Names) (t : NormalType) → type_text names (ty.Transaction t) ≡ codes "transaction " ++ wrapped (type_text names t)
type_text-Transaction names t = ap (type_text names) (transaction-made t)

pub type_text-Arrow : (names : Names) (a b : NormalType) → type_text names (ty.Arrow a b) ≡ wrapped (type_text names a) ++ (codes " -> " ++ wrapped (type_text names b))
type_text-Arrow names a b = ap (type_text names) (arrow-made a b)

-- a row that stands in a type is the list of its parts
row_is : (names : Names) (r : List Part) → parts_text names (row r).1 ≡ inner_text names r
row_is names [] = refl
row_is names (p ∷ r) = ap (λ text. part_text names p ++ (codes "; " ++ text)) (row_is names r)

pub type_text-Record : (names : Names) (r : List Part) → type_text names (ty.Record r) ≡ codes "$[" ++ inner_text names r
type_text-Record names r = ap (type_text names) (record-made r) ∙ ap (λ text. codes "$[" ++ text) (row_is names r)

pub type_text-Form : (names : Names) (r : List Part) → type_text names (ty.Form r) ≡ codes "xml form [] [" ++ inner_text names r
type_text-Form names r = ap (type_text names) (form-made r) ∙ ap (λ text. codes "xml form [] [" ++ text) (row_is names r)

pub part_text-Field : (names : Names) (l : Label) (t : NormalType) → part_text names (part.Field l t) ≡ label_text l ++ (codes " = " ++ wrapped (type_text names t))
part_text-Field names l t = ap (part_text names) (field-made l t)

pub part_text-Mapped : (names : Names) (v : Var) (f : NormalType) → part_text names (part.Mapped v f) ≡ codes "map " ++ (wrapped (type_text names f) ++ (codes " " ++ var_text v))
part_text-Mapped names v f = ap (part_text names) (mapped-made v f)

pub ruleset types = (type_text-Opt, type_text-Many, type_text-Transaction, type_text-Arrow, type_text-Record, type_text-Form)

pub ruleset parts = (part_text-Field, part_text-Mapped)
