-- What stands in the types that the code makes.
use Rattle.std.proofs.Common.{◌≡◌, refl, ap, ap₂, sym, ◌∙◌, ℕ, ◌+◌, ◌<◌, Bool, true, false, not, ◌&&◌, ◌||◌, List, [], ◌∷◌, length, drop, get_or}
use Rattle.ur_rows.specs.declared.normal.Var.{Var}
use Rattle.ur_rows.specs.declared.normal.Label.{Label}
use Rattle.ur_rows.specs.declared.normal.NormalType.{NormalType}
use Rattle.ur_rows.specs.declared.normal.NormalType.TheVariants as ty
use Rattle.ur_rows.specs.declared.normal.Part.{Part}
use Rattle.ur_rows.specs.declared.normal.Part.TheVariants as part
use Rattle.ur_rows.specs.Made.{row, record_of}
use Rattle.ur_rows.specs.Types.{holds_arrow, parts_hold_arrow, part_holds_arrow, is_placed, may_run, parts_placed, part_placed, is_value_type}
use Rattle.ur_rows.proofs.Shapes.{option-made, list-made, transaction-made, arrow-made, field-made, mapped-made, record-made, form-made}
use Rattle.ur_rows.proofs.Telling.{drop-here}
use Rattle.ur_rows_normal.specs.Standing.{row_holds_arrow, row_is_placed}

or-none : (b : Bool) → (b || false) ≡ b
or-none true = refl
or-none false = refl

and-all : (b : Bool) → (b && true) ≡ b
and-all true = refl
and-all false = refl

-- ---- arrows

pub arrow-opt : (t : NormalType) → holds_arrow (ty.Opt t) ≡ holds_arrow t
arrow-opt t = ap holds_arrow (option-made t) ∙ or-none (holds_arrow t)

pub arrow-many : (t : NormalType) → holds_arrow (ty.Many t) ≡ holds_arrow t
arrow-many t = ap holds_arrow (list-made t) ∙ or-none (holds_arrow t)

pub arrow-transaction : (t : NormalType) → holds_arrow (ty.Transaction t) ≡ holds_arrow t
arrow-transaction t = ap holds_arrow (transaction-made t) ∙ or-none (holds_arrow t)

pub arrow-arrow : (a b : NormalType) → holds_arrow (ty.Arrow a b) ≡ true
arrow-arrow a b = ap holds_arrow (arrow-made a b)

arrow-parts : (r : List Part) → parts_hold_arrow (row r).1 ≡ row_holds_arrow r
arrow-parts [] = refl
arrow-parts (p ∷ r) = ap (λ b. part_holds_arrow p || b) (arrow-parts r)

pub arrow-record : (r : List Part) → holds_arrow (ty.Record r) ≡ row_holds_arrow r
arrow-record r = ap holds_arrow (record-made r) ∙ arrow-parts r

pub arrow-form : (r : List Part) → holds_arrow (ty.Form r) ≡ row_holds_arrow r
arrow-form r = ap holds_arrow (form-made r) ∙ arrow-parts r

pub arrow-field : (l : Label) (t : NormalType) → part_holds_arrow (part.Field l t) ≡ holds_arrow t
arrow-field l t = ap part_holds_arrow (field-made l t) ∙ or-none (holds_arrow t)

pub arrow-mapped : (v : Var) (f : NormalType) → part_holds_arrow (part.Mapped v f) ≡ holds_arrow f
arrow-mapped v f = ap part_holds_arrow (mapped-made v f) ∙ or-none (holds_arrow f)

pub arrow-here : (r : List Part) (i : ℕ) (p : Part) → i < length r → p ≡ get_or r i p → row_holds_arrow (drop i r) ≡ (part_holds_arrow p || row_holds_arrow (drop (i + 1) r))
arrow-here r i p h e = ap row_holds_arrow (drop-here r i p h e)

pub ruleset arrows = (arrow-opt, arrow-many, arrow-transaction, arrow-arrow, arrow-record, arrow-form, arrow-field, arrow-mapped, arrow-here)

pub field-arrow : (p : Part) (l : Label) (t x : NormalType) (b : Bool) → p ≡ part.Field l t → x ≡ t → b ≡ holds_arrow x → b ≡ part_holds_arrow p
field-arrow p l t x b i j k = k ∙ ap holds_arrow j ∙ sym (ap part_holds_arrow i ∙ arrow-field l t)

pub map-arrow : (p : Part) (v : Var) (f x : NormalType) (b : Bool) → p ≡ part.Mapped v f → x ≡ f → b ≡ holds_arrow x → b ≡ part_holds_arrow p
map-arrow p v f x b i j k = k ∙ ap holds_arrow j ∙ sym (ap part_holds_arrow i ∙ arrow-mapped v f)

-- ---- `transaction`

pub placed-opt : (t : NormalType) → is_placed (ty.Opt t) ≡ is_placed t
placed-opt t = ap is_placed (option-made t) ∙ and-all (is_placed t)

pub placed-many : (t : NormalType) → is_placed (ty.Many t) ≡ is_placed t
placed-many t = ap is_placed (list-made t) ∙ and-all (is_placed t)

pub placed-transaction : (t : NormalType) → is_placed (ty.Transaction t) ≡ false
placed-transaction t = ap is_placed (transaction-made t)

pub placed-arrow : (a b : NormalType) → is_placed (ty.Arrow a b) ≡ (is_placed a && may_run b)
placed-arrow a b = ap is_placed (arrow-made a b) ∙ ap₂ (λ x y. x && y) (and-all (is_placed a)) (and-all (may_run b))

placed-parts : (r : List Part) → parts_placed (row r).1 ≡ row_is_placed r
placed-parts [] = refl
placed-parts (p ∷ r) = ap (λ b. part_placed p && b) (placed-parts r)

pub placed-record : (r : List Part) → is_placed (ty.Record r) ≡ row_is_placed r
placed-record r = ap is_placed (record-made r) ∙ placed-parts r

pub placed-form : (r : List Part) → is_placed (ty.Form r) ≡ row_is_placed r
placed-form r = ap is_placed (form-made r) ∙ placed-parts r

pub placed-field : (l : Label) (t : NormalType) → part_placed (part.Field l t) ≡ is_placed t
placed-field l t = ap part_placed (field-made l t) ∙ and-all (is_placed t)

pub placed-mapped : (v : Var) (f : NormalType) → part_placed (part.Mapped v f) ≡ is_placed f
placed-mapped v f = ap part_placed (mapped-made v f) ∙ and-all (is_placed f)

pub placed-here : (r : List Part) (i : ℕ) (p : Part) → i < length r → p ≡ get_or r i p → row_is_placed (drop i r) ≡ (part_placed p && row_is_placed (drop (i + 1) r))
placed-here r i p h e = ap row_is_placed (drop-here r i p h e)

pub runs-opt : (t : NormalType) → may_run (ty.Opt t) ≡ is_placed t
runs-opt t = ap may_run (option-made t) ∙ and-all (is_placed t)

pub runs-many : (t : NormalType) → may_run (ty.Many t) ≡ is_placed t
runs-many t = ap may_run (list-made t) ∙ and-all (is_placed t)

pub runs-transaction : (t : NormalType) → may_run (ty.Transaction t) ≡ is_placed t
runs-transaction t = ap may_run (transaction-made t) ∙ and-all (is_placed t)

pub runs-arrow : (a b : NormalType) → may_run (ty.Arrow a b) ≡ (is_placed a && may_run b)
runs-arrow a b = ap may_run (arrow-made a b) ∙ ap₂ (λ x y. x && y) (and-all (is_placed a)) (and-all (may_run b))

pub runs-record : (r : List Part) → may_run (ty.Record r) ≡ row_is_placed r
runs-record r = ap may_run (record-made r) ∙ placed-parts r

pub runs-form : (r : List Part) → may_run (ty.Form r) ≡ row_is_placed r
runs-form r = ap may_run (form-made r) ∙ placed-parts r

pub ruleset places = (placed-opt, placed-many, placed-transaction, placed-arrow, placed-record, placed-form, placed-field, placed-mapped, placed-here, runs-opt, runs-many, runs-transaction, runs-arrow, runs-record, runs-form)

pub field-placed : (p : Part) (l : Label) (t x : NormalType) (b : Bool) → p ≡ part.Field l t → x ≡ t → b ≡ is_placed x → b ≡ part_placed p
field-placed p l t x b i j k = k ∙ ap is_placed j ∙ sym (ap part_placed i ∙ placed-field l t)

pub map-placed : (p : Part) (v : Var) (f x : NormalType) (b : Bool) → p ≡ part.Mapped v f → x ≡ f → b ≡ is_placed x → b ≡ part_placed p
map-placed p v f x b i j k = k ∙ ap is_placed j ∙ sym (ap part_placed i ∙ placed-mapped v f)

-- what a function gives, where what it takes is placed
result-of : (a b x y : NormalType) (c d : Bool) → x ≡ a → c ≡ is_placed x → c ≡ true → y ≡ b → d ≡ may_run y → d ≡ (is_placed a && may_run b)
result-of a b x y c d j g h l m = m ∙ ap may_run l ∙ ap (λ z. z && may_run b) (sym (sym (ap is_placed j) ∙ sym g ∙ h))

pub placed-result : (t a b x y : NormalType) (c d : Bool) → t ≡ ty.Arrow a b → x ≡ a → c ≡ is_placed x → c ≡ true → y ≡ b → d ≡ may_run y → d ≡ is_placed t
placed-result t a b x y c d i j g h l m = result-of a b x y c d j g h l m ∙ sym (ap is_placed i ∙ placed-arrow a b)

pub runs-result : (t a b x y : NormalType) (c d : Bool) → t ≡ ty.Arrow a b → x ≡ a → c ≡ is_placed x → c ≡ true → y ≡ b → d ≡ may_run y → d ≡ may_run t
runs-result t a b x y c d i j g h l m = result-of a b x y c d j g h l m ∙ sym (ap may_run i ∙ runs-arrow a b)

-- ---- the record of a row

pub value-record : (r : List Part) → is_value_type (record_of r) ≡ (row_is_placed r && not (row_holds_arrow r))
value-record r = ap₂ (λ x y. x && not y) (placed-parts r) (arrow-parts r)

pub ruleset records = (value-record)
