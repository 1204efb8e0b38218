-- Rows that are not apart.
use Rattle.ur_rows.specs.declared.normal.Var.{Var}
use Rattle.ur_rows.specs.declared.normal.Normal.TheVariants as normal
use Rattle.ur_rows.specs.declared.normal.NormalType.TheBlock.{end_of-NormalType as no_type, more_of-NormalType as a_type, Row_of-Part, more_of-Part as a_part}
use Rattle.ur_rows.specs.declared.normal.Part.TheVariants as part
use Rattle.ur_rows.specs.Made.{parts}
use Rattle.std.specs.Prelude.{◌≡◌, false, List, [], ◌∷◌, Contains}
use mathlib.Core.Former.{Count}
use Rattle.ur_base.specs.Shape.{Shape, count}
use Rattle.ur_rows.specs.declared.normal.Label.{Label}
use Rattle.ur_rows.specs.declared.normal.Normal.{Normal}
use Rattle.ur_rows.specs.declared.normal.NormalType.{NormalType}
use Rattle.ur_rows.specs.declared.normal.NormalType.TheVariants as ty
use Rattle.ur_rows.specs.declared.normal.Part.{Part as RowPart}
use Rattle.ur_rows.specs.Apart.{Assumptions}
use Rattle.ur_typed_rules.specs.Tests.{is_apart}

-- a part of a row, and all parts behind it, that are not apart
pub data Meets (known : Assumptions) : List RowPart → List RowPart → List RowPart → Type 0 where
  meets_here : {p : RowPart} {r : List RowPart} → is_apart known (p ∷ []) r ≡ false → Meets known (p ∷ r) (p ∷ []) r
  meets_behind : {p : RowPart} {r a b : List RowPart} → Meets known r a b → Meets known (p ∷ r) a b

mutual
  -- the same of a row that stands in a type
  pub data MeetsIn (known : Assumptions) : NormalType → List RowPart → List RowPart → Type 0 where
    in_option : {t : NormalType} {a b : List RowPart} → MeetsIn known t a b → MeetsIn known (ty.Opt' tt (a_type t no_type)) a b
    in_list : {t : NormalType} {a b : List RowPart} → MeetsIn known t a b → MeetsIn known (ty.Many' tt (a_type t no_type)) a b
    in_transaction : {t : NormalType} {a b : List RowPart} → MeetsIn known t a b → MeetsIn known (ty.Transaction' tt (a_type t no_type)) a b
    in_argument : {t u : NormalType} {a b : List RowPart} → MeetsIn known t a b → MeetsIn known (ty.Arrow' tt (a_type t no_type) tt (a_type u no_type)) a b
    in_result : {t u : NormalType} {a b : List RowPart} → MeetsIn known u a b → MeetsIn known (ty.Arrow' tt (a_type t no_type) tt (a_type u no_type)) a b
    of_record : {n : Shape} {r : Row_of-Part (count n)} {a b : List RowPart} → Meets known (parts r) a b → MeetsIn known (ty.Record' n r) a b
    of_form : {n : Shape} {r : Row_of-Part (count n)} {a b : List RowPart} → Meets known (parts r) a b → MeetsIn known (ty.Form' n r) a b
    in_record_parts : {n : Shape} {r : Row_of-Part (count n)} {a b : List RowPart} → MeetsParts known _ r a b → MeetsIn known (ty.Record' n r) a b
    in_form_parts : {n : Shape} {r : Row_of-Part (count n)} {a b : List RowPart} → MeetsParts known _ r a b → MeetsIn known (ty.Form' n r) a b

  pub data MeetsParts (known : Assumptions) : (n : Count) → Row_of-Part n → List RowPart → List RowPart → Type 0 where
    in_part : {n : Count} {p : RowPart} {rest : Row_of-Part n} {a b : List RowPart} → MeetsPart known p a b → MeetsParts known _ (a_part p rest) a b
    in_further_parts : {n : Count} {p : RowPart} {rest : Row_of-Part n} {a b : List RowPart} → MeetsParts known _ rest a b → MeetsParts known _ (a_part p rest) a b

  pub data MeetsPart (known : Assumptions) : RowPart → List RowPart → List RowPart → Type 0 where
    in_field_type : {l : Label} {t : NormalType} {a b : List RowPart} → MeetsIn known t a b → MeetsPart known (part.Field' l tt (a_type t no_type)) a b
    in_mapped : {v : Var} {t : NormalType} {a b : List RowPart} → MeetsIn known t a b → MeetsPart known (part.Mapped' v tt (a_type t no_type)) a b

-- the same of a row, or of a row in one of its types
pub data MeetsRow (known : Assumptions) (r a b : List RowPart) : Type 0 where
  of_row : Meets known r a b → MeetsRow known r a b
  in_row_part : {p : RowPart} → Contains r p → MeetsPart known p a b → MeetsRow known r a b

pub data MeetsCon (known : Assumptions) : Normal → List RowPart → List RowPart → Type 0 where
  in_type : {t : NormalType} {a b : List RowPart} → MeetsIn known t a b → MeetsCon known (normal.Type t) a b
  in_row : {r a b : List RowPart} → MeetsRow known r a b → MeetsCon known (normal.Row r) a b
