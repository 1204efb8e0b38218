-- The first part of a row that is not apart from those behind it, and how it is told.
use Rattle.std.specs.Prelude.{ℕ, if◌then◌else◌, List, [], ◌∷◌, Option, Some, None}
use Rattle.ur_syntax.specs.declared.con.Con.{Con}
use Rattle.ur_rows.specs.declared.normal.NormalType.{NormalType}
use Rattle.ur_rows.specs.declared.normal.NormalType.TheVariants as ty
use Rattle.ur_rows.specs.declared.normal.NormalType.TheBlock.{Row_of-NormalType, end_of-NormalType as alone, more_of-NormalType as its, Row_of-Part, end_of-Part as end, more_of-Part as more}
use Rattle.ur_rows.specs.declared.normal.Part.{Part}
use Rattle.ur_rows.specs.declared.normal.Part.TheVariants as part
use Rattle.ur_rows.specs.Apart.{Assumptions}
use Rattle.ur_rows.specs.Made.{parts}
use Rattle.ur_typed_rules.specs.Tests.{is_apart}
use Rattle.ur_typed_rules.specs.Faults.{Fault, twice, not_apart}
use Rattle.ur_typed_rules.specs.Repeats.{RepeatsName, or_else}
use Rattle.ur_check_scopes.specs.declared.apart.Meeting.{Meeting}

-- a part as a row of its own, and the parts behind it
abbrev pub Met : Type 0
Met = List Part × List Part

abbrev pub two_parts : Meeting → Met
two_parts m = (m.left.now ∷ [], m.right.now)

-- the first part that is not apart from those behind it
abbrev pub met_in_row : Assumptions → List Part → Option Met
met_in_row known [] = None
met_in_row known (p ∷ r) = if is_apart known (p ∷ []) r then met_in_row known r else Some (p ∷ [], r)

abbrev mutual
  -- the same of the first row in a type that has such parts
  pub met_in_type : Assumptions → NormalType → Option Met
  met_in_type known (ty.Opt' _ t) = met_in_boxed known t
  met_in_type known (ty.Many' _ t) = met_in_boxed known t
  met_in_type known (ty.Transaction' _ t) = met_in_boxed known t
  met_in_type known (ty.Arrow' _ a _ b) = or_else (met_in_boxed known a) (met_in_boxed known b)
  met_in_type known (ty.Record' _ r) = or_else (met_in_row known (parts r)) (met_in_parts known r)
  met_in_type known (ty.Form' _ r) = or_else (met_in_row known (parts r)) (met_in_parts known r)
  met_in_type known _ = None

  pub met_in_boxed : {n : _} → Assumptions → Row_of-NormalType n → Option Met
  met_in_boxed known alone = None
  met_in_boxed known (its t rest) = met_in_type known t

  pub met_in_parts : {n : _} → Assumptions → Row_of-Part n → Option Met
  met_in_parts known end = None
  met_in_parts known (more p rest) = or_else (met_in_part known p) (met_in_parts known rest)

  pub met_in_part : Assumptions → Part → Option Met
  met_in_part known (part.Field' l _ t) = met_in_boxed known t
  met_in_part known (part.Piece v) = None
  met_in_part known (part.Mapped' v _ f) = met_in_boxed known f

abbrev pub met_within : Assumptions → List Part → Option Met
met_within known [] = None
met_within known (p ∷ r) = or_else (met_in_part known p) (met_within known r)

-- the same of a row, or of a row in one of its types
abbrev pub met_of_row : Assumptions → List Part → Option Met
met_of_row known r = or_else (met_in_row known r) (met_within known r)

-- a name that stands twice where they are written, or the parts
pub data IsMet (c : Con) (m : Met) : Fault → Type 0 where
  written_twice : {name : List ℕ} → RepeatsName c name → IsMet c m (twice name)
  not_so_apart : IsMet c m (not_apart m.0 m.1)
