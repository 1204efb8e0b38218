-- Whether a function's variable occurs in its body, and whether it stands there outside all maps.
use Rattle.std.specs.Prelude.{ℕ, suc, ◌||◌, ◌&&◌, not, Bool, false, List, [], ◌∷◌}
use Rattle.ur_rows.specs.declared.normal.Label.{Label}
use Rattle.ur_rows.specs.declared.normal.Label.TheVariants as label
use Rattle.ur_rows.specs.declared.normal.NormalType.{NormalType}
use Rattle.ur_rows.specs.declared.normal.NormalType.TheVariants as ty
use Rattle.ur_rows.specs.declared.normal.NormalType.TheBlock.{end_of-NormalType as alone, more_of-NormalType as its, Row_of-Part, end_of-Part as end, more_of-Part as more}
use Rattle.ur_rows.specs.declared.normal.Part.{Part}
use Rattle.ur_rows.specs.declared.normal.Part.TheVariants as part
use Rattle.ur_rows.specs.declared.normal.Normal.{Normal}
use Rattle.ur_rows.specs.declared.normal.Normal.TheVariants as normal
use Rattle.ur_rows.specs.declared.normal.Normal.TheBlock.{end_of-Normal as sole, more_of-Normal as the}
use Rattle.ur_rows.specs.Put.{is_here}

abbrev pub uses_label : ℕ → Label → Bool
uses_label d (label.Literal name) = false
uses_label d (label.Variable v) = is_here d v

abbrev mutual
  -- the variable of the function so many further out occurs
  pub uses_type : ℕ → NormalType → Bool
  uses_type d (ty.Variable v) = is_here d v
  uses_type d (ty.Opt' _ (its t alone)) = uses_type d t
  uses_type d (ty.Many' _ (its t alone)) = uses_type d t
  uses_type d (ty.Transaction' _ (its t alone)) = uses_type d t
  uses_type d (ty.Arrow' _ (its a alone) _ (its b alone)) = uses_type d a || uses_type d b
  uses_type d (ty.Record' _ r) = uses_parts d r
  uses_type d (ty.Form' _ r) = uses_parts d r
  uses_type d t = false

  pub uses_parts : {n : _} → ℕ → Row_of-Part n → Bool
  uses_parts d end = false
  uses_parts d (more p rest) = uses_part d p || uses_parts d rest

  pub uses_part : ℕ → Part → Bool
  uses_part d (part.Field' l _ (its t alone)) = uses_label d l || uses_type d t
  uses_part d (part.Piece v) = is_here d v
  uses_part d (part.Mapped' v _ (its f alone)) = is_here d v || uses_type (suc d) f

abbrev pub uses_row : ℕ → List Part → Bool
uses_row d [] = false
uses_row d (p ∷ r) = uses_part d p || uses_row d r

abbrev pub uses : ℕ → Normal → Bool
uses d (normal.Type t) = uses_type d t
uses d (normal.Name l) = uses_label d l
uses d (normal.Row r) = uses_row d r
uses d (normal.Fn' k _ (the c sole)) = uses (suc d) c

-- a function's variable occurs in its body
abbrev pub is_used : Normal → Bool
is_used (normal.Fn' k _ (the c sole)) = uses 0 c
is_used f = false

abbrev mutual
  -- the variable stands outside all maps: as a row, or else as a type
  pub holds_type : Bool → ℕ → NormalType → Bool
  holds_type as_row d (ty.Variable v) = not as_row && is_here d v
  holds_type as_row d (ty.Opt' _ (its t alone)) = holds_type as_row d t
  holds_type as_row d (ty.Many' _ (its t alone)) = holds_type as_row d t
  holds_type as_row d (ty.Transaction' _ (its t alone)) = holds_type as_row d t
  holds_type as_row d (ty.Arrow' _ (its a alone) _ (its b alone)) = holds_type as_row d a || holds_type as_row d b
  holds_type as_row d (ty.Record' _ r) = holds_parts as_row d r
  holds_type as_row d (ty.Form' _ r) = holds_parts as_row d r
  holds_type as_row d t = false

  pub holds_parts : {n : _} → Bool → ℕ → Row_of-Part n → Bool
  holds_parts as_row d end = false
  holds_parts as_row d (more p rest) = holds_part as_row d p || holds_parts as_row d rest

  pub holds_part : Bool → ℕ → Part → Bool
  holds_part as_row d (part.Field' l _ (its t alone)) = holds_type as_row d t
  holds_part as_row d (part.Piece v) = as_row && is_here d v
  holds_part as_row d p = false

abbrev pub holds_row : Bool → ℕ → List Part → Bool
holds_row as_row d [] = false
holds_row as_row d (p ∷ r) = holds_part as_row d p || holds_row as_row d r

abbrev pub holds : Bool → Normal → Bool
holds as_row (normal.Type t) = holds_type as_row 0 t
holds as_row (normal.Row r) = holds_row as_row 0 r
holds as_row n = false
