-- Substitution in normal forms. It puts types, labels and rows in place of variables, and the result is normal again.
use Rattle.std.specs.Prelude.{ℕ, zero, suc, ◌+◌, ◌-◌, ◌==◌, nat_lt, if◌then◌else◌, Bool, false, List, [], ◌∷◌, slice_index_or}
use Rattle.ur_rows.specs.declared.normal.Var.{Var}
use Rattle.ur_rows.specs.declared.normal.Var.TheVariants as var
use Rattle.ur_rows.specs.declared.normal.Label.{Label}
use Rattle.ur_rows.specs.declared.normal.Label.TheVariants as label
use Rattle.ur_rows.specs.declared.normal.NormalType.{NormalType}
use Rattle.ur_rows.specs.declared.normal.NormalType.TheVariants as ty
use Rattle.ur_rows.specs.declared.normal.NormalType.TheBlock.{end_of-NormalType as alone, more_of-NormalType as its, Row_of-Part, end_of-Part as end, more_of-Part as more}
use Rattle.ur_rows.specs.declared.normal.Part.{Part}
use Rattle.ur_rows.specs.declared.normal.Part.TheVariants as part
use Rattle.ur_rows.specs.declared.normal.Normal.{Normal}
use Rattle.ur_rows.specs.declared.normal.Normal.TheVariants as normal
use Rattle.ur_rows.specs.declared.normal.Normal.TheBlock.{end_of-Normal as sole, more_of-Normal as the}
use Rattle.ur_rows.specs.Made.{option_of, list_of, transaction_of, arrow_of, field, mapped, record_of, form_of, unit}
use Rattle.ur_rows.specs.Order.{with_part, joined}

-- a normal constructor read at a kind that it has
abbrev pub as_type : Normal → NormalType
as_type (normal.Type t) = t
as_type _ = unit

abbrev pub as_label : Normal → Label
as_label (normal.Name l) = l
as_label _ = label.Literal []

abbrev pub as_row : Normal → List Part
as_row (normal.Row r) = r
as_row _ = []

-- What is put in place of each variable, within that many `fn`s of the place where it is put.
pub record Putting : Type 0 where
  pub types : ℕ → Var → NormalType
  pub labels : ℕ → Var → Label
  pub rows : ℕ → Var → List Part
  -- in place of `map f` of a row variable
  pub maps : ℕ → Var → NormalType → List Part

abbrev pub put_label : Putting → ℕ → Label → Label
put_label σ d (label.Literal name) = label.Literal name
put_label σ d (label.Variable v) = σ.labels d v

abbrev mutual
  pub put_type : Putting → ℕ → NormalType → NormalType
  put_type σ d (ty.Variable v) = σ.types d v
  put_type σ d (ty.Opt' _ (its t alone)) = option_of (put_type σ d t)
  put_type σ d (ty.Many' _ (its t alone)) = list_of (put_type σ d t)
  put_type σ d (ty.Transaction' _ (its t alone)) = transaction_of (put_type σ d t)
  put_type σ d (ty.Arrow' _ (its a alone) _ (its b alone)) = arrow_of (put_type σ d a) (put_type σ d b)
  put_type σ d (ty.Record' _ r) = record_of (put_parts σ d r)
  put_type σ d (ty.Form' _ r) = form_of (put_parts σ d r)
  put_type σ d t = t

  pub put_parts : {n : _} → Putting → ℕ → Row_of-Part n → List Part
  put_parts σ d end = []
  put_parts σ d (more p rest) = joined (put_part σ d p) (put_parts σ d rest)

  pub put_part : Putting → ℕ → Part → List Part
  put_part σ d (part.Field' l _ (its t alone)) = field (put_label σ d l) (put_type σ d t) ∷ []
  put_part σ d (part.Piece v) = σ.rows d v
  put_part σ d (part.Mapped' v _ (its f alone)) = σ.maps d v (put_type σ (suc d) f)

abbrev pub put_row : Putting → ℕ → List Part → List Part
put_row σ d [] = []
put_row σ d (p ∷ row) = joined (put_part σ d p) (put_row σ d row)

abbrev pub put : Putting → ℕ → Normal → Normal
put σ d (normal.Type t) = normal.Type (put_type σ d t)
put σ d (normal.Name l) = normal.Name (put_label σ d l)
put σ d (normal.Row r) = normal.Row (put_row σ d r)
put σ d (normal.Fn' k _ (the c sole)) = normal.Fn' k tt (the (put σ (suc d) c) sole)

-- `map f` of a row variable: the map of the identity is the variable
abbrev pub mapped_variable : NormalType → Var → Part
mapped_variable (ty.Variable (var.Bound zero)) v = part.Piece v
mapped_variable f v = mapped v f

-- other variables in place of variables, except that types may stand in place of some
abbrev pub renaming_but : (ℕ → Var → Var) → (ℕ → Var → NormalType) → Putting
renaming_but f types = record {
  types = types;
  labels = λ d v. label.Variable (f d v);
  rows = λ d v. part.Piece (f d v) ∷ [];
  maps = λ d v g. mapped_variable g (f d v) ∷ [];
}

abbrev pub renaming : (ℕ → Var → Var) → Putting
renaming f = renaming_but f (λ d v. ty.Variable (f d v))

-- variables of `fn`s outside, `by` further out
abbrev pub raised_var : ℕ → ℕ → Var → Var
raised_var by d (var.Free n) = var.Free n
raised_var by d (var.Bound i) = if nat_lt i d then var.Bound i else var.Bound (i + by)

abbrev pub raising : ℕ → Putting
raising by = renaming (raised_var by)

abbrev pub raised_type : ℕ → NormalType → NormalType
raised_type by = put_type (raising by) 0

abbrev pub raised : ℕ → Normal → Normal
raised by = put (raising by) 0

-- what stands in place of the variable of the `fn` here, those further out coming nearer by `by`
abbrev pub at_fn : {A : Type 0} → ℕ → ℕ → Var → A → (Var → A) → A
at_fn by d (var.Free n) here other = other (var.Free n)
at_fn by d (var.Bound i) here other = if i == d then here else other (var.Bound (if nat_lt d i then i - by else i))

abbrev pub is_here : ℕ → Var → Bool
is_here d (var.Free n) = false
is_here d (var.Bound i) = i == d

abbrev pub nearer : ℕ → ℕ → Var → Var
nearer by d v = at_fn by d v (var.Bound d) (λ w. w)

-- a type in place of an `fn`'s variable
abbrev pub type_at : ℕ → NormalType → Putting
type_at by t = renaming_but (nearer by) (λ d v. at_fn by d v (raised_type d t) (λ w. ty.Variable w))

-- `f t` for a function `f` of types, given by its body
abbrev pub applied_type : NormalType → NormalType → NormalType
applied_type f t = put_type (type_at 1 t) 0 f

-- `fn x => f (g x)`
abbrev pub composed : NormalType → NormalType → NormalType
composed f g = put_type (type_at 0 g) 0 f

abbrev pub mapped_part : NormalType → Part → Part
mapped_part f (part.Field' l _ (its t alone)) = field l (applied_type f t)
mapped_part f (part.Piece v) = mapped_variable f v
mapped_part f (part.Mapped' v _ (its g alone)) = mapped_variable (composed f g) v

-- `map f r`
abbrev pub mapped_row : NormalType → List Part → List Part
mapped_row f [] = []
mapped_row f (p ∷ r) = with_part (mapped_part f p) (mapped_row f r)

-- a constructor in place of an `fn`'s variable
abbrev pub argument : Normal → Putting
argument a =
    let rows : ℕ → Var → List Part = λ d v. at_fn 1 d v (as_row (raised d a)) (λ w. part.Piece w ∷ []) in
    record {
      types = λ d v. at_fn 1 d v (as_type (raised d a)) (λ w. ty.Variable w);
      labels = λ d v. at_fn 1 d v (as_label (raised d a)) (λ w. label.Variable w);
      rows = rows;
      maps = λ d v f. mapped_row f (rows d v);
    }

-- `f a`, for an `f` that is an `fn`
abbrev pub applied_once : Normal → Normal → Normal
applied_once (normal.Fn' k _ (the c sole)) a = put (argument a) 0 c
applied_once f a = normal.Type unit

-- a function applied to arguments in turn
abbrev pub applied : Normal → List Normal → Normal
applied f [] = f
applied f (a ∷ args) = applied (applied_once f a) args

-- constructors in place of the free variables, in order of binding
abbrev pub at_free : {A : Type 0} → List Normal → Var → (Normal → A) → (Var → A) → A
at_free args (var.Free n) given other = given (slice_index_or args n (normal.Type unit))
at_free args (var.Bound i) given other = other (var.Bound i)

abbrev pub arguments : List Normal → Putting
arguments args =
    let rows : ℕ → Var → List Part = λ d v. at_free args v as_row (λ w. part.Piece w ∷ []) in
    record {
      types = λ d v. at_free args v as_type (λ w. ty.Variable w);
      labels = λ d v. at_free args v as_label (λ w. label.Variable w);
      rows = rows;
      maps = λ d v f. mapped_row f (rows d v);
    }

abbrev pub instance_type : List Normal → NormalType → NormalType
instance_type args = put_type (arguments args) 0

abbrev pub instance_row : List Normal → List Part → List Part
instance_row args = put_row (arguments args) 0

abbrev pub instance : List Normal → Normal → Normal
instance args = put (arguments args) 0
