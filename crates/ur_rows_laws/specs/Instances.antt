-- Laws of instances.
use Rattle.std.specs.Prelude.{◌≡◌, ◌&&◌, ℕ, Bool, true, false, List, [], ◌∷◌, slice_index_or}
use Rattle.ur_syntax.specs.declared.kind.Kind.{Kind}
use Rattle.ur_syntax.specs.declared.kind.Kind.TheVariants as kind
use Rattle.ur_rows.specs.declared.normal.NormalType.{NormalType}
use Rattle.ur_rows.specs.declared.normal.Part.{Part}
use Rattle.ur_rows.specs.declared.normal.Normal.{Normal}
use Rattle.ur_rows.specs.declared.normal.Normal.TheVariants as normal
use Rattle.ur_rows.specs.Made.{unit}
use Rattle.ur_rows.specs.IsNormal.{is_normal}
use Rattle.ur_rows.specs.Kinded.{Variables, with_bound, type_is_in, row_is_in, is_of_kind}
use Rattle.ur_rows.specs.Order.{joined}
use Rattle.ur_rows.specs.Put.{put_type, put_row, applied_type, mapped_row, argument, arguments, instance_type, instance_row, instance}

-- free variables of these kinds, outside all functions
abbrev pub outside : List Kind → Variables
outside free = record { free = free; bound = [] }

-- constructors of these kinds in turn
abbrev pub are_of_kinds : Variables → List Normal → List Kind → Bool
are_of_kinds vs [] [] = true
are_of_kinds vs (n ∷ ns) (k ∷ ks) = is_of_kind vs n k && are_of_kinds vs ns ks
are_of_kinds vs _ _ = false

-- what is in scope of variables stays in scope where constructors of their kinds take their places
pub record InstanceKeepsKinds : Type 0 where
  pub types : (free kinds : List Kind) (args : List Normal) (t : NormalType) → are_of_kinds (outside free) args kinds ≡ true → type_is_in (outside kinds) t ≡ true →
      type_is_in (outside free) (instance_type args t) ≡ true
  pub rows : (free kinds : List Kind) (args : List Normal) (r : List Part) → are_of_kinds (outside free) args kinds ≡ true → row_is_in (outside kinds) r ≡ true →
      row_is_in (outside free) (instance_row args r) ≡ true

-- the instance of a union is the union of the instances
abbrev pub InstanceOfUnion : Type 0
InstanceOfUnion = (args : List Normal) (r s : List Part) → instance_row args (joined r s) ≡ joined (instance_row args r) (instance_row args s)

-- each constructor is in normal form
abbrev pub EachNormal : List Normal → Type 0
EachNormal args = (n : ℕ) → is_normal (slice_index_or args n (normal.Type unit)) ≡ true

-- the instance of a function of types, given by its body
abbrev pub instance_function : List Normal → NormalType → NormalType
instance_function args = put_type (arguments args) 1

-- the instance of a map is the map of the instances, and that of a function of types at a type is of the instances
pub record InstanceOfMap : Type 0 where
  pub rows : (free kinds : List Kind) (args : List Normal) (f : NormalType) (r : List Part) → EachNormal args → are_of_kinds (outside free) args kinds ≡ true →
      type_is_in (with_bound kind.Star (outside kinds)) f ≡ true → row_is_in (outside kinds) r ≡ true →
      instance_row args (mapped_row f r) ≡ mapped_row (instance_function args f) (instance_row args r)
  pub applied : (free kinds : List Kind) (args : List Normal) (f t : NormalType) → EachNormal args → are_of_kinds (outside free) args kinds ≡ true →
      type_is_in (with_bound kind.Star (outside kinds)) f ≡ true → type_is_in (outside kinds) t ≡ true →
      instance_type args (applied_type f t) ≡ applied_type (instance_function args f) (instance_type args t)

-- The instance of a function at a type, a name or a row, which its body has for its variable, is of the instances.
pub record InstanceOfApplied : Type 0 where
  pub types : (free kinds : List Kind) (args : List Normal) (k : Kind) (a : Normal) (f : NormalType) → EachNormal args → are_of_kinds (outside free) args kinds ≡ true →
      is_of_kind (outside kinds) a k ≡ true → type_is_in (with_bound k (outside kinds)) f ≡ true →
      instance_type args (put_type (argument a) 0 f) ≡ put_type (argument (instance args a)) 0 (put_type (arguments args) 1 f)
  pub rows : (free kinds : List Kind) (args : List Normal) (k : Kind) (a : Normal) (r : List Part) → EachNormal args → are_of_kinds (outside free) args kinds ≡ true →
      is_of_kind (outside kinds) a k ≡ true → row_is_in (with_bound k (outside kinds)) r ≡ true →
      instance_row args (put_row (argument a) 0 r) ≡ put_row (argument (instance args a)) 0 (put_row (arguments args) 1 r)
