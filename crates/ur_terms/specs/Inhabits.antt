-- Values of a first-order type.
use Rattle.std.specs.Prelude.{◌≡◌, ℕ, List, [], ◌∷◌, Option, Some, None, slice_get}
use Rattle.ur_values.specs.declared.types.ValueType.{ValueType}
use Rattle.ur_values.specs.declared.types.ValueType.TheVariants as vt
use Rattle.ur_base.specs.declared.names.Name.{Name}
use Rattle.ur_values.specs.declared.value.Value.{Value, Row_of-Value, end_of-Value, more_of-Value, Row_of-Value-Row-0-2, end_of-Value-Row-0-2, more_of-Value-Row-0-2, Held-Value-Tagged-1, None', Some'}
use Rattle.ur_values.specs.declared.value.Value.TheVariants as v
use Rattle.std.specs.Str.{IsUtf8}
use Rattle.ur_values.specs.Values.{IsInt}
use Rattle.ur_terms.specs.Types.{record_type, IsXml}

-- the datatype and argument of each constructor
abbrev pub Variants : Type 0
Variants = List (ℕ × Option ValueType)

-- The value has the type. Of XML it is said here that it is XML and what `own` says of it.
abbrev mutual
  pub Inhabits : (Value → Type 0) → Variants → Value → ValueType → Type 0
  Inhabits own variants (v.Int i) r = (r ≡ vt.Int) × IsInt i
  Inhabits own variants (v.Bool b) r = r ≡ vt.Bool
  Inhabits own variants (v.Str s) r = (r ≡ vt.Str) × IsUtf8 s
  Inhabits own variants (v.Row' _ fields) r = (fs : List (Name × ValueType)) × (r ≡ record_type fs) × FieldsInhabit own variants fields fs
  Inhabits own variants (v.Many' _ items) r = (a : ValueType) × (r ≡ vt.Many a) × AllInhabit own variants items a
  Inhabits own variants v.Absent r = (a : ValueType) × (r ≡ vt.Opt a)
  Inhabits own variants (v.Present' _ x) r = (a : ValueType) × (r ≡ vt.Opt a) × AllInhabit own variants x a
  Inhabits own variants (v.Tagged' c x) r =
      (d : ℕ) × (arg : Option ValueType) × (r ≡ vt.Datatype d) × (slice_get variants c ≡ Some (d, arg)) × HeldInhabits own variants x arg
  Inhabits own variants (v.Markup' m nodes) r = IsXml r × own (v.Markup' m nodes)

  pub AllInhabit : (Value → Type 0) → Variants → {m : _} → Row_of-Value m → ValueType → Type 0
  AllInhabit own variants end_of-Value r = Unit {0}
  AllInhabit own variants (more_of-Value x rest) r = Inhabits own variants x r × AllInhabit own variants rest r

  pub FieldsInhabit : (Value → Type 0) → Variants → {m : _} → Row_of-Value-Row-0-2 m → List (Name × ValueType) → Type 0
  FieldsInhabit own variants end_of-Value-Row-0-2 fs = fs ≡ []
  FieldsInhabit own variants (more_of-Value-Row-0-2 name x rest) fs =
      (a : ValueType) × (gs : List (Name × ValueType)) × (fs ≡ (name, a) ∷ gs) × Inhabits own variants x a × FieldsInhabit own variants rest gs

  pub HeldInhabits : (Value → Type 0) → Variants → Held-Value-Tagged-1 → Option ValueType → Type 0
  HeldInhabits own variants None' arg = arg ≡ None
  HeldInhabits own variants (Some' _ x) arg = (a : ValueType) × (arg ≡ Some a) × AllInhabit own variants x a
