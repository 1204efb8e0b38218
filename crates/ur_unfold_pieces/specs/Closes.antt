-- What numbers stand for, whatever a scope and the modules' `val`s stand for.
use Rattle.std.specs.Prelude.{◌≡◌, ℕ, List, Option, None, Some}
use Rattle.ur_base.specs.declared.names.Name.{Name}
use Rattle.ur_terms.specs.Values.{fields_together}
use Rattle.ur_tree.specs.declared.exp.FieldExp.{FieldExp}
use Rattle.ur_tree.specs.declared.closed.Static.{Static}
use Rattle.ur_source.specs.Reading.{Names, Cons, label_number}
use Rattle.ur_source.specs.Static.{StaticFields, as_static_fields, on_two, static_of}
use Rattle.ur_unfold_static.specs.declared.node.Field.{Field}
use Rattle.ur_unfold_static.specs.declared.node.Scope.{Scope}
use Rattle.ur_unfold_static.specs.Held.{Held}
use Rattle.ur_unfold_static.specs.Scopes.{Statics, AreAt, MayBeAt, Stands, FieldIs, FieldsAre}

-- a function of what the modules' `val`s, the constructor variables and the static names stand for
abbrev pub Read : Type 0 → Type 0
Read A = Statics → Cons → Statics → A

-- It is so of all that these numbers stand for.
abbrev pub Under : Held → Scope → List ℕ → (Statics → Cons → Statics → Type 0) → Type 0
Under held scope vals P = (cs : Cons) (fs vs : Statics) → Stands held scope cs fs → AreAt held.statics vals vs → P vs cs fs

-- The number, where there is one, is that of what is read.
abbrev pub Closes : Held → Scope → List ℕ → Held → Option ℕ → Read (Option Static) → Type 0
Closes old scope vals new j read = Under old scope vals (λ vs cs fs. MayBeAt new.statics j (read vs cs fs))

abbrev pub FieldMayBe : Statics → Option Field → Option (Name × Static) → Type 0
FieldMayBe statics None g = g ≡ None
FieldMayBe statics (Some f) g = (h : Name × Static) × FieldIs statics f h × (g ≡ Some h)

abbrev pub FieldsMayBe : Statics → Option (List Field) → Option StaticFields → Type 0
FieldsMayBe statics None gs = gs ≡ None
FieldsMayBe statics (Some fs) gs = (hs : StaticFields) × FieldsAre statics fs hs × (gs ≡ Some hs)

-- a field of a record, closed
abbrev pub static_field_of : Names → Statics → Cons → Statics → FieldExp → Option (Name × Static)
static_field_of names vals cons fixed g = on_two (λ n s. Some (n, s)) (label_number names cons g.name) (static_of names vals cons fixed g.of)

-- the fields of two records together
abbrev pub fields_joined : Static → Static → Option StaticFields
fields_joined s t = on_two (λ fs gs. Some (fields_together fs gs)) (as_static_fields s) (as_static_fields t)
