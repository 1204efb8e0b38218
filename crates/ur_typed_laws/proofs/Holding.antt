-- A source begins with what is declared so far.
use Rattle.std.proofs.Common.{◌≡◌, ◌∙◌, refl, Option, List, [], ◌∷◌, ℕ, length, map}
use Rattle.ur_syntax.specs.declared.con.Con.{Con}
use Rattle.ur_syntax.specs.declared.kind.Kind.{Kind}
use Rattle.ur_syntax.specs.declared.decl.FunDef.{FunDef}
use Rattle.ur_values.specs.declared.schema.ColumnKind.{ColumnKind}
use Rattle.ur_values.specs.declared.schema.TableShape.{TableShape}
use Rattle.ur_rows.specs.declared.normal.NormalType.{NormalType}
use Rattle.ur_tree.specs.declared.typed.Typed.{Typed}
use Rattle.ur_tree.specs.declared.typed.Datatype.{Datatype}
use Rattle.ur_tree.specs.declared.typed.Variant.{Variant}
use Rattle.ur_tree.specs.Heads.{Head}
use Rattle.ur_typed.specs.Declaring.{FunctionHead, Sofar, Heading, with_defined, with_constructor, with_datatype, with_shape, full_name, with_named_sequence, with_named_cookie, with_head, with_val_of}
use Rattle.ur_typed_laws.proofs.Written.{headed}
use Rattle.ur_typed_laws.proofs.Declared.{val_of}
use Rattle.ur_typed_laws.proofs.Extending.{Begins}
use Rattle.ur_typed_laws.proofs.Begun.{begins_before, longer, longer_suc}

-- what is declared so far begins what `app` declares
pub record Holds (app : Typed) (z : Sofar) : Type 0 where
  pub datatypes : Begins z.datatypes app.datatypes
  pub variants : Begins z.variants app.variants
  pub tables : Begins z.place.globals.tables.tables app.schema.tables
  pub sequences : Begins z.sequences app.schema.sequences
  pub cookies : Begins z.cookies app.cookies
  pub vals : Begins z.vals (map val_of app.vals)
  pub functions : Begins z.functions (map headed app.functions)

-- as many are declared as the place counts
pub record Tallied (z : Sofar) : Type 0 where
  pub functions : length z.functions ≡ z.place.functions
  pub vals : length z.vals ≡ z.place.vals
  pub datatypes : length z.datatypes ≡ z.place.datatypes
  pub variants : length z.variants ≡ z.place.variants
  pub cookies : length z.cookies ≡ length z.place.globals.cookies
  pub sequences : length z.sequences ≡ length z.place.globals.sequences

-- from `z` to `y` more is declared
pub record Grows (app : Typed) (z y : Sofar) : Type 0 where
  pub tallied : Tallied z → Tallied y
  pub held : Holds app y → Holds app z
  pub fields : y.place.fields ≡ z.place.fields
  pub home : y.place.globals.home ≡ z.place.globals.home

pub grows_self : (app : Typed) (z : Sofar) → Grows app z z
grows_self app z = record { tallied = λ t. t; held = λ h. h; fields = refl; home = refl }

pub grows_on : {app : Typed} {z y x : Sofar} → Grows app z y → Grows app y x → Grows app z x
grows_on f g = record { tallied = λ t. g.tallied (f.tallied t); held = λ h. f.held (g.held h); fields = g.fields ∙ f.fields; home = g.home ∙ f.home }

-- ---- one step

pub defined_grows : (app : Typed) (x : List ℕ) (k : Kind) (c : Con) (z : Sofar) → Grows app z (with_defined x k c z)
defined_grows app x k c z = record {
  tallied = λ t. record { functions = t.functions; vals = t.vals; datatypes = t.datatypes; variants = t.variants; cookies = t.cookies; sequences = t.sequences };
  held = λ h. record { datatypes = h.datatypes; variants = h.variants; tables = h.tables; sequences = h.sequences; cookies = h.cookies; vals = h.vals; functions = h.functions };
  fields = refl;
  home = refl;
}

abbrev pub a_variant : ℕ → List ℕ → Option NormalType → Variant
a_variant k x t = record { datatype = k; name = x; arg = t }

pub constructor_grows : (app : Typed) (k : ℕ) (x : List ℕ) (a : Option NormalType) (z : Sofar) → Grows app z (with_constructor k x a z)
constructor_grows app k x a z = record {
  tallied = λ t. record { functions = t.functions; vals = t.vals; datatypes = t.datatypes; variants = longer z.variants (a_variant k x a) z.place.variants t.variants; cookies = t.cookies; sequences = t.sequences };
  held = λ h. record { datatypes = h.datatypes; variants = begins_before z.variants (a_variant k x a ∷ []) app.variants h.variants; tables = h.tables; sequences = h.sequences; cookies = h.cookies; vals = h.vals; functions = h.functions };
  fields = refl;
  home = refl;
}

abbrev pub a_datatype : ℕ → List ℕ → Datatype
a_datatype m x = record { «module» = m; name = x }

pub datatype_grows : (app : Typed) (home : ℕ) (x : List ℕ) (z : Sofar) → Grows app z (with_datatype home x z)
datatype_grows app home x z = record {
  tallied = λ t. record { functions = t.functions; vals = t.vals; datatypes = longer z.datatypes (a_datatype home x) z.place.datatypes t.datatypes; variants = t.variants; cookies = t.cookies; sequences = t.sequences };
  held = λ h. record { datatypes = begins_before z.datatypes (a_datatype home x ∷ []) app.datatypes h.datatypes; variants = h.variants; tables = h.tables; sequences = h.sequences; cookies = h.cookies; vals = h.vals; functions = h.functions };
  fields = refl;
  home = refl;
}

pub table_grows : (app : Typed) (z : Sofar) (s : TableShape) → Grows app z (with_shape z s)
table_grows app z s = record {
  tallied = λ t. record { functions = t.functions; vals = t.vals; datatypes = t.datatypes; variants = t.variants; cookies = t.cookies; sequences = t.sequences };
  held = λ h. record { datatypes = h.datatypes; variants = h.variants; tables = begins_before z.place.globals.tables.tables (s ∷ []) app.schema.tables h.tables; sequences = h.sequences; cookies = h.cookies; vals = h.vals; functions = h.functions };
  fields = refl;
  home = refl;
}

pub sequence_grows : (app : Typed) (x : List ℕ) (z : Sofar) → Grows app z (with_named_sequence x z)
sequence_grows app x z = record {
  tallied = λ t. record { functions = t.functions; vals = t.vals; datatypes = t.datatypes; variants = t.variants; cookies = t.cookies; sequences = longer_suc z.sequences (full_name z x) (length z.place.globals.sequences) t.sequences };
  held = λ h. record { datatypes = h.datatypes; variants = h.variants; tables = h.tables; sequences = begins_before z.sequences (full_name z x ∷ []) app.schema.sequences h.sequences; cookies = h.cookies; vals = h.vals; functions = h.functions };
  fields = refl;
  home = refl;
}

pub cookie_grows : (app : Typed) (x : List ℕ) (z : Sofar) (k : ColumnKind) → Grows app z (with_named_cookie x z k)
cookie_grows app x z k = record {
  tallied = λ t. record { functions = t.functions; vals = t.vals; datatypes = t.datatypes; variants = t.variants; cookies = longer_suc z.cookies (full_name z x, k) (length z.place.globals.cookies) t.cookies; sequences = t.sequences };
  held = λ h. record { datatypes = h.datatypes; variants = h.variants; tables = h.tables; sequences = h.sequences; cookies = begins_before z.cookies ((full_name z x, k) ∷ []) app.cookies h.cookies; vals = h.vals; functions = h.functions };
  fields = refl;
  home = refl;
}

abbrev pub a_function : ℕ → List ℕ → Head → FunctionHead
a_function m n h = record { «module» = m; name = n; head = h }

pub head_grows : (app : Typed) (home : ℕ) (f : FunDef) (z : Sofar) (h : Heading) → Grows app z (with_head home f z h)
head_grows app home f z h = record {
  tallied = λ t. record { functions = longer z.functions (a_function home f.name h.head) z.place.functions t.functions; vals = t.vals; datatypes = t.datatypes; variants = t.variants; cookies = t.cookies; sequences = t.sequences };
  held = λ k. record { datatypes = k.datatypes; variants = k.variants; tables = k.tables; sequences = k.sequences; cookies = k.cookies; vals = k.vals; functions = begins_before z.functions (a_function home f.name h.head ∷ []) (map headed app.functions) k.functions };
  fields = refl;
  home = refl;
}

pub val_grows : (app : Typed) (x : List ℕ) (z : Sofar) (u : NormalType) → Grows app z (with_val_of x z u)
val_grows app x z u = record {
  tallied = λ t. record { functions = t.functions; vals = longer z.vals u z.place.vals t.vals; datatypes = t.datatypes; variants = t.variants; cookies = t.cookies; sequences = t.sequences };
  held = λ h. record { datatypes = h.datatypes; variants = h.variants; tables = h.tables; sequences = h.sequences; cookies = h.cookies; vals = begins_before z.vals (u ∷ []) (map val_of app.vals) h.vals; functions = h.functions };
  fields = refl;
  home = refl;
}
