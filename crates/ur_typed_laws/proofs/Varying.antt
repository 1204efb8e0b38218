-- The constructors that the function gives of a datatype are those of the rules.
use Rattle.std.proofs.Common.{◌≡◌, ◌∙◌, refl, ap, subst, true, Option, Some, None, List, [], ◌∷◌, ◌++◌, ℕ, length}
use Rattle.std.specs.Prelude.{◌<◌, IsTrue, slice_get}
use Rattle.std.specs.List.{AllByRecursion}
use Rattle.ur_syntax.specs.declared.con.Con.{Con}
use Rattle.ur_syntax.specs.declared.decl.Variant.{Variant as WrittenVariant}
use Rattle.ur_rows.specs.declared.normal.NormalType.{NormalType}
use Rattle.ur_rows.specs.Types.{is_value_type}
use Rattle.ur_tree.specs.declared.typed.Typed.{Typed}
use Rattle.ur_tree.specs.App.{VariantIsTyped}
use Rattle.ur_typed_rules.specs.Rules.{if_so, written_type}
use Rattle.ur_typed_rules.proofs.Options.{some_of, opened, opened_if, mapped}
use Rattle.ur_typed.specs.Project.{Place, with_variant, VariantsResolve}
use Rattle.ur_typed.specs.Project as project
use Rattle.ur_typed.specs.Declaring.{Sofar, world_behind, top_scope, argument_out, with_constructor, variant_out, variants_out}
use Rattle.ur_typed_laws.proofs.Begun.{begun_last}
use Rattle.ur_typed_laws.proofs.Holding.{Holds, Tallied, Grows, grows_self, grows_on, a_variant, constructor_grows}
use Rattle.ur_typed_laws.proofs.Writing.{MayStand, written_stands}

pub all_then : {A : Type 0} (P : A → Type 0) (xs : List A) (x : A) → AllByRecursion P xs → P x → AllByRecursion P (xs ++ x ∷ [])
all_then P [] x a p = (p, tt)
all_then P (y ∷ xs) x a p = (a.0, all_then P xs x a.1 p)

-- ---- one constructor

-- the written argument, and what it comes to
data Argued (most : ℕ) (z : Sofar) : Option Con → Option NormalType → Type 0 where
  no_argument : Argued most z None None
  an_argument : {c : Con} {t : NormalType} → MayStand most (top_scope z) c t → IsTrue (is_value_type t) → Argued most z (Some c) (Some t)

record OneVaries (most k : ℕ) (x : List ℕ) (c : Option Con) (z y : Sofar) : Type 0 where
  arg : Option NormalType
  argued : Argued most z c arg
  is : with_constructor k x arg z ≡ y

one_varies : (most k : ℕ) (x : List ℕ) (c : Option Con) (z y : Sofar) → variant_out most k x c z ≡ Some y → OneVaries most k x c z y
one_varies most k x None z y h = record { arg = None; argued = no_argument; is = some_of h }
one_varies most k x (Some c) z y h =
    let i : (t : NormalType) × (argument_out most z c ≡ Some t) × (with_constructor k x (Some t) z ≡ y) = mapped _ _ y h in
    let j : (u : NormalType) × (written_type (world_behind most z) (top_scope z) c ≡ Some u) × (if_so (is_value_type u) (Some u) ≡ Some i.0) = opened _ _ i.0 i.1 in
    let l : (is_value_type j.0 ≡ true) × (Some j.0 ≡ Some i.0) = opened_if (is_value_type j.0) (Some j.0) i.0 j.2 in
    let e : j.0 ≡ i.0 = some_of l.1 in
    record { arg = Some i.0; argued = subst (λ t. Argued most z (Some c) (Some t)) e (an_argument (written_stands (world_behind most z) (top_scope z) c j.0 j.1) l.0); is = i.2 }

argument_fits : (app : Typed) (most k : ℕ) (x : List ℕ) (z : Sofar) (c : Option Con) (a : Option NormalType) → Argued most z c a → k < length app.datatypes → VariantIsTyped app (a_variant k x a)
argument_fits app most k x z _ _ no_argument l = record { there = l; written = tt; value = tt }
argument_fits app most k x z _ _ (an_argument s v) l = record { there = l; written = s.is_type; value = v }

resolve_one : (app : Typed) (most k : ℕ) (z : Sofar) (v : WrittenVariant) (vs : List WrittenVariant) (q : Place) (c : Option Con) (a : Option NormalType) → v.con ≡ c → Argued most z c a → slice_get app.variants z.place.variants ≡ Some (a_variant k v.name a) →
    VariantsResolve app most k (with_variant v.name z.place) vs q → VariantsResolve app most k z.place (v ∷ vs) q
resolve_one app most k z v vs q _ _ e no_argument g r = project.VariantsResolve.plain e g r
resolve_one app most k z v vs q _ _ e (an_argument s i) g r = project.VariantsResolve.with e s.writes g r

-- ---- all of them

pub record Varied (app : Typed) (most k : ℕ) (vs : List WrittenVariant) (z y : Sofar) : Type 0 where
  pub grows : Grows app z y
  pub functions : y.place.functions ≡ z.place.functions
  pub vals : y.place.vals ≡ z.place.vals
  pub resolve : Holds app y → Tallied z → VariantsResolve app most k z.place vs y.place
  pub typed : k < length app.datatypes → AllByRecursion (VariantIsTyped app) z.variants → AllByRecursion (VariantIsTyped app) y.variants

pub variants_told : (app : Typed) (most k : ℕ) (vs : List WrittenVariant) (z y : Sofar) → variants_out most k vs z ≡ Some y → Varied app most k vs z y
variants_told app most k [] z y h = subst (Varied app most k [] z) (some_of h) (record { grows = grows_self app z; functions = refl; vals = refl; resolve = λ k t. project.VariantsResolve.none; typed = λ l a. a })
variants_told app most k (v ∷ vs) z y h =
    let i : (x : Sofar) × (variant_out most k v.name v.con z ≡ Some x) × (variants_out most k vs x ≡ Some y) = opened _ _ y h in
    let o : OneVaries most k v.name v.con z i.0 = one_varies most k v.name v.con z i.0 i.1 in
    let x : Sofar = with_constructor k v.name o.arg z in
    let g : Grows app z x = constructor_grows app k v.name o.arg z in
    let w : Varied app most k vs x y = variants_told app most k vs x y (ap (variants_out most k vs) o.is ∙ i.2) in
    record {
      grows = grows_on g w.grows;
      functions = w.functions;
      vals = w.vals;
      resolve = λ k' t. resolve_one app most k z v vs y.place v.con o.arg refl o.argued (begun_last z.variants app.variants (a_variant k v.name o.arg) z.place.variants (w.grows.held k').variants t.variants) (w.resolve k' (g.tallied t));
      typed = λ l a. w.typed l (all_then (VariantIsTyped app) z.variants (a_variant k v.name o.arg) a (argument_fits app most k v.name z v.con o.arg o.argued l));
    }
