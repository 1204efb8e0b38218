-- What the walk gives of a body resolves and has its type by the rules, where all of the project is declared.
use Rattle.std.proofs.Common.{arith, ◌≡◌, ◌∙◌, refl, subst, Some, Option, List, [], ◌∷◌, ◌++◌, ℕ, zero, suc, map}
use Rattle.std.specs.Prelude.{◌≤◌, slice_get}
use Rattle.ur_syntax.specs.declared.exp.ExpForm.{ExpForm}
use Rattle.ur_rows.specs.declared.normal.NormalType.{NormalType}
use Rattle.ur_tree.specs.declared.typed.Typed.{Typed}
use Rattle.ur_tree.specs.Heads.{Declared as Heads, declared_of}
use Rattle.ur_tree.specs.App.{BodyFits}
use Rattle.ur_tree.specs.Occurrences.{occurrences}
use Rattle.ur_typed_rules.specs.Scopes.{Scope, Mode, wants}
use Rattle.ur_typed_rules.proofs.Options.{some_of}
use Rattle.ur_typed.specs.Resolves.{Resolves}
use Rattle.ur_typed.specs.Project.{Place, statements}
use Rattle.ur_typed.specs.Rules.{Sites, Out}
use Rattle.ur_typed.specs.Walking.{typed}
use Rattle.ur_typed.specs.Declaring.{Sofar, world_behind}
use Rattle.ur_typed_laws.specs.Judged.{Fills, Numbered, stated, IsSound, TypedIsSound}
use Rattle.ur_typed_laws.proofs.Wider.{wider}
use Rattle.ur_typed_laws.proofs.Bodies.{bare, world, with_vals}
use Rattle.ur_typed_laws.proofs.Extending.{Begins}
use Rattle.ur_typed_laws.proofs.Begun.{begins_before, begun_get}

-- ---- more is declared

-- What the walk gives behind `z` it gives where all of `app` is declared, with all `val`s or those behind it alone.
pub record Widens (app : Typed) (most : ℕ) (z : Sofar) : Type 0 where
  pub all : (x : ExpForm) (s : Scope) (st : Sites) (m : Mode) (o : Out) → typed (world_behind most z) x s st m ≡ Some o → typed (world app.names (bare app) most z.place) x s st m ≡ Some o
  pub before : (x : ExpForm) (s : Scope) (st : Sites) (m : Mode) (o : Out) → typed (world_behind most z) x s st m ≡ Some o → typed (world app.names (with_vals z.place.vals (bare app)) most z.place) x s st m ≡ Some o

-- ---- statements

-- the statements so far begin those of `app`
pub record HasStatements (app : Typed) (st : Sites) : Type 0 where
  pub queries : Begins st.queries (map (λ q. Some q) app.queries)
  pub changes : Begins st.changes (map (λ u. Some u) app.changes)

-- what stands in a mapped list
pub map_got : {A B : Type 0} (f : A → B) (xs : List A) (n : ℕ) (y : B) → slice_get (map f xs) n ≡ Some y → (x : A) × (slice_get xs n ≡ Some x) × (f x ≡ y)
map_got f [] n y h = cc
map_got f (x ∷ xs) zero y h = (x, refl, some_of h)
map_got f (x ∷ xs) (suc n) y h = map_got f xs n y h

stands : {A : Type 0} (os : List (Option A)) (xs : List A) (n : ℕ) (a : A) → Begins os (map (λ x. Some x) xs) → slice_get os n ≡ Some (Some a) → slice_get xs n ≡ Some a
stands os xs n a b h =
    let i = map_got (λ x. Some x) xs n (Some a) (begun_get os (map (λ x. Some x) xs) n (Some a) b h) in i.1 ∙ i.2

filling : (app : Typed) (most : ℕ) (p : Place) (hs : Heads) (st : Sites) → HasStatements app st → Fills (world app.names hs most p) (statements app) st
filling app most p hs st h = record { names = refl; queries = λ n q e. stands st.queries app.queries n q h.queries e; changes = λ n u e. stands st.changes app.changes n u h.changes e }

begun_before : {A : Type 0} (xs ys zs all : List A) → ys ≡ xs ++ zs → Begins ys all → Begins xs all
begun_before xs ys zs all e b = begins_before xs zs all (subst (λ z. Begins z all) e b)

-- ---- a body

pub record BodyIs (app : Typed) (most : ℕ) (p : Place) (hs : Heads) (x : ExpForm) (s : Scope) (st : Sites) (t : NormalType) (o : Out) : Type 0 where
  pub resolves : Resolves (statements app) most p.globals hs s.names x o.exp
  pub fits : BodyFits hs most s.env o.exp t
  pub numbered : Numbered st (occurrences o.exp) o.sites
  pub held : HasStatements app st

body_in : TypedIsSound → (app : Typed) (most : ℕ) (p : Place) (hs : Heads) (x : ExpForm) (s : Scope) (st : Sites) (t : NormalType) (o : Out) → typed (world app.names hs most p) x s st (wants t) ≡ Some o → HasStatements app o.sites →
    BodyIs app most p (stated (statements app) (world app.names hs most p)).declared x s st t o
body_in sound app most p hs x s st t o h k =
    let i : IsSound (world app.names hs most p) x s st (wants t) (statements app) o = sound (world app.names hs most p) x s st (wants t) o h (statements app) (filling app most p hs o.sites k) in
    record {
      resolves = i.resolves;
      fits = (i.judged.1, i.judged.2);
      numbered = i.numbered;
      held = record { queries = begun_before st.queries o.sites.queries i.numbered.queries _ i.numbered.all_queries k.queries; changes = begun_before st.changes o.sites.changes i.numbered.changes _ i.numbered.all_changes k.changes };
    }

-- the body of a function
pub body_told : TypedIsSound → (app : Typed) (most : ℕ) (z : Sofar) → Widens app most z → (x : ExpForm) (s : Scope) (st : Sites) (t : NormalType) (o : Out) → typed (world_behind most z) x s st (wants t) ≡ Some o → HasStatements app o.sites → BodyIs app most z.place (declared_of app) x s st t o
body_told sound app most z w x s st t o h k = body_in sound app most z.place (bare app) x s st t o (w.all x s st (wants t) o h) k

same_limit : (n : ℕ) → n ≤ n
same_limit n = omega arith

-- the right side of a `val`, which names the `val`s before it
pub record ValBodyIs (app : Typed) (most : ℕ) (z : Sofar) (x : ExpForm) (s : Scope) (st : Sites) (t : NormalType) (o : Out) : Type 0 where
  pub resolves : Resolves (statements app) most z.place.globals (declared_of app) s.names x o.exp
  pub fits : BodyFits (with_vals z.place.vals (declared_of app)) most s.env o.exp t
  pub numbered : Numbered st (occurrences o.exp) o.sites
  pub held : HasStatements app st

pub val_body_told : TypedIsSound → (app : Typed) (most : ℕ) (z : Sofar) → Widens app most z → (x : ExpForm) (s : Scope) (st : Sites) (t : NormalType) (o : Out) → typed (world_behind most z) x s st (wants t) ≡ Some o → HasStatements app o.sites → ValBodyIs app most z x s st t o
val_body_told sound app most z w x s st t o h k =
    let i : BodyIs app most z.place (with_vals z.place.vals (declared_of app)) x s st t o = body_in sound app most z.place (with_vals z.place.vals (bare app)) x s st t o (w.before x s st (wants t) o h) k in
    record { resolves = wider {hs = with_vals z.place.vals (declared_of app)} {ks = declared_of app} (same_limit most) refl i.resolves; fits = i.fits; numbered = i.numbered; held = i.held }
