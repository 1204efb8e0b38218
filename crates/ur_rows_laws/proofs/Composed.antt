-- A function of types that does one function after another has the form of the composition.
use Rattle.std.proofs.Common.{◌≡◌, refl, ap, ap₂, sym, ◌∙◌, ℕ, suc, Bool, true, false, List, [], ◌∷◌, Some, None, codes, if◌then◌else◌}
use Rattle.std.proofs.lemmas.Slice.Eq.{bytes_eq-Decides}
use Rattle.ur_base.specs.declared.refusal.Span.{Span}
use Rattle.ur_syntax.specs.declared.kind.Kind.TheVariants as kind
use Rattle.ur_syntax.specs.declared.con.ConForm.{ConForm}
use Rattle.ur_syntax.specs.declared.con.ConForm.TheVariants as con
use Rattle.ur_syntax.specs.declared.con.ConEnv.{ConEnv}
use Rattle.ur_syntax.specs.Names.{own, seen}
use Rattle.ur_syntax.specs.Kinds.{arrow}
use Rattle.ur_syntax.specs.Forms.{fn_con, apply_con, map_con}
use Rattle.ur_syntax.specs.HasKind.{HasKind, Scope, kind_known}
use Rattle.ur_rows.specs.declared.normal.Var.{Var}
use Rattle.ur_rows.specs.declared.normal.Var.TheVariants as var
use Rattle.ur_rows.specs.declared.normal.Label.TheVariants as label
use Rattle.ur_rows.specs.declared.normal.NormalType.{NormalType}
use Rattle.ur_rows.specs.declared.normal.NormalType.TheVariants as ty
use Rattle.ur_rows.specs.declared.normal.Part.TheVariants as part
use Rattle.ur_rows.specs.declared.normal.Normal.{Normal}
use Rattle.ur_rows.specs.declared.normal.Normal.TheVariants as normal
use Rattle.ur_rows.specs.IsNormal.{is_normal_type}
use Rattle.ur_rows.specs.Kinded.{Variables, kind_at, with_bound, is_name, is_row, type_is_in}
use Rattle.ur_rows.specs.Put.{as_type, as_row, put_type, raised_var, raised_type, raised, raising, at_fn, nearer, is_here, type_at, argument, applied_once, composed, mapped_row}
use Rattle.ur_rows.specs.Normal.{Known, or_raised, known_in, variable, within, as_function, name_with, nf_with, nf_form}
use Rattle.ur_rows.specs.Laws.{HasMap}
use Rattle.ur_rows.proofs.Order.{joined-nil}
use Rattle.ur_rows.proofs.PutAfter.{composed-itself, Stands, low, here, high}
use Rattle.ur_rows.proofs.InOrder.{nf_with-normal, as_function-normal}
use Rattle.ur_rows.proofs.Kinding.{map-unknown}
use Rattle.ur_rows.proofs.FourLaws.{of_map}
use Rattle.ur_rows_laws.proofs.Kept.{not-here}
use Rattle.ur_rows_laws.proofs.Levels.{stands, at-low, at-high, at-composed}
use Rattle.ur_rows_laws.proofs.After.{ComposesIn, type-after, Proper, put-mapped}
use Rattle.ur_rows_laws.proofs.Passing.{OfTypes, never-here}
use Rattle.ur_rows_laws.proofs.Applying.{argument-proper}
use Rattle.ur_rows_laws.specs.Instances.{outside}
use Rattle.ur_rows_laws.specs.Reading.{variable_kinds, is_built, MapOfWritten}
use Rattle.ur_rows_laws.proofs.ReadingLawsForms.{FormIn, a_type, a_function, done, more, function-in}
use Rattle.ur_rows_laws.proofs.Names.{own-first}
use Rattle.ur_rows_laws.proofs.Reading.{none-left}
use Rattle.ur_rows_laws.proofs.Fresh.{IsRead, nf-kinds, inner-read, fresh-form}
use Rattle.ur_rows_laws.proofs.Given.{nf-given}
use Rattle.ur_rows_laws.proofs.Entries.{environment-read}

-- ---- a type put into a function that stands within one more

at-other : {A : Type 0} (d : ℕ) (v : Var) (x : A) (f : Var → A) → is_here d v ≡ false → at_fn 0 d v x f ≡ f (nearer 0 d v)
at-other d (var.Free m) x f e = refl
at-other d (var.Bound i) x f e = go (stands i d) where
  go : Stands i d → at_fn 0 d (var.Bound i) x f ≡ f (nearer 0 d (var.Bound i))
  go (low z) = at-low 0 d i x f z ∙ sym (ap f (at-low 0 d i (var.Bound d) (λ w. w) z))
  go (here z) = absurd (never-here i d z e)
  go (high z) = at-high 0 d i x f z ∙ sym (ap f (at-high 0 d i (var.Bound d) (λ w. w) z))

composes : (t : NormalType) → ComposesIn (λ a b c vs. OfTypes vs c × (b ≡ suc c) × (a ≡ c)) (argument (normal.Type t)) (raising 1) (type_at 0 t)
composes t = record {
  deeper = λ o a b c vs s. (s.0, ap (λ z. suc z) s.1, ap (λ z. suc z) s.2);
  types = λ a b c vs s v h. ap₂ (λ x y. at_fn 1 x (raised_var 1 y v) (raised_type x t) (λ w. ty.Variable w)) s.2 s.1 ∙ at-composed c v (raised_type c t) (λ w. ty.Variable w);
  labels = λ a b c vs s v h. ap₂ (λ x y. at_fn 1 x (raised_var 1 y v) (label.Literal []) (λ w. label.Variable w)) s.2 s.1 ∙ at-composed c v (label.Literal []) (λ w. label.Variable w) ∙
      at-other c v (label.Literal []) (λ w. label.Variable w) (not-here is_name refl vs c s.0 v h);
  rows = λ a b c vs s v h. joined-nil ((argument (normal.Type t)).rows a (raised_var 1 b v)) (Proper.sorted (argument-proper (normal.Type t)) a (raised_var 1 b v)) ∙ rows a b c vs s v h;
  maps = λ a b c vs s v h f i. put-mapped (argument-proper (normal.Type t)) a (raised_var 1 b v) (put_type (raising 1) (suc b) f) ∙ ap (mapped_row (put_type (argument (normal.Type t)) (suc a) (put_type (raising 1) (suc b) f))) (rows a b c vs s v h);
} where
  rows : (a b c : ℕ) (vs : Variables) → OfTypes vs c × (b ≡ suc c) × (a ≡ c) → (v : Var) → is_row (kind_at vs v) ≡ true → (argument (normal.Type t)).rows a (raised_var 1 b v) ≡ part.Piece (nearer 0 c v) ∷ []
  rows a b c vs s v h = ap₂ (λ x y. at_fn 1 x (raised_var 1 y v) [] (λ w. part.Piece w ∷ [])) s.2 s.1 ∙ at-composed c v [] (λ w. part.Piece w ∷ []) ∙ at-other c v [] (λ w. part.Piece w ∷ []) (not-here is_row refl vs c s.0 v h)

once-raised : (vs : Variables) (n : Normal) (t : NormalType) → FormIn vs (arrow kind.Star kind.Star) n → applied_once (raised 1 n) (normal.Type t) ≡ normal.Type (composed (as_function n) t)
once-raised vs _ t (a_function p (a_type {t = f} e)) = ap (λ z. normal.Type z) (type-after (composes t) 0 1 0 (with_bound kind.Star vs) (refl, refl, refl) f e)

-- ---- one function after another

variable-seen : (known : Known) (x : List ℕ) → nf_with (within x kind.Star known) (con.Var x) [] ≡ normal.Type (ty.Variable (var.Bound 0))
variable-seen known x = ap (λ z. name_with (or_raised (suc known.depth) z) x []) (own-first known.home x x (suc known.depth, variable kind.Star (var.Bound 0)) known.names ∙
    ap (λ (b : Bool). if b then Some (suc known.depth, variable kind.Star (var.Bound 0)) else seen known.home (own x) known.names) ((bytes_eq-Decides x x).1 refl)) ∙
    ap (λ z. raised z (variable kind.Star (var.Bound 0))) (none-left (suc known.depth))

at-type : {scope : Scope} {c : ConForm} (vs : Variables) (d : ℕ) (known : Known) (x : List ℕ) (t : NormalType) → kind_known (own x) scope ≡ None → is_built x ≡ false → IsRead vs d scope known → HasKind scope c (arrow kind.Star kind.Star) →
    type_is_in (with_bound kind.Star vs) t ≡ true → is_normal_type t ≡ true → nf_with (within x kind.Star known) c (normal.Type t ∷ []) ≡ normal.Type (composed (as_function (nf_with known c [])) t)
at-type {scope = scope} {c = c} vs d known x t e f r h i n = nf-given h (with_bound kind.Star vs) d (within x kind.Star known) (inner-read vs d scope known x kind.Star e f r) (more refl (a_type i) n done) ∙
    ap (λ z. applied_once z (normal.Type t)) (fresh-form vs d known x kind.Star e f r h) ∙ once-raised vs (nf_with known c []) t (nf-kinds vs d known r h)

itself-in : (vs : Variables) → type_is_in (with_bound kind.Star vs) (ty.Variable (var.Bound 0)) ≡ true
itself-in vs = refl

after-in : (p q s t : Span) {scope : Scope} {f g : ConForm} (vs : Variables) (d : ℕ) (known : Known) (x : List ℕ) → kind_known (own x) scope ≡ None → is_built x ≡ false → IsRead vs d scope known → HasKind scope f (arrow kind.Star kind.Star) →
    HasKind scope g (arrow kind.Star kind.Star) → nf_with (within x kind.Star known) (apply_con p f q (apply_con s g t (con.Var x))) [] ≡ normal.Type (composed (as_function (nf_with known f [])) (as_function (nf_with known g [])))
after-in p q s t {f = f} {g = g} vs d known x e u r hf hg = ap (λ z. nf_with (within x kind.Star known) f (z ∷ [])) first ∙
    at-type vs d known x (as_function (nf_with known g [])) e u r hf (function-in (nf-kinds vs d known r hg)) (as_function-normal (nf_with known g []) (nf_with-normal known g [] refl)) where
      first : nf_with (within x kind.Star known) g (nf_with (within x kind.Star known) (con.Var x) [] ∷ []) ≡ normal.Type (as_function (nf_with known g []))
      first = ap (λ z. nf_with (within x kind.Star known) g (z ∷ [])) (variable-seen known x) ∙ at-type vs d known x (ty.Variable (var.Bound 0)) e u r hg (itself-in vs) refl ∙
          ap (λ z. normal.Type z) (composed-itself (as_function (nf_with known g [])) (as_function-normal (nf_with known g []) (nf_with-normal known g [] refl)))

-- a map in normal form
map-form : (env : ConEnv) (p o q t : Span) (f r : ConForm) → HasMap env → nf_form env (map_con p o q f t r) ≡ normal.Row (mapped_row (as_function (nf_form env f)) (as_row (nf_form env r)))
map-form env p o q t f r w = ap (λ z. name_with z (codes "map") (nf_form env f ∷ nf_form env r ∷ [])) (map-unknown env w)

pub of-written : (env : ConEnv) → MapOfWritten env
of-written env at x f g r k w hf hg fresh = (of_map env).maps at f g r w ∙
    ap (λ z. normal.Row (mapped_row z (as_row (nf_form env r)))) (sym (ap as_type (after-in (at 12) (at 13) (at 14) (at 15) (outside (variable_kinds env.entries)) 0 (known_in env) x fresh.0 fresh.1 (environment-read env k) hf hg))) ∙
    sym (map-form env (at 8) (at 9) (at 10) (at 16) (fn_con x kind.Star (at 11) (apply_con (at 12) f (at 13) (apply_con (at 14) g (at 15) (con.Var x)))) r w)
