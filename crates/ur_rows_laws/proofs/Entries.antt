-- The names of an environment, and what these stand for where its variables stand for constructors.
use Rattle.std.proofs.Common.{◌≡◌, refl, ap, sym, ◌∙◌, subst, ℕ, suc, ◌+◌, ◌≤◌, ◌&&◌, true, false, true≢false, List, [], ◌∷◌, slice_get, slice_index_or, Option, Some, None, IsTrue, arith}
use Rattle.ur_syntax.specs.declared.kind.Kind.{Kind}
use Rattle.ur_syntax.specs.declared.kind.Kind.TheVariants as kind
use Rattle.ur_syntax.specs.declared.con.ConName.{ConName}
use Rattle.ur_syntax.specs.declared.con.ConMeaning.{ConMeaning}
use Rattle.ur_syntax.specs.declared.con.ConMeaning.TheVariants as meaning
use Rattle.ur_syntax.specs.declared.con.ConEntry.{ConEntry}
use Rattle.ur_syntax.specs.declared.con.ConEnv.{ConEnv}
use Rattle.ur_syntax.specs.Kinds.{is_plain}
use Rattle.ur_syntax.specs.HasKind.{Scope, scope_after, scope_in}
use Rattle.ur_rows.specs.declared.normal.Var.TheVariants as var
use Rattle.ur_rows.specs.declared.normal.NormalType.TheVariants as ty
use Rattle.ur_rows.specs.declared.normal.Normal.{Normal}
use Rattle.ur_rows.specs.declared.normal.Normal.TheVariants as normal
use Rattle.ur_rows.specs.Made.{unit}
use Rattle.ur_rows.specs.IsNormal.{is_normal, is_row, all_normal_parts}
use Rattle.ur_rows.specs.Kinded.{is_of_kind, is_star, is_name, is_row as is_of_row}
use Rattle.ur_rows.specs.Order.{joined}
use Rattle.ur_rows.specs.Put.{Putting, as_type, as_label, as_row, put, raising, arguments}
use Rattle.ur_rows.specs.Normal.{Known, variable, at_home, entry_form, variables_with, known_after, known_in}
use Rattle.ur_rows.specs.Laws.{home_of, MeaningHas, EntriesHave, IsKindedEnv}
use Rattle.ur_rows.proofs.Order.{and-left, joined-nil}
use Rattle.ur_rows.proofs.InOrder.{nf_with-normal}
use Rattle.ur_rows_laws.specs.Instances.{outside, are_of_kinds, EachNormal}
use Rattle.ur_rows_laws.proofs.Kept.{nth-of-kind}
use Rattle.ur_rows_laws.proofs.Closed.{Free, arguments-proper, arguments-pass}
use Rattle.ur_rows_laws.proofs.Passing.{plus-none, Anywhere}
use Rattle.ur_rows_laws.proofs.Applied.{past-argument}
use Rattle.ur_rows_laws.specs.Reading.{form_at, known_with, kinds_with, variable_kinds, FormOfInstance}
use Rattle.ur_rows_laws.proofs.ReadingLawsForms.{FormIn, a_type, a_name, a_row, done, Goes, Both}
use Rattle.ur_rows_laws.proofs.Names.{Held, NameIs, Related, sees}
use Rattle.ur_rows_laws.proofs.Reading.{raised-nothing, nf-both}
use Rattle.ur_rows_laws.proofs.Fresh.{raising-goes, IsRead}

arguments-go : (free kinds : List Kind) (args : List Normal) → EachNormal args → are_of_kinds (outside free) args kinds ≡ true → Goes (Free kinds) (arguments args)
arguments-go free kinds args e o = record {
  proper = arguments-proper args e;
  passes = arguments-pass free kinds args e o;
  past = λ k u0 n a s h. past-argument free kinds args e o k u0 n a s h;
}

abbrev at : List Normal → ℕ → Normal
at args n = slice_index_or args n (normal.Type unit)

no : {A : Type 0} → false ≡ true → A
no e = absurd (true≢false (sym e))

none-more : 0 ≤ 0
none-more = omega arith

-- what an entry stands for in both readings
entry-is : {σ : Putting} {kinds : List Kind} {k : Kind} {n m : Normal} → is_normal n ≡ true → is_normal m ≡ true → Both σ (outside kinds) 0 k n m → NameIs σ (outside kinds) 0 0 0 k (0, n) (0, m)
entry-is {σ} {kinds} {k} {n} {m} e f b = record {
  inside = none-more;
  inside_too = none-more;
  kinds = subst (FormIn (outside kinds) k) (sym (raised-nothing n e)) b.kinds;
  form = raised-nothing m f ∙ b.form ∙ ap (put σ 0) (sym (raised-nothing n e));
}

-- ---- a variable

type-here : (free kinds : List Kind) (args : List Normal) (n : ℕ) → slice_get kinds n ≡ Some kind.Star → (a : Normal) → at args n ≡ a → is_of_kind (outside free) a kind.Star ≡ true →
    Both (arguments args) (outside kinds) 0 kind.Star (variable kind.Star (var.Free n)) a
type-here free kinds args n s (normal.Type t) e o = record { kinds = a_type (ap is_star s); form = sym (ap (λ z. normal.Type (as_type z)) e) }
type-here free kinds args n s (normal.Name l) e o = no o
type-here free kinds args n s (normal.Row r) e o = no o
type-here free kinds args n s (normal.Fn' k _ c) e o = no o

name-here : (free kinds : List Kind) (args : List Normal) (n : ℕ) → slice_get kinds n ≡ Some kind.Name → (a : Normal) → at args n ≡ a → is_of_kind (outside free) a kind.Name ≡ true →
    Both (arguments args) (outside kinds) 0 kind.Name (variable kind.Name (var.Free n)) a
name-here free kinds args n s (normal.Type t) e o = no o
name-here free kinds args n s (normal.Name l) e o = record { kinds = a_name (ap is_name s); form = sym (ap (λ z. normal.Name (as_label z)) e) }
name-here free kinds args n s (normal.Row r) e o = no o
name-here free kinds args n s (normal.Fn' k _ c) e o = no o

row-here : (free kinds : List Kind) (args : List Normal) (n : ℕ) → EachNormal args → slice_get kinds n ≡ Some kind.Row → (a : Normal) → at args n ≡ a → is_of_kind (outside free) a kind.Row ≡ true →
    Both (arguments args) (outside kinds) 0 kind.Row (variable kind.Row (var.Free n)) a
row-here free kinds args n g s (normal.Type t) e o = no o
row-here free kinds args n g s (normal.Name l) e o = no o
row-here free kinds args n g s (normal.Row r) e o = record {
  kinds = a_row (ap (λ b. b && true) (ap is_of_row s));
  form = sym (ap (λ z. normal.Row (joined (as_row z) [])) e ∙ ap (λ z. normal.Row z) (joined-nil r (and-left (is_row r) (all_normal_parts r) (sym (ap is_normal e) ∙ g n))));
}
row-here free kinds args n g s (normal.Fn' k _ c) e o = no o

variable-here : (free kinds : List Kind) (args : List Normal) → EachNormal args → are_of_kinds (outside free) args kinds ≡ true → (n : ℕ) (k : Kind) → IsTrue (is_plain k) → slice_get kinds n ≡ Some k →
    Both (arguments args) (outside kinds) 0 k (variable k (var.Free n)) (at args n)
variable-here free kinds args e o n kind.Star p s = type-here free kinds args n s (at args n) refl (nth-of-kind (outside free) args kinds n kind.Star o s)
variable-here free kinds args e o n kind.Name p s = name-here free kinds args n s (at args n) refl (nth-of-kind (outside free) args kinds n kind.Name o s)
variable-here free kinds args e o n kind.Row p s = row-here free kinds args n e s (at args n) refl (nth-of-kind (outside free) args kinds n kind.Row o s)
variable-here free kinds args e o n (kind.Arrow' _ x _ y) p s = no p

variable-in : (kinds : List Kind) (n : ℕ) (k : Kind) → IsTrue (is_plain k) → slice_get kinds n ≡ Some k → FormIn (outside kinds) k (variable k (var.Free n))
variable-in kinds n kind.Star p s = a_type (ap is_star s)
variable-in kinds n kind.Name p s = a_name (ap is_name s)
variable-in kinds n kind.Row p s = a_row (ap (λ b. b && true) (ap is_of_row s))
variable-in kinds n (kind.Arrow' _ x _ y) p s = no p

variable-normal : (k : Kind) (n : ℕ) → is_normal (variable k (var.Free n)) ≡ true
variable-normal kind.Star n = refl
variable-normal kind.Name n = refl
variable-normal kind.Row n = refl
variable-normal (kind.Arrow' _ x _ y) n = refl

-- ---- an entry

abbrev Names : Type 0
Names = List (ConName × Held)

-- the names that a module sees outside all functions
abbrev so : List ℕ → Names → Known
so home names = record { home = home; depth = 0; names = names }

-- what is left of the kinds of the variables
abbrev Left : List Kind → ℕ → List Kind → Type 0
Left kinds n ks = (i : ℕ) (k : Kind) → slice_get ks i ≡ Some k → slice_get kinds (n + i) ≡ Some k

all-left : (kinds : List Kind) → Left kinds 0 kinds
all-left kinds i j f = ap (slice_get kinds) (same i) ∙ f where
  same : (i : ℕ) → 0 + i ≡ i
  same i = omega arith

left-next : (kinds : List Kind) (m : ConMeaning) (k : Kind) (ks : List Kind) (n : ℕ) → Left kinds n (kinds_with m k ks) → Left kinds (variables_with m n) ks
left-next kinds meaning.Variable k ks n l = λ i j e. ap (slice_get kinds) (further n i) ∙ l (suc i) j e where
  further : (n i : ℕ) → n + 1 + i ≡ n + suc i
  further n i = omega arith
left-next kinds (meaning.Defined c) k ks n l = l
left-next kinds (meaning.Datatype d) k ks n l = l

at-home-related : (kinds : List Kind) (σ : Putting) (scope : Scope) (h : List ℕ) (ns ms : Names) (home : Option (List ℕ)) → Related (Free kinds) σ (outside kinds) 0 scope (so h ns) (so h ms) →
    Related (Free kinds) σ (outside kinds) 0 (home_of home scope) (at_home home (so h ns)) (at_home home (so h ms))
at-home-related kinds σ scope h ns ms None r = r
at-home-related kinds σ scope h ns ms (Some m) r = record { home = refl; home_too = refl; names = r.names; within = r.within }

entry-both : (free kinds : List Kind) (args : List Normal) → EachNormal args → are_of_kinds (outside free) args kinds ≡ true → (scope : Scope) (h : List ℕ) (ns ms : Names) (n : ℕ) (home : Option (List ℕ)) (k : Kind) (m : ConMeaning) (ks : List Kind) →
    Related (Free kinds) (arguments args) (outside kinds) 0 scope (so h ns) (so h ms) → MeaningHas (home_of home scope) m k → Left kinds n (kinds_with m k ks) →
    Both (arguments args) (outside kinds) 0 k (entry_form (so h ns) n home k m) (form_at args (so h ms) n home m)
entry-both free kinds args e o scope h ns ms n home k meaning.Variable ks r p l = variable-here free kinds args e o n k p (ap (slice_get kinds) (plus-none n) ∙ l 0 k refl)
entry-both free kinds args e o scope h ns ms n home k (meaning.Defined c) ks r p l =
    nf-both (arguments-go free kinds args e o) p (at_home home (so h ns)) (at_home home (so h ms)) (outside kinds) 0 (sees (at-home-related kinds (arguments args) scope h ns ms home r)) [] k done
entry-both free kinds args e o scope h ns ms n home k (meaning.Datatype d) ks r p l = subst (λ z. Both (arguments args) (outside kinds) 0 z (normal.Type (ty.Datatype d)) (normal.Type (ty.Datatype d))) (sym p) datatype where
  datatype : Both (arguments args) (outside kinds) 0 kind.Star (normal.Type (ty.Datatype d)) (normal.Type (ty.Datatype d))
  datatype = record { kinds = a_type refl; form = refl }

entry-normal : (known : Known) (n : ℕ) (home : Option (List ℕ)) (k : Kind) (m : ConMeaning) → is_normal (entry_form known n home k m) ≡ true
entry-normal known n home k meaning.Variable = variable-normal k n
entry-normal known n home k (meaning.Defined c) = nf_with-normal (at_home home known) c.form [] refl
entry-normal known n home k (meaning.Datatype d) = refl

form-normal : (args : List Normal) → EachNormal args → (known : Known) (n : ℕ) (home : Option (List ℕ)) (m : ConMeaning) → is_normal (form_at args known n home m) ≡ true
form-normal args e known n home meaning.Variable = e n
form-normal args e known n home (meaning.Defined c) = nf_with-normal (at_home home known) c.form [] refl
form-normal args e known n home (meaning.Datatype d) = refl

-- ---- all entries

entries-related : (free kinds : List Kind) (args : List Normal) → EachNormal args → are_of_kinds (outside free) args kinds ≡ true → (scope : Scope) (h : List ℕ) (ns ms : Names) (n : ℕ) (es : List ConEntry) →
    Related (Free kinds) (arguments args) (outside kinds) 0 scope (so h ns) (so h ms) → EntriesHave scope es → Left kinds n (variable_kinds es) →
    Related (Free kinds) (arguments args) (outside kinds) 0 (scope_after scope es) (known_after (so h ns) n es) (known_with args (so h ms) n es)
entries-related free kinds args e o scope h ns ms n [] r p l = r
entries-related free kinds args e o scope h ns ms n (x ∷ es) r p l =
    entries-related free kinds args e o (record scope { names = (x.name, x.kind) ∷ scope.names }) h ((x.name, (0, entry_form (so h ns) n x.name.home x.kind x.meaning)) ∷ ns)
    ((x.name, (0, form_at args (so h ms) n x.name.home x.meaning)) ∷ ms) (variables_with x.meaning n) es
    (record {
      home = r.home;
      home_too = r.home_too;
      names = (
        refl,
        refl,
        entry-is (entry-normal (so h ns) n x.name.home x.kind x.meaning) (form-normal args e (so h ms) n x.name.home x.meaning)
            (entry-both free kinds args e o scope h ns ms n x.name.home x.kind x.meaning (variable_kinds es) r p.0 l),
        r.names,
      );
      within = r.within;
    }) p.1 (left-next kinds x.meaning x.kind (variable_kinds es) n l)

pub of-instance : (env : ConEnv) → FormOfInstance env
of-instance env free args c k p h e o = Both.form (nf-both (arguments-go free (variable_kinds env.entries) args e o) h (known_in env) (known_with args (so env.home []) 0 env.entries) (outside (variable_kinds env.entries)) 0 (sees all) [] k done) where
  all : Related (Free (variable_kinds env.entries)) (arguments args) (outside (variable_kinds env.entries)) 0 (scope_in env) (known_in env) (known_with args (so env.home []) 0 env.entries)
  all = entries-related free (variable_kinds env.entries) args e o (record { home = env.home; names = [] }) env.home [] [] 0 env.entries (record { home = refl; home_too = refl; names = tt; within = refl }) p (all-left (variable_kinds env.entries))

-- ---- the names alone

kinds-both : (kinds : List Kind) (scope : Scope) (h : List ℕ) (ns : Names) (n : ℕ) (home : Option (List ℕ)) (k : Kind) (m : ConMeaning) (ks : List Kind) → Related Anywhere (raising 0) (outside kinds) 0 scope (so h ns) (so h ns) →
    MeaningHas (home_of home scope) m k → Left kinds n (kinds_with m k ks) → FormIn (outside kinds) k (entry_form (so h ns) n home k m)
kinds-both kinds scope h ns n home k meaning.Variable ks r p l = variable-in kinds n k p (ap (slice_get kinds) (plus-none n) ∙ l 0 k refl)
kinds-both kinds scope h ns n home k (meaning.Defined c) ks r p l = Both.kinds (nf-both (raising-goes 0) p (at_home home (so h ns)) (at_home home (so h ns)) (outside kinds) 0 (sees (home-related home)) [] k done) where
  home-related : (home : Option (List ℕ)) → Related Anywhere (raising 0) (outside kinds) 0 (home_of home scope) (at_home home (so h ns)) (at_home home (so h ns))
  home-related None = r
  home-related (Some m) = record { home = refl; home_too = refl; names = r.names; within = r.within }
kinds-both kinds scope h ns n home k (meaning.Datatype d) ks r p l = subst (λ z. FormIn (outside kinds) z (normal.Type (ty.Datatype d))) (sym p) (a_type refl)

read-related : (kinds : List Kind) (scope : Scope) (h : List ℕ) (ns : Names) (n : ℕ) (es : List ConEntry) → Related Anywhere (raising 0) (outside kinds) 0 scope (so h ns) (so h ns) → EntriesHave scope es → Left kinds n (variable_kinds es) →
    Related Anywhere (raising 0) (outside kinds) 0 (scope_after scope es) (known_after (so h ns) n es) (known_after (so h ns) n es)
read-related kinds scope h ns n [] r p l = r
read-related kinds scope h ns n (x ∷ es) r p l =
    read-related kinds (record scope { names = (x.name, x.kind) ∷ scope.names }) h ((x.name, (0, entry_form (so h ns) n x.name.home x.kind x.meaning)) ∷ ns) (variables_with x.meaning n) es
    (record {
      home = r.home;
      home_too = r.home_too;
      names = (
        refl,
        refl,
        entry-is (entry-normal (so h ns) n x.name.home x.kind x.meaning) (entry-normal (so h ns) n x.name.home x.kind x.meaning)
            (record { kinds = kinds-both kinds scope h ns n x.name.home x.kind x.meaning (variable_kinds es) r p.0 l; form = sym (raised-nothing (entry_form (so h ns) n x.name.home x.kind x.meaning) (entry-normal (so h ns) n x.name.home x.kind x.meaning)) }),
        r.names,
      );
      within = tt;
    }) p.1 (left-next kinds x.meaning x.kind (variable_kinds es) n l)

pub environment-read : (env : ConEnv) → IsKindedEnv env → IsRead (outside (variable_kinds env.entries)) 0 (scope_in env) (known_in env)
environment-read env p = sees (read-related (variable_kinds env.entries) (record { home = env.home; names = [] }) env.home [] 0 env.entries (record { home = refl; home_too = refl; names = tt; within = tt }) p (all-left (variable_kinds env.entries)))
