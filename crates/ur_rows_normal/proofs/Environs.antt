-- What the entries of an environment stand for, and the constructor that is read in it.
use Rattle.std.proofs.Common.{◌≡◌, refl, sym, subst, ℕ, arith, true, List, [], Option, Result, IfOk}
use Rattle.std.proofs.lemmas.Result.{IfOk-weaker}
use Rattle.ur_base.specs.declared.refusal.Memory.{Memory}
use Rattle.ur_syntax.specs.declared.kind.Kind.{Kind}
use Rattle.ur_syntax.specs.declared.con.Con.{Con}
use Rattle.ur_syntax.specs.declared.con.ConName.{ConName}
use Rattle.ur_syntax.specs.declared.con.ConMeaning.{ConMeaning}
use Rattle.ur_syntax.specs.declared.con.ConMeaning.TheVariants as meaning
use Rattle.ur_syntax.specs.declared.con.ConEntry.{ConEntry}
use Rattle.ur_rows.specs.declared.normal.Var.TheVariants as var
use Rattle.ur_rows.specs.declared.normal.NormalType.TheVariants as ty
use Rattle.ur_rows.specs.declared.normal.Normal.{Normal}
use Rattle.ur_rows.specs.declared.normal.Normal.TheVariants as normal
use Rattle.ur_rows.specs.IsNormal.{is_normal}
use Rattle.ur_rows.specs.Normal.{Known, variable, at_home, entry_form, nf_with}
use Rattle.ur_rows.proofs.InOrder.{nf_with-normal}
use Rattle.ur_rows_reduce.specs.declared.held.Held.{Held}
use Rattle.ur_rows_reduce.specs.declared.held.Held.TheVariants as held
use Rattle.ur_rows_normal.specs.declared.names.Entry.{Entry}
use Rattle.ur_rows_normal.specs.declared.names.Scope.{Scope}
use Rattle.ur_rows_reduce.specs.Held.{Holds}
use Rattle.ur_rows_normal.specs.Walk.{Agrees, Tells, IsForm, declared, names_of, known_so, home_in}
use Rattle.ur_rows_normal.proofs.Agreeing.{form-defined}
use Rattle.ur_rows_normal.proofs.Walked.{variable-holds, variable-normal}

pub entry-normal : (known : Known) (n : ℕ) (home : Option (List ℕ)) (k : Kind) (m : ConMeaning) → is_normal (entry_form known n home k m) ≡ true
entry-normal known n home k meaning.Variable = variable-normal k (var.Free n)
entry-normal known n home k (meaning.Defined c) = nf_with-normal (at_home home known) c.form [] refl
entry-normal known n home k (meaning.Datatype d) = refl

abbrev pub Stands : List ℕ → List Entry → ℕ → ConEntry → Held → Type 0
Stands home known n e h = (names : List (ConName × (ℕ × Normal))) → Agrees (declared known []) names → Holds h (entry_form (known_so home names) n e.name.home e.kind e.meaning)

pub stands-variable : (home : List ℕ) (known : List Entry) (n : ℕ) (e : ConEntry) (v : Normal) → e.meaning ≡ meaning.Variable → v ≡ variable e.kind (var.Free n) → Stands home known n e (held.Form v)
stands-variable home known n e v i j names a = subst (λ z. Holds (held.Form v) (entry_form (known_so home names) n e.name.home e.kind z)) (sym i) (variable-holds e.kind (var.Free n) v j)

pub stands-datatype : (home : List ℕ) (known : List Entry) (n d : ℕ) (e : ConEntry) → e.meaning ≡ meaning.Datatype d → Stands home known n e (held.Form (normal.Type (ty.Datatype d)))
stands-datatype home known n d e i names a = subst (λ z. Holds (held.Form (normal.Type (ty.Datatype d))) (entry_form (known_so home names) n e.name.home e.kind z)) (sym i) (refl, omega arith, omega arith)

pub scope-tells : (s : Scope) (known : List (ConName × (ℕ × Held))) (g : List ℕ) (names : List (ConName × (ℕ × Normal))) → s.home.now ≡ g → s.depth ≡ 0 → names_of s.names.now ≡ known → Agrees known names → Tells s (known_so g names)
scope-tells s known g names e f h a = record { home = e; depth = f; names = subst (λ z. Agrees z names) (sym h) a }

-- a constructor that is read over the names that are known
abbrev pub Stood : List ℕ → List Entry → Con → Held → Type 0
Stood home known c h = (names : List (ConName × (ℕ × Normal))) → Agrees (declared known []) names → Holds h (nf_with (known_so home names) c.form [])

pub held-at : (r : Result Held Memory) (home : List ℕ) (known : List Entry) (c : Con) (s : Scope) → s.home.now ≡ home → s.depth ≡ 0 → names_of s.names.now ≡ declared known [] →
    IfOk r (λ h. IsForm h s c.form []) → IfOk r (λ h. Stood home known c h)
held-at r home known c s j d l w = IfOk-weaker r _ _ (λ h p names a. p (known_so home names) [] (scope-tells s (declared known []) home names j d l a) tt) w

pub stands-defined : (r : Result Held Memory) (home g : List ℕ) (known : List Entry) (n : ℕ) (e : ConEntry) (c : Con) → e.meaning ≡ meaning.Defined c → g ≡ home_in e.name.home home →
    IfOk r (λ h. Stood g known c h) → IfOk r (λ h. Stands home known n e h)
stands-defined r home g known n e c i j w = IfOk-weaker r _ _ (λ h p names a. form-defined h home g names n e c i j (p names a)) w
