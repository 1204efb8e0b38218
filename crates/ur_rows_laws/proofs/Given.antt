-- A constructor that is read with arguments has the form that its own form has at them.
use Rattle.std.proofs.Common.{◌≡◌, refl, ap, sym, ◌∙◌, subst, ℕ, suc, ◌-◌, Bool, true, false, true≢false, List, [], Option, Some, None, bytes_eq, codes, if◌then◌else◌}
use Rattle.std.proofs.lemmas.Slice.Eq.{bytes_eq-Decides}
use Rattle.ur_syntax.specs.declared.kind.Kind.{Kind}
use Rattle.ur_syntax.specs.declared.kind.Kind.TheVariants as kind
use Rattle.ur_syntax.specs.declared.con.ConForm.{ConForm}
use Rattle.ur_syntax.specs.Names.{own, member, seen}
use Rattle.ur_syntax.specs.Kinds.{is_plain}
use Rattle.ur_syntax.specs.HasKind.{HasKind, Scope, with_name, word_kind, named, member_named, word as a_word, name, function, applied as applies, arrow_type, concat, row as row_kind, record_type, dollar, map_row, form as form_kind}
use Rattle.ur_rows.specs.declared.normal.Var.TheVariants as var
use Rattle.ur_rows.specs.declared.normal.Normal.{Normal}
use Rattle.ur_rows.specs.declared.normal.Normal.TheVariants as normal
use Rattle.ur_rows.specs.IsNormal.{is_normal, is_row, all_normal_parts}
use Rattle.ur_rows.specs.Kinded.{Variables, with_bound}
use Rattle.ur_rows.specs.Put.{as_row, put, raised, raising, argument, applied}
use Rattle.ur_rows.specs.Normal.{Known, or_raised, known_as, variable, within, with_argument, name_with, word_with, map_of, xml_of, nf_with}
use Rattle.ur_rows.specs.Normal as N
use Rattle.ur_rows.proofs.Order.{and-left, joined-nil}
use Rattle.ur_rows.proofs.InOrder.{nf_with-normal, raised-normal, as_row-normal}
use Rattle.ur_rows_laws.proofs.Kept.{raising-keeps}
use Rattle.ur_rows_laws.proofs.Passing.{Anywhere, itself-same, raised-one}
use Rattle.ur_rows_laws.proofs.Applying.{Stood, placed-first, argument-cancels}
use Rattle.ur_rows_laws.proofs.ReadingLawsForms.{FormIn, a_type, a_name, a_row, a_function, TakesIn, done, more, plain-kind, form-kept, form-same, form-after-all, Both}
use Rattle.ur_rows_laws.proofs.Names.{Held, Fits, NameIs, Sees, sees-first, word-built, raised-next, next-in}
use Rattle.ur_rows_laws.proofs.Reading.{nf-both, plain-taken, argument-sees, word-unknown, nothing-raised, none-left, at-most}
use Rattle.ur_rows_laws.proofs.Fresh.{raising-goes, argument-goes, IsRead, nf-kinds}

-- ---- a function at an argument

-- the variable of the function is the argument
variable-put : (vs : Variables) (k : Kind) (a : Normal) → FormIn vs k a → is_plain k ≡ true → put (argument a) 0 (raised 0 (variable k (var.Bound 0))) ≡ raised 0 a
variable-put vs kind.Star _ (a_type e) p = refl
variable-put vs kind.Name _ (a_name e) p = refl
variable-put vs kind.Row _ (a_row {r = r} e) p = ap (λ z. normal.Row z) (joined-nil (as_row (raised 0 (normal.Row r))) (and-left (is_row (as_row (raised 0 (normal.Row r)))) (all_normal_parts (as_row (raised 0 (normal.Row r)))) (as_row-normal (raised 0 (normal.Row r)) (raised-normal 0 (normal.Row r)))))
variable-put vs _ _ (a_function q f) p = absurd (true≢false (sym p))

variable-form : (vs : Variables) (k : Kind) → is_plain k ≡ true → FormIn (with_bound k vs) k (raised 0 (variable k (var.Bound 0)))
variable-form vs kind.Star p = a_type refl
variable-form vs kind.Name p = a_name refl
variable-form vs kind.Row p = a_row refl
variable-form vs (kind.Arrow' _ x _ y) p = absurd (true≢false (sym p))

form-back : (a n : Normal) → is_normal n ≡ true → put (argument a) 0 (put (raising 1) 0 n) ≡ n
form-back a n e = form-after-all (argument-cancels a) 0 0 0 (refl, refl) n ∙ form-same itself-same 0 n e

-- what is read with the variable, and what is read with the argument
given-sees : (vs : Variables) (d : ℕ) (scope : Scope) (known : Known) (x : List ℕ) (k : Kind) (a : Normal) → is_plain k ≡ true → FormIn vs k a → is_normal a ≡ true → IsRead vs d scope known →
    Sees (Stood k vs) (argument a) (with_bound k vs) 0 (with_name x k scope) (within x k known) (with_argument x a known)
given-sees vs d scope known x k a p f e r = sees-first scope known known x k (suc known.depth, variable k (var.Bound 0)) (known.depth, a) further here (vs, placed-first k vs) r where
  further : (j : Kind) (n m : Held) → NameIs (raising 0) vs d known.depth known.depth j n m → NameIs (argument a) (with_bound k vs) 0 (suc known.depth) known.depth j n m
  further j n m i = record {
    inside = next-in known.depth n.0 i.inside;
    inside_too = i.inside_too;
    kinds = subst (FormIn (with_bound k vs) j) (sym (raised-next known.depth n i.inside)) (form-kept (raising-keeps 1) (with_bound k vs) 0 (raised-one k vs) i.kinds);
    form = i.form ∙ form-same nothing-raised d (raised (known.depth - n.0) n.1) (raised-normal (known.depth - n.0) n.1) ∙
        sym (ap (put (argument a) 0) (raised-next known.depth n i.inside) ∙ form-back a (raised (known.depth - n.0) n.1) (raised-normal (known.depth - n.0) n.1));
  }

  here : NameIs (argument a) (with_bound k vs) 0 (suc known.depth) known.depth k (suc known.depth, variable k (var.Bound 0)) (known.depth, a)
  here = record {
    inside = at-most (suc known.depth);
    inside_too = at-most known.depth;
    kinds = subst (λ z. FormIn (with_bound k vs) k (raised z (variable k (var.Bound 0)))) (sym (none-left (suc known.depth))) (variable-form vs k p);
    form = ap (λ z. raised z a) (none-left known.depth) ∙ sym (ap (λ z. put (argument a) 0 (raised z (variable k (var.Bound 0)))) (none-left (suc known.depth)) ∙ variable-put vs k a f p);
  }

given-once : {scope : Scope} {c : ConForm} {j : Kind} (vs : Variables) (d : ℕ) (known : Known) (x : List ℕ) (k : Kind) (a : Normal) → is_plain k ≡ true → FormIn vs k a → is_normal a ≡ true → IsRead vs d scope known → HasKind (with_name x k scope) c j →
    nf_with (with_argument x a known) c [] ≡ put (argument a) 0 (nf_with (within x k known) c [])
given-once {scope = scope} {j = j} vs d known x k a p f e r h =
    Both.form (nf-both (argument-goes k vs a (plain-kind p f)) h (within x k known) (with_argument x a known) (with_bound k vs) 0 (given-sees vs d scope known x k a p f e r) [] j done)

-- ---- names and words at arguments

name-given : (P : Kind → Held → Held → Type 0) (k : Kind) (p : Option Held) (D : ℕ) (x : List ℕ) (args : List Normal) → Fits P (Some k) p p → name_with (or_raised D p) x args ≡ applied (name_with (or_raised D p) x []) args
name-given P k None D x args f = absurd f
name-given P k (Some n) D x args f = refl

word-given : (x : List ℕ) (k : Kind) (args : List Normal) → word_kind x ≡ Some k → word_with x args ≡ applied (word_with x []) args
word-given x k args e = go (bytes_eq x (codes "map")) refl (bytes_eq x (codes "xml")) refl where
  never : None ≡ Some k → ⊥
  never q = cc

  go : (b : Bool) → bytes_eq x (codes "map") ≡ b → (c : Bool) → bytes_eq x (codes "xml") ≡ c →
      (if b then map_of args else (if c then xml_of args else applied (N.word x) args)) ≡ applied (if b then map_of [] else (if c then xml_of [] else applied (N.word x) [])) args
  go true f c g = absurd (never (subst (λ z. word_kind z ≡ Some k) ((bytes_eq-Decides x (codes "map")).0 f) e))
  go false f true g = absurd (never (subst (λ z. word_kind z ≡ Some k) ((bytes_eq-Decides x (codes "xml")).0 g) e))
  go false f false g = refl

-- the argument is read in order of its kind
argument-read : (vs : Variables) (d : ℕ) (scope : Scope) (known : Known) (x : List ℕ) (k : Kind) (a : Normal) → FormIn vs k a → is_normal a ≡ true → IsRead vs d scope known → IsRead vs d (with_name x k scope) (with_argument x a known)
argument-read vs d scope known x k a f e r = subst (λ z. Sees Anywhere (raising 0) vs d (with_name x k scope) (with_argument x a known) (with_argument x z known)) (form-same nothing-raised d a e)
    (argument-sees (raising-goes 0) vs d scope known known x k a f e r)

pub nf-given : {scope : Scope} {c : ConForm} {k l : Kind} {args : List Normal} → HasKind scope c k → (vs : Variables) (d : ℕ) (known : Known) → IsRead vs d scope known → TakesIn vs k args l → nf_with known c args ≡ applied (nf_with known c []) args
nf-given {args = args} (named {x = x} {k = k} e) vs d known r t = name-given (NameIs (raising 0) vs d known.depth known.depth) k (seen known.home (own x) known.names) known.depth x args (r.own_names x k e)
nf-given {args = args} (member_named {m = m} {x = x} {k = k} e) vs d known r t = name-given (NameIs (raising 0) vs d known.depth known.depth) k (seen known.home (member m x) known.names) known.depth x args (r.members m x k e)
nf-given {args = args} (a_word {x = x} {k = k} w e) vs d known r t = ap (λ z. name_with z x args) (word-unknown r x w (word-built x k e)).0 ∙ word-given x k args e ∙
    sym (ap (λ z. applied (name_with z x []) args) (word-unknown r x w (word-built x k e)).0)
nf-given name vs d known r done = refl
nf-given (function p h) vs d known r done = refl
nf-given {scope = scope} (function {x = x} {k = k} p h) vs d known r (more {a = a} {args = args} q f e t) = nf-given h vs d (with_argument x a known) (argument-read vs d scope known x k a f e r) t ∙
    ap (λ z. applied z args) (given-once vs d known x k a q f e r h)
nf-given {args = args} (applies {a = a} {k = k} {j = j} h i) vs d known r t =
    nf-given h vs d known r (more (plain-taken (nf-kinds vs d known r h)) (nf-kinds vs d known r i) (nf_with-normal known a [] refl) t) ∙
    ap (λ z. applied z args) (sym (nf-given h vs d known r (more (plain-taken (nf-kinds vs d known r h)) (nf-kinds vs d known r i) (nf_with-normal known a [] refl) done)))
nf-given (arrow_type h i) vs d known r done = refl
nf-given (concat h i) vs d known r done = refl
nf-given (row_kind f) vs d known r done = refl
nf-given (record_type f) vs d known r done = refl
nf-given (dollar h) vs d known r done = refl
nf-given (map_row w h i) vs d known r done = refl
nf-given (form_kind w v h) vs d known r done = refl
