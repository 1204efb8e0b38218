-- The heights after a substitution.
use Rattle.std.proofs.Common.{◌≡◌, refl, ap, ap₂, sym, ◌∙◌, subst, ℕ, zero, suc, ◌+◌, ◌-◌, ◌<◌, ◌≤◌, max, arith, Bool, true, false, ◌⊎◌, inl, inr, ◌==◌, nat_lt, List, [], ◌∷◌, length, drop, get_or, if◌then◌else◌, Result, IfOk, drop_of_length-le}
use Rattle.std.proofs.lemmas.Bool.{cases_Bool}
use Rattle.std.proofs.lemmas.Result.{IfOk-weaker}
use Rattle.ur_base.specs.declared.refusal.Memory.{Memory}
use Rattle.ur_syntax.specs.declared.kind.Kind.{Kind}
use Rattle.ur_rows.specs.declared.normal.Var.{Var}
use Rattle.ur_rows.specs.declared.normal.Var.TheVariants as var
use Rattle.ur_rows.specs.declared.normal.Label.{Label}
use Rattle.ur_rows.specs.declared.normal.NormalType.{NormalType}
use Rattle.ur_rows.specs.declared.normal.NormalType.TheVariants as ty
use Rattle.ur_rows.specs.declared.normal.NormalType.TheBlock.{end_of-NormalType as alone, more_of-NormalType as its, Row_of-Part, end_of-Part as end, more_of-Part as more}
use Rattle.ur_rows.specs.declared.normal.Part.{Part}
use Rattle.ur_rows.specs.declared.normal.Part.TheVariants as part
use Rattle.ur_rows.specs.declared.normal.Normal.{Normal}
use Rattle.ur_rows.specs.declared.normal.Normal.TheVariants as normal
use Rattle.ur_rows.specs.declared.normal.Normal.TheBlock.{end_of-Normal as sole, more_of-Normal as the}
use Rattle.ur_rows.specs.Order.{stands_before, with_part, joined}
use Rattle.ur_rows.specs.Made.{row}
use Rattle.ur_rows.specs.Put.{Putting, put, put_label, put_type, put_parts, put_part, put_row, mapped_variable, mapped_part, mapped_row, raised, raised_type, raised_var, raising, nearer, type_at, at_fn, as_type, as_row, applied_type, composed, argument}
use Rattle.ur_rows.proofs.Order.{with_part-yes, with_part-no}
use Rattle.ur_rows.proofs.Shapes.{fn-made}
use Rattle.ur_rows.proofs.Telling.{drop-here}
use Rattle.ur_rows.proofs.PutMade.{put-opt, put-many, put-transaction, put-arrow, put-record, put-form, put-field, put-mapped}
use Rattle.ur_rows_reduce.specs.Height.{type_height, parts_height, part_height, row_height, height}
use Rattle.ur_rows_reduce.specs.Lifts.{Levels, Within, at_variable, over_map}
use Rattle.ur_rows_reduce.proofs.Heights.{height-opt, height-many, height-transaction, height-arrow, height-parts, height-record, height-form, height-field}

-- ---- rows

pub with_part-height : (p : Part) (r : List Part) → row_height (with_part p r) ≡ max (part_height p) (row_height r)
with_part-height p [] = refl
with_part-height p (q ∷ r) = step (cases_Bool (stands_before p q)) (with_part-height p r) where
  turned : (a b c m : ℕ) → m ≡ max a c → max b m ≡ max a (max b c)
  turned a b c m e = omega arith

  step : (stands_before p q ≡ true) ⊎ (stands_before p q ≡ false) → row_height (with_part p r) ≡ max (part_height p) (row_height r) →
      row_height (with_part p (q ∷ r)) ≡ max (part_height p) (row_height (q ∷ r))
  step (inl e) ih = ap row_height (with_part-yes p q r e)
  step (inr e) ih = ap row_height (with_part-no p q r e) ∙ turned (part_height p) (part_height q) (row_height r) (row_height (with_part p r)) ih

pub joined-height : (r s : List Part) → row_height (joined r s) ≡ max (row_height r) (row_height s)
joined-height [] s = none (row_height s) where
  none : (n : ℕ) → n ≡ max 0 n
  none n = omega arith
joined-height (p ∷ r) s = with_part-height p (joined r s) ∙ grouped (part_height p) (row_height r) (row_height s) (row_height (joined r s)) (joined-height r s) where
  grouped : (a b c m : ℕ) → m ≡ max b c → max a m ≡ max (max a b) c
  grouped a b c m e = omega arith

pub one-part : (p : Part) → row_height (p ∷ []) ≡ part_height p
one-part p = none (part_height p) where
  none : (n : ℕ) → max n 0 ≡ n
  none n = omega arith

pub one-least : (t : NormalType) → 1 ≤ type_height t
one-least (ty.Opt' _ (its t alone)) = more (type_height t) where
  more : (n : ℕ) → 1 ≤ n + 1
  more n = omega arith
one-least (ty.Many' _ (its t alone)) = more (type_height t) where
  more : (n : ℕ) → 1 ≤ n + 1
  more n = omega arith
one-least (ty.Transaction' _ (its t alone)) = more (type_height t) where
  more : (n : ℕ) → 1 ≤ n + 1
  more n = omega arith
one-least (ty.Arrow' _ (its a alone) _ (its b alone)) = more (max (type_height a) (type_height b)) where
  more : (n : ℕ) → 1 ≤ n + 1
  more n = omega arith
one-least (ty.Record' _ r) = more (parts_height r) where
  more : (n : ℕ) → 1 ≤ n + 1
  more n = omega arith
one-least (ty.Form' _ r) = more (parts_height r) where
  more : (n : ℕ) → 1 ≤ n + 1
  more n = omega arith
one-least t = omega arith

pub mapped-most : (f : NormalType) (v : Var) → part_height (mapped_variable f v) ≤ type_height f + 1
mapped-most (ty.Variable (var.Bound zero)) v = omega arith
mapped-most (ty.Variable w) v = omega arith
mapped-most f v = same (type_height f + 1) where
  same : (n : ℕ) → n ≤ n
  same n = omega arith

-- ---- types in place of variables, and other variables in place of rows

pub record Adds (k : ℕ) (σ : Putting) : Type 0 where
  pub types : (d : ℕ) (v : Var) → type_height (σ.types d v) ≤ 1 + k
  pub rows : (d : ℕ) (v : Var) → row_height (σ.rows d v) ≤ 1
  pub maps : (d : ℕ) (v : Var) (f : NormalType) → row_height (σ.maps d v f) ≤ type_height f + 1

up : (a b k : ℕ) → a ≤ b + k → a + 1 ≤ b + 1 + k
up a b k h = omega arith

higher : (a b c e k : ℕ) → a ≤ b + k → c ≤ e + k → max a c ≤ max b e + k
higher a b c e k h i = omega arith

mutual
  pub type-adds : {k : ℕ} {σ : Putting} → Adds k σ → (d : ℕ) (t : NormalType) → type_height (put_type σ d t) ≤ type_height t + k
  type-adds s d (ty.Variable v) = s.types d v
  type-adds {k} {σ} s d (ty.Opt' _ (its t alone)) = up (type_height (put_type σ d t)) (type_height t) k (type-adds s d t)
  type-adds {k} {σ} s d (ty.Many' _ (its t alone)) = up (type_height (put_type σ d t)) (type_height t) k (type-adds s d t)
  type-adds {k} {σ} s d (ty.Transaction' _ (its t alone)) = up (type_height (put_type σ d t)) (type_height t) k (type-adds s d t)
  type-adds {k} {σ} s d (ty.Arrow' _ (its a alone) _ (its b alone)) = up (max (type_height (put_type σ d a)) (type_height (put_type σ d b))) (max (type_height a) (type_height b)) k
      (higher (type_height (put_type σ d a)) (type_height a) (type_height (put_type σ d b)) (type_height b) k (type-adds s d a) (type-adds s d b))
  type-adds {k} {σ} s d (ty.Record' _ r) = up (parts_height (row (put_parts σ d r)).1) (parts_height r) k (subst (λ n. n ≤ parts_height r + k) (sym (height-parts (put_parts σ d r))) (parts-adds s d r))
  type-adds {k} {σ} s d (ty.Form' _ r) = up (parts_height (row (put_parts σ d r)).1) (parts_height r) k (subst (λ n. n ≤ parts_height r + k) (sym (height-parts (put_parts σ d r))) (parts-adds s d r))
  type-adds {k} s d t = flat k where
    flat : (n : ℕ) → 1 ≤ 1 + n
    flat n = omega arith

  parts-adds : {k : ℕ} {σ : Putting} {n : _} → Adds k σ → (d : ℕ) (r : Row_of-Part n) → row_height (put_parts σ d r) ≤ parts_height r + k
  parts-adds {k} s d end = omega arith
  parts-adds {k} {σ} s d (more p r) = subst (λ n. n ≤ max (part_height p) (parts_height r) + k) (sym (joined-height (put_part σ d p) (put_parts σ d r)))
      (higher (row_height (put_part σ d p)) (part_height p) (row_height (put_parts σ d r)) (parts_height r) k (part-adds s d p) (parts-adds s d r))

  part-adds : {k : ℕ} {σ : Putting} → Adds k σ → (d : ℕ) (p : Part) → row_height (put_part σ d p) ≤ part_height p + k
  part-adds {k} {σ} s d (part.Field' l _ (its t alone)) = field (type_height (put_type σ d t)) (type_height t) k (type-adds s d t) where
    field : (a b k : ℕ) → a ≤ b + k → max (a + 1) 0 ≤ b + 1 + k
    field a b k h = omega arith
  part-adds {k} {σ} s d (part.Piece v) = piece (row_height (σ.rows d v)) k (s.rows d v) where
    piece : (a k : ℕ) → a ≤ 1 → a ≤ 1 + k
    piece a k h = omega arith
  part-adds {k} {σ} s d (part.Mapped' v _ (its f alone)) = map (row_height (σ.maps d v (put_type σ (suc d) f))) (type_height (put_type σ (suc d) f)) (type_height f) k
      (s.maps d v (put_type σ (suc d) f)) (type-adds s (suc d) f) where
        map : (a b c k : ℕ) → a ≤ b + 1 → b ≤ c + k → a ≤ c + 1 + k
        map a b c k h i = omega arith

pub row-adds : {k : ℕ} {σ : Putting} → Adds k σ → (d : ℕ) (r : List Part) → row_height (put_row σ d r) ≤ row_height r + k
row-adds s d [] = omega arith
row-adds {k} {σ} s d (p ∷ r) = subst (λ n. n ≤ max (part_height p) (row_height r) + k) (sym (joined-height (put_part σ d p) (put_row σ d r)))
    (higher (row_height (put_part σ d p)) (part_height p) (row_height (put_row σ d r)) (row_height r) k (part-adds s d p) (row-adds s d r))

pub normal-adds : {k : ℕ} {σ : Putting} → Adds k σ → (d : ℕ) (n : Normal) → height (put σ d n) ≤ height n + k
normal-adds s d (normal.Type t) = type-adds s d t
normal-adds {k} s d (normal.Name l) = flat k where
  flat : (n : ℕ) → 1 ≤ 1 + n
  flat n = omega arith
normal-adds {k} {σ} s d (normal.Row r) = up (row_height (put_row σ d r)) (row_height r) k (row-adds s d r)
normal-adds {k} {σ} s d (normal.Fn' j _ (the c sole)) = up (height (put σ (suc d) c)) (height c) k (normal-adds s (suc d) c)

renamed-maps : (f : NormalType) (v : Var) → row_height (mapped_variable f v ∷ []) ≤ type_height f + 1
renamed-maps f v = subst (λ n. n ≤ type_height f + 1) (sym (one-part (mapped_variable f v))) (mapped-most f v)

pub raising-adds : (by : ℕ) → Adds 0 (raising by)
raising-adds by = record {
  types = λ d v. omega arith;
  rows = λ d v. omega arith;
  maps = λ d v f. renamed-maps f (raised_var by d v);
}

none-more : (a b : ℕ) → a ≤ b + 0 → a ≤ b
none-more a b h = omega arith

pub raised-type : (by d : ℕ) (t : NormalType) → type_height (put_type (raising by) d t) ≤ type_height t
raised-type by d t = none-more (type_height (put_type (raising by) d t)) (type_height t) (type-adds (raising-adds by) d t)

pub raised-row : (by d : ℕ) (r : List Part) → row_height (put_row (raising by) d r) ≤ row_height r
raised-row by d r = none-more (row_height (put_row (raising by) d r)) (row_height r) (row-adds (raising-adds by) d r)

pub raised-height : (by : ℕ) (n : Normal) → height (raised by n) ≤ height n
raised-height by n = none-more (height (raised by n)) (height n) (normal-adds (raising-adds by) 0 n)

at-adds : (by d k : ℕ) (v : Var) (t : NormalType) → type_height t ≤ 1 + k → type_height (at_fn by d v (raised_type d t) (λ w. ty.Variable w)) ≤ 1 + k
at-adds by d k (var.Free n) t h = flat k where
  flat : (n : ℕ) → 1 ≤ 1 + n
  flat n = omega arith
at-adds by d k (var.Bound i) t h = go (i == d) where
  go : (b : Bool) → type_height (if b then raised_type d t else ty.Variable (var.Bound (if nat_lt d i then i - by else i))) ≤ 1 + k
  go true = under (type_height (raised_type d t)) (type_height t) k (raised-type d 0 t) h where
    under : (a b k : ℕ) → a ≤ b → b ≤ 1 + k → a ≤ 1 + k
    under a b k h i = omega arith
  go false = flat k where
    flat : (n : ℕ) → 1 ≤ 1 + n
    flat n = omega arith

pub at-type-adds : (by k : ℕ) (t : NormalType) → type_height t ≤ 1 + k → Adds k (type_at by t)
at-type-adds by k t h = record {
  types = λ d v. at-adds by d k v t h;
  rows = λ d v. omega arith;
  maps = λ d v f. renamed-maps f (nearer by d v);
}

-- a type in place of the variable of a function
pub at-type : (by : ℕ) (f t : NormalType) → type_height (put_type (type_at by t) 0 f) + 1 ≤ type_height f + type_height t
at-type by f t = go (type_height t) (one-least t) refl where
  sum : (a b k h : ℕ) → h ≡ suc k → a ≤ b + k → a + 1 ≤ b + h
  sum a b k h e i = omega arith

  least : (h k : ℕ) → h ≡ suc k → h ≤ 1 + k
  least h k e = omega arith

  go : (h : ℕ) → 1 ≤ h → type_height t ≡ h → type_height (put_type (type_at by t) 0 f) + 1 ≤ type_height f + type_height t
  go zero m e = absurd (omega arith)
  go (suc k) m e = sum (type_height (put_type (type_at by t) 0 f)) (type_height f) k (type_height t) e (type-adds (at-type-adds by k t (least (type_height t) k e)) 0 f)

-- ---- maps

part-mapped : (f : NormalType) (p : Part) → part_height (mapped_part f p) ≤ type_height f + over_map (part_height p)
part-mapped f (part.Field' l _ (its t alone)) = sum (type_height (applied_type f t)) (type_height f) (type_height t) (at-type 1 f t) where
  sum : (a b c : ℕ) → a + 1 ≤ b + c → a + 1 ≤ b + max (c + 1 - 1) 1
  sum a b c h = omega arith
part-mapped f (part.Piece v) = mapped-most f v
part-mapped f (part.Mapped' v _ (its g alone)) = sum (part_height (mapped_variable (composed f g) v)) (type_height (composed f g)) (type_height f) (type_height g)
    (mapped-most (composed f g) v) (at-type 0 f g) where
      sum : (p a b c : ℕ) → p ≤ a + 1 → a + 1 ≤ b + c → p ≤ b + max (c + 1 - 1) 1
      sum p a b c h i = omega arith

pub mapped-height : (f : NormalType) (r : List Part) → row_height (mapped_row f r) ≤ type_height f + over_map (row_height r)
mapped-height f [] = omega arith
mapped-height f (p ∷ r) = subst (λ n. n ≤ type_height f + over_map (max (part_height p) (row_height r))) (sym (with_part-height (mapped_part f p) (mapped_row f r)))
    (both (part_height (mapped_part f p)) (row_height (mapped_row f r)) (type_height f) (part_height p) (row_height r) (part-mapped f p) (mapped-height f r)) where
      both : (a b f p r : ℕ) → a ≤ f + max (p - 1) 1 → b ≤ f + max (r - 1) 1 → max a b ≤ f + max (max p r - 1) 1
      both a b f p r h i = omega arith

pub mapped-low : (f : NormalType) (r : List Part) (h g left levels : ℕ) → h ≡ row_height r → left + over_map h ≡ levels → g ≡ type_height f → g ≤ left → row_height (mapped_row f r) ≤ levels
mapped-low f r h g left levels e i j k = go (row_height (mapped_row f r)) (type_height f) (row_height r) (mapped-height f r) e j where
  go : (a f r : ℕ) → a ≤ f + max (r - 1) 1 → h ≡ r → g ≡ f → a ≤ levels
  go a f r m x y = omega arith

-- ---- an argument

raised-as-type : (d : ℕ) (a : Normal) → type_height (as_type (raised d a)) ≤ type_height (as_type a)
raised-as-type d (normal.Type t) = raised-type d 0 t
raised-as-type d (normal.Name l) = omega arith
raised-as-type d (normal.Row r) = omega arith
raised-as-type d (normal.Fn' k _ (the c sole)) = omega arith

raised-as-row : (d : ℕ) (a : Normal) → row_height (as_row (raised d a)) ≤ row_height (as_row a)
raised-as-row d (normal.Row r) = raised-row d 0 r
raised-as-row d (normal.Name l) = omega arith
raised-as-row d (normal.Type t) = omega arith
raised-as-row d (normal.Fn' k _ (the c sole)) = omega arith

pub argument-within : (a : Normal) (t r : ℕ) → t ≡ type_height (as_type a) → r ≡ row_height (as_row a) → Within (at_variable t r) (argument a)
argument-within a t r e f = record {
  types = types;
  rows = rows;
  maps = λ d v g. over g (row_height ((argument a).rows d v)) ((at_variable t r).rows d v) (mapped-height g ((argument a).rows d v)) (rows d v);
} where
  over : (g : NormalType) (m n : ℕ) {x : ℕ} → x ≤ type_height g + over_map m → m ≤ n → x ≤ type_height g + over_map n
  over g m n {x} h i = go (type_height g) h where
    go : (y : ℕ) → x ≤ y + max (m - 1) 1 → x ≤ y + max (n - 1) 1
    go y j = omega arith

  types : (d : ℕ) (v : Var) → type_height ((argument a).types d v) ≤ (at_variable t r).types d v
  types d (var.Free n) = omega arith
  types d (var.Bound i) = go (i == d) where
    go : (b : Bool) → type_height (if b then as_type (raised d a) else ty.Variable (var.Bound (if nat_lt d i then i - 1 else i))) ≤ (if b then t else 1)
    go true = subst (λ n. type_height (as_type (raised d a)) ≤ n) (sym e) (raised-as-type d a)
    go false = omega arith

  rows : (d : ℕ) (v : Var) → row_height ((argument a).rows d v) ≤ (at_variable t r).rows d v
  rows d (var.Free n) = omega arith
  rows d (var.Bound i) = go (i == d) where
    go : (b : Bool) → row_height (if b then as_row (raised d a) else part.Piece (var.Bound (if nat_lt d i then i - 1 else i)) ∷ []) ≤ (if b then r else 1)
    go true = subst (λ n. row_height (as_row (raised d a)) ≤ n) (sym f) (raised-as-row d a)
    go false = omega arith

-- ---- substitution in what the code makes

pub after-opt : (σ : Putting) (d : ℕ) (t : NormalType) → type_height (put_type σ d (ty.Opt t)) ≡ type_height (put_type σ d t) + 1
after-opt σ d t = ap type_height (put-opt σ d t) ∙ height-opt (put_type σ d t)

pub after-many : (σ : Putting) (d : ℕ) (t : NormalType) → type_height (put_type σ d (ty.Many t)) ≡ type_height (put_type σ d t) + 1
after-many σ d t = ap type_height (put-many σ d t) ∙ height-many (put_type σ d t)

pub after-transaction : (σ : Putting) (d : ℕ) (t : NormalType) → type_height (put_type σ d (ty.Transaction t)) ≡ type_height (put_type σ d t) + 1
after-transaction σ d t = ap type_height (put-transaction σ d t) ∙ height-transaction (put_type σ d t)

pub after-arrow : (σ : Putting) (d : ℕ) (t u : NormalType) → type_height (put_type σ d (ty.Arrow t u)) ≡ max (type_height (put_type σ d t)) (type_height (put_type σ d u)) + 1
after-arrow σ d t u = ap type_height (put-arrow σ d t u) ∙ height-arrow (put_type σ d t) (put_type σ d u)

pub after-record : (σ : Putting) (d : ℕ) (r : List Part) → type_height (put_type σ d (ty.Record r)) ≡ row_height (put_row σ d r) + 1
after-record σ d r = ap type_height (put-record σ d r) ∙ height-record (put_row σ d r)

pub after-form : (σ : Putting) (d : ℕ) (r : List Part) → type_height (put_type σ d (ty.Form r)) ≡ row_height (put_row σ d r) + 1
after-form σ d r = ap type_height (put-form σ d r) ∙ height-form (put_row σ d r)

pub after-field : (σ : Putting) (d : ℕ) (l : Label) (t : NormalType) → row_height (put_part σ d (part.Field l t)) ≡ type_height (put_type σ d t) + 1
after-field σ d l t = ap row_height (put-field σ d l t) ∙ one-part (part.Field (put_label σ d l) (put_type σ d t)) ∙ height-field (put_label σ d l) (put_type σ d t)

pub after-mapped : (σ : Putting) (d : ℕ) (v : Var) (f : NormalType) → row_height (put_part σ d (part.Mapped v f)) ≡ row_height (σ.maps d v (put_type σ (suc d) f))
after-mapped σ d v f = ap row_height (put-mapped σ d v f)

pub after-here : (σ : Putting) (d : ℕ) (r : List Part) (i : ℕ) (p : Part) → i < length r → p ≡ get_or r i p →
    row_height (put_row σ d (drop i r)) ≡ max (row_height (put_part σ d p)) (row_height (put_row σ d (drop (i + 1) r)))
after-here σ d r i p h e = ap (λ z. row_height (put_row σ d z)) (drop-here r i p h e) ∙ joined-height (put_part σ d p) (put_row σ d (drop (i + 1) r))

pub after-fn : (σ : Putting) (d : ℕ) (k : Kind) (c : Normal) → height (put σ d (normal.Fn k c)) ≡ height (put σ (suc d) c) + 1
after-fn σ d k c = ap (λ z. height (put σ d z)) (fn-made k c)

pub ruleset after = (after-opt, after-many, after-transaction, after-arrow, after-record, after-form, after-field, after-mapped, after-here, after-fn)

-- ---- answers about every substitution

pub levels-up : (r : Result (Unit {0}) Memory) (W : Putting → Type 0) (below levels : ℕ) (a b : Putting → ℕ) → below + 1 ≡ levels → ((σ : Putting) → b σ ≡ a σ + 1) → IfOk r (λ u. (σ : Putting) → W σ → a σ ≤ below) →
    IfOk r (λ u. (σ : Putting) → W σ → b σ ≤ levels)
levels-up r W below levels a b e f k = IfOk-weaker r _ _ (λ u g σ w. go (a σ) (b σ) (f σ) (g σ w)) k where
  go : (x y : ℕ) → y ≡ x + 1 → x ≤ below → y ≤ levels
  go x y i h = omega arith

pub higher-up : (r : Result (Unit {0}) Memory) (W : Putting → Type 0) (below levels : ℕ) (a b c : Putting → ℕ) → below + 1 ≡ levels → ((σ : Putting) → c σ ≡ max (a σ) (b σ) + 1) → ((σ : Putting) → W σ → a σ ≤ below) →
    IfOk r (λ u. (σ : Putting) → W σ → b σ ≤ below) → IfOk r (λ u. (σ : Putting) → W σ → c σ ≤ levels)
higher-up r W below levels a b c e f h k = IfOk-weaker r _ _ (λ u g σ w. go (a σ) (b σ) (c σ) (f σ) (h σ w) (g σ w)) k where
  go : (x y z : ℕ) → z ≡ max x y + 1 → x ≤ below → y ≤ below → z ≤ levels
  go x y z i h j = omega arith

pub same-up : (r : Result (Unit {0}) Memory) (W : Putting → Type 0) (levels : ℕ) (a b : Putting → ℕ) → ((σ : Putting) → W σ → b σ ≤ a σ) → IfOk r (λ u. (σ : Putting) → W σ → a σ ≤ levels) →
    IfOk r (λ u. (σ : Putting) → W σ → b σ ≤ levels)
same-up r W levels a b f k = IfOk-weaker r _ _ (λ u g σ w. go (a σ) (b σ) (f σ w) (g σ w)) k where
  go : (x y : ℕ) → y ≤ x → x ≤ levels → y ≤ levels
  go x y i h = omega arith

pub map-up : (r : Result (Unit {0}) Memory) (W : Putting → Type 0) (below levels n : ℕ) (a b : Putting → ℕ) → below + over_map n ≡ levels → ((σ : Putting) → W σ → b σ ≤ a σ + over_map n) →
    IfOk r (λ u. (σ : Putting) → W σ → a σ ≤ below) → IfOk r (λ u. (σ : Putting) → W σ → b σ ≤ levels)
map-up r W below levels n a b e f k = IfOk-weaker r _ _ (λ u g σ w. go (a σ) (b σ) (f σ w) (g σ w)) k where
  go : (x y : ℕ) → y ≤ x + max (n - 1) 1 → x ≤ below → y ≤ levels
  go x y i h = omega arith

pub number-up : (r : Result (Unit {0}) Memory) (W : Putting → Type 0) (levels n : ℕ) (b : Putting → ℕ) → ((σ : Putting) → W σ → b σ ≤ n) → IfOk r (λ u. n ≤ levels) → IfOk r (λ u. (σ : Putting) → W σ → b σ ≤ levels)
number-up r W levels n b f k = IfOk-weaker r _ _ (λ u g σ w. go (b σ) (f σ w) g) k where
  go : (y : ℕ) → y ≤ n → n ≤ levels → y ≤ levels
  go y i h = omega arith

-- what is mapped over a row, where the function stands further within
pub map-within : (l : Levels) (σ : Putting) (d e n : ℕ) (p : Part) (v : Var) (f g : NormalType) → p ≡ part.Mapped v f → e ≡ suc d → g ≡ f → n ≡ l.rows d v → Within l σ →
    row_height (put_part σ d p) ≤ type_height (put_type σ e g) + over_map n
map-within l σ d e n p v f g i j k m w = subst (λ z. row_height (put_part σ d p) ≤ z + over_map n) (sym (ap₂ (λ x y. type_height (put_type σ x y)) j k))
    (subst (λ z. row_height (put_part σ d p) ≤ type_height (put_type σ (suc d) f) + over_map z) (sym m)
    (subst (λ z. z ≤ type_height (put_type σ (suc d) f) + over_map (l.rows d v)) (sym (ap (λ z. row_height (put_part σ d z)) i ∙ after-mapped σ d v f)) (w.maps d v (put_type σ (suc d) f))))

-- one level more, in the values that the code makes
pub kept-up : (make : NormalType → NormalType) → ((σ : Putting) (d : ℕ) (t : NormalType) → type_height (put_type σ d (make t)) ≡ type_height (put_type σ d t) + 1) →
    (r : Result (Unit {0}) Memory) (W : Putting → Type 0) (d below levels : ℕ) (t x y : NormalType) → t ≡ make y → x ≡ y → below + 1 ≡ levels →
    IfOk r (λ u. (σ : Putting) → W σ → type_height (put_type σ d x) ≤ below) → IfOk r (λ u. (σ : Putting) → W σ → type_height (put_type σ d t) ≤ levels)
kept-up make m r W d below levels t x y i j e k = levels-up r W below levels (λ σ. type_height (put_type σ d x)) (λ σ. type_height (put_type σ d t)) e
    (λ σ. ap (λ z. type_height (put_type σ d z)) i ∙ m σ d y ∙ ap (λ z. type_height (put_type σ d z) + 1) (sym j)) k

pub arrow-up : (r : Result (Unit {0}) Memory) (W : Putting → Type 0) (d below levels : ℕ) (t x y v w : NormalType) → t ≡ ty.Arrow v w → x ≡ v → y ≡ w → below + 1 ≡ levels →
    ((σ : Putting) → W σ → type_height (put_type σ d x) ≤ below) → IfOk r (λ u. (σ : Putting) → W σ → type_height (put_type σ d y) ≤ below) →
    IfOk r (λ u. (σ : Putting) → W σ → type_height (put_type σ d t) ≤ levels)
arrow-up r W d below levels t x y v w i j l e h k = higher-up r W below levels (λ σ. type_height (put_type σ d x)) (λ σ. type_height (put_type σ d y)) (λ σ. type_height (put_type σ d t)) e
    (λ σ. ap (λ z. type_height (put_type σ d z)) i ∙ after-arrow σ d v w ∙ ap₂ (λ y z. max (type_height (put_type σ d y)) (type_height (put_type σ d z)) + 1) (sym j) (sym l)) h k

pub field-up : (r : Result (Unit {0}) Memory) (W : Putting → Type 0) (d below levels : ℕ) (p : Part) (l : Label) (x y : NormalType) → p ≡ part.Field l y → x ≡ y → below + 1 ≡ levels →
    IfOk r (λ u. (σ : Putting) → W σ → type_height (put_type σ d x) ≤ below) → IfOk r (λ u. (σ : Putting) → W σ → row_height (put_part σ d p) ≤ levels)
field-up r W d below levels p l x y i j e k = levels-up r W below levels (λ σ. type_height (put_type σ d x)) (λ σ. row_height (put_part σ d p)) e
    (λ σ. ap (λ z. row_height (put_part σ d z)) i ∙ after-field σ d l y ∙ ap (λ z. type_height (put_type σ d z) + 1) (sym j)) k

pub fn-up : (r : Result (Unit {0}) Memory) (W : Putting → Type 0) (d e below levels : ℕ) (n x c : Normal) (k : Kind) → n ≡ normal.Fn k c → x ≡ c → e ≡ suc d → below + 1 ≡ levels →
    IfOk r (λ u. (σ : Putting) → W σ → height (put σ e x) ≤ below) → IfOk r (λ u. (σ : Putting) → W σ → height (put σ d n) ≤ levels)
fn-up r W d e below levels n x c k i j l m f = levels-up r W below levels (λ σ. height (put σ e x)) (λ σ. height (put σ d n)) m
    (λ σ. ap (λ z. height (put σ d z)) i ∙ after-fn σ d k c ∙ ap₂ (λ y z. height (put σ y z) + 1) (sym l) (sym j)) f

-- ---- a row, part by part

abbrev pub RowSo : (Putting → Type 0) → ℕ → List Part → ℕ → ℕ → Type 0
RowSo W d parts i levels = (σ : Putting) → W σ → row_height (put_row σ d parts) ≤ max levels (row_height (put_row σ d (drop i parts)))

pub rows-start : (W : Putting → Type 0) (d : ℕ) (parts : List Part) (levels : ℕ) → RowSo W d parts 0 levels
rows-start W d parts levels σ w = go (row_height (put_row σ d parts)) (row_height (put_row σ d (drop 0 parts))) (ap (λ z. row_height (put_row σ d z)) (none parts)) where
  none : (xs : List Part) → drop 0 xs ≡ xs
  none [] = refl
  none (x ∷ xs) = refl

  go : (x b : ℕ) → b ≡ x → x ≤ max levels b
  go x b e = omega arith

pub rows-step : (W : Putting → Type 0) (d : ℕ) (parts : List Part) (i levels : ℕ) (p : Part) → i < length parts → p ≡ get_or parts i p → RowSo W d parts i levels →
    ((σ : Putting) → W σ → row_height (put_part σ d p) ≤ levels) → RowSo W d parts (i + 1) levels
rows-step W d parts i levels p h e inv f σ w = go (row_height (put_row σ d parts)) (row_height (put_part σ d p)) (row_height (put_row σ d (drop i parts))) (row_height (put_row σ d (drop (i + 1) parts)))
    (inv σ w) (f σ w) (after-here σ d parts i p h e) where
      go : (x a b c : ℕ) → x ≤ max levels b → a ≤ levels → b ≡ max a c → x ≤ max levels c
      go x a b c h i e = omega arith

pub rows-whole : (W : Putting → Type 0) (d : ℕ) (parts r : List Part) (i levels : ℕ) → parts ≡ r → RowSo W d parts i levels → length parts ≤ i →
    (σ : Putting) → W σ → row_height (put_row σ d r) ≤ levels
rows-whole W d parts r i levels e inv h σ w = subst (λ z. row_height (put_row σ d z) ≤ levels) e (go (row_height (put_row σ d parts)) (row_height (put_row σ d (drop i parts))) (inv σ w)
    (ap (λ z. row_height (put_row σ d z)) (drop_of_length-le parts h))) where
      go : (x b : ℕ) → x ≤ max levels b → b ≡ 0 → x ≤ levels
      go x b h e = omega arith
