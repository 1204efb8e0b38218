-- What is kept of a form tells what is known of it.
use Rattle.std.proofs.Common.{◌≡◌, refl, ap, ap₂, sym, ◌∙◌, subst, ℕ, suc, ◌+◌, ◌-◌, ◌<◌, ◌≤◌, max, arith, Bool, true, false, List, [], Option, Some, None, Result, IfOk, IsTrue}
use Rattle.std.proofs.lemmas.Result.{IfOk-weaker}
use Rattle.ur_base.specs.declared.refusal.Memory.{Memory}
use Rattle.ur_syntax.specs.declared.kind.Kind.{Kind}
use Rattle.ur_rows.specs.declared.normal.NormalType.{NormalType}
use Rattle.ur_rows.specs.declared.normal.NormalType.TheVariants as ty
use Rattle.ur_rows.specs.declared.normal.Part.{Part}
use Rattle.ur_rows.specs.declared.normal.Normal.{Normal}
use Rattle.ur_rows.specs.declared.normal.Normal.TheVariants as normal
use Rattle.ur_rows.specs.declared.normal.Normal.TheBlock.{end_of-Normal as sole, more_of-Normal as the}
use Rattle.ur_rows.specs.Made.{arrow_of, record_of, form_of, unit}
use Rattle.ur_rows.specs.IsNormal.{is_row, is_normal_type, all_normal_parts, is_normal}
use Rattle.ur_rows.specs.Nodes.{type_nodes, row_nodes, nodes, most_nodes}
use Rattle.ur_rows.specs.Order.{joined}
use Rattle.ur_rows.specs.Put.{Putting, put, put_row, argument, raising, raised, as_type, as_row, applied_once, mapped_row}
use Rattle.ur_rows.proofs.Order.{and-right}
use Rattle.ur_rows.proofs.PutAfter.{mapped_row-joined}
use Rattle.ur_rows.proofs.Shapes.{arrow-made, record-made, form-made, fn-made}
use Rattle.ur_rows_reduce.specs.Height.{type_height, row_height, height, most_levels}
use Rattle.ur_rows_reduce.proofs.Heights.{record-height, form-height}
use Rattle.ur_rows_reduce.proofs.Lifting.{joined-height}
use Rattle.ur_rows_reduce.specs.declared.held.Large.{Large}
use Rattle.ur_rows_reduce.specs.declared.held.Large.TheVariants as large
use Rattle.ur_rows_reduce.specs.declared.held.Held.{Held}
use Rattle.ur_rows_reduce.specs.declared.held.Held.TheVariants as held
use Rattle.ur_rows_reduce.specs.declared.held.Fields.{Fields}
use Rattle.ur_rows_reduce.specs.declared.held.Fields.TheVariants as fields
use Rattle.ur_rows_reduce.specs.Occurs.{uses_type, is_used, holds_type, holds}
use Rattle.ur_rows_reduce.specs.Held.{Outlines, Means, Holds, TypeIs, RowIs, SameShape}
use Rattle.ur_rows_reduce.proofs.After.{joined-nodes, record-nodes, form-nodes, row-grows}
use Rattle.ur_rows_reduce.proofs.Raised.{type-raised, row-raised, nodes-raised}
use Rattle.ur_rows_reduce.proofs.Occurring.{here_nodes, held-body, dropped}
use Rattle.ur_rows_reduce.proofs.Outlining.{outline-mapped, outline-raised, dropped-row, held-map}

-- ---- numbers

few : (a b : ℕ) → a ≡ b + 1 → b + 1 ≤ 65536 → a ≤ 65536
few a b e h = omega arith

up : (a b m : ℕ) → a ≤ b → m < a → m < b
up a b m h k = omega arith

up-to : (a b m : ℕ) → a ≤ b → m ≤ a → m ≤ b
up-to a b m h k = omega arith

one-more : (a b : ℕ) → a ≡ b + 1 → 65536 ≤ b → 65536 < a
one-more a b e h = omega arith

past : (a b : ℕ) → a ≡ b + 1 → 65536 < a → 65536 ≤ b
past a b e h = omega arith

fewer : (a b : ℕ) → b + a ≡ 65535 → a + 1 ≤ 65536
fewer a b h = omega arith

low : (a b : ℕ) → a ≡ b + 1 → b < 4096 → a ≤ 4096
low a b e h = omega arith

-- ---- what is too large has more nodes than a form may have

pub large-nodes : (l : Large) (n : Normal) → Means l n → most_nodes < nodes n
large-nodes large.Type (normal.Type t) h = h
large-nodes large.Type (normal.Name l) h = absurd (omega arith)
large-nodes large.Type (normal.Row r) h = absurd (omega arith)
large-nodes large.Type (normal.Fn' k _ (the c sole)) h = absurd (omega arith)
large-nodes (large.Row o) (normal.Type t) h = absurd (never h.0) where
  never : 65536 ≤ 0 → ⊥
  never e = omega arith
large-nodes (large.Row o) (normal.Name l) h = absurd (never h.0) where
  never : 65536 ≤ 0 → ⊥
  never e = omega arith
large-nodes (large.Row o) (normal.Row r) h = one-more (row_nodes r + 1) (row_nodes r) refl h.0
large-nodes (large.Row o) (normal.Fn' k _ (the c sole)) h = absurd (never h.0) where
  never : 65536 ≤ 0 → ⊥
  never e = omega arith
large-nodes large.TypeFunction (normal.Type t) h = absurd (omega arith)
large-nodes large.TypeFunction (normal.Name l) h = absurd (omega arith)
large-nodes large.TypeFunction (normal.Row r) h = absurd (omega arith)
large-nodes large.TypeFunction (normal.Fn' k _ (the (normal.Type t) sole)) h = one-more (type_nodes t + 1) (type_nodes t) refl h
large-nodes large.TypeFunction (normal.Fn' k _ (the (normal.Name l) sole)) h = absurd (omega arith)
large-nodes large.TypeFunction (normal.Fn' k _ (the (normal.Row r) sole)) h = absurd (omega arith)
large-nodes large.TypeFunction (normal.Fn' k _ (the (normal.Fn' j _ (the c sole)) sole)) h = absurd (omega arith)
large-nodes large.Function n h = h

-- ---- seen from further within

pub type-raised-large : (by : ℕ) (n : Normal) → is_normal n ≡ true → Means large.Type n → Means large.Type (raised by n)
type-raised-large by (normal.Type t) e m = up (type_nodes t) _ 65536 (type-raised by 0 t e) m
type-raised-large by (normal.Name l) e m = absurd (omega arith)
type-raised-large by (normal.Row r) e m = absurd (omega arith)
type-raised-large by (normal.Fn' k _ (the c sole)) e m = absurd (omega arith)

pub function-raised-large : (by : ℕ) (n : Normal) → is_normal n ≡ true → Means large.TypeFunction n → Means large.TypeFunction (raised by n)
function-raised-large by (normal.Type t) e m = absurd (omega arith)
function-raised-large by (normal.Name l) e m = absurd (omega arith)
function-raised-large by (normal.Row r) e m = absurd (omega arith)
function-raised-large by (normal.Fn' k _ (the (normal.Type t) sole)) e m = up-to (type_nodes t) _ 65536 (type-raised by 1 t e) m
function-raised-large by (normal.Fn' k _ (the (normal.Name l) sole)) e m = absurd (omega arith)
function-raised-large by (normal.Fn' k _ (the (normal.Row r) sole)) e m = absurd (omega arith)
function-raised-large by (normal.Fn' k _ (the (normal.Fn' j _ (the c sole)) sole)) e m = absurd (omega arith)

pub any-raised-large : (by : ℕ) (n : Normal) → is_normal n ≡ true → Means large.Function n → Means large.Function (raised by n)
any-raised-large by n e m = up (nodes n) _ 65536 (nodes-raised by 0 n e) m

pub row-raised-large : (by : ℕ) (n : Normal) (o p : Option (List Part)) → is_normal n ≡ true → Means (large.Row o) n →
    ((r : List Part) → Outlines o r → Outlines p (as_row (raised by (normal.Row r)))) → Means (large.Row p) (raised by n)
row-raised-large by (normal.Type t) o p e m h = absurd (never m.0) where
  never : 65536 ≤ 0 → ⊥
  never e = omega arith
row-raised-large by (normal.Name l) o p e m h = absurd (never m.0) where
  never : 65536 ≤ 0 → ⊥
  never e = omega arith
row-raised-large by (normal.Row r) o p e m h = (up-to (row_nodes r) _ 65536 (row-raised by 0 r (and-right (is_row r) (all_normal_parts r) e)) m.0, h r m.1)
row-raised-large by (normal.Fn' k _ (the c sole)) o p e m h = absurd (never m.0) where
  never : 65536 ≤ 0 → ⊥
  never e = omega arith

pub raised-outline : (by : ℕ) (o : Option (List Part)) (s x : List Part) (r : List Part) → o ≡ Some s → x ≡ put_row (raising by) 0 s → Outlines o r → Outlines (Some x) (as_row (raised by (normal.Row r)))
raised-outline by o s x r i e m = e ∙ ap (put_row (raising by) 0) (subst (λ z. Outlines z r) i m) ∙ sym (outline-raised by 0 r)

-- ---- shapes

pub same-shape : (n : Normal) → SameShape n n
same-shape (normal.Type t) = tt
same-shape (normal.Name l) = tt
same-shape (normal.Row r) = tt
same-shape (normal.Fn' k _ (the c sole)) = same-shape c

pub put-shape : (σ : Putting) (d : ℕ) (n : Normal) → SameShape n (put σ d n)
put-shape σ d (normal.Type t) = tt
put-shape σ d (normal.Name l) = tt
put-shape σ d (normal.Row r) = tt
put-shape σ d (normal.Fn' k _ (the c sole)) = put-shape σ (suc d) c

pub shape-type : (n : Normal) (t : NormalType) → n ≡ normal.Type t → (m : Normal) → SameShape n m → most_nodes < nodes m → Means large.Type m
shape-type n t i m s h = go m (subst (λ z. SameShape z m) i s) h where
  go : (m : Normal) → SameShape (normal.Type t) m → most_nodes < nodes m → Means large.Type m
  go (normal.Type u) s h = h
  go (normal.Name l) s h = absurd s
  go (normal.Row r) s h = absurd s
  go (normal.Fn' k _ (the c sole)) s h = absurd s

pub shape-row : (n : Normal) (r : List Part) → n ≡ normal.Row r → (m : Normal) → SameShape n m → most_nodes < nodes m → Means (large.Row None) m
shape-row n r i m s h = go m (subst (λ z. SameShape z m) i s) h where
  go : (m : Normal) → SameShape (normal.Row r) m → most_nodes < nodes m → Means (large.Row None) m
  go (normal.Type u) s h = absurd s
  go (normal.Name l) s h = absurd s
  go (normal.Row q) s h = (past (row_nodes q + 1) (row_nodes q) refl h, tt)
  go (normal.Fn' k _ (the c sole)) s h = absurd s

pub shape-function : (n c b : Normal) (k : Kind) (t : NormalType) → n ≡ normal.Fn k c → b ≡ c → b ≡ normal.Type t → (m : Normal) → SameShape n m → most_nodes < nodes m → Means large.TypeFunction m
shape-function n c b k t i j e m s h = go m (subst (λ z. SameShape z m) (i ∙ ap (λ z. normal.Fn k z) (sym j ∙ e) ∙ fn-made k (normal.Type t)) s) h where
  go : (m : Normal) → SameShape (normal.Fn' k tt (the (normal.Type t) sole)) m → most_nodes < nodes m → Means large.TypeFunction m
  go (normal.Type u) s h = absurd s
  go (normal.Name l) s h = absurd s
  go (normal.Row q) s h = absurd s
  go (normal.Fn' j _ (the (normal.Type u) sole)) s h = past (type_nodes u + 1) (type_nodes u) refl h
  go (normal.Fn' j _ (the (normal.Name l) sole)) s h = absurd s
  go (normal.Fn' j _ (the (normal.Row r) sole)) s h = absurd s
  go (normal.Fn' j _ (the (normal.Fn' i _ (the d sole)) sole)) s h = absurd s

-- ---- forms

pub form-type : (x n : Normal) → Holds (held.Form x) n → TypeIs (Some (as_type x)) (as_type n)
form-type x n h = (ap as_type h.0, small n h.1, short n h.2) where
  small : (n : Normal) → nodes n ≤ most_nodes → type_nodes (as_type n) ≤ most_nodes
  small (normal.Type t) e = e
  small (normal.Name l) e = omega arith
  small (normal.Row r) e = omega arith
  small (normal.Fn' k _ (the c sole)) e = omega arith

  short : (n : Normal) → height n ≤ most_levels → type_height (as_type n) ≤ most_levels
  short (normal.Type t) e = e
  short (normal.Name l) e = omega arith
  short (normal.Row r) e = omega arith
  short (normal.Fn' k _ (the c sole)) e = omega arith

pub row-form : (s r : List Part) (left : ℕ) → RowIs (fields.Small s left) r → Holds (held.Form (normal.Row s)) (normal.Row r)
row-form s r left h = (ap (λ z. normal.Row z) h.0, fewer (row_nodes r) left h.1, low (row_height r + 1) (row_height r) refl h.2)

pub record-form : (s r : List Part) (left : ℕ) → RowIs (fields.Small s left) r → Holds (held.Form (normal.Type (ty.Record s))) (normal.Type (record_of r))
record-form s r left h = (ap (λ z. normal.Type (ty.Record z)) h.0 ∙ ap (λ z. normal.Type z) (record-made r), few (type_nodes (record_of r)) (row_nodes r) (record-nodes r) (fewer (row_nodes r) left h.1), low (type_height (record_of r)) (row_height r) (record-height r) h.2)

pub form-form : (s r : List Part) (left : ℕ) → RowIs (fields.Small s left) r → Holds (held.Form (normal.Type (ty.Form s))) (normal.Type (form_of r))
form-form s r left h = (ap (λ z. normal.Type (ty.Form z)) h.0 ∙ ap (λ z. normal.Type z) (form-made r), few (type_nodes (form_of r)) (row_nodes r) (form-nodes r) (fewer (row_nodes r) left h.1), low (type_height (form_of r)) (row_height r) (form-height r) h.2)

pub record-large : (r : List Part) (o : Option (List Part)) → RowIs (fields.Large o) r → Means large.Type (normal.Type (record_of r))
record-large r o h = one-more (type_nodes (record_of r)) (row_nodes r) (record-nodes r) h.0

pub form-large : (r : List Part) (o : Option (List Part)) → RowIs (fields.Large o) r → Means large.Type (normal.Type (form_of r))
form-large r o h = one-more (type_nodes (form_of r)) (row_nodes r) (form-nodes r) h.0

-- ---- arrows

pub arrow-left : (a : Option NormalType) (s t : NormalType) → a ≡ None → TypeIs a s → Means large.Type (normal.Type (arrow_of s t))
arrow-left a s t i h = more (type_nodes s) (type_nodes t) (subst (λ z. TypeIs z s) i h) where
  more : (x y : ℕ) → 65536 < x → 65536 < x + y + 1
  more x y e = omega arith

pub arrow-right : (b : Option NormalType) (s t : NormalType) → b ≡ None → TypeIs b t → Means large.Type (normal.Type (arrow_of s t))
arrow-right b s t i h = more (type_nodes s) (type_nodes t) (subst (λ z. TypeIs z t) i h) where
  more : (x y : ℕ) → 65536 < y → 65536 < x + y + 1
  more x y e = omega arith

pub arrow-is : (a b : Option NormalType) (x y u v s t : NormalType) → a ≡ Some x → b ≡ Some y → u ≡ x → v ≡ y → TypeIs a s → TypeIs b t → ty.Arrow u v ≡ arrow_of s t
arrow-is a b x y u v s t i j e f h k = ap₂ (λ p q. ty.Arrow p q) (e ∙ (subst (λ z. TypeIs z s) i h).0) (f ∙ (subst (λ z. TypeIs z t) j k).0) ∙ arrow-made s t

pub arrow-small : (u t : NormalType) (left high : ℕ) → u ≡ t → left + type_nodes u ≡ 65536 → (high ≡ type_height u) × (high ≤ 4096) → Holds (held.Form (normal.Type u)) (normal.Type t)
arrow-small u t left high e h k = (ap (λ z. normal.Type z) e, go (type_nodes u) (type_nodes t) (ap type_nodes e) h, short (type_height u) (type_height t) (ap type_height e) k.0 k.1) where
  short : (a b : ℕ) → a ≡ b → high ≡ a → high ≤ 4096 → b ≤ 4096
  short a b e g h = omega arith

  go : (a b : ℕ) → a ≡ b → left + a ≡ 65536 → b ≤ 65536
  go a b e h = omega arith

-- ---- unions

pub both-outlines : (left right : Option (List Part)) (l m x r s : List Part) → left ≡ Some l → right ≡ Some m → x ≡ joined l m → Outlines left r → Outlines right s → Outlines (Some x) (joined r s)
both-outlines left right l m x r s i j e h k = e ∙ ap₂ joined (subst (λ z. Outlines z r) i h) (subst (λ z. Outlines z s) j k) ∙ sym (mapped_row-joined unit r s)

pub union-small : (r s x p q : List Part) (a b sum : ℕ) → sum ≡ a + b → 65535 ≤ sum → x ≡ joined r s → RowIs (fields.Small r a) p → RowIs (fields.Small s b) q → RowIs (fields.Small x (sum - 65535)) (joined p q)
union-small r s x p q a b sum e l i h k = (i ∙ ap₂ joined h.0 k.0, count (row_nodes p) (row_nodes q) (row_nodes (joined p q)) (joined-nodes p q) h.1 k.1, highest (row_height p) (row_height q) (row_height (joined p q)) (joined-height p q) h.2 k.2) where
  highest : (m n w : ℕ) → w ≡ max m n → m < 4096 → n < 4096 → w < 4096
  highest m n w f g j = omega arith

  count : (m n w : ℕ) → w ≡ m + n → a + m ≡ 65535 → b + n ≡ 65535 → sum - 65535 + w ≡ 65535
  count m n w f g j = omega arith

pub union-large : (r s : List Part) (p q : List Part) (a b sum : ℕ) (o : Option (List Part)) → sum ≡ a + b → sum < 65535 → RowIs (fields.Small r a) p → RowIs (fields.Small s b) q →
    Outlines o (joined p q) → RowIs (fields.Large o) (joined p q)
union-large r s p q a b sum o e l h k m = (count (row_nodes p) (row_nodes q) (row_nodes (joined p q)) (joined-nodes p q) h.1 k.1, m) where
  count : (m n w : ℕ) → w ≡ m + n → a + m ≡ 65535 → b + n ≡ 65535 → 65536 ≤ w
  count m n w f g j = omega arith

pub left-large : (r s : List Part) (o : Option (List Part)) → most_nodes ≤ row_nodes r → Outlines o (joined r s) → RowIs (fields.Large o) (joined r s)
left-large r s o h m = (count (row_nodes r) (row_nodes s) (row_nodes (joined r s)) (joined-nodes r s) h, m) where
  count : (m n w : ℕ) → w ≡ m + n → 65536 ≤ m → 65536 ≤ w
  count m n w f g = omega arith

pub right-large : (r s : List Part) (o : Option (List Part)) → most_nodes ≤ row_nodes s → Outlines o (joined r s) → RowIs (fields.Large o) (joined r s)
right-large r s o h m = (count (row_nodes r) (row_nodes s) (row_nodes (joined r s)) (joined-nodes r s) h, m) where
  count : (m n w : ℕ) → w ≡ m + n → 65536 ≤ n → 65536 ≤ w
  count m n w f g = omega arith

-- ---- functions applied

row-up : (by : ℕ) (n : Normal) → is_normal n ≡ true → row_nodes (as_row n) ≤ row_nodes (as_row (raised by n))
row-up by (normal.Type t) e = omega arith
row-up by (normal.Name l) e = omega arith
row-up by (normal.Row r) e = row-raised by 0 r (and-right (is_row r) (all_normal_parts r) e)
row-up by (normal.Fn' k _ (the c sole)) e = omega arith

type-here : (n : Normal) → is_normal n ≡ true → Means large.Type n → most_nodes < here_nodes (argument n) false 0
type-here n e m = type-raised-large 0 n e m

row-here : (n : Normal) (o : Option (List Part)) → is_normal n ≡ true → Means (large.Row o) n → most_nodes < here_nodes (argument n) true 0
row-here n o e m = one-more (row_nodes (as_row (raised 0 n)) + 1) (row_nodes (as_row (raised 0 n))) refl (up-to (row_nodes (as_row n)) (row_nodes (as_row (raised 0 n))) 65536 (row-up 0 n e) m.0)

pub type-held : (f c b n : Normal) (k : Kind) (h : Bool) → f ≡ normal.Fn k c → b ≡ c → h ≡ holds false b → IsTrue h → is_normal n ≡ true → Means large.Type n → most_nodes < nodes (applied_once f n)
type-held f c b n k h i j g t e m = subst (λ z. most_nodes < nodes (applied_once z n)) (sym (i ∙ fn-made k c))
    (up (here_nodes (argument n) false 0) (nodes (put (argument n) 0 c)) 65536 (held-body (argument n) false c (ap (holds false) (sym j) ∙ sym g ∙ t)) (type-here n e m))

pub row-held : (f c b n : Normal) (k : Kind) (h : Bool) (o : Option (List Part)) → f ≡ normal.Fn k c → b ≡ c → h ≡ holds true b → IsTrue h → is_normal n ≡ true → Means (large.Row o) n →
    most_nodes < nodes (applied_once f n)
row-held f c b n k h o i j g t e m = subst (λ z. most_nodes < nodes (applied_once z n)) (sym (i ∙ fn-made k c))
    (up (here_nodes (argument n) true 0) (nodes (put (argument n) 0 c)) 65536 (held-body (argument n) true c (ap (holds true) (sym j) ∙ sym g ∙ t)) (row-here n o e m))

-- what is known of a function applied
pub applied-shape : (f c b : Normal) (k : Kind) (l : Large) → f ≡ normal.Fn k c → b ≡ c → ((m : Normal) → SameShape b m → most_nodes < nodes m → Means l m) →
    (a : Normal) → most_nodes < nodes (applied_once f a) → Means l (applied_once f a)
applied-shape f c b k l i j h a = subst (λ z. most_nodes < nodes (applied_once z a) → Means l (applied_once z a)) (sym (i ∙ ap (λ z. normal.Fn k z) (sym j) ∙ fn-made k b))
    (h (put (argument a) 0 b) (put-shape (argument a) 0 b))

pub unused-holds : (f n : Normal) (h : Held) (u : Bool) (t : NormalType) → u ≡ is_used f → u ≡ false → Holds h (applied_once f (normal.Type t)) → Holds h (applied_once f n)
unused-holds f n h u t e i m = subst (Holds h) (dropped f (normal.Type t) n (sym e ∙ i)) m

-- ---- maps

pub map-over : (f : NormalType) (r : List Part) (o : Option (List Part)) → 65535 < row_nodes (mapped_row f r) → Outlines o r → RowIs (fields.Large o) (mapped_row f r)
map-over f r o h m = (past (row_nodes (mapped_row f r)) h, outlines o m) where
  past : (n : ℕ) → 65535 < n → 65536 ≤ n
  past n h = omega arith

  outlines : (o : Option (List Part)) → Outlines o r → Outlines o (mapped_row f r)
  outlines None m = tt
  outlines (Some s) m = m ∙ sym (outline-mapped f r)

pub map-held : (f : NormalType) (r : List Part) (o p : Option (List Part)) → p ≡ o → holds_type false 0 f ≡ true → all_normal_parts r ≡ true → most_nodes ≤ row_nodes r → Outlines o r →
    RowIs (fields.Large p) (mapped_row f r)
map-held f r o p e h n m k = map-over f r p (past (row_nodes r) (row_nodes (mapped_row f r)) (held-map f r h n) m) (subst (λ z. Outlines z r) (sym e) k) where
  past : (a b : ℕ) → a ≤ b → 65536 ≤ a → 65535 < b
  past a b h k = omega arith

pub map-dropped : (f : NormalType) (r : List Part) (o : Option (List Part)) (s : List Part) (m : Fields) (u : Bool) → u ≡ uses_type 0 f → u ≡ false → o ≡ Some s → is_normal_type f ≡ true →
    RowIs m (mapped_row f s) → Outlines o r → RowIs m (mapped_row f r)
map-dropped f r o s m u e i j n h k = subst (RowIs m) (ap (mapped_row f) (subst (λ z. Outlines z r) j k) ∙ sym (dropped-row f r n (sym e ∙ i))) h

pub map-by-large : (f : NormalType) (r : List Part) (o : Option (List Part)) → is_normal_type f ≡ true → most_nodes ≤ type_nodes f → (r ≡ [] → ⊥) → Outlines o r → RowIs (fields.Large o) (mapped_row f r)
map-by-large f r o n h k m = map-over f r o (past (type_nodes f) (row_nodes (mapped_row f r)) (row-grows f r n k) h) m where
  past : (a b : ℕ) → a ≤ b → 65536 ≤ a → 65535 < b
  past a b h k = omega arith

-- ---- what is held, told from what the code matches

pub held-form : (h : Held) (x n : Normal) → h ≡ held.Form x → Holds h n → (x ≡ n) × (nodes n ≤ most_nodes) × (height n ≤ most_levels)
held-form h x n i k = subst (λ z. Holds z n) i k

pub held-large : (h : Held) (l : Large) (n : Normal) → h ≡ held.Large l → Holds h n → Means l n
held-large h l n i k = subst (λ z. Holds z n) i k

pub large-over : (h : Held) (l : Large) (n : Normal) → h ≡ held.Large l → Holds h n → most_nodes < nodes n
large-over h l n i k = large-nodes l n (held-large h l n i k)

pub type-of-form : (h : Held) (x : Normal) (t : NormalType) → h ≡ held.Form x → t ≡ as_type x → (n : Normal) → Holds h n → TypeIs (Some t) (as_type n)
type-of-form h x t i e n k = subst (λ z. TypeIs (Some z) (as_type n)) (sym e) (form-type x n (held-form h x n i k))

pub type-of-large : (h : Held) (l : Large) → h ≡ held.Large l → l ≡ large.Type → (n : Normal) → Holds h n → TypeIs None (as_type n)
type-of-large h l i e n k = subst (λ z. Means z n) e (held-large h l n i k)

pub fields-of-form : (r : Result Fields Memory) (h : Held) (x : Normal) (p : List Part) → h ≡ held.Form x → p ≡ as_row x → IfOk r (λ f. RowIs f p) → IfOk r (λ f. (n : Normal) → Holds h n → RowIs f (as_row n))
fields-of-form r h x p i e w = IfOk-weaker r _ _ (λ f k n q. subst (RowIs f) (e ∙ ap as_row (held-form h x n i q).0) k) w

pub fields-of-large : (h : Held) (l : Large) (o : Option (List Part)) → h ≡ held.Large l → l ≡ large.Row o → (n : Normal) → Holds h n → RowIs (fields.Large o) (as_row n)
fields-of-large h l o i e n k = subst (λ z. Means z n) e (held-large h l n i k)

pub row-of-small : (f : Fields) (s : List Part) (left : ℕ) → f ≡ fields.Small s left → (r : List Part) → RowIs f r → Holds (held.Form (normal.Row s)) (normal.Row r)
row-of-small f s left i r k = row-form s r left (subst (λ z. RowIs z r) i k)

pub row-of-large : (f : Fields) (o : Option (List Part)) → f ≡ fields.Large o → (r : List Part) → RowIs f r → Holds (held.Large (large.Row o)) (normal.Row r)
row-of-large f o i r k = subst (λ z. RowIs z r) i k

pub record-of-small : (f : Fields) (s : List Part) (left : ℕ) → f ≡ fields.Small s left → (r : List Part) → RowIs f r → Holds (held.Form (normal.Type (ty.Record s))) (normal.Type (record_of r))
record-of-small f s left i r k = record-form s r left (subst (λ z. RowIs z r) i k)

pub record-of-large : (f : Fields) (o : Option (List Part)) → f ≡ fields.Large o → (r : List Part) → RowIs f r → Holds (held.Large large.Type) (normal.Type (record_of r))
record-of-large f o i r k = record-large r o (subst (λ z. RowIs z r) i k)

pub form-of-small : (f : Fields) (s : List Part) (left : ℕ) → f ≡ fields.Small s left → (r : List Part) → RowIs f r → Holds (held.Form (normal.Type (ty.Form s))) (normal.Type (form_of r))
form-of-small f s left i r k = form-form s r left (subst (λ z. RowIs z r) i k)

pub form-of-large : (f : Fields) (o : Option (List Part)) → f ≡ fields.Large o → (r : List Part) → RowIs f r → Holds (held.Large large.Type) (normal.Type (form_of r))
form-of-large f o i r k = form-large r o (subst (λ z. RowIs z r) i k)

pub raised-form : (r : Result Held Memory) (h : Held) (x m : Normal) (by : ℕ) → h ≡ held.Form x → m ≡ raised by x → IfOk r (λ g. Holds g m) →
    IfOk r (λ g. (n : Normal) → is_normal n ≡ true → Holds h n → Holds g (raised by n))
raised-form r h x m by i e w = IfOk-weaker r _ _ (λ g k n q p. subst (Holds g) (e ∙ ap (raised by) (held-form h x n i p).0) k) w

pub raised-large : (h : Held) (l m : Large) (by : ℕ) → h ≡ held.Large l → l ≡ m → ((n : Normal) → is_normal n ≡ true → Means m n → Means m (raised by n)) → (n : Normal) → is_normal n ≡ true → Holds h n → Means m (raised by n)
raised-large h l m by i e f n q k = f n q (subst (λ z. Means z n) e (held-large h l n i k))

pub raised-row : (h : Held) (l : Large) (o p : Option (List Part)) (by : ℕ) → h ≡ held.Large l → l ≡ large.Row o → ((r : List Part) → Outlines o r → Outlines p (as_row (raised by (normal.Row r)))) →
    (n : Normal) → is_normal n ≡ true → Holds h n → Means (large.Row p) (raised by n)
raised-row h l o p by i e f n q k = row-raised-large by n o p q (subst (λ z. Means z n) e (held-large h l n i k)) f

-- ---- unions of what the code matches

pub union-both : (left right : Fields) (r s : List Part) (a b : ℕ) (w : Result Fields Memory) → left ≡ fields.Small r a → right ≡ fields.Small s b →
    IfOk w (λ f. (p q : List Part) → RowIs (fields.Small r a) p → RowIs (fields.Small s b) q → RowIs f (joined p q)) → IfOk w (λ f. (p q : List Part) → RowIs left p → RowIs right q → RowIs f (joined p q))
union-both left right r s a b w i j k = IfOk-weaker w _ _ (λ f g p q x y. g p q (subst (λ z. RowIs z p) i x) (subst (λ z. RowIs z q) j y)) k

pub union-right : (left right : Fields) (r : List Part) (a : ℕ) (o m x : Option (List Part)) → left ≡ fields.Small r a → right ≡ fields.Large o → Outlines m r →
    ((p q : List Part) → Outlines m p → Outlines o q → Outlines x (joined p q)) → (p q : List Part) → RowIs left p → RowIs right q → RowIs (fields.Large x) (joined p q)
union-right left right r a o m x i j e f p q u v = right-large p q x large.0 (f p q (subst (Outlines m) small.0 e) large.1) where
  small : RowIs (fields.Small r a) p
  small = subst (λ z. RowIs z p) i u

  large : RowIs (fields.Large o) q
  large = subst (λ z. RowIs z q) j v

pub union-left : (left right : Fields) (s : List Part) (a : ℕ) (o m x : Option (List Part)) → left ≡ fields.Large o → right ≡ fields.Small s a → Outlines m s →
    ((p q : List Part) → Outlines o p → Outlines m q → Outlines x (joined p q)) → (p q : List Part) → RowIs left p → RowIs right q → RowIs (fields.Large x) (joined p q)
union-left left right s a o m x i j e f p q u v = left-large p q x large.0 (f p q large.1 (subst (Outlines m) small.0 e)) where
  large : RowIs (fields.Large o) p
  large = subst (λ z. RowIs z p) i u

  small : RowIs (fields.Small s a) q
  small = subst (λ z. RowIs z q) j v

pub union-larges : (left right : Fields) (o m x : Option (List Part)) → left ≡ fields.Large o → right ≡ fields.Large m →
    ((p q : List Part) → Outlines o p → Outlines m q → Outlines x (joined p q)) → (p q : List Part) → RowIs left p → RowIs right q → RowIs (fields.Large x) (joined p q)
union-larges left right o m x i j f p q u v = left-large p q x (subst (λ z. RowIs z p) i u).0 (f p q (subst (λ z. RowIs z p) i u).1 (subst (λ z. RowIs z q) j v).1)

pub small-union-large : (r s : List Part) (a b sum : ℕ) (m n x : Option (List Part)) → sum ≡ a + b → sum < 65535 → Outlines m r → Outlines n s → ((p q : List Part) → Outlines m p → Outlines n q → Outlines x (joined p q)) →
    (p q : List Part) → RowIs (fields.Small r a) p → RowIs (fields.Small s b) q → RowIs (fields.Large x) (joined p q)
small-union-large r s a b sum m n x e l i j f p q u v = union-large r s p q a b sum x e l u v (f p q (subst (Outlines m) u.0 i) (subst (Outlines n) v.0 j))

pub function-large : (l : Large) (k : Kind) (n : Normal) → Means l n → Means large.Function (normal.Fn' k tt (the n sole))
function-large l k n m = more (nodes n) (large-nodes l n m) where
  more : (a : ℕ) → 65536 < a → 65536 < a + 1
  more a h = omega arith
