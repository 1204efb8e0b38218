-- The number of operators in an expression: its parts have fewer.
use Rattle.std.proofs.Common.{◌≡◌, ◌∙◌, ◌<◌, ◌+◌, ◌*◌, ℕ, refl, ap, arith}
use Rattle.ur_syntax.specs.declared.sql.SqlBinary.{SqlBinary}
use Rattle.ur_syntax.specs.declared.sql.SqlExp.{SqlExp}
use Rattle.ur_syntax.specs.declared.sql.SqlForm.{SqlForm, end_of-SqlExp as alone, more_of-SqlExp as its}
use Rattle.ur_syntax.specs.declared.sql.SqlForm.TheVariants as form
use Rattle.ur_syntax.specs.declared.sql.SqlForm.TheBlock as F

abbrev pub size : SqlForm → ℕ
size (form.Binary' o _ (its p a alone) _ (its q b alone)) = size a + size b + 1
size (form.Not' _ (its p a alone)) = size a + 1
size (form.Negative' _ (its p a alone)) = size a + 1
size (form.IsNull' _ (its p a alone)) = size a + 1
size (form.IsNotNull' _ (its p a alone)) = size a + 1
size (form.Some' _ (its p a alone)) = size a + 1
size _ = 0

binary_size : (o : SqlBinary) (a b : SqlExp) → size (form.Binary o a b) ≡ size a.form + size b.form + 1
unfolding F.hidden-the_row-SqlExp-0 denote.Hole.Carrier.hidden
binary_size o a b = refl

not_size : (a : SqlExp) → size (form.Not a) ≡ size a.form + 1
unfolding F.hidden-the_row-SqlExp-0 denote.Hole.Carrier.hidden
not_size a = refl

negative_size : (a : SqlExp) → size (form.Negative a) ≡ size a.form + 1
unfolding F.hidden-the_row-SqlExp-0 denote.Hole.Carrier.hidden
negative_size a = refl

-- where the form is this one, its parts stand in calls of less
pub binary_smaller : (e : SqlForm) (o : SqlBinary) (a b x y : SqlExp) (n : ℕ) → 6 * size e ≡ n → e ≡ form.Binary o a b → x ≡ a → y ≡ b →
    6 * (size x.form + size y.form) + 4 < n
binary_smaller e o a b x y n h is f g =
    let s : size e ≡ size a.form + size b.form + 1 = ap size is ∙ binary_size o a b in
    let t : size x.form ≡ size a.form = ap (λ z. size z.form) f in
    let u : size y.form ≡ size b.form = ap (λ z. size z.form) g in
    omega (arith, h, s, t, u)

pub not_smaller : (e : SqlForm) (a x : SqlExp) (n : ℕ) → 6 * size e ≡ n → e ≡ form.Not a → x ≡ a → 6 * size x.form + 2 < n
not_smaller e a x n h is f =
    let s : size e ≡ size a.form + 1 = ap size is ∙ not_size a in
    let t : size x.form ≡ size a.form = ap (λ z. size z.form) f in
    omega (arith, h, s, t)

pub negative_smaller : (e : SqlForm) (a x : SqlExp) (n : ℕ) → 6 * size e ≡ n → e ≡ form.Negative a → x ≡ a → 6 * size x.form + 2 < n
negative_smaller e a x n h is f =
    let s : size e ≡ size a.form + 1 = ap size is ∙ negative_size a in
    let t : size x.form ≡ size a.form = ap (λ z. size z.form) f in
    omega (arith, h, s, t)

is_null_size : (a : SqlExp) → size (form.IsNull a) ≡ size a.form + 1
unfolding F.hidden-the_row-SqlExp-0 denote.Hole.Carrier.hidden
is_null_size a = refl

pub is_null_smaller : (e : SqlForm) (a x : SqlExp) (n : ℕ) → 6 * size e ≡ n → e ≡ form.IsNull a → x ≡ a → 6 * size x.form + 1 < n
is_null_smaller e a x n h is f =
    let s : size e ≡ size a.form + 1 = ap size is ∙ is_null_size a in
    let t : size x.form ≡ size a.form = ap (λ z. size z.form) f in
    omega (arith, h, s, t)

is_not_null_size : (a : SqlExp) → size (form.IsNotNull a) ≡ size a.form + 1
unfolding F.hidden-the_row-SqlExp-0 denote.Hole.Carrier.hidden
is_not_null_size a = refl

pub is_not_null_smaller : (e : SqlForm) (a x : SqlExp) (n : ℕ) → 6 * size e ≡ n → e ≡ form.IsNotNull a → x ≡ a → 6 * size x.form + 1 < n
is_not_null_smaller e a x n h is f =
    let s : size e ≡ size a.form + 1 = ap size is ∙ is_not_null_size a in
    let t : size x.form ≡ size a.form = ap (λ z. size z.form) f in
    omega (arith, h, s, t)

some_size : (a : SqlExp) → size (form.Some a) ≡ size a.form + 1
unfolding F.hidden-the_row-SqlExp-0 denote.Hole.Carrier.hidden
some_size a = refl

pub some_smaller : (e : SqlForm) (a x : SqlExp) (n : ℕ) → 6 * size e ≡ n → e ≡ form.Some a → x ≡ a → 6 * size x.form + 1 < n
some_smaller e a x n h is f =
    let s : size e ≡ size a.form + 1 = ap size is ∙ some_size a in
    let t : size x.form ≡ size a.form = ap (λ z. size z.form) f in
    omega (arith, h, s, t)
