-- The variables of the types that the code makes.
use Rattle.std.proofs.Common.{◌≡◌, refl, ap, ap₂, sym, ◌∙◌, ℕ, zero, suc, ◌+◌, ◌<◌, Bool, true, false, true≢false, ◌&&◌, List, [], ◌∷◌, length, drop, get_or, nat_lt, slice_get, Some, Result, IfOk, arith}
use Rattle.std.proofs.lemmas.Bool.Decides.{nat_tests}
use Rattle.std.proofs.lemmas.Result.{IfOk-weaker}
use Rattle.ur_base.specs.declared.refusal.Memory.{Memory}
use Rattle.ur_rows.specs.declared.normal.Var.{Var}
use Rattle.ur_rows.specs.declared.normal.Var.TheVariants as var
use Rattle.ur_rows.specs.declared.normal.Label.{Label}
use Rattle.ur_rows.specs.declared.normal.NormalType.{NormalType}
use Rattle.ur_rows.specs.declared.normal.NormalType.TheVariants as ty
use Rattle.ur_rows.specs.declared.normal.Part.{Part}
use Rattle.ur_rows.specs.declared.normal.Part.TheVariants as part
use Rattle.ur_rows.specs.declared.normal.Normal.{Normal}
use Rattle.ur_rows.specs.declared.normal.Normal.TheVariants as normal
use Rattle.ur_rows.specs.Made.{row}
use Rattle.ur_syntax.specs.declared.kind.Kind.{Kind}
use Rattle.ur_syntax.specs.declared.kind.Kind.TheVariants as kind
use Rattle.ur_rows.specs.Kinded.{Variables, kind_at, is_star, is_name, is_row, label_is_in, type_is_in, parts_are_in, part_is_in, row_is_in, is_of_kind, with_bound}
use Rattle.ur_rows.proofs.Shapes.{option-made, list-made, transaction-made, arrow-made, field-made, mapped-made, record-made, form-made}
use Rattle.ur_rows.proofs.Telling.{drop-here}
use Rattle.ur_rows_normal.specs.Scope.{stars, within}

and-all : (b : Bool) → (b && true) ≡ b
and-all true = refl
and-all false = refl

-- ---- the variables of functions of types

pub star-bound : (free : List Kind) (depth i : ℕ) → is_star (kind_at (within free depth) (var.Bound i)) ≡ nat_lt i depth
star-bound free depth i = go depth i where
  go : (d i : ℕ) → is_star (slice_get (stars d) i) ≡ nat_lt i d
  go zero i = never i where
    never : (i : ℕ) → false ≡ nat_lt i 0
    never i = grind (arith, nat_tests)
  go (suc d) zero = first d where
    first : (d : ℕ) → true ≡ nat_lt 0 (suc d)
    first d = grind (arith, nat_tests)
  go (suc d) (suc i) = go d i ∙ later d i where
    later : (d i : ℕ) → nat_lt i d ≡ nat_lt (suc i) (suc d)
    later d i = grind (arith, nat_tests)

pub name-bound : (free : List Kind) (depth i : ℕ) → is_name (kind_at (within free depth) (var.Bound i)) ≡ false
name-bound free depth i = go depth i where
  go : (d i : ℕ) → is_name (slice_get (stars d) i) ≡ false
  go zero i = refl
  go (suc d) zero = refl
  go (suc d) (suc i) = go d i

pub row-bound : (free : List Kind) (depth i : ℕ) → is_row (kind_at (within free depth) (var.Bound i)) ≡ false
row-bound free depth i = go depth i where
  go : (d i : ℕ) → is_row (slice_get (stars d) i) ≡ false
  go zero i = refl
  go (suc d) zero = refl
  go (suc d) (suc i) = go d i

-- ---- types and parts

pub in-opt : (vs : Variables) (t : NormalType) → type_is_in vs (ty.Opt t) ≡ type_is_in vs t
in-opt vs t = ap (type_is_in vs) (option-made t) ∙ and-all (type_is_in vs t)

pub in-many : (vs : Variables) (t : NormalType) → type_is_in vs (ty.Many t) ≡ type_is_in vs t
in-many vs t = ap (type_is_in vs) (list-made t) ∙ and-all (type_is_in vs t)

pub in-transaction : (vs : Variables) (t : NormalType) → type_is_in vs (ty.Transaction t) ≡ type_is_in vs t
in-transaction vs t = ap (type_is_in vs) (transaction-made t) ∙ and-all (type_is_in vs t)

pub in-arrow : (vs : Variables) (a b : NormalType) → type_is_in vs (ty.Arrow a b) ≡ (type_is_in vs a && type_is_in vs b)
in-arrow vs a b = ap (type_is_in vs) (arrow-made a b) ∙ ap₂ (λ x y. x && y) (and-all (type_is_in vs a)) (and-all (type_is_in vs b))

in-parts : (vs : Variables) (r : List Part) → parts_are_in vs (row r).1 ≡ row_is_in vs r
in-parts vs [] = refl
in-parts vs (p ∷ r) = ap (λ b. part_is_in vs p && b) (in-parts vs r)

pub in-record : (vs : Variables) (r : List Part) → type_is_in vs (ty.Record r) ≡ row_is_in vs r
in-record vs r = ap (type_is_in vs) (record-made r) ∙ in-parts vs r

pub in-form : (vs : Variables) (r : List Part) → type_is_in vs (ty.Form r) ≡ row_is_in vs r
in-form vs r = ap (type_is_in vs) (form-made r) ∙ in-parts vs r

pub in-field : (vs : Variables) (l : Label) (t : NormalType) → part_is_in vs (part.Field l t) ≡ (label_is_in vs l && type_is_in vs t)
in-field vs l t = ap (part_is_in vs) (field-made l t) ∙ ap (λ b. label_is_in vs l && b) (and-all (type_is_in vs t))

pub in-mapped : (vs : Variables) (v : Var) (f : NormalType) → part_is_in vs (part.Mapped v f) ≡ (is_row (kind_at vs v) && type_is_in (with_bound kind.Star vs) f)
in-mapped vs v f = ap (part_is_in vs) (mapped-made v f) ∙ ap (λ b. is_row (kind_at vs v) && b) (and-all (type_is_in (with_bound kind.Star vs) f))

pub in-here : (vs : Variables) (r : List Part) (i : ℕ) (p : Part) → i < length r → p ≡ get_or r i p → row_is_in vs (drop i r) ≡ (part_is_in vs p && row_is_in vs (drop (i + 1) r))
in-here vs r i p h e = ap (row_is_in vs) (drop-here r i p h e)

pub ruleset scopes = (in-opt, in-many, in-transaction, in-arrow, in-record, in-form, in-field, in-mapped, in-here)

pub field-in : (vs : Variables) (p : Part) (l : Label) (t x : NormalType) (b c : Bool) → p ≡ part.Field l t → x ≡ t → b ≡ label_is_in vs l → c ≡ type_is_in vs x → (b && c) ≡ part_is_in vs p
field-in vs p l t x b c i j e f = ap₂ (λ y z. y && z) e (f ∙ ap (type_is_in vs) j) ∙ sym (ap (part_is_in vs) i ∙ in-field vs l t)

pub mapped-in : (free : List Kind) (d e : ℕ) (p : Part) (v : Var) (f x : NormalType) (b c : Bool) → p ≡ part.Mapped v f → x ≡ f → e ≡ suc d → b ≡ is_row (kind_at (within free d) v) → c ≡ type_is_in (within free e) x →
    (b && c) ≡ part_is_in (within free d) p
mapped-in free d e p v f x b c i j k m n = ap₂ (λ y z. y && z) m (n ∙ ap₂ (λ y z. type_is_in (within free y) z) k j) ∙ sym (ap (part_is_in (within free d)) i ∙ in-mapped (within free d) v f)

-- an answer about a part is one about the whole
as-part : (r : Result Bool Memory) (vs : Variables) (t x : NormalType) → type_is_in vs t ≡ type_is_in vs x → IfOk r (λ b. b ≡ type_is_in vs x) → IfOk r (λ b. b ≡ type_is_in vs t)
as-part r vs t x e w = IfOk-weaker r (λ b. b ≡ type_is_in vs x) (λ b. b ≡ type_is_in vs t) (λ b f. f ∙ sym e) w

pub opt-in : (r : Result Bool Memory) (vs : Variables) (t x y : NormalType) → t ≡ ty.Opt x → y ≡ x → IfOk r (λ b. b ≡ type_is_in vs y) → IfOk r (λ b. b ≡ type_is_in vs t)
opt-in r vs t x y e f w = as-part r vs t y (ap (type_is_in vs) e ∙ in-opt vs x ∙ ap (type_is_in vs) (sym f)) w

pub many-in : (r : Result Bool Memory) (vs : Variables) (t x y : NormalType) → t ≡ ty.Many x → y ≡ x → IfOk r (λ b. b ≡ type_is_in vs y) → IfOk r (λ b. b ≡ type_is_in vs t)
many-in r vs t x y e f w = as-part r vs t y (ap (type_is_in vs) e ∙ in-many vs x ∙ ap (type_is_in vs) (sym f)) w

pub transaction-in : (r : Result Bool Memory) (vs : Variables) (t x y : NormalType) → t ≡ ty.Transaction x → y ≡ x → IfOk r (λ b. b ≡ type_is_in vs y) → IfOk r (λ b. b ≡ type_is_in vs t)
transaction-in r vs t x y e f w = as-part r vs t y (ap (type_is_in vs) e ∙ in-transaction vs x ∙ ap (type_is_in vs) (sym f)) w

pub arrow-in : (vs : Variables) (t a b x y : NormalType) (c d : Bool) → t ≡ ty.Arrow a b → x ≡ a → y ≡ b → c ≡ type_is_in vs x → d ≡ type_is_in vs y → (c && d) ≡ type_is_in vs t
arrow-in vs t a b x y c d i j k e f = ap₂ (λ m n. m && n) (e ∙ ap (type_is_in vs) j) (f ∙ ap (type_is_in vs) k) ∙ sym (ap (type_is_in vs) i ∙ in-arrow vs a b)

-- the second half of a test, where the first is true
then-is : (c d w : Bool) → c ≡ true → (c && d) ≡ w → d ≡ w
then-is c d w t e = ap (λ z. z && d) (sym t) ∙ e

pub arrow-then : (vs : Variables) (t a b x y : NormalType) (c d : Bool) → t ≡ ty.Arrow a b → x ≡ a → y ≡ b → c ≡ type_is_in vs x → d ≡ type_is_in vs y → c ≡ true → d ≡ type_is_in vs t
arrow-then vs t a b x y c d i j k e f u = then-is c d (type_is_in vs t) u (arrow-in vs t a b x y c d i j k e f)

pub field-then : (vs : Variables) (p : Part) (l : Label) (t x : NormalType) (b c : Bool) → p ≡ part.Field l t → x ≡ t → b ≡ label_is_in vs l → c ≡ type_is_in vs x → b ≡ true → c ≡ part_is_in vs p
field-then vs p l t x b c i j e f u = then-is b c (part_is_in vs p) u (field-in vs p l t x b c i j e f)

pub mapped-then : (free : List Kind) (d e : ℕ) (p : Part) (v : Var) (f x : NormalType) (b c : Bool) → p ≡ part.Mapped v f → x ≡ f → e ≡ suc d → b ≡ is_row (kind_at (within free d) v) → c ≡ type_is_in (within free e) x → b ≡ true →
    c ≡ part_is_in (within free d) p
mapped-then free d e p v f x b c i j k m n u = then-is b c (part_is_in (within free d) p) u (mapped-in free d e p v f x b c i j k m n)

-- a name is of the kind of names
pub name-then : (vs : Variables) (n : Normal) (l : Label) (k : Kind) (b c : Bool) → n ≡ normal.Name l → b ≡ is_name (Some k) → b ≡ true → c ≡ label_is_in vs l → c ≡ is_of_kind vs n k
name-then vs n l kind.Name b c i e t f = f ∙ sym (ap (λ z. is_of_kind vs z kind.Name) i)
name-then vs n l kind.Star b c i e t f = absurd (true≢false (sym t ∙ e))
name-then vs n l kind.Row b c i e t f = absurd (true≢false (sym t ∙ e))
name-then vs n l (kind.Arrow' _ x _ y) b c i e t f = absurd (true≢false (sym t ∙ e))
