-- Maps and functions over what is held.
use Rattle.std.proofs.Common.{◌≡◌, refl, ap, sym, ◌∙◌, subst, ℕ, suc, ◌<◌, ◌≤◌, arith, Bool, true, false, List, [], ◌∷◌, length, Option, Result, IfOk, IsTrue, ◌↔◌, true≢false, Bor}
use Rattle.std.proofs.lemmas.Result.{IfOk-weaker}
use Rattle.ur_base.specs.declared.refusal.Memory.{Memory}
use Rattle.ur_syntax.specs.declared.kind.Kind.{Kind}
use Rattle.ur_rows.specs.declared.normal.NormalType.{NormalType}
use Rattle.ur_rows.specs.declared.normal.Part.{Part}
use Rattle.ur_rows.specs.declared.normal.Normal.{Normal}
use Rattle.ur_rows.specs.declared.normal.Normal.TheVariants as normal
use Rattle.ur_rows.specs.declared.normal.Normal.TheBlock.{end_of-Normal as sole, more_of-Normal as the}
use Rattle.ur_rows.specs.Made.{unit}
use Rattle.ur_rows.specs.IsNormal.{is_row, is_normal_type, all_normal_parts, is_normal}
use Rattle.ur_rows.specs.Nodes.{type_nodes, row_nodes, most_nodes}
use Rattle.ur_rows.specs.Put.{as_type, as_row, applied_once, applied, mapped_row}
use Rattle.ur_rows.specs.Normal.{as_function}
use Rattle.ur_rows.proofs.Order.{and-right}
use Rattle.ur_rows.proofs.InOrder.{put-normal, argument-normal}
use Rattle.ur_rows.proofs.Shapes.{fn-made}
use Rattle.ur_rows_reduce.specs.declared.held.Large.{Large}
use Rattle.ur_rows_reduce.specs.declared.held.Large.TheVariants as large
use Rattle.ur_rows_reduce.specs.declared.held.Held.{Held}
use Rattle.ur_rows_reduce.specs.declared.held.Held.TheVariants as held
use Rattle.ur_rows_reduce.specs.declared.held.Fields.{Fields}
use Rattle.ur_rows_reduce.specs.declared.held.Fields.TheVariants as fields
use Rattle.ur_rows_reduce.specs.declared.given.Args.{Args}
use Rattle.ur_rows_reduce.specs.declared.given.Args.TheVariants as args
use Rattle.ur_rows_reduce.specs.Held.{Outlines, Means, Holds, RowIs}
use Rattle.ur_rows_reduce.specs.Arguments.{Given, args_of}
use Rattle.ur_rows_reduce.proofs.Holding.{held-form, held-large, map-by-large}

function-normal : (n : Normal) → is_normal n ≡ true → is_normal_type (as_function n) ≡ true
function-normal (normal.Fn' k _ (the (normal.Type t) sole)) e = e
function-normal (normal.Fn' k _ (the (normal.Name l) sole)) e = refl
function-normal (normal.Fn' k _ (the (normal.Row r) sole)) e = refl
function-normal (normal.Fn' k _ (the (normal.Fn' j _ (the c sole)) sole)) e = refl
function-normal (normal.Type t) e = refl
function-normal (normal.Name l) e = refl
function-normal (normal.Row r) e = refl

parts-normal : (n : Normal) → is_normal n ≡ true → all_normal_parts (as_row n) ≡ true
parts-normal (normal.Row r) e = and-right (is_row r) (all_normal_parts r) e
parts-normal (normal.Type t) e = refl
parts-normal (normal.Name l) e = refl
parts-normal (normal.Fn' k _ (the c sole)) e = refl

no-row : (n : Normal) (f : NormalType) (s : List Part) → as_row n ≡ [] → s ≡ [] → RowIs (fields.Small s 65535) (mapped_row f (as_row n))
no-row n f s e h = subst (λ z. RowIs (fields.Small s 65535) (mapped_row f z)) (sym e) (h, refl, omega arith)

pub not-empty : (b : Bool) (r : List Part) → (IsTrue b ↔ (r ≡ [])) → b ≡ false → r ≡ [] → ⊥
not-empty b r h e k = true≢false (sym (h.1 k) ∙ e)

-- ---- a row

pub map-of-row : (w : Result Fields Memory) (f : NormalType) (r : Held) (form : Normal) (parts : List Part) → r ≡ held.Form form → form ≡ normal.Row parts → IfOk w (λ m. RowIs m (mapped_row f parts)) →
    IfOk w (λ m. (n : Normal) → is_normal_type f ≡ true → is_normal n ≡ true → Holds r n → RowIs m (mapped_row f (as_row n)))
map-of-row w f r form parts i j k = IfOk-weaker w _ _ (λ m g n p q h. subst (λ z. RowIs m (mapped_row f z)) (ap as_row (sym j ∙ (held-form r form n i h).0)) g) k

pub map-of-no-row : (f : NormalType) (r : Held) (form : Normal) (s : List Part) → r ≡ held.Form form → as_row form ≡ [] → s ≡ [] →
    (n : Normal) → is_normal_type f ≡ true → is_normal n ≡ true → Holds r n → RowIs (fields.Small s 65535) (mapped_row f (as_row n))
map-of-no-row f r form s i e h n p q k = no-row n f s (ap as_row (sym (held-form r form n i k).0) ∙ e) h

pub map-of-large : (w : Result Fields Memory) (f : NormalType) (r : Held) (l : Large) (o : Option (List Part)) → r ≡ held.Large l → l ≡ large.Row o →
    IfOk w (λ m. (r : List Part) → is_normal_type f ≡ true → all_normal_parts r ≡ true → most_nodes ≤ row_nodes r → Outlines o r → RowIs m (mapped_row f r)) →
    IfOk w (λ m. (n : Normal) → is_normal_type f ≡ true → is_normal n ≡ true → Holds r n → RowIs m (mapped_row f (as_row n)))
map-of-large w f r l o i j k = IfOk-weaker w _ _ (λ m g n p q h. g (as_row n) p (parts-normal n q) (known n h).0 (known n h).1) k where
  known : (n : Normal) → Holds r n → Means (large.Row o) n
  known n h = subst (λ z. Means z n) j (held-large r l n i h)

-- ---- with a function that is too large

pub large-map-of-row : (w : Result Fields Memory) (r : Held) (form : Normal) (parts : List Part) → r ≡ held.Form form → form ≡ normal.Row parts →
    IfOk w (λ m. (f : NormalType) → is_normal_type f ≡ true → most_nodes ≤ type_nodes f → RowIs m (mapped_row f parts)) →
    IfOk w (λ m. (f : NormalType) (n : Normal) → is_normal_type f ≡ true → most_nodes ≤ type_nodes f → Holds r n → RowIs m (mapped_row f (as_row n)))
large-map-of-row w r form parts i j k = IfOk-weaker w _ _ (λ m g f n p q h. subst (λ z. RowIs m (mapped_row f z)) (ap as_row (sym j ∙ (held-form r form n i h).0)) (g f p q)) k

pub large-map-of-no-row : (r : Held) (form : Normal) (s : List Part) → r ≡ held.Form form → as_row form ≡ [] → s ≡ [] →
    (f : NormalType) (n : Normal) → is_normal_type f ≡ true → most_nodes ≤ type_nodes f → Holds r n → RowIs (fields.Small s 65535) (mapped_row f (as_row n))
large-map-of-no-row r form s i e h f n p q k = no-row n f s (ap as_row (sym (held-form r form n i k).0) ∙ e) h

pub large-map-of-large : (r : Held) (l : Large) (o c : Option (List Part)) → r ≡ held.Large l → l ≡ large.Row o → c ≡ o →
    (f : NormalType) (n : Normal) → is_normal_type f ≡ true → most_nodes ≤ type_nodes f → Holds r n → RowIs (fields.Large c) (mapped_row f (as_row n))
large-map-of-large r l o c i j e f n p q h = map-by-large f (as_row n) c p q (nonempty (as_row n) known.0) (subst (λ z. Outlines z (as_row n)) (sym e) known.1) where
  known : Means (large.Row o) n
  known = subst (λ z. Means z n) j (held-large r l n i h)

  nonempty : (x : List Part) → most_nodes ≤ row_nodes x → x ≡ [] → ⊥
  nonempty x m z = never (subst (λ y. most_nodes ≤ row_nodes y) z m) where
    never : 65536 ≤ 0 → ⊥
    never k = omega arith

pub large-map-of-none : (r s : List Part) → r ≡ [] → s ≡ [] → (f : NormalType) → is_normal_type f ≡ true → most_nodes ≤ type_nodes f → RowIs (fields.Small s 65535) (mapped_row f r)
large-map-of-none r s e h f p q = subst (λ z. RowIs (fields.Small s 65535) (mapped_row f z)) (sym e) (h, refl, omega arith)

-- ---- both

pub body-type : (f c g : Normal) (k : Kind) → f ≡ normal.Fn k c → g ≡ c → as_function f ≡ as_type g
body-type f c g k e h = ap as_function (e ∙ fn-made k c) ∙ ap as_type (sym h)

pub function-no_type : (n : Normal) (k : Kind) (c : Normal) → n ≡ normal.Fn k c → as_type n ≡ unit
function-no_type n k c e = ap as_type (e ∙ fn-made k c)

pub map-by : (w : Result Fields Memory) (f r : Held) (form : Normal) (t : NormalType) → f ≡ held.Form form → as_function form ≡ t →
    IfOk w (λ m. (n : Normal) → is_normal_type t ≡ true → is_normal n ≡ true → Holds r n → RowIs m (mapped_row t (as_row n))) →
    IfOk w (λ x. (m n : Normal) → is_normal m ≡ true → is_normal n ≡ true → Holds f m → Holds r n → RowIs x (mapped_row (as_function m) (as_row n)))
map-by w f r form t i e k = IfOk-weaker w _ _ (λ x g m n p q h j. subst (λ z. RowIs x (mapped_row z (as_row n))) (sym (same m h)) (g n (ap is_normal_type (sym (same m h)) ∙ function-normal m p) q j)) k where
  same : (m : Normal) → Holds f m → as_function m ≡ t
  same m h = ap as_function (sym (held-form f form m i h).0) ∙ e

pub map-by-function : (w : Result Fields Memory) (f r : Held) (l : Large) → f ≡ held.Large l → l ≡ large.TypeFunction →
    IfOk w (λ m. (f : NormalType) (n : Normal) → is_normal_type f ≡ true → most_nodes ≤ type_nodes f → Holds r n → RowIs m (mapped_row f (as_row n))) →
    IfOk w (λ x. (m n : Normal) → is_normal m ≡ true → is_normal n ≡ true → Holds f m → Holds r n → RowIs x (mapped_row (as_function m) (as_row n)))
map-by-function w f r l i e k = IfOk-weaker w _ _ (λ x g m n p q h j. g (as_function m) n (function-normal m p) (subst (λ z. Means z m) e (held-large f l m i h)) j) k

-- ---- arguments in turn

pub fewer-args : (given : Args) (x : Bor Held) (r : Bor Args) → given ≡ args.More x r → length (args_of r.now) < length (args_of given)
fewer-args given x r i = subst (λ z. length (args_of r.now) < length (args_of z)) (sym i) (go (length (args_of r.now))) where
  go : (n : ℕ) → n < suc n
  go n = omega arith

pub below : (m n t : ℕ) → n ≡ t → m < n → m < t
below m n t e h = omega arith

applied-once-normal : (f a : Normal) → is_normal (applied_once f a) ≡ true
applied-once-normal (normal.Fn' k _ (the c sole)) a = put-normal (argument-normal a) 0 c
applied-once-normal (normal.Type t) a = refl
applied-once-normal (normal.Name l) a = refl
applied-once-normal (normal.Row r) a = refl

pub none-applied : (f : Held) (given : Args) → given ≡ args.Empty → (n : Normal) (ns : List Normal) → Holds f n → Given (args_of given) ns → Holds f (applied n ns)
none-applied f given i n ns h g = go ns (subst (λ z. Given (args_of z) ns) i g) where
  go : (ns : List Normal) → Given [] ns → Holds f (applied n ns)
  go [] g = h
  go (m ∷ ms) g = absurd g

pub more-applied : (w : Result Held Memory) (f form : Held) (given : Args) (x : Bor Held) (r : Bor Args) → given ≡ args.More x r →
    ((m n : Normal) → is_normal n ≡ true → Holds f m → Holds x.now n → Holds form (applied_once m n)) →
    IfOk w (λ h. (n : Normal) (ns : List Normal) → Holds form n → Given (args_of r.now) ns → Holds h (applied n ns)) →
    IfOk w (λ h. (n : Normal) (ns : List Normal) → Holds f n → Given (args_of given) ns → Holds h (applied n ns))
more-applied w f form given x r i k = IfOk-weaker w _ _ (λ h g n ns p q. go h g n ns p (subst (λ z. Given (args_of z) ns) i q)) where
  go : (h : Held) → ((n : Normal) (ns : List Normal) → Holds form n → Given (args_of r.now) ns → Holds h (applied n ns)) → (n : Normal) (ns : List Normal) → Holds f n → Given (x.now ∷ args_of r.now) ns → Holds h (applied n ns)
  go h g n [] p q = absurd q
  go h g n (a ∷ ns) p q = g (applied_once n a) ns (k n a q.1 p q.0) q.2
