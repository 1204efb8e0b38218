-- Fields in written order, and the row that they make.
use Rattle.std.proofs.Common.{◌≡◌, refl, ap, ap₂, sym, ◌∙◌, ℕ, ◌+◌, ◌<◌, ◌≤◌, max, arith, List, [], ◌∷◌, ◌++◌, length, take, get_or, Option, Some, None}
use Rattle.std.specs.Prelude.{map}
use Rattle.std.proofs.lemmas.List.{take_more}
use Rattle.ur_rows.specs.declared.normal.Label.{Label}
use Rattle.ur_rows.specs.declared.normal.NormalType.{NormalType}
use Rattle.ur_rows.specs.declared.normal.Part.{Part}
use Rattle.ur_rows.specs.Made.{field, unit}
use Rattle.ur_rows.specs.Nodes.{type_nodes, part_nodes, row_nodes}
use Rattle.ur_rows.specs.Order.{with_part, joined}
use Rattle.ur_rows.specs.Put.{mapped_row}
use Rattle.ur_rows.proofs.PutAfter.{mapped_row-joined}
use Rattle.ur_rows_reduce.specs.declared.held.Fields.TheVariants as fields
use Rattle.ur_rows_normal.specs.declared.normal_fields.Listed.TheVariants as listed
use Rattle.ur_rows_reduce.specs.Held.{TypeIs, RowIs, Outlines}
use Rattle.ur_rows_normal.specs.Listed.{ListedAs}
use Rattle.ur_rows_reduce.specs.Height.{type_height, part_height, row_height}
use Rattle.ur_rows_reduce.proofs.Lifting.{joined-height}
use Rattle.ur_rows_normal.specs.Walk.{placed}
use Rattle.ur_rows_reduce.proofs.After.{joined-nodes}
use Rattle.ur_rows_reduce.proofs.Outlining.{mapped_row-append}

append-nodes : (r : List Part) (p : Part) → row_nodes (r ++ p ∷ []) ≡ row_nodes r + part_nodes p
append-nodes [] p = one (part_nodes p) where
  one : (n : ℕ) → n + 0 ≡ 0 + n
  one n = omega arith
append-nodes (q ∷ r) p = ap (λ n. part_nodes q + n) (append-nodes r p) ∙ grouped (part_nodes q) (row_nodes r) (part_nodes p) where
  grouped : (a b c : ℕ) → a + (b + c) ≡ a + b + c
  grouped a b c = omega arith

append-height : (r : List Part) (p : Part) → row_height (r ++ p ∷ []) ≡ max (row_height r) (part_height p)
append-height [] p = one (part_height p) where
  one : (n : ℕ) → max n 0 ≡ max 0 n
  one n = omega arith
append-height (q ∷ r) p = grouped (part_height q) (row_height r) (part_height p) (row_height (r ++ p ∷ [])) (append-height r p) where
  grouped : (a b c m : ℕ) → m ≡ max b c → max a m ≡ max (max a b) c
  grouped a b c m e = omega arith

same-outline : (s r : List Part) (l : Label) (t u : NormalType) → mapped_row unit s ≡ mapped_row unit r → mapped_row unit (s ++ field l t ∷ []) ≡ mapped_row unit (r ++ field l u ∷ [])
same-outline s r l t u e = mapped_row-append unit s (field l t) ∙ ap (with_part (field l unit)) e ∙ sym (mapped_row-append unit r (field l u))

pub listed-fits : (s r x : List Part) (left rest high : ℕ) (l : Label) (t u : NormalType) → rest + (type_nodes t + 1) ≡ left → x ≡ s ++ field l t ∷ [] → (high ≡ type_height t) × (high ≤ 4094) → ListedAs (listed.Small s left) r → TypeIs (Some t) u →
    ListedAs (listed.Small x rest) (r ++ field l u ∷ [])
listed-fits s r x left rest high l t u c e v h k = (
  e ∙ ap₂ (λ y z. y ++ field l z ∷ []) h.0 k.0,
  count (row_nodes r) (type_nodes t) (type_nodes u) (row_nodes (r ++ field l u ∷ [])) (append-nodes r (field l u)) (ap type_nodes k.0) h.1 c,
  short (row_height r) (type_height t) (type_height u) (row_height (r ++ field l u ∷ [])) (append-height r (field l u)) (ap type_height k.0) h.2 v.0 v.1,
) where
  short : (m a b w : ℕ) → w ≡ max m (b + 1) → a ≡ b → m < 4096 → high ≡ a → high ≤ 4094 → w < 4096
  short m a b w f g h i j = omega arith

  count : (m a b w : ℕ) → w ≡ m + (b + 1) → a ≡ b → left + m ≡ 65535 → rest + (a + 1) ≡ left → rest + w ≡ 65535
  count m a b w f g h i = omega arith

pub listed-over : (s r x : List Part) (left : ℕ) (l : Label) (t v u : NormalType) → left < type_nodes t + 1 → x ≡ s ++ field l v ∷ [] → ListedAs (listed.Small s left) r → TypeIs (Some t) u →
    ListedAs (listed.Large x) (r ++ field l u ∷ [])
listed-over s r x left l t v u c e h k = (
  count (row_nodes r) (type_nodes t) (type_nodes u) (row_nodes (r ++ field l u ∷ [])) (append-nodes r (field l u)) (ap type_nodes k.0) h.1 c,
  ap (mapped_row unit) e ∙ same-outline s r l v u (ap (mapped_row unit) h.0),
) where
  count : (m a b w : ℕ) → w ≡ m + (b + 1) → a ≡ b → left + m ≡ 65535 → left < a + 1 → 65536 ≤ w
  count m a b w f g h i = omega arith

pub listed-none : (s r x : List Part) (left : ℕ) (l : Label) (v u : NormalType) → x ≡ s ++ field l v ∷ [] → ListedAs (listed.Small s left) r → TypeIs None u → ListedAs (listed.Large x) (r ++ field l u ∷ [])
listed-none s r x left l v u e h k = (
  count (row_nodes r) (type_nodes u) (row_nodes (r ++ field l u ∷ [])) (append-nodes r (field l u)) k,
  ap (mapped_row unit) e ∙ same-outline s r l v u (ap (mapped_row unit) h.0),
) where
  count : (m b w : ℕ) → w ≡ m + (b + 1) → 65536 < b → 65536 ≤ w
  count m b w f g = omega arith

pub listed-large : (s r x : List Part) (l : Label) (v u : NormalType) → x ≡ s ++ field l v ∷ [] → ListedAs (listed.Large s) r → ListedAs (listed.Large x) (r ++ field l u ∷ [])
listed-large s r x l v u e h = (
  count (row_nodes r) (type_nodes u) (row_nodes (r ++ field l u ∷ [])) (append-nodes r (field l u)) h.0,
  ap (mapped_row unit) e ∙ same-outline s r l v u h.1,
) where
  count : (m b w : ℕ) → w ≡ m + (b + 1) → 65536 ≤ m → 65536 ≤ w
  count m b w f g = omega arith

pub row-small : (s r x n : List Part) (left : ℕ) → n ≡ [] → x ≡ joined s n → ListedAs (listed.Small s left) r → RowIs (fields.Small x left) (joined r [])
row-small s r x n left e f h = (f ∙ ap₂ joined h.0 e, ap (λ z. left + z) (joined-nodes r [] ∙ none (row_nodes r)) ∙ h.1, short (row_height r) (row_height (joined r [])) (joined-height r []) h.2) where
  short : (m w : ℕ) → w ≡ max m 0 → m < 4096 → w < 4096
  short m w e h = omega arith

  none : (m : ℕ) → m + 0 ≡ m
  none m = omega arith

pub row-large : (s r x n : List Part) (o : Option (List Part)) → n ≡ [] → x ≡ joined s n → Outlines o x → ListedAs (listed.Large s) r → RowIs (fields.Large o) (joined r [])
row-large s r x n o e f m h = (count (row_nodes r) (row_nodes (joined r [])) (joined-nodes r []) h.0, outlines o m) where
  count : (m w : ℕ) → w ≡ m + 0 → 65536 ≤ m → 65536 ≤ w
  count m w f h = omega arith

  same : mapped_row unit x ≡ mapped_row unit (joined r [])
  same = ap (mapped_row unit) (f ∙ ap (joined s) e) ∙ mapped_row-joined unit s [] ∙ ap (λ z. joined z []) h.1 ∙ sym (mapped_row-joined unit r [])

  outlines : (o : Option (List Part)) → Outlines o x → Outlines o (joined r [])
  outlines None m = tt
  outlines (Some y) m = m ∙ same

-- ---- the row of fields

pub placed-joined : {F : Type 0} (part : F → Part) (fs : List F) → joined (map part fs) [] ≡ placed part fs
placed-joined part [] = refl
placed-joined part (f ∷ fs) = ap (with_part (part f)) (placed-joined part fs)

map-last : {F : Type 0} (part : F → Part) (fs : List F) (f : F) → map part (fs ++ f ∷ []) ≡ map part fs ++ part f ∷ []
map-last part [] f = refl
map-last part (g ∷ fs) f = ap (λ z. part g ∷ z) (map-last part fs f)

pub listed-step : {F : Type 0} (part : F → Part) (fs : List F) (i : ℕ) (f : F) → i < length fs → f ≡ get_or fs i f → map part (take (i + 1) fs) ≡ map part (take i fs) ++ part f ∷ []
listed-step part fs i f h e = ap (map part) (take_more fs i f h ∙ ap (λ z. take i fs ++ z ∷ []) (sym e)) ∙ map-last part (take i fs) f
