-- What has no fault.
use Rattle.std.proofs.Common.{◌≡◌, ◌≢◌, ℕ, zero, suc, ◌+◌, ◌≤◌, ◌<◌, ℤ, pos, negsuc, ◌+ℤ◌, ◌≤ℤ◌, ◌<ℤ◌, List, [], ◌∷◌, length, map, All, Option, Some, None, IfSome, T, refl, ap, sym, subst, ◌∙◌, arith}
use Rattle.std.specs.Prelude.{Result, Ok, Err, IsErrAnd, OnErr, slice_get, unsigned_abs, unwrap_or}
use Rattle.std.specs.List.{AllZip, range_with_len}
use Rattle.std.specs.declared.cmp.Ordering.{Ordering}
use Rattle.std.specs.declared.cmp.Ordering.TheVariants.{Less, Equal, Greater}
use Rattle.std.specs.Ordering.{int_cmp, is_lt}
use Rattle.std.specs.FinMap.{is_sorted}
use Rattle.std.specs.FinMap.Entries.{below_all}
use Rattle.std.proofs.lemmas.Int.{ints}
use Rattle.std.proofs.lemmas.List.Elements.{All-nil, All-cons, All-head, All-tail, All-weaker}
use Rattle.ur_base.specs.Told.{WhereTold}
use Rattle.ur_values.specs.declared.schema.Schema.{Schema}
use Rattle.ur_values.specs.declared.schema.Numbered.{Numbered}
use Rattle.ur_values.specs.Store.{Row}
use Rattle.ur_keeper.specs.Tables.{AreRowsOf, MayCommitTable}
use Rattle.ur_keeper_bodies.specs.declared.stored.Layout.{Layout}
use Rattle.ur_keeper_bodies.specs.Rows.{number_of}
use Rattle.ur_keeper_bodies.specs.Columns.{Column}
use Rattle.ur_keeper_bodies.specs.Stored.{body_row}
use Rattle.ur_keeper_bodies.specs.Bodies.{BodyMap, body_at, bodies_of}
use Rattle.ur_keeper_bodies.proofs.Places.{first, second}
use Rattle.ur_keeper_kept.specs.Laid.{table_tab, columns_at, rows_by, table_by, number_in, number_of_body, IsBodyBy}
use Rattle.ur_keeper_kept.specs.Kept.{IsNumber}
use Rattle.ur_keeper_kept.specs.Attach.{IsSoundRows, IsSoundTable, IsSoundSequence, IsSoundStore}
use Rattle.ur_keeper_kept.specs.Faults.{Finds, AreReadable, IsDrawable, HasLowNumbers}
use Rattle.ur_keeper_kept.proofs.Told.{told-one}
use Rattle.ur_keeper_kept.proofs.Attaching.{some-weaker, some-there, from-here, from-zero, shift, unall-range}

-- ---- a fault of a part, behind calls that found none

pub finds-part : {A : Type 0} (old mid now : ℕ) (told told' : Option A) (P Q : A → Type 0) → mid ≡ old → told' ≡ told → ((a : A) → P a → Q a)
    → (now ≢ mid → WhereTold told' P) → now ≢ old → WhereTold told Q
finds-part old mid now told told' P Q e t f h other = told-one told P Q (subst (λ o. WhereTold o P) t (h (λ same. other (same ∙ e)))) f

-- what a `?` answers
pub finds-at : {A T E : Type 0} (r : Result T E) (Q : E → Type 0) (old now : ℕ) (told : Option A) (P : A → Type 0) → IsErrAnd r Q
    → (now ≢ old → WhereTold told P) → Finds r old now told P
finds-at (Ok x) Q old now told P i h = absurd i
finds-at (Err e) Q old now told P i h = h

pub err-at : {T E : Type 0} (r : Result T E) (P : Type 0) → P → OnErr r P
err-at (Ok x) P p = tt
err-at (Err e) P p = p

pub finds-exit : {A T E : Type 0} (r : Result T E) (Q : E → Type 0) (old mid now : ℕ) (told told' : Option A) (P R : A → Type 0) → IsErrAnd r Q → mid ≡ old
    → told' ≡ told → ((a : A) → P a → R a) → (now ≢ mid → WhereTold told' P) → Finds r old now told R
finds-exit r Q old mid now told told' P R i e t f h = finds-at r Q old now told R i (finds-part old mid now told told' P R e t f h)

-- ---- bodies that read

abbrev Es : Type 0
Es = List (ℤ × List ℕ)

-- so they do from this number on, one after the other
abbrev pub ReadsFrom : Layout → List Column → ℤ → Es → Type 0
ReadsFrom layout columns next [] = Unit {0}
ReadsFrom layout columns next (e ∷ es) = (next ≤ℤ e.0) × (e.0 <ℤ pos 9223372036854775807) × ((row : Row) × (body_row layout columns e.1 ≡ Some row)) × ReadsFrom layout columns (e.0 +ℤ pos 1) es

less-is : (r : Ordering) → T (is_lt r) → r ≡ Less
less-is Less p = refl
less-is Equal p = absurd p
less-is Greater p = absurd p

behind : (x y : ℤ) → int_cmp x y ≡ Less → (x +ℤ pos 1) ≤ℤ y
behind x y e = grind (arith, ints)

above-all : (x : ℤ) (es : Es) → T (below_all int_cmp x es) → All (λ e. (x +ℤ pos 1) ≤ℤ e.0) es
above-all x [] h = All-nil (λ (e : ℤ × List ℕ). (x +ℤ pos 1) ≤ℤ e.0)
above-all x (e ∷ es) h = All-cons (λ (e : ℤ × List ℕ). (x +ℤ pos 1) ≤ℤ e.0) e es (behind x e.0 (less-is _ (first _ _ h))) (above-all x es (second _ _ h))

reads-on : (layout : Layout) (columns : List Column) (next : ℤ) (es : Es) → T (is_sorted int_cmp es) → All (IsBodyBy layout columns) es
    → All (λ e. e.0 <ℤ pos 9223372036854775807) es → All (λ e. next ≤ℤ e.0) es → ReadsFrom layout columns next es
reads-on layout columns next [] s laid below above = tt
reads-on layout columns next (e ∷ es) s laid below above =
    let body = (All-head (IsBodyBy layout columns) e es laid).body in (
      All-head (λ (e : ℤ × List ℕ). next ≤ℤ e.0) e es above,
      All-head (λ (e : ℤ × List ℕ). e.0 <ℤ pos 9223372036854775807) e es below,
      (body.0, body.1),
      reads-on layout columns (e.0 +ℤ pos 1) es (second _ _ s) (All-tail (IsBodyBy layout columns) e es laid) (All-tail (λ (e : ℤ × List ℕ). e.0 <ℤ pos 9223372036854775807) e es below) (above-all e.0 es (first _ _ s)),
    )

pub reads-all : (layout : Layout) (columns : List Column) (es : Es) → T (is_sorted int_cmp es) → AreReadable layout columns es
    → ReadsFrom layout columns (pos 0) es
reads-all layout columns es s h =
    reads-on layout columns (pos 0) es s h.laid h.below (All-weaker (IsBodyBy layout columns) (λ (e : ℤ × List ℕ). pos 0 ≤ℤ e.0) (λ e b. b.low) es h.laid)

-- rows with low numbers are of bodies with low numbers
low-int : (z : ℤ) → pos 0 ≤ℤ z → unsigned_abs z < 9223372036854775807 → z <ℤ pos 9223372036854775807
low-int (pos k) low less = omega (arith, ints, less)
low-int (negsuc k) low less = absurd (omega (arith, ints, low))

low-bodies : (layout : Layout) (columns : List Column) (es : Es) → All (IsBodyBy layout columns) es → HasLowNumbers (rows_by layout columns es)
    → All (λ e. e.0 <ℤ pos 9223372036854775807) es
low-bodies layout columns [] laid low = All-nil (λ (e : ℤ × List ℕ). e.0 <ℤ pos 9223372036854775807)
low-bodies layout columns (e ∷ es) laid low =
    All-cons (λ (e : ℤ × List ℕ). e.0 <ℤ pos 9223372036854775807) e es (low-int e.0 (All-head (IsBodyBy layout columns) e es laid).low (All-head (λ (r : Numbered). r.number < 9223372036854775807) _ (rows_by layout columns es) low))
    (low-bodies layout columns es (All-tail (IsBodyBy layout columns) e es laid) (All-tail (λ (r : Numbered). r.number < 9223372036854775807) _ (rows_by layout columns es) low))

pub readable : (layout : Layout) (columns : List Column) (es : Es) → All (IsBodyBy layout columns) es → HasLowNumbers (rows_by layout columns es)
    → AreReadable layout columns es
readable layout columns es laid low = record { laid = laid; below = low-bodies layout columns es laid low }

lower : (r : Numbered) → r.number ≤ 4611686018427387904 → r.number < 9223372036854775807
lower r h = omega (arith, h)

pub sound-reads : (layout : Layout) (s : Schema) (m : BodyMap) (i : ℕ) → i < length s.tables → IsSoundTable layout s m i
    → AreReadable layout (columns_at s i) (bodies_of m (table_tab i))
sound-reads layout s m i l h =
    let low : All (λ r. r.number ≤ 4611686018427387904) (table_by layout s m i) =
    some-there s.tables i l (All (λ (r : Numbered). r.number ≤ 4611686018427387904) (table_by layout s m i)) (some-weaker (slice_get s.tables i) (λ shape. IsSoundRows shape (table_by layout s m i)) (λ shape. All (λ (r : Numbered). r.number ≤ 4611686018427387904) (table_by layout s m i)) (λ shape r. r.numbers) h.sound) in
    readable layout (columns_at s i) (bodies_of m (table_tab i)) h.laid (All-weaker (λ (r : Numbered). r.number ≤ 4611686018427387904) (λ (r : Numbered). r.number < 9223372036854775807) lower (table_by layout s m i) low)

-- ---- next numbers

some-same : {A : Type 0} (x y : A) → Some x ≡ Some y → x ≡ y
some-same x y e = ap (λ o. unwrap_or o x) e

pub no-body : (body : Option (List ℕ)) → body ≡ None → IsDrawable body → ⊥
no-body None e h = cc
no-body (Some b) e h = cc

pub not-numbered : (body : Option (List ℕ)) (b : List ℕ) → body ≡ Some b → number_of b ≡ None → IsDrawable body → ⊥
not-numbered body b e none h =
    let same : h.1.0 ≡ b = some-same _ _ (sym h.1.1 ∙ e) in
    none-some _ (sym none ∙ sym (ap number_of same) ∙ h.1.2)
  where
    none-some : (n : ℤ) → None ≡ Some n → ⊥
    none-some n p = cc

pub same-number : (body : Option (List ℕ)) (n k : ℤ) → IsNumber body n → IsNumber body k → n ≡ k
same-number body n k h q = some-same n k (sym h.2 ∙ ap number_of (some-same _ _ (sym h.1 ∙ q.1)) ∙ q.2)

pub drawn-number : (body : Option (List ℕ)) (b : List ℕ) (n : ℤ) → body ≡ Some b → number_of b ≡ Some n → IsDrawable body
    → (pos 1 ≤ℤ n) × (n <ℤ pos 9223372036854775807)
drawn-number body b n e is h =
    let same : h.0 ≡ n = same-number body h.0 n h.1 (b, e, is) in
    (subst (λ (z : ℤ). pos 1 ≤ℤ z) same h.2, subst (λ (z : ℤ). z <ℤ pos 9223372036854775807) same h.3)

low-number : (n : ℤ) → n ≤ℤ pos 4611686018427387904 → n <ℤ pos 9223372036854775807
low-number n h = omega (arith, ints, h)

pub sound-draws : (m : BodyMap) (i : ℕ) → IsSoundSequence m i → IsDrawable (body_at m (pos 1) (pos i))
sound-draws m i h = (h.0, h.1, h.2, low-number h.0 h.3)

pub sound-number : (m : BodyMap) (i : ℕ) (n : ℤ) → IsNumber (body_at m (pos 1) (pos i)) n → IsSoundSequence m i → n ≤ℤ pos 4611686018427387904
sound-number m i n is h = subst (λ (z : ℤ). z ≤ℤ pos 4611686018427387904) (same-number (body_at m (pos 1) (pos i)) h.0 n h.1 is) h.3

-- ---- the tables and sequences of a sound store

unzip-range : {A B : Type 0} (R : A → B → Type 0) (f : ℕ → B) (xs : List A) (k i : ℕ) → AllZip R xs (map f (range_with_len k (length xs)))
    → IfSome (slice_get xs i) (λ x. R x (f (k + i)))
unzip-range R f [] k i h = tt
unzip-range R f (x ∷ xs) k zero h = subst (λ (j : ℕ). R x (f j)) (sym (from-here k)) h.0
unzip-range {A} R f (x ∷ xs) k (suc i) h = subst (λ (j : ℕ). IfSome (slice_get xs i) (λ (y : A). R y (f j))) (sym (shift k i)) (unzip-range R f xs (k + 1) i h.1)

unzip-all : {A B : Type 0} (R : A → B → Type 0) (f : ℕ → B) (xs : List A) (i : ℕ) → AllZip R xs (map f (range_with_len 0 (length xs)))
    → IfSome (slice_get xs i) (λ x. R x (f i))
unzip-all {A} R f xs i h = subst (λ (j : ℕ). IfSome (slice_get xs i) (λ (x : A). R x (f j))) (from-zero i) (unzip-range R f xs 0 i h)

module _ (layout : Layout) (s : Schema) (m : BodyMap) (h : IsSoundStore layout s m) where
  pub sound-table : (i : ℕ) → i < length s.tables → IsSoundTable layout s m i
  sound-table i l =
      let low : All (λ r. r.number ≤ 4611686018427387904) (table_by layout s m i) = unall-range (All (λ (r : Numbered). r.number ≤ 4611686018427387904)) (table_by layout s m) (length s.tables) i l h.sound.numbers.rows in
      record {
        laid = h.laid.tables i l;
        fits = unzip-all AreRowsOf (table_by layout s m) s.tables i h.sound.fits.tables;
        sound =
            some-weaker (slice_get s.tables i) (λ shape. MayCommitTable shape (table_by layout s m i)) (λ shape. IsSoundRows shape (table_by layout s m i)) (λ shape c. record { commits = c; numbers = low }) (unzip-all MayCommitTable (table_by layout s m) s.tables i h.sound.commits);
      }

  pub sound-sequence : (i : ℕ) → i < length s.sequences → IsSoundSequence m i
  sound-sequence i l =
      let body = h.laid.sequences i l in
      let is : number_in m i ≡ body.1 = ap number_of_body body.2 ∙ ap (λ o. unwrap_or o (pos 1)) body.3 in
      (body.1, (body.0, body.2, body.3), body.4, subst (λ (z : ℤ). z ≤ℤ pos 4611686018427387904) is (unall-range (λ (n : ℤ). n ≤ℤ pos 4611686018427387904) (number_in m) (length s.sequences) i l h.sound.numbers.sequences))
