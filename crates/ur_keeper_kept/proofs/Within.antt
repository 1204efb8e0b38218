-- What a call within a transaction finds.
use Rattle.std.proofs.Common.{◌≡◌, ℕ, ◌+◌, ◌≤◌, ◌<◌, max, ℤ, pos, ◌≤ℤ◌, ◌<ℤ◌, List, [], ◌∷◌, length, map, fold, get_or, All, Option, Some, None, option_map, ap, sym, subst, ◌∙◌, arith}
use Rattle.std.specs.Prelude.{unwrap_or}
use Rattle.std.proofs.lemmas.List.FromFn.{get_or-map-range_with_len}
use Rattle.std.proofs.lemmas.List.Elements.{All-nil, All-cons, All-weaker}
use Rattle.ur_base.specs.Told.{WhereTold}
use Rattle.ur_values.specs.declared.schema.Schema.{Schema}
use Rattle.ur_values.specs.declared.schema.Numbered.{Numbered}
use Rattle.ur_values.specs.Numbered.{next_number}
use Rattle.ur_keeper.specs.Tables.{HasNextNumber, HasNextDraw, HasRowAt, table_at, sequence_at}
use Rattle.ur_keeper_bodies.specs.Bodies.{BodyMap, body_at, bodies_of, written}
use Rattle.ur_keeper_bodies.specs.declared.stored.Layout.TheVariants as layouts
use Rattle.ur_keeper_kept.specs.Laid.{table_tab, columns_at, number_in, number_of_body, tables_in}
use Rattle.ur_keeper_kept.proofs.Rows.{fold-least}
use Rattle.ur_keeper_kept.proofs.LaidLaws.{table-there}
use Rattle.ur_keeper_kept.specs.declared.pending.Pending.{Pending}
use Rattle.ur_keeper_kept.specs.Kept.{with_changes, IsPending, IsNumber}
use Rattle.ur_keeper_kept.specs.Faults.{AreReadable, IsDrawable, HasLowNumbers}
use Rattle.ur_keeper_kept.proofs.Finding.{readable}
use Rattle.ur_keeper_kept.proofs.KeptRows.{there-at}
use Rattle.ur_keeper_kept.proofs.Steps.{is-there}

-- ---- rows

-- the current table has a row with the greatest number, where it does not read
pub unread-now : (s : Schema) (told : Option BodyMap) (p : Pending) (i : ℕ) → i < length s.tables → WhereTold told (λ m. IsPending s m p)
    → WhereTold told (λ m. AreReadable layouts.Two (columns_at s i) (bodies_of (written m p.changes) (table_tab i)) → ⊥)
    → WhereTold (option_map (tables_in s) (with_changes p.changes told)) (λ t. HasLowNumbers (table_at t i) → ⊥)
unread-now s None p i l good h = tt
unread-now s (Some m) p i l good h = λ low.
    h (readable layouts.Two (columns_at s i) (bodies_of (written m p.changes) (table_tab i)) (good.good.current.tables i l) (subst (λ (rows : List Numbered). HasLowNumbers rows) (table-there s (written m p.changes) i l) low))

below-all : (a : ℕ) (rows : List Numbered) → All (λ r. r.number < fold max a (map (λ r. r.number + 1) rows)) rows
below-all a [] = All-nil (λ (r : Numbered). r.number < a)
below-all a (r ∷ rows) =
    let most = fold max (max a (r.number + 1)) (map (λ (r : Numbered). r.number + 1) rows) in
    All-cons (λ (x : Numbered). x.number < most) r rows (omega (arith, fold-least (max a (r.number + 1)) (map (λ (r : Numbered). r.number + 1) rows))) (below-all (max a (r.number + 1)) rows)

low-below : (rows : List Numbered) → next_number rows ≤ 9223372036854775807 → HasLowNumbers rows
low-below rows h =
    All-weaker (λ (r : Numbered). r.number < next_number rows) (λ (r : Numbered). r.number < 9223372036854775807) (λ r l. less r.number (next_number rows) l h) rows (below-all 0 rows)
  where
    less : (n k : ℕ) → n < k → k ≤ 9223372036854775807 → n < 9223372036854775807
    less n k l h = omega (arith, l, h)

-- and with room for one more number it reads
pub room-reads : (s : Schema) (told : Option BodyMap) (p : Pending) (i : ℕ) → i < length s.tables → WhereTold told (λ m. IsPending s m p)
    → WhereTold (option_map (tables_in s) (with_changes p.changes told)) (HasNextNumber i)
    → WhereTold told (λ m. AreReadable layouts.Two (columns_at s i) (bodies_of (written m p.changes) (table_tab i)) → ⊥) → WhereTold told (λ m. ⊥)
room-reads s None p i l good room h = tt
room-reads s (Some m) p i l good room h =
    unread-now s (Some m) p i l good h (low-below (table_at (tables_in s (written m p.changes)) i) room)

-- a row that is there has a number below 2^63
pub row-low : (s : Schema) (told : Option BodyMap) (p : Pending) (i n : ℕ) → i < length s.tables → WhereTold told (λ m. IsPending s m p)
    → WhereTold (option_map (tables_in s) (with_changes p.changes told)) (HasRowAt i n)
    → 9223372036854775808 ≤ n → WhereTold told (λ m. ⊥)
row-low s None p i n l good there high = tt
row-low s (Some m) p i n l good there high =
    let less : n < 9223372036854775808 = good.good.stays_low i n l (is-there s m p good i n l ∙ there-at s (Some m) p.changes i n l there) in
    omega (arith, less, high)

-- ---- next numbers

sequence-there : (s : Schema) (m : BodyMap) (q : ℕ) → q < length s.sequences → sequence_at (tables_in s m) q ≡ number_in m q
sequence-there s m q l = get_or-map-range_with_len (number_in m) 0 (length s.sequences) q q (pos 1) l (omega arith)

number-of : (m : BodyMap) (q : ℕ) (n : ℤ) → IsNumber (body_at m (pos 1) (pos q)) n → number_in m q ≡ n
number-of m q n h = ap number_of_body h.1 ∙ ap (λ o. unwrap_or o (pos 1)) h.2

low-draw : (s : Schema) (m : BodyMap) (q : ℕ) (n : ℤ) → q < length s.sequences → IsNumber (body_at m (pos 1) (pos q)) n → HasNextDraw q (tables_in s m)
    → n <ℤ pos 9223372036854775807
low-draw s m q n l is room = subst (λ (z : ℤ). z <ℤ pos 9223372036854775807) (sequence-there s m q l ∙ number-of m q n is) room

-- a sequence that may be drawn from has a next number
pub room-draws : (s : Schema) (told : Option BodyMap) (p : Pending) (q : ℕ) → q < length s.sequences → WhereTold told (λ m. IsPending s m p)
    → WhereTold (option_map (tables_in s) (with_changes p.changes told)) (HasNextDraw q)
    → WhereTold told (λ m. IsDrawable (body_at (written m p.changes) (pos 1) (pos q)) → ⊥) → WhereTold told (λ m. ⊥)
room-draws s None p q l good room h = tt
room-draws s (Some m) p q l good room h =
    let body = good.good.current.sequences q l in
    let is : IsNumber (body_at (written m p.changes) (pos 1) (pos q)) body.1 = (body.0, body.2, body.3) in
    h (body.1, is, body.4, low-draw s (written m p.changes) q body.1 l is room)

-- and the one that the last draw left is not the greatest
pub draws-on : (s : Schema) (told : Option BodyMap) (p : Pending) (q : ℕ) (n : ℤ) → q < length s.sequences → WhereTold told (λ m. IsPending s m p)
    → WhereTold (option_map (tables_in s) (with_changes p.changes told)) (HasNextDraw q)
    → n ≡ get_or p.drawn q (pos 0) → pos 1 ≤ℤ n → (n <ℤ pos 9223372036854775807 → ⊥) → WhereTold told (λ m. ⊥)
draws-on s None p q n l good room e low h = tt
draws-on s (Some m) p q n l good room e low h =
    let is : IsNumber (body_at (written m p.changes) (pos 1) (pos q)) n = subst (λ (z : ℤ). IsNumber (body_at (written m p.changes) (pos 1) (pos q)) z) (sym e) (good.drawn q (subst (λ (z : ℤ). pos 1 ≤ℤ z) e low)) in
    h (low-draw s (written m p.changes) q n l is room)
