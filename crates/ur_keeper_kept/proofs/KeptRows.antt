-- Rows and numbers as a keeper tells them.
use Rattle.std.proofs.Common.{◌≡◌, ℕ, zero, suc, ◌≤◌, ◌<◌, ℤ, pos, List, [], ◌∷◌, length, Option, Some, None, IfSome, option_map, refl, ap, sym, subst, ◌∙◌, arith}
use Rattle.std.specs.Prelude.{IsTrue, slice_get}
use Rattle.std.proofs.lemmas.List.FromFn.{get_or-map-range_with_len}
use Rattle.ur_base.specs.Told.{WhereTold}
use Rattle.ur_values.specs.declared.schema.Schema.{Schema}
use Rattle.ur_values.specs.declared.schema.TableShape.{TableShape}
use Rattle.ur_values.specs.declared.schema.Numbered.{Numbered}
use Rattle.ur_values.specs.Numbered.{has_number}
use Rattle.ur_values.specs.Store.{Row, FitKinds, kinds_of}
use Rattle.ur_keeper.specs.Tables.{Keeps, HasRowAt, table_at, sequence_at}
use Rattle.ur_keeper.specs.Keeper.{IsRowOf}
use Rattle.ur_values.specs.declared.schema.ColumnKind.{ColumnKind}
use Rattle.ur_keeper_bodies.specs.Rows.{kinds_in}
use Rattle.ur_keeper_bodies.specs.Columns.{Column}
use Rattle.ur_keeper_bodies.specs.declared.bodies.BodyChange.{BodyChange}
use Rattle.ur_keeper_bodies.specs.Bodies.{BodyMap, written}
use Rattle.ur_keeper_kept.specs.Laid.{columns_of, columns_at, table_in, number_in, tables_in, HasShortNames, MayWrite}
use Rattle.ur_keeper_kept.proofs.Growth.{short-at}
use Rattle.ur_keeper_kept.proofs.LaidLaws.{table-there}
use Rattle.ur_keeper_kept.specs.Kept.{with_changes}
use Rattle.ur_keeper_kept.proofs.ReadRows.{kinds-same}

fits-at : (xs : List TableShape) (i : ℕ) (row : Row) → i < length xs → IfSome (slice_get xs i) (λ shape. FitKinds row (kinds_of shape))
    → FitKinds row (kinds_in (columns_of (slice_get xs i)))
fits-at [] i row l h = absurd (omega (arith, l))
fits-at (x ∷ xs) zero row l h = subst (λ ks. FitKinds row ks) (sym (kinds-same x.columns)) h
fits-at (x ∷ xs) (suc i) row l h = fits-at xs i row (omega (arith, l)) h

pub may-write : (s : Schema) (i : ℕ) (row : Row) → i < length s.tables → IsRowOf (Keeps s) i row → HasShortNames s → MayWrite (columns_at s i) row
may-write s i row l h short = record { short = short-at s short i; may = record { fits = fits-at s.tables i row l h.shaped; sizes = h.sizes } }

fit-long : (row : Row) (ks : List ColumnKind) → FitKinds row ks → length ks ≤ length row
fit-long [] [] f = omega arith
fit-long [] (k ∷ ks) f = absurd f
fit-long (x ∷ row) [] f = absurd f
fit-long (x ∷ row) (k ∷ ks) f = omega (arith, fit-long row ks (f.1))

long-kinds : (columns : List Column) → length (kinds_in columns) ≡ length columns
long-kinds [] = refl
long-kinds (c ∷ columns) = ap suc (long-kinds columns)

-- a row of the table's shape has a value for each of its columns
pub long-enough : (s : Schema) (i : ℕ) (row : Row) (columns : List Column) → i < length s.tables → IsRowOf (Keeps s) i row → columns ≡ columns_at s i
    → length columns ≤ length row
long-enough s i row columns l h is =
    omega (arith, ap length is, long-kinds (columns_at s i), fit-long row (kinds_in (columns_at s i)) (fits-at s.tables i row l h.shaped))

pub there-at : (s : Schema) (told : Option BodyMap) (changes : List BodyChange) (i n : ℕ) → i < length s.tables
    → WhereTold (option_map (tables_in s) (with_changes changes told)) (HasRowAt i n)
    → WhereTold told (λ m. IsTrue (has_number (table_in s (written m changes) i) n))
there-at s None changes i n l h = tt
there-at s (Some m) changes i n l h = subst (λ (rows : List Numbered). IsTrue (has_number rows n)) (table-there s (written m changes) i l) h

pub rows-at : (s : Schema) (told : Option BodyMap) (changes : List BodyChange) (i : ℕ) (rows : List Numbered) → i < length s.tables
    → WhereTold told (λ m. rows ≡ table_in s (written m changes) i)
    → WhereTold (option_map (tables_in s) (with_changes changes told)) (λ t. rows ≡ table_at t i)
rows-at s None changes i rows l h = tt
rows-at s (Some m) changes i rows l h = h ∙ sym (table-there s (written m changes) i l)

pub number-at : (s : Schema) (told : Option BodyMap) (changes : List BodyChange) (q : ℕ) (n : ℤ) → q < length s.sequences
    → WhereTold told (λ m. n ≡ number_in (written m changes) q)
    → WhereTold (option_map (tables_in s) (with_changes changes told)) (λ t. n ≡ sequence_at t q)
number-at s None changes q n l h = tt
number-at s (Some m) changes q n l h = h ∙ sym (get_or-map-range_with_len (number_in (written m changes)) 0 (length s.sequences) q q (pos 1) l (omega arith))
