-- Where the tables are told.
use Rattle.std.proofs.Common.{◌≡◌, ℕ, ◌+◌, ◌≤◌, ℤ, pos, ◌≤ℤ◌, List, All, Option, Some, None, refl, arith}
use Rattle.std.proofs.lemmas.Int.{ints}
use Rattle.std.proofs.lemmas.List.Elements.{All-weaker}
use Rattle.ur_base.specs.Told.{WhereTold}
use Rattle.ur_values.specs.declared.schema.Numbered.{Numbered}
use Rattle.ur_keeper.specs.Tables.{Tables, NumbersUpTo}
use Rattle.ur_machine.specs.Ready.{RaisedBy}

pub where_told : (o : Option Tables) (P Q : Tables → Type 0) → WhereTold o P → ((t : Tables) → o ≡ Some t → P t → Q t) → WhereTold o Q
where_told None P Q h f = tt
where_told (Some t) P Q h f = f t refl h

pub told_all : (o : Option Tables) (P : Tables → Type 0) → ((t : Tables) → o ≡ Some t → P t) → WhereTold o P
told_all None P f = tt
told_all (Some t) P f = f t refl

-- ---- bounds on numbers

pub more_int : (n : ℤ) (m m' : ℕ) → m ≤ m' → n ≤ℤ pos m → n ≤ℤ pos m'
more_int n m m' le h = omega (arith, ints)

pub rows_more : (m m' : ℕ) (tables : List (List Numbered)) → m ≤ m' → All (All (λ r. r.number ≤ m)) tables → All (All (λ r. r.number ≤ m')) tables
rows_more m m' tables le h =
    All-weaker (All (λ (r : Numbered). r.number ≤ m)) (All (λ (r : Numbered). r.number ≤ m'))
    (λ rows p. All-weaker (λ (r : Numbered). r.number ≤ m) (λ (r : Numbered). r.number ≤ m') (λ r k. omega (arith, le)) rows p) tables h

pub ints_more : (m m' : ℕ) (ns : List ℤ) → m ≤ m' → All (λ n. n ≤ℤ pos m) ns → All (λ n. n ≤ℤ pos m') ns
ints_more m m' ns le h = All-weaker (λ n. n ≤ℤ pos m) (λ n. n ≤ℤ pos m') (λ n k. more_int n m m' le k) ns h

pub numbers_more : (m m' : ℕ) (t : Tables) → m ≤ m' → NumbersUpTo m t → NumbersUpTo m' t
numbers_more m m' t le h = record { rows = rows_more m m' t.tables le h.rows; sequences = ints_more m m' t.sequences le h.sequences }

-- by more
pub raised_more : (n k : ℕ) (current current' : Option Tables) → n ≤ k → RaisedBy n current current' → RaisedBy k current current'
raised_more n k current current' le h m b = where_told current' _ _ (h m b) (λ t e p. numbers_more (m + n) (m + k) t (omega (arith, le)) p)

-- nothing was changed
pub raised_none : (n : ℕ) (current : Option Tables) → RaisedBy n current current
raised_none n current m b = where_told current _ _ b (λ t e p. numbers_more m (m + n) t (omega arith) p)
