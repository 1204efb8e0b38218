-- One column more of a schema that is compared with a kept one, the rows of one that extends another, and that a schema extends itself.
use Rattle.std.proofs.Common.{◌≡◌, ℕ, zero, suc, ◌+◌, ◌-◌, ◌≤◌, ◌<◌, ◌==◌, eqb-true, eq-eqb, map, Bool, true, false, not, ◌&&◌, cond, List, [], ◌∷◌, length, drop, get_or, Option, Some, None, is_some, IfSome, refl, ap, ap₂, sym, subst, ◌∙◌, arith}
use Rattle.std.specs.Cmp.Lexicographic.{pointwise}
use Rattle.std.specs.Str.{bytes_eq}
use Rattle.std.proofs.lemmas.List.{drop_more, drop_all, drop-drop, length-drop}
use Rattle.std.proofs.lemmas.Bool.{and_parts, and_from, false_from_ne_true}
use Rattle.ur_values.specs.declared.value.Value.{Value}
use Rattle.ur_values.specs.declared.value.Value.TheVariants as v
use Rattle.ur_values.specs.declared.schema.ColumnKind.{ColumnKind}
use Rattle.ur_values.specs.declared.schema.ColumnKind.TheVariants as kind
use Rattle.ur_values.specs.declared.schema.TableShape.{TableShape}
use Rattle.ur_values.specs.declared.schema.Schema.{Schema}
use Rattle.ur_values.specs.Store.{Row, FitKinds, FitsKind}
use Rattle.ur_values.specs.Kinds.{inside}
use Rattle.ur_values.specs.Keys.{key_of}
use Rattle.ur_values.specs.Extends.{Column, kind_eq, has_column, is_new, columns_extend, extend_from, moved, key_moved, bool_eq, is_next, table_extends, extends, grown}

-- at the next kept column
pub at-kept : (d : Column) (rest kept : List Column) (at : ℕ) (c : Column) (b k : Bool) → at < length kept → c ≡ get_or kept at c → bytes_eq c.0 d.0 ≡ b
    → kind_eq d.1 c.1 ≡ k → is_new (drop at kept) d ≡ is_new (drop at kept) d
    → columns_extend (d ∷ rest) (drop at kept) ≡ cond b (k && columns_extend rest (drop (at + 1) kept)) (is_new (drop at kept) d && columns_extend rest (drop at kept))
at-kept d rest kept at c b k small is named same u =
    let whole : drop at kept ≡ c ∷ drop (at + 1) kept = drop_more kept at c small ∙ ap (λ (x : Column). x ∷ drop (at + 1) kept) (sym is) in
    ap (columns_extend (d ∷ rest)) whole
    ∙ ap₂ (λ (x y : Bool). cond x (y && columns_extend rest (drop (at + 1) kept)) (is_new (c ∷ drop (at + 1) kept) d && columns_extend rest (c ∷ drop (at + 1) kept))) named same
    ∙ ap (λ (cs : List Column). cond b (k && columns_extend rest (drop (at + 1) kept)) (is_new cs d && columns_extend rest cs)) (sym whole)

-- behind the last one
pub at-end : (d : Column) (rest kept : List Column) (at : ℕ) → length kept ≤ at
    → columns_extend (d ∷ rest) (drop at kept) ≡ (is_new (drop at kept) d && columns_extend rest (drop at kept))
at-end d rest kept at past =
    let none : drop at kept ≡ [] = drop_all at kept past in
    ap (columns_extend (d ∷ rest)) none ∙ ap (λ (cs : List Column). is_new cs d && columns_extend rest cs) (sym none)

-- ---- laws

pub same-bytes : (xs : List ℕ) → bytes_eq xs xs ≡ true
same-bytes [] = refl
same-bytes (x ∷ xs) = rw (eq-eqb x x refl) (same-bytes xs)

same-kind : (k : ColumnKind) → kind_eq k k ≡ true
same-kind kind.Int = refl
same-kind kind.Str = refl
same-kind kind.Bool = refl
same-kind kind.OptInt = refl
same-kind kind.OptStr = refl
same-kind kind.OptBool = refl

-- columns extend themselves
pub columns-extend-themselves : (columns : List Column) → columns_extend columns columns ≡ true
columns-extend-themselves [] = refl
columns-extend-themselves (c ∷ columns) =
    ap₂ (λ (b k : Bool). cond b (k && columns_extend columns columns) (is_new (c ∷ columns) c && columns_extend columns (c ∷ columns))) (same-bytes c.0) (same-kind c.1) ∙ columns-extend-themselves columns

-- and their rows stay as they are
pub grown-same : (columns : List Column) (row : Row) → length row ≡ length columns → grown columns columns row ≡ row
grown-same [] [] e = refl
grown-same [] (x ∷ row) e = absurd (omega arith)
grown-same (c ∷ columns) [] e = absurd (omega arith)
grown-same (c ∷ columns) (x ∷ row) e =
    ap (λ (b : Bool). cond b (x ∷ grown columns columns row) (v.Absent ∷ grown columns (c ∷ columns) (x ∷ row))) (same-bytes c.0) ∙ ap (λ (r : Row). x ∷ r) (grown-same columns row (omega arith))

pub kind-same : (j k : ColumnKind) → kind_eq j k ≡ true → j ≡ k
kind-same kind.Int kind.Int e = refl
kind-same kind.Str kind.Str e = refl
kind-same kind.Bool kind.Bool e = refl
kind-same kind.OptInt kind.OptInt e = refl
kind-same kind.OptStr kind.OptStr e = refl
kind-same kind.OptBool kind.OptBool e = refl
kind-same _ _ e = cc

pub absent-fits : (k : ColumnKind) → is_some (inside k) ≡ true → FitsKind v.Absent k
absent-fits kind.OptInt e = tt
absent-fits kind.OptStr e = tt
absent-fits kind.OptBool e = tt
absent-fits _ e = cc

abbrev kinds : List Column → List ColumnKind
kinds = Rattle.std.proofs.Common.map (λ c. c.1)

-- a row of the kept columns, grown, is one of the columns
pub grown-fits : (columns kept : List Column) (row : Row) → columns_extend columns kept ≡ true → FitKinds row (kinds kept)
    → FitKinds (grown columns kept row) (kinds columns)
grown-fits [] [] row e f = tt
grown-fits [] (c ∷ kept) row e f = cc
grown-fits (d ∷ columns) [] row e f =
    let p = and_parts (is_new [] d) (columns_extend columns []) e in
    (absent-fits d.1 (and_parts (is_some (inside d.1)) true (p.0)).0, grown-fits columns [] row (p.1) f)
grown-fits (d ∷ columns) (c ∷ kept) [] e f = absurd f
grown-fits (d ∷ columns) (c ∷ kept) (x ∷ row) e f =
    go (bytes_eq c.0 d.0) e (λ h. grown-fits columns kept row h (f.1)) (λ h. grown-fits columns (c ∷ kept) (x ∷ row) h f)
  where
    go : (b : Bool) → cond b (kind_eq d.1 c.1 && columns_extend columns kept) (is_new (c ∷ kept) d && columns_extend columns (c ∷ kept)) ≡ true
        → (columns_extend columns kept ≡ true → FitKinds (grown columns kept row) (kinds columns))
        → (columns_extend columns (c ∷ kept) ≡ true → FitKinds (grown columns (c ∷ kept) (x ∷ row)) (kinds columns))
        → FitKinds (cond b (x ∷ grown columns kept row) (v.Absent ∷ grown columns (c ∷ kept) (x ∷ row))) (kinds (d ∷ columns))
    go true h same more =
        let p = and_parts (kind_eq d.1 c.1) (columns_extend columns kept) h in
        (subst (FitsKind x) (sym (kind-same d.1 c.1 (p.0))) (f.0), same (p.1))
    go false h same more =
        let p = and_parts (is_new (c ∷ kept) d) (columns_extend columns (c ∷ kept)) h in
        (absent-fits d.1 (and_parts (is_some (inside d.1)) (not (has_column (c ∷ kept) d.0)) (p.0)).0, more (p.1))

-- a cell of a kept column has moved with it
pub grown-cell : (columns kept : List Column) (row : Row) (p : ℕ) → columns_extend columns kept ≡ true → length row ≡ length kept
    → get_or (grown columns kept row) (moved columns kept p) v.Absent ≡ get_or row p v.Absent
grown-cell [] [] [] p e l = refl
grown-cell [] [] (x ∷ row) p e l = absurd (omega arith)
grown-cell [] (c ∷ kept) row p e l = cc
grown-cell (d ∷ columns) [] [] p e l = grown-cell columns [] [] p (and_parts (is_new [] d) (columns_extend columns []) e).1 l
grown-cell (d ∷ columns) [] (x ∷ row) p e l = absurd (omega arith)
grown-cell (d ∷ columns) (c ∷ kept) [] p e l = absurd (omega arith)
grown-cell (d ∷ columns) (c ∷ kept) (x ∷ row) zero e l = go (bytes_eq c.0 d.0) e (λ h. grown-cell columns (c ∷ kept) (x ∷ row) zero h l)
  where
    go : (b : Bool) → cond b (kind_eq d.1 c.1 && columns_extend columns kept) (is_new (c ∷ kept) d && columns_extend columns (c ∷ kept)) ≡ true
        → (columns_extend columns (c ∷ kept) ≡ true → get_or (grown columns (c ∷ kept) (x ∷ row)) (moved columns (c ∷ kept) zero) v.Absent ≡ x)
        → get_or (cond b (x ∷ grown columns kept row) (v.Absent ∷ grown columns (c ∷ kept) (x ∷ row))) (cond b 0 (suc (moved columns (c ∷ kept) zero))) v.Absent ≡ x
    go true h more = refl
    go false h more = more (and_parts (is_new (c ∷ kept) d) (columns_extend columns (c ∷ kept)) h).1
grown-cell (d ∷ columns) (c ∷ kept) (x ∷ row) (suc p) e l =
    go (bytes_eq c.0 d.0) e (λ h. grown-cell columns kept row p h (omega (arith, l))) (λ h. grown-cell columns (c ∷ kept) (x ∷ row) (suc p) h l)
  where
    go : (b : Bool) → cond b (kind_eq d.1 c.1 && columns_extend columns kept) (is_new (c ∷ kept) d && columns_extend columns (c ∷ kept)) ≡ true
        → (columns_extend columns kept ≡ true → get_or (grown columns kept row) (moved columns kept p) v.Absent ≡ get_or row p v.Absent)
        → (columns_extend columns (c ∷ kept) ≡ true → get_or (grown columns (c ∷ kept) (x ∷ row)) (moved columns (c ∷ kept) (suc p)) v.Absent ≡ get_or row p v.Absent)
        → get_or (cond b (x ∷ grown columns kept row) (v.Absent ∷ grown columns (c ∷ kept) (x ∷ row))) (cond b (suc (moved columns kept p)) (suc (moved columns (c ∷ kept) (suc p)))) v.Absent
        ≡ get_or row p v.Absent
    go true h same more = same (and_parts (kind_eq d.1 c.1) (columns_extend columns kept) h).1
    go false h same more = more (and_parts (is_new (c ∷ kept) d) (columns_extend columns (c ∷ kept)) h).1

pointwise-eq : (f : ℕ → ℕ) (as' bs : List ℕ) → pointwise (λ a b. a == f b) as' bs ≡ true → as' ≡ map f bs
pointwise-eq f [] [] e = refl
pointwise-eq f [] (b ∷ bs) e = cc
pointwise-eq f (a ∷ as') [] e = cc
pointwise-eq f (a ∷ as') (b ∷ bs) e =
    let p = and_parts (a == f b) (pointwise (λ a b. a == f b) as' bs) e in ap₂ (λ (x : ℕ) (xs : List ℕ). x ∷ xs) (eqb-true a (f b) (p.0)) (pointwise-eq f as' bs (p.1))

-- a key of a grown row is the kept key of the row, so no key repeats that did not
pub grown-key : (columns kept : List Column) (key other : List ℕ) (row : Row) → columns_extend columns kept ≡ true → key_moved columns kept key other ≡ true
    → length row ≡ length kept
    → key_of key (grown columns kept row) ≡ key_of other row
grown-key columns kept key other row e k l =
    ap (λ (ks : List ℕ). key_of ks (grown columns kept row)) (pointwise-eq (moved columns kept) key other k) ∙ cells other
  where
    cells : (places : List ℕ) → key_of (map (moved columns kept) places) (grown columns kept row) ≡ key_of places row
    cells [] = refl
    cells (p ∷ places) = ap₂ (λ (x : Value) (xs : List Value). x ∷ xs) (grown-cell columns kept row p e l) (cells places)

-- ---- one more step of a search for a kept column's place

pub next-found : (d : Column) (rest kept : List Column) (at place i : ℕ) → is_next (drop at kept) d.0 ≡ true → at ≡ place
    → i + moved (d ∷ rest) (drop at kept) (place - at) ≡ i
next-found d rest kept at place i named here = go (drop at kept) named (let z : place - at ≡ 0 = omega (arith, here) in z)
  where
    go : (ks : List Column) → is_next ks d.0 ≡ true → place - at ≡ 0 → i + moved (d ∷ rest) ks (place - at) ≡ i
    go [] n z = cc
    go (c ∷ ks) n z = ap (λ (q : ℕ). i + moved (d ∷ rest) (c ∷ ks) q) z ∙ ap (λ (b : Bool). i + cond b 0 (suc (moved rest (c ∷ ks) zero))) n ∙ omega arith

pub next-passed : (d : Column) (rest kept : List Column) (at place i : ℕ) → is_next (drop at kept) d.0 ≡ true → at < place
    → i + moved (d ∷ rest) (drop at kept) (place - at) ≡ i + 1 + moved rest (drop (at + 1) kept) (place - (at + 1))
next-passed d rest kept at place i named before = go (drop at kept) (drop (at + 1) kept) (drop_tail kept at) named
  where
    drop_tail : (ks : List Column) (n : ℕ) → drop (n + 1) ks ≡ drop 1 (drop n ks)
    drop_tail ks n = sym (drop-drop 1 n ks)

    less : (n : ℕ) → place - at ≡ suc n → place - (at + 1) ≡ n
    less n e = omega (arith, e)

    go : (ks more : List Column) → more ≡ drop 1 ks → is_next ks d.0 ≡ true → i + moved (d ∷ rest) ks (place - at) ≡ i + 1 + moved rest more (place - (at + 1))
    go [] more m n = cc
    go (c ∷ ks) more m n = by (place - at) refl
      where
        by : (q : ℕ) → place - at ≡ q → i + moved (d ∷ rest) (c ∷ ks) q ≡ i + 1 + moved rest more (place - (at + 1))
        by zero e = absurd (omega (arith, e, before))
        by (suc q) e =
            ap (λ (b : Bool). i + cond b (suc (moved rest ks q)) (suc (moved rest (c ∷ ks) (suc q)))) n
            ∙ (let z : i + suc (moved rest ks q) ≡ i + 1 + moved rest ks q = omega arith in z)
            ∙ ap₂ (λ (l : List Column) (r : ℕ). i + 1 + moved rest l r) (sym m) (sym (less q e))

pub next-other : (d : Column) (rest kept : List Column) (at place i : ℕ) → is_next (drop at kept) d.0 ≡ false
    → i + moved (d ∷ rest) (drop at kept) (place - at) ≡ i + 1 + moved rest (drop at kept) (place - at)
next-other d rest kept at place i named = go (drop at kept) (place - at) named
  where
    go : (ks : List Column) (q : ℕ) → is_next ks d.0 ≡ false → i + moved (d ∷ rest) ks q ≡ i + 1 + moved rest ks q
    go [] q n = omega arith
    go (c ∷ ks) zero n = ap (λ (b : Bool). i + cond b 0 (suc (moved rest (c ∷ ks) zero))) n ∙ omega arith
    go (c ∷ ks) (suc q) n = ap (λ (b : Bool). i + cond b (suc (moved rest ks q)) (suc (moved rest (c ∷ ks) (suc q)))) n ∙ omega arith

pub step-passed : (columns kept : List Column) (i at place : ℕ) (d : Column) (next : ℕ) → i < length columns → d ≡ get_or columns i d
    → is_next (drop at kept) (get_or columns i d).0 ≡ true → at < place → next ≡ at + 1
    → i + moved (drop i columns) (drop at kept) (place - at) ≡ moved columns kept place
    → (i + 1 + moved (drop (i + 1) columns) (drop next kept) (place - next) ≡ moved columns kept place) × (next ≤ place)
step-passed columns kept i at place d next small is named before more so =
    let whole : drop i columns ≡ d ∷ drop (i + 1) columns = drop_more columns i d small ∙ ap (λ (x : Column). x ∷ drop (i + 1) columns) (sym is) in (
      subst (λ n. i + 1 + moved (drop (i + 1) columns) (drop n kept) (place - n) ≡ moved columns kept place) (sym more)
          (sym (next-passed d (drop (i + 1) columns) kept at place i (subst (λ (x : Column). is_next (drop at kept) x.0 ≡ true) (sym is) named) before) ∙ ap (λ (ds : List Column). i + moved ds (drop at kept) (place - at)) (sym whole) ∙ so),
      omega (arith, more, before),
    )

pub step-other : (columns kept : List Column) (i at place : ℕ) (d : Column) (next : ℕ) → i < length columns → d ≡ get_or columns i d
    → is_next (drop at kept) (get_or columns i d).0 ≡ false → at ≤ place → next ≡ at
    → i + moved (drop i columns) (drop at kept) (place - at) ≡ moved columns kept place
    → (i + 1 + moved (drop (i + 1) columns) (drop next kept) (place - next) ≡ moved columns kept place) × (next ≤ place)
step-other columns kept i at place d next small is named before more so =
    let whole : drop i columns ≡ d ∷ drop (i + 1) columns = drop_more columns i d small ∙ ap (λ (x : Column). x ∷ drop (i + 1) columns) (sym is) in (
      subst (λ n. i + 1 + moved (drop (i + 1) columns) (drop n kept) (place - n) ≡ moved columns kept place) (sym more)
          (sym (next-other d (drop (i + 1) columns) kept at place i (subst (λ (x : Column). is_next (drop at kept) x.0 ≡ false) (sym is) named)) ∙ ap (λ (ds : List Column). i + moved ds (drop at kept) (place - at)) (sym whole) ∙ so),
      omega (arith, more, before),
    )

-- no column is left
pub none-left : (kept : List Column) (at : ℕ) → at ≤ length kept → columns_extend [] (drop at kept) ≡ (at == length kept)
none-left kept at l = go (drop at kept) (length-drop at kept)
  where
    go : (ks : List Column) → length ks ≡ length kept - at → columns_extend [] ks ≡ (at == length kept)
    go [] e = let z : at ≡ length kept = omega (arith, e, l) in sym (eq-eqb at (length kept) z)
    go (c ∷ ks) e = sym (false_from_ne_true (at == length kept) (λ t. let z = eqb-true at (length kept) t in absurd (omega (arith, e, l, z))))

pub column-step : (columns kept : List Column) (i at : ℕ) (d : Column) (o : Option ℕ) → i < length columns → d ≡ get_or columns i d
    → columns_extend columns kept ≡ columns_extend (drop i columns) (drop at kept)
    → ((rest : List Column) → columns_extend (d ∷ rest) (drop at kept) ≡ extend_from rest kept o)
    → columns_extend columns kept ≡ extend_from (drop (i + 1) columns) kept o
column-step columns kept i at d o small is so behind =
    so ∙ ap (λ (ds : List Column). columns_extend ds (drop at kept)) (drop_more columns i d small ∙ ap (λ (x : Column). x ∷ drop (i + 1) columns) (sym is)) ∙ behind (drop (i + 1) columns)

-- under the same columns each place stays
pub moved-same : (columns : List Column) (p : ℕ) → moved columns columns p ≡ p
moved-same [] p = refl
moved-same (c ∷ columns) zero = ap (λ (b : Bool). cond b 0 (suc (moved columns (c ∷ columns) zero))) (same-bytes c.0)
moved-same (c ∷ columns) (suc p) =
    ap (λ (b : Bool). cond b (suc (moved columns columns p)) (suc (moved columns (c ∷ columns) (suc p)))) (same-bytes c.0) ∙ ap suc (moved-same columns p)

-- ---- a schema extends itself

pub pointwise-same : {X : Type 0} (p : X → X → Bool) → ((x : X) → p x x ≡ true) → (xs : List X) → pointwise p xs xs ≡ true
pointwise-same p h [] = refl
pointwise-same p h (x ∷ xs) = and_from (p x x) (pointwise p xs xs) (h x) (pointwise-same p h xs)

same-bool : (b : Bool) → bool_eq b b ≡ true
same-bool true = refl
same-bool false = refl

same-table : (s : TableShape) → table_extends s s ≡ true
same-table s =
    and_from (bytes_eq s.name s.name) (columns_extend s.columns s.columns && (pointwise (key_moved s.columns s.columns) s.keys s.keys && bool_eq s.primary s.primary)) (same-bytes s.name)
    (and_from (columns_extend s.columns s.columns) (pointwise (key_moved s.columns s.columns) s.keys s.keys && bool_eq s.primary s.primary) (columns-extend-themselves s.columns)
    (and_from (pointwise (key_moved s.columns s.columns) s.keys s.keys) (bool_eq s.primary s.primary)
    (pointwise-same (key_moved s.columns s.columns) (pointwise-same (λ a b. a == moved s.columns s.columns b) (λ a. eq-eqb a (moved s.columns s.columns a) (sym (moved-same s.columns a)))) s.keys) (same-bool s.primary)))

pub extends-itself : (schema : Schema) → extends schema schema ≡ true
extends-itself schema =
    and_from (pointwise table_extends schema.tables schema.tables) (pointwise bytes_eq schema.sequences schema.sequences) (pointwise-same table_extends same-table schema.tables) (pointwise-same bytes_eq same-bytes schema.sequences)
