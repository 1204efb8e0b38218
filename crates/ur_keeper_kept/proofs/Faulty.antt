-- Why a store is at fault.
use Rattle.std.proofs.Common.{◌≡◌, ◌≢◌, true, ℕ, ◌<◌, ℤ, pos, ◌≤ℤ◌, List, [], length, Option, Some, None, IfSome, T, ap, sym, subst, ◌∙◌, arith}
use Rattle.std.specs.Prelude.{slice_get}
use Rattle.ur_base.specs.Told.{WhereTold}
use Rattle.ur_values.specs.declared.schema.Schema.{Schema}
use Rattle.ur_values.specs.declared.schema.TableShape.{TableShape}
use Rattle.ur_values.specs.declared.schema.Numbered.{Numbered}
use Rattle.ur_values.specs.SchemaText.{schema_text}
use Rattle.ur_values.specs.Named.{IsNamed}
use Rattle.ur_values.specs.Extends.{extends}
use Rattle.ur_keeper_bodies.specs.declared.stored.Layout.{Layout}
use Rattle.ur_keeper_bodies.specs.Stored.{parted}
use Rattle.std.specs.Ordering.{int_cmp}
use Rattle.std.specs.FinMap.{is_sorted}
use Rattle.ur_keeper_bodies.specs.declared.bodies.BodyChange.{BodyChange}
use Rattle.ur_keeper_bodies.specs.Bodies.{BodyMap, body_at, bodies_of, written}
use Rattle.ur_keeper_bodies.proofs.Tables.{bodies-sorted}
use Rattle.ur_keeper_kept.specs.Laid.{text_at, table_tab, columns_of, columns_at, table_by}
use Rattle.ur_keeper_kept.specs.Kept.{AreRead, IsNumber}
use Rattle.ur_keeper_kept.specs.Attach.{IsKeptText, IsSoundRows, IsSoundTable, IsSoundSequence, IsSoundStore}
use Rattle.ur_keeper_kept.specs.Faults.{AreReadable, IsDrawable, IsFaultyStore, NoSchema, Unsound, Filled}
use Rattle.ur_keeper_kept.proofs.Finding.{sound-reads, sound-draws, sound-number}
use Rattle.ur_keeper_kept.proofs.Told.{told-one, told-two}

-- ---- a table and a sequence

-- bodies of a table that do not read
pub unread-rows : (layout : Layout) (s : Schema) (told : Option BodyMap) (table : ℕ) (tab : ℤ) (shape : TableShape) (entries after : List (ℤ × List ℕ)) (changes : List BodyChange)
    → tab ≡ table_tab table → slice_get s.tables table ≡ Some shape
    → WhereTold told (λ m. entries ≡ bodies_of m tab) → ((m : BodyMap) → entries ≡ bodies_of m tab → after ≡ bodies_of (written m changes) tab)
    → (T (is_sorted int_cmp after) → AreReadable layout shape.columns after → ⊥)
    → WhereTold told (λ m. AreReadable layout (columns_at s table) (bodies_of (written m changes) (table_tab table)) → ⊥)
unread-rows layout s None table tab shape entries after changes e there read made unread = tt
unread-rows layout s (Some m) table tab shape entries after changes e there read made unread = λ h.
    let is : after ≡ bodies_of (written m changes) (table_tab table) = made m read ∙ ap (bodies_of (written m changes)) e in
    unread (subst (λ (es : List (ℤ × List ℕ)). T (is_sorted int_cmp es)) (sym is) (bodies-sorted (written m changes) (table_tab table)))
    (subst (λ (es : List (ℤ × List ℕ)). AreReadable layout shape.columns es) (sym is) (subst (λ (o : Option TableShape). AreReadable layout (columns_of o) (bodies_of (written m changes) (table_tab table))) there h))

pub unread-table : (layout : Layout) (s : Schema) (m : BodyMap) (table place : ℕ) → table ≡ place → place < length s.tables
    → (AreReadable layout (columns_at s table) (bodies_of m (table_tab table)) → ⊥) → IsSoundTable layout s m place → ⊥
unread-table layout s m table place e l h sound =
    h (subst (λ (t : ℕ). AreReadable layout (columns_at s t) (bodies_of m (table_tab t))) (sym e) (sound-reads layout s m place l sound))

pub unsound-table : (layout : Layout) (s : Schema) (m : BodyMap) (table place : ℕ) (rows : List Numbered) (next : ℤ) (shape : TableShape) → table ≡ place
    → slice_get s.tables place ≡ Some shape
    → AreRead layout (columns_at s table) (bodies_of m (table_tab table)) rows next → (IsSoundRows shape rows → ⊥) → IsSoundTable layout s m place → ⊥
unsound-table layout s m table place rows next shape e there read h sound =
    let is : rows ≡ table_by layout s m place = read.read ∙ ap (table_by layout s m) e in
    h (subst (λ (x : List Numbered). IsSoundRows shape x) (sym is) (subst (λ (o : Option TableShape). IfSome o (λ x. IsSoundRows x (table_by layout s m place))) there sound.sound))

pub undrawn : (m : BodyMap) (q place : ℕ) → q ≡ place → (IsDrawable (body_at m (pos 1) (pos q)) → ⊥) → IsSoundSequence m place → ⊥
undrawn m q place e h sound = h (subst (λ (k : ℕ). IsDrawable (body_at m (pos 1) (pos k))) (sym e) (sound-draws m place sound))

pub too-great : (m : BodyMap) (q place : ℕ) (n : ℤ) → q ≡ place → (n ≤ℤ pos 4611686018427387904 → ⊥) → IsNumber (body_at m (pos 1) (pos q)) n
    → IsSoundSequence m place → ⊥
too-great m q place n e h is sound = h (sound-number m place n (subst (λ (k : ℕ). IsNumber (body_at m (pos 1) (pos k)) n) e is) sound)

-- ---- a store without a text

pub filled-rows : (s : Schema) (told : Option BodyMap) (k : ℕ) → k ≡ length s.tables → WhereTold told (λ m. None ≡ text_at m)
    → WhereTold told (λ m. ((i : ℕ) → i < k → bodies_of m (table_tab i) ≡ []) → ⊥) → WhereTold told (IsFaultyStore s)
filled-rows s told k e none h =
    told-two told (λ (m : BodyMap). None ≡ text_at m) (λ (m : BodyMap). ((i : ℕ) → i < k → bodies_of m (table_tab i) ≡ []) → ⊥) (IsFaultyStore s) none h
    (λ m n f. Filled (sym n) (λ bare. f (λ i l. bare.tables i (omega (arith, e, l)))))

pub filled-numbers : (s : Schema) (told : Option BodyMap) (k : ℕ) → k ≡ length s.sequences → WhereTold told (λ m. None ≡ text_at m)
    → WhereTold told (λ m. ((i : ℕ) → i < k → body_at m (pos 1) (pos i) ≡ None) → ⊥) → WhereTold told (IsFaultyStore s)
filled-numbers s told k e none h =
    told-two told (λ (m : BodyMap). None ≡ text_at m) (λ (m : BodyMap). ((i : ℕ) → i < k → body_at m (pos 1) (pos i) ≡ None) → ⊥) (IsFaultyStore s) none h
    (λ m n f. Filled (sym n) (λ bare. f (λ i l. bare.sequences i (omega (arith, e, l)))))

-- ---- a store with a text

pub unsound-faulty : (layout : Layout) (s kept : Schema) (told : Option BodyMap) → extends s kept ≡ true → WhereTold told (IsKeptText layout kept)
    → WhereTold told (λ m. IsSoundStore layout kept m → ⊥) → WhereTold told (IsFaultyStore s)
unsound-faulty layout s kept told e text h =
    told-two told (IsKeptText layout kept) (λ (m : BodyMap). IsSoundStore layout kept m → ⊥) (IsFaultyStore s) text h (λ m t f. Unsound layout kept t e f)

pub no-schema : (s : Schema) (told : Option BodyMap) (stored : List ℕ) → (parted stored).1 ≢ schema_text s
    → ((x : Schema) → IsNamed x → (parted stored).1 ≢ schema_text x)
    → WhereTold told (λ m. Some stored ≡ text_at m) → WhereTold told (IsFaultyStore s)
no-schema s told stored own named h = told-one told (λ (m : BodyMap). Some stored ≡ text_at m) (IsFaultyStore s) h (λ m t. NoSchema stored (sym t) own named)
