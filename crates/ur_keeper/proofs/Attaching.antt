-- A store that is attached: what it is at first, and its numbers.
use Rattle.std.proofs.Common.{◌≡◌, ◌↔◌, ℕ, ℤ, pos, ◌≤◌, ◌≤ℤ◌, Bool, true, false, List, [], ◌∷◌, length, map, not, nat_lt, All, Some, IsNone, IsTrue}
use Rattle.std.proofs.Common.{refl, ap₂, sym, subst, ◌∙◌, arith}
use Rattle.std.specs.List.{AllZip, prefix_len}
use Rattle.std.proofs.lemmas.Int.{ints}
use Rattle.std.proofs.lemmas.Bool.{both_ways}
use Rattle.std.proofs.lemmas.Bool.Decides.{nat_tests}
use Rattle.std.proofs.lemmas.List.{get_or-map, length-map}
use Rattle.std.proofs.lemmas.List.Elements.{All-nil, All-cons, All-map}
use Rattle.ur_values.specs.declared.schema.Schema.{Schema}
use Rattle.ur_values.specs.declared.schema.TableShape.{TableShape}
use Rattle.ur_values.specs.declared.schema.Numbered.{Numbered}
use Rattle.ur_values.specs.Store.{FitsShape, IsStorable}
use Rattle.ur_values.specs.Keys.{key_of, repeats, repeated_key}
use Rattle.ur_keeper.specs.declared.sequence.Sequence.{Sequence}
use Rattle.ur_keeper.specs.Sequences.{first_draw}
use Rattle.ur_keeper.specs.Tables.{AreRowsOf, AreSound, MayCommitTable, NumbersUpTo, empty_tables}
use Rattle.ur_keeper.specs.Versions.{Rows, Both, no_rows}
use Rattle.ur_keeper.specs.Memory.{IsKeeping}
use Rattle.ur_keeper.proofs.Edits.{held, map-after, both_of, tables_of}

-- ---- an empty store

abbrev repeats_none : List ℕ → Bool
repeats_none key = repeats (map (key_of key) [])

none-repeats : (keys : List (List ℕ)) → prefix_len (λ key. not (repeats_none key)) keys ≡ length keys
none-repeats [] = refl
none-repeats (key ∷ keys) = omega (arith, none-repeats keys)

pub no-key : (keys : List (List ℕ)) → IsNone (repeated_key keys [])
no-key keys =
    let all = none-repeats keys in
    let past : nat_lt (prefix_len (λ key. not (repeats_none key)) keys) (length keys) ≡ false = grind (arith, nat_tests) in
    rw past refl

empty-rows : (shape : TableShape) → AreRowsOf shape []
empty-rows shape =
    record {
      shaped = All-nil (λ (r : Numbered). FitsShape shape r.row);
      sizes = All-nil (λ (r : Numbered). All IsStorable r.row);
      numbers = λ k w. absurd (omega arith);
    }

pub zip-made : {A B : Type 0} (R : A → B → Type 0) (xs : List A) (y : B) → ((x : A) → R x y) → AllZip R xs (map (λ _. y) xs)
zip-made R [] y h = tt
zip-made R (x ∷ xs) y h = (h x, zip-made R xs y h)

all-made : {A B : Type 0} (P : B → Type 0) (xs : List A) (y : B) → P y → All P (map (λ _. y) xs)
all-made P [] y p = All-nil P
all-made P (x ∷ xs) y p = All-cons P y (map (λ _. y) xs) p (all-made P xs y p)

pub empty-sound : (schema : Schema) → AreSound schema (empty_tables schema)
empty-sound schema =
    record {
      fits = record { tables = zip-made AreRowsOf schema.tables [] empty-rows; sequences = zip-made (λ name n. pos 1 ≤ℤ n) schema.sequences (pos 1) (λ _. omega (arith, ints)) };
      commits = zip-made MayCommitTable schema.tables [] (λ shape. record { distinct = no-key shape.keys; not_over = omega arith });
      numbers =
          record {
            rows =
                all-made (All (λ (r : Numbered). r.number ≤ 4611686018427387904)) schema.tables [] (All-nil (λ (r : Numbered). r.number ≤ 4611686018427387904));
            sequences = all-made (λ (n : ℤ). n ≤ℤ pos 4611686018427387904) schema.sequences (pos 1) (omega (arith, ints));
          };
    }

keeps-empty : (schema : Schema) (under_way : Bool) → IsKeeping (Some schema) under_way (both_of (empty_tables schema) (empty_tables schema))
keeps-empty schema under_way =
    let sound = empty-sound schema in
    record { saved = sound.fits; current = sound.fits; commits = sound.commits; at_rest = λ _. refl }

pub keeps-made : (schema kept : Schema) (under_way : Bool) (made : Both) → kept ≡ schema → made ≡ both_of (empty_tables schema) (empty_tables schema)
    → IsKeeping (Some kept) under_way made
keeps-made schema kept under_way made k m =
    subst (λ s. IsKeeping (Some s) under_way made) (sym k) (subst (λ h. IsKeeping (Some schema) under_way h) (sym m) (keeps-empty schema under_way))

pub made-empty : (schema : Schema) (tables : List Rows) (sequences : List Sequence) → tables ≡ map (λ _. no_rows) schema.tables
    → sequences ≡ map (λ _. first_draw) schema.sequences
    → held tables sequences ≡ both_of (empty_tables schema) (empty_tables schema)
made-empty schema tables sequences t q =
    let saved = ap₂ tables_of (map-after (λ (t : Rows). t.saved) (λ (_ : TableShape). no_rows) schema.tables) (map-after (λ (s : Sequence). s.saved) (λ (_ : List ℕ). first_draw) schema.sequences) in
    let current = ap₂ tables_of (map-after (λ (t : Rows). t.current) (λ (_ : TableShape). no_rows) schema.tables) (map-after (λ (s : Sequence). s.current) (λ (_ : List ℕ). first_draw) schema.sequences) in
    ap₂ held t q ∙ ap₂ both_of saved current

-- ---- low numbers

all-mapped : {A B : Type 0} (P : B → Type 0) (f : A → B) (ys : List A) → All P (map f ys) → All (λ y. P (f y)) ys
all-mapped P f ys h k d l = subst P (get_or-map f ys k d (f d) l) (h k (f d) (simp length-map l))

abbrev LowRows : Rows → Type 0
LowRows t = All (λ r. r.number ≤ 4611686018427387904) t.saved

abbrev LowSequence : Sequence → Type 0
LowSequence s = s.saved ≤ℤ pos 4611686018427387904

low-here : (tables : List Rows) (sequences : List Sequence) → All LowRows tables → All LowSequence sequences
    → NumbersUpTo 4611686018427387904 (held tables sequences).saved
low-here tables sequences t q =
    record {
      rows = All-map (All (λ (r : Numbered). r.number ≤ 4611686018427387904)) (λ (t : Rows). t.saved) tables t;
      sequences = All-map (λ (n : ℤ). n ≤ℤ pos 4611686018427387904) (λ (s : Sequence). s.saved) sequences q;
    }

pub low-numbers : (tables : List Rows) (sequences : List Sequence) (old : Both) (a b : Bool) → held tables sequences ≡ old → (IsTrue a ↔ All LowRows tables)
    → (IsTrue b ↔ All LowSequence sequences) → a ≡ true
    → IsTrue b ↔ NumbersUpTo 4611686018427387904 old.saved
low-numbers tables sequences old a b v t q e =
    let there : IsTrue b ↔ NumbersUpTo 4611686018427387904 (held tables sequences).saved = (
      λ low. low-here tables sequences (t.0 e) (q.0 low),
      λ low. q.1 (all-mapped (λ (n : ℤ). n ≤ℤ pos 4611686018427387904) (λ (s : Sequence). s.saved) sequences low.sequences),
    ) in
    subst (λ (o : Both). IsTrue b ↔ NumbersUpTo 4611686018427387904 o.saved) v there

pub high-numbers : (tables : List Rows) (sequences : List Sequence) (old : Both) (a : Bool) → held tables sequences ≡ old → (IsTrue a ↔ All LowRows tables)
    → a ≡ false → IsTrue a ↔ NumbersUpTo 4611686018427387904 old.saved
high-numbers tables sequences old a v t e =
    let there : IsTrue a ↔ NumbersUpTo 4611686018427387904 (held tables sequences).saved = (
      λ low. absurd (both_ways a e low),
      λ low. t.1 (all-mapped (All (λ (r : Numbered). r.number ≤ 4611686018427387904)) (λ (t : Rows). t.saved) tables low.rows),
    ) in
    subst (λ (o : Both). IsTrue a ↔ NumbersUpTo 4611686018427387904 o.saved) v there
