-- A store that is taken for a schema.
use Rattle.std.proofs.Common.{◌≡◌, ◌≢◌, ℕ, zero, suc, ◌+◌, ◌≤◌, ◌<◌, ℤ, pos, ◌≤ℤ◌, Bool, true, false, not, cond, nat_lt, List, [], ◌∷◌, ◌++◌, length, map, All, Option, Some, None, IfSome, IsNone, is_some, option_map, refl, ap, sym, subst, ◌∙◌, inl, inr, arith}
use Rattle.std.specs.Prelude.{slice_get, unwrap_or}
use Rattle.std.specs.List.{AllZip, prefix_len, range_with_len}
use Rattle.std.specs.Ordering.{int_eq, is_eq}
use Rattle.std.specs.Cmp.{int_cmp_total, tied_itself}
use Rattle.std.specs.FinMap.{insert, get-insert}
use Rattle.std.proofs.lemmas.Int.{ints}
use Rattle.std.proofs.lemmas.Bool.{cases_eq}
use Rattle.std.proofs.lemmas.Bool.Decides.{nat_tests}
use Rattle.std.proofs.lemmas.List.FromFn.{get_or-map-range_with_len}
use Rattle.std.proofs.lemmas.List.Elements.{All-nil, All-cons, All-get_or}
use Rattle.ur_base.specs.Told.{WhereTold}
use Rattle.ur_values.specs.declared.schema.Schema.{Schema}
use Rattle.ur_values.specs.declared.schema.TableShape.{TableShape}
use Rattle.ur_values.specs.declared.schema.Numbered.{Numbered}
use Rattle.ur_values.specs.Store.{FitsShape, IsStorable}
use Rattle.ur_values.specs.Values.{IsInt}
use Rattle.ur_values.specs.Keys.{key_of, repeats, repeated_key}
use Rattle.ur_keeper.specs.Tables.{AreRowsOf, AreSound, MayCommitTable, empty_tables}
use Rattle.ur_keeper_bodies.specs.Rows.{int_body}
use Rattle.ur_keeper_bodies.proofs.RowLaws.{int-read}
use Rattle.ur_keeper_bodies.specs.declared.bodies.BodyChange.{BodyChange}
use Rattle.ur_keeper_bodies.specs.declared.bodies.BodyChange.TheVariants as change
use Rattle.ur_keeper_bodies.specs.Bodies.{BodyMap, body_at, bodies_of, written, CanWrite}
use Rattle.ur_keeper_bodies.proofs.Places.{place_total}
use Rattle.ur_keeper_bodies.proofs.Tables.{bodies-find, bodies-put-elsewhere, place-tie}
use Rattle.ur_keeper_bodies.specs.declared.stored.Layout.{Layout}
use Rattle.ur_keeper_bodies.specs.declared.stored.Layout.TheVariants as layouts
use Rattle.ur_keeper_bodies.specs.Stored.{stored_text}
use Rattle.ur_keeper_kept.specs.Laid.{text_at, table_tab, columns_at, rows_in, table_in, table_by, number_in, number_of_body, IsRowBody, IsLaid, HasShortNames}
use Rattle.ur_keeper_kept.proofs.LaidLaws.{apart-from-tables, other-number}
use Rattle.ur_keeper_kept.specs.Kept.{AreRead, AreLow}
use Rattle.ur_keeper_kept.specs.Attach.{IsSoundRows, IsSoundTable, IsSoundSequence, IsSoundStore, ones, IsFresh, IsTaken, Starts}
use Rattle.ur_keeper_kept.proofs.Low.{has-low, none-low}
use Rattle.ur_keeper_kept.proofs.Steps.{has-there, text-put, none-drawn}

-- ---- place by place

pub shift : (k i : ℕ) → k + suc i ≡ k + 1 + i
shift k i = omega arith

pub from-here : (k : ℕ) → k + 0 ≡ k
from-here k = omega arith

pub from-zero : (i : ℕ) → 0 + i ≡ i
from-zero i = omega arith

zip-range : {A B : Type 0} (R : A → B → Type 0) (f : ℕ → B) (xs : List A) (k : ℕ) → ((i : ℕ) → i < length xs → IfSome (slice_get xs i) (λ x. R x (f (k + i))))
    → AllZip R xs (map f (range_with_len k (length xs)))
zip-range R f [] k h = tt
zip-range {A} R f (x ∷ xs) k h = (
  subst (λ (j : ℕ). R x (f j)) (from-here k) (h zero (omega arith)),
  zip-range R f xs (k + 1) (λ i l. subst (λ (j : ℕ). IfSome (slice_get xs i) (λ (y : A). R y (f j))) (shift k i) (h (suc i) (omega (arith, l)))),
)

zip-all : {A B : Type 0} (R : A → B → Type 0) (f : ℕ → B) (xs : List A) → ((i : ℕ) → i < length xs → IfSome (slice_get xs i) (λ x. R x (f i)))
    → AllZip R xs (map f (range_with_len 0 (length xs)))
zip-all {A} R f xs h = zip-range R f xs 0 (λ i l. subst (λ (j : ℕ). IfSome (slice_get xs i) (λ (x : A). R x (f j))) (sym (from-zero i)) (h i l))

pub all-range : {B : Type 0} (P : B → Type 0) (f : ℕ → B) (n k : ℕ) → ((i : ℕ) → k ≤ i → i < k + n → P (f i)) → All P (map f (range_with_len k n))
all-range P f zero k h = All-nil P
all-range P f (suc n) k h =
    All-cons P (f k) (map f (range_with_len (k + 1) n)) (h k (omega arith) (omega arith)) (all-range P f n (k + 1) (λ i l u. h i (omega (arith, l)) (omega (arith, u))))

pub map-range : {A B : Type 0} (f : ℕ → B) (b : B) (xs : List A) (k : ℕ) → ((i : ℕ) → k ≤ i → i < k + length xs → f i ≡ b)
    → map f (range_with_len k (length xs)) ≡ map (λ x. b) xs
map-range f b [] k h = refl
map-range f b (x ∷ xs) k h = λ j. h k (omega arith) (omega arith) j ∷ map-range f b xs (k + 1) (λ i l u. h i (omega (arith, l)) (omega (arith, u))) j

length-range : {B : Type 0} (f : ℕ → B) (n k : ℕ) → length (map f (range_with_len k n)) ≡ n
length-range f zero k = refl
length-range f (suc n) k = omega (arith, length-range f n (k + 1))

pub unall-range : {B : Type 0} (P : B → Type 0) (f : ℕ → B) (n i : ℕ) → i < n → All P (map f (range_with_len 0 n)) → P (f i)
unall-range P f n i l h =
    subst P (get_or-map-range_with_len f 0 n i i (f i) l (omega arith)) (All-get_or P (map f (range_with_len 0 n)) i (f i) (omega (arith, l, length-range f n 0)) h)

pub some-weaker : {A : Type 0} (o : Option A) (P Q : A → Type 0) → ((x : A) → P x → Q x) → IfSome o P → IfSome o Q
some-weaker None P Q f p = tt
some-weaker (Some x) P Q f p = f x p

pub some-there : {A : Type 0} (xs : List A) (i : ℕ) → i < length xs → (P : Type 0) → IfSome (slice_get xs i) (λ _. P) → P
some-there [] i l P h = absurd (omega (arith, l))
some-there (x ∷ xs) zero l P h = h
some-there (x ∷ xs) (suc i) l P h = some-there xs i (omega (arith, l)) P h

-- ---- a store that was tested

module _ (layout : Layout) (s : Schema) (m : BodyMap) (tables : (i : ℕ) → i < length s.tables → IsSoundTable layout s m i) (sequences : (i : ℕ) → i < length s.sequences → IsSoundSequence m i) where
  number-here : (i : ℕ) (q : IsSoundSequence m i) → number_in m i ≡ q.0
  number-here i q = ap number_of_body q.1.1 ∙ ap (λ o. unwrap_or o (pos 1)) q.1.2

  names-there : (i : ℕ) → i < length s.sequences → IfSome (slice_get s.sequences i) (λ name. pos 1 ≤ℤ number_in m i)
  names-there i l = every s.sequences i (subst (λ (z : ℤ). pos 1 ≤ℤ z) (sym (number-here i (sequences i l))) (sequences i l).2)
    where
      every : {A : Type 0} {P : Type 0} (xs : List A) (i : ℕ) → P → IfSome (slice_get xs i) (λ _. P)
      every [] i p = tt
      every (x ∷ xs) zero p = p
      every (x ∷ xs) (suc i) p = every xs i p

  pub sound-store : IsSoundStore layout s m
  sound-store = record {
    laid = record {
      tables = λ i l. (tables i l).laid;
      sequences = λ i l. let q = sequences i l in (q.1.0, q.0, q.1.1, q.1.2, q.2);
    };
    sound = record {
      fits = record {
        tables = zip-all AreRowsOf (table_by layout s m) s.tables (λ i l. (tables i l).fits);
        sequences = zip-all (λ name n. pos 1 ≤ℤ n) (number_in m) s.sequences names-there;
      };
      commits =
          zip-all MayCommitTable (table_by layout s m) s.tables (λ i l. some-weaker (slice_get s.tables i) (λ shape. IsSoundRows shape (table_by layout s m i)) (λ shape. MayCommitTable shape (table_by layout s m i)) (λ shape r. r.commits) (tables i l).sound);
      numbers = record {
        rows =
            all-range (All (λ (r : Numbered). r.number ≤ 4611686018427387904)) (table_by layout s m) (length s.tables) 0 (λ i k u. let l : i < length s.tables = omega (arith, u) in some-there s.tables i l (All (λ (r : Numbered). r.number ≤ 4611686018427387904) (table_by layout s m i)) (some-weaker (slice_get s.tables i) (λ shape. IsSoundRows shape (table_by layout s m i)) (λ shape. All (λ (r : Numbered). r.number ≤ 4611686018427387904) (table_by layout s m i)) (λ shape r. r.numbers) (tables i l).sound));
        sequences =
            all-range (λ (n : ℤ). n ≤ℤ pos 4611686018427387904) (number_in m) (length s.sequences) 0 (λ i k u. let l : i < length s.sequences = omega (arith, u) in subst (λ (z : ℤ). z ≤ℤ pos 4611686018427387904) (sym (number-here i (sequences i l))) (sequences i l).3);
      };
    };
  }

-- ---- a store that was empty

abbrev repeats_none : List ℕ → Bool
repeats_none key = repeats (map (key_of key) [])

none-repeats : (keys : List (List ℕ)) → prefix_len (λ key. not (repeats_none key)) keys ≡ length keys
none-repeats [] = refl
none-repeats (key ∷ keys) = omega (arith, none-repeats keys)

no-key : (keys : List (List ℕ)) → IsNone (repeated_key keys [])
no-key keys =
    let all = none-repeats keys in
    let past : nat_lt (prefix_len (λ key. not (repeats_none key)) keys) (length keys) ≡ false = grind (arith, nat_tests) in
    rw past refl

empty-rows : (shape : TableShape) → AreRowsOf shape []
empty-rows shape =
    record {
      shaped = All-nil (λ (r : Numbered). FitsShape shape r.row);
      sizes = All-nil (λ (r : Numbered). All IsStorable r.row);
      numbers = λ k w. absurd (omega arith);
    }

zip-made : {A B : Type 0} (R : A → B → Type 0) (xs : List A) (y : B) → ((x : A) → R x y) → AllZip R xs (map (λ _. y) xs)
zip-made R [] y h = tt
zip-made R (x ∷ xs) y h = (h x, zip-made R xs y h)

all-made : {A B : Type 0} (P : B → Type 0) (xs : List A) (y : B) → P y → All P (map (λ _. y) xs)
all-made P [] y p = All-nil P
all-made P (x ∷ xs) y p = All-cons P y (map (λ _. y) xs) p (all-made P xs y p)

pub empty-sound : (schema : Schema) → AreSound schema (empty_tables schema)
empty-sound schema =
    record {
      fits = record { tables = zip-made AreRowsOf schema.tables [] empty-rows; sequences = zip-made (λ name n. pos 1 ≤ℤ n) schema.sequences (pos 1) (λ _. omega (arith, ints)) };
      commits = zip-made MayCommitTable schema.tables [] (λ shape. record { distinct = no-key shape.keys; not_over = omega arith });
      numbers =
          record {
            rows =
                all-made (All (λ (r : Numbered). r.number ≤ 4611686018427387904)) schema.tables [] (All-nil (λ (r : Numbered). r.number ≤ 4611686018427387904));
            sequences = all-made (λ (n : ℤ). n ≤ℤ pos 4611686018427387904) schema.sequences (pos 1) (omega (arith, ints));
          };
    }

abbrev one : List ℕ
one = int_body (pos 1)

abbrev with_one : BodyMap → ℕ → BodyMap
with_one m k = insert m (pos 1, pos k) one

pub ones-elsewhere : (m : BodyMap) (k n : ℕ) (tab : ℤ) → int_eq (pos 1) tab ≡ false → bodies_of (written m (ones k n)) tab ≡ bodies_of m tab
ones-elsewhere m k zero tab e = refl
ones-elsewhere m k (suc n) tab e = ones-elsewhere (with_one m k) (k + 1) n tab e ∙ bodies-put-elsewhere m tab (pos 1) (pos k) one e

ones-text : (m : BodyMap) (k n : ℕ) → text_at (written m (ones k n)) ≡ text_at m
ones-text m k zero = refl
ones-text m k (suc n) = ones-text (with_one m k) (k + 1) n ∙ text-put m (pos 1) (pos k) one refl

one-here : (m : BodyMap) (k : ℕ) → body_at (with_one m k) (pos 1) (pos k) ≡ Some one
one-here m k =
    get-insert place_total m (pos 1, pos k) one (pos 1, pos k)
    ∙ ap (λ b. cond b (Some one) (body_at m (pos 1) (pos k))) (place-tie (pos 1) (pos 1) (pos k) (pos k) true refl ∙ ap is_eq (tied_itself int_cmp_total (pos k)))

one-there : (m : BodyMap) (k j : ℕ) → j ≢ k → body_at (with_one m k) (pos 1) (pos j) ≡ body_at m (pos 1) (pos j)
one-there m k j other =
    get-insert place_total m (pos 1, pos k) one (pos 1, pos j)
    ∙ ap (λ b. cond b (Some one) (body_at m (pos 1) (pos j))) (place-tie (pos 1) (pos 1) (pos j) (pos k) true refl ∙ other-number k j other)

apart : (j k : ℕ) → j < k → j ≢ k
apart j k l e = omega (arith, l, e)

ones-below : (m : BodyMap) (k n j : ℕ) → j < k → body_at (written m (ones k n)) (pos 1) (pos j) ≡ body_at m (pos 1) (pos j)
ones-below m k zero j l = refl
ones-below m k (suc n) j l = ones-below (with_one m k) (k + 1) n j (omega (arith, l)) ∙ one-there m k j (apart j k l)

ones-there : (m : BodyMap) (k n j : ℕ) → k ≤ j → j < k + n → body_at (written m (ones k n)) (pos 1) (pos j) ≡ Some one
ones-there m k zero j low high = absurd (omega (arith, low, high))
ones-there m k (suc n) j low high =
    elim (cases_eq j k) [
      | inl e ↦ subst (λ (i : ℕ). body_at (written (with_one m k) (ones (k + 1) n)) (pos 1) (pos i) ≡ Some one) (sym e) (ones-below (with_one m k) (k + 1) n k (omega arith) ∙ one-here m k)
      | inr other ↦ ones-there (with_one m k) (k + 1) n j (above j k low other) (omega (arith, high))
    ]
  where
    above : (j k : ℕ) → k ≤ j → j ≢ k → k + 1 ≤ j
    above j k l o = grind arith

ones-can : (m : BodyMap) (k n : ℕ) → ((j : ℕ) → k ≤ j → j < k + n → body_at m (pos 1) (pos j) ≡ None) → CanWrite m (ones k n)
ones-can m k zero h = tt
ones-can m k (suc n) h = (
  ap (λ (o : Option (List ℕ)). not (is_some o)) (h k (omega arith) (omega arith)),
  ones-can (with_one m k) (k + 1) n (λ j l u. one-there m k j (beyond j k l) ∙ h j (omega (arith, l)) (omega (arith, u))),
)
  where
    beyond : (j k : ℕ) → k + 1 ≤ j → j ≢ k
    beyond j k l e = omega (arith, l, e)

ones-push : (k n : ℕ) → ones k (suc n) ≡ ones k n ++ change.Add (pos 1) (pos (k + n)) one ∷ []
ones-push k zero = λ i. change.Add (pos 1) (pos (sym (from-here k) i)) one ∷ []
ones-push k (suc n) =
    ap (λ (cs : List BodyChange). change.Add (pos 1) (pos k) one ∷ cs) (ones-push (k + 1) n ∙ (λ i. ones (k + 1) n ++ change.Add (pos 1) (pos (sym (shift k n) i)) one ∷ []))

pub ones-more : (n : ℕ) → ones 0 (n + 1) ≡ ones 0 n ++ change.Add (pos 1) (pos n) one ∷ []
ones-more n = ap (ones 0) (next n) ∙ ones-push 0 n ∙ (λ i. ones 0 n ++ change.Add (pos 1) (pos (from-zero n i)) one ∷ [])
  where
    next : (n : ℕ) → n + 1 ≡ suc n
    next n = omega arith

one-fits : IsInt (pos 1)
one-fits = search

module _ (s : Schema) (m : BodyMap) (short : HasShortNames s) (none : None ≡ text_at m) (rows : (i : ℕ) → i < length s.tables → bodies_of m (table_tab i) ≡ []) (numbers : (i : ℕ) → i < length s.sequences → body_at m (pos 1) (pos i) ≡ None) where
  abbrev texted : BodyMap
  texted = insert m (pos 0, pos 0) (stored_text s)

  abbrev n : ℕ
  n = length s.sequences

  abbrev made : BodyMap
  made = written texted (ones 0 n)

  text-here : text_at texted ≡ Some (stored_text s)
  text-here =
      get-insert place_total m (pos 0, pos 0) (stored_text s) (pos 0, pos 0)
      ∙ ap (λ b. cond b (Some (stored_text s)) (text_at m)) (place-tie (pos 0) (pos 0) (pos 0) (pos 0) true refl ∙ ap is_eq (tied_itself int_cmp_total (pos 0)))

  number-stays : (j : ℕ) → body_at texted (pos 1) (pos j) ≡ body_at m (pos 1) (pos j)
  number-stays j =
      get-insert place_total m (pos 0, pos 0) (stored_text s) (pos 1, pos j) ∙ ap (λ b. cond b (Some (stored_text s)) (body_at m (pos 1) (pos j))) (place-tie (pos 1) (pos 0) (pos j) (pos 0) false refl)

  pub can-start : CanWrite m (change.Add (pos 0) (pos 0) (stored_text s) ∷ ones 0 n)
  can-start = (ap (λ (o : Option (List ℕ)). not (is_some o)) (sym none), ones-can texted 0 n (λ j l u. number-stays j ∙ numbers j (omega (arith, u))))

  no-bodies : (i : ℕ) → i < length s.tables → bodies_of made (table_tab i) ≡ []
  no-bodies i l =
      ones-elsewhere texted 0 n (table_tab i) (apart-from-tables i) ∙ bodies-put-elsewhere m (table_tab i) (pos 0) (pos 0) (stored_text s) (zero-apart i) ∙ rows i l
    where
      zero-apart : (i : ℕ) → int_eq (pos 0) (table_tab i) ≡ false
      zero-apart i = grind arith

  number-made : (i : ℕ) → i < n → body_at made (pos 1) (pos i) ≡ Some one
  number-made i l = ones-there texted 0 n i (omega arith) (omega (arith, l))

  laid-made : IsLaid s made
  laid-made = record {
    tables = λ i l. subst (λ (es : List (ℤ × List ℕ)). All (IsRowBody (columns_at s i)) es) (sym (no-bodies i l)) (All-nil (IsRowBody (columns_at s i)));
    sequences = λ i l. (one, pos 1, number-made i l, ap Some (int-read (pos 1) one-fits), omega (arith, ints));
  }

  low-made : AreLow s made
  low-made = none-low s made no-bodies

  pub started : IsFresh s made
  started =
      let text = ones-text texted 0 n ∙ text-here in
      record {
        pending = record { good = record { short = short; text = text; saved = laid-made; fits = tt; text_stays = text; current = laid-made; low = low-made; stays_low = low-made }; seen = tt; drawn = none-drawn made };
        tables = λ j. record {
          tables = map-range (table_in s made) [] s.tables 0 (λ i l u. ap (rows_in (columns_at s i)) (no-bodies i (omega (arith, u)))) j;
          sequences =
              map-range (number_in made) (pos 1) s.sequences 0 (λ i l u. ap number_of_body (number-made i (omega (arith, u))) ∙ ap (λ o. unwrap_or o (pos 1)) (ap Some (int-read (pos 1) one-fits))) j;
        };
      }

-- ---- where it is told

pub can-write-told : (s : Schema) → HasShortNames s → (old mid now : Option BodyMap) (k n : ℕ) (cs : List BodyChange) → mid ≡ old → now ≡ mid
    → k ≡ length s.tables → n ≡ length s.sequences
    → cs ≡ change.Add (pos 0) (pos 0) (stored_text s) ∷ ones 0 (length s.sequences)
    → WhereTold old (λ m. None ≡ text_at m) → WhereTold old (λ m. (i : ℕ) → i < k → bodies_of m (table_tab i) ≡ [])
    → WhereTold mid (λ m. (i : ℕ) → i < n → body_at m (pos 1) (pos i) ≡ None)
    → WhereTold now (λ m. CanWrite m cs)
can-write-told s short None mid now k n cs emid enow ek en ecs none rows numbers =
    subst (λ (o : Option BodyMap). WhereTold o (λ m. CanWrite m cs)) (sym (enow ∙ emid)) tt
can-write-told s short (Some m) mid now k n cs emid enow ek en ecs none rows numbers =
    let there = subst (λ (o : Option BodyMap). WhereTold o (λ m. (i : ℕ) → i < n → body_at m (pos 1) (pos i) ≡ None)) emid numbers in
    subst (λ (o : Option BodyMap). WhereTold o (λ m. CanWrite m cs)) (sym (enow ∙ emid))
    (subst (λ (x : List BodyChange). CanWrite m x) (sym ecs) (can-start s m short none (λ i l. rows i (omega (arith, ek, l))) (λ i l. there i (omega (arith, en, l)))))

pub starts-told : (s : Schema) → HasShortNames s → (old mid now after : Option BodyMap) (k n : ℕ) (cs : List BodyChange) → mid ≡ old → now ≡ mid
    → k ≡ length s.tables → n ≡ length s.sequences
    → cs ≡ change.Add (pos 0) (pos 0) (stored_text s) ∷ ones 0 (length s.sequences)
    → WhereTold old (λ m. None ≡ text_at m) → WhereTold old (λ m. (i : ℕ) → i < k → bodies_of m (table_tab i) ≡ [])
    → WhereTold mid (λ m. (i : ℕ) → i < n → body_at m (pos 1) (pos i) ≡ None)
    → after ≡ option_map (λ m. written m cs) now → Starts s old after
starts-told s short None mid now after k n cs emid enow ek en ecs none rows numbers e = e ∙ ap (option_map (λ (m : BodyMap). written m cs)) (enow ∙ emid)
starts-told s short (Some m) mid now after k n cs emid enow ek en ecs none rows numbers e =
    let there = subst (λ (o : Option BodyMap). WhereTold o (λ m. (i : ℕ) → i < n → body_at m (pos 1) (pos i) ≡ None)) emid numbers in (
      written m (change.Add (pos 0) (pos 0) (stored_text s) ∷ ones 0 (length s.sequences)),
      e ∙ ap (option_map (λ (m : BodyMap). written m cs)) (enow ∙ emid) ∙ ap (λ (x : List BodyChange). Some (written m x)) ecs,
      started s m short none (λ i l. rows i (omega (arith, ek, l))) (λ i l. there i (omega (arith, en, l))),
    )

pub store-told : (layout : Layout) (s : Schema) (old mid : Option BodyMap) (n : ℕ) → mid ≡ old → n ≡ length s.sequences
    → WhereTold old (λ m. (i : ℕ) → i < length s.tables → IsSoundTable layout s m i) → WhereTold mid (λ m. (i : ℕ) → i < n → IsSoundSequence m i)
    → WhereTold old (IsSoundStore layout s)
store-told layout s None mid n e en tables sequences = tt
store-told layout s (Some m) mid n e en tables sequences =
    let there = subst (λ (o : Option BodyMap). WhereTold o (λ m. (i : ℕ) → i < n → IsSoundSequence m i)) e sequences in
    sound-store layout s m tables (λ i l. there i (omega (arith, en, l)))

table-sound : (layout : Layout) (s : Schema) (m : BodyMap) (place : ℕ) (rows : List Numbered) (next : ℤ) (shape : TableShape)
    → slice_get s.tables place ≡ Some shape → AreRead layout (columns_at s place) (bodies_of m (table_tab place)) rows next
    → IfSome (slice_get s.tables place) (λ x. AreRowsOf x rows) → IsSoundRows shape rows → IsSoundTable layout s m place
table-sound layout s m place rows next shape e read fits sound = record {
  laid = read.laid;
  fits = subst (λ (x : List Numbered). IfSome (slice_get s.tables place) (λ (y : TableShape). AreRowsOf y x)) read.read fits;
  sound =
      subst (λ (o : Option TableShape). IfSome o (λ x. IsSoundRows x (table_by layout s m place))) (sym e) (subst (λ (x : List Numbered). IsSoundRows shape x) read.read sound);
}

pub table-told : (layout : Layout) (s : Schema) (told : Option BodyMap) (table place : ℕ) (rows : List Numbered) (next : ℤ) (shape : TableShape) → table ≡ place
    → slice_get s.tables place ≡ Some shape
    → WhereTold told (λ m. AreRead layout (columns_at s table) (bodies_of m (table_tab table)) rows next)
    → IfSome (slice_get s.tables table) (λ x. AreRowsOf x rows) → IsSoundRows shape rows
    → WhereTold told (λ m. IsSoundTable layout s m place)
table-told layout s None table place rows next shape e there read fits sound = tt
table-told layout s (Some m) table place rows next shape e there read fits sound =
    table-sound layout s m place rows next shape there
    (subst (λ (t : ℕ). AreRead layout (columns_at s t) (bodies_of m (table_tab t)) rows next) e read)
    (subst (λ (t : ℕ). IfSome (slice_get s.tables t) (λ (x : TableShape). AreRowsOf x rows)) e fits) sound

sound-low : (s : Schema) (m : BodyMap) → IsSoundStore layouts.Two s m → AreLow s m
sound-low s m h i n l there =
    let rows : All (λ r. r.number ≤ 4611686018427387904) (table_in s m i) = unall-range (All (λ (r : Numbered). r.number ≤ 4611686018427387904)) (table_in s m) (length s.tables) i l h.sound.numbers.rows in
    has-low (table_in s m i) n rows (sym (ap is_some (sym (bodies-find m (table_tab i) (pos n))) ∙ has-there (columns_at s i) n (bodies_of m (table_tab i)) (h.laid.tables i l)) ∙ there)

pub taken : (s : Schema) (m : BodyMap) → HasShortNames s → text_at m ≡ Some (stored_text s) → IsSoundStore layouts.Two s m → IsTaken s m
taken s m short text h = record {
  pending = record {
    good = record { short = short; text = text; saved = h.laid; fits = tt; text_stays = text; current = h.laid; low = sound-low s m h; stays_low = sound-low s m h };
    seen = tt;
    drawn = none-drawn m;
  };
  sound = h.sound;
}
