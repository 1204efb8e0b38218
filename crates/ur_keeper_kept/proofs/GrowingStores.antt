-- A store of a kept schema under one that extends it, by its layout.
use Rattle.std.proofs.Common.{◌≡◌, ℕ, zero, suc, ◌+◌, ◌-◌, ◌≤◌, ◌<◌, ℤ, pos, Bool, true, false, cond, List, [], ◌∷◌, ◌++◌, length, map, get_or, All, Option, Some, None, is_some, option_map, refl, ap, ap₂, sym, subst, ◌∙◌, arith}
use Rattle.std.specs.Ordering.{int_eq, is_eq}
use Rattle.std.specs.Cmp.{int_cmp_total, tied_itself}
use Rattle.std.specs.FinMap.{insert, get-insert}
use Rattle.std.specs.Prelude.{unwrap_or, slice_get}
use Rattle.std.specs.Str.{bytes_eq}
use Rattle.std.proofs.lemmas.List.{map-append}
use Rattle.std.proofs.lemmas.List.Elements.{All-get_or, All-from_recursion, recursion_from_All}
use Rattle.ur_base.specs.Told.{WhereTold}
use Rattle.ur_values.specs.declared.schema.Schema.{Schema}
use Rattle.ur_values.specs.declared.schema.TableShape.{TableShape}
use Rattle.ur_values.specs.SchemaText.{schema_text}
use Rattle.ur_values.specs.declared.value.Value.TheVariants as v
use Rattle.ur_values.specs.Store.{Row, IsStorable}
use Rattle.ur_values.specs.Extends.{extends, grown}
use Rattle.ur_values.proofs.Extending.{extends-itself}
use Rattle.ur_keeper.specs.Tables.{Tables, AreSound}
use Rattle.ur_keeper.specs.Growing.{grown_tables}
use Rattle.ur_keeper.proofs.Grown.{grown-sizes, grown-sound, same-tables-stay}
use Rattle.ur_keeper_bodies.specs.declared.bodies.BodyChange.{BodyChange}
use Rattle.ur_keeper_bodies.specs.declared.bodies.BodyChange.TheVariants as change
use Rattle.ur_keeper_bodies.specs.declared.stored.Layout.{Layout}
use Rattle.ur_keeper_bodies.specs.declared.stored.Layout.TheVariants as layouts
use Rattle.ur_keeper_bodies.specs.Stored.{stored_text, parted}
use Rattle.ur_keeper_bodies.specs.Bodies.{BodyMap, body_at, bodies_of, written, CanWrite}
use Rattle.ur_keeper_bodies.proofs.Stores.{parted-back}
use Rattle.ur_keeper_bodies.proofs.Places.{place_total}
use Rattle.ur_keeper_bodies.proofs.Tables.{bodies-put-elsewhere, place-tie}
use Rattle.ur_keeper_bodies.specs.Rows.{row_of, kinds_in}
use Rattle.ur_keeper_bodies.specs.Columns.{Column, columns_body}
use Rattle.ur_keeper_kept.specs.Laid.{text_at, table_tab, columns_of, columns_at, tables_in, tables_by, IsBodyBy, IsLaidBy, HasShortNames}
use Rattle.ur_keeper_kept.specs.Grown.{SameBodies}
use Rattle.ur_keeper_kept.specs.Rewriting.{Entry, puts, all_puts}
use Rattle.ur_keeper_kept.specs.First.{first_row, new_body, renewing}
use Rattle.ur_keeper_kept.specs.Attach.{IsKeptText, IsSoundStore, IsTaken, IsTextChange, none, one, IsGrowth, Grows}
use Rattle.ur_keeper_kept.proofs.Growth.{another-text, first-written}
use Rattle.ur_keeper_kept.proofs.Renewal.{puts-rewrite, written-append, can-append}
use Rattle.ur_keeper_kept.proofs.Attaching.{taken}
use Rattle.ur_keeper_kept.proofs.Told.{told-one, told-two}

-- ---- the text is put anew

abbrev pub texted : Schema → BodyMap → BodyMap
texted s m = insert m (pos 0, pos 0) (stored_text s)

text-there : (s : Schema) (m : BodyMap) → text_at (texted s m) ≡ Some (stored_text s)
text-there s m =
    get-insert place_total m (pos 0, pos 0) (stored_text s) (pos 0, pos 0)
    ∙ ap (λ b. cond b (Some (stored_text s)) (text_at m)) (place-tie (pos 0) (pos 0) (pos 0) (pos 0) true refl ∙ ap is_eq (tied_itself int_cmp_total (pos 0)))

zero-apart : (i : ℕ) → int_eq (pos 0) (table_tab i) ≡ false
zero-apart i = grind arith

same-texted : (s k : Schema) (m : BodyMap) → SameBodies k m (texted s m)
same-texted s k m = record {
  tables = λ i l. bodies-put-elsewhere m (table_tab i) (pos 0) (pos 0) (stored_text s) (zero-apart i);
  sequences =
      λ i l. get-insert place_total m (pos 0, pos 0) (stored_text s) (pos 1, pos i) ∙ ap (λ b. cond b (Some (stored_text s)) (body_at m (pos 1) (pos i))) (place-tie (pos 1) (pos 0) (pos i) (pos 0) false refl);
}

-- ---- what stands afterwards

-- what a growth makes of a store
pub record HasGrown (layout : Layout) (schema kept : Schema) (m : BodyMap) (changes : List BodyChange) : Type 0 where
  pub can : CanWrite m changes
  pub taken : IsTaken schema (written m changes)
  pub tables : tables_in schema (written m changes) ≡ grown_tables schema kept (tables_by layout kept m)

module _ (schema kept : Schema) (m : BodyMap) (e : extends schema kept ≡ true) (short : HasShortNames schema) where
  abbrev again : List BodyChange
  again = change.Put (pos 0) (pos 0) (stored_text schema) ∷ []

  put-text : (x : BodyMap) (stored : List ℕ) → text_at x ≡ Some stored → CanWrite x again
  put-text x stored t = (ap (λ (o : Option (List ℕ)). is_some o) t, tt)

  module _ (stored : List ℕ) (there : text_at m ≡ Some stored) (sound : IsSoundStore layouts.One kept m) where
    abbrev anew : List BodyChange
    anew = all_puts (renewing schema kept) m 0 (length kept.tables)

    abbrev mid : BodyMap
    mid = written m anew

    first-grown : HasGrown layouts.One schema kept m (anew ++ again)
    first-grown =
        let p = puts-rewrite (renewing schema kept) m (length kept.tables) in
        let q = first-written schema kept m mid e short sound.laid (p.1) in
        let sound-mid : AreSound schema (tables_in schema mid) = subst (λ (t : Tables). AreSound schema t) (sym (q.0)) (grown-sound schema kept (tables_by layouts.One kept m) e sound.sound) in
        let end = another-text schema schema mid (texted schema mid) (extends-itself schema) (q.1) (same-texted schema schema mid) in
        let same : tables_in schema (texted schema mid) ≡ tables_in schema mid = end.0 ∙ same-tables-stay schema (tables_in schema mid) sound-mid.fits in
        let whole : written m (anew ++ again) ≡ texted schema mid = written-append m anew again in
        record {
          can = can-append m anew again (p.0) (put-text mid stored (p.2 ∙ there));
          taken = subst (λ (x : BodyMap). IsTaken schema x) (sym whole)
              (taken schema (texted schema mid) short (text-there schema mid) (record { laid = end.1; sound = subst (λ (t : Tables). AreSound schema t) (sym same) sound-mid }));
          tables = ap (tables_in schema) whole ∙ same ∙ q.0;
        }

  module _ (stored : List ℕ) (there : text_at m ≡ Some stored) (sound : IsSoundStore layouts.Two kept m) where
    second-grown : HasGrown layouts.Two schema kept m again
    second-grown =
        let end = another-text schema kept m (texted schema m) e sound.laid (same-texted schema kept m) in
        let grown : AreSound schema (tables_in schema (texted schema m)) = subst (λ (t : Tables). AreSound schema t) (sym (end.0)) (grown-sound schema kept (tables_in kept m) e sound.sound) in
        record {
          can = put-text m stored there;
          taken = taken schema (texted schema m) short (text-there schema m) (record { laid = end.1; sound = grown });
          tables = end.0;
        }

  kept-same : kept ≡ schema → text_at m ≡ Some (stored_text kept) → IsSoundStore layouts.Two kept m → HasGrown layouts.Two schema kept m []
  kept-same same there sound =
      subst (λ (k : Schema). text_at m ≡ Some (stored_text k) → IsSoundStore layouts.Two k m → HasGrown layouts.Two schema k m []) (sym same)
      (λ t s. record { can = tt; taken = taken schema m short t s; tables = sym (same-tables-stay schema (tables_in schema m) s.sound.fits) }) there sound

pub grown-by : (layout : Layout) (schema kept : Schema) (m : BodyMap) (changes : List BodyChange) → extends schema kept ≡ true → HasShortNames schema
    → IsKeptText layout kept m → IsSoundStore layout kept m
    → IsGrowth layout schema kept m changes → HasGrown layout schema kept m changes
grown-by layouts.One schema kept m changes e short text sound h =
    subst (λ (cs : List BodyChange). HasGrown layouts.One schema kept m cs) (sym h) (first-grown schema kept m e short text.0 (text.1) sound)
grown-by layouts.Two schema kept m _ e short text sound (none same) =
    kept-same schema kept m e short same (text.1 ∙ ap Some (parted-back text.0 (schema_text kept) (text.2))) sound
grown-by layouts.Two schema kept m _ e short text sound one = second-grown schema kept m e short text.0 (text.1) sound

-- ---- where it is told

pub can-grow : (layout : Layout) (schema kept : Schema) (old now : Option BodyMap) (changes : List BodyChange) → now ≡ old → extends schema kept ≡ true
    → HasShortNames schema → WhereTold old (IsKeptText layout kept)
    → WhereTold old (IsSoundStore layout kept) → WhereTold old (λ m. IsGrowth layout schema kept m changes) → WhereTold now (λ m. CanWrite m changes)
can-grow layout schema kept None now changes same e short text sound h = subst (λ (o : Option BodyMap). WhereTold o (λ m. CanWrite m changes)) (sym same) tt
can-grow layout schema kept (Some m) now changes same e short text sound h =
    subst (λ (o : Option BodyMap). WhereTold o (λ m. CanWrite m changes)) (sym same) (grown-by layout schema kept m changes e short text sound h).can

pub grows-told : (layout : Layout) (schema kept : Schema) (old now after : Option BodyMap) (changes : List BodyChange) → now ≡ old → extends schema kept ≡ true
    → HasShortNames schema → WhereTold old (IsKeptText layout kept)
    → WhereTold old (IsSoundStore layout kept) → WhereTold old (λ m. IsGrowth layout schema kept m changes) → after ≡ option_map (λ m. written m changes) now
    → Grows layout schema kept old after
grows-told layout schema kept None now after changes same e short text sound h w = w ∙ ap (option_map (λ (m : BodyMap). written m changes)) same
grows-told layout schema kept (Some m) now after changes same e short text sound h w =
    let grown = grown-by layout schema kept m changes e short text sound h in
    (written m changes, w ∙ ap (option_map (λ (m : BodyMap). written m changes)) same, grown.taken, grown.tables)

-- ---- one more table, one more row

snoc-all : (xs ys zs : List BodyChange) → xs ++ (ys ++ zs) ≡ (xs ++ ys) ++ zs
snoc-all [] ys zs = refl
snoc-all (x ∷ xs) ys zs = ap (λ (r : List BodyChange). x ∷ r) (snoc-all xs ys zs)

pub table-more : (f : ℕ → Entry → List ℕ) (m : BodyMap) (n place : ℕ) (changes longer whole : List BodyChange) → place < n
    → changes ++ all_puts f m place (n - place) ≡ whole
    → longer ≡ changes ++ puts (table_tab place) (f place) (bodies_of m (table_tab place)) → longer ++ all_puts f m (place + 1) (n - (place + 1)) ≡ whole
table-more f m n place changes longer whole l so pushed =
    let next : n - place ≡ suc (n - (place + 1)) = omega (arith, l) in
    let here = puts (table_tab place) (f place) (bodies_of m (table_tab place)) in
    let rest = all_puts f m (place + 1) (n - (place + 1)) in
    ap (λ (cs : List BodyChange). cs ++ rest) pushed ∙ sym (snoc-all changes here rest) ∙ ap (λ (k : ℕ). changes ++ all_puts f m place k) (sym next) ∙ so

pub row-more : (tab : ℤ) (f : Entry → List ℕ) (es more : List Entry) (x : Entry) (old changes longer : List BodyChange) → more ≡ es ++ x ∷ []
    → changes ≡ old ++ puts tab f es → longer ≡ changes ++ change.Put tab x.0 (f x) ∷ []
    → longer ≡ old ++ puts tab f more
row-more tab f es more x old changes longer m so pushed =
    pushed ∙ ap (λ (cs : List BodyChange). cs ++ change.Put tab x.0 (f x) ∷ []) so
    ∙ sym (snoc-all old (puts tab f es) (change.Put tab x.0 (f x) ∷ []))
    ∙ ap (λ (cs : List BodyChange). old ++ cs) (sym (map-append (λ (e : Entry). change.Put tab e.0 (f e)) es (x ∷ [])))
    ∙ ap (λ (xs : List Entry). old ++ puts tab f xs) (sym m)

-- ---- the parts of a growth

pub laid-told : (layout : Layout) (kept : Schema) (old now : Option BodyMap) → now ≡ old → WhereTold old (IsSoundStore layout kept)
    → WhereTold now (IsLaidBy layout kept)
laid-told layout kept old now same h =
    subst (λ (o : Option BodyMap). WhereTold o (IsLaidBy layout kept)) (sym same) (told-one old (IsSoundStore layout kept) (IsLaidBy layout kept) h (λ m s. s.laid))

pub growth-told : (layout : Layout) (schema kept : Schema) (old mid : Option BodyMap) (changes cs : List BodyChange) → mid ≡ old → cs ≡ changes
    → WhereTold mid (λ m. IsGrowth layout schema kept m changes)
    → WhereTold old (λ m. IsGrowth layout schema kept m cs)
growth-told layout schema kept old mid changes cs same list h =
    subst (λ (o : Option BodyMap). WhereTold o (λ m. IsGrowth layout schema kept m cs)) same (subst (λ (l : List BodyChange). WhereTold mid (λ m. IsGrowth layout schema kept m l)) (sym list) h)

pub text-stays : (schema kept : Schema) (changes : List BodyChange) → kept ≡ schema → changes ≡ [] → IsTextChange schema kept changes
text-stays schema kept changes same list = subst (λ (l : List BodyChange). IsTextChange schema kept l) (sym list) (none same)

pub text-anew : (schema kept : Schema) (changes : List BodyChange) → changes ≡ change.Put (pos 0) (pos 0) (stored_text schema) ∷ []
    → IsTextChange schema kept changes
text-anew schema kept changes list = subst (λ (l : List BodyChange). IsTextChange schema kept l) (sym list) one

told-all : {A : Type 0} (o : Option A) (P : A → Type 0) → ((a : A) → P a) → WhereTold o P
told-all None P f = tt
told-all (Some a) P f = f a

pub text-grows : (layout : Layout) (schema kept : Schema) (told : Option BodyMap) (changes : List BodyChange) → layout ≡ layouts.Two
    → IsTextChange schema kept changes → WhereTold told (λ m. IsGrowth layout schema kept m changes)
text-grows layout schema kept told changes is h =
    subst (λ (l : Layout). WhereTold told (λ m. IsGrowth l schema kept m changes)) (sym is) (told-all told (λ (m : BodyMap). IsGrowth layouts.Two schema kept m changes) (λ m. h))

pub first-grows : (layout : Layout) (schema kept : Schema) (told : Option BodyMap) (changes : List BodyChange) → layout ≡ layouts.One
    → WhereTold told (λ m. IsGrowth layouts.One schema kept m changes)
    → WhereTold told (λ m. IsGrowth layout schema kept m changes)
first-grows layout schema kept told changes is h = subst (λ (l : Layout). WhereTold told (λ m. IsGrowth l schema kept m changes)) (sym is) h

-- what stands of the changes before table `place`, and what is left of them
abbrev pub PutsSoFar : Schema → Schema → BodyMap → ℕ → List BodyChange → Type 0
PutsSoFar schema kept m place changes =
    changes ++ all_puts (renewing schema kept) m place (length kept.tables - place) ≡ all_puts (renewing schema kept) m 0 (length kept.tables)

pub rows-begin : (schema kept : Schema) (told : Option BodyMap) (changes : List BodyChange) → changes ≡ []
    → WhereTold told (λ m. PutsSoFar schema kept m 0 changes)
rows-begin schema kept told changes list =
    let all : length kept.tables - 0 ≡ length kept.tables = omega arith in
    told-all told (λ (m : BodyMap). PutsSoFar schema kept m 0 changes)
    (λ m. ap (λ (cs : List BodyChange). cs ++ all_puts (renewing schema kept) m 0 (length kept.tables - 0)) list ∙ ap (λ (k : ℕ). all_puts (renewing schema kept) m 0 k) all)

pub rows-on : (schema kept : Schema) (old now : Option BodyMap) (place : ℕ) (changes longer : List BodyChange) → place < length kept.tables → now ≡ old
    → WhereTold old (λ m. PutsSoFar schema kept m place changes)
    → WhereTold now (λ m. longer ≡ changes ++ puts (table_tab place) (renewing schema kept place) (bodies_of m (table_tab place)))
    → WhereTold old (λ m. PutsSoFar schema kept m (place + 1) longer)
rows-on schema kept old now place changes longer l same so pushed =
    told-two old (λ (m : BodyMap). PutsSoFar schema kept m place changes) (λ (m : BodyMap). longer ≡ changes ++ puts (table_tab place) (renewing schema kept place) (bodies_of m (table_tab place)))
    (λ (m : BodyMap). PutsSoFar schema kept m (place + 1) longer) so
    (subst (λ (o : Option BodyMap). WhereTold o (λ m. longer ≡ changes ++ puts (table_tab place) (renewing schema kept place) (bodies_of m (table_tab place)))) same pushed)
    (λ m s p. table-more (renewing schema kept) m (length kept.tables) place changes longer (all_puts (renewing schema kept) m 0 (length kept.tables)) l s p)

none-appended : (xs : List BodyChange) → xs ++ [] ≡ xs
none-appended [] = refl
none-appended (x ∷ xs) = ap (λ (r : List BodyChange). x ∷ r) (none-appended xs)

pub rows-end : (schema kept : Schema) (told : Option BodyMap) (place : ℕ) (changes longer : List BodyChange) → length kept.tables ≤ place
    → WhereTold told (λ m. PutsSoFar schema kept m place changes)
    → longer ≡ changes ++ change.Put (pos 0) (pos 0) (stored_text schema) ∷ [] → WhereTold told (λ m. IsGrowth layouts.One schema kept m longer)
rows-end schema kept told place changes longer past so pushed =
    told-one told (λ (m : BodyMap). PutsSoFar schema kept m place changes) (λ (m : BodyMap). IsGrowth layouts.One schema kept m longer) so (λ m s.
    let none-left : length kept.tables - place ≡ 0 = omega (arith, past) in
    let all : changes ≡ all_puts (renewing schema kept) m 0 (length kept.tables) =
    sym (none-appended changes) ∙ ap (λ (k : ℕ). changes ++ all_puts (renewing schema kept) m place k) (sym none-left) ∙ s in
    pushed ∙ ap (λ (cs : List BodyChange). cs ++ change.Put (pos 0) (pos 0) (stored_text schema) ∷ []) all)

-- the rows of a table that was read
pub table-anew : (schema kept : Schema) (told : Option BodyMap) (place : ℕ) (tab : ℤ) (columns others : List Column) (entries : List Entry) (changes longer : List BodyChange)
    → tab ≡ table_tab place → columns ≡ columns_at schema place → others ≡ columns_at kept place → WhereTold told (λ m. entries ≡ bodies_of m tab)
    → longer ≡ changes ++ puts tab (new_body columns others) entries
    → WhereTold told (λ m. longer ≡ changes ++ puts (table_tab place) (renewing schema kept place) (bodies_of m (table_tab place)))
table-anew schema kept told place tab columns others entries changes longer t cs os read pushed =
    told-one told (λ (m : BodyMap). entries ≡ bodies_of m tab) (λ (m : BodyMap). longer ≡ changes ++ puts (table_tab place) (renewing schema kept place) (bodies_of m (table_tab place))) read
    (λ m r. pushed ∙ (λ i. changes ++ puts (t i) (new_body (cs i) (os i)) ((r ∙ ap (bodies_of m) t) i)))

-- a table that does not read is none of a store that does
pub table-unread : (kept : Schema) (told : Option BodyMap) (place : ℕ) (tab : ℤ) (others : List Column) (entries : List Entry) → place < length kept.tables
    → tab ≡ table_tab place → others ≡ columns_at kept place
    → WhereTold told (λ m. entries ≡ bodies_of m tab) → (All (IsBodyBy layouts.One others) entries → ⊥) → WhereTold told (IsLaidBy layouts.One kept)
    → WhereTold told (λ m. ⊥)
table-unread kept told place tab others entries l t os read unread laid =
    told-two told (λ (m : BodyMap). entries ≡ bodies_of m tab) (IsLaidBy layouts.One kept) (λ (m : BodyMap). ⊥) read laid
    (λ m r h. unread (subst (λ (cs : List Column). All (IsBodyBy layouts.One cs) entries) (sym os)
    (subst (λ (es : List Entry). All (IsBodyBy layouts.One (columns_at kept place)) es) (sym (r ∙ ap (bodies_of m) t)) (h.tables place l))))

columns-got : (shapes : List TableShape) (i : ℕ) (shape : TableShape) → i < length shapes
    → (get_or shapes i shape).columns ≡ columns_of (slice_get shapes i)
columns-got [] i shape l = absurd (omega (arith, l))
columns-got (x ∷ shapes) zero shape l = refl
columns-got (x ∷ shapes) (suc i) shape l = columns-got shapes i shape (omega (arith, l))

pub columns-there : (s : Schema) (shapes : List TableShape) (i : ℕ) (shape : TableShape) → shapes ≡ s.tables → i < length s.tables
    → (get_or shapes i shape).columns ≡ columns_at s i
columns-there s shapes i shape is l = ap (λ (x : List TableShape). (get_or x i shape).columns) is ∙ columns-got s.tables i shape l

-- ---- the new body of a row

grown-long : (columns kept : List Column) (row : Row) → length (grown columns kept row) ≡ length columns
grown-long [] kept row = refl
grown-long (d ∷ columns) [] row = ap suc (grown-long columns [] row)
grown-long (d ∷ columns) (c ∷ kept) [] = ap suc (grown-long columns (c ∷ kept) [])
grown-long (d ∷ columns) (c ∷ kept) (x ∷ row) = go (bytes_eq c.0 d.0) (grown-long columns kept row) (grown-long columns (c ∷ kept) (x ∷ row))
  where
    go : (b : Bool) → length (grown columns kept row) ≡ length columns → length (grown columns (c ∷ kept) (x ∷ row)) ≡ length columns
        → length (cond b (x ∷ grown columns kept row) (v.Absent ∷ grown columns (c ∷ kept) (x ∷ row))) ≡ suc (length columns)
    go true same more = ap suc same
    go false same more = ap suc more

pub new-long : (columns kept : List Column) (row new : Row) → new ≡ grown columns kept row → length columns ≤ length new
new-long columns kept row new is = omega (arith, ap length is, grown-long columns kept row)

pub new-sizes : (columns kept : List Column) (row new : Row) → new ≡ grown columns kept row → All IsStorable row → All IsStorable new
new-sizes columns kept row new is sizes =
    subst (λ (r : Row). All IsStorable r) (sym is) (All-from_recursion IsStorable (grown columns kept row) (grown-sizes columns kept row (recursion_from_All IsStorable row sizes)))

pub new-is : (columns kept : List Column) (body bytes : List ℕ) (row new : Row) → row_of (kinds_in kept) body ≡ Some row → new ≡ grown columns kept row
    → bytes ≡ columns_body columns new
    → bytes ≡ columns_body columns (grown columns kept (first_row kept body))
new-is columns kept body bytes row new read is made =
    made ∙ ap (columns_body columns) is ∙ ap (λ (o : Option Row). columns_body columns (grown columns kept (unwrap_or o []))) (sym read)

-- a body that is no row
pub no-row : (kept : List Column) (es : List Entry) (i : ℕ) (e : Entry) → i < length es → e ≡ get_or es i e → row_of (kinds_in kept) e.1 ≡ None
    → All (IsBodyBy layouts.One kept) es → ⊥
no-row kept es i e l is unread all =
    let body = (subst (IsBodyBy layouts.One kept) (sym is) (All-get_or (IsBodyBy layouts.One kept) es i e l all)).body in
    none-some body.0 (sym unread ∙ body.1)
  where
    none-some : (row : Row) → None ≡ Some row → ⊥
    none-some row p = cc
