-- One more change of a store.
use Rattle.std.proofs.Common.{◌≡◌, ℕ, ◌+◌, ◌≤◌, ◌<◌, max, ℤ, pos, ◌+ℤ◌, ◌≤ℤ◌, ◌<ℤ◌, Bool, true, false, not, cond, ◌||◌, ◌==◌, List, [], ◌∷◌, ◌++◌, length, map, get_or, fold, All, Option, Some, None, IfSome, is_some, refl, ap, sym, subst, subst₂, ◌∙◌, arith}
use Rattle.std.specs.Prelude.{unsigned_abs, unwrap_or}
use Rattle.std.specs.Ordering.{int_cmp, int_eq, eq_by_cmp}
use Rattle.std.specs.FinMap.{insert, remove, find, get-insert, get-remove}
use Rattle.std.proofs.lemmas.Int.{ints}
use Rattle.std.proofs.lemmas.Bool.Decides.{nat_tests}
use Rattle.std.proofs.lemmas.List.{map-append}
use Rattle.std.proofs.lemmas.List.Elements.{All-head, All-tail}
use Rattle.std.proofs.lemmas.List.Sums.{fold-append}
use Rattle.ur_base.specs.Told.{WhereTold}
use Rattle.ur_values.specs.declared.schema.Schema.{Schema}
use Rattle.ur_values.specs.declared.schema.Numbered.{Numbered}
use Rattle.ur_values.specs.Numbered.{next_number, has_number, add_row}
use Rattle.ur_values.specs.Store.{Row}
use Rattle.ur_values.specs.Values.{IsInt}
use Rattle.ur_keeper.specs.Tables.{inserted, replaced, removed, drawn}
use Rattle.ur_keeper_bodies.specs.Rows.{int_body, number_of}
use Rattle.ur_keeper_bodies.specs.Columns.{Column, columns_body}
use Rattle.ur_keeper_bodies.proofs.RowLaws.{int-read}
use Rattle.ur_keeper_bodies.specs.declared.bodies.BodyChange.{BodyChange}
use Rattle.ur_keeper_bodies.specs.declared.bodies.BodyChange.TheVariants as change
use Rattle.ur_keeper_bodies.specs.Bodies.{BodyMap, body_at, bodies_of, written, written_one, CanWrite, CanWriteOne}
use Rattle.ur_keeper_bodies.proofs.Places.{place_total}
use Rattle.ur_keeper_bodies.proofs.Tables.{bodies-find, bodies-put, bodies-put-elsewhere, place-tie}
use Rattle.ur_keeper_kept.specs.Laid.{table_tab, text_at, columns_at, MayWrite, rows_in, table_in, number_in, number_of_body, tables_in, IsRowBody, IsLaid}
use Rattle.ur_keeper_kept.proofs.Rows.{fold-least, rows-added, same-number}
use Rattle.ur_keeper_kept.proofs.LaidLaws.{inserted-in, laid-inserted, replaced-in, laid-replaced, removed-in, laid-removed, drawn-in, laid-drawn, apart-from-tables}
use Rattle.ur_keeper_kept.specs.declared.pending.Pending.{Pending}
use Rattle.ur_keeper_kept.specs.Kept.{no_changes, AreLow, IsGood, IsSeen, IsPending, IsChanged, IsNumber, AreDrawn}
use Rattle.ur_keeper_kept.proofs.Low.{low-place, low-there, low-other, low-put, low-taken}

-- ---- the list of changes

pub written-push : (m : BodyMap) (cs : List BodyChange) (c : BodyChange) → written m (cs ++ c ∷ []) ≡ written_one (written m cs) c
written-push m [] c = refl
written-push m (d ∷ cs) c = written-push (written_one m d) cs c

pub can-push : (m : BodyMap) (cs : List BodyChange) (c : BodyChange) → CanWrite m cs → CanWriteOne (written m cs) c → CanWrite m (cs ++ c ∷ [])
can-push m [] c h one = (one, tt)
can-push m (d ∷ cs) c h one = (h.0, can-push (written_one m d) cs c h.1 one)

-- ---- the numbers of a table

pub has-there : (columns : List Column) (n : ℕ) (es : List (ℤ × List ℕ)) → All (IsRowBody columns) es
    → is_some (find int_cmp (pos n) es) ≡ has_number (rows_in columns es) n
has-there columns n [] h = refl
has-there columns n (e ∷ es) h =
    chosen (eq_by_cmp int_cmp (pos n) e.0) (unsigned_abs e.0 == n) (same-number e.0 n (All-head (IsRowBody columns) e es h).low) (has-there columns n es (All-tail (IsRowBody columns) e es h))
  where
    chosen : (a b : Bool) → a ≡ b → is_some (find int_cmp (pos n) es) ≡ has_number (rows_in columns es) n
        → is_some (cond a (Some e.1) (find int_cmp (pos n) es)) ≡ (b || has_number (rows_in columns es) n)
    chosen a true same r = ap (λ (x : Bool). is_some (cond x (Some e.1) (find int_cmp (pos n) es))) same
    chosen a false same r = ap (λ (x : Bool). is_some (cond x (Some e.1) (find int_cmp (pos n) es))) same ∙ r

other-number : (k n : ℕ) → k < n → (k == n) ≡ false
other-number k n h = grind (arith, nat_tests)

above-none : (a n : ℕ) (rows : List Numbered) → fold max a (map (λ r. r.number + 1) rows) ≤ n → has_number rows n ≡ false
above-none a n [] h = refl
above-none a n (r ∷ rows) h =
    let l : max a (r.number + 1) ≤ n = omega (arith, h, fold-least (max a (r.number + 1)) (map (λ (r : Numbered). r.number + 1) rows)) in
    ap (λ t. t || has_number rows n) (other-number r.number n (omega (arith, l))) ∙ above-none (max a (r.number + 1)) n rows h

next-free : (rows : List Numbered) → has_number rows (next_number rows) ≡ false
next-free rows = above-none 0 (next_number rows) rows (omega arith)

pub next-push : (rows : List Numbered) (r : Numbered) → next_number (rows ++ r ∷ []) ≡ max (next_number rows) (r.number + 1)
next-push rows r =
    let next : Numbered → ℕ = λ r. r.number + 1 in
    ap (λ (x : List ℕ). fold max 0 x) (map-append next rows (r ∷ [])) ∙ fold-append max 0 (map next rows) ((r.number + 1) ∷ [])

next-added : (rows : List Numbered) (row : Row) → next_number (add_row rows row) ≡ next_number rows + 1
next-added rows row = next-push rows (record { number = next_number rows; row = row }) ∙ most (next_number rows)
  where
    most : (n : ℕ) → max n (n + 1) ≡ n + 1
    most n = omega arith

-- ---- the text

pub text-put : (m : BodyMap) (t n : ℤ) (v : List ℕ) → int_eq t (pos 0) ≡ false → text_at (insert m (t, n) v) ≡ text_at m
text-put m t n v other = get-insert place_total m (t, n) v (pos 0, pos 0) ∙ ap (λ b. cond b (Some v) (text_at m)) (place-tie (pos 0) t (pos 0) n false other)

text-taken : (m : BodyMap) (t n : ℤ) → int_eq t (pos 0) ≡ false → text_at (remove m (t, n)) ≡ text_at m
text-taken m t n other = get-remove place_total m (t, n) (pos 0, pos 0) ∙ ap (λ b. cond b None (text_at m)) (place-tie (pos 0) t (pos 0) n false other)

table-apart : (i : ℕ) → int_eq (table_tab i) (pos 0) ≡ false
table-apart i = grind arith

-- ---- what was drawn

pub none-drawn : (m : BodyMap) → AreDrawn m []
none-drawn m q low = absurd (omega (arith, ints, low))

sequence-apart : (i : ℕ) → int_eq (table_tab i) (pos 1) ≡ false
sequence-apart i = grind arith

number-there : (m : BodyMap) (t n : ℤ) (v : List ℕ) (q : ℕ) → int_eq t (pos 1) ≡ false → body_at (insert m (t, n) v) (pos 1) (pos q) ≡ body_at m (pos 1) (pos q)
number-there m t n v q other =
    get-insert place_total m (t, n) v (pos 1, pos q) ∙ ap (λ b. cond b (Some v) (body_at m (pos 1) (pos q))) (place-tie (pos 1) t (pos q) n false other)

number-left : (m : BodyMap) (t n : ℤ) (q : ℕ) → int_eq t (pos 1) ≡ false → body_at (remove m (t, n)) (pos 1) (pos q) ≡ body_at m (pos 1) (pos q)
number-left m t n q other =
    get-remove place_total m (t, n) (pos 1, pos q) ∙ ap (λ b. cond b None (body_at m (pos 1) (pos q))) (place-tie (pos 1) t (pos q) n false other)

drawn-put : (m : BodyMap) (t n : ℤ) (v : List ℕ) (drawn : List ℤ) → int_eq t (pos 1) ≡ false → AreDrawn m drawn → AreDrawn (insert m (t, n) v) drawn
drawn-put m t n v drawn other h q low = subst (λ (o : Option (List ℕ)). IsNumber o (get_or drawn q (pos 0))) (sym (number-there m t n v q other)) (h q low)

drawn-taken : (m : BodyMap) (t n : ℤ) (drawn : List ℤ) → int_eq t (pos 1) ≡ false → AreDrawn m drawn → AreDrawn (remove m (t, n)) drawn
drawn-taken m t n drawn other h q low = subst (λ (o : Option (List ℕ)). IsNumber o (get_or drawn q (pos 0))) (sym (number-left m t n q other)) (h q low)

tie-number : (k q : ℕ) → eq_by_cmp int_cmp (pos k) (pos q) ≡ (k == q)
tie-number k q = grind (arith, nat_tests)

number-put : (m : BodyMap) (k q : ℕ) (v : List ℕ) → body_at (insert m (pos 1, pos q) v) (pos 1) (pos k) ≡ cond (k == q) (Some v) (body_at m (pos 1) (pos k))
number-put m k q v =
    get-insert place_total m (pos 1, pos q) v (pos 1, pos k) ∙ ap (λ b. cond b (Some v) (body_at m (pos 1) (pos k))) (place-tie (pos 1) (pos 1) (pos k) (pos q) true refl ∙ tie-number k q)

-- the next number of a sequence, where the numbers of the others stay
abbrev pub Rises : ℕ → ℤ → List ℤ → List ℤ → Type 0
Rises q z old new = (k : ℕ) → get_or new k (pos 0) ≡ cond (k == q) z (get_or old k (pos 0))

drawn-on : (m : BodyMap) (q : ℕ) (v : List ℕ) (z : ℤ) (old new : List ℤ) → number_of v ≡ Some z → Rises q z old new → AreDrawn m old
    → AreDrawn (insert m (pos 1, pos q) v) new
drawn-on m q v z old new is e h k low =
    subst₂ IsNumber (sym (number-put m k q v)) (sym (e k)) (either (k == q) (subst (λ (n : ℤ). pos 1 ≤ℤ n) (e k) low))
  where
    either : (b : Bool) → pos 1 ≤ℤ cond b z (get_or old k (pos 0)) → IsNumber (cond b (Some v) (body_at m (pos 1) (pos k))) (cond b z (get_or old k (pos 0)))
    either true l = (v, refl, is)
    either false l = h k l

pub is-next : (s : Schema) (told : Option BodyMap) (p : Pending) (q : ℕ) (n : ℤ) → WhereTold told (λ m. IsPending s m p) → n ≡ get_or p.drawn q (pos 0)
    → pos 1 ≤ℤ n
    → WhereTold told (λ m. IsNumber (body_at (written m p.changes) (pos 1) (pos q)) n)
is-next s None p q n h e low = tt
is-next s (Some m) p q n h e low =
    subst (λ (z : ℤ). IsNumber (body_at (written m p.changes) (pos 1) (pos q)) z) (sym e) (h.drawn q (subst (λ (z : ℤ). pos 1 ≤ℤ z) e low))

-- ---- given up, and saved

pub given-up : (s : Schema) (m : BodyMap) (p : Pending) → IsPending s m p → IsPending s m no_changes
given-up s m p h = record { good = record { short = h.good.short; text = h.good.text; saved = h.good.saved; fits = tt; text_stays = h.good.text; current = h.good.saved; low = h.good.low; stays_low = h.good.low }; seen = tt; drawn = none-drawn m }

pub saved-now : (s : Schema) (m : BodyMap) (p : Pending) → IsPending s m p → IsPending s (written m p.changes) no_changes
saved-now s m p h = record { good = record { short = h.good.short; text = h.good.text_stays; saved = h.good.current; fits = tt; text_stays = h.good.text_stays; current = h.good.current; low = h.good.stays_low; stays_low = h.good.stays_low }; seen = tt; drawn = none-drawn (written m p.changes) }

-- ---- one more change

module _ (s : Schema) (m : BodyMap) (old : Pending) (p : IsPending s m old) where
  abbrev now : BodyMap
  now = written m old.changes

  good-push : (c : BodyChange) → CanWriteOne now c → text_at (written_one now c) ≡ text_at now → IsLaid s (written_one now c) → AreLow s (written_one now c)
      → IsGood s m (old.changes ++ c ∷ [])
  good-push c can text laid low =
      let e = written-push m old.changes c in
      record {
        short = p.good.short;
        text = p.good.text;
        saved = p.good.saved;
        fits = can-push m old.changes c p.good.fits can;
        text_stays = ap text_at e ∙ text ∙ p.good.text_stays;
        current = subst (λ (x : BodyMap). IsLaid s x) (sym e) laid;
        low = p.good.low;
        stays_low = subst (λ (x : BodyMap). AreLow s x) (sym e) low;
      }

  pub is-there : (i n : ℕ) → i < length s.tables → is_some (body_at now (table_tab i) (pos n)) ≡ has_number (table_in s now i) n
  is-there i n l =
      ap is_some (sym (bodies-find now (table_tab i) (pos n))) ∙ has-there (columns_at s i) n (bodies_of now (table_tab i)) (p.good.current.tables i l)

  module _ (i : ℕ) (row : Row) (l : i < length s.tables) (may : MayWrite (columns_at s i) row) where
    abbrev next : ℕ
    next = next_number (table_in s now i)

    abbrev added : BodyMap
    added = insert now (table_tab i, pos next) (columns_body (columns_at s i) row)

    next-there : pos next +ℤ pos 1 ≡ pos (next_number (table_in s added i))
    next-there =
        let rows = ap (rows_in (columns_at s i)) (bodies-put now (table_tab i) (pos next) (columns_body (columns_at s i) row)) ∙ rows-added (columns_at s i) row (bodies_of now (table_tab i)) (p.good.current.tables i l) may in
        one-more next ∙ ap pos (sym (next-added (table_in s now i) row)) ∙ ap (λ (x : List Numbered). pos (next_number x)) (sym rows)
      where
        one-more : (n : ℕ) → pos n +ℤ pos 1 ≡ pos (n + 1)
        one-more n = grind arith

    seen-added : (seen : Option (ℕ × ℤ)) → IfSome seen (λ x. x ≡ (i, pos next +ℤ pos 1)) → IsSeen s added seen
    seen-added None h = tt
    seen-added (Some x) h = subst (λ (q : ℕ × ℤ). q.1 ≡ pos (next_number (table_in s added q.0))) (sym h) next-there

    inserted-next : (seen : Option (ℕ × ℤ)) → pos next <ℤ pos 9223372036854775808 → IfSome seen (λ x. x ≡ (i, pos next +ℤ pos 1))
        → IsChanged s (inserted i row) m old (record { changes = old.changes ++ change.Add (table_tab i) (pos next) (columns_body (columns_at s i) row) ∷ []; seen = seen; drawn = old.drawn })
    inserted-next seen less h =
        let c = change.Add (table_tab i) (pos next) (columns_body (columns_at s i) row) in
        let e = written-push m old.changes c in
        record {
          pending = record {
            good =
                good-push c (ap not (is-there i next l ∙ next-free (table_in s now i))) (text-put now (table_tab i) (pos next) (columns_body (columns_at s i) row) (table-apart i)) (laid-inserted s now i row l p.good.current may) (low-put s now (table_tab i) (pos next) (columns_body (columns_at s i) row) (low-place s (table_tab i) (pos next) less) p.good.stays_low);
            seen = subst (λ (x : BodyMap). IsSeen s x seen) (sym e) (seen-added seen h);
            drawn =
                subst (λ (x : BodyMap). AreDrawn x old.drawn) (sym e) (drawn-put now (table_tab i) (pos next) (columns_body (columns_at s i) row) old.drawn (sequence-apart i) p.drawn);
          };
          tables = ap (tables_in s) e ∙ inserted-in s now i row l p.good.current may;
        }

    pub is-inserted : (z : ℤ) (seen : Option (ℕ × ℤ)) (new : Pending) → z ≡ pos next → z <ℤ pos 9223372036854775808 → IfSome seen (λ x. x ≡ (i, z +ℤ pos 1))
        → new ≡ record { changes = old.changes ++ change.Add (table_tab i) z (columns_body (columns_at s i) row) ∷ []; seen = seen; drawn = old.drawn }
        → IsChanged s (inserted i row) m old new
    is-inserted z seen new is less h e =
        let from = subst (λ (z : ℤ). z <ℤ pos 9223372036854775808 → IfSome seen (λ x. x ≡ (i, z +ℤ pos 1)) → IsChanged s (inserted i row) m old (record { changes = old.changes ++ change.Add (table_tab i) z (columns_body (columns_at s i) row) ∷ []; seen = seen; drawn = old.drawn })) (sym is) (inserted-next seen) in
        subst (λ (x : Pending). IsChanged s (inserted i row) m old x) (sym e) (from less h)

    replaced-at : (n : ℕ) → has_number (table_in s now i) n ≡ true
        → IsChanged s (replaced i n row) m old (record { changes = old.changes ++ change.Put (table_tab i) (pos n) (columns_body (columns_at s i) row) ∷ []; seen = None; drawn = old.drawn })
    replaced-at n there =
        let c = change.Put (table_tab i) (pos n) (columns_body (columns_at s i) row) in
        let e = written-push m old.changes c in
        record {
          pending = record {
            good =
                good-push c (is-there i n l ∙ there) (text-put now (table_tab i) (pos n) (columns_body (columns_at s i) row) (table-apart i)) (laid-replaced s now i n row l p.good.current may) (low-put s now (table_tab i) (pos n) (columns_body (columns_at s i) row) (low-there s now (table_tab i) (pos n) p.good.stays_low (is-there i n l ∙ there)) p.good.stays_low);
            seen = tt;
            drawn =
                subst (λ (x : BodyMap). AreDrawn x old.drawn) (sym e) (drawn-put now (table_tab i) (pos n) (columns_body (columns_at s i) row) old.drawn (sequence-apart i) p.drawn);
          };
          tables = ap (tables_in s) e ∙ replaced-in s now i n row l p.good.current may there;
        }

    pub is-replaced : (n : ℕ) (z : ℤ) (new : Pending) → z ≡ pos n → has_number (table_in s now i) n ≡ true
        → new ≡ record { changes = old.changes ++ change.Put (table_tab i) z (columns_body (columns_at s i) row) ∷ []; seen = None; drawn = old.drawn }
        → IsChanged s (replaced i n row) m old new
    is-replaced n z new is there e =
        subst (λ (x : Pending). IsChanged s (replaced i n row) m old x) (sym e)
        (subst (λ (z : ℤ). IsChanged s (replaced i n row) m old (record { changes = old.changes ++ change.Put (table_tab i) z (columns_body (columns_at s i) row) ∷ []; seen = None; drawn = old.drawn })) (sym is) (replaced-at n there))

  removed-at : (i n : ℕ) → i < length s.tables → has_number (table_in s now i) n ≡ true
      → IsChanged s (removed i n) m old (record { changes = old.changes ++ change.Drop (table_tab i) (pos n) ∷ []; seen = None; drawn = old.drawn })
  removed-at i n l there =
      let c = change.Drop (table_tab i) (pos n) in
      let e = written-push m old.changes c in
      record {
        pending = record {
          good =
              good-push c (is-there i n l ∙ there) (text-taken now (table_tab i) (pos n) (table-apart i)) (laid-removed s now i n l p.good.current) (low-taken s now (table_tab i) (pos n) p.good.stays_low);
          seen = tt;
          drawn = subst (λ (x : BodyMap). AreDrawn x old.drawn) (sym e) (drawn-taken now (table_tab i) (pos n) old.drawn (sequence-apart i) p.drawn);
        };
        tables = ap (tables_in s) e ∙ removed-in s now i n l p.good.current;
      }

  pub is-removed : (i n : ℕ) (z : ℤ) (new : Pending) → i < length s.tables → z ≡ pos n → has_number (table_in s now i) n ≡ true
      → new ≡ record { changes = old.changes ++ change.Drop (table_tab i) z ∷ []; seen = None; drawn = old.drawn } → IsChanged s (removed i n) m old new
  is-removed i n z new l is there e =
      subst (λ (x : Pending). IsChanged s (removed i n) m old x) (sym e)
      (subst (λ (z : ℤ). IsChanged s (removed i n) m old (record { changes = old.changes ++ change.Drop (table_tab i) z ∷ []; seen = None; drawn = old.drawn })) (sym is) (removed-at i n l there))

  pub number-is : (q : ℕ) (n : ℤ) → IsNumber (body_at now (pos 1) (pos q)) n → number_in now q ≡ n
  number-is q n h = ap number_of_body h.1 ∙ ap (λ o. unwrap_or o (pos 1)) h.2

  seen-stays : (q : ℕ) (v : List ℕ) (seen : Option (ℕ × ℤ)) → IsSeen s now seen → IsSeen s (insert now (pos 1, pos q) v) seen
  seen-stays q v None h = tt
  seen-stays q v (Some x) h =
      h ∙ ap (λ es. pos (next_number (rows_in (columns_at s x.0) es))) (sym (bodies-put-elsewhere now (table_tab x.0) (pos 1) (pos q) v (apart-from-tables x.0)))

  drawn-at : (q : ℕ) (new : List ℤ) → q < length s.sequences → IsInt (number_in now q +ℤ pos 1) → pos 1 ≤ℤ (number_in now q +ℤ pos 1)
      → is_some (body_at now (pos 1) (pos q)) ≡ true → Rises q (number_in now q +ℤ pos 1) old.drawn new
      → IsChanged s (drawn q) m old (record { changes = old.changes ++ change.Put (pos 1) (pos q) (int_body (number_in now q +ℤ pos 1)) ∷ []; seen = old.seen; drawn = new })
  drawn-at q new l fits low there rises =
      let z = number_in now q +ℤ pos 1 in
      let v = int_body z in
      let c = change.Put (pos 1) (pos q) v in
      let e = written-push m old.changes c in
      record {
        pending = record {
          good =
              good-push c there (text-put now (pos 1) (pos q) v refl) (laid-drawn s now q l p.good.current fits low) (low-put s now (pos 1) (pos q) v (low-other s (pos q)) p.good.stays_low);
          seen = subst (λ (x : BodyMap). IsSeen s x old.seen) (sym e) (seen-stays q v old.seen p.seen);
          drawn = subst (λ (x : BodyMap). AreDrawn x new) (sym e) (drawn-on now q v z old.drawn new (ap Some (int-read z fits)) rises p.drawn);
        };
        tables = ap (tables_in s) e ∙ drawn-in s now q l p.good.current fits low;
      }

  pub is-drawn : (q : ℕ) (n : ℤ) (new : Pending) → q < length s.sequences → IsNumber (body_at now (pos 1) (pos q)) n → IsInt (n +ℤ pos 1) → pos 1 ≤ℤ n
      → new.changes ≡ old.changes ++ change.Put (pos 1) (pos q) (int_body (n +ℤ pos 1)) ∷ [] → new.seen ≡ old.seen → Rises q (n +ℤ pos 1) old.drawn new.drawn
      → IsChanged s (drawn q) m old new
  is-drawn q n new l is fits low e seen rises =
      let same = number-is q n is in
      let whole : new ≡ record { changes = old.changes ++ change.Put (pos 1) (pos q) (int_body (n +ℤ pos 1)) ∷ []; seen = old.seen; drawn = new.drawn } = λ i. record { changes = e i; seen = seen i; drawn = new.drawn } in
      subst (λ (x : Pending). IsChanged s (drawn q) m old x) (sym whole)
      (subst (λ (z : ℤ). IsInt (z +ℤ pos 1) → pos 1 ≤ℤ (z +ℤ pos 1) → Rises q (z +ℤ pos 1) old.drawn new.drawn → IsChanged s (drawn q) m old (record { changes = old.changes ++ change.Put (pos 1) (pos q) (int_body (z +ℤ pos 1)) ∷ []; seen = old.seen; drawn = new.drawn })) same
      (λ f w r. drawn-at q new.drawn l f w (ap is_some is.1) r) fits (omega (arith, ints, low)) rises)
