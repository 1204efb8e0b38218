-- Operations on values of their types come to values of their types.
use Rattle.std.proofs.Common.{◌≡◌, ℕ, ◌+◌, ◌-◌, ◌<◌, ◌≤◌, ℤ, pos, negsuc, ◌+ℤ◌, zero, suc, ◌^◌, ◌&&◌, All, List, [], ◌∷◌, ◌++◌, length, take, drop, Option, Some, None, Bool, true, false, if◌then◌else◌, unsigned_abs, refl, sym, subst, ap, ap₂, ◌∙◌, arith}
use Rattle.std.specs.Prelude.{codes, map, nat_lt, slice_get, slice_set, int_rem, IsAscii}
use Rattle.std.specs.List.{AllZip, AllByRecursion}
use Rattle.std.specs.Fmt.{signed_decimal}
use Rattle.std.specs.Int.{w64, int_wrapping_div}
use Rattle.std.specs.Ordering.{int_eq}
use Rattle.std.specs.Str.{IsUtf8}
use Rattle.std.proofs.lemmas.Str.{IsUtf8-append, IsUtf8-from_ascii}
use Rattle.std.proofs.lemmas.Str.Ascii.{IsAscii-cons}
use Rattle.std.proofs.lemmas.Fmt.{IsAscii-signed}
use Rattle.std.proofs.lemmas.Bool.{false≢true, and_parts}
use Rattle.std.proofs.lemmas.Bool.Decides.{nat_tests}
use Rattle.std.proofs.lemmas.Int.{ints}
use Rattle.std.proofs.lemmas.List.Elements.{All-head, All-tail}
use Rattle.std.specs.Int.Signed.{mag}
use Rattle.ur_base.specs.declared.names.Name.{Name}
use Rattle.ur_values.specs.declared.types.ValueType.{ValueType}
use Rattle.ur_values.specs.declared.types.ValueType.TheVariants as ty
use Rattle.ur_values.specs.declared.value.Value.{Value, out-Value}
use Rattle.ur_values.specs.declared.value.Value.TheVariants as v
use Rattle.ur_values.specs.declared.value.Node.{Node}
use Rattle.ur_values.specs.declared.value.Node.TheVariants as n
use Rattle.ur_values.specs.declared.value.Tag.{Tag}
use Rattle.ur_values.specs.declared.value.FieldKind.{FieldKind}
use Rattle.ur_values.specs.declared.value.FieldKind.TheVariants as kind
use Rattle.ur_values.specs.Event.{Ask, Write}
use Rattle.ur_values.specs.Size.{is_small}
use Rattle.ur_values.specs.Sql.{Sql, Changed, After, DuplicateKey, TableFull}
use Rattle.ur_values.specs.Store.{Store}
use Rattle.ur_values.specs.Values.{IsInt}
use Rattle.ur_terms.specs.declared.term.AnswerForm.{AnswerForm}
use Rattle.ur_terms.specs.declared.term.AnswerForm.TheVariants as form
use Rattle.ur_terms.specs.declared.term.Function.{Function}
use Rattle.ur_terms.specs.declared.term.Op.{Op}
use Rattle.ur_terms.specs.declared.term.Op.TheVariants as op
use Rattle.ur_terms.specs.State.{State, Outcome, Done, Spent, built, note, error_text}
use Rattle.ur_terms.specs.Values.{as_int, as_bool, as_text, as_fields, as_items, as_nodes, open_nodes, open_fields, open_items, all_nodes, append_option, shown, fields_together, field_at, without_field, fields_of}
use Rattle.ur_terms.specs.Ops.{given, no_arg, one_arg, two_args, two_ints, divided, markup, with_unit, optional_text, answered, changed, next, drawn, does}
use Rattle.ur_terms.specs.Run.{joined, outcome_of}
use Rattle.ur_terms.specs.Types.{Signature, OpType, IsScalar, scalar_int, scalar_string, scalar_bool, xml_page, xml_body, xml_table, xml_row, Stands, stands_head, stands_title, stands_body, stands_table, stands_row, stands_cell, stands_header, stands_form, Holds, holds_bodies, holds_fields, ElementStands, of_its_own, as_its_parts, IsValueFor, IsXml, plain_xml, form_xml, IsFlow, flow_body, flow_form, MakeUp, alike, no_part, more_parts, record_type, form_type, unit_type, answer_type, field_kind, FitsFunction, function_type}
use Rattle.ur_terms.specs.Sound.{Comes, Typing, KeepsXml, KeepsTables, IsStateOf, IfAfter}
use Rattle.ur_terms.proofs.Inhabiting.{Of, to-Many, to-Row, to-Present, to-Tagged}
use Rattle.ur_terms.proofs.TypedValues.{int_of, bool_of, text_of, record_of, many_of, xml_of}
use Rattle.ur_terms.proofs.TypedFields.{typed_together, typed_at, typed_without, typed_named}
use Rattle.ur_terms.proofs.Ints.{int_sum, int_difference, int_product, int_opposite, int_quotient, int_remainder}
use Rattle.ur_terms.proofs.Typed.{comes_given, comes_charge, at_place, typed_outcome}
use Rattle.ur_terms.proofs.TypedPatterns.{typed_binds, typed_covers}

-- ---- XML

flow_xml : {r : ValueType} {fs : List (Name × ValueType)} → IsFlow r fs → IsXml r
flow_xml flow_body = plain_xml ty.Xbody xml_body
flow_xml (flow_form fs) = form_xml fs

opens_fields : (x : Value) (fields : List (Name × Value)) → x ≡ v.Row fields → as_fields x ≡ Some fields
opens_fields x fields e = ap open_fields (ap out-Value e ∙ v.outs-Row fields)

opens_items : (x : Value) (items : List Value) → x ≡ v.Many items → as_items x ≡ Some items
opens_items x items e = ap open_items (ap out-Value e ∙ v.outs-Many items)

stands_xml : {t : Tag} {r within : ValueType} → Stands t r within → IsXml r
stands_xml stands_head = plain_xml ty.Page xml_page
stands_xml stands_title = plain_xml ty.Page xml_page
stands_xml stands_body = plain_xml ty.Page xml_page
stands_xml stands_table = plain_xml ty.Xbody xml_body
stands_xml stands_row = plain_xml ty.Xtable xml_table
stands_xml stands_cell = plain_xml ty.Xtr xml_row
stands_xml stands_header = plain_xml ty.Xtr xml_row
stands_xml (stands_form fs) = plain_xml ty.Xbody xml_body

opens_nodes : (x : Value) (nodes : List Node) → x ≡ v.Markup nodes → as_nodes x ≡ Some nodes
opens_nodes x nodes e = ap open_nodes (ap out-Value e ∙ v.outs-Markup nodes)

-- a text of ASCII that is written out
abbrev all_small : List ℕ → Bool
all_small [] = true
all_small (b ∷ bs) = nat_lt b 128 && all_small bs

small_text : (bs : List ℕ) → all_small bs ≡ true → IsAscii bs
small_text [] h = λ i. omega arith
small_text (b ∷ bs) h =
    let both = and_parts (nat_lt b 128) (all_small bs) h in
    let small : b < 128 = grind (arith, nat_tests) in
    IsAscii-cons b bs small (small_text bs both.1)

closed_text : (bs : List ℕ) → all_small bs ≡ true → IsUtf8 bs
closed_text bs h = IsUtf8-from_ascii bs (small_text bs h)

not_zero : (j : ℤ) → int_eq j (pos 0) ≡ false → 0 < unsigned_abs j
not_zero (pos zero) e = absurd (false≢true (sym e))
not_zero (pos (suc k)) e = omega arith
not_zero (negsuc k) e = omega arith

mag_below : (i : ℤ) → IsInt i → mag i < 2 ^ 63
mag_below (pos k) h = omega (arith, ints, h)
mag_below (negsuc k) h = omega (arith, ints, h)

shown_int : (i : ℤ) → IsInt i → IsUtf8 (signed_decimal i)
shown_int i h = IsUtf8-from_ascii (signed_decimal i) (IsAscii-signed i (mag_below i h))

take_of : (V : Value → ValueType → Type 0) (k : ℕ) (xs : List Value) (ts : List ValueType) → AllZip V xs ts → AllZip V (take k xs) (take k ts)
take_of V zero xs ts h = tt
take_of V (suc k) [] [] h = tt
take_of V (suc k) [] (t ∷ ts) h = absurd h
take_of V (suc k) (x ∷ xs) [] h = absurd h
take_of V (suc k) (x ∷ xs) (t ∷ ts) h = (h.0, take_of V k xs ts h.1)

drop_of : (V : Value → ValueType → Type 0) (k : ℕ) (xs : List Value) (ts : List ValueType) → AllZip V xs ts → AllZip V (drop k xs) (drop k ts)
drop_of V zero xs ts h = h
drop_of V (suc k) [] [] h = tt
drop_of V (suc k) [] (t ∷ ts) h = absurd h
drop_of V (suc k) (x ∷ xs) [] h = absurd h
drop_of V (suc k) (x ∷ xs) (t ∷ ts) h = drop_of V k xs ts h.1

cookie_at : (V : Value → ValueType → Type 0) (xs : List Value) (ts : List ValueType) (i : ℕ) (r : ValueType) → AllZip (λ x t. V x (ty.Opt t)) xs ts → slice_get ts i ≡ Some r
    → (x : Value) × (slice_get xs i ≡ Some x) × V x (ty.Opt r)
cookie_at V xs ts i r h e = at_place (λ x t. V x (ty.Opt t)) xs ts i r h e

module _ (own : Value → Type 0) (sig : Signature) where
  all_alike : (xs : List Value) (ts : List ValueType) (r : ValueType) → AllZip (λ x t. Of own sig.variants x t) xs ts → All (λ t. t ≡ r) ts → AllByRecursion (λ y. Of own sig.variants y r) xs
  all_alike [] [] r h all = tt
  all_alike [] (t ∷ ts) r h all = absurd h
  all_alike (x ∷ xs) [] r h all = absurd h
  all_alike (x ∷ xs) (t ∷ ts) r h all =
      (subst (Of own sig.variants x) (All-head (λ t. t ≡ r) t ts all) h.0, all_alike xs ts r h.1 (All-tail (λ t. t ≡ r) t ts all))

module _ (own : Value → Type 0) (sig : Signature) where
  abbrev V : Value → ValueType → Type 0
  V x t = Of own sig.variants x t

  module _ (xml : KeepsXml own sig V) where
    -- the nodes of values that are XML, one after the other
    pub nodes_of : (r : ValueType) (xs : List Value) → IsXml r → AllByRecursion (λ y. V y r) xs → (nodes : List Node) × (all_nodes xs ≡ Some nodes) × own (v.Markup nodes)
    nodes_of r [] h hs = ([], refl, xml.none)
    nodes_of r (x ∷ xs) h hs =
        let (kids, is, mine) = xml_of own sig.variants r h x hs.0 in
        let (others, rest, theirs) = nodes_of r xs h hs.1 in
        (kids ++ others, ap₂ append_option (opens_nodes x kids is) rest, xml.together kids others mine theirs)

    -- the nodes of parts that make up XML
    pub made : (ts : List ValueType) (r : ValueType) → MakeUp ts r → (xs : List Value) → AllZip V xs ts
        → IsXml r × ((nodes : List Node) × (all_nodes xs ≡ Some nodes) × own (v.Markup nodes))
    made ts r (alike _ _ plain all) xs h = (plain_xml r plain, nodes_of r xs (plain_xml r plain) (all_alike own sig xs ts r h all))
    made _ _ no_part [] h = (form_xml [], ([], refl, xml.none))
    made _ _ no_part (x ∷ xs) h = absurd h
    made _ _ (more_parts part ts fs gs flow rest apart) [] h = absurd h
    made _ _ (more_parts part ts fs gs flow rest apart) (x ∷ xs) h =
        let (kids, is, mine) = xml_of own sig.variants part (flow_xml flow) x h.0 in
        let (others, theirs_is, theirs) = (made ts (form_type gs) rest xs h.1).1 in
        (form_xml (fields_together fs gs), (kids ++ others, ap₂ append_option (opens_nodes x kids is) theirs_is, xml.together kids others mine theirs))

    -- the nodes of parts of what holds them
    held : (ts : List ValueType) (r : ValueType) → Holds ts r → (xs : List Value) → AllZip V xs ts
        → IsXml r × ((nodes : List Node) × (all_nodes xs ≡ Some nodes) × own (v.Markup nodes))
    held ts _ (holds_bodies all) xs h = made ts ty.Xbody (alike ts ty.Xbody xml_body all) xs h
    held ts _ (holds_fields fs some parts) xs h = made ts (form_type fs) parts xs h

    -- the nodes of the parts of an element
    around : (t : Tag) (ts : List ValueType) (r : ValueType) → ElementStands t ts r → (xs : List Value) → AllZip V xs ts
        → IsXml r × ((nodes : List Node) × (all_nodes xs ≡ Some nodes) × own (v.Markup nodes))
    around t ts r (of_its_own within stands parts) xs h = (stands_xml stands, (made ts within parts xs h).1)
    around t ts r (as_its_parts flow holds) xs h = held ts r holds xs h

    module _ (kept : ℕ → Store → Type 0) (sql : Sql) (tables : KeepsTables sig V kept sql) where
      abbrev S : State → Type 0
      S s = IsStateOf sig V kept s

      abbrev B : Value → Type 0
      B x = V x ty.Xbody

      abbrev Good : ValueType → Outcome Value → Type 0
      Good r o = Comes (λ x. V x r) S B o

      at_type : (r t : ValueType) (o : Outcome Value) → r ≡ t → Good t o → Good r o
      at_type r t o e h = subst (λ q. Good q o) (sym e) h

      good_built : (r : ValueType) (x : Value) (s : State) → V x r → S s → Good r (built x s)
      good_built r x s h f = either (is_small x)
        where
          either : (b : Bool) → Good r (if b then Done x s else Spent s.events)
          either true = (h, f)
          either false = tt

      good_text : (r : ValueType) (t : List ℕ) (s : State) → IsUtf8 t → Good r (error_text t s)
      good_text r t s h = (plain_xml ty.Xbody xml_body, xml.text t h)

      good_none : (r : ValueType) (xs : List Value) (o : Outcome Value) → AllZip V xs [] → Good r o → Good r (no_arg xs o)
      good_none r [] o h k = k
      good_none r (x ∷ xs) o h k = absurd h

      good_one : (r t : ValueType) (xs : List Value) (go : Value → Outcome Value) → AllZip V xs (t ∷ []) → ((x : Value) → V x t → Good r (go x)) → Good r (one_arg xs go)
      good_one r t [] go h k = absurd h
      good_one r t (x ∷ []) go h k = k x h.0
      good_one r t (x ∷ y ∷ xs) go h k = absurd h.1

      good_two : (r t u : ValueType) (xs : List Value) (go : Value → Value → Outcome Value) → AllZip V xs (t ∷ u ∷ []) → ((x y : Value) → V x t → V y u → Good r (go x y))
          → Good r (two_args xs go)
      good_two r t u [] go h k = absurd h
      good_two r t u (x ∷ []) go h k = absurd h.1
      good_two r t u (x ∷ y ∷ []) go h k = k x y h.0 h.1.0
      good_two r t u (x ∷ y ∷ z ∷ xs) go h k = absurd h.1.1

      pub good_ints : (r : ValueType) (xs : List Value) (go : ℤ → ℤ → Outcome Value) → AllZip V xs (ty.Int ∷ ty.Int ∷ []) → ((i j : ℤ) → IsInt i → IsInt j → Good r (go i j))
          → Good r (two_ints xs go)
      good_ints r xs go h k = good_two r ty.Int ty.Int xs _ h (λ x y hx hy.
          let i = int_of own sig.variants x hx in
          let j = int_of own sig.variants y hy in
          comes_given (λ x. V x r) S B (as_int x) i.0 _ (ap as_int i.1) (comes_given (λ x. V x r) S B (as_int y) j.0 _ (ap as_int j.1) (k i.0 j.0 i.2 j.2)))

      good_int : (i : ℤ) (s : State) → IsInt i → S s → Good ty.Int (Done (v.Int i) s)
      good_int i s h f = ((refl, h), f)

      good_bool : (b : Bool) (s : State) → S s → Good ty.Bool (Done (v.Bool b) s)
      good_bool b s f = (refl, f)

      pub good_divided : (g : ℤ → ℤ → ℤ) → ((i j : ℤ) → IsInt i → IsInt j → 0 < unsigned_abs j → IsInt (g i j)) → (i j : ℤ) (s : State) → IsInt i → IsInt j → S s
          → Good ty.Int (divided g i j s)
      good_divided g keeps i j s hi hj f = go (int_eq j (pos 0)) refl
        where
          go : (b : Bool) → int_eq j (pos 0) ≡ b → Good ty.Int (if b then error_text (codes "division by zero") s else Done (v.Int (g i j)) s)
          go true e = good_text ty.Int (codes "division by zero") s (closed_text (codes "division by zero") refl)
          go false e = ((refl, keeps i j hi hj (not_zero j e)), f)

      pub good_shown : (a r : ValueType) (x : Value) (s : State) (go : List ℕ → Outcome Value) → IsScalar a → V x a → ((t : List ℕ) → IsUtf8 t → Good r (go t)) → Good r (given (shown x) go)
      good_shown _ r x s go scalar_int h k =
          let i = int_of own sig.variants x h in
          comes_given (λ x. V x r) S B (shown x) (signed_decimal i.0) go (ap shown i.1) (k (signed_decimal i.0) (shown_int i.0 i.2))
      good_shown _ r x s go scalar_string h k =
          let t = text_of own sig.variants x h in
          comes_given (λ x. V x r) S B (shown x) t.0 go (ap shown t.1) (k t.0 t.2)
      good_shown _ r x s go scalar_bool h k = either (bool_of own sig.variants x h)
        where
          either : (b : Bool) × (x ≡ v.Bool b) → Good r (given (shown x) go)
          either (true, e) = comes_given (λ x. V x r) S B (shown x) (codes "True") go (ap shown e) (k (codes "True") (closed_text (codes "True") refl))
          either (false, e) = comes_given (λ x. V x r) S B (shown x) (codes "False") go (ap shown e) (k (codes "False") (closed_text (codes "False") refl))

      pub good_markup : (r : ValueType) (nodes : List Node) (s : State) → IsXml r → own (v.Markup nodes) → S s → Good r (markup nodes s)
      good_markup r nodes s h k f = good_built r (v.Markup nodes) s (h, k) f

      good_only : (r : ValueType) (x : Value) (xs : List Value) (go : Option (List ℕ) → Outcome Value) → AllZip V (x ∷ xs) (ty.Str ∷ [])
          → ((t : Option (List ℕ)) → Good r (go t)) → Good r (given (optional_text (x ∷ xs)) go)
      good_only r x [] go h g =
          let t = text_of own sig.variants x h.0 in
          comes_given (λ x. V x r) S B (optional_text (x ∷ [])) (Some t.0) go (ap (λ z. optional_text (z ∷ [])) t.1) (g (Some t.0))
      good_only r x (y ∷ xs) go h g = absurd h.1

      -- an optional text
      good_label : (k : FieldKind) (r : ValueType) (xs : List Value) (ts : List ValueType) (go : Option (List ℕ) → Outcome Value) → IsValueFor k ts → AllZip V xs ts
          → ((t : Option (List ℕ)) → Good r (go t)) → Good r (given (optional_text xs) go)
      good_label k r [] [] go h hs g = g None
      good_label k r (x ∷ xs) [] go h hs g = absurd hs
      good_label k r [] (t ∷ ts) go h hs g = absurd hs
      good_label kind.Textarea r (x ∷ xs) (t ∷ ts) go h hs g = absurd h
      good_label kind.Checkbox r (x ∷ xs) (t ∷ ts) go h hs g = absurd h
      good_label kind.Textbox r (x ∷ xs) (t ∷ ts) go h hs g = good_only r x xs go (subst (AllZip V (x ∷ xs)) h hs) g
      good_label kind.Password r (x ∷ xs) (t ∷ ts) go h hs g = good_only r x xs go (subst (AllZip V (x ∷ xs)) h hs) g

      good_answered : (how : AnswerForm) (row : ValueType) (rows : List Value) (s : State) → AllByRecursion (λ x. V x row) rows → S s → Good (answer_type how row) (answered how rows s)
      good_answered form.All row rows s h f = good_built (ty.Many row) (v.Many rows) s (to-Many own sig.variants rows (ty.Many row) (row, refl, h)) f
      good_answered form.One row [] s h f = good_text row (codes "expected one row") s (closed_text (codes "expected one row") refl)
      good_answered form.One row (x ∷ []) s h f = good_built row x s h.0 f
      good_answered form.One row (x ∷ y ∷ rows) s h f = good_text row (codes "expected one row") s (closed_text (codes "expected one row") refl)
      good_answered form.OneOrNone row [] s h f = ((row, refl), f)
      good_answered form.OneOrNone row (x ∷ []) s h f = good_built (ty.Opt row) (v.Present x) s (to-Present own sig.variants x (ty.Opt row) (row, refl, h.0)) f
      good_answered form.OneOrNone row (x ∷ y ∷ rows) s h f = good_text (ty.Opt row) (codes "expected one row") s (closed_text (codes "expected one row") refl)

      good_changed : (update : ℕ) (c : Changed Store) (s : State) → IfAfter (kept s.units) c → S s → Good unit_type (changed (sql.table update) c s)
      good_changed update (After store) s h f = (to-Row own sig.variants [] unit_type ([], refl, tt), (h, f.1))
      good_changed update (DuplicateKey k) s h f =
          good_text unit_type _ s (IsUtf8-append (codes "duplicate key in ") (sql.table update) (closed_text (codes "duplicate key in ") refl) (tables.tables update))
      good_changed update TableFull s h f =
          good_text unit_type _ s (IsUtf8-append (codes "table full: ") (sql.table update) (closed_text (codes "table full: ") refl) (tables.tables update))

      -- the state after some units are charged
      fewer_units : (k : ℕ) (s : State) → S s → S (record s { units = s.units - k })
      fewer_units k s f = (tables.fewer s.units (s.units - k) s.store (omega arith) f.0, f.1)

      one_more : (u : ℕ) → 1 ≤ u → u ≡ suc (u - 1)
      one_more u h = omega arith

      good_next : (q : ℕ) (s : State) → q < sig.sequences → S s → Good ty.Int (next q s)
      good_next q s h f = comes_charge (λ x. V x ty.Int) S B 1 s (λ t. given (slice_get t.store.sequences q) (drawn q t)) (λ some.
          let number = tables.draws q (s.units - 1) s.store h (subst (λ u. kept u s.store) (one_more s.units some) f.0) in
          let t : State = record s { units = s.units - 1 } in
          comes_given (λ x. V x ty.Int) S B (slice_get s.store.sequences q) number.0 (drawn q t) number.1
          (good_int number.0 (record t { store = record s.store { sequences = slice_set s.store.sequences q (number.0 +ℤ pos 1) } }) number.2 (number.3, f.1)))

      -- the value of a cookie that is set is not carried by this request
      pub good_does : (o : Op) (ts : List ValueType) (r : ValueType) (xs : List Value) (s : State) → OpType sig o ts r → AllZip V xs ts → S s → Good r (does sql o xs s)
      good_does op.Add ts r xs s (e, is) h f = at_type r ty.Int _ is (good_ints ty.Int xs _ (subst (AllZip V xs) e h) (λ i j hi hj. good_int _ s (int_sum i j hi hj) f))
      good_does op.Sub ts r xs s (e, is) h f = at_type r ty.Int _ is (good_ints ty.Int xs _ (subst (AllZip V xs) e h) (λ i j hi hj. good_int _ s (int_difference i j hi hj) f))
      good_does op.Mul ts r xs s (e, is) h f = at_type r ty.Int _ is (good_ints ty.Int xs _ (subst (AllZip V xs) e h) (λ i j hi hj. good_int _ s (int_product i j hi hj) f))
      good_does op.Div ts r xs s (e, is) h f = at_type r ty.Int _ is (good_ints ty.Int xs _ (subst (AllZip V xs) e h)
          (λ i j hi hj. good_divided (int_wrapping_div w64) (λ i j hi hj some. int_quotient i j hi hj) i j s hi hj f))
      good_does op.Rem ts r xs s (e, is) h f = at_type r ty.Int _ is (good_ints ty.Int xs _ (subst (AllZip V xs) e h) (λ i j hi hj. good_divided int_rem int_remainder i j s hi hj f))
      good_does op.Neg ts r xs s (e, is) h f = at_type r ty.Int _ is (good_one ty.Int ty.Int xs _ (subst (AllZip V xs) e h) (λ x hx.
          let i = int_of own sig.variants x hx in
          comes_given (λ x. V x ty.Int) S B (as_int x) i.0 _ (ap as_int i.1) (good_int _ s (int_opposite i.0 i.2) f)))
      good_does op.Append ts r xs s (e, is) h f = at_type r ty.Str _ is (good_two ty.Str ty.Str ty.Str xs _ (subst (AllZip V xs) e h) (λ x y hx hy.
          let a = text_of own sig.variants x hx in
          let b = text_of own sig.variants y hy in
          comes_given (λ x. V x ty.Str) S B (as_text x) a.0 _ (ap as_text a.1) (comes_given (λ x. V x ty.Str) S B (as_text y) b.0 _ (ap as_text b.1)
          (good_built ty.Str (v.Str (a.0 ++ b.0)) s (refl, IsUtf8-append a.0 b.0 a.2 b.2) f))))
      good_does op.Not ts r xs s (e, is) h f = at_type r ty.Bool _ is (good_one ty.Bool ty.Bool xs _ (subst (AllZip V xs) e h) (λ x hx.
          let b = bool_of own sig.variants x hx in
          comes_given (λ x. V x ty.Bool) S B (as_bool x) b.0 _ (ap as_bool b.1) ((refl, f))))
      good_does op.Equal ts r xs s (a, e, sc, is) h f = at_type r ty.Bool _ is (good_two ty.Bool a a xs _ (subst (AllZip V xs) e h) (λ x y hx hy. (refl, f)))
      good_does op.Unequal ts r xs s (a, e, sc, is) h f = at_type r ty.Bool _ is (good_two ty.Bool a a xs _ (subst (AllZip V xs) e h) (λ x y hx hy. (refl, f)))
      good_does op.Less ts r xs s (a, e, sc, is) h f = at_type r ty.Bool _ is (good_two ty.Bool a a xs _ (subst (AllZip V xs) e h) (λ x y hx hy. (refl, f)))
      good_does op.LessEqual ts r xs s (a, e, sc, is) h f = at_type r ty.Bool _ is (good_two ty.Bool a a xs _ (subst (AllZip V xs) e h) (λ x y hx hy. (refl, f)))
      good_does op.Greater ts r xs s (a, e, sc, is) h f = at_type r ty.Bool _ is (good_two ty.Bool a a xs _ (subst (AllZip V xs) e h) (λ x y hx hy. (refl, f)))
      good_does op.GreaterEqual ts r xs s (a, e, sc, is) h f = at_type r ty.Bool _ is (good_two ty.Bool a a xs _ (subst (AllZip V xs) e h) (λ x y hx hy. (refl, f)))
      good_does op.Show ts r xs s (a, e, sc, is) h f = at_type r ty.Str _ is (good_one ty.Str a xs _ (subst (AllZip V xs) e h) (λ x hx.
          good_shown a ty.Str x s _ sc hx (λ t ht. good_built ty.Str (v.Str t) s (refl, ht) f)))
      good_does (op.Record names) ts r xs s (fs, e, apart, is) h f =
          let made_ = typed_named own sig.variants names xs ts fs h e in
          at_type r (record_type fs) _ is (comes_given (λ x. V x (record_type fs)) S B (fields_of names xs) made_.0 _ made_.1
          (good_built (record_type fs) (v.Row made_.0) s (to-Row own sig.variants made_.0 (record_type fs) (fs, refl, made_.2)) f))
      good_does (op.Project name) ts r xs s (fs, e, there) h f = good_one r (record_type fs) xs _ (subst (AllZip V xs) e h) (λ x hx.
          let g = record_of own sig.variants fs x hx in
          let y = typed_at own sig.variants name r g.0 fs g.2 there in
          comes_given (λ x. V x r) S B (as_fields x) g.0 _ (opens_fields x g.0 g.1) (comes_given (λ x. V x r) S B (field_at name g.0) y.0 _ y.1 (y.2, f)))
      good_does op.Join ts r xs s (fs, ks, e, apart, is) h f = at_type r (record_type (fields_together fs ks)) _ is
          (good_two (record_type (fields_together fs ks)) (record_type fs) (record_type ks) xs _ (subst (AllZip V xs) e h) (λ x y hx hy.
          let g = record_of own sig.variants fs x hx in
          let l = record_of own sig.variants ks y hy in
          comes_given (λ x. V x (record_type (fields_together fs ks))) S B (as_fields x) g.0 _ (opens_fields x g.0 g.1)
          (comes_given (λ x. V x (record_type (fields_together fs ks))) S B (as_fields y) l.0 _ (opens_fields y l.0 l.1)
          (good_built (record_type (fields_together fs ks)) (v.Row (fields_together g.0 l.0)) s
          (to-Row own sig.variants (fields_together g.0 l.0) (record_type (fields_together fs ks)) (fields_together fs ks, refl, typed_together own sig.variants g.0 l.0 fs ks g.2 l.2)) f))))
      good_does (op.Cut name) ts r xs s (fs, a, e, there, is) h f = at_type r (record_type (without_field name fs)) _ is
          (good_one (record_type (without_field name fs)) (record_type fs) xs _ (subst (AllZip V xs) e h) (λ x hx.
          let g = record_of own sig.variants fs x hx in
          comes_given (λ x. V x (record_type (without_field name fs))) S B (as_fields x) g.0 _ (opens_fields x g.0 g.1)
          (to-Row own sig.variants (without_field name g.0) (record_type (without_field name fs)) (without_field name fs, refl, typed_without own sig.variants name g.0 fs g.2), f)))
      good_does (op.Absent of) ts r xs s (a, e, opt, is) h f = good_none r xs _ (subst (AllZip V xs) e h) ((a, is ∙ opt), f)
      good_does op.Present ts r xs s (a, e, is) h f = at_type r (ty.Opt a) _ is (good_one (ty.Opt a) a xs _ (subst (AllZip V xs) e h) (λ x hx.
          good_built (ty.Opt a) (v.Present x) s (to-Present own sig.variants x (ty.Opt a) (a, refl, hx)) f))
      good_does (op.Empty of) ts r xs s (a, e, many, is) h f = good_none r xs _ (subst (AllZip V xs) e h) (to-Many own sig.variants [] r (a, is ∙ many, tt), f)
      good_does op.Cons ts r xs s (a, e, is) h f = at_type r (ty.Many a) _ is (good_two (ty.Many a) a (ty.Many a) xs _ (subst (AllZip V xs) e h) (λ x y hx hy.
          let items = many_of own sig.variants a y hy in
          comes_given (λ x. V x (ty.Many a)) S B (as_items y) items.0 _ (opens_items y items.0 items.1)
          (good_built (ty.Many a) (v.Many (x ∷ items.0)) s (to-Many own sig.variants (x ∷ items.0) (ty.Many a) (a, refl, (hx, items.2))) f)))
      good_does (op.Tagged c) [] r [] s (d, at, is) h f = (to-Tagged own sig.variants c None r (d, None, is, at, refl), f)
      good_does (op.Tagged c) [] r (x ∷ xs) s (d, at, is) h f = absurd h
      good_does (op.Tagged c) (a ∷ ts) r [] s (d, at, none, is) h f = absurd h
      good_does (op.Tagged c) (a ∷ ts) r (x ∷ xs) s (d, at, none, is) h f = good_one r a (x ∷ xs) _ (h.0, subst (AllZip V xs) none h.1) (λ y hy.
          good_built r (v.Tagged c (Some y)) s (to-Tagged own sig.variants c (Some y) r (d, Some a, is, at, (a, refl, hy))) f)
      good_does (op.Fail of) ts r xs s (e, is) h f = good_one r ty.Xbody xs _ (subst (AllZip V xs) e h) (λ x hx. hx)
      good_does (op.Markup of) ts r xs s (parts, is) h f =
          let m = made ts of parts xs h in
          at_type r of _ is (comes_given (λ x. V x of) S B (all_nodes xs) m.1.0 _ m.1.1 (good_markup of m.1.0 s m.0 m.1.2 f))
      good_does (op.Text text) ts r xs s (e, ht, is) h f = at_type r ty.Xbody _ is
          (good_none ty.Xbody xs _ (subst (AllZip V xs) e h) (good_markup ty.Xbody (n.Text text ∷ []) s (plain_xml ty.Xbody xml_body) (xml.text text ht) f))
      good_does op.Shown ts r xs s (a, e, sc, is) h f = at_type r ty.Xbody _ is (good_one ty.Xbody a xs _ (subst (AllZip V xs) e h) (λ x hx.
          good_shown a ty.Xbody x s _ sc hx (λ t ht. good_markup ty.Xbody (n.Text t ∷ []) s (plain_xml ty.Xbody xml_body) (xml.text t ht) f)))
      good_does (op.Element tag) ts r xs s stands h f =
          let m = around tag ts r stands xs h in
          comes_given (λ x. V x r) S B (all_nodes xs) m.1.0 _ m.1.1 (good_markup r (n.Element tag m.1.0 ∷ []) s m.0 (xml.element tag m.1.0 m.1.2) f)
      good_does (op.Link route k) ts r xs s (post, at, holds) h f =
          let m = held (drop k ts) r holds (drop k xs) (drop_of V k xs ts h) in
          comes_given (λ x. V x r) S B (all_nodes (drop k xs)) m.1.0 _ m.1.1
          (good_markup r (n.Link (record { route = route; args = take k xs }) m.1.0 ∷ []) s m.0
          (xml.link route (take k ts) post (take k xs) m.1.0 at (take_of V k xs ts h) m.1.2) f)
      good_does (op.Input k name text) ts r xs s (at, value, is) h f =
          good_label k r xs ts _ value h (λ t. good_markup r (n.Field k text t ∷ []) s (subst IsXml (sym is) (form_xml ((name, field_kind k) ∷ []))) (xml.field k text t) f)
      good_does (op.Submit route k unit) ts r xs s (last, get, at, is_unit, value, is) h f =
          good_label kind.Textbox r (drop k xs) (drop k ts) _ value (drop_of V k xs ts h) (λ t.
          good_markup r (n.Submit (record { route = route; args = with_unit unit (take k xs) }) t ∷ []) s (subst IsXml (sym is) (form_xml []))
          (xml.submit route (take k ts) last get unit (take k xs) t at is_unit (take_of V k xs ts h)) f)
      good_does (op.Ask how site) ts r xs s (row, at, is) h f = at_type r (answer_type how row) _ is
          (let rows = sql.answer site xs s.store in
          comes_charge (λ x. V x (answer_type how row)) S B (1 + length rows) (note (Ask site xs rows) s) (answered how rows)
          (λ few. good_answered how row rows _ (tables.answers site ts row xs s.units s.store at h f.0) (fewer_units (1 + length rows) s f)))
      good_does (op.Write update) ts r xs s (at, is) h f = at_type r unit_type _ is
          (comes_charge (λ x. V x unit_type) S B 1 s (λ t. changed (sql.table update) (sql.change update xs t.store) (note (Write update xs) t)) (λ some.
          let less = fewer_units 1 s f in
          good_changed update (sql.change update xs s.store) (note (Write update xs) (record s { units = s.units - 1 })) (tables.changes update ts xs (s.units - 1) s.store at h less.0) less))
      good_does (op.Next q) ts r xs s (e, below, is) h f = at_type r ty.Int _ is (good_none ty.Int xs _ (subst (AllZip V xs) e h) (good_next q s below f))
      good_does (op.GetCookie c) ts r xs s (a, e, at, is) h f =
          let x = cookie_at V s.carried sig.cookies c a f.1 at in
          at_type r (ty.Opt a) _ is (good_none (ty.Opt a) xs _ (subst (AllZip V xs) e h) (comes_given (λ x. V x (ty.Opt a)) S B (slice_get s.carried c) x.0 _ x.1 (x.2, f)))
      good_does (op.SetCookie c) ts r xs s (a, e, at, is) h f = at_type r unit_type _ is
          (good_one unit_type a xs _ (subst (AllZip V xs) e h) (λ x hx. (to-Row own sig.variants [] unit_type ([], refl, tt), f)))

      good_joined : (r : ValueType) (xs : List Value) (s : State) → IsXml r → AllByRecursion (λ y. V y r) xs → S s → Good r (joined xs s)
      good_joined r xs s h hs f =
          let nodes = nodes_of r xs h hs in
          comes_given (λ x. V x r) S B (all_nodes xs) nodes.0 (λ nodes. markup nodes s) nodes.1 (good_markup r nodes.0 s h nodes.2 f)

      pub typing : Typing sig V S B (does sql)
      typing = record {
        int = λ i h. (refl, h);
        text = λ t h. (refl, h);
        bool = λ b. refl;
        as_bool = λ x h. (let b = bool_of own sig.variants x h in (b.0, ap as_bool b.1));
        as_items = λ x a h. (let xs = many_of own sig.variants a x h in (xs.0, opens_items x xs.0 xs.1, xs.2));
        binds = typed_binds own sig;
        covers = typed_covers own sig;
        joins = good_joined;
        deeds = good_does;
      }

      -- a call of a function that is declared comes to a value of its type, and is never stuck
      pub sound : (fs : List Function) → sig.functions ≡ map function_type fs → AllByRecursion (FitsFunction sig) fs
          → (f : ℕ) (ts : List ValueType) (r : ValueType) (xs : List Value) (s : State) → slice_get sig.functions f ≡ Some (ts, r) → AllZip V xs ts → S s
          → Good r (outcome_of (does sql) fs f xs s)
      sound fs declared fit f ts r xs s at h k = typed_outcome sig V S B (does sql) typing fewer_units fs declared fit f ts r xs s at h k
