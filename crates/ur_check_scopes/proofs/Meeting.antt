-- The first part of a row that is not apart from those behind it.
use Rattle.std.proofs.Common.{◌≡◌, refl, ap, ap₂, sym, ◌∙◌, subst, inl, inr, Bool, true, false, true≢false, List, [], ◌∷◌, map, Option, Some, None, IsTrue, ◌↔◌}
use Rattle.std.specs.Prelude.{◌&&◌, if◌then◌else◌}
use Rattle.std.specs.List.{list_all}
use mathlib.Core.Former.{Count}
use Rattle.ur_rows.specs.declared.normal.Var.{Var}
use Rattle.ur_rows.specs.declared.normal.Label.{Label}
use Rattle.ur_rows.specs.declared.normal.NormalType.{NormalType}
use Rattle.ur_rows.specs.declared.normal.NormalType.TheVariants as ty
use Rattle.ur_rows.specs.declared.normal.NormalType.TheBlock.{Row_of-NormalType, end_of-NormalType as alone, more_of-NormalType as its, Row_of-Part, end_of-Part as end, more_of-Part as more}
use Rattle.ur_rows.specs.declared.normal.Part.{Part}
use Rattle.ur_rows.specs.declared.normal.Part.TheVariants as part
use Rattle.ur_rows.specs.Apart.{Assumptions, piece_of, pieces, Apart}
use Rattle.ur_rows.specs.Made.{row, parts}
use Rattle.ur_rows.proofs.Shapes.{option-made, list-made, transaction-made, arrow-made, field-made, mapped-made, record-made, form-made}
use Rattle.ur_rows.proofs.Order.{parts-row}
use Rattle.ur_disjoint.proofs.Members.{In, contains-in}
use Rattle.ur_tree.specs.Env.{row_pieces}
use Rattle.ur_disjoint.specs.Tests.{apart_from}
use Rattle.ur_typed_rules.specs.Tests.{assumed, are_pieces_apart, is_apart, all_apart, are_apart, rows_are_apart, boxed_rows_are_apart, parts_rows_are_apart, part_rows_are_apart, row_rows_are_apart}
use Rattle.ur_typed_rules.proofs.Rows.{two_rows}
use Rattle.ur_typed_rules.specs.Repeats.{or_else}
use Rattle.ur_typed_rules.specs.Meeting.{Meets, meets_here, meets_behind, MeetsIn, MeetsParts, in_part, in_further_parts, MeetsPart, in_field_type, in_mapped, MeetsRow, of_row, in_row_part}
use Rattle.ur_typed_rules.specs.Meeting as meeting_of
use Rattle.ur_typed_rules.proofs.Meeting.{row_pieces_are, apart_from_each, and_true}
use Rattle.ur_typed_rules.proofs.Repeats.{by-either, by-if}
use Rattle.ur_check_scopes.specs.Meeting.{Met, met_in_row, met_in_type, met_in_boxed, met_in_parts, met_in_part, met_within, met_of_row}

-- ---- the code's trees

pub met-opt : (known : Assumptions) (t : NormalType) → met_in_type known (ty.Opt t) ≡ met_in_type known t
met-opt known t = ap (met_in_type known) (option-made t)

pub met-many : (known : Assumptions) (t : NormalType) → met_in_type known (ty.Many t) ≡ met_in_type known t
met-many known t = ap (met_in_type known) (list-made t)

pub met-transaction : (known : Assumptions) (t : NormalType) → met_in_type known (ty.Transaction t) ≡ met_in_type known t
met-transaction known t = ap (met_in_type known) (transaction-made t)

pub met-arrow : (known : Assumptions) (a b : NormalType) → met_in_type known (ty.Arrow a b) ≡ or_else (met_in_type known a) (met_in_type known b)
met-arrow known a b = ap (met_in_type known) (arrow-made a b)

within-row : (known : Assumptions) (r : List Part) → met_in_parts known (row r).1 ≡ met_within known r
within-row known [] = refl
within-row known (p ∷ r) = ap (or_else (met_in_part known p)) (within-row known r)

pub met-record : (known : Assumptions) (r : List Part) → met_in_type known (ty.Record r) ≡ met_of_row known r
met-record known r = ap (met_in_type known) (record-made r) ∙ ap₂ or_else (ap (met_in_row known) (parts-row r)) (within-row known r)

pub met-form : (known : Assumptions) (r : List Part) → met_in_type known (ty.Form r) ≡ met_of_row known r
met-form known r = ap (met_in_type known) (form-made r) ∙ ap₂ or_else (ap (met_in_row known) (parts-row r)) (within-row known r)

pub met-field : (known : Assumptions) (l : Label) (t : NormalType) → met_in_part known (part.Field l t) ≡ met_in_type known t
met-field known l t = ap (met_in_part known) (field-made l t)

pub met-mapped : (known : Assumptions) (v : Var) (f : NormalType) → met_in_part known (part.Mapped v f) ≡ met_in_type known f
met-mapped known v f = ap (met_in_part known) (mapped-made v f)

pub else-none : (x y : Option Met) → x ≡ None → or_else x y ≡ y
else-none x y h = ap (λ z. or_else z y) h

pub else-some : (x y : Option Met) (m : Met) → x ≡ Some m → or_else x y ≡ Some m
else-some x y m h = ap (λ z. or_else z y) h

pub field-met : (known : Assumptions) (p : Part) (l : Label) (t u : NormalType) (o : Option Met) → p ≡ part.Field l t → u ≡ t → o ≡ met_in_type known u → o ≡ met_in_part known p
field-met known p l t u o e h i = i ∙ ap (met_in_type known) h ∙ sym (met-field known l t) ∙ sym (ap (met_in_part known) e)

pub mapped-met : (known : Assumptions) (p : Part) (v : Var) (t u : NormalType) (o : Option Met) → p ≡ part.Mapped v t → u ≡ t → o ≡ met_in_type known u → o ≡ met_in_part known p
mapped-met known p v t u o e h i = i ∙ ap (met_in_type known) h ∙ sym (met-mapped known v t) ∙ sym (ap (met_in_part known) e)

pub arrow-met : (known : Assumptions) (t a b u v : NormalType) (o : Option Met) → t ≡ ty.Arrow a b → u ≡ a → v ≡ b → None ≡ met_in_type known u → o ≡ met_in_type known v → o ≡ met_in_type known t
arrow-met known t a b u v o e h k n j =
    j ∙ ap (met_in_type known) k ∙ sym (else-none (met_in_type known a) (met_in_type known b) (sym (n ∙ ap (met_in_type known) h))) ∙ sym (met-arrow known a b) ∙ sym (ap (met_in_type known) e)

pub ruleset meeting = (met-opt, met-many, met-transaction, met-arrow, met-record, met-form, met-field, met-mapped, else-none, else-some)

-- ---- no two parts

none-both : (x y : Option Met) → or_else x y ≡ None → (x ≡ None) × (y ≡ None)
none-both None y h = (refl, h)
none-both (Some m) y h = absurd (cc)

of-both : (a b : Bool) → a ≡ true → b ≡ true → (a && b) ≡ true
of-both true b e h = h
of-both false b e h = absurd (true≢false (sym e))

pub none-in-row : (known : Assumptions) (r : List Part) → met_in_row known r ≡ None → are_apart known r ≡ true
none-in-row known [] h = refl
none-in-row known (p ∷ r) h = by-if (is_apart known (p ∷ []) r) (met_in_row known r) (Some (p ∷ [], r)) None (are_apart known (p ∷ r) ≡ true) h
    (λ e k. of-both (list_all (are_pieces_apart known (piece_of p)) (pieces r)) (are_apart known r)
    (sym (apart_from_each known (piece_of p) r) ∙ (sym (and_true (apart_from (map assumed known) (piece_of p) r)) ∙ e)) (none-in-row known r k))
    (λ e k. absurd (cc))

none-pieces : (known : Assumptions) (n : Count) (r : Row_of-Part n) → met_in_row known (parts r) ≡ None → all_apart known (row_pieces r) ≡ true
none-pieces known n r h = ap (all_apart known) (row_pieces_are n r) ∙ none-in-row known (parts r) h

mutual
  pub none-in-type : (known : Assumptions) (t : NormalType) → met_in_type known t ≡ None → rows_are_apart known t ≡ true
  none-in-type known (ty.Opt' _ t) h = none-in-boxed known _ t h
  none-in-type known (ty.Many' _ t) h = none-in-boxed known _ t h
  none-in-type known (ty.Transaction' _ t) h = none-in-boxed known _ t h
  none-in-type known (ty.Arrow' _ a _ b) h = let k = none-both (met_in_boxed known a) (met_in_boxed known b) h in
      of-both (boxed_rows_are_apart known a) (boxed_rows_are_apart known b) (none-in-boxed known _ a k.0) (none-in-boxed known _ b k.1)
  none-in-type known (ty.Record' _ r) h = let k = none-both (met_in_row known (parts r)) (met_in_parts known r) h in
      of-both (all_apart known (row_pieces r)) (parts_rows_are_apart known r) (none-pieces known _ r k.0) (none-in-parts known _ r k.1)
  none-in-type known (ty.Form' _ r) h = let k = none-both (met_in_row known (parts r)) (met_in_parts known r) h in
      of-both (all_apart known (row_pieces r)) (parts_rows_are_apart known r) (none-pieces known _ r k.0) (none-in-parts known _ r k.1)
  none-in-type known _ h = refl

  none-in-boxed : (known : Assumptions) (n : Count) (t : Row_of-NormalType n) → met_in_boxed known t ≡ None → boxed_rows_are_apart known t ≡ true
  none-in-boxed known _ alone h = refl
  none-in-boxed known _ (its t rest) h = none-in-type known t h

  none-in-parts : (known : Assumptions) (n : Count) (r : Row_of-Part n) → met_in_parts known r ≡ None → parts_rows_are_apart known r ≡ true
  none-in-parts known _ end h = refl
  none-in-parts known _ (more p rest) h = let k = none-both (met_in_part known p) (met_in_parts known rest) h in
      of-both (part_rows_are_apart known p) (parts_rows_are_apart known rest) (none-in-part known p k.0) (none-in-parts known _ rest k.1)

  none-in-part : (known : Assumptions) (p : Part) → met_in_part known p ≡ None → part_rows_are_apart known p ≡ true
  none-in-part known (part.Field' l _ t) h = none-in-boxed known _ t h
  none-in-part known (part.Piece v) h = refl
  none-in-part known (part.Mapped' v _ f) h = none-in-boxed known _ f h

none-within : (known : Assumptions) (r : List Part) → met_within known r ≡ None → row_rows_are_apart known r ≡ true
none-within known [] h = refl
none-within known (p ∷ r) h = let k = none-both (met_in_part known p) (met_within known r) h in
    of-both (part_rows_are_apart known p) (row_rows_are_apart known r) (none-in-part known p k.0) (none-within known r k.1)

pub none-of-row : (known : Assumptions) (r : List Part) → met_of_row known r ≡ None → (are_apart known r && row_rows_are_apart known r) ≡ true
none-of-row known r h = let k = none-both (met_in_row known r) (met_within known r) h in
    of-both (are_apart known r) (row_rows_are_apart known r) (none-in-row known r k.0) (none-within known r k.1)

-- ---- two parts

pub some-in-row : (known : Assumptions) (r : List Part) (m : Met) → met_in_row known r ≡ Some m → Meets known r m.0 m.1
some-in-row known [] m h = absurd (cc)
some-in-row known (p ∷ r) m h = by-if (is_apart known (p ∷ []) r) (met_in_row known r) (Some (p ∷ [], r)) (Some m) (Meets known (p ∷ r) m.0 m.1) h
    (λ e k. meets_behind (some-in-row known r m k)) (λ e k. subst (λ z. Meets known (p ∷ r) z.0 z.1) (the_one (p ∷ [], r) m k) (meets_here e))
  where
    the_one : (a b : Met) → Some a ≡ Some b → a ≡ b
    the_one a b h = cc

mutual
  pub some-in-type : (known : Assumptions) (t : NormalType) (m : Met) → met_in_type known t ≡ Some m → MeetsIn known t m.0 m.1
  some-in-type known (ty.Opt' _ (its t alone)) m h = meeting_of.in_option (some-in-type known t m h)
  some-in-type known (ty.Many' _ (its t alone)) m h = meeting_of.in_list (some-in-type known t m h)
  some-in-type known (ty.Transaction' _ (its t alone)) m h = meeting_of.in_transaction (some-in-type known t m h)
  some-in-type known (ty.Arrow' _ (its a alone) _ (its b alone)) m h = by-either (met_in_type known a) (met_in_type known b) m (MeetsIn known (ty.Arrow' tt (its a alone) tt (its b alone)) m.0 m.1) h
      (λ k. meeting_of.in_argument (some-in-type known a m k)) (λ k. meeting_of.in_result (some-in-type known b m k))
  some-in-type known (ty.Record' s r) m h = by-either (met_in_row known (parts r)) (met_in_parts known r) m (MeetsIn known (ty.Record' s r) m.0 m.1) h
      (λ k. meeting_of.of_record (some-in-row known (parts r) m k)) (λ k. meeting_of.in_record_parts (some-in-parts known _ r m k))
  some-in-type known (ty.Form' s r) m h = by-either (met_in_row known (parts r)) (met_in_parts known r) m (MeetsIn known (ty.Form' s r) m.0 m.1) h
      (λ k. meeting_of.of_form (some-in-row known (parts r) m k)) (λ k. meeting_of.in_form_parts (some-in-parts known _ r m k))
  some-in-type known ty.Int m h = absurd (cc)
  some-in-type known ty.Str m h = absurd (cc)
  some-in-type known ty.Bool m h = absurd (cc)
  some-in-type known ty.Page m h = absurd (cc)
  some-in-type known ty.Xbody m h = absurd (cc)
  some-in-type known ty.Xtable m h = absurd (cc)
  some-in-type known ty.Xtr m h = absurd (cc)
  some-in-type known (ty.Variable v) m h = absurd (cc)
  some-in-type known (ty.Datatype d) m h = absurd (cc)

  some-in-parts : (known : Assumptions) (n : Count) (r : Row_of-Part n) (m : Met) → met_in_parts known r ≡ Some m → MeetsParts known n r m.0 m.1
  some-in-parts known _ end m h = absurd (cc)
  some-in-parts known _ (more p rest) m h = by-either (met_in_part known p) (met_in_parts known rest) m (MeetsParts known _ (more p rest) m.0 m.1) h
      (λ k. in_part (some-in-part known p m k)) (λ k. in_further_parts (some-in-parts known _ rest m k))

  some-in-part : (known : Assumptions) (p : Part) (m : Met) → met_in_part known p ≡ Some m → MeetsPart known p m.0 m.1
  some-in-part known (part.Field' l _ (its t alone)) m h = in_field_type (some-in-type known t m h)
  some-in-part known (part.Piece v) m h = absurd (cc)
  some-in-part known (part.Mapped' v _ (its t alone)) m h = in_mapped (some-in-type known t m h)

some-within : (known : Assumptions) (r : List Part) (m : Met) → met_within known r ≡ Some m → (p : Part) × In p r × MeetsPart known p m.0 m.1
some-within known [] m h = absurd (cc)
some-within known (p ∷ r) m h = by-either (met_in_part known p) (met_within known r) m ((q : Part) × In q (p ∷ r) × MeetsPart known q m.0 m.1) h
    (λ k. (p, inl refl, some-in-part known p m k)) (λ k. let x = some-within known r m k in (x.0, inr x.1, x.2))

pub some-of-row : (known : Assumptions) (r : List Part) (m : Met) → met_of_row known r ≡ Some m → MeetsRow known r m.0 m.1
some-of-row known r m h = by-either (met_in_row known r) (met_within known r) m (MeetsRow known r m.0 m.1) h
    (λ k. of_row (some-in-row known r m k)) (λ k. let x = some-within known r m k in in_row_part (contains-in x.0 r x.1) x.2)

-- ---- what `prove` says

same-truth : (a b : Bool) → (IsTrue a ↔ IsTrue b) → a ≡ b
same-truth true true h = refl
same-truth true false h = absurd (true≢false (sym (h.0 refl)))
same-truth false true h = absurd (true≢false (sym (h.1 refl)))
same-truth false false h = refl

pub proved : (known : Assumptions) (r s : List Part) (b : Bool) → (IsTrue b ↔ Apart known r s) → b ≡ is_apart known r s
proved known r s b h = same-truth b (is_apart known r s) (λ x. (two_rows known r s).1 (h.0 x), λ x. h.1 ((two_rows known r s).0 x))

-- ---- the search

pub row-past : (known : Assumptions) (left rest : List Part) (p : Part) → left ≡ p ∷ rest → is_apart known (p ∷ []) rest ≡ true → met_in_row known left ≡ met_in_row known rest
row-past known left rest p is e = ap (met_in_row known) is ∙ ap (λ b. if b then met_in_row known rest else Some (p ∷ [], rest)) e

pub row-found : (known : Assumptions) (left rest : List Part) (p : Part) → left ≡ p ∷ rest → is_apart known (p ∷ []) rest ≡ false → met_in_row known left ≡ Some (p ∷ [], rest)
row-found known left rest p is e = ap (met_in_row known) is ∙ ap (λ b. if b then met_in_row known rest else Some (p ∷ [], rest)) e

pub ruleset passing = (row-past, row-found)
