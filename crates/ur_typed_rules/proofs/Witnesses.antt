-- A test that fails has a witness: a part of a row and those behind it that meet, or a constructor argument that is not of its kind.
use Rattle.std.proofs.Common.{inl, inr, ◌≡◌, ◌∙◌, sym, ap, true, false, true≢false, List, [], ◌∷◌}
use Rattle.std.specs.Prelude.{◌&&◌, ◌⊎◌}
use Rattle.std.specs.List.{list_all}
use mathlib.Core.Former.{Count}
use Rattle.ur_base.specs.Shape.{Shape, count}
use Rattle.ur_rows.specs.declared.normal.NormalType.{NormalType}
use Rattle.ur_rows.specs.declared.normal.NormalType.TheVariants as ty
use Rattle.ur_rows.specs.declared.normal.NormalType.TheBlock.{end_of-NormalType as sole, more_of-NormalType as the, Row_of-Part, end_of-Part as end, more_of-Part as more}
use Rattle.ur_rows.specs.declared.normal.Part.{Part as RowPart}
use Rattle.ur_rows.specs.declared.normal.Part.TheVariants as part
use Rattle.ur_rows.specs.Apart.{Assumptions, piece_of, pieces}
use Rattle.ur_rows.specs.Made.{parts}
use Rattle.ur_disjoint.proofs.Members.{In, contains-in}
use Rattle.ur_syntax.specs.declared.kind.Kind.{Kind}
use Rattle.ur_rows.specs.declared.normal.Normal.{Normal}
use Rattle.ur_rows.specs.declared.normal.Normal.TheVariants as normal
use Rattle.ur_rows.specs.Kinded.{is_of_kind}
use Rattle.ur_rows.specs.Put.{instance_row}
use Rattle.ur_tree.specs.Env.{Env, variables, con_is_plain, row_pieces}
use Rattle.ur_typed_rules.specs.Tests.{is_apart, have_kinds, con_rows_are_apart, row_rows_are_apart, are_pieces_apart, all_apart, are_apart, rows_are_apart, parts_rows_are_apart, part_rows_are_apart}
use Rattle.ur_typed_rules.specs.Faults.{Fault}
use Rattle.ur_typed_rules.specs.Arguments as arguments
use Rattle.ur_typed_rules.specs.Arguments.{BreaksKinds, IsUnmet, this_pair, later_pair}
use Rattle.ur_typed_rules.proofs.Options.{both_false, not_all_is}
use Rattle.ur_typed_rules.proofs.Meeting.{row_pieces_are, apart_from_each}
use Rattle.ur_typed_rules.specs.Meeting as meeting
use Rattle.ur_typed_rules.specs.Meeting.{MeetsRow, MeetsCon, in_type, in_row, of_row, in_row_part, Meets, meets_here, meets_behind, MeetsIn, MeetsParts, in_part, in_further_parts, MeetsPart, in_field_type, in_mapped}

pub meets_of : (known : Assumptions) (r : List RowPart) → are_apart known r ≡ false → (a : List RowPart) × (b : List RowPart) × Meets known r a b
meets_of known [] h = absurd (true≢false h)
meets_of known (p ∷ r) h = meets_by known p r (meets_of known r) (both_false (list_all (are_pieces_apart known (piece_of p)) (pieces r)) (are_apart known r) h) where
  meets_by : (known : Assumptions) (p : RowPart) (r : List RowPart) → (are_apart known r ≡ false → (a : List RowPart) × (b : List RowPart) × Meets known r a b) → (list_all (are_pieces_apart known (piece_of p)) (pieces r) ≡ false) ⊎ (are_apart known r ≡ false) →
      (a : List RowPart) × (b : List RowPart) × Meets known (p ∷ r) a b
  meets_by known p r k (inl a) = (p ∷ [], r, meets_here (ap (λ z. z && true) (apart_from_each known (piece_of p) r ∙ a)))
  meets_by known p r k (inr b) = ((k b).0, (k b).1, meets_behind (k b).2)

row_meets : (known : Assumptions) (n : Count) (r : Row_of-Part n) → all_apart known (row_pieces r) ≡ false → (a : List RowPart) × (b : List RowPart) × Meets known (parts r) a b
row_meets known n r h = meets_of known (parts r) (sym (ap (all_apart known) (row_pieces_are n r)) ∙ h)

abbrev InType : Assumptions → NormalType → Type 0
InType known t = (a : List RowPart) × (b : List RowPart) × MeetsIn known t a b

abbrev InParts : Assumptions → (n : Count) → Row_of-Part n → Type 0
InParts known n r = (a : List RowPart) × (b : List RowPart) × MeetsParts known n r a b

abbrev InPart : Assumptions → RowPart → Type 0
InPart known p = (a : List RowPart) × (b : List RowPart) × MeetsPart known p a b

arrow_meets : (known : Assumptions) (t u : NormalType) → (rows_are_apart known t ≡ false → InType known t) → (rows_are_apart known u ≡ false → InType known u) → (rows_are_apart known t ≡ false) ⊎ (rows_are_apart known u ≡ false) → InType known (ty.Arrow' tt (the t sole) tt (the u sole))
arrow_meets known t u kt ku (inl a) = ((kt a).0, (kt a).1, meeting.in_argument (kt a).2)
arrow_meets known t u kt ku (inr b) = ((ku b).0, (ku b).1, meeting.in_result (ku b).2)

record_meets : (known : Assumptions) (n : Shape) (r : Row_of-Part (count n)) → (parts_rows_are_apart known r ≡ false → InParts known _ r) → (all_apart known (row_pieces r) ≡ false) ⊎ (parts_rows_are_apart known r ≡ false) → InType known (ty.Record' n r)
record_meets known n r k (inl a) = let m : (a : List RowPart) × (b : List RowPart) × Meets known (parts r) a b = row_meets known _ r a in (m.0, m.1, meeting.of_record m.2)
record_meets known n r k (inr b) = ((k b).0, (k b).1, meeting.in_record_parts (k b).2)

form_meets : (known : Assumptions) (n : Shape) (r : Row_of-Part (count n)) → (parts_rows_are_apart known r ≡ false → InParts known _ r) → (all_apart known (row_pieces r) ≡ false) ⊎ (parts_rows_are_apart known r ≡ false) → InType known (ty.Form' n r)
form_meets known n r k (inl a) = let m : (a : List RowPart) × (b : List RowPart) × Meets known (parts r) a b = row_meets known _ r a in (m.0, m.1, meeting.of_form m.2)
form_meets known n r k (inr b) = ((k b).0, (k b).1, meeting.in_form_parts (k b).2)

further_meets : (known : Assumptions) (p : RowPart) (n : Count) (rest : Row_of-Part n) → (part_rows_are_apart known p ≡ false → InPart known p) → (parts_rows_are_apart known rest ≡ false → InParts known n rest) → (part_rows_are_apart known p ≡ false) ⊎ (parts_rows_are_apart known rest ≡ false) →
    InParts known _ (more p rest)
further_meets known p n rest kp kr (inl a) = ((kp a).0, (kp a).1, in_part (kp a).2)
further_meets known p n rest kp kr (inr b) = ((kr b).0, (kr b).1, in_further_parts (kr b).2)

mutual
  pub meets_in_of : (known : Assumptions) (t : NormalType) → rows_are_apart known t ≡ false → (a : List RowPart) × (b : List RowPart) × MeetsIn known t a b
  meets_in_of known (ty.Opt' _ (the t sole)) h = let m : (a : List RowPart) × (b : List RowPart) × MeetsIn known t a b = meets_in_of known t h in (m.0, m.1, meeting.in_option m.2)
  meets_in_of known (ty.Many' _ (the t sole)) h = let m : (a : List RowPart) × (b : List RowPart) × MeetsIn known t a b = meets_in_of known t h in (m.0, m.1, meeting.in_list m.2)
  meets_in_of known (ty.Transaction' _ (the t sole)) h = let m : (a : List RowPart) × (b : List RowPart) × MeetsIn known t a b = meets_in_of known t h in (m.0, m.1, meeting.in_transaction m.2)
  meets_in_of known (ty.Arrow' _ (the t sole) _ (the u sole)) h = arrow_meets known t u (meets_in_of known t) (meets_in_of known u) (both_false (rows_are_apart known t) (rows_are_apart known u) h)
  meets_in_of known (ty.Record' n r) h = record_meets known n r (meets_parts_of known _ r) (both_false (all_apart known (row_pieces r)) (parts_rows_are_apart known r) h)
  meets_in_of known (ty.Form' n r) h = form_meets known n r (meets_parts_of known _ r) (both_false (all_apart known (row_pieces r)) (parts_rows_are_apart known r) h)
  meets_in_of known _ h = absurd (true≢false h)

  meets_parts_of : (known : Assumptions) (n : Count) (r : Row_of-Part n) → parts_rows_are_apart known r ≡ false → (a : List RowPart) × (b : List RowPart) × MeetsParts known n r a b
  meets_parts_of known _ end h = absurd (true≢false h)
  meets_parts_of known _ (more p rest) h = further_meets known p _ rest (meets_part_of known p) (meets_parts_of known _ rest) (both_false (part_rows_are_apart known p) (parts_rows_are_apart known rest) h)

  pub meets_part_of : (known : Assumptions) (p : RowPart) → part_rows_are_apart known p ≡ false → (a : List RowPart) × (b : List RowPart) × MeetsPart known p a b
  meets_part_of known (part.Field' l _ (the t sole)) h = let m : (a : List RowPart) × (b : List RowPart) × MeetsIn known t a b = meets_in_of known t h in (m.0, m.1, in_field_type m.2)
  meets_part_of known (part.Piece v) h = absurd (true≢false h)
  meets_part_of known (part.Mapped' v _ (the t sole)) h = let m : (a : List RowPart) × (b : List RowPart) × MeetsIn known t a b = meets_in_of known t h in (m.0, m.1, in_mapped m.2)

pub row_meets_of : (known : Assumptions) (r : List RowPart) → (are_apart known r && row_rows_are_apart known r) ≡ false → (a : List RowPart) × (b : List RowPart) × MeetsRow known r a b
row_meets_of known r h = elim (both_false (are_apart known r) (row_rows_are_apart known r) h) [
  | inl x ↦ let m : (a : List RowPart) × (b : List RowPart) × Meets known r a b = meets_of known r x in (m.0, m.1, of_row m.2)
  | inr y ↦
      let p : (q : RowPart) × In q r × (part_rows_are_apart known q ≡ false) = not_all_is (part_rows_are_apart known) r y in
      let m : (a : List RowPart) × (b : List RowPart) × MeetsPart known p.0 a b = meets_part_of known p.0 p.2 in
      (m.0, m.1, in_row_part (contains-in p.0 r p.1) m.2)
]

pub con_meets_of : (env : Env) (c : Normal) → con_rows_are_apart env c ≡ false → (a : List RowPart) × (b : List RowPart) × MeetsCon env.known c a b
con_meets_of env (normal.Type t) h = let m : (a : List RowPart) × (b : List RowPart) × MeetsIn env.known t a b = meets_in_of env.known t h in (m.0, m.1, in_type m.2)
con_meets_of env (normal.Row r) h = let m : (a : List RowPart) × (b : List RowPart) × MeetsRow env.known r a b = row_meets_of env.known r h in (m.0, m.1, in_row m.2)
con_meets_of env _ h = absurd (true≢false h)

pub kinds_faulty : (env : Env) (args : List Normal) (ks : List Kind) → have_kinds env args ks ≡ false → (c : Fault) × BreaksKinds env args ks c
kinds_faulty env [] [] h = absurd (true≢false h)
kinds_faulty env [] (k ∷ ks) h = (_, arguments.con_lacks)
kinds_faulty env (a ∷ args) [] h = (_, arguments.con_exceeds)
kinds_faulty env (a ∷ args) (k ∷ ks) h = elim (both_false (is_of_kind (variables env) a k) (con_rows_are_apart env a && (con_is_plain a && have_kinds env args ks)) h) [
  | inl x ↦ (_, arguments.con_other_kind x)
  | inr y ↦ elim (both_false (con_rows_are_apart env a) (con_is_plain a && have_kinds env args ks) y) [
    | inl z ↦ let m : (r : List RowPart) × (t : List RowPart) × MeetsCon env.known a r t = con_meets_of env a z in (_, arguments.con_meets m.2)
    | inr u ↦ elim (both_false (con_is_plain a) (have_kinds env args ks) u) [
      | inl p ↦ (_, arguments.con_not_plain p)
      | inr q ↦ let r : (c : Fault) × BreaksKinds env args ks c = kinds_faulty env args ks q in (r.0, arguments.con_later r.1)
    ]
  ]
]

pub unmet_of : (known : Assumptions) (args : List Normal) (wanted : Assumptions) → list_all (λ p. is_apart known (instance_row args p.0) (instance_row args p.1)) wanted ≡ false → (a : List RowPart) × (b : List RowPart) × IsUnmet known args wanted a b
unmet_of known args [] h = absurd (true≢false h)
unmet_of known args ((r, t) ∷ others) h = elim (both_false (is_apart known (instance_row args r) (instance_row args t)) (list_all (λ p. is_apart known (instance_row args p.0) (instance_row args p.1)) others) h) [
  | inl x ↦ (_, _, this_pair x)
  | inr y ↦ let m : (a : List RowPart) × (b : List RowPart) × IsUnmet known args others a b = unmet_of known args others y in (m.0, m.1, later_pair m.2)
]
