-- Rows that meet are not apart, and what holds such a row may not be written.
use Rattle.std.proofs.Common.{◌≡◌, ◌∙◌, refl, sym, ap, Bool, true, false, List, [], ◌∷◌, map}
use Rattle.std.specs.Prelude.{◌&&◌}
use Rattle.std.specs.List.{list_all}
use mathlib.Core.Former.{Count}
use Rattle.ur_syntax.specs.declared.kind.Kind.{Kind}
use Rattle.ur_rows.specs.declared.normal.Normal.{Normal}
use Rattle.ur_rows.specs.declared.normal.NormalType.{NormalType}
use Rattle.ur_rows.specs.declared.normal.NormalType.TheBlock.{Row_of-Part, end_of-Part as end, more_of-Part as more}
use Rattle.ur_rows.specs.declared.normal.Part.{Part as RowPart}
use Rattle.ur_rows.specs.Apart.{Assumptions, Piece, piece_of, pieces}
use Rattle.ur_rows.specs.Kinded.{is_of_kind}
use Rattle.ur_rows.specs.Made.{parts}
use Rattle.ur_disjoint.specs.Tests.{apart_from}
use Rattle.ur_disjoint.proofs.Members.{in-contains}
use Rattle.ur_tree.specs.Env.{Env, variables, row_pieces, con_is_plain}
use Rattle.ur_typed_rules.specs.Tests.{assumed, are_pieces_apart, all_apart, are_apart, rows_are_apart, parts_rows_are_apart, part_rows_are_apart, row_rows_are_apart, con_rows_are_apart, have_kinds, obligations_met}
use Rattle.ur_typed_rules.specs.Faults.{Fault}
use Rattle.ur_typed_rules.proofs.Options.{and_left, and_right, second_of, third_of, fourth_of, not_all}
use Rattle.ur_typed_rules.specs.Meeting as meeting
use Rattle.ur_typed_rules.specs.Meeting.{Meets, meets_here, meets_behind, MeetsIn, MeetsParts, in_part, in_further_parts, MeetsPart, in_field_type, in_mapped, MeetsRow, of_row, in_row_part, MeetsCon, in_type, in_row}
use Rattle.ur_typed_rules.specs.Arguments as arguments
use Rattle.ur_typed_rules.specs.Arguments.{BreaksKinds, IsUnmet, this_pair, later_pair}

-- the test of a part against the parts behind it
pub apart_from_each : (known : Assumptions) (p : Piece) (r : List RowPart) → apart_from (map assumed known) p r ≡ list_all (are_pieces_apart known p) (pieces r)
apart_from_each known p [] = refl
apart_from_each known p (q ∷ r) = ap (λ z. are_pieces_apart known p (piece_of q) && z) (apart_from_each known p r)

pub and_true : (a : Bool) → (a && true) ≡ a
and_true true = refl
and_true false = refl

pub meets_false : (known : Assumptions) (r a b : List RowPart) → Meets known r a b → are_apart known r ≡ false
meets_false known _ _ _ (meets_here {p = p} {r = r} h) = and_left _ _ (sym (apart_from_each known (piece_of p) r) ∙ (sym (and_true (apart_from (map assumed known) (piece_of p) r)) ∙ h))
meets_false known _ a b (meets_behind {r = r} m) = and_right _ _ (meets_false known r a b m)

pub row_pieces_are : (n : Count) (r : Row_of-Part n) → row_pieces r ≡ pieces (parts r)
row_pieces_are _ end = refl
row_pieces_are _ (more p r) = ap (λ z. piece_of p ∷ z) (row_pieces_are _ r)

row_false : (known : Assumptions) (n : Count) (r : Row_of-Part n) (a b : List RowPart) → Meets known (parts r) a b → all_apart known (row_pieces r) ≡ false
row_false known n r a b m = ap (all_apart known) (row_pieces_are n r) ∙ meets_false known (parts r) a b m

mutual
  pub in_false : (known : Assumptions) (t : NormalType) (a b : List RowPart) → MeetsIn known t a b → rows_are_apart known t ≡ false
  in_false known _ a b (meeting.in_option {t = t} m) = in_false known t a b m
  in_false known _ a b (meeting.in_list {t = t} m) = in_false known t a b m
  in_false known _ a b (meeting.in_transaction {t = t} m) = in_false known t a b m
  in_false known _ a b (meeting.in_argument {t = t} {u = u} m) = and_left (rows_are_apart known t) (rows_are_apart known u) (in_false known t a b m)
  in_false known _ a b (meeting.in_result {t = t} {u = u} m) = and_right (rows_are_apart known t) (rows_are_apart known u) (in_false known u a b m)
  in_false known _ a b (meeting.of_record {r = r} m) = and_left (all_apart known (row_pieces r)) (parts_rows_are_apart known r) (row_false known _ r a b m)
  in_false known _ a b (meeting.of_form {r = r} m) = and_left (all_apart known (row_pieces r)) (parts_rows_are_apart known r) (row_false known _ r a b m)
  in_false known _ a b (meeting.in_record_parts {r = r} m) = and_right (all_apart known (row_pieces r)) (parts_rows_are_apart known r) (parts_false known _ r a b m)
  in_false known _ a b (meeting.in_form_parts {r = r} m) = and_right (all_apart known (row_pieces r)) (parts_rows_are_apart known r) (parts_false known _ r a b m)

  parts_false : (known : Assumptions) (n : Count) (r : Row_of-Part n) (a b : List RowPart) → MeetsParts known n r a b → parts_rows_are_apart known r ≡ false
  parts_false known _ _ a b (in_part {p = p} {rest = rest} m) = and_left (part_rows_are_apart known p) (parts_rows_are_apart known rest) (part_false known p a b m)
  parts_false known _ _ a b (in_further_parts {p = p} {rest = rest} m) = and_right (part_rows_are_apart known p) (parts_rows_are_apart known rest) (parts_false known _ rest a b m)

  pub part_false : (known : Assumptions) (p : RowPart) (a b : List RowPart) → MeetsPart known p a b → part_rows_are_apart known p ≡ false
  part_false known _ a b (in_field_type {t = t} m) = in_false known t a b m
  part_false known _ a b (in_mapped {t = t} m) = in_false known t a b m

pub row_meets_false : (known : Assumptions) (r a b : List RowPart) → MeetsRow known r a b → (are_apart known r && row_rows_are_apart known r) ≡ false
row_meets_false known r a b (of_row m) = and_left (are_apart known r) (row_rows_are_apart known r) (meets_false known r a b m)
row_meets_false known r a b (in_row_part {p = p} c m) = and_right (are_apart known r) (row_rows_are_apart known r) (not_all (part_rows_are_apart known) p r (in-contains p r c) (part_false known p a b m))

pub con_false : (env : Env) (c : Normal) (a b : List RowPart) → MeetsCon env.known c a b → con_rows_are_apart env c ≡ false
con_false env _ a b (in_type {t = t} m) = in_false env.known t a b m
con_false env _ a b (in_row {r = r} m) = row_meets_false env.known r a b m

pub kinds_false : (env : Env) (args : List Normal) (ks : List Kind) (c : Fault) → BreaksKinds env args ks c → have_kinds env args ks ≡ false
kinds_false env _ _ _ arguments.con_lacks = refl
kinds_false env _ _ _ arguments.con_exceeds = refl
kinds_false env _ _ _ (arguments.con_other_kind {a = a} {args = args} {k = k} {ks = ks} h) = and_left (is_of_kind (variables env) a k) (con_rows_are_apart env a && (con_is_plain a && have_kinds env args ks)) h
kinds_false env _ _ _ (arguments.con_meets {a = a} {args = args} {k = k} {ks = ks} {r = r} {t = t} m) = second_of (is_of_kind (variables env) a k) (con_rows_are_apart env a) (con_is_plain a && have_kinds env args ks) (con_false env a r t m)
kinds_false env _ _ _ (arguments.con_not_plain {a = a} {args = args} {k = k} {ks = ks} h) = third_of (is_of_kind (variables env) a k) (con_rows_are_apart env a) (con_is_plain a) (have_kinds env args ks) h
kinds_false env _ _ c (arguments.con_later {a = a} {args = args} {k = k} {ks = ks} r) = fourth_of (is_of_kind (variables env) a k) (con_rows_are_apart env a) (con_is_plain a) (have_kinds env args ks) (kinds_false env args ks c r)

pub unmet_false : (env : Env) (args : List Normal) (wanted : Assumptions) (a b : List RowPart) → IsUnmet env.known args wanted a b → obligations_met env args wanted ≡ false
unmet_false env args _ _ _ (this_pair h) = and_left _ _ h
unmet_false env args _ a b (later_pair {more = others} r) = and_right _ _ (unmet_false env args others a b r)
