-- The tests of rows, of types and of constructor arguments.
use Rattle.std.proofs.Common.{inl, inr, ◌≡◌, refl, ap, ap₂, sym, ◌∙◌, subst, ℕ, Bool, true, false, ◌&&◌, ◌↔◌, IsTrue, List, [], ◌∷◌, map, Contains, bytes_eq, true≢false}
use Rattle.std.proofs.lemmas.Slice.Eq.{bytes_eq-Decides}
use Rattle.std.specs.List.{list_all}
use mathlib.Core.Former.{Count}
use Rattle.ur_syntax.specs.declared.kind.Kind.{Kind}
use Rattle.ur_rows.specs.declared.normal.Normal.{Normal}
use Rattle.ur_rows.specs.declared.normal.Normal.TheVariants as normal
use Rattle.ur_rows.specs.declared.normal.NormalType.{NormalType}
use Rattle.ur_rows.specs.declared.normal.NormalType.TheVariants as ty
use Rattle.ur_rows.specs.declared.normal.NormalType.TheBlock.{Row_of-NormalType, end_of-NormalType as alone, more_of-NormalType as its, Row_of-Part, end_of-Part as end, more_of-Part as more}
use Rattle.ur_rows.specs.declared.normal.Part.{Part}
use Rattle.ur_rows.specs.declared.normal.Part.TheVariants as part
use Rattle.ur_rows.specs.Apart.{Assumptions, Piece, pieces, ApartPieces, Apart, AreApart}
use Rattle.ur_rows.specs.Kinded.{type_is_in, row_is_in, is_of_kind}
use Rattle.ur_rows.specs.Order.{type_form}
use Rattle.ur_rows.specs.Put.{instance_row}
use Rattle.ur_rows.proofs.Order.{type-one}
use Rattle.ur_disjoint.specs.declared.rows.Assumed.{Assumed}
use Rattle.ur_disjoint.specs.Tests.{pair}
use Rattle.ur_disjoint.proofs.Decided.{is_apart-decides, tested-apart, apart-tested}
use Rattle.ur_disjoint.proofs.Members.{In, in-contains, contains-in}
use Rattle.ur_tree.specs.declared.typed.ConParam.{ConParam}
use Rattle.ur_tree.specs.Env.{Env, variables, row_pieces, HasApartRows, BoxedHasApartRows, PartsHaveApartRows, PartHasApartRows, RowHasApartRows, IsType, IsRow, con_is_apart, con_is_plain, kinds_of, rows_apart, HaveKinds, none, one, AreArguments}
use Rattle.ur_typed_rules.specs.Tests.{same_type, assumed, are_pieces_apart, is_apart, all_apart, are_apart, rows_are_apart, boxed_rows_are_apart, parts_rows_are_apart, part_rows_are_apart, row_rows_are_apart, is_type, is_row, con_rows_are_apart, have_kinds, obligations_met, are_arguments}
use Rattle.ur_typed_rules.proofs.Lists.{both_of, of_both, pairs_of_test, test_of_pairs}

-- ---- types

pub told : (t u : NormalType) → IsTrue (same_type t u) ↔ (t ≡ u)
told t u = (
  λ h. (type-one t u [] [] ((bytes_eq-Decides (type_form t []) (type_form u [])).0 h)).0,
  λ h. (bytes_eq-Decides (type_form t []) (type_form u [])).1 (ap (λ z. type_form z []) h),
)

-- ---- rows that are apart

same_known : (known : Assumptions) → map pair (map assumed known) ≡ known
same_known [] = refl
same_known (a ∷ known) = ap (λ z. a ∷ z) (same_known known)

pub two_rows : (known : Assumptions) (r s : List Part) → IsTrue (is_apart known r s) ↔ Apart known r s
two_rows known r s = subst (λ z. IsTrue (is_apart known r s) ↔ Apart z r s) (same_known known) (is_apart-decides (map assumed known) r s (is_apart known r s) refl)

piece_of_test : (known : Assumptions) (p q : Piece) → are_pieces_apart known p q ≡ true → ApartPieces known p q
piece_of_test known p q h = subst (λ z. ApartPieces z p q) (same_known known) (tested-apart (map assumed known) p q h)

test_of_piece : (known : Assumptions) (p q : Piece) → ApartPieces known p q → are_pieces_apart known p q ≡ true
test_of_piece known p q h = apart-tested (map assumed known) p q (subst (λ z. ApartPieces z p q) (sym (same_known known)) h)

pub one_row : (known : Assumptions) (r : List Part) → IsTrue (are_apart known r) ↔ AreApart known r
one_row known r = (
  pairs_of_test (are_pieces_apart known) (ApartPieces known) (piece_of_test known) (pieces r),
  test_of_pairs (are_pieces_apart known) (ApartPieces known) (test_of_piece known) (pieces r),
)

mutual
  pub rows_of_test : (known : Assumptions) (t : NormalType) → rows_are_apart known t ≡ true → HasApartRows known t
  rows_of_test known (ty.Opt' _ t) h = boxed_of_test known _ t h
  rows_of_test known (ty.Many' _ t) h = boxed_of_test known _ t h
  rows_of_test known (ty.Transaction' _ t) h = boxed_of_test known _ t h
  rows_of_test known (ty.Arrow' _ a _ b) h = let k : (boxed_rows_are_apart known a ≡ true) × (boxed_rows_are_apart known b ≡ true) = both_of (boxed_rows_are_apart known a) (boxed_rows_are_apart known b) h in
      (boxed_of_test known _ a k.0, boxed_of_test known _ b k.1)
  rows_of_test known (ty.Record' _ r) h = let k : (all_apart known (row_pieces r) ≡ true) × (parts_rows_are_apart known r ≡ true) = both_of (all_apart known (row_pieces r)) (parts_rows_are_apart known r) h in
      (pairs_of_test (are_pieces_apart known) (ApartPieces known) (piece_of_test known) (row_pieces r) k.0, parts_of_test known _ r k.1)
  rows_of_test known (ty.Form' _ r) h = let k : (all_apart known (row_pieces r) ≡ true) × (parts_rows_are_apart known r ≡ true) = both_of (all_apart known (row_pieces r)) (parts_rows_are_apart known r) h in
      (pairs_of_test (are_pieces_apart known) (ApartPieces known) (piece_of_test known) (row_pieces r) k.0, parts_of_test known _ r k.1)
  rows_of_test known _ h = tt

  boxed_of_test : (known : Assumptions) (n : Count) (t : Row_of-NormalType n) → boxed_rows_are_apart known t ≡ true → BoxedHasApartRows known t
  boxed_of_test known _ alone h = tt
  boxed_of_test known _ (its t rest) h = rows_of_test known t h

  parts_of_test : (known : Assumptions) (n : Count) (r : Row_of-Part n) → parts_rows_are_apart known r ≡ true → PartsHaveApartRows known r
  parts_of_test known _ end h = tt
  parts_of_test known _ (more p rest) h = let k : (part_rows_are_apart known p ≡ true) × (parts_rows_are_apart known rest ≡ true) = both_of (part_rows_are_apart known p) (parts_rows_are_apart known rest) h in
      (part_of_test known p k.0, parts_of_test known _ rest k.1)

  pub part_of_test : (known : Assumptions) (p : Part) → part_rows_are_apart known p ≡ true → PartHasApartRows known p
  part_of_test known (part.Field' l _ t) h = boxed_of_test known _ t h
  part_of_test known (part.Piece v) h = tt
  part_of_test known (part.Mapped' v _ f) h = boxed_of_test known _ f h

mutual
  pub test_of_rows : (known : Assumptions) (t : NormalType) → HasApartRows known t → rows_are_apart known t ≡ true
  test_of_rows known (ty.Opt' _ t) h = test_of_boxed known _ t h
  test_of_rows known (ty.Many' _ t) h = test_of_boxed known _ t h
  test_of_rows known (ty.Transaction' _ t) h = test_of_boxed known _ t h
  test_of_rows known (ty.Arrow' _ a _ b) h = of_both (boxed_rows_are_apart known a) (boxed_rows_are_apart known b) (test_of_boxed known _ a h.0) (test_of_boxed known _ b h.1)
  test_of_rows known (ty.Record' _ r) h = of_both (all_apart known (row_pieces r)) (parts_rows_are_apart known r)
      (test_of_pairs (are_pieces_apart known) (ApartPieces known) (test_of_piece known) (row_pieces r) h.0) (test_of_parts known _ r h.1)
  test_of_rows known (ty.Form' _ r) h = of_both (all_apart known (row_pieces r)) (parts_rows_are_apart known r)
      (test_of_pairs (are_pieces_apart known) (ApartPieces known) (test_of_piece known) (row_pieces r) h.0) (test_of_parts known _ r h.1)
  test_of_rows known _ h = refl

  test_of_boxed : (known : Assumptions) (n : Count) (t : Row_of-NormalType n) → BoxedHasApartRows known t → boxed_rows_are_apart known t ≡ true
  test_of_boxed known _ alone h = refl
  test_of_boxed known _ (its t rest) h = test_of_rows known t h

  test_of_parts : (known : Assumptions) (n : Count) (r : Row_of-Part n) → PartsHaveApartRows known r → parts_rows_are_apart known r ≡ true
  test_of_parts known _ end h = refl
  test_of_parts known _ (more p rest) h = of_both (part_rows_are_apart known p) (parts_rows_are_apart known rest) (test_of_part known p h.0) (test_of_parts known _ rest h.1)

  pub test_of_part : (known : Assumptions) (p : Part) → PartHasApartRows known p → part_rows_are_apart known p ≡ true
  test_of_part known (part.Field' l _ t) h = test_of_boxed known _ t h
  test_of_part known (part.Piece v) h = refl
  test_of_part known (part.Mapped' v _ f) h = test_of_boxed known _ f h

within_of_test : (known : Assumptions) (r : List Part) → row_rows_are_apart known r ≡ true → RowHasApartRows known r
within_of_test known [] h = tt
within_of_test known (p ∷ r) h = let k : (part_rows_are_apart known p ≡ true) × (row_rows_are_apart known r ≡ true) = both_of (part_rows_are_apart known p) (row_rows_are_apart known r) h in (part_of_test known p k.0, within_of_test known r k.1)

test_of_within : (known : Assumptions) (r : List Part) → RowHasApartRows known r → row_rows_are_apart known r ≡ true
test_of_within known [] h = refl
test_of_within known (p ∷ r) h = of_both (part_rows_are_apart known p) (row_rows_are_apart known r) (test_of_part known p h.0) (test_of_within known r h.1)

-- ---- written types and rows

pub type_decided : (env : Env) (t : NormalType) → IsTrue (is_type env t) ↔ IsType env t
type_decided env t = (
  λ h. let k : (type_is_in (variables env) t ≡ true) × (rows_are_apart env.known t ≡ true) = both_of (type_is_in (variables env) t) (rows_are_apart env.known t) h in record { kinded = k.0; apart = rows_of_test env.known t k.1 },
  λ h. of_both (type_is_in (variables env) t) (rows_are_apart env.known t) h.kinded (test_of_rows env.known t h.apart),
)

pub row_decided : (env : Env) (r : List Part) → IsTrue (is_row env r) ↔ IsRow env r
row_decided env r = (
  λ h. let k : (row_is_in (variables env) r ≡ true) × ((are_apart env.known r && row_rows_are_apart env.known r) ≡ true) = both_of (row_is_in (variables env) r) (are_apart env.known r && row_rows_are_apart env.known r) h in
      let m : (are_apart env.known r ≡ true) × (row_rows_are_apart env.known r ≡ true) = both_of (are_apart env.known r) (row_rows_are_apart env.known r) k.1 in
      record { kinded = k.0; apart = (one_row env.known r).0 m.0; within = within_of_test env.known r m.1 },
  λ h. of_both (row_is_in (variables env) r) (are_apart env.known r && row_rows_are_apart env.known r) h.kinded
      (of_both (are_apart env.known r) (row_rows_are_apart env.known r) ((one_row env.known r).1 h.apart) (test_of_within env.known r h.within)),
)

-- ---- constructor arguments

con_of_test : (env : Env) (a : Normal) → con_rows_are_apart env a ≡ true → con_is_apart env a
con_of_test env (normal.Type t) h = rows_of_test env.known t h
con_of_test env (normal.Row r) h = let m : (are_apart env.known r ≡ true) × (row_rows_are_apart env.known r ≡ true) = both_of (are_apart env.known r) (row_rows_are_apart env.known r) h in
    ((one_row env.known r).0 m.0, within_of_test env.known r m.1)
con_of_test env (normal.Name l) h = tt
con_of_test env (normal.Fn' k _ f) h = tt

test_of_con : (env : Env) (a : Normal) → con_is_apart env a → con_rows_are_apart env a ≡ true
test_of_con env (normal.Type t) h = test_of_rows env.known t h
test_of_con env (normal.Row r) h = of_both (are_apart env.known r) (row_rows_are_apart env.known r) ((one_row env.known r).1 h.0) (test_of_within env.known r h.1)
test_of_con env (normal.Name l) h = refl
test_of_con env (normal.Fn' k _ f) h = refl

kinds_of_test : (env : Env) (args : List Normal) (ks : List Kind) → have_kinds env args ks ≡ true → HaveKinds env args ks
kinds_of_test env [] [] h = none
kinds_of_test env [] (k ∷ ks) h = absurd (true≢false (sym h))
kinds_of_test env (a ∷ args) [] h = absurd (true≢false (sym h))
kinds_of_test env (a ∷ args) (k ∷ ks) h =
    let x : (is_of_kind (variables env) a k ≡ true) × ((con_rows_are_apart env a && (con_is_plain a && have_kinds env args ks)) ≡ true) = both_of (is_of_kind (variables env) a k) (con_rows_are_apart env a && (con_is_plain a && have_kinds env args ks)) h in
    let y : (con_rows_are_apart env a ≡ true) × ((con_is_plain a && have_kinds env args ks) ≡ true) = both_of (con_rows_are_apart env a) (con_is_plain a && have_kinds env args ks) x.1 in
    let z : (con_is_plain a ≡ true) × (have_kinds env args ks ≡ true) = both_of (con_is_plain a) (have_kinds env args ks) y.1 in
    one x.0 (con_of_test env a y.0) z.0 (kinds_of_test env args ks z.1)

test_of_kinds : (env : Env) (args : List Normal) (ks : List Kind) → HaveKinds env args ks → have_kinds env args ks ≡ true
test_of_kinds env _ _ none = refl
test_of_kinds env _ _ (one {a = a} {k = k} {args = args} {kinds = ks} x y z rest) =
    of_both (is_of_kind (variables env) a k) (con_rows_are_apart env a && (con_is_plain a && have_kinds env args ks)) x
    (of_both (con_rows_are_apart env a) (con_is_plain a && have_kinds env args ks) (test_of_con env a y) (of_both (con_is_plain a) (have_kinds env args ks) z (test_of_kinds env args ks rest)))

abbrev Met : Env → List Normal → Assumptions → Type 0
Met env args wanted = (p : List Part × List Part) → In p wanted → Apart env.known (instance_row args p.0) (instance_row args p.1)

met_at : (env : Env) (args : List Normal) (q : List Part × List Part) (wanted : Assumptions) (p : List Part × List Part) → is_apart env.known (instance_row args q.0) (instance_row args q.1) ≡ true →
    (In p wanted → Apart env.known (instance_row args p.0) (instance_row args p.1)) → In p (q ∷ wanted) → Apart env.known (instance_row args p.0) (instance_row args p.1)
met_at env args q wanted p k rest (inl e) = subst (λ z. Apart env.known (instance_row args z.0) (instance_row args z.1)) e ((two_rows env.known (instance_row args q.0) (instance_row args q.1)).0 k)
met_at env args q wanted p k rest (inr j) = rest j

met_of_test : (env : Env) (args : List Normal) (wanted : Assumptions) → obligations_met env args wanted ≡ true → Met env args wanted
met_of_test env args [] h p i = absurd i
met_of_test env args (q ∷ wanted) h p i =
    let k : (is_apart env.known (instance_row args q.0) (instance_row args q.1) ≡ true) × (obligations_met env args wanted ≡ true) = both_of (is_apart env.known (instance_row args q.0) (instance_row args q.1)) (obligations_met env args wanted) h in
    met_at env args q wanted p k.0 (met_of_test env args wanted k.1 p) i

test_of_met : (env : Env) (args : List Normal) (wanted : Assumptions) → Met env args wanted → obligations_met env args wanted ≡ true
test_of_met env args [] h = refl
test_of_met env args (q ∷ wanted) h = of_both (is_apart env.known (instance_row args q.0) (instance_row args q.1)) (obligations_met env args wanted)
    ((two_rows env.known (instance_row args q.0) (instance_row args q.1)).1 (h q (inl refl))) (test_of_met env args wanted (λ p i. h p (inr i)))

pub arguments_decided : (env : Env) (cons : List ConParam) (args : List Normal) → IsTrue (are_arguments env cons args) ↔ AreArguments env cons args
arguments_decided env cons args = (
  λ h. let k : (have_kinds env args (kinds_of cons) ≡ true) × (obligations_met env args (rows_apart cons) ≡ true) = both_of (have_kinds env args (kinds_of cons)) (obligations_met env args (rows_apart cons)) h in record {
    kinded = kinds_of_test env args (kinds_of cons) k.0;
    apart = λ r s c. met_of_test env args (rows_apart cons) k.1 (r, s) (in-contains (r, s) (rows_apart cons) c);
  },
  λ h. of_both (have_kinds env args (kinds_of cons)) (obligations_met env args (rows_apart cons)) (test_of_kinds env args (kinds_of cons) h.kinded)
      (test_of_met env args (rows_apart cons) (λ p i. h.apart p.0 p.1 (contains-in (p.0, p.1) (rows_apart cons) i))),
)
