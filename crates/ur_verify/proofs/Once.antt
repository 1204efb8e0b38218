-- A term has at most one type.
use Rattle.std.proofs.Common.{◌≡◌, true, List, [], ◌∷◌, ◌++◌, drop, Option, Some, None, refl, sym, ap, ◌∙◌, subst, arith}
use Rattle.std.specs.Prelude.{map, Contains}
use Rattle.ur_values.specs.declared.value.Tag.{Tag}
use Rattle.ur_values.specs.declared.types.ValueType.{ValueType}
use Rattle.ur_values.specs.declared.types.ValueType.TheVariants as ty
use Rattle.ur_terms.specs.declared.term.Op.{Op}
use Rattle.ur_terms.specs.declared.term.Op.TheVariants as op
use Rattle.ur_terms.specs.declared.term.Pattern.{Pattern}
use Rattle.ur_terms.specs.declared.term.Pattern.TheVariants as p
use Rattle.ur_terms.specs.declared.term.Term.{Term, Row_of-Term, end_of-Term, more_of-Term, Row_of-Branch, end_of-Branch, more_of-Branch}
use Rattle.ur_terms.specs.declared.term.Term.TheVariants as t
use Rattle.ur_terms.specs.Values.{field_at, without_field, fields_together}
use Rattle.ur_terms.specs.Types.{Signature, typed_field, record_type, form_type, answer_type, args_of, OpType, Holds, holds_bodies, holds_fields, ElementStands, of_its_own, as_its_parts, Binds, Cover, by_any, by_bool, by_option, by_list, by_datatype, patterns_of, HasType, OneHasType, HaveTypes, BranchesHave}
use Rattle.ur_verify_operations.specs.declared.markup.Place.{Place}
use Rattle.ur_verify_operations.specs.declared.markup.Place.TheVariants as place
use Rattle.ur_verify_operations.specs.Parts.{place_in}
use Rattle.ur_verify_operations.proofs.FieldTypes.{Pairs, pairs, repaired}
use Rattle.ur_verify_operations.proofs.Flows.{flow_from}
use Rattle.ur_verify_operations.proofs.Table.{OfPlace, place_stands, flow_place, same_one, same_two}
use Rattle.ur_verify_operations.proofs.SameTypes.{many_same, option_same, record_same}
use Rattle.ur_verify.specs.Laws.{TypesAreUnique}

some_same : {A : Type 0} {x y : A} → Some x ≡ Some y → x ≡ y
some_same e = cc

first_same : {A B : Type 0} (a c : A) (b d : B) → ◌≡◌ {A = Option (A × B)} (Some (a, b)) (Some (c, d)) → a ≡ c
first_same {A} {B} a c b d e = let same : ◌≡◌ {A = A × B} (a, b) (c, d) = some_same e in ap (λ p. p.0) same

second_same : {A B : Type 0} (a c : A) (b d : B) → ◌≡◌ {A = Option (A × B)} (Some (a, b)) (Some (c, d)) → b ≡ d
second_same {A} {B} a c b d e = let same : ◌≡◌ {A = A × B} (a, b) (c, d) = some_same e in ap (λ p. p.1) same

pairs_same : (fs gs : Pairs) → record_type fs ≡ record_type gs → fs ≡ gs
pairs_same fs gs e = sym (repaired fs) ∙ ap pairs (record_same (map typed_field fs) (map typed_field gs) e) ∙ repaired gs

one_some : {A : Type 0} (o : Option A) (x y : A) → o ≡ Some x → o ≡ Some y → x ≡ y
one_some o x y e f = some_same (sym e ∙ f)

-- ---- XML

holds_once : (ts : List ValueType) (r s : ValueType) → Holds ts r → Holds ts s → r ≡ s
holds_once ts _ _ (holds_bodies all) (holds_bodies bll) = refl
holds_once ts _ _ (holds_bodies all) (holds_fields gs some m) = absurd (some all)
holds_once ts _ _ (holds_fields fs some m) (holds_bodies all) = absurd (some all)
holds_once ts _ _ (holds_fields fs some m) (holds_fields gs other n) =
    ap (λ hs. ty.Form hs) (one_some _ _ _ (flow_from ts (form_type fs) m (map typed_field fs) refl) (flow_from ts (form_type gs) n (map typed_field gs) refl))

placed_once : (q : Place) (r w s x : ValueType) → OfPlace q r w → OfPlace q s x → r ≡ s
placed_once (place.Own a b) r w s x h k = h.0 ∙ sym k.0
placed_once place.AroundForm r w s x h k = h.0 ∙ sym k.0
placed_once place.InFlow r w s x h k = absurd h

stands_once : (g : Tag) (ts : List ValueType) (r s : ValueType) → ElementStands g ts r → ElementStands g ts s → r ≡ s
stands_once g ts r s (of_its_own w st m) (of_its_own x su n) = placed_once (place_in g) r w s x (place_stands g r w st) (place_stands g s x su)
stands_once g ts r s (of_its_own w st m) (as_its_parts f h) = absurd (subst (λ q. OfPlace q r w) (flow_place g f) (place_stands g r w st))
stands_once g ts r s (as_its_parts f h) (of_its_own x su n) = absurd (subst (λ q. OfPlace q s x) (flow_place g f) (place_stands g s x su))
stands_once g ts r s (as_its_parts f h) (as_its_parts e k) = holds_once ts r s h k

-- ---- operations and patterns

module _ (sig : Signature) where
  pub op_once : (o : Op) (ts : List ValueType) (r s : ValueType) → OpType sig o ts r → OpType sig o ts s → r ≡ s
  op_once op.Add ts r s (_, e) (_, f) = e ∙ sym f
  op_once op.Sub ts r s (_, e) (_, f) = e ∙ sym f
  op_once op.Mul ts r s (_, e) (_, f) = e ∙ sym f
  op_once op.Div ts r s (_, e) (_, f) = e ∙ sym f
  op_once op.Rem ts r s (_, e) (_, f) = e ∙ sym f
  op_once op.Neg ts r s (_, e) (_, f) = e ∙ sym f
  op_once op.Append ts r s (_, e) (_, f) = e ∙ sym f
  op_once op.Not ts r s (_, e) (_, f) = e ∙ sym f
  op_once op.Equal ts r s (_, _, _, e) (_, _, _, f) = e ∙ sym f
  op_once op.Unequal ts r s (_, _, _, e) (_, _, _, f) = e ∙ sym f
  op_once op.Less ts r s (_, _, _, e) (_, _, _, f) = e ∙ sym f
  op_once op.LessEqual ts r s (_, _, _, e) (_, _, _, f) = e ∙ sym f
  op_once op.Greater ts r s (_, _, _, e) (_, _, _, f) = e ∙ sym f
  op_once op.GreaterEqual ts r s (_, _, _, e) (_, _, _, f) = e ∙ sym f
  op_once op.Show ts r s (_, _, _, e) (_, _, _, f) = e ∙ sym f
  op_once (op.Record ns) ts r s (fs, is, _, e) (gs, js, _, f) = e ∙ ap record_type (some_same (sym is ∙ js)) ∙ sym f
  op_once (op.Project n) ts r s (fs, is, at) (gs, js, bt) =
      some_same (sym at ∙ ap (field_at n) (pairs_same fs gs (same_one (sym is ∙ js))) ∙ bt)
  op_once op.Join ts r s (fs, gs, is, _, e) (ks, ls, js, _, f) =
      let same = same_two (sym is ∙ js) in
      e ∙ ap (λ x. record_type (fields_together x gs)) (pairs_same fs ks same.0) ∙ ap (λ x. record_type (fields_together ks x)) (pairs_same gs ls same.1) ∙ sym f
  op_once (op.Cut n) ts r s (fs, a, is, _, e) (gs, b, js, _, f) =
      e ∙ ap (λ x. record_type (without_field n x)) (pairs_same fs gs (same_one (sym is ∙ js))) ∙ sym f
  op_once (op.Absent of) ts r s (_, _, _, e) (_, _, _, f) = e ∙ sym f
  op_once op.Present ts r s (a, is, e) (b, js, f) = e ∙ ap (λ x. ty.Opt x) (same_one (sym is ∙ js)) ∙ sym f
  op_once (op.Empty of) ts r s (_, _, _, e) (_, _, _, f) = e ∙ sym f
  op_once op.Cons ts r s (a, is, e) (b, js, f) = e ∙ ap (λ x. ty.Many x) (same_two (sym is ∙ js)).0 ∙ sym f
  op_once (op.Tagged c) [] r s (d, is, e) (d2, js, f) = e ∙ ap (λ x. ty.Datatype x) (first_same d d2 None None (sym is ∙ js)) ∙ sym f
  op_once (op.Tagged c) (a ∷ ts) r s (d, is, _, e) (d2, js, _, f) = e ∙ ap (λ x. ty.Datatype x) (first_same d d2 (Some a) (Some a) (sym is ∙ js)) ∙ sym f
  op_once (op.Fail of) ts r s (_, e) (_, f) = e ∙ sym f
  op_once (op.Markup of) ts r s (_, e) (_, f) = e ∙ sym f
  op_once (op.Text text) ts r s (_, _, e) (_, _, f) = e ∙ sym f
  op_once op.Shown ts r s (_, _, _, e) (_, _, _, f) = e ∙ sym f
  op_once (op.Element tag) ts r s h k = stands_once tag ts r s h k
  op_once (op.Link route k) ts r s (_, _, h) (_, _, j) = holds_once (drop k ts) r s h j
  op_once (op.Input k name text) ts r s (_, _, e) (_, _, f) = e ∙ sym f
  op_once (op.Submit route k unit) ts r s (_, _, _, _, _, e) (_, _, _, _, _, f) = e ∙ sym f
  op_once (op.Ask how site) ts r s (row, is, e) (row2, js, f) = e ∙ ap (answer_type how) (second_same ts ts row row2 (sym is ∙ js)) ∙ sym f
  op_once (op.Write update) ts r s (_, e) (_, f) = e ∙ sym f
  op_once (op.Next q) ts r s (_, _, e) (_, _, f) = e ∙ sym f
  op_once (op.GetCookie c) ts r s (a, _, is, e) (b, _, js, f) = e ∙ ap (λ x. ty.Opt x) (some_same (sym is ∙ js)) ∙ sym f
  op_once (op.SetCookie c) ts r s (_, _, _, e) (_, _, _, f) = e ∙ sym f

  pub binds_once : (q : Pattern) (a : ValueType) (bs cs : List ValueType) → Binds sig q a bs → Binds sig q a cs → bs ≡ cs
  binds_once p.Any a bs cs e f = e ∙ sym f
  binds_once (p.Int i) a bs cs (_, e) (_, f) = e ∙ sym f
  binds_once (p.Str x) a bs cs (_, e) (_, f) = e ∙ sym f
  binds_once (p.Bool x) a bs cs (_, e) (_, f) = e ∙ sym f
  binds_once p.Absent a bs cs (_, _, e) (_, _, f) = e ∙ sym f
  binds_once p.Present a bs cs (b, is, e) (c, js, f) = e ∙ ap (λ x. x ∷ []) (option_same b c (sym is ∙ js)) ∙ sym f
  binds_once p.Empty a bs cs (_, _, e) (_, _, f) = e ∙ sym f
  binds_once p.Cons a bs cs (b, is, e) (c, js, f) = e ∙ ap (λ x. x ∷ a ∷ []) (many_same b c (sym is ∙ js)) ∙ sym f
  binds_once (p.Tagged c) a bs cs (d, x, is, _, e) (d2, y, js, _, f) = e ∙ ap args_of (second_same d d2 x y (sym is ∙ js)) ∙ sym f

  none_in : {A : Type 0} (q : Pattern) → Contains [] q → A
  none_in q (k, lt, _) = absurd (omega (arith, lt))

  pub no_cover : {A : Type 0} (a : ValueType) → Cover sig [] a → A
  no_cover _ (by_any _ h) = none_in p.Any h
  no_cover _ (by_bool h k) = none_in (p.Bool true) h
  no_cover _ (by_option _ h k) = none_in p.Absent h
  no_cover _ (by_list _ h k) = none_in p.Empty h
  no_cover _ (by_datatype d some all) = absurd (some refl)

  -- ---- terms

  mutual
    pub one_type : (env : List ValueType) (a : Term) (r s : ValueType) → HasType sig env a r → HasType sig env a s → r ≡ s
    one_type env (t.Variable i) r s e f = some_same (sym e ∙ f)
    one_type env (t.Int i) r s (e, _) (f, _) = e ∙ sym f
    one_type env (t.Str x) r s (e, _) (f, _) = e ∙ sym f
    one_type env (t.Bool b) r s e f = e ∙ sym f
    one_type env (t.Make' o _ args) r s (ts, hs, h) (us, ks, k) =
        op_once o us r s (subst (λ xs. OpType sig o xs r) (all_once env args ts us hs ks) h) k
    one_type env (t.Call' g _ args) r s (ts, hs, h) (us, ks, k) =
        second_same ts us r s (sym h ∙ k)
    one_type env (t.Let' _ args _ body) r s (ts, hs, h) (us, ks, k) =
        one_one (us ++ env) body r s (subst (λ xs. OneHasType sig (xs ++ env) body r) (all_once env args ts us hs ks) h) k
    one_type env (t.If' _ x _ a _ b) r s (_, h, _) (_, k, _) = one_one env a r s h k
    one_type env (t.Case' _ x _ branches) r s (a, hx, hs, cover) (b, kx, ks, dover) =
        branches_once env b branches r s dover (subst (λ z. BranchesHave sig env z branches r) (one_one env x a b hx kx) hs) ks
    one_type env (t.Each' _ rows _ body) r s (a, hr, h, _) (b, kr, k, _) =
        one_one (b ∷ env) body r s (subst (λ z. OneHasType sig (z ∷ env) body r) (many_same a b (one_one env rows (ty.Many a) (ty.Many b) hr kr)) h) k

    one_one : (env : List ValueType) {m : _} (row : Row_of-Term m) (r s : ValueType) → OneHasType sig env row r → OneHasType sig env row s → r ≡ s
    one_one env end_of-Term r s h k = absurd h
    one_one env (more_of-Term a rest) r s h k = one_type env a r s h k

    all_once : (env : List ValueType) {m : _} (row : Row_of-Term m) (ts us : List ValueType) → HaveTypes sig env row ts → HaveTypes sig env row us → ts ≡ us
    all_once env end_of-Term ts us e f = e ∙ sym f
    all_once env (more_of-Term a rest) ts us (x, xs, e, h, hs) (y, ys, f, k, ks) =
        e ∙ ap (λ z. z ∷ xs) (one_type env a x y h k) ∙ ap (λ zs. y ∷ zs) (all_once env rest xs ys hs ks) ∙ sym f

    branches_once : (env : List ValueType) (a : ValueType) {m : _} (row : Row_of-Branch m) (r s : ValueType) → Cover sig (patterns_of row) a
        → BranchesHave sig env a row r → BranchesHave sig env a row s → r ≡ s
    branches_once env a end_of-Branch r s cover h k = no_cover a cover
    branches_once env a (more_of-Branch pattern body rest) r s cover (bs, hb, h, _) (cs, kb, k, _) =
        one_type (cs ++ env) body r s (subst (λ xs. HasType sig (xs ++ env) body r) (binds_once pattern a bs cs hb kb) h) k

pub types_are_unique : TypesAreUnique
types_are_unique sig env a r s h k = one_type sig env a r s h k
