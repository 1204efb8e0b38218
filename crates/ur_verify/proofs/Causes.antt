-- What is said of code is a cause: where it is so, the code does not fit.
use Rattle.std.proofs.Common.{◌≡◌, inl, inr, ℕ, List, ◌∷◌, ◌++◌, Option, Some, None, refl, sym, ap, ◌∙◌, subst}
use Rattle.std.specs.Prelude.{slice_get, MatchOption, codes}
use Rattle.std.specs.List.{AllZip, Contains}
use Rattle.std.specs.Option.{IsSomeAnd}
use Rattle.std.proofs.lemmas.List.Elements.{All-contains}
use Rattle.std.proofs.lemmas.Option.{slice_get_within, get_or_from_slice_get}
use Rattle.std.proofs.lemmas.Slice.Zip.{AllZip-left}
use Rattle.std.specs.Str.{IsUtf8}
use Rattle.ur_values.specs.declared.schema.TableShape.{TableShape}
use Rattle.ur_values.specs.declared.types.ValueType.{ValueType}
use Rattle.ur_values.specs.declared.types.ValueType.TheVariants as ty
use Rattle.ur_sql.specs.Typing.{QueryFits, ChangeFits}
use Rattle.ur_tags.specs.declared.routes.Route.{Route}
use Rattle.ur_terms.specs.declared.term.Branch.{Branch}
use Rattle.ur_terms.specs.declared.term.Term.{Term}
use Rattle.ur_terms.specs.declared.term.Function.{Function}
use Rattle.ur_terms.specs.Types.{Signature, OpType, Cover, IsXml, HasType, FitsFunction}
use Rattle.ur_code.specs.declared.code.Code.{Code}
use Rattle.ur_code.specs.Fits.{signature, FitsRoute, IsBasicCookie, Fits}
use Rattle.ur_verify_operations.specs.Saying.{TwoTexts}
use Rattle.ur_verify_operations.specs.Misfits.{UnlikeDeclared}
use Rattle.ur_verify_operations.specs.Wanting.{patterns_in}
use Rattle.ur_verify_operations.proofs.SameTypes.{many_same}
use Rattle.ur_verify.specs.Laws.{MisfitsAreCauses}
use Rattle.ur_verify.specs.Misfits.{StandsIn, itself, in_operand, in_argument, in_bound, in_let, in_test, in_yes, in_no, in_matched, in_branch, in_rows, in_body, MisfitAt, at_variable, at_string, at_operation, at_call, at_test, at_no, at_patterns, at_pattern, at_branch, at_rows, at_body, FunctionMisfit, RouteMisfit, at_target, at_params, at_page, at_form, RoutesMisfit, at_targets, at_route, in_functions, in_queries, in_changes, in_routes, in_tables, in_cookies}
use Rattle.ur_verify.specs.Terms.{HaveAll, BranchFits, BranchesFit}
use Rattle.ur_verify.proofs.Inferring.{all_types_once, have_at, branch_once}
use Rattle.ur_verify.proofs.Once.{one_type, binds_once}
use Rattle.ur_verify.proofs.Pairs.{pair_long}
use Rattle.ur_verify.proofs.Rows.{make_to, call_to, let_to, if_to, each_to, case_to}

none_some : {A B : Type 0} {x : A} (o : Option A) → o ≡ None → o ≡ Some x → B
none_some o e f = absurd (apart (sym e ∙ f))
  where
    apart : {A : Type 0} {x : A} → None ≡ Some x → ⊥
    apart e = cc

some_same : {A : Type 0} {x y : A} → Some x ≡ Some y → x ≡ y
some_same e = cc

module _ (sig : Signature) where
  one_typed : (env : List ValueType) (args : List Term) (ts : List ValueType) (x : Term) → HaveAll sig env args ts → Contains args x → (a : ValueType) × HasType sig env x a
  one_typed env args ts x all (k, lt, e) = have_at sig env args args k x refl lt (sym e) (ts, all)

  one_fits : (env : List ValueType) (a r : ValueType) (bs : List Branch) (b : Branch) → BranchesFit sig env a bs r → Contains bs b → BranchFits sig env a b r
  one_fits env a r bs b fits there = All-contains (λ c. BranchFits sig env a c r) bs b fits.1 there

  -- a part of what has a type has one
  part_typed : (inner : List ValueType) (part : Term) (env : List ValueType) (x : Term) (r : ValueType) → StandsIn sig inner part env x → HasType sig env x r → (s : ValueType) × HasType sig inner part s
  part_typed inner part _ _ r itself h = (r, h)
  part_typed inner part _ _ r (in_operand env o args x there stands) h =
      let m = make_to sig env o args r h in let k = one_typed env args m.0 x m.1 there in part_typed inner part env x k.0 stands k.1
  part_typed inner part _ _ r (in_argument env f args x there stands) h =
      let m = call_to sig env f args r h in let k = one_typed env args m.0 x m.1 there in part_typed inner part env x k.0 stands k.1
  part_typed inner part _ _ r (in_bound env args body x there stands) h =
      let m = let_to sig env args body r h in let k = one_typed env args m.0 x m.1 there in part_typed inner part env x k.0 stands k.1
  part_typed inner part _ _ r (in_let env args body ts all stands) h =
      let m = let_to sig env args body r h in
      part_typed inner part (ts ++ env) body r stands (subst (λ us. HasType sig (us ++ env) body r) (all_types_once sig env args m.0 ts m.1 all) m.2)
  part_typed inner part _ _ r (in_test env x a b stands) h = part_typed inner part env x ty.Bool stands (if_to sig env x a b r h).0
  part_typed inner part _ _ r (in_yes env x a b stands) h = part_typed inner part env a r stands (if_to sig env x a b r h).1
  part_typed inner part _ _ r (in_no env x a b stands) h = part_typed inner part env b r stands (if_to sig env x a b r h).2
  part_typed inner part _ _ r (in_matched env x bs stands) h = let m = case_to sig env x bs r h in part_typed inner part env x m.0 stands m.1
  part_typed inner part _ _ r (in_branch env x bs a b bound hx there binds stands) h =
      let m = case_to sig env x bs r h in
      let fits : BranchFits sig env a b r = subst (λ z. BranchFits sig env z b r) (one_type sig env x m.0 a m.1 hx) (one_fits env m.0 r bs b m.2 there) in
      part_typed inner part (bound ++ env) b.body r stands (subst (λ us. HasType sig (us ++ env) b.body r) (binds_once sig b.pattern a fits.0 bound fits.1 binds) fits.2)
  part_typed inner part _ _ r (in_rows env rows body stands) h = let m = each_to sig env rows body r h in part_typed inner part env rows (ty.Many m.0) stands m.1
  part_typed inner part _ _ r (in_body env rows body a hx stands) h =
      let m = each_to sig env rows body r h in
      part_typed inner part (a ∷ env) body r stands (subst (λ z. HasType sig (z ∷ env) body r) (many_same m.0 a (one_type sig env rows (ty.Many m.0) (ty.Many a) m.1 hx)) m.2)

  unlike_call : (o : Option (List ValueType × ValueType)) (ts : List ValueType) (r : ValueType) (said : TwoTexts)
      → UnlikeDeclared sig.names (codes "a function") (λ (g : List ValueType × ValueType). g.0) o ts said → o ≡ Some (ts, r) → ⊥
  unlike_call None ts r said h e = none_some None refl e
  unlike_call (Some g) ts r said h e = h.0 (sym (ap (λ z. z.0) (some_same e)))

  -- what breaks its own rule has no type
  broken : (env : List ValueType) (x : Term) (said : TwoTexts) (r : ValueType) → MisfitAt sig env x said → HasType sig env x r → ⊥
  broken env _ _ r (at_variable i _ k) h = none_some (slice_get env i) k.0 h
  broken env _ _ r (at_string s _ k) h = k.0 h.1
  broken env _ _ r (at_operation o args ts _ all none k) h =
      let m = make_to sig env o args r h in none r (subst (λ us. OpType sig o us r) (all_types_once sig env args m.0 ts m.1 all) m.2)
  broken env _ _ r (at_call f args ts said all k) h =
      let m = call_to sig env f args r h in
      unlike_call (slice_get sig.functions f) ts r said k (subst (λ us. slice_get sig.functions f ≡ Some (us, r)) (all_types_once sig env args m.0 ts m.1 all) m.2)
  broken env _ _ r (at_test x a b _ (found, hx, other, _)) h = other (one_type sig env x found ty.Bool hx (if_to sig env x a b r h).0)
  broken env _ _ r (at_no x a b made _ ha (found, hb, other, _)) h =
      let m = if_to sig env x a b r h in other (one_type sig env b found r hb m.2 ∙ one_type sig env a r made m.1 ha)
  broken env _ _ r (at_patterns x bs a _ hx k) h =
      let m = case_to sig env x bs r h in k.0 (subst (λ z. Cover sig (patterns_in bs) z) (one_type sig env x m.0 a m.1 hx) m.3)
  broken env _ _ r (at_pattern x bs a b _ hx there k) h =
      let m = case_to sig env x bs r h in
      let fits : BranchFits sig env a b r = subst (λ z. BranchFits sig env z b r) (one_type sig env x m.0 a m.1 hx) (one_fits env m.0 r bs b m.2 there) in
      k.0 fits.0 fits.1
  broken env _ _ r (at_branch x bs a first b made _ hx slot first_fits there (found, fits, other, _)) h =
      let m = case_to sig env x bs r h in
      let same = one_type sig env x m.0 a m.1 hx in
      let one : BranchFits sig env a b r = subst (λ z. BranchFits sig env z b r) same (one_fits env m.0 r bs b m.2 there) in
      let front : BranchFits sig env a first r = subst (λ z. BranchFits sig env z first r) same (one_fits env m.0 r bs first m.2 (at_front bs first slot)) in
      other (branch_once sig env a b found r fits one ∙ branch_once sig env a first r made front first_fits)
    where
      at_front : (cs : List Branch) (c : Branch) → slice_get cs 0 ≡ Some c → Contains cs c
      at_front cs c e = (0, slice_get_within cs 0 c e, get_or_from_slice_get cs 0 c c e)
  broken env _ _ r (at_rows rows body a _ hx k) h = let m = each_to sig env rows body r h in k.0 m.0 (one_type sig env rows a (ty.Many m.0) hx m.1)
  broken env _ _ r (at_body rows body a _ hx (found, hb, unfit, _)) h =
      let m = each_to sig env rows body r h in
      let same = many_same m.0 a (one_type sig env rows (ty.Many m.0) (ty.Many a) m.1 hx) in
      unfit (subst IsXml (one_type sig (a ∷ env) body r found (subst (λ z. HasType sig (z ∷ env) body r) same m.2) hb) m.3)

  function_broken : (f : Function) (said : TwoTexts) → FunctionMisfit sig f said → FitsFunction sig f → ⊥
  function_broken f said (inl (inner, part, stands, at)) h = let k = part_typed inner part f.params f.body f.result stands h in broken inner part said k.0 at k.1
  function_broken f said (inr (found, h, other, _)) k = other (one_type sig f.params f.body found f.result h k)

-- ---- code

zip_at : {X Y : Type 0} (P : X → Y → Type 0) (xs : List X) (ys : List Y) (i : ℕ) (x : X) (y : Y) → slice_get xs i ≡ Some x → slice_get ys i ≡ Some y → AllZip P xs ys → P x y
zip_at P xs ys i x y e f all =
    subst (λ o. IsSomeAnd o (P x)) f (subst (λ o. MatchOption o (Unit {0}) (λ z. IsSomeAnd (slice_get ys i) (P z))) e (AllZip-left P xs ys all i))

route_broken : (code : Code) (r : Route) (target : ℕ) (said : TwoTexts) → RouteMisfit code r target said → FitsRoute code r target → ⊥
route_broken code r target said (at_target none _) h = none_some (slice_get code.functions target) none h.is_function
route_broken code r target said (at_params f slot k) h = k.0 (ap (λ z. z.params) (some_same (sym slot ∙ h.is_function)) ∙ h.params)
route_broken code r target said (at_page f slot unfit _) h = unfit (ap (λ z. z.result) (some_same (sym slot ∙ h.is_function)) ∙ h.page)
route_broken code r target said (at_form get some _) h = some (h.no_form get)

routes_broken : (code : Code) (said : TwoTexts) → RoutesMisfit code said → Fits code → ⊥
routes_broken code said (at_targets unfit _) h = unfit (pair_long (FitsRoute code) code.handlers.routes code.targets h.routes)
routes_broken code said (at_route i r target e f k) h = route_broken code r target said k (zip_at (FitsRoute code) code.handlers.routes code.targets i r target e f h.routes)

pub causes : MisfitsAreCauses
causes code said (in_functions (f, there, k)) h = function_broken (signature code) f said k (All-contains (FitsFunction (signature code)) code.functions f h.functions there)
causes code said (in_queries (q, there, unfit, _)) h = unfit (All-contains (QueryFits code.schema) code.queries q h.queries there)
causes code said (in_changes (c, there, unfit, _)) h = unfit (All-contains (ChangeFits code.schema) code.changes c h.changes there)
causes code said (in_routes k) h = routes_broken code said k h
causes code said (in_tables (shape, there, unfit, _)) h = unfit (All-contains (λ (z : TableShape). IsUtf8 z.name) code.schema.tables shape h.tables there)
causes code said (in_cookies (c, there, unfit, _)) h = unfit (All-contains IsBasicCookie code.cookies c h.cookies there)
