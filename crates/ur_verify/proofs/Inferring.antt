-- Answers about terms from answers about their parts.
use Rattle.std.proofs.Common.{◌≡◌, ℕ, List, [], ◌∷◌, ◌++◌, Result, Some, refl, sym, ap, ◌∙◌, subst, zero, suc, ◌<◌, ◌≤◌, ◌+◌, length, take, get_or, arith}
use Rattle.std.specs.Prelude.{slice_get}
use Rattle.std.specs.Prelude.{All}
use Rattle.std.proofs.lemmas.List.{take_all}
use Rattle.std.proofs.lemmas.List.Elements.{All-more, All-get_or}
use Rattle.ur_values.specs.declared.types.ValueType.{ValueType}
use Rattle.ur_values.specs.declared.types.ValueType.TheVariants as ty
use Rattle.ur_terms.specs.declared.term.Op.{Op}
use Rattle.ur_terms.specs.declared.term.Branch.{Branch}
use Rattle.ur_terms.specs.declared.term.Term.{Term}
use Rattle.ur_terms.specs.declared.term.Term.TheVariants as t
use Rattle.ur_terms.specs.Types.{Signature, OpType, Binds, Cover, IsXml, HasType}
use Rattle.ur_verify_operations.specs.declared.misfit.Untyped.{Untyped}
use Rattle.ur_verify_operations.specs.Answering.{Answers}
use Rattle.ur_verify_operations.specs.Wanting.{patterns_in}
use Rattle.ur_verify_operations.proofs.Replies.{answers_by}
use Rattle.ur_verify_operations.proofs.SameTypes.{many_same}
use Rattle.ur_verify.specs.Terms.{HaveAll, BranchFits, BranchesFit}
use Rattle.ur_verify.proofs.Once.{one_type, binds_once}
use Rattle.ur_verify.proofs.Rows.{make_from, make_to, call_from, call_to, let_from, let_to, if_to, each_from, each_to, case_from, case_to}

module _ (sig : Signature) (env : List ValueType) where
  pub all_types_once : (args : List Term) (ts us : List ValueType) → HaveAll sig env args ts → HaveAll sig env args us → ts ≡ us
  all_types_once [] [] [] h k = refl
  all_types_once [] [] (u ∷ us) h k = absurd k
  all_types_once [] (a ∷ ts) us h k = absurd h
  all_types_once (x ∷ args) [] us h k = absurd h
  all_types_once (x ∷ args) (a ∷ ts) [] h k = absurd k
  all_types_once (x ∷ args) (a ∷ ts) (u ∷ us) h k =
      ap (λ z. z ∷ ts) (one_type sig env x a u h.0 k.0) ∙ ap (λ zs. u ∷ zs) (all_types_once args ts us h.1 k.1)

  -- ---- terms one after the other

  more : (args : List Term) (i : ℕ) (x : Term) (ts : List ValueType) (a : ValueType) → i < length args → x ≡ get_or args i x → HaveAll sig env (take i args) ts → HasType sig env x a
      → HaveAll sig env (take (suc i) args) (ts ++ a ∷ [])
  more [] i x ts a h e all t = absurd (omega (arith, h))
  more (y ∷ args) zero x [] a h e all t = (subst (λ z. HasType sig env z a) e t, tt)
  more (y ∷ args) zero x (b ∷ ts) a h e all t = absurd all
  more (y ∷ args) (suc i) x [] a h e all t = absurd all
  more (y ∷ args) (suc i) x (b ∷ ts) a h e all t = (all.0, more args i x ts a (omega (arith, h)) e all.1 t)

  pub have_more : (args : List Term) (i : ℕ) (x : Term) (ts : List ValueType) (a : ValueType) → i < length args → x ≡ get_or args i x → HaveAll sig env (take i args) ts → HasType sig env x a
      → HaveAll sig env (take (i + 1) args) (ts ++ a ∷ [])
  have_more args i x ts a h e all t =
      let next : suc i ≡ i + 1 = omega arith in subst (λ k. HaveAll sig env (take k args) (ts ++ a ∷ [])) next (more args i x ts a h e all t)

  has_at : (args : List Term) (i : ℕ) (x : Term) (ts : List ValueType) → i < length args → x ≡ get_or args i x → HaveAll sig env args ts → (a : ValueType) × HasType sig env x a
  has_at [] i x ts h e all = absurd (omega (arith, h))
  has_at (y ∷ args) i x [] h e all = absurd all
  has_at (y ∷ args) zero x (b ∷ ts) h e all = (b, subst (λ z. HasType sig env z b) (sym e) all.0)
  has_at (y ∷ args) (suc i) x (b ∷ ts) h e all = has_at args i x ts (omega (arith, h)) e all.1

  pub have_at : (args terms : List Term) (i : ℕ) (x : Term) → args ≡ terms → i < length args → x ≡ get_or args i x → (ts : List ValueType) × HaveAll sig env terms ts
      → (a : ValueType) × HasType sig env x a
  have_at args terms i x is h e k = has_at args i x k.0 h e (subst (λ xs. HaveAll sig env xs k.0) (sym is) k.1)

  pub have_all : (args terms : List Term) (i : ℕ) (ts : List ValueType) → args ≡ terms → length args ≤ i → HaveAll sig env (take i args) ts → HaveAll sig env terms ts
  have_all args terms i ts e h all = subst (λ xs. HaveAll sig env xs ts) (take_all i args h ∙ e) all

  -- ---- operations

  pub lifted : (a b : Term) (o : Result ValueType Untyped) → a ≡ b → Answers (HasType sig env b) o → Answers (HasType sig env a) o
  lifted a b o e h = subst (λ z. Answers (HasType sig env z) o) (sym e) h

  pub make_given : (o : Op) (args : List Term) → (r : ValueType) × HasType sig env (t.Make o args) r → (ts : List ValueType) × HaveAll sig env args ts
  make_given o args k = let m = make_to sig env o args k.0 k.1 in (m.0, m.1)

  pub call_given : (f : ℕ) (args : List Term) → (r : ValueType) × HasType sig env (t.Call f args) r → (ts : List ValueType) × HaveAll sig env args ts
  call_given f args k = let m = call_to sig env f args k.0 k.1 in (m.0, m.1)

  pub let_given : (args : List Term) (body : Term) → (r : ValueType) × HasType sig env (t.Let args body) r → (ts : List ValueType) × HaveAll sig env args ts
  let_given args body k = let m = let_to sig env args body k.0 k.1 in (m.0, m.1)

  pub made : (o : Op) (args : List Term) (ts : List ValueType) (a : Result ValueType Untyped) → HaveAll sig env args ts → Answers (OpType sig o ts) a
      → Answers (HasType sig env (t.Make o args)) a
  made o args ts a h =
      answers_by a (λ r k. make_from sig env o args ts r h k)
      (λ r k. let m = make_to sig env o args r k in subst (λ us. OpType sig o us r) (all_types_once args m.0 ts m.1 h) m.2)

  -- ---- calls

  pub called_as : (f : ℕ) (args : List Term) (ts : List ValueType) (a : Result ValueType Untyped) → HaveAll sig env args ts
      → Answers (λ r. slice_get sig.functions f ≡ Some (ts, r)) a → Answers (HasType sig env (t.Call f args)) a
  called_as f args ts a h =
      answers_by a (λ r k. call_from sig env f args ts r h k)
      (λ r k. let m = call_to sig env f args r k in subst (λ us. slice_get sig.functions f ≡ Some (us, r)) (all_types_once args m.0 ts m.1 h) m.2)

  -- ---- bindings

  pub bound_in : (args : List Term) (body : Term) (ts : List ValueType) (a : Result ValueType Untyped) → HaveAll sig env args ts
      → Answers (HasType sig (ts ++ env) body) a → Answers (HasType sig env (t.Let args body)) a
  bound_in args body ts a h =
      answers_by a (λ r k. let_from sig env args body ts r h k)
      (λ r k. let m = let_to sig env args body r k in subst (λ us. HasType sig (us ++ env) body r) (all_types_once args m.0 ts m.1 h) m.2)

  -- ---- one type

  -- another type was found
  pub found_other : (a : Term) (found wanted : ValueType) → HasType sig env a found → (found ≡ wanted → ⊥) → HasType sig env a wanted → ⊥
  found_other a found wanted h other k = other (one_type sig env a found wanted h k)

  -- ---- choices

  pub test_given : (x a b : Term) → (r : ValueType) × HasType sig env (t.If x a b) r → (u : Unit {0}) × HasType sig env x ty.Bool
  test_given x a b k = (tt, (if_to sig env x a b k.0 k.1).0)

  pub yes_given : (x a b : Term) → (r : ValueType) × HasType sig env (t.If x a b) r → (r : ValueType) × HasType sig env a r
  yes_given x a b k = (k.0, (if_to sig env x a b k.0 k.1).1)

  pub no_given : (x a b : Term) (found : ValueType) → HasType sig env a found → (r : ValueType) × HasType sig env (t.If x a b) r → (u : Unit {0}) × HasType sig env b found
  no_given x a b found ha k = let m = if_to sig env x a b k.0 k.1 in (tt, subst (HasType sig env b) (one_type sig env a k.0 found m.1 ha) m.2)

  -- ---- branches

  pub branch_answers : (a : ValueType) (b : Branch) (bs : List ValueType) (o : Result ValueType Untyped) → Binds sig b.pattern a bs
      → Answers (HasType sig (bs ++ env) b.body) o → Answers (BranchFits sig env a b) o
  branch_answers a b bs o h =
      answers_by o (λ r k. (bs, h, k)) (λ r k. subst (λ cs. HasType sig (cs ++ env) b.body r) (binds_once sig b.pattern a k.0 bs k.1 h) k.2)

  pub branch_once : (a : ValueType) (b : Branch) (r s : ValueType) → BranchFits sig env a b r → BranchFits sig env a b s → r ≡ s
  branch_once a b r s (bs, hb, h) (cs, kb, k) =
      one_type sig (cs ++ env) b.body r s (subst (λ xs. HasType sig (xs ++ env) b.body r) (binds_once sig b.pattern a bs cs hb kb) h) k

  -- the branches so far fit, and one more
  pub branches_more : (a r : ValueType) (bs : List Branch) (i : ℕ) (b : Branch) → i < length bs → b ≡ get_or bs i b → BranchFits sig env a b r
      → All (λ c. BranchFits sig env a c r) (take i bs) → All (λ c. BranchFits sig env a c r) (take (i + 1) bs)
  branches_more a r bs i b h e f all = All-more (λ c. BranchFits sig env a c r) bs i b h all (subst (λ c. BranchFits sig env a c r) e f)

  branch_at : (a r : ValueType) (bs : List Branch) (i : ℕ) (b : Branch) → i < length bs → b ≡ get_or bs i b → All (λ c. BranchFits sig env a c r) bs → BranchFits sig env a b r
  branch_at a r bs i b h e all = subst (λ c. BranchFits sig env a c r) (sym e) (All-get_or (λ c. BranchFits sig env a c r) bs i b h all)

  pub first_fits : (a r : ValueType) (bs : List Branch) (i : ℕ) (b : Branch) → 0 < i → 0 < length bs → b ≡ get_or bs 0 b → All (λ c. BranchFits sig env a c r) (take i bs)
      → BranchFits sig env a b r
  first_fits a r [] i b begun some e all = absurd (omega (arith, some))
  first_fits a r (y ∷ bs) zero b begun some e all = absurd (omega (arith, begun))
  first_fits a r (y ∷ bs) (suc i) b begun some e all =
      subst (λ c. BranchFits sig env a c r) (sym e) (All-get_or (λ c. BranchFits sig env a c r) (y ∷ take i bs) 0 b (omega arith) all)

  pub first_given : (a : ValueType) (bs cs : List Branch) (first : Branch) → bs ≡ cs → 0 < length bs → first ≡ get_or bs 0 first → (r : ValueType) × BranchesFit sig env a cs r
      → (r : ValueType) × BranchFits sig env a first r
  first_given a bs cs first is h f k = (k.0, branch_at a k.0 bs 0 first h f (subst (All (λ c. BranchFits sig env a c k.0)) (sym is) k.1.1))

  pub later_given : (a made : ValueType) (bs cs : List Branch) (i : ℕ) (first b : Branch) → bs ≡ cs → 0 < length bs → first ≡ get_or bs 0 first
      → BranchFits sig env a first made → i < length bs → b ≡ get_or bs i b → (r : ValueType) × BranchesFit sig env a cs r → (u : Unit {0}) × BranchFits sig env a b made
  later_given a made bs cs i first b is h f one lt g k =
      let all = subst (All (λ c. BranchFits sig env a c k.0)) (sym is) k.1.1 in
      (tt, subst (BranchFits sig env a b) (branch_once a first k.0 made (branch_at a k.0 bs 0 first h f all) one) (branch_at a k.0 bs i b lt g all))

  pub branches_all : (a r : ValueType) (bs cs : List Branch) (i : ℕ) → bs ≡ cs → 0 < length bs → length bs ≤ i → All (λ c. BranchFits sig env a c r) (take i bs) → BranchesFit sig env a cs r
  branches_all a r bs cs i is h lt all =
      subst (λ xs. BranchesFit sig env a xs r) is (h, subst (All (λ c. BranchFits sig env a c r)) (take_all i bs lt) all)

  pub case_given : (x : Term) (bs : List Branch) → (r : ValueType) × HasType sig env (t.Case x bs) r → (r : ValueType) × HasType sig env x r
  case_given x bs k = let m = case_to sig env x bs k.0 k.1 in (m.0, m.1)

  pub case_not_covered : (x : Term) (bs : List Branch) (a : ValueType) → HasType sig env x a → (Cover sig (patterns_in bs) a → ⊥) → (r : ValueType) → HasType sig env (t.Case x bs) r → ⊥
  case_not_covered x bs a h uncovered r k =
      let m = case_to sig env x bs r k in
      uncovered (subst (Cover sig (patterns_in bs)) (one_type sig env x m.0 a m.1 h) m.3)

  pub case_answers : (x : Term) (bs : List Branch) (a : ValueType) (o : Result ValueType Untyped) → HasType sig env x a → Cover sig (patterns_in bs) a
      → Answers (BranchesFit sig env a bs) o → Answers (HasType sig env (t.Case x bs)) o
  case_answers x bs a o h cover =
      answers_by o (λ r k. case_from sig env x bs a r h k cover)
      (λ r k. let m = case_to sig env x bs r k in subst (λ z. BranchesFit sig env z bs r) (one_type sig env x m.0 a m.1 h) m.2)

  -- ---- loops

  pub each_given : (rows body : Term) → (r : ValueType) × HasType sig env (t.Each rows body) r → (r : ValueType) × HasType sig env rows r
  each_given rows body k = let m = each_to sig env rows body k.0 k.1 in (ty.Many m.0, m.1)

  pub item_given : (rows body : Term) (found : ValueType) → HasType sig env rows found → (r : ValueType) × HasType sig env (t.Each rows body) r
      → (ts : List ValueType) × ((a : ValueType) × (found ≡ ty.Many a) × (ts ≡ a ∷ []))
  item_given rows body found h k = let m = each_to sig env rows body k.0 k.1 in (m.0 ∷ [], (m.0, one_type sig env rows found (ty.Many m.0) h m.1, refl))

  pub each_answers : (rows body : Term) (found : ValueType) (ts : List ValueType) (o : Result ValueType Untyped) → HasType sig env rows found
      → (a : ValueType) × (found ≡ ty.Many a) × (ts ≡ a ∷ []) → Answers (λ r. HasType sig (ts ++ env) body r × IsXml r) o
      → Answers (HasType sig env (t.Each rows body)) o
  each_answers rows body found ts o h (a, is, one) =
      answers_by o
      (λ r k. each_from sig env rows body a r (subst (HasType sig env rows) is h) (subst (λ us. HasType sig (us ++ env) body r) one k.0) k.1)
      (λ r k. let m = each_to sig env rows body r k in
      (subst (λ us. HasType sig (us ++ env) body r) (ap (λ z. z ∷ []) (many_same m.0 a (one_type sig env rows (ty.Many m.0) (ty.Many a) m.1 (subst (HasType sig env rows) is h))) ∙ sym one) m.2, m.3))
