-- What is said of a term from what is said of its parts.
use Rattle.std.proofs.Common.{◌≡◌, inl, inr, ℕ, ◌<◌, List, [], ◌∷◌, ◌++◌, Result, Ok, Err, Some, length, get_or, refl, sym, ◌∙◌, subst}
use Rattle.std.specs.Prelude.{slice_get}
use Rattle.std.specs.List.{Contains}
use Rattle.std.specs.Result.{IsErrAnd}
use Rattle.std.proofs.lemmas.List.{nil_from_length}
use Rattle.std.proofs.lemmas.Option.{slice_get_read, slice_get-get_or}
use Rattle.ur_values.specs.declared.types.ValueType.{ValueType}
use Rattle.ur_values.specs.declared.types.ValueType.TheVariants as ty
use Rattle.ur_values.specs.Texts.{Names}
use Rattle.ur_terms.specs.declared.term.Op.{Op}
use Rattle.ur_terms.specs.declared.term.Branch.{Branch}
use Rattle.ur_terms.specs.declared.term.Term.{Term}
use Rattle.ur_terms.specs.declared.term.Term.TheVariants as t
use Rattle.ur_terms.specs.Types.{Signature, OpType, Binds, Cover, HasType}
use Rattle.ur_verify_operations.specs.declared.misfit.Untyped.{Untyped}
use Rattle.ur_verify_operations.specs.declared.misfit.Untyped.TheVariants as untyped
use Rattle.ur_verify_operations.specs.Answering.{Refuses, Answers, Tells, Says}
use Rattle.ur_verify_operations.specs.Misfits.{OperationMisfit, PatternMisfit, NoText}
use Rattle.ur_verify_operations.specs.Saying.{TwoTexts, FirstUnlike}
use Rattle.ur_verify_operations.specs.Wanting.{patterns_in}
use Rattle.ur_verify_operations.proofs.Told.{says_by}
use Rattle.ur_verify.specs.Misfits.{itself, in_operand, in_argument, in_bound, in_let, in_test, in_yes, in_no, in_matched, in_branch, in_rows, in_body, NoVariable, UnlikeCall, UnlikePatterns, NoList, at_variable, at_string, at_operation, at_call, at_test, at_no, at_patterns, at_pattern, at_branch, at_rows, at_body, TermMisfit, TermsMisfit, UnlikeTerm, UnlikeXml, BranchMisfit, UnlikeBranch, BranchesMisfit, no_branch, in_one, unlike_first}
use Rattle.ur_verify.specs.Terms.{HaveAll, BranchFits}
use Rattle.ur_verify.proofs.Once.{no_cover}

-- ---- one of a list

pub among : {X : Type 0} (xs ys : List X) (i : ℕ) (x : X) → xs ≡ ys → i < length xs → x ≡ get_or xs i x → Contains ys x
among xs ys i x is lt e = subst (λ zs. Contains zs x) is (i, lt, sym e)

pub placed : {X : Type 0} (xs ys : List X) (i : ℕ) (x : X) → xs ≡ ys → i < length xs → x ≡ get_or xs i x → slice_get ys i ≡ Some x
placed xs ys i x is lt e = subst (λ zs. slice_get zs i ≡ Some x) is (slice_get_read xs (length xs) i x refl lt e)

-- the second of two lists of one length
pub there : {X Y : Type 0} (xs : List X) (ys zs : List Y) (i : ℕ) (d : Y) → ys ≡ zs → length xs ≡ length ys → i < length xs → slice_get zs i ≡ Some (get_or ys i d)
there xs ys zs i d is long lt = subst (λ us. slice_get us i ≡ Some (get_or ys i d)) is (slice_get-get_or ys i d (subst (λ n. i < n) long lt))

-- the first that differ in lists that are the same as these
pub first_as : (names : Names) (us vs xs ys : List ValueType) (said : TwoTexts) → us ≡ xs → vs ≡ ys → FirstUnlike names us vs said → FirstUnlike names xs ys said
first_as names us vs xs ys said e f h = subst (λ zs. FirstUnlike names zs ys said) e (subst (λ zs. FirstUnlike names us zs said) f h)

module _ (sig : Signature) (env : List ValueType) where
  pub lifted_told : (a b : Term) (o : Result ValueType Untyped) → a ≡ b → Says (TermMisfit sig env b) o → Says (TermMisfit sig env a) o
  lifted_told a b o e h = subst (λ z. Says (TermMisfit sig env z) o) (sym e) h

  -- ---- terms without parts

  pub variable_told : (a : Term) (i : ℕ) (o : Result ValueType Untyped) → a ≡ t.Variable i → Says (NoVariable env i) o → Says (TermMisfit sig env a) o
  variable_told a i o e h =
      lifted_told a (t.Variable i) o e (says_by {M = TermMisfit sig env (t.Variable i)} {N = NoVariable env i} o (λ said k. (env, t.Variable i, itself, at_variable i said k)) h)

  pub text_told : (a : Term) (s : List ℕ) (o : Result ValueType Untyped) → a ≡ t.Str s → Says (NoText s) o → Says (TermMisfit sig env a) o
  text_told a s o e h = lifted_told a (t.Str s) o e (says_by {M = TermMisfit sig env (t.Str s)} {N = NoText s} o (λ said k. (env, t.Str s, itself, at_string s said k)) h)

  pub never_told : (a : Term) (o : Result ValueType Untyped) → Says (λ said. ⊥) o → Says (TermMisfit sig env a) o
  never_told a o h = says_by {M = TermMisfit sig env a} {N = λ said. ⊥} o (λ said k. absurd k) h

  -- ---- operations, calls and bindings

  pub operand_told : (o : Op) (args : List Term) (said : TwoTexts) → TermsMisfit sig env args said → TermMisfit sig env (t.Make o args) said
  operand_told o args said (x, there, (inner, part, stands, at)) = (inner, part, in_operand env o args x there stands, at)

  pub argument_told : (f : ℕ) (args : List Term) (said : TwoTexts) → TermsMisfit sig env args said → TermMisfit sig env (t.Call f args) said
  argument_told f args said (x, there, (inner, part, stands, at)) = (inner, part, in_argument env f args x there stands, at)

  pub bound_told : (args : List Term) (body : Term) (said : TwoTexts) → TermsMisfit sig env args said → TermMisfit sig env (t.Let args body) said
  bound_told args body said (x, there, (inner, part, stands, at)) = (inner, part, in_bound env args body x there stands, at)

  pub make_told : (o : Op) (args : List Term) (ts : List ValueType) (r : Result ValueType Untyped) → HaveAll sig env args ts → Answers (OpType sig o ts) r → Says (OperationMisfit sig o ts) r
      → Says (TermMisfit sig env (t.Make o args)) r
  make_told o args ts (Ok a) h f k = tt
  make_told o args ts (Err (untyped.Misfit m)) h f k = (env, t.Make o args, itself, at_operation o args ts (m.left, m.right) h (λ r q. f (r, q)) k)
  make_told o args ts (Err untyped.Memory) h f k = tt

  pub call_told : (f : ℕ) (args : List Term) (ts : List ValueType) (r : Result ValueType Untyped) → HaveAll sig env args ts → Says (UnlikeCall sig f ts) r
      → Says (TermMisfit sig env (t.Call f args)) r
  call_told f args ts r h = says_by {M = TermMisfit sig env (t.Call f args)} {N = UnlikeCall sig f ts} r (λ said k. (env, t.Call f args, itself, at_call f args ts said h k))

  pub let_told : (args : List Term) (body : Term) (ts : List ValueType) (r : Result ValueType Untyped) → HaveAll sig env args ts → Says (TermMisfit sig (ts ++ env) body) r
      → Says (TermMisfit sig env (t.Let args body)) r
  let_told args body ts r h = says_by {M = TermMisfit sig env (t.Let args body)} {N = TermMisfit sig (ts ++ env) body} r under
    where
      under : (said : TwoTexts) → TermMisfit sig (ts ++ env) body said → TermMisfit sig env (t.Let args body) said
      under said (inner, part, stands, at) = (inner, part, in_let env args body ts h stands, at)

  -- ---- choices

  pub test_told : (x a b : Term) (said : TwoTexts) → UnlikeTerm sig env x ty.Bool said → TermMisfit sig env (t.If x a b) said
  test_told x a b said (inl (inner, part, stands, at)) = (inner, part, in_test env x a b stands, at)
  test_told x a b said (inr other) = (env, t.If x a b, itself, at_test x a b said other)

  pub yes_told : (x a b : Term) (said : TwoTexts) → TermMisfit sig env a said → TermMisfit sig env (t.If x a b) said
  yes_told x a b said (inner, part, stands, at) = (inner, part, in_yes env x a b stands, at)

  pub no_told : (x a b : Term) (made : ValueType) (said : TwoTexts) → HasType sig env a made → UnlikeTerm sig env b made said → TermMisfit sig env (t.If x a b) said
  no_told x a b made said h (inl (inner, part, stands, at)) = (inner, part, in_no env x a b stands, at)
  no_told x a b made said h (inr other) = (env, t.If x a b, itself, at_no x a b made said h other)

  -- ---- branches

  pub pattern_exit : {B : Type 0} (a : ValueType) (b : Branch) (r : Result B Untyped) (e : Untyped) → IsErrAnd r (λ y. y ≡ e) → Refuses e ((bound : List ValueType) × Binds sig b.pattern a bound)
      → Tells (PatternMisfit sig b.pattern a) e → Says (BranchMisfit sig env a b) r
  pattern_exit a b (Ok x) e i f h = absurd i
  pattern_exit a b (Err y) e i f h =
      of_error y (subst (λ z. Refuses z ((bound : List ValueType) × Binds sig b.pattern a bound)) (sym i) f) (subst (λ z. Tells (PatternMisfit sig b.pattern a) z) (sym i) h)
    where
      of_error : (z : Untyped) → Refuses z ((bound : List ValueType) × Binds sig b.pattern a bound) → Tells (PatternMisfit sig b.pattern a) z → Tells (BranchMisfit sig env a b) z
      of_error (untyped.Misfit m) g k = inl ((λ bound q. g (bound, q)), k)
      of_error untyped.Memory g k = tt

  pub body_told : (a : ValueType) (b : Branch) (bound : List ValueType) (r : Result ValueType Untyped) → Binds sig b.pattern a bound → Says (TermMisfit sig (bound ++ env) b.body) r
      → Says (BranchMisfit sig env a b) r
  body_told a b bound r h = says_by {M = BranchMisfit sig env a b} {N = TermMisfit sig (bound ++ env) b.body} r (λ said k. inr (bound, h, k))

  pub branch_told : (a : ValueType) (bs : List Branch) (first b : Branch) (made : ValueType) (said : TwoTexts) → slice_get bs 0 ≡ Some first → BranchFits sig env a first made → Contains bs b
      → UnlikeBranch sig env a b made said → BranchesMisfit sig env a bs said
  branch_told a bs first b made said at fits there (inl m) = in_one b there m
  branch_told a bs first b made said at fits there (inr other) = unlike_first first b made at fits there other

  pub matched_told : (x : Term) (bs : List Branch) (said : TwoTexts) → TermMisfit sig env x said → TermMisfit sig env (t.Case x bs) said
  matched_told x bs said (inner, part, stands, at) = (inner, part, in_matched env x bs stands, at)

  pub uncovered_told : (x : Term) (bs : List Branch) (a : ValueType) (said : TwoTexts) → HasType sig env x a → UnlikePatterns sig bs a said → TermMisfit sig env (t.Case x bs) said
  uncovered_told x bs a said h k = (env, t.Case x bs, itself, at_patterns x bs a said h k)

  case_parts : (x : Term) (bs : List Branch) (a : ValueType) → HasType sig env x a → (said : TwoTexts) → BranchesMisfit sig env a bs said → TermMisfit sig env (t.Case x bs) said
  case_parts x bs a h said (no_branch k) = uncovered_told x bs a said h k
  case_parts x bs a h said (in_one b there (inl k)) = (env, t.Case x bs, itself, at_pattern x bs a b said h there k)
  case_parts x bs a h said (in_one b there (inr (bound, binds, (inner, part, stands, at)))) = (inner, part, in_branch env x bs a b bound h there binds stands, at)
  case_parts x bs a h said (unlike_first first b made at fits there other) = (env, t.Case x bs, itself, at_branch x bs a first b made said h at fits there other)

  pub case_told : (x : Term) (bs : List Branch) (a : ValueType) (r : Result ValueType Untyped) → HasType sig env x a → Says (BranchesMisfit sig env a bs) r → Says (TermMisfit sig env (t.Case x bs)) r
  case_told x bs a r h = says_by {M = TermMisfit sig env (t.Case x bs)} {N = BranchesMisfit sig env a bs} r (case_parts x bs a h)

  -- ---- loops

  pub rows_told : (rows body : Term) (said : TwoTexts) → TermMisfit sig env rows said → TermMisfit sig env (t.Each rows body) said
  rows_told rows body said (inner, part, stands, at) = (inner, part, in_rows env rows body stands, at)

  pub list_told : (rows body : Term) (a : ValueType) (said : TwoTexts) → HasType sig env rows a → NoList sig a said → TermMisfit sig env (t.Each rows body) said
  list_told rows body a said h k = (env, t.Each rows body, itself, at_rows rows body a said h k)

  each_parts : (rows body : Term) (a : ValueType) → HasType sig env rows (ty.Many a) → (said : TwoTexts) → UnlikeXml sig (a ∷ env) body said → TermMisfit sig env (t.Each rows body) said
  each_parts rows body a h said (inl (inner, part, stands, at)) = (inner, part, in_body env rows body a h stands, at)
  each_parts rows body a h said (inr k) = (env, t.Each rows body, itself, at_body rows body a said h k)

  pub each_told : (rows body : Term) (found : ValueType) (ts : List ValueType) (r : Result ValueType Untyped) → HasType sig env rows found → (a : ValueType) × (found ≡ ty.Many a) × (ts ≡ a ∷ [])
      → Says (UnlikeXml sig (ts ++ env) body) r → Says (TermMisfit sig env (t.Each rows body)) r
  each_told rows body found ts r h (a, is, one) k =
      says_by {M = TermMisfit sig env (t.Each rows body)} {N = UnlikeXml sig (a ∷ env) body} r (each_parts rows body a (subst (HasType sig env rows) is h))
      (subst (λ us. Says (UnlikeXml sig (us ++ env) body) r) one k)

  -- where there is no branch, no value has one
  pub no_patterns : (a : ValueType) (bs cs : List Branch) → bs ≡ cs → length bs ≡ 0 → Cover sig (patterns_in cs) a → ⊥
  no_patterns a bs cs is e cover = no_cover sig a (subst (λ xs. Cover sig (patterns_in xs) a) (sym is ∙ nil_from_length bs e) cover)
