-- The typing of terms with parts, over plain lists.
use Rattle.std.proofs.Common.{◌≡◌, List, [], ◌∷◌, ◌++◌, Some, refl, sym, ap, ◌∙◌, subst, ◌<◌, length, arith}
use Rattle.std.specs.Prelude.{slice_get}
use Rattle.std.specs.List.{AllByRecursion}
use Rattle.std.proofs.lemmas.List.Elements.{All-from_recursion, recursion_from_All}
use mathlib.Core.Former.{Count}
use denote.Hole.Carrier
use Rattle.ur_values.specs.declared.types.ValueType.{ValueType}
use Rattle.ur_values.specs.declared.types.ValueType.TheVariants as ty
use Rattle.ur_terms.specs.declared.term.Op.{Op}
use Rattle.ur_terms.specs.declared.term.Branch.{Branch}
use Rattle.ur_terms.specs.declared.term.Term.TheBlock as block
use Rattle.ur_terms.specs.declared.term.Term.{Term, Row_of-Term, end_of-Term, more_of-Term, Row_of-Branch, end_of-Branch, more_of-Branch, items-the_row-Term, items_hidden-the_row-Term-0, items-the_row-Branch, items_hidden-the_row-Branch-2}
use Rattle.ur_terms.specs.declared.term.Term.TheVariants as t
use Rattle.ur_terms.specs.Types.{Signature, OpType, Cover, patterns_of, IsXml, HasType, HaveTypes, BranchesHave}
use Rattle.ur_verify_operations.specs.Wanting.{patterns_in}
use Rattle.ur_verify.specs.Terms.{HaveAll, BranchFits, BranchesFit}
use Rattle.ur_verify.proofs.Once.{no_cover}

-- the parts of a term, as a row
abbrev pub row_of : Term → (n : Count) × Row_of-Term n
row_of (t.Make' o _ row) = (_, row)
row_of (t.Call' f _ row) = (_, row)
row_of (t.Let' _ row _ body) = (_, row)
row_of _ = (_, end_of-Term)

abbrev pub branches_of : Term → (n : Count) × Row_of-Branch n
branches_of (t.Case' _ x _ row) = (_, row)
branches_of _ = (_, end_of-Branch)

module _ (sig : Signature) (env : List ValueType) where
  have_row : (m : Count) (row : Row_of-Term m) (ts : List ValueType) → HaveTypes sig env row ts → HaveAll sig env (items-the_row-Term m row) ts
  have_row m end_of-Term ts e = subst (λ us. HaveAll sig env [] us) (sym e) tt
  have_row m (more_of-Term x rest) ts (a, others, e, h, hs) =
      subst (λ us. HaveAll sig env (x ∷ items-the_row-Term _ rest) us) (sym e) (h, have_row _ rest others hs)

  row_have : (m : Count) (row : Row_of-Term m) (ts : List ValueType) → HaveAll sig env (items-the_row-Term m row) ts → HaveTypes sig env row ts
  row_have m end_of-Term [] h = refl
  row_have m end_of-Term (a ∷ ts) h = absurd h
  row_have m (more_of-Term x rest) [] h = absurd h
  row_have m (more_of-Term x rest) (a ∷ ts) h = (a, ts, refl, h.0, row_have _ rest ts h.1)

  -- ---- operations, calls and bindings

  pub make_from : (o : Op) (args : List Term) (ts : List ValueType) (r : ValueType) → HaveAll sig env args ts → OpType sig o ts r → HasType sig env (t.Make o args) r
  make_from o args ts r h k =
      let row = row_of (t.Make o args) in
      (ts, row_have row.0 row.1 ts (subst (λ xs. HaveAll sig env xs ts) (sym (items_hidden-the_row-Term-0 args)) h), k)

  pub make_to : (o : Op) (args : List Term) (r : ValueType) → HasType sig env (t.Make o args) r → (ts : List ValueType) × HaveAll sig env args ts × OpType sig o ts r
  make_to o args r h =
      let row = row_of (t.Make o args) in
      (h.0, subst (λ xs. HaveAll sig env xs h.0) (items_hidden-the_row-Term-0 args) (have_row row.0 row.1 h.0 h.1), h.2)

  pub call_from : (f : _) (args : List Term) (ts : List ValueType) (r : ValueType) → HaveAll sig env args ts → slice_get sig.functions f ≡ Some (ts, r) → HasType sig env (t.Call f args) r
  call_from f args ts r h k =
      let row = row_of (t.Call f args) in
      (ts, row_have row.0 row.1 ts (subst (λ xs. HaveAll sig env xs ts) (sym (items_hidden-the_row-Term-0 args)) h), k)

  pub call_to : (f : _) (args : List Term) (r : ValueType) → HasType sig env (t.Call f args) r
      → (ts : List ValueType) × HaveAll sig env args ts × (slice_get sig.functions f ≡ Some (ts, r))
  call_to f args r h =
      let row = row_of (t.Call f args) in
      (h.0, subst (λ xs. HaveAll sig env xs h.0) (items_hidden-the_row-Term-0 args) (have_row row.0 row.1 h.0 h.1), h.2)

  pub let_from : (args : List Term) (body : Term) (ts : List ValueType) (r : ValueType) → HaveAll sig env args ts → HasType sig (ts ++ env) body r → HasType sig env (t.Let args body) r
  unfolding block.hidden-the_row-Term-1 Carrier.hidden
  let_from args body ts r h k =
      let row = row_of (t.Let args body) in
      (ts, row_have row.0 row.1 ts (subst (λ xs. HaveAll sig env xs ts) (sym (items_hidden-the_row-Term-0 args)) h), k)

  pub let_to : (args : List Term) (body : Term) (r : ValueType) → HasType sig env (t.Let args body) r
      → (ts : List ValueType) × HaveAll sig env args ts × HasType sig (ts ++ env) body r
  unfolding block.hidden-the_row-Term-1 Carrier.hidden
  let_to args body r h =
      let row = row_of (t.Let args body) in
      (h.0, subst (λ xs. HaveAll sig env xs h.0) (items_hidden-the_row-Term-0 args) (have_row row.0 row.1 h.0 h.1), h.2)

  -- ---- choices and loops

  pub if_from : (x a b : Term) (r : ValueType) → HasType sig env x ty.Bool → HasType sig env a r → HasType sig env b r → HasType sig env (t.If x a b) r
  unfolding block.hidden-the_row-Term-1 Carrier.hidden
  if_from x a b r hx ha hb = (hx, ha, hb)

  pub if_to : (x a b : Term) (r : ValueType) → HasType sig env (t.If x a b) r → HasType sig env x ty.Bool × HasType sig env a r × HasType sig env b r
  unfolding block.hidden-the_row-Term-1 Carrier.hidden
  if_to x a b r h = h

  pub each_from : (rows body : Term) (a r : ValueType) → HasType sig env rows (ty.Many a) → HasType sig (a ∷ env) body r → IsXml r → HasType sig env (t.Each rows body) r
  unfolding block.hidden-the_row-Term-1 Carrier.hidden
  each_from rows body a r h k x = (a, h, k, x)

  pub each_to : (rows body : Term) (r : ValueType) → HasType sig env (t.Each rows body) r
      → (a : ValueType) × HasType sig env rows (ty.Many a) × HasType sig (a ∷ env) body r × IsXml r
  unfolding block.hidden-the_row-Term-1 Carrier.hidden
  each_to rows body r h = h

  -- ---- branches

  abbrev AllFit : ValueType → List Branch → ValueType → Type 0
  AllFit a bs r = AllByRecursion (λ b. BranchFits sig env a b r) bs

  fit_row : (a r : ValueType) (m : Count) (row : Row_of-Branch m) → BranchesHave sig env a row r → AllFit a (items-the_row-Branch m row) r
  fit_row a r m end_of-Branch h = tt
  fit_row a r m (more_of-Branch pattern body rest) (bound, hb, h, hs) = ((bound, hb, h), fit_row a r _ rest hs)

  row_fit : (a r : ValueType) (m : Count) (row : Row_of-Branch m) → AllFit a (items-the_row-Branch m row) r → BranchesHave sig env a row r
  row_fit a r m end_of-Branch h = tt
  row_fit a r m (more_of-Branch pattern body rest) h = (h.0.0, h.0.1, h.0.2, row_fit a r _ rest h.1)

  patterns_row : (m : Count) (row : Row_of-Branch m) → patterns_of row ≡ patterns_in (items-the_row-Branch m row)
  patterns_row m end_of-Branch = refl
  patterns_row m (more_of-Branch pattern body rest) = ap (λ ps. pattern ∷ ps) (patterns_row _ rest)

  all_fit : (a r : ValueType) (bs : List Branch) → BranchesFit sig env a bs r → AllFit a bs r
  all_fit a r bs h = recursion_from_All (λ b. BranchFits sig env a b r) bs h.1

  some_fit : (a r : ValueType) (bs : List Branch) → Cover sig (patterns_in bs) a → AllFit a bs r → BranchesFit sig env a bs r
  some_fit a r bs cover h = (some bs cover, All-from_recursion (λ b. BranchFits sig env a b r) bs h)
    where
      some : (cs : List Branch) → Cover sig (patterns_in cs) a → 0 < length cs
      some [] cover = no_cover sig a cover
      some (b ∷ cs) cover = omega arith

  pub case_from : (x : Term) (bs : List Branch) (a r : ValueType) → HasType sig env x a → BranchesFit sig env a bs r → Cover sig (patterns_in bs) a → HasType sig env (t.Case x bs) r
  unfolding block.hidden-the_row-Term-1 Carrier.hidden
  case_from x bs a r h k cover =
      let row = branches_of (t.Case x bs) in
      let is = items_hidden-the_row-Branch-2 bs in (
        a,
        h,
        row_fit a r row.0 row.1 (subst (λ cs. AllFit a cs r) (sym is) (all_fit a r bs k)),
        subst (λ ps. Cover sig ps a) (ap patterns_in (sym is) ∙ sym (patterns_row row.0 row.1)) cover,
      )

  pub case_to : (x : Term) (bs : List Branch) (r : ValueType) → HasType sig env (t.Case x bs) r
      → (a : ValueType) × HasType sig env x a × BranchesFit sig env a bs r × Cover sig (patterns_in bs) a
  unfolding block.hidden-the_row-Term-1 Carrier.hidden
  case_to x bs r (a, h, hs, cover) =
      let row = branches_of (t.Case x bs) in
      let is = items_hidden-the_row-Branch-2 bs in
      let c : Cover sig (patterns_in bs) a = subst (λ ps. Cover sig ps a) (patterns_row row.0 row.1 ∙ ap patterns_in is) cover in
      (a, h, some_fit a r bs c (subst (λ cs. AllFit a cs r) is (fit_row a r row.0 row.1 hs)), c)
