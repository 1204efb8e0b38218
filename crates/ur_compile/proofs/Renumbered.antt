-- What two numberings of the same instances make of one expression: terms that have the same types and do the same.
use Rattle.std.proofs.Common.{◌≡◌, ℕ, zero, suc, ◌<◌, List, [], ◌∷◌, ◌++◌, length, map, flat_map}
use Rattle.std.proofs.Common.{Contains, Some, pos, refl, sym, ap, subst, ◌∙◌, arith}
use Rattle.std.specs.Prelude.{slice_get, slice_index_or}
use Rattle.std.specs.List.{AllZip, AllByRecursion}
use Rattle.std.proofs.lemmas.List.Elements.{All-from_recursion, recursion_from_All}
use Rattle.ur_values.specs.declared.types.ValueType.{ValueType}
use Rattle.ur_values.specs.declared.types.ValueType.TheVariants as ty
use Rattle.ur_terms.specs.declared.term.Op.{Op}
use Rattle.ur_terms.specs.declared.term.Op.TheVariants as op
use Rattle.ur_terms.specs.declared.term.Pattern.{Pattern}
use Rattle.ur_terms.specs.declared.term.Pattern.TheVariants as pattern
use Rattle.ur_terms.specs.declared.term.Branch.{Branch}
use Rattle.ur_terms.specs.declared.term.Term.{Term}
use Rattle.ur_terms.specs.declared.term.Term.TheVariants as t
use Rattle.ur_terms.specs.Shape.{Deed, calls, dml, nextval, set_cookie, op_deeds, deeds}
use Rattle.ur_terms.specs.Types.{Signature, OpType, Binds, Cover, by_any, by_bool, by_option, by_list, by_datatype, HasType}
use Rattle.ur_meaning.specs.Form.{Form, Language}
use Rattle.ur_meaning.specs.Unfolds as u
use Rattle.ur_meaning.specs.Unfolds.{Unfolds, Becomes, UnfoldAll, UnfoldBranches}
use Rattle.ur_meaning.proofs.Parts.{inverted}
use Rattle.ur_verify_operations.specs.Wanting.{patterns_in}
use Rattle.ur_verify.specs.Terms.{HaveAll, BranchFits}
use Rattle.ur_verify.proofs.Rows.{make_from, make_to, call_from, call_to, let_from, let_to, if_from, if_to, each_from, each_to, case_from, case_to}
use Rattle.ur_effects.proofs.Equations.{deeds-Make, deeds-Call, deeds-Let, deeds-If, deeds-Case, deeds-Each}

-- ---- lists side by side

pub some_of : {A : Type 0} (x y : A) → Some x ≡ Some y → x ≡ y
some_of x y e = cc

-- what stands beside an element
pub beside : {A B : Type 0} (R : A → B → Type 0) (xs : List A) (ys : List B) → AllZip R xs ys → (n : ℕ) (x : A) → slice_get xs n ≡ Some x
    → (y : B) × (slice_get ys n ≡ Some y) × R x y
beside R [] ys z n x e = absurd (cc)
beside R (a ∷ xs) [] z n x e = absurd z
beside R (a ∷ xs) (b ∷ ys) (r, z) zero x e = (b, refl, subst (λ w. R w b) (some_of a x e) r)
beside R (a ∷ xs) (b ∷ ys) (r, z) (suc n) x e = beside R xs ys z n x e

pub before : {A B : Type 0} (R : A → B → Type 0) (xs : List A) (ys : List B) → AllZip R xs ys → (n : ℕ) (y : B) → slice_get ys n ≡ Some y
    → (x : A) × (slice_get xs n ≡ Some x) × R x y
before R [] [] z n y e = absurd (cc)
before R [] (b ∷ ys) z n y e = absurd z
before R (a ∷ xs) [] z n y e = absurd z
before R (a ∷ xs) (b ∷ ys) (r, z) zero y e = (a, refl, subst (λ w. R a w) (some_of b y e) r)
before R (a ∷ xs) (b ∷ ys) (r, z) (suc n) y e = before R xs ys z n y e

pub mapped_at : {A B : Type 0} (f : A → B) (xs : List A) (n : ℕ) (x : A) → slice_get xs n ≡ Some x → slice_get (map f xs) n ≡ Some (f x)
mapped_at f [] n x e = absurd (cc)
mapped_at f (a ∷ xs) zero x e = ap (λ y. Some (f y)) (some_of a x e)
mapped_at f (a ∷ xs) (suc n) x e = mapped_at f xs n x e

zip_both : {A B : Type 0} (R : A → B → Type 0) (xs us : List A) (ys vs : List B) → AllZip R xs ys → AllZip R us vs → AllZip R (xs ++ us) (ys ++ vs)
zip_both R [] us [] vs z w = w
zip_both R [] us (y ∷ ys) vs z w = absurd z
zip_both R (x ∷ xs) us [] vs z w = absurd z
zip_both R (x ∷ xs) us (y ∷ ys) vs (r, z) w = (r, zip_both R xs us ys vs z w)

contains_get : {A : Type 0} (xs : List A) (w : A) (n : ℕ) → n < length xs → slice_index_or xs n w ≡ w → slice_get xs n ≡ Some w
contains_get [] w n h e = absurd (omega (arith, h))
contains_get (x ∷ xs) w zero h e = ap Some e
contains_get (x ∷ xs) w (suc n) h e = contains_get xs w n (omega (arith, h)) e

get_contains : {A : Type 0} (xs : List A) (w : A) (n : ℕ) → slice_get xs n ≡ Some w → Contains xs w
get_contains [] w n e = absurd (cc)
get_contains (x ∷ xs) w zero e = (0, omega arith, some_of x w e)
get_contains (x ∷ xs) w (suc n) e = let c = get_contains xs w n e in let below : c.0 < length xs = c.1 in (suc c.0, omega (arith, below), c.2)

-- what an element of the second list stands beside is an element of the first
pub partner : {A B : Type 0} (R : A → B → Type 0) (xs : List A) (ys : List B) → AllZip R xs ys → (y : B) → Contains ys y → (x : A) × Contains xs x × R x y
partner R xs ys z y c =
    let found = before R xs ys z c.0 y (contains_get ys y c.0 c.1 c.2) in
    (found.0, get_contains xs found.0 c.0 found.1, found.2)

-- ---- a signature with other functions

abbrev pub with_functions : Signature → List (List ValueType × ValueType) → Signature
with_functions s fs = record {
  names = s.names;
  variants = s.variants;
  cookies = s.cookies;
  queries = s.queries;
  changes = s.changes;
  sequences = s.sequences;
  routes = s.routes;
  functions = fs;
}

module _ (sig : Signature) (fs : List (List ValueType × ValueType)) where
  abbrev other : Signature
  other = with_functions sig fs

  op_same : (o : Op) (ts : List ValueType) (r : ValueType) → OpType sig o ts r → OpType other o ts r
  op_same op.Add ts r h = h
  op_same (op.Tagged c) [] r h = h
  op_same (op.Tagged c) (a ∷ ts) r h = h
  op_same _ ts r h = h

  binds_same : (x : Pattern) (a : ValueType) (bound : List ValueType) → Binds sig x a bound → Binds other x a bound
  binds_same pattern.Any a bound h = h
  binds_same _ a bound h = h

  cover_same : (ps : List Pattern) (a : ValueType) → Cover sig ps a → Cover other ps a
  cover_same ps _ (by_any a c) = by_any a c
  cover_same ps _ (by_bool c d) = by_bool c d
  cover_same ps _ (by_option a c d) = by_option a c d
  cover_same ps _ (by_list a c d) = by_list a c d
  cover_same ps _ (by_datatype d some each) = by_datatype d some each

-- ---- deeds side by side

-- a call of one instance by its two numbers, or the same deed
pub data IsAlike {K : Type 0} (is ds : List K) : Deed → Deed → Type 0 where
  called : (k : K) (j h : ℕ) → slice_get is j ≡ Some k → slice_get ds h ≡ Some k → IsAlike is ds (calls j) (calls h)
  change : IsAlike is ds dml dml
  number : IsAlike is ds nextval nextval
  cookie : IsAlike is ds set_cookie set_cookie

-- ---- two numberings

module _ {I K : Type 0} (p : Language I K) (is ds : List K) where
  -- ---- types

  module _ (sig : Signature) (fs : List (List ValueType × ValueType))
      (types : (k : K) (j h : ℕ) → slice_get is j ≡ Some k → slice_get ds h ≡ Some k → slice_get sig.functions j ≡ slice_get fs h) where
    abbrev its : Signature
    its = with_functions sig fs

    same_patterns : (l : List (Pattern × I)) (bs cs : List Branch) → UnfoldBranches p is l bs → UnfoldBranches p ds l cs → patterns_in bs ≡ patterns_in cs
    same_patterns _ _ _ u.no_branch u.no_branch = refl
    same_patterns _ _ _ (u.branch_more x i rest a bs w v) (u.branch_more _ _ _ b cs w' v') = ap (λ ps. x ∷ ps) (same_patterns rest bs cs v v')

    same_count : (l : List (Pattern × I)) (bs cs : List Branch) → UnfoldBranches p is l bs → UnfoldBranches p ds l cs → length bs ≡ length cs
    same_count _ _ _ u.no_branch u.no_branch = refl
    same_count _ _ _ (u.branch_more x i rest a bs w v) (u.branch_more _ _ _ b cs w' v') = ap suc (same_count rest bs cs v v')

    mutual
      pub typed : (i : I) (a b : Term) → Unfolds p is i a → Unfolds p ds i b → (env : List ValueType) (r : ValueType) → HasType sig env a r
          → HasType its env b r
      typed _ a b (u.by_form i _ w) v env r h = typed_form (p.form i) a b w (inverted p ds i b v) env r h

      typed_form : (f : Form I K) (a b : Term) → Becomes p is f a → Becomes p ds f b → (env : List ValueType) (r : ValueType) → HasType sig env a r
          → HasType its env b r
      typed_form _ _ _ (u.int n) (u.int _) env r h = h
      typed_form _ _ _ (u.text s) (u.text _) env r h = h
      typed_form _ _ _ (u.bool x) (u.bool _) env r h = h
      typed_form _ _ _ (u.variable n) (u.variable _) env r h = h
      typed_form _ _ _ (u.strict o items ts w) (u.strict _ _ us v) env r h =
          let m = make_to sig env o ts r h in
          make_from its env o us m.0 r (all_typed items ts us w v env m.0 m.1) (op_same sig fs o m.0 r m.2)
      typed_form _ _ _ (u.same i a w) (u.same _ b v) env r h = typed i a b w v env r h
      typed_form _ _ _ (u.choice c x y a b d w v z) (u.choice _ _ _ a' b' d' w' v' z') env r h =
          let m = if_to sig env a b d r h in
          if_from its env a' b' d' r (typed c a a' w w' env ty.Bool m.0) (typed x b b' v v' env r m.1) (typed y d d' z z' env r m.2)
      typed_form _ _ _ (u.bound items j ts b w v) (u.bound _ _ us b' w' v') env r h =
          let m = let_to sig env ts b r h in
          let_from its env us b' m.0 r (all_typed items ts us w w' env m.0 m.1) (typed j b b' v v' (m.0 ++ env) r m.2)
      typed_form _ _ _ (u.cases g l a bs w v) (u.cases _ _ a' cs w' v') env r h =
          let m = case_to sig env a bs r h in
          case_from its env a' cs m.0 r (typed g a a' w w' env m.0 m.1) (
            subst (λ n. 0 < n) (same_count l bs cs v v') m.2.0,
            All-from_recursion (λ b. BranchFits its env m.0 b r) cs
                (branches_typed l bs cs v v' env m.0 r (recursion_from_All (λ b. BranchFits sig env m.0 b r) bs m.2.1)),
          )
          (subst (λ ps. Cover its ps m.0) (same_patterns l bs cs v v') (cover_same sig fs (patterns_in bs) m.0 m.3))
      typed_form _ _ _ (u.each g body a b w v) (u.each _ _ a' b' w' v') env r h =
          let m = each_to sig env a b r h in
          each_from its env a' b' m.0 r (typed g a a' w w' env (ty.Many m.0) m.1) (typed body b b' v v' (m.0 ∷ env) r m.2) m.3
      typed_form _ _ _ (u.call k args j ts e w) (u.call _ _ n us e' w') env r h =
          let m = call_to sig env j ts r h in
          call_from its env n us m.0 r (all_typed args ts us w w' env m.0 m.1) (sym (types k j n e e') ∙ m.2)
      typed_form _ _ _ u.nothing u.nothing env r h =
          let m = if_to sig env (t.Int (pos 0)) (t.Int (pos 0)) (t.Int (pos 0)) r h in
          if_from its env (t.Int (pos 0)) (t.Int (pos 0)) (t.Int (pos 0)) r m.0 m.1 m.2

      all_typed : (l : List I) (ts us : List Term) → UnfoldAll p is l ts → UnfoldAll p ds l us → (env : List ValueType) (rs : List ValueType)
          → HaveAll sig env ts rs → HaveAll its env us rs
      all_typed _ _ _ u.no_item u.no_item env [] h = h
      all_typed _ _ _ u.no_item u.no_item env (r ∷ rs) h = absurd h
      all_typed _ _ _ (u.one_more i rest a ts w v) (u.one_more _ _ b us w' v') env [] h = absurd h
      all_typed _ _ _ (u.one_more i rest a ts w v) (u.one_more _ _ b us w' v') env (r ∷ rs) (h, hs) =
          (typed i a b w w' env r h, all_typed rest ts us v v' env rs hs)

      branches_typed : (l : List (Pattern × I)) (bs cs : List Branch) → UnfoldBranches p is l bs → UnfoldBranches p ds l cs
          → (env : List ValueType) (a r : ValueType)
          → AllByRecursion (λ b. BranchFits sig env a b r) bs → AllByRecursion (λ b. BranchFits its env a b r) cs
      branches_typed _ _ _ u.no_branch u.no_branch env a r h = tt
      branches_typed _ _ _ (u.branch_more x i rest b bs w v) (u.branch_more _ _ _ c cs w' v') env a r ((bound, binds, h), hs) =
          ((bound, binds_same sig fs x a bound binds, typed i b c w w' (bound ++ env) r h), branches_typed rest bs cs v v' env a r hs)

  -- ---- deeds

  abbrev pub Alike : List Deed → List Deed → Type 0
  Alike = AllZip (IsAlike is ds)

  ops_alike : (o : Op) → Alike (op_deeds o) (op_deeds o)
  ops_alike (op.Write update) = (change, tt)
  ops_alike (op.Next q) = (number, tt)
  ops_alike (op.SetCookie c) = (cookie, tt)
  ops_alike _ = tt

  both : (xs us ys vs : List Deed) → Alike xs ys → Alike us vs → Alike (xs ++ us) (ys ++ vs)
  both xs us ys vs z w = zip_both (IsAlike is ds) xs us ys vs z w

  abbrev of_branches : List Branch → List Deed
  of_branches bs = flat_map (λ (z : Branch). deeds z.body) bs

  alike_by : {xs us ys vs : List Deed} → xs ≡ us → ys ≡ vs → Alike us vs → Alike xs ys
  alike_by {xs} {us} {ys} {vs} e h z = subst (λ w. Alike w ys) (sym e) (subst (λ w. Alike us w) (sym h) z)

  mutual
    pub alike : (i : I) (a b : Term) → Unfolds p is i a → Unfolds p ds i b → Alike (deeds a) (deeds b)
    alike _ a b (u.by_form i _ w) v = form_alike (p.form i) a b w (inverted p ds i b v)

    form_alike : (f : Form I K) (a b : Term) → Becomes p is f a → Becomes p ds f b → Alike (deeds a) (deeds b)
    form_alike _ _ _ (u.int n) (u.int _) = tt
    form_alike _ _ _ (u.text s) (u.text _) = tt
    form_alike _ _ _ (u.bool x) (u.bool _) = tt
    form_alike _ _ _ (u.variable n) (u.variable _) = tt
    form_alike _ _ _ (u.strict o items ts w) (u.strict _ _ us v) =
        alike_by (deeds-Make o ts) (deeds-Make o us) (both (op_deeds o) (flat_map deeds ts) (op_deeds o) (flat_map deeds us) (ops_alike o) (all_alike items ts us w v))
    form_alike _ _ _ (u.same i a w) (u.same _ b v) = alike i a b w v
    form_alike _ _ _ (u.choice c x y a b d w v z) (u.choice _ _ _ a' b' d' w' v' z') =
        alike_by (deeds-If a b d) (deeds-If a' b' d') (both (deeds a ++ deeds b) (deeds d) (deeds a' ++ deeds b') (deeds d')
        (both (deeds a) (deeds b) (deeds a') (deeds b') (alike c a a' w w') (alike x b b' v v')) (alike y d d' z z'))
    form_alike _ _ _ (u.bound items j ts b w v) (u.bound _ _ us b' w' v') =
        alike_by (deeds-Let ts b) (deeds-Let us b') (both (flat_map deeds ts) (deeds b) (flat_map deeds us) (deeds b') (all_alike items ts us w w') (alike j b b' v v'))
    form_alike _ _ _ (u.cases g l a bs w v) (u.cases _ _ a' cs w' v') =
        alike_by (deeds-Case a bs) (deeds-Case a' cs) (both (deeds a) (of_branches bs) (deeds a') (of_branches cs) (alike g a a' w w') (branches_alike l bs cs v v'))
    form_alike _ _ _ (u.each g body a b w v) (u.each _ _ a' b' w' v') =
        alike_by (deeds-Each a b) (deeds-Each a' b') (both (deeds a) (deeds b) (deeds a') (deeds b') (alike g a a' w w') (alike body b b' v v'))
    form_alike _ _ _ (u.call k args j ts e w) (u.call _ _ n us e' w') =
        alike_by (deeds-Call j ts) (deeds-Call n us) (called k j n e e', all_alike args ts us w w')
    form_alike _ _ _ u.nothing u.nothing =
        let none : deeds (t.If (t.Int (pos 0)) (t.Int (pos 0)) (t.Int (pos 0))) ≡ [] = deeds-If (t.Int (pos 0)) (t.Int (pos 0)) (t.Int (pos 0)) in
        alike_by none none tt

    all_alike : (l : List I) (ts us : List Term) → UnfoldAll p is l ts → UnfoldAll p ds l us → Alike (flat_map deeds ts) (flat_map deeds us)
    all_alike _ _ _ u.no_item u.no_item = tt
    all_alike _ _ _ (u.one_more i rest a ts w v) (u.one_more _ _ b us w' v') = both (deeds a) (flat_map deeds ts) (deeds b) (flat_map deeds us) (alike i a b w w') (all_alike rest ts us v v')

    branches_alike : (l : List (Pattern × I)) (bs cs : List Branch) → UnfoldBranches p is l bs → UnfoldBranches p ds l cs
        → Alike (of_branches bs) (of_branches cs)
    branches_alike _ _ _ u.no_branch u.no_branch = tt
    branches_alike _ _ _ (u.branch_more x i rest a bs w v) (u.branch_more _ _ _ b cs w' v') = both (deeds a) (of_branches bs) (deeds b) (of_branches cs) (alike i a b w w') (branches_alike rest bs cs v v')
