-- Operators, `let` and lambdas: the walk gives what the rules say.
use Rattle.std.proofs.Common.{◌≡◌, ◌∙◌, refl, sym, ap, ap₂, subst, Bool, true, false, Some, List, [], ◌∷◌, ◌++◌, ℕ}
use Rattle.std.specs.Prelude.{◌&&◌, ◌≤◌, not, nat_le, option_map}
use Rattle.ur_base.specs.Shape.{Shape, count}
use Rattle.ur_base.specs.declared.refusal.Span.{Span}
use Rattle.ur_syntax.specs.declared.con.Con.{Con}
use Rattle.ur_syntax.specs.declared.exp.Binary.{Binary as WrittenBinary}
use Rattle.ur_syntax.specs.declared.exp.Binder.TheVariants as binder
use Rattle.ur_syntax.specs.declared.exp.Param.{Param as WrittenParam}
use Rattle.ur_syntax.specs.declared.exp.LambdaParam.{LambdaParam}
use Rattle.ur_syntax.specs.declared.exp.ExpForm.{ExpForm, end_of-Exp as alone, more_of-Exp as its, Row_of-LetVal, end_of-LetVal, more_of-LetVal}
use Rattle.ur_syntax.specs.declared.exp.ExpForm.TheVariants as e
use Rattle.ur_rows.specs.declared.normal.Normal.{Normal}
use Rattle.ur_rows.specs.declared.normal.NormalType.{NormalType}
use Rattle.ur_rows.specs.declared.normal.NormalType.TheVariants as ty
use Rattle.ur_rows.specs.Made.{record_of}
use Rattle.ur_rows.specs.Nodes.{nodes}
use Rattle.ur_rows.specs.Normal.{nf}
use Rattle.ur_rows.specs.Order.{joined}
use Rattle.ur_rows.specs.Put.{as_type}
use Rattle.ur_rows.specs.Types.{list_of, arrows_of, holds_arrow, is_value_type}
use Rattle.ur_tree.specs.Scalars.{is_basic, is_ordered}
use Rattle.ur_tree.specs.declared.exp.Exp.{Exp}
use Rattle.ur_tree.specs.declared.exp.Exp.TheBlock.{end_of-Exp as no_more, more_of-Exp as one_more}
use Rattle.ur_tree.specs.declared.exp.Binary.{Binary}
use Rattle.ur_tree.specs.declared.exp.Binary.TheVariants as binary
use Rattle.ur_tree.specs.declared.exp.Param.{Param}
use Rattle.ur_tree.specs.Make as make
use Rattle.ur_tree.specs.Env.{with_value, within_lambda, IsType}
use Rattle.ur_tree.specs.Occurrences.{Occurrence, occurrences}
use Rattle.ur_tree.specs.Typing.{Operation, of_two, compares, joins, operation, Found, Wanted, TwoSides, Accepts, AreParams, types_of, has_rule}
use Rattle.ur_typed_rules.specs.Names.{Local, Names, WritesType, AreDistinct, with_local, with_locals, bound_name, local_of, param_of}
use Rattle.ur_typed_rules.specs.Names as here
use Rattle.ur_typed_rules.specs.Scopes.{World, Scope, Mode, finds, wants, within_binder, within_params, of_list, of_result}
use Rattle.ur_typed_rules.specs.Tests.{is_apart, is_type, are_distinct, are_params}
use Rattle.ur_typed_rules.proofs.Rows.{two_rows, type_decided}
use Rattle.ur_typed_rules.proofs.Decided.{names_decided, params_decided}
use Rattle.ur_typed.specs.Resolves.{Statements, IsOperator, IsParam, AreLambdaParams}
use Rattle.ur_typed.specs.Rules.{Sites, fits, operator_of, left_mode, right_mode, left_may, join_types, operation_type, let_out}
use Rattle.ur_typed.specs.Walking.{walk, typed}
use Rattle.ur_typed_rules.specs.Rules.{written_type, and_params, param_out, params_out}
use Rattle.ur_typed_rules.proofs.Options.{then_some}
use Rattle.ur_typed_laws.specs.Judged.{Numbered, stated, Judged}
use Rattle.ur_typed_laws.specs.Walked.{scope_at, out_of, IsWalked, Walks}
use Rattle.ur_typed_laws.proofs.Numbers.{numbered_end, numbered_both}
use Rattle.ur_typed_laws.proofs.Binding.{finds_result, wants_result}
use Rattle.ur_typed_laws.proofs.Walked.{so_true, and_true, within, typed_by, same_self, starts_left, starts_right, starts_end, IsFound, found_by, row_back}

-- ---- operators

-- what an operator asks of its sides, in the order in which they are looked at
record IsSided (w : World) (s : Scope) (m : Mode) (op : Operation) (a b : Exp) (t : NormalType) : Type 0 where
  left : NormalType
  right : NormalType
  first : Judged w s (left_mode op m) a left
  may : left_may op left ≡ true
  second : Judged w s (right_mode op left) b right
  gives_type : operation_type s.env.known op left right ≡ Some t

abbrev Sides : World → Scope → Operation → Exp → Exp → NormalType → Type 0
Sides w s op a b t = TwoSides op s.env.known (Found w.declared w.most s.env (one_more a no_more)) (Wanted w.declared w.most s.env (one_more a no_more)) (Found w.declared w.most s.env (one_more b no_more)) (Wanted w.declared w.most s.env (one_more b no_more)) t

two_sided : (w : World) (s : Scope) (m : Mode) (u v : NormalType) (a b : Exp) (t : NormalType) → Sides w s (of_two u v) a b t → IsSided w s m (of_two u v) a b t
two_sided w s m u v a b t r = record { left = u; right = u; first = (refl, r.1.0, r.1.1); may = refl; second = (refl, r.2.0, r.2.1); gives_type = ap (λ z. Some z) (sym r.0) }

compare_sided : (w : World) (s : Scope) (m : Mode) (test : NormalType → Bool) (a b : Exp) (t : NormalType) → Sides w s (compares test) a b t → IsSided w s m (compares test) a b t
compare_sided w s m test a b t r = record { left = r.1.0; right = r.1.0; first = (r.1.1.0, r.1.1.1); may = r.1.2; second = (refl, r.1.3.0, r.1.3.1); gives_type = ap (λ z. Some z) (sym r.0) }

join_sided : (w : World) (s : Scope) (m : Mode) (a b : Exp) (t : NormalType) → Sides w s joins a b t → IsSided w s m joins a b t
join_sided w s m a b t r =
    let i : is_apart s.env.known r.0 r.1 ≡ true = (two_rows s.env.known r.0 r.1).1 r.5 in
    record {
      left = record_of r.0;
      right = record_of r.1;
      first = (r.3.0, r.3.1);
      may = refl;
      second = (r.4.0, r.4.1);
      gives_type = ap₂ (join_types s.env.known) (row_back r.0) (row_back r.1) ∙ (so_true (is_apart s.env.known r.0 r.1) (Some (record_of (joined r.0 r.1))) i ∙ ap (λ z. Some z) (sym r.2));
    }

record IsBinary (w : World) (s : Scope) (m : Mode) (o : Binary) (a b : Exp) (t : NormalType) : Type 0 where
  sides : IsSided w s m (operation o) a b t
  accepts : Accepts w.most (make.binary o a b) t
  fit : fits m t ≡ true

cons_judged : (w : World) (s : Scope) (m : Mode) (a b : Exp) (t : NormalType) → Judged w s m (make.binary binary.Cons a b) t → IsBinary w s m binary.Cons a b t
cons_judged w s finds a b t j = record {
  sides = record { left = j.0.0; right = list_of j.0.0; first = (j.0.2.0, j.0.2.1); may = refl; second = (refl, j.0.3.0, j.0.3.1); gives_type = ap (λ z. Some z) (sym j.0.1) };
  accepts = j.1;
  fit = refl;
}
cons_judged w s (wants v) a b t j =
    let c : Judged w s (of_list (wants v)) a j.1.0 = subst (λ z. Judged w s (of_list (wants z)) a j.1.0) (sym j.1.1) (refl, j.1.2.0, j.1.2.1) in
    let k : Wanted w.declared w.most s.env (one_more b no_more) (list_of j.1.0) = subst (λ z. Wanted w.declared w.most s.env (one_more b no_more) z) j.1.1 (j.1.3.0, j.1.3.1) in
    let f : Judged w s (wants (list_of j.1.0)) b v = (j.1.1, k.0, k.1) in
    record {
      sides = record { left = j.1.0; right = v; first = c; may = refl; second = f; gives_type = ap (λ z. Some z) (sym (j.0 ∙ j.1.1)) };
      accepts = subst (λ z. Accepts w.most (make.binary binary.Cons a b) z) (sym j.0) j.2;
      fit = same_self t v j.0;
    }

found_sides : (w : World) (s : Scope) (m : Mode) (o : Binary) (a b : Exp) (t : NormalType) → has_rule (make.binary o a b) ≡ false → (Sides w s (operation o) a b t → IsSided w s m (operation o) a b t) → Judged w s m (make.binary o a b) t → IsBinary w s m o a b t
found_sides w s m o a b t h k j = let q : IsFound w s m (make.binary o a b) t = found_by w s m (make.binary o a b) t h j in record { sides = k q.rule; accepts = q.accepts; fit = q.fit }

binary_judged : (w : World) (s : Scope) (m : Mode) (o : Binary) (a b : Exp) (t : NormalType) → Judged w s m (make.binary o a b) t → IsBinary w s m o a b t
binary_judged w s m binary.Cons a b t j = cons_judged w s m a b t j
binary_judged w s m binary.Join a b t j = found_sides w s m binary.Join a b t refl (join_sided w s m a b t) j
binary_judged w s m binary.Add a b t j = found_sides w s m binary.Add a b t refl (two_sided w s m ty.Int ty.Int a b t) j
binary_judged w s m binary.Sub a b t j = found_sides w s m binary.Sub a b t refl (two_sided w s m ty.Int ty.Int a b t) j
binary_judged w s m binary.Mul a b t j = found_sides w s m binary.Mul a b t refl (two_sided w s m ty.Int ty.Int a b t) j
binary_judged w s m binary.Div a b t j = found_sides w s m binary.Div a b t refl (two_sided w s m ty.Int ty.Int a b t) j
binary_judged w s m binary.Rem a b t j = found_sides w s m binary.Rem a b t refl (two_sided w s m ty.Int ty.Int a b t) j
binary_judged w s m binary.Append a b t j = found_sides w s m binary.Append a b t refl (two_sided w s m ty.Str ty.Str a b t) j
binary_judged w s m binary.And a b t j = found_sides w s m binary.And a b t refl (two_sided w s m ty.Bool ty.Bool a b t) j
binary_judged w s m binary.Or a b t j = found_sides w s m binary.Or a b t refl (two_sided w s m ty.Bool ty.Bool a b t) j
binary_judged w s m binary.Equal a b t j = found_sides w s m binary.Equal a b t refl (compare_sided w s m is_basic a b t) j
binary_judged w s m binary.Unequal a b t j = found_sides w s m binary.Unequal a b t refl (compare_sided w s m is_basic a b t) j
binary_judged w s m binary.Less a b t j = found_sides w s m binary.Less a b t refl (compare_sided w s m is_ordered a b t) j
binary_judged w s m binary.LessEqual a b t j = found_sides w s m binary.LessEqual a b t refl (compare_sided w s m is_ordered a b t) j
binary_judged w s m binary.Greater a b t j = found_sides w s m binary.Greater a b t refl (compare_sided w s m is_ordered a b t) j
binary_judged w s m binary.GreaterEqual a b t j = found_sides w s m binary.GreaterEqual a b t refl (compare_sided w s m is_ordered a b t) j

operator_is : (o : WrittenBinary) (q : Binary) → IsOperator o q → operator_of o ≡ q
operator_is _ _ IsOperator.or = refl
operator_is _ _ IsOperator.and = refl
operator_is _ _ IsOperator.equal = refl
operator_is _ _ IsOperator.unequal = refl
operator_is _ _ IsOperator.less = refl
operator_is _ _ IsOperator.less_equal = refl
operator_is _ _ IsOperator.greater = refl
operator_is _ _ IsOperator.greater_equal = refl
operator_is _ _ IsOperator.cons = refl
operator_is _ _ IsOperator.append = refl
operator_is _ _ IsOperator.join = refl
operator_is _ _ IsOperator.add = refl
operator_is _ _ IsOperator.sub = refl
operator_is _ _ IsOperator.mul = refl
operator_is _ _ IsOperator.div = refl
operator_is _ _ IsOperator.rem = refl

sides_walked : (w : World) (d : Statements) (names : Names) (o : WrittenBinary) (p q : Span) (x y : ExpForm) (a b : Exp) → Walks w d names x a → Walks w d names y b → Walks w d names (e.Binary' o tt (its p x alone) tt (its q y alone)) (make.binary (operator_of o) a b)
sides_walked w d names o p q x y a b ka kb env m t j st g n =
    let s : Scope = scope_at names env in
    let f : ExpForm = e.Binary' o tt (its p x alone) tt (its q y alone) in
    let v : Exp = make.binary (operator_of o) a b in
    let oa : List Occurrence = occurrences a ++ [] in let ob : List Occurrence = occurrences b ++ [] in
    let u : IsBinary (stated d w) s m (operator_of o) a b t = binary_judged (stated d w) s m (operator_of o) a b t j in
    let z : IsSided (stated d w) s m (operation (operator_of o)) a b t = u.sides in
    let i : IsWalked w d x s st (left_mode (operation (operator_of o)) m) a z.left = ka env (left_mode (operation (operator_of o)) m) z.left z.first st g (starts_end (occurrences a) (starts_left oa ob n)) in
    let na : Numbered st oa i.sites = numbered_end i.numbered in
    let k : IsWalked w d y s i.sites (right_mode (operation (operator_of o)) z.left) b z.right = kb env (right_mode (operation (operator_of o)) z.left) z.right z.second i.sites i.fills (starts_end (occurrences b) (starts_right oa ob n na)) in
    let h : walk w f s st m ≡ Some (out_of t v k.sites) =
    then_some _ _ (out_of z.left a i.sites) _ i.walked (so_true (left_may (operation (operator_of o)) z.left) _ z.may ∙ then_some _ _ (out_of z.right b k.sites) _ k.walked (then_some _ _ t _ z.gives_type refl)) in
    record { sites = k.sites; walked = typed_by w f s st m (out_of t v k.sites) h u.accepts u.fit; fills = k.fills; numbered = numbered_both na (numbered_end k.numbered) }

pub operator_walked : (w : World) (d : Statements) (names : Names) (o : WrittenBinary) (r : Binary) (p q : Span) (x y : ExpForm) (a b : Exp) → IsOperator o r → Walks w d names x a → Walks w d names y b → Walks w d names (e.Binary' o tt (its p x alone) tt (its q y alone)) (make.binary r a b)
operator_walked w d names o r p q x y a b i ka kb = subst (λ z. Walks w d names (e.Binary' o tt (its p x alone) tt (its q y alone)) (make.binary z a b)) (operator_is o r i) (sides_walked w d names o p q x y a b ka kb)

-- ---- `let`

-- a type that is written in its scope, and may stand there
pub written_back : (w : World) (s : Scope) (c : Con) (u : NormalType) → WritesType w.most s.names.cons c u → IsType s.env u → written_type w s c ≡ Some u
written_back w s c u k t =
    let n : Normal = nf s.names.cons c in
    let i : u ≡ as_type n = k.2 ∙ ap as_type k.1.form in
    let a : nat_le (nodes n) w.most ≡ true = within (nodes n) w.most (subst (λ z. nodes z ≤ w.most) k.1.form k.1.small) in
    let b : is_type s.env (as_type n) ≡ true = (type_decided s.env (as_type n)).1 (subst (IsType s.env) i t) in
    so_true (nat_le (nodes n) w.most && is_type s.env (as_type n)) (Some (as_type n)) (and_true (nat_le (nodes n) w.most) (is_type s.env (as_type n)) a b) ∙ ap (λ z. Some z) (sym i)

record IsLocal (w : World) (names : Names) (s : Scope) (m : Mode) (x : List ℕ) (u : NormalType) (a b : Exp) (t : NormalType) : Type 0 where
  written : IsType s.env u
  value : is_value_type u ≡ true
  first : Judged w s (wants u) a u
  second : Judged w (scope_at (with_local (here.value (Some x)) names) (with_value u s.env)) m b t
  accepts : Accepts w.most (make.local u a b) t
  fit : fits m t ≡ true

local_judged : (w : World) (names : Names) (s : Scope) (m : Mode) (x : List ℕ) (u : NormalType) (a b : Exp) (t : NormalType) → Judged w s m (make.local u a b) t → IsLocal w names s m x u a b t
local_judged w names s finds x u a b t j = record { written = j.0.0; value = j.0.1; first = (refl, j.0.2.0, j.0.2.1); second = (j.0.3.0, j.0.3.1); accepts = j.1; fit = refl }
local_judged w names s (wants v) x u a b t j =
    subst (λ z. IsLocal w names s (wants v) x u a b z) (sym j.0) (record { written = j.1.0; value = j.1.1; first = (refl, j.1.2.0, j.1.2.1); second = (refl, j.1.3.0, j.1.3.1); accepts = j.2; fit = same_self v v refl })

-- one `val`, and what is behind it
let_walked : (w : World) (d : Statements) (names : Names) (f : ExpForm) (x : List ℕ) (c : Con) (y z : ExpForm) (u : NormalType) (a b : Exp) → ((s : Scope) (st : Sites) (m : Mode) → walk w f s st m ≡ let_out w s st m x c (typed w y) (typed w z)) → WritesType w.most names.cons c u →
    Walks w d names y a → Walks w d (with_local (here.value (Some x)) names) z b → Walks w d names f (make.local u a b)
let_walked w d names f x c y z u a b eq k ka kb env m t j st g n =
    let s : Scope = scope_at names env in
    let v : Exp = make.local u a b in
    let oa : List Occurrence = occurrences a ++ [] in let ob : List Occurrence = occurrences b ++ [] in
    let l : IsLocal (stated d w) names s m x u a b t = local_judged (stated d w) names s m x u a b t j in
    let i : IsWalked w d y s st (wants u) a u = ka env (wants u) u l.first st g (starts_end (occurrences a) (starts_left oa ob n)) in
    let na : Numbered st oa i.sites = numbered_end i.numbered in
    let q : IsWalked w d z (within_binder (binder.Named x) u s) i.sites m b t = kb (with_value u env) m t l.second i.sites i.fills (starts_end (occurrences b) (starts_right oa ob n na)) in
    let h : walk w f s st m ≡ Some (out_of t v q.sites) =
    eq s st m ∙ then_some _ _ u _ (written_back w s c u k l.written) (so_true (is_value_type u) _ l.value ∙ then_some _ _ (out_of u a i.sites) _ i.walked (then_some _ _ (out_of t b q.sites) _ q.walked refl)) in
    record { sites = q.sites; walked = typed_by w f s st m (out_of t v q.sites) h l.accepts l.fit; fills = q.fills; numbered = numbered_both na (numbered_end q.numbered) }

pub local_last_walked : (w : World) (d : Statements) (names : Names) (p q r : Span) (x : List ℕ) (c : Con) (y z : ExpForm) (u : NormalType) (a b : Exp) → WritesType w.most names.cons c u → Walks w d names y a → Walks w d (with_local (here.value (Some x)) names) z b →
    Walks w d names (e.Let' (tt ∷ []) (more_of-LetVal p x c q y end_of-LetVal) tt (its r z alone)) (make.local u a b)
local_last_walked w d names p q r x c y z u a b k ka kb = let_walked w d names (e.Let' (tt ∷ []) (more_of-LetVal p x c q y end_of-LetVal) tt (its r z alone)) x c y z u a b (λ s st m. refl) k ka kb

-- the `val`s behind the first are a `let` of their own
local_more_walk : (w : World) (p q r : Span) (n : Shape) (x : List ℕ) (c : Con) (y z : ExpForm) (rest : Row_of-LetVal (count (tt ∷ n))) (s : Scope) (st : Sites) (m : Mode) →
    walk w (e.Let' (tt ∷ tt ∷ n) (more_of-LetVal p x c q y rest) tt (its r z alone)) s st m ≡ let_out w s st m x c (typed w y) (typed w (e.Let' (tt ∷ n) rest tt (its r z alone)))
local_more_walk w p q r n x c y z (more_of-LetVal p' x' c' q' y' rest) s st m = refl

pub local_more_walked : (w : World) (d : Statements) (names : Names) (p q r : Span) (n : Shape) (x : List ℕ) (c : Con) (y z : ExpForm) (u : NormalType) (a b : Exp) (rest : Row_of-LetVal (count (tt ∷ n))) → WritesType w.most names.cons c u → Walks w d names y a →
    Walks w d (with_local (here.value (Some x)) names) (e.Let' (tt ∷ n) rest tt (its r z alone)) b → Walks w d names (e.Let' (tt ∷ tt ∷ n) (more_of-LetVal p x c q y rest) tt (its r z alone)) (make.local u a b)
local_more_walked w d names p q r n x c y z u a b rest k ka kb =
    let_walked w d names (e.Let' (tt ∷ tt ∷ n) (more_of-LetVal p x c q y rest) tt (its r z alone)) x c y (e.Let' (tt ∷ n) rest tt (its r z alone)) u a b (λ s st m. local_more_walk w p q r n x c y z rest s st m) k ka kb

-- ---- lambdas

pub param_back : (most : ℕ) (names : Names) (p : WrittenParam) (l : Local) (q : Param) → IsParam most names p l q → param_out most names p ≡ Some (l, q)
param_back most names _ _ _ (IsParam.typed {x = x} {c = c} {t = t} k) =
    let n : Normal = nf names.cons c in
    let i : as_type n ≡ t = sym (k.2 ∙ ap as_type k.1.form) in
    let a : nat_le (nodes n) most ≡ true = within (nodes n) most (subst (λ z. nodes z ≤ most) k.1.form k.1.small) in
    ap (option_map (λ u. (local_of (bound_name x) u, param_of u))) (so_true (nat_le (nodes n) most) (Some (as_type n)) a ∙ ap (λ z. Some z) i)
param_back most names _ _ _ IsParam.nothing = refl

params_back : (most : ℕ) (names : Names) (ps : List LambdaParam) (ls : List Local) (out : List Param) → AreLambdaParams most names ps ls out → params_out most names ps ≡ Some (ls, out)
params_back most names _ _ _ AreLambdaParams.none = refl
params_back most names _ _ _ (AreLambdaParams.one {p = p} {l = l} {q = q} {params = ps} {ls = ls} {out = out} k r) =
    then_some (λ i. option_map (and_params i) (params_out most names ps)) (param_out most names p) (l, q) _ (param_back most names p l q k) (ap (option_map (and_params (l, q))) (params_back most names ps ls out r))

record IsClosed (w : World) (s : Scope) (m : Mode) (ls : List Local) (ps : List Param) (b : Exp) (t : NormalType) : Type 0 where
  result : NormalType
  is : t ≡ arrows_of (types_of ps) result
  params : AreParams s.env ps
  no_arrow : not (holds_arrow result) ≡ true
  body : Judged w (within_params ls ps s) (of_result ps m) b result
  accepts : Accepts w.most (make.lambda ps b) t
  fit : fits m t ≡ true

lambda_judged : (w : World) (s : Scope) (m : Mode) (ls : List Local) (ps : List Param) (b : Exp) (t : NormalType) → Judged w s m (make.lambda ps b) t → IsClosed w s m ls ps b t
lambda_judged w s finds ls ps b t j = record {
  result = j.0.1.0;
  is = j.0.1.1;
  params = j.0.0;
  no_arrow = j.0.1.2;
  body = subst (λ z. Judged w (within_params ls ps s) z b j.0.1.0) (sym (finds_result ps)) (j.0.1.3.0, j.0.1.3.1);
  accepts = j.1;
  fit = refl;
}
lambda_judged w s (wants v) ls ps b t j = record {
  result = j.1.1.0;
  is = j.0 ∙ j.1.1.1;
  params = j.1.0;
  no_arrow = j.1.1.2;
  body = subst (λ z. Judged w (within_params ls ps s) z b j.1.1.0) (sym (wants_result ps j.1.1.0 v (sym j.1.1.1))) (refl, j.1.1.3.0, j.1.1.3.1);
  accepts = subst (λ z. Accepts w.most (make.lambda ps b) z) (sym j.0) j.2;
  fit = same_self t v j.0;
}

pub lambda_walked : (w : World) (d : Statements) (names : Names) (params : List LambdaParam) (ls : List Local) (out : List Param) (p : Span) (x : ExpForm) (b : Exp) → AreLambdaParams w.most names params ls out → AreDistinct ls → Walks w d (with_locals ls names) x b →
    Walks w d names (e.Lambda' params tt (its p x alone)) (make.lambda out b)
lambda_walked w d names params ls out p x b kp kd kb env m t j st g n =
    let s : Scope = scope_at names env in
    let f : ExpForm = e.Lambda' params tt (its p x alone) in
    let u : IsClosed (stated d w) s m ls out b t = lambda_judged (stated d w) s m ls out b t j in
    let i : IsWalked w d x (within_params ls out s) st (of_result out m) b u.result = kb (within_lambda out env) (of_result out m) u.result u.body st g (starts_end (occurrences b) n) in
    let a : (are_distinct ls && are_params env out) ≡ true = and_true (are_distinct ls) (are_params env out) ((names_decided ls).1 kd) ((params_decided env out).1 u.params).0 in
    let h : walk w f s st m ≡ Some (out_of t (make.lambda out b) i.sites) =
    then_some _ _ (ls, out) _ (params_back w.most names params ls out kp) (so_true (are_distinct ls && are_params env out) _ a ∙ then_some _ _ (out_of u.result b i.sites) _ i.walked
    (so_true (not (holds_arrow u.result)) _ u.no_arrow ∙ ap (λ z. Some (out_of z (make.lambda out b) i.sites)) (sym u.is))) in
    record { sites = i.sites; walked = typed_by w f s st m (out_of t (make.lambda out b) i.sites) h u.accepts u.fit; fills = i.fills; numbered = numbered_end i.numbered }
