-- `let` and lambdas: what is typed resolves and has its type by the rules.
use Rattle.std.proofs.Common.{◌≡◌, ◌∙◌, refl, sym, subst, true, Option, Some, None, List, [], ◌∷◌, ℕ}
use Rattle.std.specs.Prelude.{◌&&◌, not, nat_le, option_map, option_and_then}
use Rattle.ur_base.specs.Shape.{Shape, count}
use Rattle.ur_base.specs.declared.refusal.Span.{Span}
use Rattle.ur_syntax.specs.declared.con.Con.{Con}
use Rattle.ur_syntax.specs.declared.exp.Binder.TheVariants as binder
use Rattle.ur_syntax.specs.declared.exp.Param.{Param as WrittenParam}
use Rattle.ur_syntax.specs.declared.exp.Param.TheVariants as written_param
use Rattle.ur_syntax.specs.declared.exp.LambdaParam.{LambdaParam}
use Rattle.ur_syntax.specs.declared.exp.LambdaParam.TheVariants as lambda_param
use Rattle.ur_syntax.specs.declared.exp.ExpForm.{ExpForm, end_of-Exp as alone, more_of-Exp as its, Row_of-LetVal, end_of-LetVal, more_of-LetVal}
use Rattle.ur_syntax.specs.declared.exp.ExpForm.TheVariants as e
use Rattle.ur_rows.specs.declared.normal.Normal.{Normal}
use Rattle.ur_rows.specs.declared.normal.NormalType.{NormalType}
use Rattle.ur_rows.specs.Nodes.{nodes}
use Rattle.ur_rows.specs.Normal.{nf}
use Rattle.ur_rows.specs.Put.{as_type}
use Rattle.ur_rows.specs.Types.{arrows_of, holds_arrow, is_value_type}
use Rattle.ur_tree.specs.declared.exp.Param.{Param}
use Rattle.ur_tree.specs.declared.exp.Exp.{Exp}
use Rattle.ur_tree.specs.Make as make
use Rattle.ur_tree.specs.Env.{IsType}
use Rattle.ur_tree.specs.Typing.{Checks, Accepts, AreParams, types_of}
use Rattle.ur_typed_rules.specs.Names.{Local, Names, WritesType, with_local, bound_name, local_of, param_of}
use Rattle.ur_typed_rules.specs.Names as here
use Rattle.ur_typed_rules.specs.Laws.{AreStaticByType}
use Rattle.ur_typed_rules.specs.Scopes.{World, Scope, Mode, finds, wants, within_binder, within_params, of_result}
use Rattle.ur_typed_rules.specs.Tests.{is_type, are_distinct, are_params}
use Rattle.ur_typed_rules.proofs.Rows.{type_decided}
use Rattle.ur_typed_rules.proofs.Decided.{names_decided, params_decided}
use Rattle.ur_typed.specs.Resolves.{Statements, Resolves, IsParam, AreLambdaParams}
use Rattle.ur_typed.specs.Resolves as resolves
use Rattle.ur_typed.specs.Rules.{Sites, Out, fits, gives, let_with, let_out, lambda_with}
use Rattle.ur_typed.specs.Walking.{typed, walk}
use Rattle.ur_typed_laws.specs.Judged.{AreTold, stated, Judged, IsSound, Sound}
use Rattle.ur_typed_laws.proofs.Sound.{at_most, IsSettled, settled_by, sound_at}
use Rattle.ur_typed_laws.proofs.Numbers.{numbered_end, numbered_both}
use Rattle.ur_typed_rules.specs.Rules.{if_so, written_type, Params, and_params, small_type, param_out, params_out}
use Rattle.ur_typed_rules.proofs.Options.{some_of, opened, opened_if, both_true, mapped}

-- ---- `let`

-- a written type that may stand in its scope
pub written_is : (w : World) (s : Scope) (c : Con) (u : NormalType) → written_type w s c ≡ Some u → WritesType w.most s.names.cons c u × IsType s.env u
written_is w s c u h =
    let n : Normal = nf s.names.cons c in
    let q : ((nat_le (nodes n) w.most && is_type s.env (as_type n)) ≡ true) × (Some (as_type n) ≡ Some u) = opened_if (nat_le (nodes n) w.most && is_type s.env (as_type n)) (Some (as_type n)) u h in
    let b : (nat_le (nodes n) w.most ≡ true) × (is_type s.env (as_type n) ≡ true) = both_true (nat_le (nodes n) w.most) (is_type s.env (as_type n)) q.0 in
    ((n, record { form = refl; small = at_most (nodes n) w.most b.0 }, sym (some_of q.1)), subst (IsType s.env) (some_of q.1) ((type_decided s.env (as_type n)).0 b.1))

let_judged : (w : World) (s : Scope) (m : Mode) (x : List ℕ) (u : NormalType) (a b : Exp) (t : NormalType) → IsType s.env u → is_value_type u ≡ true → Checks w.declared w.most s.env a u × Accepts w.most a u → Judged w (within_binder (binder.Named x) u s) m b t → Accepts w.most (make.local u a b) t →
    Judged w s m (make.local u a b) t
let_judged w s finds x u a b t it iv ja jb acc = ((it, iv, (ja.0, ja.1), (jb.0, jb.1)), acc)
let_judged w s (wants v) x u a b t it iv ja jb acc = (jb.0, (it, iv, (ja.0, ja.1), (jb.1, jb.2)), subst (λ z. Accepts w.most (make.local u a b) z) jb.0 acc)

abbrev localized : NormalType → Out → Out → Option Out
localized u i b = gives b.of (make.local u i.exp b.exp) b.sites

abbrev Rule : World → ExpForm → List ℕ → Con → ExpForm → ExpForm → Type 0
Rule w y x c a z = (d : Statements) (s : Scope) (u : NormalType) (A B : Exp) → WritesType w.most s.names.cons c u → Resolves d w.most w.globals (stated d w).declared s.names a A →
    Resolves d w.most w.globals (stated d w).declared (with_local (here.value (Some x)) s.names) z B → Resolves d w.most w.globals (stated d w).declared s.names y (make.local u A B)

-- one `val`, and what is behind it
let_whole : (w : World) (y : ExpForm) (x : List ℕ) (c : Con) (a z : ExpForm) → Rule w y x c a z → ((s : Scope) (st : Sites) (m : Mode) → walk w y s st m ≡ let_out w s st m x c (typed w a) (typed w z)) →
    Sound w a → Sound w z → Sound w y
let_whole w y x c a z rule eq ka kz s st m o h d g =
    let v : IsSettled w y s st m o = settled_by w y s st m o h in
    let l : let_out w s st m x c (typed w a) (typed w z) ≡ Some o = sym (eq s st m) ∙ v.walked in
    let q : (u : NormalType) × (written_type w s c ≡ Some u) × (let_with s st m x (typed w a) (typed w z) u ≡ Some o) = opened _ _ o l in
    let r : (is_value_type q.0 ≡ true) × (option_and_then (λ i. option_and_then (localized q.0 i) (typed w z (within_binder (binder.Named x) q.0 s) i.sites m)) (typed w a s st (wants q.0)) ≡ Some o) = opened_if (is_value_type q.0) _ o q.2 in
    let t : (i : Out) × (typed w a s st (wants q.0) ≡ Some i) × (option_and_then (localized q.0 i) (typed w z (within_binder (binder.Named x) q.0 s) i.sites m) ≡ Some o) = opened _ _ o r.1 in
    let p : (j : Out) × (typed w z (within_binder (binder.Named x) q.0 s) t.0.sites m ≡ Some j) × (localized q.0 t.0 j ≡ Some o) = opened _ _ o t.2 in
    let i : WritesType w.most s.names.cons c q.0 × IsType s.env q.0 = written_is w s c q.0 q.1 in
    let b : Out = record { of = p.0.of; exp = make.local q.0 t.0.exp p.0.exp; sites = p.0.sites } in
    sound_at w y s st m d b o v p.2 g (λ acc fit g'.
    let iz : IsSound w z (within_binder (binder.Named x) q.0 s) t.0.sites m d p.0 = kz (within_binder (binder.Named x) q.0 s) t.0.sites m p.0 p.1 d g' in
    let ia : IsSound w a s st (wants q.0) d t.0 = ka s st (wants q.0) t.0 t.1 d iz.before in
    record {
      before = ia.before;
      numbered = numbered_both (numbered_end ia.numbered) (numbered_end iz.numbered);
      resolves = rule d s q.0 t.0.exp p.0.exp i.0 ia.resolves iz.resolves;
      judged = let_judged (stated d w) s m x q.0 t.0.exp p.0.exp p.0.of i.1 r.0 (ia.judged.1, ia.judged.2) iz.judged acc;
    })

abbrev pub ValsAreSound : World → {n : _} → Row_of-LetVal n → Type 0
ValsAreSound w end_of-LetVal = Unit {0}
ValsAreSound w (more_of-LetVal p x c q a rest) = Sound w a × ValsAreSound w rest

empty_let : (w : World) (r : Span) (b : ExpForm) → Sound w (e.Let' [] end_of-LetVal tt (its r b alone))
empty_let w r b s st m o h d g = let a : IsSettled w (e.Let' [] end_of-LetVal tt (its r b alone)) s st m o = settled_by w (e.Let' [] end_of-LetVal tt (its r b alone)) s st m o h in let n : ◌≡◌ {A = Option Out} None (Some o) = a.walked in cc

pub let_sound : (w : World) (n : Shape) (vs : Row_of-LetVal (count n)) (r : Span) (b : ExpForm) → ValsAreSound w vs → Sound w b → Sound w (e.Let' n vs tt (its r b alone))
let_sound w [] end_of-LetVal r b k kb = empty_let w r b
let_sound w (t ∷ []) (more_of-LetVal p x c q a end_of-LetVal) r b k kb =
    let_whole w (e.Let' (tt ∷ []) (more_of-LetVal p x c q a end_of-LetVal) tt (its r b alone)) x c a b (λ d s u A B i ra rb. resolves.local_last i ra rb) (λ s st m. refl) k.0 kb
let_sound w (t ∷ u ∷ n) (more_of-LetVal p x c q a (more_of-LetVal p' x' c' q' a' rest)) r b k kb =
    let_whole w (e.Let' (tt ∷ tt ∷ n) (more_of-LetVal p x c q a (more_of-LetVal p' x' c' q' a' rest)) tt (its r b alone)) x c a (e.Let' (tt ∷ n) (more_of-LetVal p' x' c' q' a' rest) tt (its r b alone)) (λ d s u A B i ra rb. resolves.local_more i ra rb) (λ s st m. refl)
    k.0 (let_sound w (u ∷ n) (more_of-LetVal p' x' c' q' a' rest) r b k.1 kb)

-- ---- parameters

pub param_is : (most : ℕ) (names : Names) (p : WrittenParam) (out : Local × Param) → param_out most names p ≡ Some out → IsParam most names p out.0 out.1
param_is most names (written_param.Value x c) out h =
    let n : Normal = nf names.cons c in
    let q : (t : NormalType) × (small_type most n ≡ Some t) × ((local_of (bound_name x) t, param_of t) ≡ out) = mapped _ _ out h in
    let r : (nat_le (nodes n) most ≡ true) × (Some (as_type n) ≡ Some q.0) = opened_if (nat_le (nodes n) most) (Some (as_type n)) q.0 q.1 in
    subst (λ (z : Local × Param). IsParam most names (written_param.Value x c) z.0 z.1) q.2 (resolves.IsParam.typed (n, record { form = refl; small = at_most (nodes n) most r.0 }, sym (some_of r.1)))
param_is most names written_param.Unit out h = subst (λ (z : Local × Param). IsParam most names written_param.Unit z.0 z.1) (some_of h) resolves.IsParam.nothing

-- a parameter is static exactly where its type holds an arrow
pub param_static : (most : ℕ) (names : Names) (p : WrittenParam) (out : Local × Param) → param_out most names p ≡ Some out → out.1.fixed ≡ holds_arrow out.1.of
param_static most names (written_param.Value x c) out h =
    let q : (t : NormalType) × (small_type most (nf names.cons c) ≡ Some t) × ((local_of (bound_name x) t, param_of t) ≡ out) = mapped _ _ out h in
    subst (λ (z : Local × Param). z.1.fixed ≡ holds_arrow z.1.of) q.2 refl
param_static most names written_param.Unit out h = subst (λ (z : Local × Param). z.1.fixed ≡ holds_arrow z.1.of) (some_of h) refl

params_are : (most : ℕ) (names : Names) (ps : List LambdaParam) (out : Params) → params_out most names ps ≡ Some out → AreLambdaParams most names ps out.0 out.1
params_are most names [] out h = subst (λ (z : Params). AreLambdaParams most names [] z.0 z.1) (some_of h) resolves.AreLambdaParams.none
params_are most names (lambda_param.Typed p ∷ ps) out h =
    let q : (i : Local × Param) × (param_out most names p ≡ Some i) × (option_map (and_params i) (params_out most names ps) ≡ Some out) = opened _ _ out h in
    let r : (z : Params) × (params_out most names ps ≡ Some z) × (and_params q.0 z ≡ out) = mapped _ _ out q.2 in
    subst (λ (z : Params). AreLambdaParams most names (lambda_param.Typed p ∷ ps) z.0 z.1) r.2 (resolves.AreLambdaParams.one (param_is most names p q.0 q.1) (params_are most names ps r.0 r.1))
params_are most names (lambda_param.Con c ∷ ps) out h = cc
params_are most names (lambda_param.Bare b ∷ ps) out h = cc

params_static : (most : ℕ) (names : Names) (ps : List LambdaParam) (out : Params) → params_out most names ps ≡ Some out → AreStaticByType out.1
params_static most names [] out h = subst (λ (z : Params). AreStaticByType z.1) (some_of h) tt
params_static most names (lambda_param.Typed p ∷ ps) out h =
    let q : (i : Local × Param) × (param_out most names p ≡ Some i) × (option_map (and_params i) (params_out most names ps) ≡ Some out) = opened _ _ out h in
    let r : (z : Params) × (params_out most names ps ≡ Some z) × (and_params q.0 z ≡ out) = mapped _ _ out q.2 in
    subst (λ (z : Params). AreStaticByType z.1) r.2 (param_static most names p q.0 q.1, params_static most names ps r.0 r.1)
params_static most names (lambda_param.Con c ∷ ps) out h = cc
params_static most names (lambda_param.Bare b ∷ ps) out h = cc

-- ---- lambdas

pub finds_result : (ps : List Param) → of_result ps finds ≡ finds
finds_result [] = refl
finds_result (p ∷ ps) = refl

result_of : (ps : List Param) (t : NormalType) → of_result ps (wants (arrows_of (types_of ps) t)) ≡ wants t
result_of [] t = refl
result_of (p ∷ ps) t = result_of ps t

pub wants_result : (ps : List Param) (t v : NormalType) → arrows_of (types_of ps) t ≡ v → of_result ps (wants v) ≡ wants t
wants_result ps t v q = subst (λ z. of_result ps (wants z) ≡ wants t) q (result_of ps t)

lambda_judged : AreTold → (w : World) (s : Scope) (m : Mode) (ls : List Local) (ps : List Param) (b : Exp) (t : NormalType) → AreParams s.env ps → not (holds_arrow t) ≡ true → Judged w (within_params ls ps s) (of_result ps m) b t →
    Accepts w.most (make.lambda ps b) (arrows_of (types_of ps) t) → fits m (arrows_of (types_of ps) t) ≡ true → Judged w s m (make.lambda ps b) (arrows_of (types_of ps) t)
lambda_judged told w s finds ls ps b t pa na j acc fit =
    let i : Judged w (within_params ls ps s) finds b t = subst (λ n. Judged w (within_params ls ps s) n b t) (finds_result ps) j in ((pa, (t, refl, na, (i.0, i.1))), acc)
lambda_judged told w s (wants v) ls ps b t pa na j acc fit =
    let q : arrows_of (types_of ps) t ≡ v = told (arrows_of (types_of ps) t) v fit in
    let i : Judged w (within_params ls ps s) (wants t) b t = subst (λ n. Judged w (within_params ls ps s) n b t) (wants_result ps t v q) j in
    (q, (pa, (t, sym q, na, (i.1, i.2))), subst (λ z. Accepts w.most (make.lambda ps b) z) q acc)

abbrev closed_over : Params → Out → Option Out
closed_over ps i = gives (arrows_of (types_of ps.1) i.of) (make.lambda ps.1 i.exp) i.sites

pub lambda_sound : AreTold → (w : World) (params : List LambdaParam) (p : Span) (b : ExpForm) → Sound w b → Sound w (e.Lambda' params tt (its p b alone))
lambda_sound told w params p b kb s st m o h d g =
    let y : ExpForm = e.Lambda' params tt (its p b alone) in
    let v : IsSettled w y s st m o = settled_by w y s st m o h in
    let q : (ps : Params) × (params_out w.most s.names params ≡ Some ps) × (lambda_with s st m (typed w b) ps ≡ Some o) = opened _ _ o v.walked in
    let r : ((are_distinct q.0.0 && are_params s.env q.0.1) ≡ true) × (option_and_then (λ i. if_so (not (holds_arrow i.of)) (closed_over q.0 i)) (typed w b (within_params q.0.0 q.0.1 s) st (of_result q.0.1 m)) ≡ Some o) =
    opened_if (are_distinct q.0.0 && are_params s.env q.0.1) _ o q.2 in
    let c : (are_distinct q.0.0 ≡ true) × (are_params s.env q.0.1 ≡ true) = both_true (are_distinct q.0.0) (are_params s.env q.0.1) r.0 in
    let l : (i : Out) × (typed w b (within_params q.0.0 q.0.1 s) st (of_result q.0.1 m) ≡ Some i) × (if_so (not (holds_arrow i.of)) (closed_over q.0 i) ≡ Some o) = opened _ _ o r.1 in
    let a : (not (holds_arrow l.0.of) ≡ true) × (closed_over q.0 l.0 ≡ Some o) = opened_if (not (holds_arrow l.0.of)) (closed_over q.0 l.0) o l.2 in
    let out : Out = record { of = arrows_of (types_of q.0.1) l.0.of; exp = make.lambda q.0.1 l.0.exp; sites = l.0.sites } in
    sound_at w y s st m d out o v a.1 g (λ acc fit g'.
    let i : IsSound w b (within_params q.0.0 q.0.1 s) st (of_result q.0.1 m) d l.0 = kb (within_params q.0.0 q.0.1 s) st (of_result q.0.1 m) l.0 l.1 d g' in
    record {
      before = i.before;
      numbered = numbered_end i.numbered;
      resolves = resolves.lambda (params_are w.most s.names params q.0 q.1) ((names_decided q.0.0).0 c.0) i.resolves;
      judged = lambda_judged told (stated d w) s m q.0.0 q.0.1 l.0.exp l.0.of ((params_decided s.env q.0.1).0 (c.1, params_static w.most s.names params q.0 q.1)) a.0 i.judged acc fit;
    })
