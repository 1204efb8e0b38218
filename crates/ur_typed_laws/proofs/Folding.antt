-- `fold`: what is typed resolves and has its type by the rules.
use Rattle.std.proofs.Common.{◌≡◌, ◌≢◌, ◌∙◌, refl, sym, ap, subst, Bool, true, false, Option, Some, None, List, [], ◌∷◌, ℕ}
use Rattle.std.specs.Prelude.{◌&&◌, not, nat_le, bytes_eq, option_and_then}
use Rattle.ur_base.specs.Shape.{Shape, count}
use Rattle.ur_base.specs.declared.refusal.Span.{Span}
use Rattle.ur_syntax.specs.declared.kind.Kind.TheVariants as kind
use Rattle.ur_syntax.specs.declared.con.Con.{Con}
use Rattle.ur_syntax.specs.declared.con.ConForm.{ConForm, Row_of-CField, end_of-CField as end, more_of-CField as more}
use Rattle.ur_syntax.specs.declared.con.ConForm.TheVariants as con
use Rattle.ur_syntax.specs.declared.con.CField.TheVariants as con_field
use Rattle.ur_syntax.specs.declared.con.ConParam.TheVariants as con_param
use Rattle.ur_syntax.specs.declared.con.FieldName.TheVariants as field_name
use Rattle.ur_syntax.specs.declared.exp.LambdaParam.{LambdaParam}
use Rattle.ur_syntax.specs.declared.exp.LambdaParam.TheVariants as lambda_param
use Rattle.ur_syntax.specs.declared.exp.ExpForm.{ExpForm, end_of-Exp as alone, more_of-Exp as its}
use Rattle.ur_syntax.specs.declared.exp.ExpForm.TheVariants as e
use Rattle.ur_rows.specs.declared.normal.Normal.{Normal}
use Rattle.ur_rows.specs.declared.normal.NormalType.{NormalType}
use Rattle.ur_rows.specs.declared.normal.Part.{Part as RowPart}
use Rattle.ur_rows.specs.Nodes.{nodes}
use Rattle.ur_rows.specs.Normal.{nf, as_function}
use Rattle.ur_rows.specs.Put.{as_row}
use Rattle.ur_rows.specs.Types.{at_row, holds_arrow, is_placed}
use Rattle.ur_tree.specs.declared.exp.Param.{Param}
use Rattle.ur_tree.specs.declared.exp.Exp.{Exp}
use Rattle.ur_tree.specs.Make as make
use Rattle.ur_tree.specs.Env.{Env, IsRow, row_is_plain}
use Rattle.ur_tree.specs.Typing.{Finds, Checks, Accepts, IsParam, step_rest, step_row, within_step}
use Rattle.ur_typed_rules.specs.Names.{Local, IsWritten, WritesRow, with_local}
use Rattle.ur_typed_rules.specs.Scopes.{World, Scope, wants}
use Rattle.ur_typed_rules.specs.Tests.{same_type, is_type, is_row, is_param}
use Rattle.ur_typed_rules.proofs.Rows.{type_decided, row_decided}
use Rattle.ur_typed.specs.Resolves.{Resolves}
use Rattle.ur_typed.specs.Resolves as resolves
use Rattle.ur_typed.specs.Rules.{Sites, Out, gives}
use Rattle.ur_typed.specs.Folds.{is_bare_field, is_bare_row, is_variable, step_names_fit, Step, step_form, step_names, step_with, step_by, step_of, step_fits, step_out, fold_types, fold_with}
use Rattle.ur_typed.specs.Walking.{typed, step_walk}
use Rattle.ur_typed.specs.Causes.{is_lambda}
use Rattle.ur_typed_laws.specs.Judged.{AreTold, stated, IsSound, Sound}
use Rattle.ur_typed_laws.proofs.Sound.{at_most, IsSettled, settled_by, judged_by, sound_at}
use Rattle.ur_typed_laws.proofs.Binding.{param_is, param_static}
use Rattle.ur_typed_laws.proofs.Numbers.{numbered_end, numbered_both}
use Rattle.ur_typed_rules.specs.Rules.{if_so, param_out}
use Rattle.ur_typed_rules.proofs.Options.{some_of, opened, opened_if, both_true, mapped}
use Rattle.ur_typed.proofs.Shapes.{word_is, word_is_not, lambda_is}

-- ---- the form of a step

abbrev bare : List ℕ → ConForm
bare x = con.Row' (tt ∷ []) (more (con_field.Bare (field_name.Variable x)) end)

bare_fields : (x : List ℕ) (s : Shape) (fs : Row_of-CField (count s)) → is_bare_field x fs ≡ true → con.Row' s fs ≡ bare x
bare_fields x [] end h = cc
bare_fields x (t ∷ []) (more (con_field.Bare (field_name.Variable y)) end) h = ap bare (sym (word_is x y h))
bare_fields x (t ∷ []) (more (con_field.Bare (field_name.Literal y)) end) h = cc
bare_fields x (t ∷ []) (more (con_field.Given' f p c) end) h = cc
bare_fields x (t ∷ u ∷ s) (more (con_field.Bare (field_name.Variable y)) (more b rest)) h = cc
bare_fields x (t ∷ u ∷ s) (more (con_field.Bare (field_name.Literal y)) (more b rest)) h = cc
bare_fields x (t ∷ u ∷ s) (more (con_field.Given' f p c) (more b rest)) h = cc

bare_is : (x : List ℕ) (c : ConForm) → is_bare_row x c ≡ true → c ≡ bare x
bare_is x (con.Row' s fs) h = bare_fields x s fs h
bare_is x _ h = cc

variable_is : (x : List ℕ) (c : ConForm) → is_variable x c ≡ true → c ≡ con.Var x
variable_is x (con.Var y) h = ap (λ z. con.Var z) (sym (word_is x y h))
variable_is x _ h = cc

not_true : (b : Bool) → not b ≡ true → b ≡ false
not_true true h = cc
not_true false h = refl

-- the parameters of a step, as they are written
abbrev step_params : Step → Con → Con → List LambdaParam
step_params p left right =
    lambda_param.Con (con_param.Kinded p.nm kind.Name) ∷ lambda_param.Con (con_param.Kinded p.t kind.Star) ∷ lambda_param.Con (con_param.Kinded p.rest kind.Row) ∷ lambda_param.Con (con_param.Disjoint left right) ∷ lambda_param.Typed p.acc ∷ []

record StepForm (ps : List LambdaParam) (p : Step) : Type 0 where
  left : Con
  right : Con
  is : ps ≡ step_params p left right
  fit : step_names_fit p.nm p.t p.rest left right ≡ true

step_form_is : (ps : List LambdaParam) (p : Step) → step_form ps ≡ Some p → StepForm ps p
step_form_is (lambda_param.Con (con_param.Kinded nm kind.Name) ∷ lambda_param.Con (con_param.Kinded t kind.Star) ∷ lambda_param.Con (con_param.Kinded rest kind.Row) ∷ lambda_param.Con (con_param.Disjoint one other) ∷ lambda_param.Typed acc ∷ []) p h =
    let z : Step = record { nm = nm; t = t; rest = rest; acc = acc } in
    let q : (step_names_fit nm t rest one other ≡ true) × (Some z ≡ Some p) = opened_if (step_names_fit nm t rest one other) (Some z) p h in
    let f : StepForm (step_params z one other) z = record { left = one; right = other; is = refl; fit = q.0 } in
    subst (StepForm (step_params z one other)) (some_of q.1) f
step_form_is _ p h = cc

record NamesFit (nm t rest : List ℕ) (left right : Con) : Type 0 where
  distinct : (nm ≢ t) × (nm ≢ rest) × (t ≢ rest)
  bare_name : left.form ≡ bare nm
  variable : right.form ≡ con.Var rest

names_fit : (nm t rest : List ℕ) (left right : Con) → step_names_fit nm t rest left right ≡ true → NamesFit nm t rest left right
names_fit nm t rest left right h =
    let a : (not (bytes_eq nm t) ≡ true) × ((not (bytes_eq nm rest) && (not (bytes_eq t rest) && (is_bare_row nm left.form && is_variable rest right.form))) ≡ true) =
    both_true (not (bytes_eq nm t)) (not (bytes_eq nm rest) && (not (bytes_eq t rest) && (is_bare_row nm left.form && is_variable rest right.form))) h in
    let b : (not (bytes_eq nm rest) ≡ true) × ((not (bytes_eq t rest) && (is_bare_row nm left.form && is_variable rest right.form)) ≡ true) = both_true (not (bytes_eq nm rest)) (not (bytes_eq t rest) && (is_bare_row nm left.form && is_variable rest right.form)) a.1 in
    let c : (not (bytes_eq t rest) ≡ true) × ((is_bare_row nm left.form && is_variable rest right.form) ≡ true) = both_true (not (bytes_eq t rest)) (is_bare_row nm left.form && is_variable rest right.form) b.1 in
    let k : (is_bare_row nm left.form ≡ true) × (is_variable rest right.form ≡ true) = both_true (is_bare_row nm left.form) (is_variable rest right.form) c.1 in
    record {
      distinct = (word_is_not nm t (not_true (bytes_eq nm t) a.0), word_is_not nm rest (not_true (bytes_eq nm rest) b.0), word_is_not t rest (not_true (bytes_eq t rest) c.0));
      bare_name = bare_is nm left.form k.0;
      variable = variable_is rest right.form k.1;
    }

-- ---- the step of a fold in its scope

record StepIs (w : World) (s : Scope) (ps : List LambdaParam) (acc : Scope × Param) : Type 0 where
  step : Step
  local : Local
  form : StepForm ps step
  param : resolves.IsParam w.most (step_names step s.names) step.acc local acc.1
  names : acc.0.names ≡ with_local local (step_names step s.names)
  env : acc.0.env ≡ within_step acc.1 s.env
  static : acc.1.fixed ≡ holds_arrow acc.1.of

step_is : (w : World) (s : Scope) (ps : List LambdaParam) (acc : Scope × Param) → step_of w s ps ≡ Some acc → StepIs w s ps acc
step_is w s ps acc h =
    let a : (p : Step) × (step_form ps ≡ Some p) × (step_by w s p ≡ Some acc) = opened _ _ acc h in
    let f : StepForm ps a.0 = step_form_is ps a.0 a.1 in
    let i : (z : Local × Param) × (param_out w.most (step_names a.0 s.names) a.0.acc ≡ Some z) × (step_with s (step_names a.0 s.names) z ≡ acc) = mapped _ _ acc a.2 in
    subst (StepIs w s ps) i.2 (record {
      step = a.0;
      local = i.0.0;
      form = f;
      param = param_is w.most (step_names a.0 s.names) a.0.acc i.0 i.1;
      names = refl;
      env = refl;
      static = param_static w.most (step_names a.0 s.names) a.0.acc i.0 i.1;
    })

is_param_by : (env : Env) (p : Param) → is_param env p ≡ true → p.fixed ≡ holds_arrow p.of → IsParam env p
is_param_by env p h f =
    let a : (is_type env p.of ≡ true) × (is_placed p.of ≡ true) = both_true (is_type env p.of) (is_placed p.of) h in
    record { written = (type_decided env p.of).0 a.0; placed = a.1; fixed = f }

-- ---- the function and the row

record TypesAre (w : World) (s : Scope) (f r : Con) (t : NormalType × List RowPart) : Type 0 where
  function : Normal
  written : IsWritten w.most s.names.cons f function
  of : t.0 ≡ as_function function
  row : WritesRow w.most s.names.cons r t.1
  is_row : IsRow s.env t.1
  plain : row_is_plain t.1 ≡ true

types_are : (w : World) (s : Scope) (f r : Con) (t : NormalType × List RowPart) → fold_types w s f r ≡ Some t → TypesAre w s f r t
types_are w s f r t h =
    let fn : Normal = nf s.names.cons f in
    let n : Normal = nf s.names.cons r in
    let b : Bool = nat_le (nodes n) w.most && (is_row s.env (as_row n) && row_is_plain (as_row n)) in
    let z : NormalType × List RowPart = (as_function fn, as_row n) in
    let q : ((nat_le (nodes fn) w.most && b) ≡ true) × (Some z ≡ Some t) = opened_if (nat_le (nodes fn) w.most && b) (Some z) t h in
    let c : (nat_le (nodes fn) w.most ≡ true) × (b ≡ true) = both_true (nat_le (nodes fn) w.most) b q.0 in
    let u : (nat_le (nodes n) w.most ≡ true) × ((is_row s.env (as_row n) && row_is_plain (as_row n)) ≡ true) = both_true (nat_le (nodes n) w.most) (is_row s.env (as_row n) && row_is_plain (as_row n)) c.1 in
    let v : (is_row s.env (as_row n) ≡ true) × (row_is_plain (as_row n) ≡ true) = both_true (is_row s.env (as_row n)) (row_is_plain (as_row n)) u.1 in
    subst (TypesAre w s f r) (some_of q.1) (record {
      function = fn;
      written = record { form = refl; small = at_most (nodes fn) w.most c.0 };
      of = refl;
      row = (n, record { form = refl; small = at_most (nodes n) w.most u.0 }, refl);
      is_row = (row_decided s.env (as_row n)).0 v.0;
      plain = v.1;
    })

-- ---- the whole

abbrev JudgedStep : World → Env → Exp → NormalType → Type 0
JudgedStep w env x t = Checks w.declared w.most env x t × Accepts w.most x t

abbrev stepped : Scope × Param → Out → Option (Param × Out)
stepped acc i = Some (acc.1, i)

abbrev folded_at : NormalType × List RowPart → Param × Out → Out → Option Out
folded_at t z i = gives (at_row t.0 t.1) (make.folded t.0 z.0 z.1.exp i.exp t.1) i.sites

abbrev a_fold : Con → Span → List LambdaParam → Span → ExpForm → Span → ExpForm → Con → ExpForm
a_fold f p ps a b q start r = e.Fold' f tt (its p (e.Lambda' ps tt (its a b alone)) alone) tt (its q start alone) r

fold_lambda : AreTold → (w : World) (f : Con) (p : Span) (ps : List LambdaParam) (a : Span) (b : ExpForm) (q : Span) (start : ExpForm) (r : Con) → Sound w b → Sound w start → Sound w (a_fold f p ps a b q start r)
fold_lambda told w f p ps a b q start r kb ks s st m o h d g =
    let y : ExpForm = a_fold f p ps a b q start r in
    let v : IsSettled w y s st m o = settled_by w y s st m o h in
    let t : (i : NormalType × List RowPart) × (fold_types w s f r ≡ Some i) × (fold_with s st (λ of. step_out w s st of ps (typed w b)) (typed w start) i ≡ Some o) = opened _ _ o v.walked in
    let c : (z : Param × Out) × (step_out w s st t.0.0 ps (typed w b) ≡ Some z) × (option_and_then (folded_at t.0 z) (typed w start s z.1.sites (wants (at_row t.0.0 []))) ≡ Some o) = opened _ _ o t.2 in
    let u : (acc : Scope × Param) × (step_of w s ps ≡ Some acc) × (if_so (step_fits s t.0.0 acc) (option_and_then (stepped acc) (typed w b acc.0 st (wants (at_row t.0.0 (step_row s.env))))) ≡ Some c.0) = opened _ _ c.0 c.1 in
    let n : (step_fits s t.0.0 u.0 ≡ true) × (option_and_then (stepped u.0) (typed w b u.0.0 st (wants (at_row t.0.0 (step_row s.env)))) ≡ Some c.0) = opened_if (step_fits s t.0.0 u.0) _ c.0 u.2 in
    let j : (i : Out) × (typed w b u.0.0 st (wants (at_row t.0.0 (step_row s.env))) ≡ Some i) × (stepped u.0 i ≡ Some c.0) = opened _ _ c.0 n.1 in
    let l : (i : Out) × (typed w start s j.0.sites (wants (at_row t.0.0 [])) ≡ Some i) × (folded_at t.0 (u.0.1, j.0) i ≡ Some o) =
    opened _ _ o (subst (λ (z : Param × Out). option_and_then (folded_at t.0 z) (typed w start s z.1.sites (wants (at_row t.0.0 []))) ≡ Some o) (sym (some_of j.2)) c.2) in
    let x : StepIs w s ps u.0 = step_is w s ps u.0 u.1 in
    let ts : TypesAre w s f r t.0 = types_are w s f r t.0 t.1 in
    let nn : NamesFit x.step.nm x.step.t x.step.rest x.form.left x.form.right = names_fit x.step.nm x.step.t x.step.rest x.form.left x.form.right x.form.fit in
    let ft : (is_param u.0.0.env u.0.1 ≡ true) × (same_type u.0.1.of (at_row t.0.0 (step_rest s.env)) ≡ true) = both_true (is_param u.0.0.env u.0.1) (same_type u.0.1.of (at_row t.0.0 (step_rest s.env))) n.0 in
    let out : Out = record { of = at_row t.0.0 t.0.1; exp = make.folded t.0.0 u.0.1 j.0.exp l.0.exp t.0.1; sites = l.0.sites } in
    sound_at w y s st m d out o v l.2 g (λ acc fit g'.
    let is : IsSound w start s j.0.sites (wants (at_row t.0.0 [])) d l.0 = ks s j.0.sites (wants (at_row t.0.0 [])) l.0 l.1 d g' in
    let ib : IsSound w b u.0.0 st (wants (at_row t.0.0 (step_row s.env))) d j.0 = kb u.0.0 st (wants (at_row t.0.0 (step_row s.env))) j.0 j.1 d is.before in
    let rb : Resolves d w.most w.globals (stated d w).declared (with_local x.local (step_names x.step s.names)) b j.0.exp = subst (λ z. Resolves d w.most w.globals (stated d w).declared z b j.0.exp) x.names ib.resolves in
    let res : Resolves d w.most w.globals (stated d w).declared s.names (a_fold f p (step_params x.step x.form.left x.form.right) a b q start r) (make.folded (as_function ts.function) u.0.1 j.0.exp l.0.exp t.0.1) =
    resolves.fold ts.written ts.row nn.distinct nn.bare_name nn.variable x.param is.resolves rb in
    let is_p : IsParam (within_step u.0.1 s.env) u.0.1 = subst (λ z. IsParam z u.0.1) x.env (is_param_by u.0.0.env u.0.1 ft.0 x.static) in
    let jb : JudgedStep (stated d w) (within_step u.0.1 s.env) j.0.exp (at_row t.0.0 (step_row s.env)) = subst (λ z. JudgedStep (stated d w) z j.0.exp (at_row t.0.0 (step_row s.env))) x.env (ib.judged.1, ib.judged.2) in
    let F : Finds (stated d w).declared w.most s.env out.exp out.of = (is_p, ts.is_row, ts.plain, told u.0.1.of (at_row t.0.0 (step_rest s.env)) ft.1, (is.judged.1, is.judged.2), (jb.0, jb.1), refl) in
    record {
      before = ib.before;
      numbered = numbered_both (numbered_end ib.numbered) (numbered_end is.numbered);
      resolves = subst (λ z. Resolves d w.most w.globals (stated d w).declared s.names (a_fold f p z a b q start r) out.exp) (sym x.form.is)
          (subst (λ z. Resolves d w.most w.globals (stated d w).declared s.names (a_fold f p (step_params x.step x.form.left x.form.right) a b q start r) (make.folded z u.0.1 j.0.exp l.0.exp t.0.1)) (sym ts.of) res);
      judged = judged_by told (stated d w) s m out.exp out.of F F acc fit;
    })

-- ---- a step that is no function

no_step : (w : World) (s : Scope) (st : Sites) (t : NormalType) (p : Span) (x : ExpForm) → is_lambda x ≡ false → step_walk w (its p x alone) s st t ≡ None
no_step w s st t p (e.Lambda' ps _ x) h = cc
no_step w s st t p _ h = refl

fold_other : (w : World) (f : Con) (p : Span) (x : ExpForm) (q : Span) (start : ExpForm) (r : Con) → is_lambda x ≡ false → Sound w (e.Fold' f tt (its p x alone) tt (its q start alone) r)
fold_other w f p x q start r i s st m o h d g =
    let y : ExpForm = e.Fold' f tt (its p x alone) tt (its q start alone) r in
    let v : IsSettled w y s st m o = settled_by w y s st m o h in
    let t : (z : NormalType × List RowPart) × (fold_types w s f r ≡ Some z) × (fold_with s st (λ of. step_walk w (its p x alone) s st of) (typed w start) z ≡ Some o) = opened _ _ o v.walked in
    let c : (z : Param × Out) × (step_walk w (its p x alone) s st t.0.0 ≡ Some z) × (option_and_then (folded_at t.0 z) (typed w start s z.1.sites (wants (at_row t.0.0 []))) ≡ Some o) = opened _ _ o t.2 in
    absurd (none_is (sym (no_step w s st t.0.0 p x i) ∙ c.1)) where
      none_is : {A : Type 0} {x : A} → None ≡ Some x → ⊥
      none_is i = cc

-- the body of a function is sound
abbrev pub BodyIsSound : World → ExpForm → Type 0
BodyIsSound w (e.Lambda' ps _ (its a b alone)) = Sound w b
BodyIsSound w _ = Unit {0}

pub fold_sound : AreTold → (w : World) (f : Con) (p : Span) (x : ExpForm) (q : Span) (start : ExpForm) (r : Con) → BodyIsSound w x → Sound w start → Sound w (e.Fold' f tt (its p x alone) tt (its q start alone) r)
fold_sound told w f p x q start r kx ks = by_lambda (is_lambda x) refl where
  by_lambda : (b : Bool) → is_lambda x ≡ b → Sound w (e.Fold' f tt (its p x alone) tt (its q start alone) r)
  by_lambda true i =
      let l : (ps : List LambdaParam) × (a : Span) × (b : ExpForm) × (x ≡ e.Lambda' ps tt (its a b alone)) = lambda_is x i in
      subst (λ z. Sound w (e.Fold' f tt (its p z alone) tt (its q start alone) r)) (sym l.3) (fold_lambda told w f p l.0 l.1 l.2 q start r (subst (BodyIsSound w) l.3 kx) ks)
  by_lambda false i = fold_other w f p x q start r i
