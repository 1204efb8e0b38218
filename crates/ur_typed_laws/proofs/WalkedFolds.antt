-- `fold`: the walk gives what the rules say.
use Rattle.std.proofs.lemmas.Slice.Eq.{bytes_eq-Decides}
use Rattle.std.proofs.Common.{◌≡◌, ◌≢◌, ◌∙◌, refl, sym, ap, ap₂, subst, Bool, true, false, Option, Some, List, [], ◌∷◌, ◌++◌, ℕ, bytes_eq}
use Rattle.std.specs.Prelude.{◌&&◌, ◌≤◌, not, nat_le, option_map, option_and_then}
use Rattle.ur_base.specs.declared.refusal.Span.{Span}
use Rattle.ur_syntax.specs.declared.kind.Kind.TheVariants as kind
use Rattle.ur_syntax.specs.declared.con.Con.{Con}
use Rattle.ur_syntax.specs.declared.con.ConForm.{ConForm, end_of-CField as end, more_of-CField as more}
use Rattle.ur_syntax.specs.declared.con.ConForm.TheVariants as con
use Rattle.ur_syntax.specs.declared.con.CField.TheVariants as con_field
use Rattle.ur_syntax.specs.declared.con.ConParam.TheVariants as con_param
use Rattle.ur_syntax.specs.declared.con.FieldName.TheVariants as field_name
use Rattle.ur_syntax.specs.declared.exp.LambdaParam.{LambdaParam}
use Rattle.ur_syntax.specs.declared.exp.LambdaParam.TheVariants as lambda_param
use Rattle.ur_syntax.specs.declared.exp.ExpForm.{ExpForm, end_of-Exp as alone, more_of-Exp as its}
use Rattle.ur_syntax.specs.declared.exp.ExpForm.TheVariants as e
use Rattle.ur_rows.specs.declared.normal.Normal.{Normal}
use Rattle.ur_rows.specs.declared.normal.NormalType.{NormalType}
use Rattle.ur_rows.specs.declared.normal.Part.{Part as RowPart}
use Rattle.ur_rows.specs.Nodes.{nodes}
use Rattle.ur_rows.specs.Normal.{nf, as_function}
use Rattle.ur_rows.specs.Put.{as_row}
use Rattle.ur_rows.specs.Types.{at_row, is_placed}
use Rattle.ur_tree.specs.declared.exp.Param.{Param}
use Rattle.ur_tree.specs.declared.exp.Exp.{Exp}
use Rattle.ur_tree.specs.Make as make
use Rattle.ur_tree.specs.Env.{IsRow, row_is_plain}
use Rattle.ur_tree.specs.Occurrences.{Occurrence, occurrences}
use Rattle.ur_tree.specs.Typing.{step_rest, step_row, within_step}
use Rattle.ur_typed_rules.specs.Names.{Local, Names, IsWritten, WritesRow, with_local}
use Rattle.ur_typed_rules.specs.Scopes.{World, Scope, wants}
use Rattle.ur_typed_rules.specs.Tests.{same_type, is_type, is_row, is_param}
use Rattle.ur_typed_rules.proofs.Rows.{type_decided, row_decided}
use Rattle.ur_typed.specs.Resolves.{Statements}
use Rattle.ur_typed.specs.Resolves as resolves
use Rattle.ur_typed.specs.Rules.{Sites, Out, gives}
use Rattle.ur_typed.specs.Folds.{is_bare_row, is_variable, step_names_fit, Step, step_form, step_names, step_with, step_by, step_of, step_fits, fold_types}
use Rattle.ur_typed.specs.Walking.{walk, typed}
use Rattle.ur_typed_rules.specs.Rules.{if_so}
use Rattle.ur_typed_rules.proofs.Options.{then_some}
use Rattle.ur_typed_laws.specs.Judged.{Numbered, stated}
use Rattle.ur_typed_laws.proofs.Numbers.{numbered_end, numbered_both}
use Rattle.ur_typed_laws.specs.Walked.{scope_at, out_of, IsWalked, Walks}
use Rattle.ur_typed_laws.proofs.Walked.{so_true, and_true, within, typed_by, same_self, starts_left, starts_right, starts_end, IsFound, found_by}
use Rattle.ur_typed_laws.proofs.WalkedForms.{param_back}

-- ---- the form of a step

not_word : (x y : List ℕ) → x ≢ y → not (bytes_eq x y) ≡ true
not_word x y n = by_test (bytes_eq x y) refl where
  by_test : (b : Bool) → bytes_eq x y ≡ b → not b ≡ true
  by_test true h = absurd (n ((bytes_eq-Decides x y).0 h))
  by_test false h = refl

same_word : (x : List ℕ) → bytes_eq x x ≡ true
same_word x = (bytes_eq-Decides x x).1 refl

abbrev pub bare : List ℕ → ConForm
bare x = con.Row' (tt ∷ []) (more (con_field.Bare (field_name.Variable x)) end)

-- what is known of the names of a step
pub record StepNames (nm t rest : List ℕ) (left right : Con) : Type 0 where
  pub one : nm ≢ t
  pub two : nm ≢ rest
  pub three : t ≢ rest
  pub bare_name : left.form ≡ bare nm
  pub variable : right.form ≡ con.Var rest

names_back : (nm t rest : List ℕ) (left right : Con) → StepNames nm t rest left right → step_names_fit nm t rest left right ≡ true
names_back nm t rest left right n =
    let a : is_bare_row nm left.form ≡ true = ap (is_bare_row nm) n.bare_name ∙ same_word nm in
    let b : is_variable rest right.form ≡ true = ap (is_variable rest) n.variable ∙ same_word rest in
    and_true (not (bytes_eq nm t)) (not (bytes_eq nm rest) && (not (bytes_eq t rest) && (is_bare_row nm left.form && is_variable rest right.form))) (not_word nm t n.one)
    (and_true (not (bytes_eq nm rest)) (not (bytes_eq t rest) && (is_bare_row nm left.form && is_variable rest right.form)) (not_word nm rest n.two)
    (and_true (not (bytes_eq t rest)) (is_bare_row nm left.form && is_variable rest right.form) (not_word t rest n.three) (and_true (is_bare_row nm left.form) (is_variable rest right.form) a b)))

abbrev pub step_params : Step → Con → Con → List LambdaParam
step_params p left right =
    lambda_param.Con (con_param.Kinded p.nm kind.Name) ∷ lambda_param.Con (con_param.Kinded p.t kind.Star) ∷ lambda_param.Con (con_param.Kinded p.rest kind.Row) ∷ lambda_param.Con (con_param.Disjoint left right) ∷ lambda_param.Typed p.acc ∷ []

-- the scope of the step, with its parameter
abbrev inside : Step → Local → Param → Scope → Scope
inside p l acc s = record { names = with_local l (step_names p s.names); env = within_step acc s.env }

step_back : (w : World) (s : Scope) (p : Step) (left right : Con) (l : Local) (acc : Param) → StepNames p.nm p.t p.rest left right → resolves.IsParam w.most (step_names p s.names) p.acc l acc → step_of w s (step_params p left right) ≡ Some (inside p l acc s, acc)
step_back w s p left right l acc n k =
    then_some (step_by w s) (step_form (step_params p left right)) p _ (so_true (step_names_fit p.nm p.t p.rest left right) (Some p) (names_back p.nm p.t p.rest left right n))
    (ap (option_map (step_with s (step_names p s.names))) (param_back w.most (step_names p s.names) p.acc l acc k))

-- ---- the function and the row

types_back : (w : World) (s : Scope) (f r : Con) (fn : Normal) (row : List RowPart) → IsWritten w.most s.names.cons f fn → WritesRow w.most s.names.cons r row → IsRow s.env row → row_is_plain row ≡ true → fold_types w s f r ≡ Some (as_function fn, row)
types_back w s f r fn row kf kr ir pl =
    let gf : Normal = nf s.names.cons f in
    let gr : Normal = nf s.names.cons r in
    let ef : as_function gf ≡ as_function fn = ap as_function (sym kf.form) in
    let er : as_row gr ≡ row = sym (kr.2 ∙ ap as_row kr.1.form) in
    let a : nat_le (nodes gf) w.most ≡ true = within (nodes gf) w.most (subst (λ z. nodes z ≤ w.most) kf.form kf.small) in
    let b : nat_le (nodes gr) w.most ≡ true = within (nodes gr) w.most (subst (λ z. nodes z ≤ w.most) kr.1.form kr.1.small) in
    let c : is_row s.env (as_row gr) ≡ true = (row_decided s.env (as_row gr)).1 (subst (IsRow s.env) (sym er) ir) in
    let g : row_is_plain (as_row gr) ≡ true = ap row_is_plain er ∙ pl in
    let made : Option (NormalType × List RowPart) = Some (as_function gf, as_row gr) in
    so_true (nat_le (nodes gf) w.most && (nat_le (nodes gr) w.most && (is_row s.env (as_row gr) && row_is_plain (as_row gr)))) made
    (and_true (nat_le (nodes gf) w.most) (nat_le (nodes gr) w.most && (is_row s.env (as_row gr) && row_is_plain (as_row gr))) a
    (and_true (nat_le (nodes gr) w.most) (is_row s.env (as_row gr) && row_is_plain (as_row gr)) b (and_true (is_row s.env (as_row gr)) (row_is_plain (as_row gr)) c g))) ∙
    ap₂ (λ (x : NormalType) (y : List RowPart). Some (x, y)) ef er

-- ---- the whole

abbrev stepped : Scope × Param → Out → Option (Param × Out)
stepped acc i = Some (acc.1, i)

abbrev step_within : World → Scope → Sites → NormalType → ExpForm → Scope × Param → Option (Param × Out)
step_within w s st of b p = if_so (step_fits s of p) (option_and_then (stepped p) (typed w b p.0 st (wants (at_row of (step_row s.env)))))

abbrev folded_at : NormalType × List RowPart → Param × Out → Out → Option Out
folded_at t z i = gives (at_row t.0 t.1) (make.folded t.0 z.0 z.1.exp i.exp t.1) i.sites

abbrev started : World → Scope → ExpForm → NormalType × List RowPart → Param × Out → Option Out
started w s start t z = option_and_then (folded_at t z) (typed w start s z.1.sites (wants (at_row t.0 [])))

pub fold_walked : (w : World) (d : Statements) (names : Names) (f r : Con) (fn : Normal) (row : List RowPart) (p q a : Span) (start y : ExpForm) (z : Step) (left right : Con) (l : Local) (acc : Param) (start_to step : Exp) →
    IsWritten w.most names.cons f fn → WritesRow w.most names.cons r row → StepNames z.nm z.t z.rest left right → resolves.IsParam w.most (step_names z names) z.acc l acc →
    Walks w d names start start_to → Walks w d (with_local l (step_names z names)) y step →
    Walks w d names (e.Fold' f tt (its p (e.Lambda' (step_params z left right) tt (its a y alone)) alone) tt (its q start alone) r) (make.folded (as_function fn) acc step start_to row)
fold_walked w d names f r fn row p q a start y z left right l acc start_to step kf kr kn kp ks ky env m t j st g u =
    let s : Scope = scope_at names env in
    let x : ExpForm = e.Fold' f tt (its p (e.Lambda' (step_params z left right) tt (its a y alone)) alone) tt (its q start alone) r in
    let of : NormalType = as_function fn in
    let v : Exp = make.folded of acc step start_to row in
    let oa : List Occurrence = occurrences step ++ [] in let ob : List Occurrence = occurrences start_to ++ [] in
    let h : IsFound (stated d w) s m v t = found_by (stated d w) s m v t refl j in
    let i : IsWalked w d y (inside z l acc s) st (wants (at_row of (step_row env))) step (at_row of (step_row env)) =
    ky (within_step acc env) (wants (at_row of (step_row env))) (at_row of (step_row env)) (refl, h.rule.5.0, h.rule.5.1) st g (starts_end (occurrences step) (starts_left oa ob u)) in
    let na : Numbered st oa i.sites = numbered_end i.numbered in
    let k : IsWalked w d start s i.sites (wants (at_row of [])) start_to (at_row of []) =
    ks env (wants (at_row of [])) (at_row of []) (refl, h.rule.4.0, h.rule.4.1) i.sites i.fills (starts_end (occurrences start_to) (starts_right oa ob u na)) in
    let ep : is_param (within_step acc env) acc ≡ true = and_true (is_type (within_step acc env) acc.of) (is_placed acc.of) ((type_decided (within_step acc env) acc.of).1 h.rule.0.written) h.rule.0.placed in
    let fit : step_fits s of (inside z l acc s, acc) ≡ true = and_true (is_param (within_step acc env) acc) (same_type acc.of (at_row of (step_rest env))) ep (same_self acc.of (at_row of (step_rest env)) h.rule.3) in
    let es : option_and_then (step_within w s st of y) (step_of w s (step_params z left right)) ≡ Some (acc, out_of (at_row of (step_row env)) step i.sites) =
    then_some (step_within w s st of y) (step_of w s (step_params z left right)) (inside z l acc s, acc) _ (step_back w s z left right l acc kn kp)
    (so_true (step_fits s of (inside z l acc s, acc)) _ fit ∙ then_some (stepped (inside z l acc s, acc)) _ (out_of (at_row of (step_row env)) step i.sites) _ i.walked refl) in
    let tr : NormalType × List RowPart = (of, row) in
    let eh : walk w x s st m ≡ Some (out_of t v k.sites) =
    then_some _ _ tr _ (types_back w s f r fn row kf kr h.rule.1 h.rule.2)
    (then_some (started w s start (of, row)) _ (acc, out_of (at_row of (step_row env)) step i.sites) _ es
    (then_some (folded_at (of, row) (acc, out_of (at_row of (step_row env)) step i.sites)) _ (out_of (at_row of []) start_to k.sites) _ k.walked (ap (λ b. Some (out_of b v k.sites)) (sym h.rule.6)))) in
    record { sites = k.sites; walked = typed_by w x s st m (out_of t v k.sites) eh h.accepts h.fit; fills = k.fills; numbered = numbered_both na (numbered_end k.numbered) }
