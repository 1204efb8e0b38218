-- The statements that the walk numbers fit the tables, where those before do.
use Rattle.std.proofs.Common.{Option, Some, None, List, [], ◌∷◌, ℕ}
use Rattle.std.specs.Prelude.{codes, ◌&&◌, option_map, option_and_then}
use Rattle.ur_values.specs.declared.schema.Schema.{Schema}
use Rattle.ur_syntax.specs.declared.exp.Binder.TheVariants as binder
use Rattle.ur_syntax.specs.declared.exp.ExpForm.{ExpForm, Row_of-Exp, end_of-Exp as alone, more_of-Exp as its, Row_of-Field, end_of-Field, more_of-Field, Row_of-Branch, end_of-Branch, more_of-Branch, Row_of-LetVal, end_of-LetVal, more_of-LetVal}
use Rattle.ur_syntax.specs.declared.exp.ExpForm.TheVariants as form
use Rattle.ur_rows.specs.declared.normal.NormalType.{NormalType}
use Rattle.ur_rows.specs.declared.normal.NormalType.TheVariants as ty
use Rattle.ur_rows.specs.declared.normal.Part.{Part}
use Rattle.ur_tree.specs.declared.exp.Unary.TheVariants as unary
use Rattle.ur_typed_rules.specs.Scopes.{World, Scope, Mode}
use Rattle.ur_sqltype.specs.SqltypeFits.{QueryOfFits, ChangeOfFits}
use Rattle.ur_typed.specs.Rules.{Sites, Out, Walk, settled, settling, function_named, operator_of, is_literally, are_literal_rest}
use Rattle.ur_typed.specs.Walking.{with_calls, walk, spine, vals_walk, let_walk, branches_walk, fields_walk, antiquotes_walk, cookie_walk, cookie_field_walk, row_walk, step_walk, splices_walk, attributes_walk, call_walk, typed}
use Rattle.ur_xmltype.specs.Literal.{row_of_parts}
use Rattle.ur_typed_laws.specs.Fitting.{SitesFit, StatementsFit}
use Rattle.ur_typed_laws.proofs.Options.{Brings, none_brings, some_brings, then_brings, if_brings}
use Rattle.ur_typed_laws.proofs.Rules.{OutFits, BranchesFit, FieldsFit, AntiquotesFit, StepFits, WalkFits, WalksFit, no_walks, one_walk, var_fits, member_fits, con_applied_fits, constructor_fits, member_constructor_fits, empty_fits, applied_fits, one_fits, show_fits, some_fits, return_fits, error_fits, sides_fit, choice_fits, no_branches_fit, branch_fits, case_fits, let_fits, bind_fits, lambda_fits, field_fits, record_fits, project_fits, cut_fits, step_brings, fold_fits, next_fits, get_cookie_fits, set_cookie_fits, antiquote_fits, write_fits, ask_fits, each_fits, row_fits}
use Rattle.ur_typed_laws.proofs.StatementLawsMarks.{SplicesFit, no_splices, one_splice, CallsFit, no_call, a_call, AttributesFit, no_attributes, one_attribute, literal_fits}

settles : {t : Schema} (most : ℕ) (m : Mode) (a : Option Out) → Brings (OutFits t) a → Brings (OutFits t) (option_and_then (settled most m) a)
settles most m a h = then_brings h (λ o i. if_brings _ (some_brings i))

call_at_last : {t : Schema} (fs : List Walk) → WalksFit t fs → (o : Option ℕ) → CallsFit t (option_map (with_calls fs) o)
call_at_last fs h None = no_call
call_at_last fs h (Some f) = a_call h

module _ (queries : QueryOfFits) (changes : ChangeOfFits) (w : World) where
  abbrev t : Schema
  t = w.globals.tables

  -- a walk of an expression that is settled
  abbrev by : ExpForm → Walk
  by x = settling w (λ s st m. walk w x s st m)

  abbrev Fits : ExpForm → Type 0
  Fits x = (s : Scope) (st : Sites) (m : Mode) → SitesFit t st → Brings (OutFits t) (walk w x s st m)

  fitted : (x : ExpForm) → Fits x → WalkFits t (by x)
  fitted x k = record { on = λ s st m h. settles w.most m (walk w x s st m) (k s st m h) }

  mutual
    walks : (x : ExpForm) → Fits x
    walks (form.Int n) s st m h = some_brings h
    walks (form.Str x) s st m h = some_brings h
    walks form.Unit s st m h = some_brings h
    walks (form.Var x) s st m h = var_fits w s st x h
    walks (form.Member m' x) s st m h = member_fits w s st m' x h
    walks (form.Constructor x) s st m h = constructor_fits w st m x h
    walks (form.MemberConstructor m' x) s st m h = member_constructor_fits w st m' x h
    walks form.Nil s st m h = empty_fits st m h
    walks (form.ConApp' _ x c) s st m h = con_applied_fits w s st (form.ConApp' tt x c) h
    walks (form.App' _ (its p f alone) _ (its q a alone)) s st m h = spines f s st (by f) (by a ∷ []) (fitted f (walks f)) (one_walk (fitted a (walks a)) no_walks) h
    walks (form.Negative' _ (its p a alone)) s st m h = one_fits unary.Neg ty.Int ty.Int s st (by a) (fitted a (walks a)) h
    walks (form.Not' _ (its p a alone)) s st m h = one_fits unary.Not ty.Bool ty.Bool s st (by a) (fitted a (walks a)) h
    walks (form.Show' _ (its p a alone)) s st m h = show_fits s st (by a) (fitted a (walks a)) h
    walks (form.Some' _ (its p a alone)) s st m h = some_fits s st m (by a) (fitted a (walks a)) h
    walks (form.Return' _ (its p a alone)) s st m h = return_fits s st m (by a) (fitted a (walks a)) h
    walks (form.Error' _ (its p a alone)) s st m h = error_fits s st m (by a) (fitted a (walks a)) h
    walks (form.Binary' o _ (its p a alone) _ (its q b alone)) s st m h = sides_fit (operator_of o) s st m (by a) (by b) (fitted a (walks a)) (fitted b (walks b)) h
    walks (form.If' _ (its p c alone) _ (its q a alone) _ (its r b alone)) s st m h = choice_fits s st m (by c) (by a) (by b) (fitted c (walks c)) (fitted a (walks a)) (fitted b (walks b)) h
    walks (form.Case' _ (its p a alone) _ branches) s st m h = case_fits w s st m (by a) _ (fitted a (walks a)) (λ u su n i. branches_fit branches s u su n i) h
    walks (form.Let' _ vals _ (its r b alone)) s st m h = vals_fit vals s st m (by b) (fitted b (walks b)) h
    walks (form.Bind' x _ (its p a alone) _ (its q b alone)) s st m h = bind_fits s st m x (by a) (by b) (fitted a (walks a)) (fitted b (walks b)) h
    walks (form.Seq' _ (its p a alone) _ (its q b alone)) s st m h = bind_fits s st m binder.Ignored (by a) (by b) (fitted a (walks a)) (fitted b (walks b)) h
    walks (form.Lambda' params _ (its p b alone)) s st m h = lambda_fits w s st m params (by b) (fitted b (walks b)) h
    walks (form.Record' _ fields) s st m h = record_fits s _ (fields_fit fields s st m h)
    walks (form.Project' _ (its p a alone) f) s st m h = project_fits s st f (by a) (fitted a (walks a)) h
    walks (form.Remove' _ (its p a alone) r) s st m h = cut_fits s st r.name (by a) (fitted a (walks a)) h
    walks (form.Nextval x) s st m h = next_fits w st x h
    walks (form.GetCookie x) s st m h = get_cookie_fits w st x h
    walks (form.SetCookie' x _ value) s st m h = set_cookie_fits w st x _ (λ su n i. cookie_fits value s su n i) h
    walks (form.Dml' u _ args) s st m h = write_fits changes w st u _ (λ su i. antiquotes_fit args s su i) h
    walks (form.Query' how q _ args) s st m h = ask_fits queries w st how q _ (λ su i. antiquotes_fit args s su i) h
    walks (form.QueryX' q _ args _ f) s st m h = each_fits queries w st m q _ _ (λ su i. antiquotes_fit args s su i) (λ r su n i. rows_fit f s r su n i) h
    walks (form.Fold' f _ step _ (its q start alone) r) s st m h = fold_fits w s st f r _ (by start) (λ of. steps_fit step s st of h) (fitted start (walks start))
    walks (form.Xml' x _ splices _ attributes) s st m h = literal_fits t w.declared s (splices_walk w splices) (attributes_walk w attributes s) (splices_fit splices) (attributes_fit attributes s) (row_of_parts x.parts).1 st m h

    spines : (x : ExpForm) (s : Scope) (st : Sites) (a : Walk) (fs : List Walk) → WalkFits t a → WalksFit t fs → SitesFit t st → Brings (OutFits t) (spine w x s st a fs)
    spines (form.App' _ (its p f alone) _ (its q a alone)) s st b fs k ks h = spines f s st (by f) (by a ∷ fs) (fitted f (walks f)) (one_walk (fitted a (walks a)) ks) h
    spines x s st a fs k ks h = applied_fits w s st x a fs k ks h

    vals_fit : {n : _} (vals : Row_of-LetVal n) (s : Scope) (st : Sites) (m : Mode) (a : Walk) → WalkFits t a → SitesFit t st → Brings (OutFits t) (vals_walk w vals s st m a)
    vals_fit end_of-LetVal s st m a k h = none_brings
    vals_fit (more_of-LetVal p x c q y rest) s st m a k h = let_fits w s st m x c (by y) _ (fitted y (walks y)) (record { on = λ s' st' n i. lets_fit rest s' st' n a k i }) h

    lets_fit : {n : _} (vals : Row_of-LetVal n) (s : Scope) (st : Sites) (m : Mode) (a : Walk) → WalkFits t a → SitesFit t st → Brings (OutFits t) (let_walk w vals s st m a)
    lets_fit end_of-LetVal s st m a k h = k.on s st m h
    lets_fit (more_of-LetVal p x c q y rest) s st m a k h = settles w.most m _ (let_fits w s st m x c (by y) _ (fitted y (walks y)) (record { on = λ s' st' n i. lets_fit rest s' st' n a k i }) h)

    branches_fit : {n : _} (bs : Row_of-Branch n) (s : Scope) (u : NormalType) (st : Sites) (m : Mode) → SitesFit t st → Brings (BranchesFit t) (branches_walk w bs s u st m)
    branches_fit end_of-Branch s u st m h = no_branches_fit st m h
    branches_fit (more_of-Branch b p x rest) s u st m h = branch_fits w s u st m b.form (by x) _ (fitted x (walks x)) (λ su n i. branches_fit rest s u su n i) h

    fields_fit : {n : _} (fs : Row_of-Field n) (s : Scope) (st : Sites) (m : Mode) → SitesFit t st → Brings (FieldsFit t) (fields_walk w fs s st m)
    fields_fit end_of-Field s st m h = some_brings h
    fields_fit (more_of-Field f p x rest) s st m h = field_fits s st m f (by x) _ (fitted x (walks x)) (λ su i. fields_fit rest s su m i) h

    antiquotes_fit : {n : _} (xs : Row_of-Exp n) (s : Scope) (st : Sites) → SitesFit t st → Brings (AntiquotesFit t) (antiquotes_walk w xs s st)
    antiquotes_fit alone s st h = some_brings h
    antiquotes_fit (its p x rest) s st h = antiquote_fits s st (by x) _ (fitted x (walks x)) (λ su i. antiquotes_fit rest s su i) h

    cookie_fits : {n : _} (xs : Row_of-Exp n) (s : Scope) (st : Sites) (m : Mode) → SitesFit t st → Brings (OutFits t) (cookie_walk w xs s st m)
    cookie_fits (its p (form.Record' _ fields) alone) s st m h = cookie_field_fits fields s st m h
    cookie_fits _ s st m h = none_brings

    cookie_field_fits : {n : _} (fs : Row_of-Field n) (s : Scope) (st : Sites) (m : Mode) → SitesFit t st → Brings (OutFits t) (cookie_field_walk w fs s st m)
    cookie_field_fits (more_of-Field f p x rest) s st m h = if_brings (is_literally f (codes "Value") && are_literal_rest rest) (settles w.most m _ (walks x s st m h))
    cookie_field_fits end_of-Field s st m h = none_brings

    rows_fit : {n : _} (xs : Row_of-Exp n) (s : Scope) (row : List Part) (st : Sites) (m : Mode) → SitesFit t st → Brings (OutFits t) (row_walk w xs s row st m)
    rows_fit (its p (form.Lambda' params _ (its r b alone)) alone) s row st m h = row_fits w s row params (by b) st m (fitted b (walks b)) h
    rows_fit _ s row st m h = none_brings

    steps_fit : {n : _} (xs : Row_of-Exp n) (s : Scope) (st : Sites) (of : NormalType) → SitesFit t st → Brings (StepFits t) (step_walk w xs s st of)
    steps_fit (its p (form.Lambda' params _ (its r b alone)) alone) s st of h = step_brings w s st of params (by b) (fitted b (walks b)) h
    steps_fit _ s st of h = none_brings

    splices_fit : {n : _} (xs : Row_of-Exp n) → SplicesFit t (splices_walk w xs)
    splices_fit alone = no_splices
    splices_fit (its p x rest) = one_splice (fitted x (walks x)) (splices_fit rest)

    attributes_fit : {n : _} (xs : Row_of-Exp n) (s : Scope) → AttributesFit t (attributes_walk w xs s)
    attributes_fit alone s = no_attributes
    attributes_fit (its p x rest) s = one_attribute (record { walk = fitted x (walks x); calls = calls_fit x s [] no_walks }) (attributes_fit rest s)

    calls_fit : (x : ExpForm) (s : Scope) (fs : List Walk) → WalksFit t fs → CallsFit t (call_walk w x s fs)
    calls_fit (form.App' _ (its p f alone) _ (its q a alone)) s fs k = calls_fit f s (by a ∷ fs) (one_walk (fitted a (walks a)) k)
    calls_fit x s fs k = call_at_last fs k (function_named w s x)

  pub typed_fits : (x : ExpForm) (s : Scope) (st : Sites) (m : Mode) → SitesFit t st → Brings (OutFits t) (typed w x s st m)
  typed_fits x s st m h = settles w.most m _ (walks x s st m h)

pub walk_fits : QueryOfFits → ChangeOfFits → StatementsFit
walk_fits q u w x s st m o e h = (typed_fits q u w x s st m h).on o e
