-- What the walk gives where something is declared it gives too where what the names in scope stand for is declared alike.
use Rattle.std.proofs.Common.{◌≡◌, refl, subst, Option, Some, None, List, [], ◌∷◌, ℕ}
use Rattle.std.specs.Prelude.{◌&&◌, codes, option_map, option_and_then, slice_get}
use Rattle.ur_syntax.specs.declared.exp.Binder.TheVariants as binder
use Rattle.ur_syntax.specs.declared.exp.ExpForm.{ExpForm, Row_of-Exp, end_of-Exp as alone, more_of-Exp as its, Row_of-Field, end_of-Field, more_of-Field, Row_of-Branch, end_of-Branch, more_of-Branch, Row_of-LetVal, end_of-LetVal, more_of-LetVal}
use Rattle.ur_syntax.specs.declared.exp.ExpForm.TheVariants as form
use Rattle.ur_rows.specs.declared.normal.NormalType.{NormalType}
use Rattle.ur_rows.specs.declared.normal.NormalType.TheVariants as ty
use Rattle.ur_rows.specs.declared.normal.Part.{Part}
use Rattle.ur_tree.specs.declared.exp.Unary.TheVariants as unary
use Rattle.ur_tree.specs.Heads.{Declared}
use Rattle.ur_typed_rules.specs.Names.{Globals}
use Rattle.ur_typed_rules.specs.Scopes.{World, Scope, Mode}
use Rattle.ur_typed.specs.Rules.{Sites, Out, Walk, settled, settling, function_named, operator_of, is_literally, are_literal_rest}
use Rattle.ur_typed.specs.Walking.{with_calls, walk, spine, vals_walk, let_walk, branches_walk, fields_walk, antiquotes_walk, cookie_walk, cookie_field_walk, row_walk, step_walk, splices_walk, attributes_walk, call_walk, typed}
use Rattle.ur_xmltype.specs.Literal.{row_of_parts}
use Rattle.ur_typed_laws.specs.Led.{Leads, a_world, Agree, WalkIsLed}
use Rattle.ur_typed_laws.proofs.Leading.{leads_self, then_leads, if_leads, WalkLeads, WalksLead, no_walks, one_walk, one_leads, show_leads, some_leads, return_leads, error_leads, sides_lead, choice_leads, bind_leads, fields_lead, record_leads, project_leads, cut_leads, antiquote_leads, fold_leads, member_leads, var_leads, constructor_leads, member_constructor_leads, named_in_scope, named_same, con_applied_leads, applied_leads, branch_leads, BranchesBind, no_branches_bind, branch_binds, case_leads, let_leads, lambda_leads, next_leads, get_cookie_leads, set_cookie_leads, write_leads, ask_leads, each_leads, row_leads, step_leads}
use Rattle.ur_typed_laws.proofs.Marks.{SplicesLead, no_splices, one_splice, CallsLead, no_call, a_call, AttributesLead, no_attributes, one_attribute, literal_leads}

settles : (most : ℕ) (m : Mode) (a b : Option Out) → Leads a b → Leads (option_and_then (settled most m) a) (option_and_then (settled most m) b)
settles most m a b h = then_leads h (λ o. leads_self _)

module _ (g : Globals) (ff : List (List ℕ)) (most : ℕ) (d e : Declared) (k : Agree g d e) where
  abbrev v : World
  v = a_world g ff most d

  abbrev w : World
  w = a_world g ff most e

  -- a walk of an expression that is settled
  abbrev by_v : ExpForm → Walk
  by_v x = settling v (λ s st m. walk v x s st m)

  abbrev by_w : ExpForm → Walk
  by_w x = settling w (λ s st m. walk w x s st m)

  abbrev Walked : ExpForm → Type 0
  Walked x = (s : Scope) (st : Sites) (m : Mode) → Leads (walk v x s st m) (walk w x s st m)

  led : (x : ExpForm) → Walked x → WalkLeads (by_v x) (by_w x)
  led x h = record { on = λ s st m. settles most m (walk v x s st m) (walk w x s st m) (h s st m) }

  call_leads_at : (x : ExpForm) (s : Scope) (fs gs : List Walk) → WalksLead fs gs → (o : Option ℕ) → ((f : ℕ) → o ≡ Some f → Leads (slice_get d.functions f) (slice_get e.functions f)) → CallsLead d e (option_map (with_calls fs) o) (option_map (with_calls gs) o)
  call_leads_at x s fs gs h None i = no_call
  call_leads_at x s fs gs h (Some f) i = a_call (i f refl) h

  call_at_last : (x : ExpForm) (s : Scope) (fs gs : List Walk) → WalksLead fs gs → CallsLead d e (option_map (with_calls fs) (function_named v s x)) (option_map (with_calls gs) (function_named w s x))
  call_at_last x s fs gs h = subst (λ z. CallsLead d e (option_map (with_calls fs) (function_named v s x)) (option_map (with_calls gs) z)) (named_same g ff most d e k s x) (call_leads_at x s fs gs h (function_named v s x) (named_in_scope g ff most d e k s x))

  branches_bind : {n : _} (bs : Row_of-Branch n) (s : Scope) (u : NormalType) (st : Sites) (m : Mode) → BranchesBind g ff most d e k u (branches_walk v bs s u st m)
  branches_bind end_of-Branch s u st m = no_branches_bind g ff most d e k u st m
  branches_bind (more_of-Branch t p x rest) s u st m = branch_binds g ff most d e k s u st m t.form (by_v x) _ (λ su n. branches_bind rest s u su n)

  mutual
    walks : (x : ExpForm) → Walked x
    walks (form.Int n) s st m = leads_self _
    walks (form.Str t) s st m = leads_self _
    walks form.Unit s st m = leads_self _
    walks (form.Var x) s st m = var_leads g ff most d e k s st x
    walks (form.Member m' x) s st m = member_leads g ff most d e k s st m' x
    walks (form.Constructor x) s st m = constructor_leads g ff most d e k st m x
    walks (form.MemberConstructor m' x) s st m = member_constructor_leads g ff most d e k st m' x
    walks form.Nil s st m = leads_self _
    walks (form.ConApp' _ x c) s st m = con_applied_leads g ff most d e k s st (form.ConApp' tt x c)
    walks (form.App' _ (its p f alone) _ (its q a alone)) s st m = spines f s st (by_v f) (by_w f) (by_v a ∷ []) (by_w a ∷ []) (led f (walks f)) (one_walk (led a (walks a)) no_walks)
    walks (form.Negative' _ (its p a alone)) s st m = one_leads unary.Neg ty.Int ty.Int s st (by_v a) (by_w a) (led a (walks a))
    walks (form.Not' _ (its p a alone)) s st m = one_leads unary.Not ty.Bool ty.Bool s st (by_v a) (by_w a) (led a (walks a))
    walks (form.Show' _ (its p a alone)) s st m = show_leads s st (by_v a) (by_w a) (led a (walks a))
    walks (form.Some' _ (its p a alone)) s st m = some_leads s st m (by_v a) (by_w a) (led a (walks a))
    walks (form.Return' _ (its p a alone)) s st m = return_leads s st m (by_v a) (by_w a) (led a (walks a))
    walks (form.Error' _ (its p a alone)) s st m = error_leads s st m (by_v a) (by_w a) (led a (walks a))
    walks (form.Binary' o _ (its p a alone) _ (its q b alone)) s st m = sides_lead (operator_of o) s st m (by_v a) (by_v b) (by_w a) (by_w b) (led a (walks a)) (led b (walks b))
    walks (form.If' _ (its p c alone) _ (its q a alone) _ (its r b alone)) s st m = choice_leads s st m (by_v c) (by_v a) (by_v b) (by_w c) (by_w a) (by_w b) (led c (walks c)) (led a (walks a)) (led b (walks b))
    walks (form.Case' _ (its p a alone) _ branches) s st m = case_leads g ff most d e k s st m (by_v a) (by_w a) _ _ (led a (walks a)) (λ u su n. branches_lead branches s u su n) (λ u su n. branches_bind branches s u su n)
    walks (form.Let' _ vals _ (its r b alone)) s st m = vals_lead vals s st m (by_v b) (by_w b) (led b (walks b))
    walks (form.Bind' x _ (its p a alone) _ (its q b alone)) s st m = bind_leads s st m x (by_v a) (by_v b) (by_w a) (by_w b) (led a (walks a)) (led b (walks b))
    walks (form.Seq' _ (its p a alone) _ (its q b alone)) s st m = bind_leads s st m binder.Ignored (by_v a) (by_v b) (by_w a) (by_w b) (led a (walks a)) (led b (walks b))
    walks (form.Lambda' params _ (its p b alone)) s st m = lambda_leads g ff most d e k s st m params (by_v b) (by_w b) (led b (walks b))
    walks (form.Record' _ fields) s st m = record_leads s _ _ (fields_lead_all fields s st m)
    walks (form.Project' _ (its p a alone) f) s st m = project_leads s st f (by_v a) (by_w a) (led a (walks a))
    walks (form.Remove' _ (its p a alone) r) s st m = cut_leads s st r.name (by_v a) (by_w a) (led a (walks a))
    walks (form.Nextval x) s st m = next_leads g ff most d e k st x
    walks (form.GetCookie x) s st m = get_cookie_leads g ff most d e k st x
    walks (form.SetCookie' x _ value) s st m = set_cookie_leads g ff most d e k st x _ _ (λ su n. cookie_leads value s su n)
    walks (form.Dml' u _ args) s st m = write_leads g ff most d e k st u _ _ (λ su. antiquotes_lead args s su)
    walks (form.Query' how q _ args) s st m = ask_leads g ff most d e k st how q _ _ (λ su. antiquotes_lead args s su)
    walks (form.QueryX' q _ args _ f) s st m = each_leads g ff most d e k st m q _ _ _ _ (λ su. antiquotes_lead args s su) (λ r su n. rows_lead f s r su n)
    walks (form.Fold' f _ step _ (its q start alone) r) s st m = fold_leads v s st f r _ _ (by_v start) (by_w start) (λ of. steps_lead step s st of) (led start (walks start))
    walks (form.Xml' x _ splices _ attributes) s st m = literal_leads d e s (splices_walk v splices) (splices_walk w splices) (attributes_walk v attributes s) (attributes_walk w attributes s) (splices_lead splices) (attributes_lead attributes s) (row_of_parts x.parts).1 st m

    spines : (x : ExpForm) (s : Scope) (st : Sites) (a b : Walk) (fs gs : List Walk) → WalkLeads a b → WalksLead fs gs → Leads (spine v x s st a fs) (spine w x s st b gs)
    spines (form.App' _ (its p f alone) _ (its q a alone)) s st x y fs gs h i = spines f s st (by_v f) (by_w f) (by_v a ∷ fs) (by_w a ∷ gs) (led f (walks f)) (one_walk (led a (walks a)) i)
    spines x s st a b fs gs h i = applied_leads g ff most d e k s st x a b fs gs h i

    vals_lead : {n : _} (vals : Row_of-LetVal n) (s : Scope) (st : Sites) (m : Mode) (a b : Walk) → WalkLeads a b → Leads (vals_walk v vals s st m a) (vals_walk w vals s st m b)
    vals_lead end_of-LetVal s st m a b h = leads_self _
    vals_lead (more_of-LetVal p x c q y rest) s st m a b h = let_leads g ff most d e k s st m x c (by_v y) (by_w y) _ _ (led y (walks y)) (record { on = λ s' st' n. lets_lead rest s' st' n a b h })

    lets_lead : {n : _} (vals : Row_of-LetVal n) (s : Scope) (st : Sites) (m : Mode) (a b : Walk) → WalkLeads a b → Leads (let_walk v vals s st m a) (let_walk w vals s st m b)
    lets_lead end_of-LetVal s st m a b h = h.on s st m
    lets_lead (more_of-LetVal p x c q y rest) s st m a b h = settles most m _ _ (let_leads g ff most d e k s st m x c (by_v y) (by_w y) _ _ (led y (walks y)) (record { on = λ s' st' n. lets_lead rest s' st' n a b h }))

    branches_lead : {n : _} (bs : Row_of-Branch n) (s : Scope) (u : NormalType) (st : Sites) (m : Mode) → Leads (branches_walk v bs s u st m) (branches_walk w bs s u st m)
    branches_lead end_of-Branch s u st m = leads_self _
    branches_lead (more_of-Branch t p x rest) s u st m = branch_leads g ff most d e k s u st m t.form (by_v x) (by_w x) _ _ (led x (walks x)) (λ su n. branches_lead rest s u su n)

    fields_lead_all : {n : _} (fs : Row_of-Field n) (s : Scope) (st : Sites) (m : Mode) → Leads (fields_walk v fs s st m) (fields_walk w fs s st m)
    fields_lead_all end_of-Field s st m = leads_self _
    fields_lead_all (more_of-Field f p x rest) s st m = fields_lead s st m f (by_v x) (by_w x) _ _ (led x (walks x)) (λ su. fields_lead_all rest s su m)

    antiquotes_lead : {n : _} (xs : Row_of-Exp n) (s : Scope) (st : Sites) → Leads (antiquotes_walk v xs s st) (antiquotes_walk w xs s st)
    antiquotes_lead alone s st = leads_self _
    antiquotes_lead (its p x rest) s st = antiquote_leads s st (by_v x) (by_w x) _ _ (led x (walks x)) (λ su. antiquotes_lead rest s su)

    cookie_leads : {n : _} (xs : Row_of-Exp n) (s : Scope) (st : Sites) (m : Mode) → Leads (cookie_walk v xs s st m) (cookie_walk w xs s st m)
    cookie_leads (its p (form.Record' _ fields) alone) s st m = cookie_field_leads fields s st m
    cookie_leads _ s st m = leads_self _

    cookie_field_leads : {n : _} (fs : Row_of-Field n) (s : Scope) (st : Sites) (m : Mode) → Leads (cookie_field_walk v fs s st m) (cookie_field_walk w fs s st m)
    cookie_field_leads (more_of-Field f p x rest) s st m = if_leads (is_literally f (codes "Value") && are_literal_rest rest) (settles most m _ _ (walks x s st m))
    cookie_field_leads end_of-Field s st m = leads_self _

    rows_lead : {n : _} (xs : Row_of-Exp n) (s : Scope) (row : List Part) (st : Sites) (m : Mode) → Leads (row_walk v xs s row st m) (row_walk w xs s row st m)
    rows_lead (its p (form.Lambda' params _ (its r b alone)) alone) s row st m = row_leads g ff most d e k s row params (by_v b) (by_w b) st m (led b (walks b))
    rows_lead _ s row st m = leads_self _

    steps_lead : {n : _} (xs : Row_of-Exp n) (s : Scope) (st : Sites) (of : NormalType) → Leads (step_walk v xs s st of) (step_walk w xs s st of)
    steps_lead (its p (form.Lambda' params _ (its r b alone)) alone) s st of = step_leads g ff most d e k s st of params (by_v b) (by_w b) (led b (walks b))
    steps_lead _ s st of = leads_self _

    splices_lead : {n : _} (xs : Row_of-Exp n) → SplicesLead (splices_walk v xs) (splices_walk w xs)
    splices_lead alone = no_splices
    splices_lead (its p x rest) = one_splice (record { walk = led x (walks x); lacks = refl }) (splices_lead rest)

    attributes_lead : {n : _} (xs : Row_of-Exp n) (s : Scope) → AttributesLead d e (attributes_walk v xs s) (attributes_walk w xs s)
    attributes_lead alone s = no_attributes
    attributes_lead (its p x rest) s = one_attribute (record { walk = led x (walks x); calls = calls_lead x s [] [] no_walks }) (attributes_lead rest s)

    calls_lead : (x : ExpForm) (s : Scope) (fs gs : List Walk) → WalksLead fs gs → CallsLead d e (call_walk v x s fs) (call_walk w x s gs)
    calls_lead (form.App' _ (its p f alone) _ (its q a alone)) s fs gs h = calls_lead f s (by_v a ∷ fs) (by_w a ∷ gs) (one_walk (led a (walks a)) h)
    calls_lead x s fs gs h = call_at_last x s fs gs h

  typed_leads : (x : ExpForm) (s : Scope) (st : Sites) (m : Mode) → Leads (typed v x s st m) (typed w x s st m)
  typed_leads x s st m = settles most m _ _ (walks x s st m)

pub walk_is_led : WalkIsLed
walk_is_led g ff most d e k x s st m = typed_leads g ff most d e k x s st m
