-- The rules of the walk, where each part has an answer that another one leads to.
use Rattle.std.proofs.Common.{◌≡◌, ◌∙◌, refl, sym, ap, subst, Bool, true, false, Option, Some, None, List, [], ◌∷◌, ◌++◌, ℕ}
use Rattle.std.specs.Prelude.{◌&&◌, option_map, option_and_then, slice_get}
use Rattle.ur_syntax.specs.Names.{own, member as of_module}
use Rattle.ur_syntax.specs.declared.con.Con.{Con}
use Rattle.ur_syntax.specs.declared.con.ConName.{ConName}
use Rattle.ur_syntax.specs.declared.con.FieldName.{FieldName}
use Rattle.ur_syntax.specs.declared.sql.DeclName.{DeclName}
use Rattle.ur_syntax.specs.declared.sql.SqlQuery.{SqlQuery}
use Rattle.ur_syntax.specs.declared.sql.SqlChange.{SqlChange}
use Rattle.ur_syntax.specs.declared.exp.Binder.{Binder}
use Rattle.ur_syntax.specs.declared.exp.LambdaParam.{LambdaParam}
use Rattle.ur_syntax.specs.declared.exp.PatForm.{PatForm}
use Rattle.ur_syntax.specs.declared.exp.PatForm.TheVariants as pat
use Rattle.ur_syntax.specs.declared.exp.Argument.TheVariants as argument
use Rattle.ur_syntax.specs.declared.exp.QueryWord.{QueryWord}
use Rattle.ur_syntax.specs.declared.exp.ExpForm.{ExpForm, end_of-Exp as alone, more_of-Exp as its}
use Rattle.ur_syntax.specs.declared.exp.ExpForm.TheVariants as form
use Rattle.ur_terms.specs.declared.term.Pattern.{Pattern}
use Rattle.ur_terms.specs.declared.term.Pattern.TheVariants as pattern
use Rattle.ur_rows.specs.declared.normal.Normal.{Normal}
use Rattle.ur_rows.specs.declared.normal.NormalType.{NormalType}
use Rattle.ur_rows.specs.declared.normal.Part.{Part}
use Rattle.ur_tree.specs.declared.exp.Unary.{Unary}
use Rattle.ur_tree.specs.declared.exp.Binary.{Binary}
use Rattle.ur_tree.specs.declared.exp.Param.{Param}
use Rattle.ur_tree.specs.Heads.{Declared}
use Rattle.ur_typed_rules.specs.Names.{Local, Globals, declared, local_at, name_of}
use Rattle.ur_typed_rules.specs.Names as here
use Rattle.ur_typed_rules.specs.Scopes.{World, Scope, Mode, finds, wants, within_branch}
use Rattle.ur_rows.specs.Normal.{nf}
use Rattle.ur_rows.specs.Types.{is_value_type, at_row}
use Rattle.ur_tree.specs.Typing.{step_row}
use Rattle.ur_tree.specs.Patterns.{bound_by}
use Rattle.ur_typed_rules.specs.Tests.{are_distinct, are_params}
use Rattle.ur_typed.specs.Resolves.{is_head}
use Rattle.ur_typed.specs.Rules.{Sites, Out, Walk, declared_out, local_or, var_out, member_out, function_out, as_function_number, if_unbound, function_named, with_argument, without_arguments, function_at, tagged_out, Capital, says_true, says_false, says_none, says_other, capital_of, by_capital, constructor_out, member_constructor_out, if_other, tag_named, args_out, named_call, built, by_head, applied, one_out, show_out, some_out, return_out, error_out, sides_out, if_out, Branches, no_branches, with_branch, branch_within, branch_by, branch_out, case_out, let_with, let_out, bind_out, lambda_with, lambda_out, Fields, field_out, record_out, project_out, cut_out, next_out, cookie_at, get_cookie_out, set_cookie_out, Antiquotes, antiquote_out, write_out, ask_out, each_out, row_body}
use Rattle.ur_typed.specs.Folds.{step_of, step_fits, step_out, fold_out}
use Rattle.ur_typed_rules.specs.Rules.{if_so, pattern_of, tag_pattern, binder_local, if_as_many, bound_in, written_type, Params, params_out}
use Rattle.ur_typed_rules.proofs.Options.{some_of, some_none, then_some, opened, opened_if, mapped}
use Rattle.ur_typed_laws.specs.Led.{Leads, a_world, AreBound, Agree}

-- ---- options

pub leads_self : {A : Type 0} (a : Option A) → Leads a a
leads_self a = record { on = λ x h. h }

none_leads : {A : Type 0} (b : Option A) → Leads None b
none_leads b = record { on = λ x h. absurd (not_some x h) } where
  not_some : {A : Type 0} (x : A) → None ≡ Some x → ⊥
  not_some x h = cc

pub then_leads : {A B : Type 0} {f g : A → Option B} {a b : Option A} → Leads a b → ((x : A) → Leads (f x) (g x)) → Leads (option_and_then f a) (option_and_then g b)
then_leads {A = A} {B = B} {f = f} {g = g} {a = a} {b = b} h k = record { on = λ y e. by_parts y (opened f a y e) } where
  by_parts : (y : B) → ((x : A) × (a ≡ Some x) × (f x ≡ Some y)) → option_and_then g b ≡ Some y
  by_parts y i = then_some g b i.0 (Some y) (h.on i.0 i.1) ((k i.0).on y i.2)

-- the same where the first answer is known
pub then_known : {A B : Type 0} {f g : A → Option B} (a : Option A) → ((x : A) → a ≡ Some x → Leads (f x) (g x)) → Leads (option_and_then f a) (option_and_then g a)
then_known {A = A} {B = B} {f = f} {g = g} a k = record { on = λ y e. by_parts y (opened f a y e) } where
  by_parts : (y : B) → ((x : A) × (a ≡ Some x) × (f x ≡ Some y)) → option_and_then g a ≡ Some y
  by_parts y i = then_some g a i.0 (Some y) i.1 ((k i.0 i.1).on y i.2)

-- the same where the further answers are asked of the first one alone
pub then_both : {A B : Type 0} {f g : A → Option B} {a b : Option A} → Leads a b → ((x : A) → a ≡ Some x → Leads (f x) (g x)) → Leads (option_and_then f a) (option_and_then g b)
then_both {A = A} {B = B} {f = f} {g = g} {a = a} {b = b} h k = record { on = λ y e. by_parts y (opened f a y e) } where
  by_parts : (y : B) → ((x : A) × (a ≡ Some x) × (f x ≡ Some y)) → option_and_then g b ≡ Some y
  by_parts y i = then_some g b i.0 (Some y) (h.on i.0 i.1) ((k i.0 i.1).on y i.2)

pub map_leads : {A B : Type 0} (f : A → B) {a b : Option A} → Leads a b → Leads (option_map f a) (option_map f b)
map_leads {A = A} {B = B} f {a = a} {b = b} h = record { on = λ y e. by_parts y (mapped f a y e) } where
  by_parts : (y : B) → ((x : A) × (a ≡ Some x) × (f x ≡ y)) → option_map f b ≡ Some y
  by_parts y i = ap (option_map f) (h.on i.0 i.1) ∙ ap (λ z. Some z) i.2

pub if_leads : {A : Type 0} (b : Bool) {x y : Option A} → Leads x y → Leads (if_so b x) (if_so b y)
if_leads true h = h
if_leads false h = leads_self None

-- one test leads to another
pub test_leads : {A : Type 0} (b c : Bool) (x : Option A) → (b ≡ true → c ≡ true) → Leads (if_so b x) (if_so c x)
test_leads {A = A} b c x k = record { on = λ y e. by_parts y (opened_if b x y e) } where
  by_parts : (y : A) → ((b ≡ true) × (x ≡ Some y)) → if_so c x ≡ Some y
  by_parts y i = ap (λ z. if_so z x) (k i.0) ∙ i.1

-- ---- walks

pub record WalkLeads (f g : Walk) : Type 0 where
  pub on : (s : Scope) (st : Sites) (m : Mode) → Leads (f s st m) (g s st m)

pub data WalksLead : List Walk → List Walk → Type 0 where
  no_walks : WalksLead [] []
  one_walk : {f g : Walk} {fs gs : List Walk} → WalkLeads f g → WalksLead fs gs → WalksLead (f ∷ fs) (g ∷ gs)

-- ---- rules that look at nothing declared

pub one_leads : (op : Unary) (u t : NormalType) (s : Scope) (st : Sites) (a b : Walk) → WalkLeads a b → Leads (one_out op u t s st a) (one_out op u t s st b)
one_leads op u t s st a b h = then_leads (h.on s st (wants u)) (λ o. leads_self _)

pub show_leads : (s : Scope) (st : Sites) (a b : Walk) → WalkLeads a b → Leads (show_out s st a) (show_out s st b)
show_leads s st a b h = then_leads (h.on s st finds) (λ o. leads_self _)

pub some_leads : (s : Scope) (st : Sites) (m : Mode) (a b : Walk) → WalkLeads a b → Leads (some_out s st m a) (some_out s st m b)
some_leads s st m a b h = then_leads (h.on s st _) (λ o. leads_self _)

pub return_leads : (s : Scope) (st : Sites) (m : Mode) (a b : Walk) → WalkLeads a b → Leads (return_out s st m a) (return_out s st m b)
return_leads s st m a b h = then_leads (h.on s st _) (λ o. leads_self _)

pub error_leads : (s : Scope) (st : Sites) (m : Mode) (a b : Walk) → WalkLeads a b → Leads (error_out s st m a) (error_out s st m b)
error_leads s st finds a b h = leads_self None
error_leads s st (wants t) a b h = then_leads (h.on s st _) (λ o. leads_self _)

pub sides_lead : (o : Binary) (s : Scope) (st : Sites) (m : Mode) (a b c d : Walk) → WalkLeads a c → WalkLeads b d → Leads (sides_out o s st m a b) (sides_out o s st m c d)
sides_lead o s st m a b c d h k = then_leads (h.on s st _) (λ x. if_leads _ (then_leads (k.on s x.sites _) (λ y. leads_self _)))

pub choice_leads : (s : Scope) (st : Sites) (m : Mode) (a b c x y z : Walk) → WalkLeads a x → WalkLeads b y → WalkLeads c z → Leads (if_out s st m a b c) (if_out s st m x y z)
choice_leads s st m a b c x y z h i j = then_leads (h.on s st _) (λ p. then_leads (i.on s p.sites m) (λ q. then_leads (j.on s q.sites _) (λ r. leads_self _)))

pub bind_leads : (s : Scope) (st : Sites) (m : Mode) (x : Binder) (a b c d : Walk) → WalkLeads a c → WalkLeads b d → Leads (bind_out s st m x a b) (bind_out s st m x c d)
bind_leads s st m x a b c d h k = then_leads (h.on s st _) (λ o. then_leads (leads_self _) (λ u. then_leads (k.on _ o.sites m) (λ z. leads_self _)))

pub fields_lead : (s : Scope) (st : Sites) (m : Mode) (f : FieldName) (a b : Walk) (r q : Sites → Option Fields) → WalkLeads a b → ((su : Sites) → Leads (r su) (q su)) → Leads (field_out s st m f a r) (field_out s st m f b q)
fields_lead s st m f a b r q h k = if_leads _ (then_leads (h.on s st _) (λ o. map_leads _ (k o.sites)))

pub record_leads : (s : Scope) (a b : Option Fields) → Leads a b → Leads (record_out s a) (record_out s b)
record_leads s a b h = then_leads h (λ r. leads_self _)

pub project_leads : (s : Scope) (st : Sites) (f : FieldName) (a b : Walk) → WalkLeads a b → Leads (project_out s st f a) (project_out s st f b)
project_leads s st f a b h = then_leads (h.on s st _) (λ o. leads_self _)

pub cut_leads : (s : Scope) (st : Sites) (f : FieldName) (a b : Walk) → WalkLeads a b → Leads (cut_out s st f a) (cut_out s st f b)
cut_leads s st f a b h = then_leads (h.on s st _) (λ o. leads_self _)

pub antiquote_leads : (s : Scope) (st : Sites) (a b : Walk) (r q : Sites → Option Antiquotes) → WalkLeads a b → ((su : Sites) → Leads (r su) (q su)) → Leads (antiquote_out s st a r) (antiquote_out s st b q)
antiquote_leads s st a b r q h k = then_leads (h.on s st _) (λ o. map_leads _ (k o.sites))

pub args_lead : (s : Scope) (fs gs : List Walk) → WalksLead fs gs → (ts : List NormalType) (st : Sites) → Leads (args_out s fs ts st) (args_out s gs ts st)
args_lead s _ _ no_walks [] st = leads_self _
args_lead s _ _ no_walks (t ∷ ts) st = leads_self _
args_lead s _ _ (one_walk h hs) [] st = leads_self _
args_lead s _ _ (one_walk {fs = fs} {gs = gs} h hs) (t ∷ ts) st = then_leads (h.on s st _) (λ o. map_leads _ (args_lead s fs gs hs ts o.sites))

pub fold_leads : (w : World) (s : Scope) (st : Sites) (f r : Con) (a b : NormalType → Option (Param × Out)) (c d : Walk) → ((t : NormalType) → Leads (a t) (b t)) → WalkLeads c d → Leads (fold_out w s st f r a c) (fold_out w s st f r b d)
fold_leads w s st f r a b c d h k = then_leads (leads_self _) (λ t. then_leads (h t.0) (λ p. then_leads (k.on s p.1.sites _) (λ o. leads_self _)))

-- ---- rules that look at what is declared

module _ (g : Globals) (ff : List (List ℕ)) (most : ℕ) (d e : Declared) (k : Agree g d e) where
  abbrev v : World
  v = a_world g ff most d

  abbrev w : World
  w = a_world g ff most e

  -- ---- names

  function_leads : (s : Scope) (st : Sites) (f : ℕ × List Normal) → Leads (slice_get d.functions f.0) (slice_get e.functions f.0) → Leads (function_out v s st f) (function_out w s st f)
  function_leads s st f h = then_leads h (λ x. leads_self _)

  declared_leads : (s : Scope) (st : Sites) (c : ConName) (x : here.Declared) → declared g c g.values ≡ Some x → Leads (declared_out v s st x) (declared_out w s st x)
  declared_leads s st c (here.function n) h = function_leads s st (n, []) (k.functions c n h)
  declared_leads s st c (here.val n) h = then_leads (k.vals c n h) (λ x. leads_self _)

  pub member_leads : (s : Scope) (st : Sites) (m x : List ℕ) → Leads (member_out v s st m x) (member_out w s st m x)
  member_leads s st m x = then_known (declared g (of_module m x) g.values) (λ y h. declared_leads s st (of_module m x) y h)

  local_leads : (s : Scope) (st : Sites) (x : List ℕ) (o : Option (Bool × ℕ)) → Leads (local_or v s st x o) (local_or w s st x o)
  local_leads s st x (Some i) = leads_self _
  local_leads s st x None = then_known (declared g (own x) g.values) (λ y h. declared_leads s st (own x) y h)

  pub var_leads : (s : Scope) (st : Sites) (x : List ℕ) → Leads (var_out v s st x) (var_out w s st x)
  var_leads s st x = local_leads s st x (local_at x s.names.locals)

  -- ---- constructors of datatypes

  tagged_leads : (st : Sites) (n : ℕ) → Leads (slice_get d.variants n) (slice_get e.variants n) → Leads (tagged_out v st n) (tagged_out w st n)
  tagged_leads st n h = then_leads h (λ x. leads_self _)

  capital_leads : (st : Sites) (m : Mode) (x : List ℕ) (c : Capital) → Leads (by_capital v st m (declared g (own x) g.constructors) c) (by_capital w st m (declared g (own x) g.constructors) c)
  capital_leads st m x says_true = leads_self _
  capital_leads st m x says_false = leads_self _
  capital_leads st m x says_none = leads_self _
  capital_leads st m x says_other = then_known (declared g (own x) g.constructors) (λ n h. tagged_leads st n (k.variants (own x) n h))

  pub constructor_leads : (st : Sites) (m : Mode) (x : List ℕ) → Leads (constructor_out v st m x) (constructor_out w st m x)
  constructor_leads st m x = capital_leads st m x (capital_of x)

  pub member_constructor_leads : (st : Sites) (m x : List ℕ) → Leads (member_constructor_out v st m x) (member_constructor_out w st m x)
  member_constructor_leads st m x = then_known (declared g (of_module m x) g.constructors) (λ n h. tagged_leads st n (k.variants (of_module m x) n h))

  -- ---- what is applied

  -- a name of a function that is in scope
  named_by : (c : ConName) (f : ℕ) → option_and_then as_function_number (declared g c g.values) ≡ Some f → Leads (slice_get d.functions f) (slice_get e.functions f)
  named_by c f h = by_name (opened as_function_number (declared g c g.values) f h) where
    number_is : (x : here.Declared) → as_function_number x ≡ Some f → x ≡ here.function f
    number_is (here.function n) i = ap (λ z. here.function z) (some_of i)
    number_is (here.val n) i = absurd (some_none (sym i))

    by_name : ((x : here.Declared) × (declared g c g.values ≡ Some x) × (as_function_number x ≡ Some f)) → Leads (slice_get d.functions f) (slice_get e.functions f)
    by_name i = k.functions c f (i.1 ∙ ap (λ z. Some z) (number_is i.0 i.2))

  unbound_is : (o : Option (Bool × ℕ)) (a : Option ℕ) (f : ℕ) → if_unbound o a ≡ Some f → a ≡ Some f
  unbound_is (Some i) a f h = cc
  unbound_is None a f h = h

  pub named_in_scope : (s : Scope) (x : ExpForm) (f : ℕ) → function_named v s x ≡ Some f → Leads (slice_get d.functions f) (slice_get e.functions f)
  named_in_scope s (form.Var x) f h = named_by (own x) f (unbound_is (local_at x s.names.locals) _ f h)
  named_in_scope s (form.Member m x) f h = named_by (of_module m x) f h
  named_in_scope s _ f h = cc

  pub named_same : (s : Scope) (x : ExpForm) → function_named v s x ≡ function_named w s x
  named_same s (form.Var x) = refl
  named_same s (form.Member m x) = refl
  named_same s _ = refl

  plain_function : (s : Scope) (x : ExpForm) (f : ℕ × List Normal) → option_map without_arguments (function_named v s x) ≡ Some f → Leads (slice_get d.functions f.0) (slice_get e.functions f.0)
  plain_function s x f h = let i = mapped without_arguments (function_named v s x) f h in named_in_scope s x f.0 (i.1 ∙ ap (λ z. Some z) (ap (λ z. z.0) i.2))

  at_in_scope : (s : Scope) (x : ExpForm) (f : ℕ × List Normal) → function_at v s x ≡ Some f → Leads (slice_get d.functions f.0) (slice_get e.functions f.0)
  at_in_scope s (form.ConApp' _ (its p x alone) c) f h = by_argument (at_in_scope s x) (opened (with_argument v s c) (function_at v s x) f h) where
    by_argument : ((q : ℕ × List Normal) → function_at v s x ≡ Some q → Leads (slice_get d.functions q.0) (slice_get e.functions q.0)) → ((q : ℕ × List Normal) × (function_at v s x ≡ Some q) × (with_argument v s c q ≡ Some f)) → Leads (slice_get d.functions f.0) (slice_get e.functions f.0)
    by_argument r i =
        let j = opened_if _ (Some (i.0.0, i.0.1 ++ nf s.names.cons c ∷ [])) f i.2 in
        subst (λ z. Leads (slice_get d.functions z.0) (slice_get e.functions z.0)) (some_of j.1) (r i.0 i.1)
  at_in_scope s x f h = plain_function s x f h

  at_same : (s : Scope) (x : ExpForm) → function_at v s x ≡ function_at w s x
  at_same s (form.ConApp' _ (its p x alone) c) = ap (option_and_then (with_argument v s c)) (at_same s x)
  at_same s x = ap (option_map without_arguments) (named_same s x)

  pub con_applied_leads : (s : Scope) (st : Sites) (x : ExpForm) → Leads (option_and_then (function_out v s st) (function_at v s x)) (option_and_then (function_out w s st) (function_at w s x))
  con_applied_leads s st x = subst (λ z. Leads (option_and_then (function_out v s st) (function_at v s x)) (option_and_then (function_out w s st) z)) (at_same s x) (then_known (function_at v s x) (λ f h. function_leads s st f (at_in_scope s x f h)))

  tag_in_scope : (x : ExpForm) (n : ℕ) → tag_named v x ≡ Some n → Leads (slice_get d.variants n) (slice_get e.variants n)
  tag_in_scope (form.Constructor x) n h = k.variants (own x) n (other_is (capital_of x) h) where
    other_is : (c : Capital) → if_other c (declared g (own x) g.constructors) ≡ Some n → declared g (own x) g.constructors ≡ Some n
    other_is says_other i = i
    other_is says_true i = cc
    other_is says_false i = cc
    other_is says_none i = cc
  tag_in_scope (form.MemberConstructor m x) n h = k.variants (of_module m x) n h
  tag_in_scope _ n h = cc

  tag_same : (x : ExpForm) → tag_named v x ≡ tag_named w x
  tag_same (form.Constructor x) = refl
  tag_same (form.MemberConstructor m x) = refl
  tag_same _ = refl

  call_leads : (s : Scope) (st : Sites) (fs gs : List Walk) → WalksLead fs gs → (f : ℕ × List Normal) → Leads (slice_get d.functions f.0) (slice_get e.functions f.0) → Leads (named_call v s st fs f) (named_call w s st gs f)
  call_leads s st fs gs h f i = then_leads i (λ x. if_leads _ (then_leads (args_lead s fs gs h _ st) (λ r. leads_self _)))

  built_leads : (s : Scope) (st : Sites) (fs gs : List Walk) → WalksLead fs gs → (n : ℕ) → Leads (slice_get d.variants n) (slice_get e.variants n) → Leads (built v s st fs n) (built w s st gs n)
  built_leads s st _ _ no_walks n i = leads_self _
  built_leads s st _ _ (one_walk h no_walks) n i = then_leads (then_leads i (λ x. leads_self _)) (λ u. then_leads (h.on s st _) (λ o. leads_self _))
  built_leads s st _ _ (one_walk h (one_walk i hs)) n j = leads_self _

  head_leads : (s : Scope) (st : Sites) (a b : Walk) (fs gs : List Walk) (h : Bool) (f : Option (ℕ × List Normal)) (n : Option ℕ) → WalkLeads a b → WalksLead fs gs →
      ((x : ℕ × List Normal) → f ≡ Some x → Leads (slice_get d.functions x.0) (slice_get e.functions x.0)) → ((x : ℕ) → n ≡ Some x → Leads (slice_get d.variants x) (slice_get e.variants x)) → Leads (by_head v s st a fs h f n) (by_head w s st b gs h f n)
  head_leads s st a b fs gs h (Some f) n i j l m = call_leads s st fs gs j f (l f refl)
  head_leads s st a b fs gs h None (Some n) i j l m = built_leads s st fs gs j n (m n refl)
  head_leads s st a b fs gs true None None i j l m = then_leads (i.on s st finds) (λ o. then_leads (args_lead s fs gs j _ o.sites) (λ r. leads_self _))
  head_leads s st a b fs gs false None None i j l m = leads_self _

  pub applied_leads : (s : Scope) (st : Sites) (x : ExpForm) (a b : Walk) (fs gs : List Walk) → WalkLeads a b → WalksLead fs gs → Leads (applied v s st x a fs) (applied w s st x b gs)
  applied_leads s st x a b fs gs i j =
      subst (λ z. Leads (applied v s st x a fs) (by_head w s st b gs (is_head x) z (tag_named w x))) (at_same s x) (subst (λ z. Leads (applied v s st x a fs) (by_head w s st b gs (is_head x) (function_at v s x) z)) (tag_same x)
      (head_leads s st a b fs gs (is_head x) (function_at v s x) (tag_named v x) i j (at_in_scope s x) (tag_in_scope x)))

  -- ---- branches

  tag_bound : (u : NormalType) (q : List Local) (c : ConName) (n : ℕ) → declared g c g.constructors ≡ Some n → Leads (bound_in v u (q, pattern.Tagged n)) (bound_in w u (q, pattern.Tagged n))
  tag_bound u q c n h = then_leads (then_leads (k.variants c n h) (λ x. leads_self _)) (λ x. leads_self _)

  pattern_leads : (u : NormalType) (p : PatForm) (q : List Local × Pattern) → pattern_of g p ≡ Some q → Leads (bound_in v u q) (bound_in w u q)
  pattern_leads u (pat.Constructor x argument.Absent) q h = let i = mapped (tag_pattern []) (declared g (own x) g.constructors) q h in subst (λ z. Leads (bound_in v u z) (bound_in w u z)) i.2 (tag_bound u [] (own x) i.0 i.1)
  pattern_leads u (pat.Constructor x (argument.Bound y)) q h = let i = mapped (tag_pattern (binder_local y ∷ [])) (declared g (own x) g.constructors) q h in subst (λ z. Leads (bound_in v u z) (bound_in w u z)) i.2 (tag_bound u (binder_local y ∷ []) (own x) i.0 i.1)
  pattern_leads u (pat.Member m x argument.Absent) q h = let i = mapped (tag_pattern []) (declared g (of_module m x) g.constructors) q h in subst (λ z. Leads (bound_in v u z) (bound_in w u z)) i.2 (tag_bound u [] (of_module m x) i.0 i.1)
  pattern_leads u (pat.Member m x (argument.Bound y)) q h =
      let i = mapped (tag_pattern (binder_local y ∷ [])) (declared g (of_module m x) g.constructors) q h in subst (λ z. Leads (bound_in v u z) (bound_in w u z)) i.2 (tag_bound u (binder_local y ∷ []) (of_module m x) i.0 i.1)
  pattern_leads u pat.Wild q h = subst (λ z. Leads (bound_in v u z) (bound_in w u z)) (some_of h) (leads_self _)
  pattern_leads u (pat.Var x) q h = subst (λ z. Leads (bound_in v u z) (bound_in w u z)) (some_of h) (leads_self _)
  pattern_leads u (pat.Int n) q h = subst (λ z. Leads (bound_in v u z) (bound_in w u z)) (some_of h) (leads_self _)
  pattern_leads u (pat.Negative n) q h = subst (λ z. Leads (bound_in v u z) (bound_in w u z)) (some_of h) (leads_self _)
  pattern_leads u (pat.Str n) q h = subst (λ z. Leads (bound_in v u z) (bound_in w u z)) (some_of h) (leads_self _)
  pattern_leads u pat.True q h = subst (λ z. Leads (bound_in v u z) (bound_in w u z)) (some_of h) (leads_self _)
  pattern_leads u pat.False q h = subst (λ z. Leads (bound_in v u z) (bound_in w u z)) (some_of h) (leads_self _)
  pattern_leads u pat.None q h = subst (λ z. Leads (bound_in v u z) (bound_in w u z)) (some_of h) (leads_self _)
  pattern_leads u (pat.Some x) q h = subst (λ z. Leads (bound_in v u z) (bound_in w u z)) (some_of h) (leads_self _)
  pattern_leads u pat.Nil q h = subst (λ z. Leads (bound_in v u z) (bound_in w u z)) (some_of h) (leads_self _)
  pattern_leads u (pat.Cons x y) q h = subst (λ z. Leads (bound_in v u z) (bound_in w u z)) (some_of h) (leads_self _)

  pub branch_leads : (s : Scope) (u : NormalType) (st : Sites) (m : Mode) (p : PatForm) (a b : Walk) (r q : Sites → Mode → Option Branches) → WalkLeads a b → ((su : Sites) (n : Mode) → Leads (r su n) (q su n)) → Leads (branch_out v s u st m p a r) (branch_out w s u st m p b q)
  branch_leads s u st m p a b r q h i = then_known (pattern_of g p) (λ y l. if_leads _ (then_leads (pattern_leads u p y l) (λ bound. then_leads (h.on _ st m) (λ o. map_leads _ (i o.sites _)))))

  -- the patterns of branches that are resolved stand for values of the type
  abbrev pub BranchesBind : NormalType → Option Branches → Type 0
  BranchesBind u o = (b : Branches) → o ≡ Some b → AreBound d u b.patterns

  pub no_branches_bind : (u : NormalType) (st : Sites) (m : Mode) → BranchesBind u (no_branches st m)
  no_branches_bind u st finds b h = absurd (some_none (sym h))
  no_branches_bind u st (wants t) b h = subst (λ z. AreBound d u z.patterns) (some_of h) tt

  one_branch_binds : (s : Scope) (u : NormalType) (st : Sites) (m : Mode) (a : Walk) (r : Sites → Mode → Option Branches) (q : List Local × Pattern) (bound more : List NormalType) → ((su : Sites) (n : Mode) → BranchesBind u (r su n)) → bound_by d u q.1 ≡ Some bound →
      BranchesBind u (branch_within v s st m a r q more)
  one_branch_binds s u st m a r q bound more i l b h =
      let o = opened (λ (o : Out). option_map (with_branch q.1 o) (r o.sites (wants o.of))) (a (within_branch q.0 more s) st m) b h in
      let n = mapped (with_branch q.1 o.0) (r o.0.sites (wants o.0.of)) b o.2 in
      subst (λ z. AreBound d u z.patterns) n.2 ((bound, l), i o.0.sites (wants o.0.of) n.0 n.1)

  pub branch_binds : (s : Scope) (u : NormalType) (st : Sites) (m : Mode) (p : PatForm) (a : Walk) (r : Sites → Mode → Option Branches) → ((su : Sites) (n : Mode) → BranchesBind u (r su n)) → BranchesBind u (branch_out v s u st m p a r)
  branch_binds s u st m p a r i b h =
      let q = opened (branch_by v s u st m a r) (pattern_of g p) b h in
      let t = opened_if (are_distinct q.0.0) (option_and_then (branch_within v s st m a r q.0) (bound_in v u q.0)) b q.2 in
      let n = opened (branch_within v s st m a r q.0) (bound_in v u q.0) b t.1 in
      let l = opened (if_as_many q.0.0) (bound_by d u q.0.1) n.0 n.1 in
      one_branch_binds s u st m a r q.0 l.0 n.0 i l.1 b n.2

  pub case_leads : (s : Scope) (st : Sites) (m : Mode) (a b : Walk) (r q : NormalType → Sites → Mode → Option Branches) → WalkLeads a b → ((u : NormalType) (su : Sites) (n : Mode) → Leads (r u su n) (q u su n)) → ((u : NormalType) (su : Sites) (n : Mode) → BranchesBind u (r u su n)) →
      Leads (case_out v s st m a r) (case_out w s st m b q)
  case_leads s st m a b r q h i j = then_leads (h.on s st finds) (λ x. then_both (i x.of x.sites m) (λ y o. test_leads _ _ _ (k.covers x.of y.patterns (j x.of x.sites m y o))))

  -- ---- bindings and lambdas

  let_leads_with : (s : Scope) (st : Sites) (m : Mode) (x : List ℕ) (a b r q : Walk) → WalkLeads a b → WalkLeads r q → (u : NormalType) → Leads (let_with s st m x a r u) (let_with s st m x b q u)
  let_leads_with s st m x a b r q h i u = if_leads (is_value_type u) (then_leads (h.on s st _) (λ o. then_leads (i.on _ o.sites m) (λ z. leads_self _)))

  pub let_leads : (s : Scope) (st : Sites) (m : Mode) (x : List ℕ) (c : Con) (a b r q : Walk) → WalkLeads a b → WalkLeads r q → Leads (let_out v s st m x c a r) (let_out w s st m x c b q)
  let_leads s st m x c a b r q h i = then_leads (leads_self (written_type v s c)) (let_leads_with s st m x a b r q h i)

  lambda_leads_with : (s : Scope) (st : Sites) (m : Mode) (a b : Walk) → WalkLeads a b → (p : Params) → Leads (lambda_with s st m a p) (lambda_with s st m b p)
  lambda_leads_with s st m a b h p = if_leads (are_distinct p.0 && are_params s.env p.1) (then_leads (h.on _ st _) (λ o. leads_self _))

  pub lambda_leads : (s : Scope) (st : Sites) (m : Mode) (ps : List LambdaParam) (a b : Walk) → WalkLeads a b → Leads (lambda_out v s st m ps a) (lambda_out w s st m ps b)
  lambda_leads s st m ps a b h = then_leads (leads_self (params_out most s.names ps)) (lambda_leads_with s st m a b h)

  -- ---- what runs

  pub next_leads : (st : Sites) (x : DeclName) → Leads (next_out v st x) (next_out w st x)
  next_leads st x = then_known (declared g (name_of x) g.sequences) (λ n h. test_leads _ _ _ (k.sequences (name_of x) n h))

  cookie_leads : (x : DeclName) → Leads (cookie_at v x) (cookie_at w x)
  cookie_leads x = then_known (declared g (name_of x) g.cookies) (λ n h. map_leads _ (k.cookies (name_of x) n h))

  pub get_cookie_leads : (st : Sites) (x : DeclName) → Leads (get_cookie_out v st x) (get_cookie_out w st x)
  get_cookie_leads st x = then_leads (cookie_leads x) (λ c. leads_self _)

  pub set_cookie_leads : (st : Sites) (x : DeclName) (a b : Sites → Mode → Option Out) → ((su : Sites) (m : Mode) → Leads (a su m) (b su m)) → Leads (set_cookie_out v st x a) (set_cookie_out w st x b)
  set_cookie_leads st x a b h = then_leads (cookie_leads x) (λ c. then_leads (h st _) (λ o. leads_self _))

  pub write_leads : (st : Sites) (u : SqlChange) (a b : Sites → Option Antiquotes) → ((su : Sites) → Leads (a su) (b su)) → Leads (write_out v st u a) (write_out w st u b)
  write_leads st u a b h = then_leads (h _) (λ x. leads_self _)

  pub ask_leads : (st : Sites) (how : QueryWord) (q : SqlQuery) (a b : Sites → Option Antiquotes) → ((su : Sites) → Leads (a su) (b su)) → Leads (ask_out v st how q a) (ask_out w st how q b)
  ask_leads st how q a b h = then_leads (h _) (λ x. leads_self _)

  pub each_leads : (st : Sites) (m : Mode) (q : SqlQuery) (a b : Sites → Option Antiquotes) (r z : List Part → Sites → Mode → Option Out) → ((su : Sites) → Leads (a su) (b su)) → ((p : List Part) (su : Sites) (n : Mode) → Leads (r p su n) (z p su n)) → Leads (each_out v st m q a r) (each_out w st m q b z)
  each_leads st m q a b r z h i = then_leads (h _) (λ x. then_leads (leads_self _) (λ y. then_leads (i _ _ _) (λ o. leads_self _)))

  pub row_leads : (s : Scope) (r : List Part) (ps : List LambdaParam) (a b : Walk) (st : Sites) (m : Mode) → WalkLeads a b → Leads (row_body v s r ps a st m) (row_body w s r ps b st m)
  row_leads s r ps a b st m h = then_leads (leads_self _) (λ x. h.on _ st m)

  pub step_leads : (s : Scope) (st : Sites) (t : NormalType) (ps : List LambdaParam) (a b : Walk) → WalkLeads a b → Leads (step_out v s st t ps a) (step_out w s st t ps b)
  step_leads s st t ps a b h = then_leads (leads_self (step_of v s ps)) (λ p. if_leads (step_fits s t p) (then_leads (h.on p.0 st (wants (at_row t (step_row s.env)))) (λ o. leads_self _)))
