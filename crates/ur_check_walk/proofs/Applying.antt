-- Applications: arguments one by one, and what is applied.
use Rattle.std.proofs.Common.{arith, ◌+◌, ◌*◌, ◌≡◌, ◌≢◌, ◌∙◌, refl, ap, ap₂, sym, subst, true, false, ℕ, suc, ◌≤◌, ◌<◌, nat_le, ◌&&◌, List, [], ◌∷◌, ◌++◌, Option, Some, None, map, option_map, Err, length}
use Rattle.std.specs.Borrow.{Bor}
use Rattle.std.specs.Prelude.{slice_get, option_and_then, codes}
use Rattle.std.proofs.lemmas.Option.{slice_get-map}
use Rattle.std.proofs.lemmas.List.{append_assoc, append-nil}
use Rattle.ur_base.specs.Stopping.{IfRefused}
use Rattle.ur_base.specs.declared.refusal.Refusal.{Refusal}
use Rattle.ur_base.specs.declared.refusal.Stop.{Stop}
use Rattle.ur_base.specs.declared.refusal.Stop.TheVariants as stop
use Rattle.ur_syntax.specs.declared.con.Con.{Con}
use Rattle.ur_syntax.specs.declared.exp.Exp.{Exp}
use Rattle.ur_syntax.specs.declared.exp.ExpForm.{ExpForm, end_of-Exp as alone, more_of-Exp as its}
use Rattle.ur_syntax.specs.declared.exp.ExpForm.TheVariants as e
use Rattle.ur_rows.specs.declared.normal.Normal.{Normal}
use Rattle.ur_rows.specs.declared.normal.NormalType.{NormalType}
use Rattle.ur_rows.specs.declared.normal.NormalType.TheVariants as ty
use Rattle.ur_rows.specs.Nodes.{type_nodes, most_nodes}
use Rattle.ur_tree.specs.declared.typed.ConParam.{ConParam}
use Rattle.ur_tree.specs.declared.exp.Param.{Param}
use Rattle.ur_tree.specs.declared.typed.Variant.{Variant}
use Rattle.ur_typed_rules.specs.Arguments.{BreaksGiven}
use Rattle.ur_typed_rules.specs.Faults.{Fault, too_large, not_so, TellsType as TellsFault}
use Rattle.ur_rows.specs.Put.{instance_type}
use Rattle.ur_tree.specs.declared.exp.Exp.{Exp as Resolved}
use Rattle.ur_tree.specs.declared.exp.Exp.TheVariants as exp
use Rattle.ur_tree.specs.declared.exp.Exp.TheBlock as T
use Rattle.ur_tree.specs.declared.exp.Exp.TheBlock.{end_of-Exp as no_more, more_of-Exp as one_more, Some'}
use Rattle.ur_tree.specs.Heads.{Head, function_type}
use Rattle.ur_tree.specs.Make as make
use Rattle.ur_tree.specs.Typing.{are_static_at, parameters}
use Rattle.ur_typed_rules.specs.Scopes.{World, Scope, Mode, finds, wants}
use Rattle.ur_typed_rules.specs.Tests.{are_arguments}
use Rattle.ur_typed_rules.specs.Rules.{if_so}
use Rattle.ur_typed.specs.Resolves.{is_head}
use Rattle.ur_typed.specs.Causes.{HasFault, in_application}
use Rattle.ur_typed.specs.Faults.{walks, given_to, is_given, no_further, missing_argument, TooMany, no_type_left, many_behind, TooFew, no_argument_left, few_behind, BreaksApplied, bad_call, large_call, too_many, too_few, moves_in, takes_none, takes_one, too_many_there, too_few_there, breaks_further, breaks_at_head, no_head}
use Rattle.ur_typed.specs.Parts.{applied as in_applied, InArgs, this_arg, later_arg, arg_types, of_named, of_head, of_applied, further, at_head, is_applied}
use Rattle.ur_typed.specs.Rules.{Sites, Out, Walk, Args as RuleArgs, gives, args_out, with_first, applied, by_head, call_out, build_out, with_type, applied_out, function_at, tag_named}
use Rattle.ur_typed.specs.Walking.{walk, typed, spine}
use Rattle.ur_typed.proofs.Parts.{spine_at_head}
use Rattle.ur_check_scopes.specs.declared.around.Around.{Around}
use Rattle.ur_check_scopes.specs.declared.world.Head.{Head as HeldHead}
use Rattle.ur_check_scopes.specs.Views.{Stands, Refuses, StopIs, IsLarge, env_in, head_in}
use Rattle.ur_check_rules.proofs.Settling.{most_is, is-small, is-large}
use Rattle.ur_check_rules.specs.declared.values.Applied.{Applied}
use Rattle.ur_check_rules.specs.declared.values.Callee.{Callee}
use Rattle.ur_check_rules.specs.declared.values.Callee.TheVariants as callee
use Rattle.ur_check_rules.proofs.Naming.{arguments-same, given-there}
use Rattle.ur_check_rules.specs.declared.out.Out.{Out as HeldOut}
use Rattle.ur_check_rules.specs.declared.out.Sites.{Sites as HeldSites}
use Rattle.ur_check_rules.specs.Views.{sites_in, out_in, out_with, args_with}
use Rattle.ur_check_rules.specs.Callees.{is_tag_form, IsApplied, IsCallee, BreaksCallee, large_given, bad_head}
use Rattle.ur_check_walk.specs.Promises.{Gives, GivesTyped, Tells}
use Rattle.ur_check_walk.specs.Applying.{forms_onto, forms_in, Unapplied, no_argument, an_argument, ArgsHaveFault, in_argument, many, few, GivesArgs, TellsArgs, HeadBreaks, head_breaks, BreaksStatic, TellsMany, CallHasFault, in_call, breaks_call, SpineHasFault, in_spine, breaks_spine, SpineGives, SpineTells, CallTells}
use Rattle.ur_check_walk.proofs.Forms.{app-made}
use Rattle.ur_check_walk.proofs.Passing.{given-breaks}
use Rattle.ur_check_walk.proofs.Steps.{part, rule, stands-there}

-- ---- the list of arguments

forms-onto-push : (xs : List (Bor Exp)) (x : Bor Exp) (behind : List ExpForm) → forms_onto (xs ++ x ∷ []) behind ≡ x.now.form ∷ forms_onto xs behind
forms-onto-push [] x behind = refl
forms-onto-push (y ∷ ys) x behind = forms-onto-push ys x (y.now.form ∷ behind)

pub forms-push : (xs : List (Bor Exp)) (x : Bor Exp) → forms_in (xs ++ x ∷ []) ≡ x.now.form ∷ forms_in xs
forms-push xs x = forms-onto-push xs x []

pub more-forms : (given rest : List (Bor Exp)) (x : Bor Exp) → given ≡ rest ++ x ∷ [] → forms_in given ≡ x.now.form ∷ forms_in rest
more-forms given rest x h = ap forms_in h ∙ forms-push rest x

pub no-forms : (given : List (Bor Exp)) → given ≡ [] → forms_in given ≡ []
no-forms given h = ap forms_in h

forms-onto-length : (xs : List (Bor Exp)) (behind : List ExpForm) → length (forms_onto xs behind) ≡ length xs + length behind
forms-onto-length [] behind = omega arith
forms-onto-length (x ∷ xs) behind = forms-onto-length xs (x.now.form ∷ behind) ∙ one (length xs) (length behind)
  where
    one : (a b : ℕ) → a + suc b ≡ suc a + b
    one a b = omega arith

pub forms-length : (xs : List (Bor Exp)) → length (forms_in xs) ≡ length xs
forms-length xs = forms-onto-length xs [] ∙ none (length xs)
  where
    none : (a : ℕ) → a + 0 ≡ a
    none a = omega arith

-- what is applied in what is left, with the arguments so far behind it, is applied in the whole
abbrev pub Unapplies : ExpForm → List ExpForm → ExpForm → List ExpForm → Type 0
Unapplies x xs z zs = (y : ExpForm) (ys : List ExpForm) → Unapplied z zs y ys → Unapplied x xs y ys

pub unapplies-more : (x : ExpForm) (xs zs : List ExpForm) (z : ExpForm) (f a : Exp) (more : List ExpForm) → Unapplies x xs z zs → z ≡ e.App f a → more ≡ a.form ∷ zs → Unapplies x xs f.form more
unapplies-more x xs zs z f a more h ez em y ys u =
    h y ys (subst (λ k. Unapplied k zs y ys) (sym ez) (an_argument f a (subst (λ k. Unapplied f.form k y ys) em u)))

-- What is found of the arguments that are left is so of all, behind those so far.
pub record Leads (w : World) (s : Scope) (xs : List ExpForm) (ts : List NormalType) (before : Sites) (ys : List ExpForm) (us : List NormalType) (st : Sites) (done : List Resolved) : Type 0 where
  pub found : (es : List Resolved) (after : Sites) → args_out s (walks w ys) us st ≡ Some (args_with es, after) → args_out s (walks w xs) ts before ≡ Some (args_with (done ++ es), after)
  pub inside : (su : Sites) (y : ExpForm) (m : Mode) → InArgs w s ys us st su y m → InArgs w s xs ts before su y m
  pub too_many_left : TooMany (walks w ys) us → TooMany (walks w xs) ts
  pub too_few_left : TooFew (walks w ys) us → TooFew (walks w xs) ts

abbrev pub AllLead : Around → List ExpForm → List NormalType → HeldSites → List ExpForm → List NormalType → HeldSites → List Resolved → Type 0
AllLead a xs ts before ys us st done = (w : World) (s : Scope) → Stands a w s → Leads w s xs ts (sites_in before) ys us (sites_in st) done

pub all-first : (a : Around) (xs : List ExpForm) (ts : List NormalType) (before : HeldSites) (done : List Resolved) → done ≡ [] → AllLead a xs ts before xs ts before done
all-first a xs ts before done h w s stands = subst (λ z. Leads w s xs ts (sites_in before) xs ts (sites_in before) z) (sym h) (record { found = λ es after g. g; inside = λ su y m g. g; too_many_left = λ g. g; too_few_left = λ g. g })

one-found : (w : World) (s : Scope) (y : ExpForm) (ys : List ExpForm) (u : NormalType) (us : List NormalType) (st : Sites) (o : Out) (es : List Resolved) (after : Sites) → typed w y s st (wants u) ≡ Some o → args_out s (walks w ys) us o.sites ≡ Some (args_with es, after) →
    args_out s (walks w (y ∷ ys)) (u ∷ us) st ≡ Some (args_with (o.exp ∷ es), after)
one-found w s y ys u us st o es after h g =
    ap (option_and_then (λ z. option_map (with_first z.exp) (args_out s (walks w ys) us z.sites))) h ∙ ap (option_map (with_first o.exp)) g

leads-step : (w : World) (s : Scope) (xs : List ExpForm) (ts : List NormalType) (before : Sites) (y : ExpForm) (ys : List ExpForm) (u : NormalType) (us : List NormalType) (st : Sites) (done : List Resolved) (o : Out) → typed w y s st (wants u) ≡ Some o →
    Leads w s xs ts before (y ∷ ys) (u ∷ us) st done → Leads w s xs ts before ys us o.sites (done ++ o.exp ∷ [])
leads-step w s xs ts before y ys u us st done o h leads = record {
  found = λ es after g. leads.found (o.exp ∷ es) after (one-found w s y ys u us st o es after h g) ∙ ap (λ z. Some (args_with z, after)) (sym (append_assoc done (o.exp ∷ []) es));
  inside = λ su z m g. leads.inside su z m (later_arg h g);
  too_many_left = λ g. leads.too_many_left (many_behind g);
  too_few_left = λ g. leads.too_few_left (few_behind g);
}

-- one argument more
pub all-step : (a : Around) (xs : List ExpForm) (ts : List NormalType) (before : HeldSites) (y : ExpForm) (ys zs : List ExpForm) (u : NormalType) (us vs : List NormalType) (st after : HeldSites) (done more : List Resolved) (o : HeldOut) → zs ≡ y ∷ ys → vs ≡ u ∷ us →
    GivesTyped a st y (wants u) o after → more ≡ done ++ o.exp ∷ [] → AllLead a xs ts before zs vs st done → AllLead a xs ts before ys us after more
all-step a xs ts before y ys zs u us vs st after done more o ez ev typed em leads w s stands =
    let there : Leads w s xs ts (sites_in before) (y ∷ ys) (u ∷ us) (sites_in st) done =
    subst (λ k. Leads w s xs ts (sites_in before) (y ∷ ys) k (sites_in st) done) ev (subst (λ k. Leads w s xs ts (sites_in before) k vs (sites_in st) done) ez (leads w s stands)) in
    subst (λ k. Leads w s xs ts (sites_in before) ys us (sites_in after) k) (sym em) (leads-step w s xs ts (sites_in before) y ys u us (sites_in st) done (out_in o after) (typed w s stands) there)

-- ---- what is applied

pub call-gives : (w : World) (s : Scope) (st : Sites) (x : ExpForm) (xs : List ExpForm) (f : ℕ × List Normal) (h : Head) (es : List Resolved) (after : Sites) (o : HeldOut) → function_at w s x ≡ Some f → slice_get w.declared.functions f.0 ≡ Some h →
    (are_arguments s.env h.cons f.1 && nat_le (type_nodes (instance_type f.1 (function_type h))) w.most) ≡ true → args_out s (walks w xs) (arg_types f h) st ≡ Some (args_with es, after) → are_static_at h.params (args_with es).1 ≡ true → o.of ≡ instance_type f.1 h.result →
    o.exp ≡ make.apply (exp.Function f.0 f.1) (args_with es).0 (args_with es).1 → applied w s st x (typed w x) (walks w xs) ≡ Some (out_with o after)
call-gives w s st x xs f h es after o ef eh met args fixed eo ee =
    let resolved : RuleArgs × Sites → Option Out = λ r. if_so (are_static_at h.params r.0.1) (gives (instance_type f.1 h.result) (make.apply (exp.Function f.0 f.1) r.0.0 r.0.1) r.1) in
    ap (λ z. by_head w s st (typed w x) (walks w xs) (is_head x) z (tag_named w x)) ef
    ∙ ap (option_and_then (call_out w s st (walks w xs) f)) eh
    ∙ ap (λ b. if_so b (option_and_then resolved (args_out s (walks w xs) (arg_types f h) st))) met
    ∙ ap (option_and_then resolved) args
    ∙ ap (λ b. if_so b (gives (instance_type f.1 h.result) (make.apply (exp.Function f.0 f.1) (args_with es).0 (args_with es).1) after)) fixed
    ∙ ap₂ (λ t z. gives t z after) (sym eo) (sym ee)

tagged-made : (n : ℕ) (x : Resolved) → exp.Tagged n (Some x) ≡ exp.Tagged' n (Some' tt (one_more x no_more))
unfolding T.hidden-the_row-Exp-0 denote.Hole.Carrier.hidden
tagged-made n x = refl

pub build-gives : (w : World) (s : Scope) (st : Sites) (x y : ExpForm) (n d : ℕ) (t : NormalType) (p : Out) (o : HeldOut) → function_at w s x ≡ None → tag_named w x ≡ Some n → slice_get w.declared.variants n ≡ Some (d, Some t) → typed w y s st (wants t) ≡ Some p →
    o.of ≡ ty.Datatype d → o.exp ≡ exp.Tagged n (Some p.exp) → applied w s st x (typed w x) (walks w (y ∷ [])) ≡ Some (out_with o p.sites)
build-gives w s st x y n d t p o ef en ev ey eo ee =
    ap (λ z. by_head w s st (typed w x) (walks w (y ∷ [])) (is_head x) z (tag_named w x)) ef
    ∙ ap (λ z. by_head w s st (typed w x) (walks w (y ∷ [])) (is_head x) None z) en
    ∙ ap (λ z. option_and_then (build_out s st n (typed w y)) (option_and_then with_type z)) ev
    ∙ ap (option_and_then (λ z. gives (ty.Datatype d) (exp.Tagged' n (Some' tt (one_more z.exp no_more))) z.sites)) ey
    ∙ ap₂ (λ u z. gives u z p.sites) (sym eo) (sym (ee ∙ tagged-made n p.exp))

pub value-gives : (w : World) (s : Scope) (st : Sites) (x : ExpForm) (xs : List ExpForm) (p : Out) (es : List Resolved) (after : Sites) (o : HeldOut) → function_at w s x ≡ None → tag_named w x ≡ None → is_head x ≡ true → typed w x s st finds ≡ Some p →
    args_out s (walks w xs) (parameters p.of).0 p.sites ≡ Some (args_with es, after) → o.of ≡ (parameters p.of).1 → o.exp ≡ make.apply p.exp (args_with es).0 (args_with es).1 → applied w s st x (typed w x) (walks w xs) ≡ Some (out_with o after)
value-gives w s st x xs p es after o ef en eh ex args eo ee =
    let resolved : RuleArgs × Sites → Option Out = λ r. gives (parameters p.of).1 (make.apply p.exp r.0.0 r.0.1) r.1 in
    ap (λ z. by_head w s st (typed w x) (walks w xs) (is_head x) z (tag_named w x)) ef
    ∙ ap (λ z. by_head w s st (typed w x) (walks w xs) (is_head x) None z) en
    ∙ ap (λ b. by_head w s st (typed w x) (walks w xs) b None None) eh
    ∙ ap (option_and_then (applied_out s (walks w xs))) ex
    ∙ ap (option_and_then resolved) args
    ∙ ap₂ (λ t z. gives t z after) (sym eo) (sym ee)

pub other-head : (x : ExpForm) → is_applied x ≡ false → is_tag_form x ≡ false → is_head x ≡ true
other-head (e.App' _ x _ y) h g = cc
other-head (e.Constructor x) h g = cc
other-head (e.MemberConstructor m x) h g = cc
other-head _ h g = refl

pub other-tag : (w : World) (x : ExpForm) → is_tag_form x ≡ false → tag_named w x ≡ None
other-tag w (e.Constructor x) g = cc
other-tag w (e.MemberConstructor m x) g = cc
other-tag w _ g = refl

-- ---- applications behind one another

pub not-applied : (x : ExpForm) → ((f a : Exp) → x ≢ e.App f a) → is_applied x ≡ false
not-applied (e.App' _ (its p f alone) _ (its q a alone)) h = absurd (h (record { span = p; form = f }) (record { span = q; form = a }) (sym (app-made (record { span = p; form = f }) (record { span = q; form = a }))))
not-applied _ h = refl

pub spine-gives : (a : Around) (before after : HeldSites) (x : ExpForm) (xs : List ExpForm) (o : HeldOut) → is_applied x ≡ false → ((w : World) (s : Scope) → Stands a w s → applied w s (sites_in before) x (typed w x) (walks w xs) ≡ Some (out_in o after)) → SpineGives a before x xs o after
spine-gives a before after x xs o h g w s stands = spine_at_head w x s (sites_in before) (typed w x) (walks w xs) h ∙ g w s stands

pub spine-tells : {names : List (List ℕ)} {w : World} {s : Scope} {st : Sites} {x : ExpForm} {xs : List ExpForm} {r : Refusal} → is_applied x ≡ false → CallHasFault names w s st x xs r → SpineHasFault names w s st x xs r
spine-tells h (in_call c g) = in_spine (at_head h c) g
spine-tells h (breaks_call t) = breaks_spine (t.0, breaks_at_head h t.1, t.2)

step-told : {names : List (List ℕ)} {w : World} {s : Scope} {st : Sites} (f a : Exp) {xs : List ExpForm} {r : Refusal} → SpineHasFault names w s st f.form (a.form ∷ xs) r → SpineHasFault names w s st (e.App' tt (its f.span f.form alone) tt (its a.span a.form alone)) xs r
step-told f a (in_spine c g) = in_spine (further c) g
step-told f a (breaks_spine t) = breaks_spine (t.0, breaks_further t.1, t.2)

pub further-tells : {names : List (List ℕ)} {w : World} {s : Scope} {st : Sites} (f a : Exp) {xs : List ExpForm} {r : Refusal} → SpineHasFault names w s st f.form (a.form ∷ xs) r → SpineHasFault names w s st (e.App f a) xs r
further-tells {names = names} {w = w} {s = s} {st = st} f a {xs = xs} {r = r} h = subst (λ z. SpineHasFault names w s st z xs r) (sym (app-made f a)) (step-told f a h)

pub application-gives : (w : World) (s : Scope) (st : Sites) (m : Mode) (f a : Exp) (o : Out) → spine w f.form s st (typed w f.form) (walks w (a.form ∷ [])) ≡ Some o → walk w (e.App f a) s st m ≡ Some o
application-gives w s st m f a o h = ap (λ z. walk w z s st m) (app-made f a) ∙ h

pub spine-further : (w : World) (s : Scope) (st : Sites) (f a : Exp) (xs : List ExpForm) (head : Walk) (o : Out) → spine w f.form s st (typed w f.form) (walks w (a.form ∷ xs)) ≡ Some o → spine w (e.App f a) s st head (walks w xs) ≡ Some o
spine-further w s st f a xs head o h = ap (λ z. spine w z s st head (walks w xs)) (app-made f a) ∙ h

whole-told : {names : List (List ℕ)} {w : World} {s : Scope} {st : Sites} {m : Mode} (f a : Exp) {r : Refusal} → SpineHasFault names w s st f.form (a.form ∷ []) r → HasFault names w s st (e.App' tt (its f.span f.form alone) tt (its a.span a.form alone)) m r
whole-told f a (in_spine c g) = part (in_applied c) g
whole-told f a (breaks_spine t) = rule (t.0, in_application t.1, t.2)

pub application-tells : {names : List (List ℕ)} {w : World} {s : Scope} {st : Sites} (m : Mode) (f a : Exp) {r : Refusal} → SpineHasFault names w s st f.form (a.form ∷ []) r → HasFault names w s st (e.App f a) m r
application-tells {names = names} {w = w} {s = s} {st = st} m f a {r = r} h = subst (λ z. HasFault names w s st z m r) (sym (app-made f a)) (whole-told f a h)

-- ---- the types of a call

pub types-met : (a : Around) (args more : List Normal) (cons : List ConParam) (h : HeldHead) → more ≡ args → cons ≡ h.cons → are_arguments (env_in a.scope.cons) cons more ≡ true → type_nodes (instance_type more (function_type (head_in h))) ≤ most_nodes →
    (w : World) (s : Scope) → Stands a w s → (are_arguments s.env h.cons args && nat_le (type_nodes (instance_type args (function_type (head_in h)))) w.most) ≡ true
types-met a args more cons h em ec met small w s st =
    let here : are_arguments s.env h.cons args ≡ true = arguments-same s.env (env_in a.scope.cons) st.kinds st.known h.cons args ∙ sym (ap₂ (are_arguments (env_in a.scope.cons)) ec em) ∙ met in
    let le : nat_le (type_nodes (instance_type args (function_type (head_in h)))) w.most ≡ true =
    ap (nat_le (type_nodes (instance_type args (function_type (head_in h))))) (most_is a w s st) ∙ is-small (type_nodes (instance_type args (function_type (head_in h)))) most_nodes (subst (λ z. type_nodes (instance_type z (function_type (head_in h))) ≤ most_nodes) em small) in
    ap₂ (λ x y. x && y) here le

-- what breaks the rule of a call before its arguments are looked at
abbrev pub HeadTells : Around → Applied → HeldHead → Refusal → Type 0
HeadTells a f h r = (w : World) (s : Scope) (x : ExpForm) → Stands a w s → IsApplied w s x f → slice_get w.declared.functions f.number ≡ Some (head_in h) → Refuses a.world.now.datatype_names (HeadBreaks a.world.now.datatype_names w s x) r

pub types-unfit : (a : Around) (f : Applied) (h : HeldHead) (r : Refusal) → Refuses a.world.now.datatype_names (BreaksGiven (env_in a.scope.cons) (map (λ (c : Bor Con). c.now) f.given) f.args h.cons) r → HeadTells a f h r
types-unfit a f h r t w s x st is eh =
    let there : BreaksGiven s.env (given_to x) f.args h.cons t.0 = subst (λ z. BreaksGiven s.env z f.args h.cons t.0) is.given (given-there (env_in a.scope.cons) s.env (sym st.kinds) (sym st.known) (map (λ (c : Bor Con). c.now) f.given) f.args h.cons t.0 t.1) in
    (t.0, head_breaks (λ st' xs. bad_call is.at eh there), t.2)

pub types-large : (a : Around) (f : Applied) (more : List Normal) (h : HeldHead) (r : Refusal) → more ≡ f.args → IsLarge r → most_nodes < type_nodes (instance_type more (function_type (head_in h))) → HeadTells a f h r
types-large a f more h r em says large w s x st is eh =
    (too_large, head_breaks (λ st' xs. large_call is.at eh (ap (nat_le (type_nodes (instance_type f.args (function_type (head_in h))))) (most_is a w s st) ∙ is-large (type_nodes (instance_type f.args (function_type (head_in h)))) most_nodes (subst (λ z. most_nodes < type_nodes (instance_type z (function_type (head_in h)))) em large))), says)

-- ---- refusals of a call

all-breaks : {names : List (List ℕ)} {w : World} {s : Scope} {x : ExpForm} {f : Fault} → HeadBreaks names w s x f → (st : Sites) (xs : List ExpForm) → BreaksApplied names w s st x xs f
all-breaks (head_breaks g) st xs = g st xs

pub head-tells : {names : List (List ℕ)} {w : World} {s : Scope} {st : Sites} {x : ExpForm} {xs : List ExpForm} {r : Refusal} → Refuses names (HeadBreaks names w s x) r → CallHasFault names w s st x xs r
head-tells t = breaks_call (t.0, all-breaks t.1 _ _, t.2)

pub named-tells : {names : List (List ℕ)} {w : World} {s : Scope} {st : Sites} {x : ExpForm} {xs : List ExpForm} {r : Refusal} (f : ℕ × List Normal) (h : Head) → function_at w s x ≡ Some f → slice_get w.declared.functions f.0 ≡ Some h → ArgsHaveFault names w s st xs (arg_types f h) r → CallHasFault names w s st x xs r
named-tells f h ef eh (in_argument c g) = in_call (of_named ef eh c) g
named-tells f h ef eh (many c t) = breaks_call (no_further, too_many ef eh c, t)
named-tells f h ef eh (few c t) = breaks_call (missing_argument, too_few ef eh c, t)

pub static-tells : {names : List (List ℕ)} {w : World} {s : Scope} {st su : Sites} {x : ExpForm} {xs : List ExpForm} {r : Refusal} (f : ℕ × List Normal) (h : Head) (es : List Resolved) → function_at w s x ≡ Some f → slice_get w.declared.functions f.0 ≡ Some h →
    args_out s (walks w xs) (arg_types f h) st ≡ Some (args_with es, su) → BreaksStatic h.params (args_with es).1 r → CallHasFault names w s st x xs r
static-tells {names = names} f h es ef eh args t = breaks_call (not_so (codes "an argument") (codes "a static expression"), moves_in ef eh args t.0, t.1 names)

pub value-tells : {names : List (List ℕ)} {w : World} {s : Scope} {st : Sites} {x : ExpForm} {xs : List ExpForm} {r : Refusal} (p : Out) → function_at w s x ≡ None → tag_named w x ≡ None → typed w x s st finds ≡ Some p → ArgsHaveFault names w s p.sites xs (parameters p.of).0 r → CallHasFault names w s st x xs r
value-tells p ef en h (in_argument c g) = in_call (of_applied ef en h c) g
value-tells p ef en h (many c t) = breaks_call (no_further, too_many_there ef en h c, t)
value-tells p ef en h (few c t) = breaks_call (missing_argument, too_few_there ef en h c, t)

pub sole-tells : {names : List (List ℕ)} {w : World} {s : Scope} {st : Sites} {x : ExpForm} {xs : List ExpForm} {r : Refusal} (n : ℕ) → function_at w s x ≡ None → tag_named w x ≡ Some n → TellsMany xs r → CallHasFault names w s st x xs r
sole-tells {names = names} {w = w} {s = s} {st = st} {x = x} {r = r} n ef en t = subst (λ z. CallHasFault names w s st x z r) (sym t.3) (breaks_call (no_further, takes_one ef en, t.4 names))

pub none-tells : {names : List (List ℕ)} {w : World} {s : Scope} {st : Sites} {x : ExpForm} {xs : List ExpForm} {r : Refusal} (n d : ℕ) → function_at w s x ≡ None → tag_named w x ≡ Some n → slice_get w.declared.variants n ≡ Some (d, None) → TellsFault names r no_further → CallHasFault names w s st x xs r
none-tells n d ef en ev t = breaks_call (no_further, takes_none ef en ev, t)

pub variant-at : (a : Around) (n : ℕ) (v : Variant) → slice_get a.world.now.variants n ≡ Some v → (w : World) (s : Scope) → Stands a w s → slice_get w.declared.variants n ≡ Some (v.datatype, v.arg)
variant-at a n v e w s h = ap (λ (z : World). slice_get z.declared.variants n) h.world ∙ slice_get-map (λ (v : Variant). (v.datatype, v.arg)) a.world.now.variants n ∙ ap (option_map (λ (v : Variant). (v.datatype, v.arg))) e

-- ---- arguments, and their ends

pub args-given : (a : Around) (xs : List ExpForm) (ts : List NormalType) (before : HeldSites) (ys : List ExpForm) (us : List NormalType) (st : HeldSites) (done : List Resolved) → ys ≡ [] → us ≡ [] → AllLead a xs ts before ys us st done → GivesArgs a before xs ts done st
args-given a xs ts before ys us st done ey eu leads w s stands =
    let all : Leads w s xs ts (sites_in before) [] [] (sites_in st) done = subst (λ z. Leads w s xs ts (sites_in before) [] z (sites_in st) done) eu (subst (λ z. Leads w s xs ts (sites_in before) z us (sites_in st) done) ey (leads w s stands)) in
    all.found [] (sites_in st) refl ∙ ap (λ z. Some (args_with z, sites_in st)) (append-nil done)

pub arg-tells : (a : Around) (xs : List ExpForm) (ts : List NormalType) (before : HeldSites) (y : ExpForm) (ys zs : List ExpForm) (u : NormalType) (us vs : List NormalType) (st : HeldSites) (done : List Resolved) (r : Refusal) → zs ≡ y ∷ ys → vs ≡ u ∷ us →
    AllLead a xs ts before zs vs st done → Tells a st y (wants u) r → TellsArgs a before xs ts r
arg-tells a xs ts before y ys zs u us vs st done r ez ev leads h w s stands =
    let there : Leads w s xs ts (sites_in before) (y ∷ ys) (u ∷ us) (sites_in st) done =
    subst (λ k. Leads w s xs ts (sites_in before) (y ∷ ys) k (sites_in st) done) ev (subst (λ k. Leads w s xs ts (sites_in before) k vs (sites_in st) done) ez (leads w s stands)) in
    in_argument (there.inside (sites_in st) y (wants u) this_arg) (h w s stands)

pub many-told : (a : Around) (xs : List ExpForm) (ts : List NormalType) (before : HeldSites) (y : ExpForm) (ys zs : List ExpForm) (vs : List NormalType) (st : HeldSites) (done : List Resolved) (stop : Stop) → zs ≡ y ∷ ys → vs ≡ [] → AllLead a xs ts before zs vs st done →
    ((names : List (List ℕ)) → StopIs names no_further stop) → IfRefused {A = Unit {0}} (Err stop) (TellsArgs a before xs ts)
many-told a xs ts before y ys zs vs st done (stop.Refused r) ez ev leads t = λ w s stands.
    let there : Leads w s xs ts (sites_in before) (y ∷ ys) [] (sites_in st) done =
    subst (λ k. Leads w s xs ts (sites_in before) (y ∷ ys) k (sites_in st) done) ev (subst (λ k. Leads w s xs ts (sites_in before) k vs (sites_in st) done) ez (leads w s stands)) in
    many (there.too_many_left no_type_left) (t a.world.now.datatype_names)
many-told a xs ts before y ys zs vs st done stop.Memory ez ev leads t = tt

pub few-told : (a : Around) (xs : List ExpForm) (ts : List NormalType) (before : HeldSites) (zs : List ExpForm) (u : NormalType) (us vs : List NormalType) (st : HeldSites) (done : List Resolved) (stop : Stop) → zs ≡ [] → vs ≡ u ∷ us → AllLead a xs ts before zs vs st done →
    ((names : List (List ℕ)) → StopIs names missing_argument stop) → IfRefused {A = Unit {0}} (Err stop) (TellsArgs a before xs ts)
few-told a xs ts before zs u us vs st done (stop.Refused r) ez ev leads t = λ w s stands.
    let there : Leads w s xs ts (sites_in before) [] (u ∷ us) (sites_in st) done =
    subst (λ k. Leads w s xs ts (sites_in before) [] k (sites_in st) done) ev (subst (λ k. Leads w s xs ts (sites_in before) k vs (sites_in st) done) ez (leads w s stands)) in
    few (there.too_few_left no_argument_left) (t a.world.now.datatype_names)
few-told a xs ts before zs u us vs st done stop.Memory ez ev leads t = tt

-- ---- from the code to the definitions

pub further-gives : (a b : Around) (before after : HeldSites) (x : ExpForm) (f g : Exp) (xs : List ExpForm) (o : HeldOut) → b.world ≡ a.world → b.scope ≡ a.scope → x ≡ e.App f g → SpineGives b before f.form (g.form ∷ xs) o after → SpineGives a before x xs o after
further-gives a b before after x f g xs o ew es ex h w s st =
    subst (λ z. spine w z s (sites_in before) (typed w z) (walks w xs) ≡ Some (out_in o after)) (sym ex) (spine-further w s (sites_in before) f g xs (typed w (e.App f g)) (out_in o after) (h w s (stands-there a b w s ew es st)))

pub further-told : (a b : Around) (before : HeldSites) (x : ExpForm) (f g : Exp) (xs : List ExpForm) (r : Refusal) → b.world ≡ a.world → b.scope ≡ a.scope → x ≡ e.App f g → SpineTells b before f.form (g.form ∷ xs) r → SpineTells a before x xs r
further-told a b before x f g xs r ew es ex h w s st =
    subst (λ z. SpineHasFault z.now.datatype_names w s (sites_in before) x xs r) ew
    (subst (λ z. SpineHasFault b.world.now.datatype_names w s (sites_in before) z xs r) (sym ex) (further-tells f g (h w s (stands-there a b w s ew es st))))

-- the same along all applications
pub unapplied-gives : (a : Around) (before after : HeldSites) (o : HeldOut) {x y : ExpForm} {xs ys : List ExpForm} → Unapplied x xs y ys → SpineGives a before y ys o after → SpineGives a before x xs o after
unapplied-gives a before after o no_argument h = h
unapplied-gives a before after o (an_argument f g {xs = xs} u) h = further-gives a a before after (e.App f g) f g xs o refl refl refl (unapplied-gives a before after o u h)

pub unapplied-tells : (a : Around) (before : HeldSites) (r : Refusal) {x y : ExpForm} {xs ys : List ExpForm} → Unapplied x xs y ys → SpineTells a before y ys r → SpineTells a before x xs r
unapplied-tells a before r no_argument h = h
unapplied-tells a before r (an_argument f g {xs = xs} u) h = further-told a a before (e.App f g) f g xs r refl refl refl (unapplied-tells a before r u h)

-- the whole application, whose arguments are put into a list of its last one
pub whole-gives : (a : Around) (before after : HeldSites) (f x : Exp) (o : HeldOut) {y : ExpForm} {xs ys : List ExpForm} → xs ≡ x.form ∷ [] → Unapplied f.form xs y ys → SpineGives a before y ys o after → (m : Mode) → Gives a before (e.App f x) m o after
whole-gives a before after f x o {y = y} {ys = ys} ex u h m w s st =
    application-gives w s (sites_in before) m f x (out_in o after) (unapplied-gives a before after o (subst (λ z. Unapplied f.form z y ys) ex u) h w s st)

pub whole-tells : (a : Around) (before : HeldSites) (f x : Exp) (r : Refusal) {y : ExpForm} {xs ys : List ExpForm} → xs ≡ x.form ∷ [] → Unapplied f.form xs y ys → SpineTells a before y ys r → (m : Mode) → Tells a before (e.App f x) m r
whole-tells a before f x r {y = y} {ys = ys} ex u h m w s st =
    application-tells m f x (unapplied-tells a before r (subst (λ z. Unapplied f.form z y ys) ex u) h w s st)

pub named-below : (l t : ℕ) → 60 * l + 8 ≡ t → 60 * l + 7 < t
named-below l t d = omega (arith, d)

pub callee-function : (w : World) (s : Scope) (x : ExpForm) (c : Callee) (f : Applied) → c ≡ callee.Function f → IsCallee w s x c → IsApplied w s x f
callee-function w s x c f e h = subst (IsCallee w s x) e h

pub callee-tag : (w : World) (s : Scope) (x : ExpForm) (c : Callee) (n : ℕ) → c ≡ callee.Tag n → IsCallee w s x c → (function_at w s x ≡ None) × (tag_named w x ≡ Some n)
callee-tag w s x c n e h = subst (IsCallee w s x) e h

pub callee-other : (w : World) (s : Scope) (x : ExpForm) (c : Callee) → c ≡ callee.Other → IsCallee w s x c → (function_at w s x ≡ None) × (is_tag_form x ≡ false)
callee-other w s x c e h = subst (IsCallee w s x) e h

given-tag : (w : World) (x : ExpForm) → is_given x ≡ true → tag_named w x ≡ None
given-tag w (e.ConApp' _ x c) h = refl
given-tag w _ h = cc

callee-told : {names : List (List ℕ)} {w : World} {s : Scope} {st : Sites} {x : ExpForm} {xs : List ExpForm} {r : Refusal} (f : Fault) → is_applied x ≡ false → BreaksCallee w s x f → TellsFault names r f → SpineHasFault names w s st x xs r
callee-told {names = names} {w = w} {s = s} {st = st} {x = x} f na (large_given g) t = in_spine (at_head na (of_head g.none (given-tag w x g.is_given))) (rule (f, given-breaks names w s st x finds f g.is_given g.broken, t))
callee-told f na (bad_head ef b) t = breaks_spine (f, no_head na b, t)

pub callee-tells : {names : List (List ℕ)} {w : World} {s : Scope} {st : Sites} {x : ExpForm} {xs : List ExpForm} {r : Refusal} → is_applied x ≡ false → Refuses names (BreaksCallee w s x) r → SpineHasFault names w s st x xs r
callee-tells na t = callee-told t.0 na t.1 t.2

pub none-told : (a : Around) (before : HeldSites) (n d : ℕ) (xs : List ExpForm) (arg : Option NormalType) (stop : Stop) → arg ≡ None → ((names : List (List ℕ)) → StopIs names no_further stop) →
    IfRefused {A = Unit {0}} (Err stop) (λ r. (w : World) (s : Scope) (x : ExpForm) → Stands a w s → function_at w s x ≡ None → tag_named w x ≡ Some n → slice_get w.declared.variants n ≡ Some (d, arg) → CallTells a.world.now.datatype_names w s before x xs r)
none-told a before n d xs arg (stop.Refused r) e t = λ w s x st ef en ev. none-tells n d ef en (ev ∙ ap (λ z. Some (d, z)) e) (t a.world.now.datatype_names)
none-told a before n d xs arg stop.Memory e t = tt

pub many-there : (given rest behind : List (Bor Exp)) (x y : Bor Exp) (stop : Stop) → given ≡ rest ++ x ∷ [] → rest ≡ behind ++ y ∷ [] → ((names : List (List ℕ)) → StopIs names no_further stop) → IfRefused {A = Unit {0}} (Err stop) (TellsMany (forms_in given))
many-there given rest behind x y (stop.Refused r) e h t = (x.now.form, y.now.form, forms_in behind, more-forms given rest x e ∙ ap (λ z. x.now.form ∷ z) (more-forms rest behind y h), t)
many-there given rest behind x y stop.Memory e h t = tt

pub one-there : (given rest : List (Bor Exp)) (x : Bor Exp) → given ≡ rest ++ x ∷ [] → rest ≡ [] → forms_in given ≡ x.now.form ∷ []
one-there given rest x e h = more-forms given rest x e ∙ ap (λ z. x.now.form ∷ z) (no-forms rest h)

pub static-there : (params more : List Param) (es fs : List Resolved) → more ≡ params → fs ≡ es → are_static_at more (args_with fs).1 ≡ true → are_static_at params (args_with es).1 ≡ true
static-there params more es fs ep ef h = subst (λ z. are_static_at params (args_with z).1 ≡ true) ef (subst (λ z. are_static_at z (args_with fs).1 ≡ true) ep h)

pub static-kept : (params more : List Param) (es fs : List Resolved) (r : Refusal) → more ≡ params → fs ≡ es → BreaksStatic more (args_with fs).1 r → BreaksStatic params (args_with es).1 r
static-kept params more es fs r ep ef h = (subst (λ z. are_static_at params (args_with z).1 ≡ false) ef (subst (λ z. are_static_at z (args_with fs).1 ≡ false) ep h.0), h.1)
