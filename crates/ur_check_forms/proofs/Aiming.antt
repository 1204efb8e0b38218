-- The targets of links and actions.
use Rattle.std.proofs.Common.{◌≡◌, refl, ap, sym, ◌∙◌, subst, ℕ, Bool, true, false, List, [], ◌∷◌, ◌++◌, Option, Some, None, Err}
use Rattle.std.specs.Prelude.{IsTrue, ◌↔◌, codes, option_map, option_and_then, slice_get}
use mathlib.Core.Former.{Count}
use Rattle.ur_base.specs.Stopping.{IfRefused}
use Rattle.ur_base.specs.declared.refusal.Refusal.{Refusal}
use Rattle.ur_base.specs.declared.refusal.Stop.{Stop}
use Rattle.ur_base.specs.declared.refusal.Stop.TheVariants as stop
use Rattle.ur_syntax.specs.declared.xml.AttrValue.{AttrValue}
use Rattle.ur_syntax.specs.declared.xml.XmlForm.{Row_of-XmlPart}
use Rattle.ur_rows.specs.declared.normal.NormalType.{NormalType}
use Rattle.ur_rows.specs.declared.normal.NormalType.TheVariants as ty
use Rattle.ur_rows.specs.declared.normal.Part.{Part}
use Rattle.ur_rows.proofs.Shapes.{transaction-made, record-made}
use Rattle.ur_rows.specs.Made.{record_of, transaction_of}
use Rattle.ur_tree.specs.Places.{Place}
use Rattle.ur_xmltype.specs.Tags as node
use Rattle.ur_tree.specs.declared.exp.Param.{Param}
use Rattle.ur_tree.specs.declared.typed.ConParam.{ConParam}
use Rattle.ur_tree.specs.Heads.{Declared}
use Rattle.ur_tree.specs.Typing.{is_linkable, are_linkable, types_of}
use Rattle.ur_typed_rules.specs.Scopes.{World, Scope}
use Rattle.ur_typed_rules.specs.Tests.{is_page, is_page_type, no_cons}
use Rattle.ur_typed_rules.specs.Faults.{Fault, TellsType, not_so}
use Rattle.ur_typed_rules.specs.Rules.{if_so}
use Rattle.ur_typed.specs.Rules.{Sites, Walk}
use Rattle.ur_typed.specs.Markups.{Literal, page_params, without_last, called_at}
use Rattle.ur_typed.specs.Faults.{BreaksNode, no_call, no_page, no_link, no_action, no_page_action, no_form_taken, not_in_path, not_linkable, no_link_target, no_action_target}
use Rattle.ur_check_scopes.specs.declared.around.Around.{Around}
use Rattle.ur_check_scopes.specs.declared.world.Head.{Head as HeldHead}
use Rattle.ur_check_scopes.specs.Views.{Stands, Refuses, StopIs, head_in, declared_in}
use Rattle.ur_check_forms.specs.declared.targets.Target.{Target}
use Rattle.ur_check_forms.specs.Targets.{is_whole_page, IsLink, IsAction, IsNoPage, no_page_there, BreaksLink, links_nothing, links_no_page, links_further, BreaksAction, acts_on_nothing, acts_on_no_page, takes_no_form, acts_further}

page-made : (t : NormalType) → is_page_type (transaction_of t) ≡ is_whole_page t
page-made ty.Int = refl
page-made ty.Str = refl
page-made ty.Bool = refl
page-made ty.Page = refl
page-made ty.Xbody = refl
page-made ty.Xtable = refl
page-made ty.Xtr = refl
page-made (ty.Variable v) = refl
page-made (ty.Datatype d) = refl
page-made (ty.Opt' s t) = refl
page-made (ty.Many' s t) = refl
page-made (ty.Transaction' s t) = refl
page-made (ty.Arrow' s a k b) = refl
page-made (ty.Record' s r) = refl
page-made (ty.Form' s r) = refl

pub page-transaction : (t : NormalType) → is_page_type (ty.Transaction t) ≡ is_whole_page t
page-transaction t = ap is_page_type (transaction-made t) ∙ page-made t

pub linkable-record : (r : List Part) → is_linkable (ty.Record r) ≡ is_linkable (record_of r)
linkable-record r = ap is_linkable (record-made r)

pub ruleset pages = (page-transaction, linkable-record)

pub no-cons-said : (b : Bool) (cs : List ConParam) → IsTrue b ↔ (cs ≡ []) → b ≡ no_cons cs
no-cons-said true [] h = refl
no-cons-said true (c ∷ cs) h = let e : c ∷ cs ≡ [] = h.0 refl in cc
no-cons-said false [] h = let e : false ≡ true = h.1 refl in cc
no-cons-said false (c ∷ cs) h = refl

pub unit-said : (b : Bool) (r : List Part) → IsTrue b ↔ (r ≡ []) → b ≡ is_linkable (record_of r)
unit-said true [] h = refl
unit-said true (p ∷ r) h = let e : p ∷ r ≡ [] = h.0 refl in cc
unit-said false [] h = let e : false ≡ true = h.1 refl in cc
unit-said false (p ∷ r) h = refl

-- ---- page functions

pub page-there : (a : Around) (n : ℕ) (h : HeldHead) → slice_get (declared_in a.world.now).functions n ≡ Some (head_in h) → is_page (head_in h) ≡ true → (w : World) (s : Scope) → Stands a w s → page_params w.declared n ≡ Some (types_of h.params)
page-there a n h at is w s stands =
    ap (λ z. page_params z.declared n) stands.world ∙ ap (option_and_then (λ z. if_so (is_page z) (Some (types_of z.params)))) at ∙ ap (λ b. if_so b (Some (types_of h.params))) is

pub no-page-there : (a : Around) (n : ℕ) (h : HeldHead) → slice_get (declared_in a.world.now).functions n ≡ Some (head_in h) → is_page (head_in h) ≡ false → (w : World) (s : Scope) → Stands a w s → page_params w.declared n ≡ None
no-page-there a n h at is w s stands =
    ap (λ z. page_params z.declared n) stands.world ∙ ap (option_and_then (λ z. if_so (is_page z) (Some (types_of z.params)))) at ∙ ap (λ b. if_so b (Some (types_of h.params))) is

-- the list with one element more at its end
pub last-apart : {A : Type 0} (xs : List A) (x : A) → without_last (xs ++ x ∷ []) ≡ Some (xs, x)
last-apart [] x = refl
last-apart (y ∷ []) x = refl
last-apart (y ∷ z ∷ xs) x = ap (option_map (λ r. (y ∷ r.0, r.1))) (last-apart (z ∷ xs) x)

-- ---- what breaks the rules

pub link-broken : (names : List (List ℕ)) (l : Literal) (p : Place) (i : ℕ) (args : List Walk) (found : Option ℕ) (n : Count) (inner : Row_of-XmlPart n) (st : Sites) (f : Fault) → called_at l i ≡ option_map (λ k. (k, args)) found → BreaksLink l.declared found f →
    BreaksNode names l p n inner st (node.link i) f
link-broken names l p i args _ n inner st _ at links_nothing = no_call at
link-broken names l p i args _ n inner st _ at (links_no_page h) = no_page at h
link-broken names l p i args _ n inner st _ at (links_further h k) = no_link at h k

pub action-broken : (names : List (List ℕ)) (l : Literal) (p : Place) (i : ℕ) (v : Option AttrValue) (args : List Walk) (found : Option ℕ) (n : Count) (inner : Row_of-XmlPart n) (st : Sites) (f : Fault) → called_at l i ≡ option_map (λ k. (k, args)) found →
    BreaksAction l.declared found f → BreaksNode names l p n inner st (node.submit i v) f
action-broken names l p i v args _ n inner st _ at acts_on_nothing = no_action at
action-broken names l p i v args _ n inner st _ at (acts_on_no_page h) = no_page_action at h
action-broken names l p i v args _ n inner st _ at (takes_no_form h) = no_form_taken at h
action-broken names l p i v args _ n inner st _ at (acts_further h k m) = not_in_path at h k m

pub no-page-told : (a : Around) (n : ℕ) (word : List ℕ) (s' : Stop) → ((w : World) (s : Scope) → Stands a w s → page_params w.declared n ≡ None) → ((names : List (List ℕ)) → StopIs names (not_so word (codes "a call of a page function")) s') →
    IfRefused {A = Unit {0}} (Err s') (λ r. (w : World) (s : Scope) → Stands a w s → Refuses a.world.now.datatype_names (IsNoPage w.declared n word) r)
no-page-told a n word (stop.Refused r) h t = λ w s stands. (not_so word (codes "a call of a page function"), no_page_there (h w s stands), t a.world.now.datatype_names)
no-page-told a n word stop.Memory h t = tt

-- ---- links

pub no-page-linked : (d : Declared) (n : ℕ) (f : Fault) → IsNoPage d n (codes "a link") f → BreaksLink d (Some n) f
no-page-linked d n _ (no_page_there h) = links_no_page h

pub far-linked : (a : Around) (n : ℕ) (ts : List NormalType) (s' : Stop) → ((w : World) (s : Scope) → Stands a w s → page_params w.declared n ≡ Some ts) → are_linkable ts ≡ false → ((names : List (List ℕ)) → StopIs names not_linkable s') →
    IfRefused {A = Unit {0}} (Err s') (λ r. (w : World) (s : Scope) → Stands a w s → Refuses a.world.now.datatype_names (BreaksLink w.declared (Some n)) r)
far-linked a n ts (stop.Refused r) h k t = λ w s stands. (not_linkable, links_further (h w s stands) k, t a.world.now.datatype_names)
far-linked a n ts stop.Memory h k t = tt

pub link-made : (a : Around) (n : ℕ) (ts : List NormalType) (t : Target) → ((w : World) (s : Scope) → Stands a w s → page_params w.declared n ≡ Some ts) → are_linkable ts ≡ true → t.number ≡ n → t.args ≡ ts → (w : World) (s : Scope) → Stands a w s → IsLink w.declared t
link-made a n ts t h k e f w s stands = record { params = ap (page_params w.declared) e ∙ h w s stands ∙ ap Some (sym f); linkable = ap are_linkable f ∙ k }

pub nothing-linked : (a : Around) (found : Option ℕ) (s' : Stop) → found ≡ None → ((names : List (List ℕ)) → StopIs names no_link_target s') → IfRefused {A = Unit {0}} (Err s') (λ r. (w : World) (s : Scope) → Stands a w s → Refuses a.world.now.datatype_names (BreaksLink w.declared found) r)
nothing-linked a found (stop.Refused r) e t = λ w s stands. (no_link_target, subst (λ z. BreaksLink w.declared z no_link_target) (sym e) links_nothing, t a.world.now.datatype_names)
nothing-linked a found stop.Memory e t = tt

-- ---- actions

types-last : (front : List Param) (last : Param) → types_of (front ++ last ∷ []) ≡ types_of front ++ last.of ∷ []
types-last [] last = refl
types-last (p ∷ front) last = ap (λ z. p.of ∷ z) (types-last front last)

front-apart : (ps front : List Param) (last : Param) → ps ≡ front ++ last ∷ [] → without_last (types_of ps) ≡ Some (types_of front, last.of)
front-apart ps front last e = ap (λ z. without_last (types_of z)) e ∙ ap without_last (types-last front last) ∙ last-apart (types_of front) last.of

pub no-page-acting : (d : Declared) (n : ℕ) (f : Fault) → IsNoPage d n (codes "an action") f → BreaksAction d (Some n) f
no-page-acting d n _ (no_page_there h) = acts_on_no_page h

pub far-told : (ts : List NormalType) (s' : Stop) → are_linkable ts ≡ false → ((names : List (List ℕ)) → StopIs names not_linkable s') → IfRefused {A = Unit {0}} (Err s') (λ r. (are_linkable ts ≡ false) × ((names : List (List ℕ)) → TellsType names r not_linkable))
far-told ts (stop.Refused r) h t = (h, t)
far-told ts stop.Memory h t = tt

pub far-acting : (a : Around) (n : ℕ) (ps front : List Param) (last : Param) (r : Refusal) → ((w : World) (s : Scope) → Stands a w s → page_params w.declared n ≡ Some (types_of ps)) → ps ≡ front ++ last ∷ [] →
    (are_linkable (types_of front) ≡ false) × ((names : List (List ℕ)) → TellsType names r not_linkable) → (w : World) (s : Scope) → Stands a w s → Refuses a.world.now.datatype_names (BreaksAction w.declared (Some n)) r
far-acting a n ps front last r h e k w s stands = (not_linkable, acts_further (h w s stands) (front-apart ps front last e) k.0, k.1 a.world.now.datatype_names)

pub action-made : (a : Around) (n : ℕ) (ps front : List Param) (last : Param) (t : Target) → ((w : World) (s : Scope) → Stands a w s → page_params w.declared n ≡ Some (types_of ps)) → ps ≡ front ++ last ∷ [] → t.number ≡ n → t.args ≡ types_of front → t.wanted ≡ Some last.of →
    are_linkable (types_of front) ≡ true → (w : World) (s : Scope) → Stands a w s → IsAction w.declared t
action-made a n ps front last t h e i j k l w s stands = record {
  all = types_of ps;
  wanted = last.of;
  params = ap (page_params w.declared) i ∙ h w s stands;
  front = front-apart ps front last e ∙ ap (λ z. Some (z, last.of)) (sym j);
  is_wanted = k;
  linkable = ap are_linkable j ∙ l;
}

pub no-form-told : (a : Around) (n : ℕ) (ps : List Param) (s' : Stop) → ((w : World) (s : Scope) → Stands a w s → page_params w.declared n ≡ Some (types_of ps)) → ps ≡ [] → ((names : List (List ℕ)) → StopIs names no_action_target s') →
    IfRefused {A = Unit {0}} (Err s') (λ r. (w : World) (s : Scope) → Stands a w s → Refuses a.world.now.datatype_names (BreaksAction w.declared (Some n)) r)
no-form-told a n ps (stop.Refused r) h e t = λ w s stands. (no_action_target, takes_no_form (h w s stands ∙ ap (λ z. Some (types_of z)) e), t a.world.now.datatype_names)
no-form-told a n ps stop.Memory h e t = tt

pub nothing-acting : (a : Around) (found : Option ℕ) (s' : Stop) → found ≡ None → ((names : List (List ℕ)) → StopIs names no_action_target s') → IfRefused {A = Unit {0}} (Err s') (λ r. (w : World) (s : Scope) → Stands a w s → Refuses a.world.now.datatype_names (BreaksAction w.declared found) r)
nothing-acting a found (stop.Refused r) e t = λ w s stands. (no_action_target, subst (λ z. BreaksAction w.declared z no_action_target) (sym e) acts_on_nothing, t a.world.now.datatype_names)
nothing-acting a found stop.Memory e t = tt
