-- Where a part of an expression is not typed, neither is the whole.
use Rattle.std.proofs.Common.{◌≡◌, ◌∙◌, refl, ap, Bool, true, false, Option, Some, None, List, [], ◌∷◌, ℕ}
use Rattle.std.specs.Prelude.{option_and_then}
use mathlib.Core.Former.{Count}
use Rattle.ur_syntax.specs.declared.exp.Binder.TheVariants as binder
use Rattle.ur_syntax.specs.declared.exp.ExpForm.{ExpForm, Row_of-Exp, Row_of-Field, Row_of-Branch, Row_of-LetVal}
use Rattle.ur_syntax.specs.declared.exp.ExpForm.TheVariants as e
use Rattle.ur_rows.specs.declared.normal.Normal.{Normal}
use Rattle.ur_rows.specs.declared.normal.NormalType.{NormalType}
use Rattle.ur_typed.specs.Resolves.{is_head}
use Rattle.ur_typed_rules.specs.Scopes.{World, Scope, Mode, finds, wants, within_binder}
use Rattle.ur_typed.specs.Rules.{Sites, Out, Walk, applied_out, args_out, by_head, applied, function_at, tag_named, with_type}
use Rattle.ur_typed.specs.Walking.{typed, spine, fields_walk, branches_walk, antiquotes_walk, vals_walk, let_walk}
use Rattle.ur_typed.specs.Faults.{walks}
use Rattle.ur_typed.specs.Parts.{InArgs, this_arg, later_arg, InCall, of_named, of_built, of_head, of_applied, is_applied, InSpine, further, at_head, InFields, this_field, later_field, InBranches, this_branch, later_branch, InVals, this_val, later_val, let_body, InAntiquotes, this_antiquote, later_antiquote}
use Rattle.ur_typed_rules.proofs.Options.{first_none, then_none, map_none, so_none}

pub args_none : (w : World) (s : Scope) (xs : List ExpForm) (ts : List NormalType) (st su : Sites) (y : ExpForm) (m : Mode) → InArgs w s xs ts st su y m → typed w y s su m ≡ None → args_out s (walks w xs) ts st ≡ None
args_none w s _ _ _ _ _ _ this_arg h = first_none _ _ h
args_none w s _ _ _ su y m (later_arg {xs = xs} {ts = ts} {o = o} g r) h = then_none _ _ o g (map_none _ _ (args_none w s xs ts o.sites su y m r h))

head_none : (w : World) (s : Scope) (st : Sites) (head : Walk) (args : List Walk) (b : Bool) → head s st finds ≡ None → by_head w s st head args b None None ≡ None
head_none w s st head args true h = first_none _ _ h
head_none w s st head args false h = refl

pub applied_none : (w : World) (s : Scope) (st : Sites) (head : Walk) (args : List Walk) (b : Bool) (o : Out) → head s st finds ≡ Some o → applied_out s args o ≡ None → by_head w s st head args b None None ≡ None
applied_none w s st head args true o h g = then_none _ _ o h g
applied_none w s st head args false o h g = refl

pub by-head : (w : World) (s : Scope) (st : Sites) (head : Walk) (args : List Walk) (x : ExpForm) {f : Option (ℕ × List Normal)} {n : Option ℕ} → function_at w s x ≡ f → tag_named w x ≡ n → by_head w s st head args (is_head x) f n ≡ None → applied w s st x head args ≡ None
by-head w s st head args x ef en h = rw ef (rw en h)

pub call_none : (w : World) (s : Scope) (x : ExpForm) (args : List ExpForm) (st su : Sites) (y : ExpForm) (m : Mode) → InCall w s x args st su y m → typed w y s su m ≡ None → applied w s st x (typed w x) (walks w args) ≡ None
call_none w s x args st su y m (of_named {f = f} {h = d} ef eh r) h = by-head w s st (typed w x) (walks w args) x ef refl (then_none _ _ d eh (so_none _ _ (first_none _ _ (args_none w s args _ st su y m r h))))
call_none w s x _ st _ y _ (of_built {d = d} {t = t} ef en ev) h = by-head w s st (typed w x) (walks w (y ∷ [])) x ef en (then_none _ _ (d, t) (ap (option_and_then with_type) ev) (first_none _ _ h))
call_none w s x args st _ _ _ (of_head ef en) h = by-head w s st (typed w x) (walks w args) x ef en (head_none w s st (typed w x) (walks w args) (is_head x) h)
call_none w s x args st su y m (of_applied {o = o} ef en g r) h = by-head w s st (typed w x) (walks w args) x ef en (applied_none w s st (typed w x) (walks w args) (is_head x) o g (first_none _ _ (args_none w s args _ o.sites su y m r h)))

pub spine_at_head : (w : World) (x : ExpForm) (s : Scope) (st : Sites) (head : Walk) (args : List Walk) → is_applied x ≡ false → spine w x s st head args ≡ applied w s st x head args
spine_at_head w (e.App' _ x _ y) s st head args h = cc
spine_at_head w _ s st head args h = refl

pub spine_none : (w : World) (s : Scope) (x : ExpForm) (args : List ExpForm) (st su : Sites) (y : ExpForm) (m : Mode) → InSpine w s x args st su y m → typed w y s su m ≡ None → spine w x s st (typed w x) (walks w args) ≡ None
spine_none w s _ args st su z m (further {x = x} {y = y} r) h = spine_none w s x (y ∷ args) st su z m r h
spine_none w s x args st su y m (at_head a r) h = spine_at_head w x s st (typed w x) (walks w args) a ∙ call_none w s x args st su y m r h

pub fields_none : (w : World) (s : Scope) (m : Mode) (n : Count) (fs : Row_of-Field n) (st su : Sites) (y : ExpForm) (m' : Mode) → InFields w s m n fs st su y m' → typed w y s su m' ≡ None → fields_walk w fs s st m ≡ None
fields_none w s m _ _ _ _ _ _ this_field h = so_none _ _ (first_none _ _ h)
fields_none w s m _ _ _ su y m' (later_field {n = n} {rest = rest} {o = o} g r) h = so_none _ _ (then_none _ _ o g (map_none _ _ (fields_none w s m n rest o.sites su y m' r h)))

pub branches_none : (w : World) (s : Scope) (u : NormalType) (n : Count) (bs : Row_of-Branch n) (st : Sites) (m : Mode) (s' : Scope) (su : Sites) (y : ExpForm) (m' : Mode) → InBranches w s u n bs st m s' su y m' → typed w y s' su m' ≡ None →
    branches_walk w bs s u st m ≡ None
branches_none w s u _ _ _ _ _ _ _ _ (this_branch {q = q} {bound = bound} ep eb) h = then_none _ _ q ep (so_none _ _ (then_none _ _ bound eb (first_none _ _ h)))
branches_none w s u _ _ _ _ s' su y m' (later_branch {n = n} {rest = rest} {q = q} {bound = bound} {o = o} ep eb g r) h =
    then_none _ _ q ep (so_none _ _ (then_none _ _ bound eb (then_none _ _ o g (map_none _ _ (branches_none w s u n rest o.sites (wants o.of) s' su y m' r h)))))

pub let_none : (w : World) (b : ExpForm) (m : Mode) (n : Count) (vs : Row_of-LetVal n) (s : Scope) (st : Sites) (s' : Scope) (su : Sites) (y : ExpForm) (m' : Mode) → InVals w b m n vs s st s' su y m' → typed w y s' su m' ≡ None →
    let_walk w vs s st m (typed w b) ≡ None
let_none w b m _ _ _ _ _ _ _ _ (this_val {u = u} eu) h = first_none _ _ (then_none _ _ u eu (so_none _ _ (first_none _ _ h)))
let_none w b m _ _ _ _ s' su y m' (later_val {n = n} {x = x} {rest = rest} {s = s} {u = u} {o = o} eu g r) h =
    first_none _ _ (then_none _ _ u eu (so_none _ _ (then_none _ _ o g (first_none _ _ (let_none w b m n rest (within_binder (binder.Named x) u s) o.sites s' su y m' r h)))))
let_none w b m _ _ _ _ _ _ _ _ let_body h = h

pub vals_none : (w : World) (b : ExpForm) (m : Mode) (n : Count) (vs : Row_of-LetVal n) (s : Scope) (st : Sites) (s' : Scope) (su : Sites) (y : ExpForm) (m' : Mode) → InVals w b m n vs s st s' su y m' → typed w y s' su m' ≡ None →
    vals_walk w vs s st m (typed w b) ≡ None
vals_none w b m _ _ _ _ _ _ _ _ (this_val {u = u} eu) h = then_none _ _ u eu (so_none _ _ (first_none _ _ h))
vals_none w b m _ _ _ _ s' su y m' (later_val {n = n} {x = x} {rest = rest} {s = s} {u = u} {o = o} eu g r) h =
    then_none _ _ u eu (so_none _ _ (then_none _ _ o g (first_none _ _ (let_none w b m n rest (within_binder (binder.Named x) u s) o.sites s' su y m' r h))))
vals_none w b m _ _ _ _ _ _ _ _ let_body h = refl

pub antiquotes_none : (w : World) (s : Scope) (n : Count) (xs : Row_of-Exp n) (st su : Sites) (y : ExpForm) → InAntiquotes w s n xs st su y → typed w y s su finds ≡ None → antiquotes_walk w xs s st ≡ None
antiquotes_none w s _ _ _ _ _ this_antiquote h = first_none _ _ h
antiquotes_none w s _ _ _ su y (later_antiquote {n = n} {rest = rest} {o = o} g r) h = then_none _ _ o g (map_none _ _ (antiquotes_none w s n rest o.sites su y r h))
