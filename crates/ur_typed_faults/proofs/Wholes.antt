-- Where an expression that stands in another one is not typed, neither is the other.
use Rattle.std.proofs.Common.{◌≡◌, None, [], ◌∷◌}
use mathlib.Core.Former.{Count}
use Rattle.ur_syntax.specs.declared.exp.ExpForm.{ExpForm, Row_of-Field}
use Rattle.ur_syntax.specs.declared.con.FieldName.{FieldName}
use Rattle.ur_typed_rules.specs.Scopes.{World, Scope, Mode}
use Rattle.ur_typed.specs.Rules.{Sites}
use Rattle.ur_tree.specs.Places.{place_of}
use Rattle.ur_xmltype.specs.Literal.{row_of_parts}
use Rattle.ur_typed.specs.Walking.{typed, walk, cookie_field_walk}
use Rattle.ur_typed.specs.Parts.{FirstField, first_field, Part, StandsIn, itself, within}
use Rattle.ur_typed.proofs.Parts.{spine_none, fields_none, branches_none, vals_none, antiquotes_none}
use Rattle.ur_typed.proofs.Literals.{parts_none}
use Rattle.ur_typed_rules.proofs.Options.{first_none, then_none, so_none}
use Rattle.ur_typed.specs.Parts

cookie_none : (w : World) (s : Scope) (st : Sites) (m : Mode) (n : Count) (fs : Row_of-Field n) (k : Count) (f : FieldName) (y : ExpForm) (rest : Row_of-Field k) → FirstField n fs k f y rest → typed w y s st m ≡ None → cookie_field_walk w fs s st m ≡ None
cookie_none w s st m _ _ _ _ _ _ first_field h = so_none _ _ h

walk_none : (w : World) (s : Scope) (st : Sites) (x : ExpForm) (m : Mode) (t : Scope) (su : Sites) (y : ExpForm) (n : Mode) → Part w s st x m t su y n → typed w y t su n ≡ None → walk w x s st m ≡ None
walk_none w _ _ _ _ _ _ _ _ Parts.negated h = first_none _ _ h
walk_none w _ _ _ _ _ _ _ _ Parts.denied h = first_none _ _ h
walk_none w _ _ _ _ _ _ _ _ Parts.shown h = first_none _ _ h
walk_none w _ _ _ _ _ _ _ _ Parts.present h = first_none _ _ h
walk_none w _ _ _ _ _ _ _ _ Parts.returned h = first_none _ _ h
walk_none w _ _ _ _ _ _ _ _ Parts.failed h = first_none _ _ h
walk_none w _ _ _ _ _ _ _ _ Parts.left_side h = first_none _ _ h
walk_none w _ _ _ _ _ _ _ _ (Parts.right_side {d = d} g) h = then_none _ _ d g (so_none _ _ (first_none _ _ h))
walk_none w _ _ _ _ _ _ _ _ Parts.condition h = first_none _ _ h
walk_none w _ _ _ _ _ _ _ _ (Parts.yes_side {d = d} g) h = then_none _ _ d g (first_none _ _ h)
walk_none w _ _ _ _ _ _ _ _ (Parts.no_side {d = d} {b = b} g i) h = then_none _ _ d g (then_none _ _ b i (first_none _ _ h))
walk_none w _ _ _ _ _ _ _ _ Parts.scrutinee h = first_none _ _ h
walk_none w s _ _ m t su y n (Parts.branch {branches = bs} {d = d} g r) h = then_none _ _ d g (first_none _ _ (branches_none w s d.of _ bs d.sites m t su y n r h))
walk_none w s st _ m t su y n (Parts.in_let {vals = vs} {z = z} r) h = vals_none w z m _ vs s st t su y n r h
walk_none w _ _ _ _ _ _ _ _ Parts.first h = first_none _ _ h
walk_none w _ _ _ _ _ _ _ _ (Parts.second {d = d} {u = u} g v) h = then_none _ _ d g (then_none _ _ u v (first_none _ _ h))
walk_none w _ _ _ _ _ _ _ _ Parts.first_alone h = first_none _ _ h
walk_none w _ _ _ _ _ _ _ _ (Parts.second_alone {d = d} {u = u} g v) h = then_none _ _ d g (then_none _ _ u v (first_none _ _ h))
walk_none w s st _ _ _ su z n (Parts.applied {x = x} {y = y} r) h = spine_none w s x (y ∷ []) st su z n r h
walk_none w _ _ _ _ _ _ _ _ (Parts.in_lambda {ps = ps} g) h = then_none _ _ ps g (so_none _ _ (first_none _ _ h))
walk_none w s st _ m _ su y n (Parts.in_record {fields = fs} r) h = first_none _ _ (fields_none w s m _ fs st su y n r h)
walk_none w _ _ _ _ _ _ _ _ Parts.projected h = first_none _ _ h
walk_none w _ _ _ _ _ _ _ _ Parts.cut_from h = first_none _ _ h
walk_none w s st _ _ _ su y _ (Parts.antiquote {args = args} r) h = first_none _ _ (antiquotes_none w s _ args _ su y r h)
walk_none w s st _ _ _ su y _ (Parts.row_antiquote {args = args} r) h = first_none _ _ (antiquotes_none w s _ args _ su y r h)
walk_none w s st _ _ _ su y _ (Parts.change_antiquote {args = args} r) h = first_none _ _ (antiquotes_none w s _ args _ su y r h)
walk_none w _ _ _ _ _ _ _ _ (Parts.row_body_part {x = x} {a = a} {d = d} ea ed ex) h = then_none _ _ a ea (then_none _ _ d ed (first_none _ _ (then_none _ _ x ex h)))
walk_none w s st _ _ _ _ y n (Parts.cookie_value {c = c} {f = f} {rest = rest} {fields = fs} ec r) h = then_none _ _ c ec (first_none _ _ (cookie_none w s st n _ fs _ f y rest r h))
walk_none w s _ _ _ _ _ _ _ (Parts.step {t = t} {acc = acc} et ea) h = then_none _ _ t et (first_none _ _ (then_none _ _ acc ea (so_none _ _ (first_none _ _ h))))
walk_none w _ _ _ _ _ _ _ _ (Parts.start {t = t} {d = d} et ed) h = then_none _ _ t et (then_none _ _ d ed (first_none _ _ h))
walk_none w s st _ _ _ su y n (Parts.in_xml {x = x} {sort = sort} {splices = ss} {attributes = ats} e r) h =
    then_none _ _ sort e (so_none _ _ (first_none _ _ (parts_none w s _ ss _ ats (place_of sort) _ (row_of_parts x.parts).1 st su y n r h)))

pub part_none : (w : World) (s : Scope) (st : Sites) (x : ExpForm) (m : Mode) (t : Scope) (su : Sites) (y : ExpForm) (n : Mode) → Part w s st x m t su y n → typed w y t su n ≡ None → typed w x s st m ≡ None
part_none w s st x m t su y n p h = first_none _ _ (walk_none w s st x m t su y n p h)

-- where an expression is not typed, neither is one in which it stands
pub stands_none : (w : World) (s : Scope) (st : Sites) (x : ExpForm) (m : Mode) (u : Scope) (sv : Sites) (z : ExpForm) (o : Mode) → StandsIn w s st x m u sv z o → typed w z u sv o ≡ None → typed w x s st m ≡ None
stands_none w _ _ _ _ _ _ _ _ itself h = h
stands_none w s st x m u sv z o (within {t = t} {su = su} {y = y} {n = n} p r) h = part_none w s st x m t su y n p (stands_none w t su y n u sv z o r h)
