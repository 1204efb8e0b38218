-- What is under way: a fault of the part is one of the whole, and what the part gives leads to the whole.
use Rattle.std.proofs.Common.{◌≡◌, ◌∙◌, refl, ap, sym, subst, true, false, List, [], ◌∷◌, ◌++◌, Some, None, Err}
use Rattle.std.specs.Borrow.{Bor}
use Rattle.std.specs.Prelude.{codes}
use Rattle.ur_base.specs.Stopping.{IfRefused}
use Rattle.ur_base.specs.declared.refusal.Refusal.{Refusal}
use Rattle.ur_base.specs.declared.refusal.Span.{Span}
use Rattle.ur_base.specs.declared.refusal.Stop.{Stop}
use Rattle.ur_base.specs.declared.refusal.Stop.TheVariants as stop
use Rattle.ur_syntax.specs.declared.con.FieldName.{FieldName}
use Rattle.ur_syntax.specs.declared.exp.Exp.{Exp}
use Rattle.ur_syntax.specs.declared.exp.ExpForm.{ExpForm, end_of-Exp as alone, more_of-Exp as its}
use Rattle.ur_syntax.specs.declared.exp.ExpForm.TheVariants as e
use Rattle.ur_syntax.specs.declared.exp.Removed.{Removed}
use Rattle.ur_rows.specs.declared.normal.NormalType.{NormalType}
use Rattle.ur_rows.specs.declared.normal.NormalType.TheVariants as ty
use Rattle.ur_rows.specs.declared.normal.Label.{Label}
use Rattle.ur_tree.specs.declared.exp.Binary.{Binary}
use Rattle.ur_tree.specs.declared.exp.Unary.TheVariants as unary
use Rattle.ur_tree.specs.Make as make
use Rattle.ur_tree.specs.Typing.{Operation, operation}
use Rattle.ur_typed_rules.specs.Scopes.{World, Scope, Mode, finds, wants}
use Rattle.ur_typed_rules.specs.Faults.{not_of_type}
use Rattle.ur_typed_rules.specs.Rules.{label_at}
use Rattle.ur_typed.specs.Rules as rules
use Rattle.ur_typed.specs.Rules.{Sites, Walk, operator_of, left_mode, right_mode, left_may}
use Rattle.ur_typed.specs.Parts.{negated, projected, cut_from}
use Rattle.ur_typed.specs.Causes.{Breaks, BreaksSettled}
use Rattle.ur_typed.specs.Walking.{typed}
use Rattle.ur_check_scopes.specs.declared.around.Around.{Around}
use Rattle.ur_check_scopes.specs.Views.{Stands, Refuses, StopIs, mode_of}
use Rattle.ur_check_rules.specs.declared.out.Out.{Out as HeldOut}
use Rattle.ur_check_rules.specs.declared.out.Sites.{Sites as HeldSites}
use Rattle.ur_check_rules.specs.Views.{sites_in, out_in, out_with}
use Rattle.ur_check_walk.specs.declared.begun.Asked.{Asked}
use Rattle.ur_check_walk.specs.declared.begun.Choice.{Choice}
use Rattle.ur_check_walk.specs.declared.begun.Begun.{Begun}
use Rattle.ur_check_walk.specs.declared.begun.Sides.{Sides}
use Rattle.ur_check_walk.specs.declared.begun.Way.{Way}
use Rattle.ur_check_walk.specs.declared.begun.Whole.{Whole}
use Rattle.ur_check_walk.specs.declared.begun.Way.TheVariants as ways
use Rattle.ur_check_walk.specs.declared.closed.Behind.TheVariants as behind
use Rattle.ur_check_walk.specs.declared.closed.Closed.{Closed}
use Rattle.ur_check_walk.specs.Promises.{Gives, GivesTyped, Tells}
use Rattle.ur_check_walk.specs.Sided.{left_fault, may_not}
use Rattle.ur_check_walk.specs.Leading.{binary_in, choice_in, asks_of, WayLeads, to_left, to_right, to_negated, to_projected, to_cut, to_otherwise, BegunLeads, FirstLeads, Leads, here, further, GoesDown, Onward, TellsAsked, TurnsTo, TellsTurn, Closes, TellsBegun, Accepts, TellsWhole, TellsLeft, Brings, ClosesOne, TellsOne}
use Rattle.ur_check_walk.proofs.Choosing.{if-made, choice-made, in-condition, in-choices, in-yes, in-no}
use Rattle.ur_check_walk.proofs.Forms.{negative-made, project-made, remove-made}
use Rattle.ur_check_walk.proofs.Operators.{Joins, Meets, sides-give, sides-meet, left-tells, right-tells}
use Rattle.ur_check_walk.proofs.Steps.{part, rule, settles, settled, stands-there, gives-as, gives-mode, tells-as, tells-there}

-- ---- lists of what is begun

pub leads-push : {a : Around} {os : List Begun} (o : Begun) {st su sv : HeldSites} {x z y : ExpForm} {m k n : Mode} → Leads a os st x m su z k → BegunLeads a o su z k sv y n → Leads a (os ++ o ∷ []) st x m sv y n
leads-push o here p = further p here
leads-push o (further q l) p = further q (leads-push o l p)

-- where the last that is begun stands
pub record Last (a : Around) (os : List Begun) (o : Begun) (st : HeldSites) (x : ExpForm) (m : Mode) (sv : HeldSites) (y : ExpForm) (n : Mode) : Type 0 where
  pub at : HeldSites
  pub place : ExpForm
  pub asked : Mode
  pub leads : Leads a os st x m at place asked
  pub last : BegunLeads a o at place asked sv y n

pub leads-pop : {a : Around} (os : List Begun) (o : Begun) {st sv : HeldSites} {x y : ExpForm} {m n : Mode} → Leads a (os ++ o ∷ []) st x m sv y n → Last a os o st x m sv y n
leads-pop [] o (further p here) = record { at = _; place = _; asked = _; leads = here; last = p }
leads-pop (q ∷ os) o (further p l) = let r = leads-pop os o l in record { at = r.at; place = r.place; asked = r.asked; leads = further p r.leads; last = r.last }

-- ---- faults

pub way-tells : {a : Around} {way : Way} {st su : HeldSites} {x y : ExpForm} {m n : Mode} {r : Refusal} → WayLeads a way st x m su y n → Tells a su y n r → Tells a st x m r
way-tells {a = a} {r = r} (to_left {s = s} x {st = st} {m = m}) h = left-tells a st s.op (operator_of s.op) (asks_of s) x s.right.now m r refl refl (λ w sc z. left_fault (h w sc z))
way-tells {a = a} {r = r} (to_right {s = s} x {l = l} {st = st} {su = su} {m = m} g may) h = right-tells a st su s.op (operator_of s.op) (asks_of s) x s.right.now m l r refl refl g h
way-tells {a = a} {r = r} (to_negated x {st = st} {m = m}) h = tells-as a st (e.Negative x) _ m r (negative-made x) (λ w s z. part negated (h w s z))
way-tells {a = a} {r = r} (to_projected x {f = f} {st = st} {m = m}) h = tells-as a st (e.Project x f.now) _ m r (project-made x f.now) (λ w s z. part projected (h w s z))
way-tells {a = a} {r = r} (to_cut x {r = c} {st = st} {m = m}) h = tells-as a st (e.Remove x c.now) _ m r (remove-made x c.now) (λ w s z. part cut_from (h w s z))
way-tells {a = a} {r = r} (to_otherwise c x y {t = t} {o = o} {st = st} {su = su} {sv = sv} {m = m} g k) h =
    in-choices a st su m c x y t g r (in-no a su sv m x y o k r h)

pub leads-tells : {a : Around} {os : List Begun} {st su : HeldSites} {x y : ExpForm} {m n : Mode} {r : Refusal} → Leads a os st x m su y n → Tells a su y n r → Tells a st x m r
leads-tells here h = h
leads-tells (further p l) h = way-tells p.way (leads-tells l h)

-- ---- what is accepted

pub whole-accepted : (a : Around) (st after : HeldSites) (x : ExpForm) (m : Mode) (o p : HeldOut) → Gives a st x m o after → ((w : World) (s : Scope) (sv : Sites) → Stands a w s → rules.settled w.most m (out_with o sv) ≡ Some (out_with p sv)) → GivesTyped a st x m p after
whole-accepted a st after x m o p g h w s z = settles w x s (sites_in st) m (out_in o after) (out_in p after) (g w s z) (h w s (sites_in after) z)

pub whole-refused : (a : Around) (st after : HeldSites) (x : ExpForm) (m : Mode) (o : HeldOut) (r : Refusal) → Gives a st x m o after → ((w : World) (s : Scope) (sv : Sites) → Stands a w s → Refuses a.world.now.datatype_names (BreaksSettled a.world.now.datatype_names w m (out_with o sv)) r) → Tells a st x m r
whole-refused a st after x m o r g h w s z = settled (g w s z) (h w s (sites_in after) z)

-- what the whole gives where its part gives this
abbrev pub WayGives : Around → Way → HeldOut → HeldOut → Type 0
WayGives a way out o = (st su after : HeldSites) (x y : ExpForm) (m n : Mode) → WayLeads a way st x m su y n → GivesTyped a su y n out after → Gives a st x m o after

abbrev pub WayTells : Around → Way → HeldOut → Refusal → Type 0
WayTells a way out r = (st su after : HeldSites) (x y : ExpForm) (m n : Mode) → WayLeads a way st x m su y n → GivesTyped a su y n out after → Tells a st x m r

pub closes-whole : (a : Around) (whole : Whole) (way : Way) (out o p : HeldOut) → WayGives a way out o → Accepts a whole o p → ClosesOne a (record { whole = whole; way = way }) out (behind.Whole p)
closes-whole a whole way out o p g k st after x m b =
    subst (λ z. GivesTyped a st x z p after) (sym b.leads.wanted)
    (k st after x (subst (λ z. Gives a st x z o after) b.leads.wanted (g st b.at after x b.place m b.asked b.leads.way b.given)))

pub tells-accepted : (a : Around) (whole : Whole) (way : Way) (out o : HeldOut) (r : Refusal) → WayGives a way out o → TellsWhole a whole o r → TellsOne a (record { whole = whole; way = way }) out r
tells-accepted a whole way out o r g k st after x m b =
    subst (λ z. Tells a st x z r) (sym b.leads.wanted)
    (k st after x (subst (λ z. Gives a st x z o after) b.leads.wanted (g st b.at after x b.place m b.asked b.leads.way b.given)))

pub tells-way : (a : Around) (whole : Whole) (way : Way) (out : HeldOut) (r : Refusal) → WayTells a way out r → TellsOne a (record { whole = whole; way = way }) out r
tells-way a whole way out r g st after x m b = g st b.at after x b.place m b.asked b.leads.way b.given

-- ---- operators

-- the left side is followed by the right one
left-leads : {a : Around} {s : Sides} {l : HeldOut} {st su after : HeldSites} {x y : ExpForm} {m n k : Mode} → WayLeads a (ways.Left s) st x m su y n → GivesTyped a su y n l after → left_may (asks_of s) l.of ≡ true → k ≡ right_mode (asks_of s) l.of →
    WayLeads a (ways.Right s l) st x m after s.right.now.form k
left-leads {a = a} {s = s} {l = l} {after = after} (to_left x {st = st} {m = m}) g may ek = subst (λ z. WayLeads a (ways.Right s l) st (binary_in s x) m after s.right.now.form z) (sym ek) (to_right x g may)

pub left-closes : (a : Around) (whole : Whole) (s : Sides) (l : HeldOut) (next : Asked) → left_may (asks_of s) l.of ≡ true → next.e ≡ s.right → mode_of next.wanted ≡ right_mode (asks_of s) l.of →
    ClosesOne a (record { whole = whole; way = ways.Left s }) l (behind.Part (record { whole = whole; way = ways.Right s l }) next)
left-closes a whole s l next may en ek st after x m b = record {
  wanted = b.leads.wanted;
  way = subst (λ z. WayLeads a (ways.Right s l) st x m after z.now.form (mode_of next.wanted)) (sym en) (left-leads b.leads.way b.given may ek);
}

-- the left side may not have its type
pub left-not-so : (a : Around) (s : Sides) (l : HeldOut) (r : Refusal) → TellsLeft a s l r → WayTells a (ways.Left s) l r
left-not-so a s l r h st _ after _ _ m _ (to_left z) g = left-tells a st s.op (operator_of s.op) (asks_of s) z s.right.now m r refl refl (h st after z.form m g)

pub left-may-not : (a : Around) (s : Sides) (l : HeldOut) (stop : Stop) → left_may (asks_of s) l.of ≡ false → StopIs a.world.now.datatype_names (not_of_type a.world.now.datatype_names l.of (codes "int, string or bool")) stop → IfRefused {A = Unit {0}} (Err stop) (TellsLeft a s l)
left-may-not a s l (stop.Refused r) may t = λ st after x m h w sc z. may_not {d = out_in l after} (h w sc z) may t
left-may-not a s l stop.Memory may t = tt

pub right-gives : (a : Around) (s : Sides) (l t o : HeldOut) (op : Binary) (asked : Operation) → op ≡ operator_of s.op → asked ≡ operation op → Joins a asked op l t o → WayGives a (ways.Right s l) t o
right-gives a s l t o op asked eo ea j st _ after _ _ m _ (to_right z {su = su} g may) k =
    let is : asks_of s ≡ asked = sym (ea ∙ ap operation eo) in
    sides-give a st su after s.op op asked z s.right.now m l t o eo ea
    (subst (λ q. GivesTyped a st z.form (left_mode q m) l su) is g) (subst (λ q. left_may q l.of ≡ true) is may) (subst (λ q. GivesTyped a su s.right.now.form (right_mode q l.of) t after) is k) j

pub right-meets : (a : Around) (s : Sides) (l t : HeldOut) (r : Refusal) (op : Binary) (asked : Operation) → op ≡ operator_of s.op → asked ≡ operation op → Meets a asked op l t r → WayTells a (ways.Right s l) t r
right-meets a s l t r op asked eo ea j st _ after _ _ m _ (to_right z {su = su} g may) k =
    let is : asks_of s ≡ asked = sym (ea ∙ ap operation eo) in
    sides-meet a st su after s.op op asked z s.right.now m l t r eo ea
    (subst (λ q. GivesTyped a st z.form (left_mode q m) l su) is g) (subst (λ q. GivesTyped a su s.right.now.form (right_mode q l.of) t after) is k) j

-- ---- signs, fields and what is cut

pub negated-gives : (a : Around) (out o : HeldOut) → ((s : Scope) (before after : Sites) (u : NormalType) (f : Walk) → f s before (wants u) ≡ Some (out_with out after) → rules.one_out unary.Neg u ty.Int s before f ≡ Some (out_with o after)) → WayGives a ways.Negated out o
negated-gives a out o h st _ after _ _ m _ (to_negated v) g = gives-as a st (e.Negative v) _ m o after (negative-made v) (λ w s z. h s (sites_in st) (sites_in after) ty.Int (typed w v.form) (g w s z))

-- the label that the code finds is that of the definitions
abbrev pub IsLabel : Around → Label → FieldName → Type 0
IsLabel a l f = (w : World) (s : Scope) → Stands a w s → l ≡ label_at s f

pub projected-gives : (a : Around) (f : Bor FieldName) (l : Label) (out o : HeldOut) → IsLabel a l f.now → ((s : Scope) (before after : Sites) (k : FieldName) (g : Walk) → l ≡ label_at s k → g s before finds ≡ Some (out_with out after) → rules.project_out s before k g ≡ Some (out_with o after)) →
    WayGives a (ways.Projected f) out o
projected-gives a f l out o el h st _ after _ _ m _ (to_projected v) g =
    gives-as a st (e.Project v f.now) _ m o after (project-made v f.now) (λ w s z. h s (sites_in st) (sites_in after) f.now (typed w v.form) (el w s z) (g w s z))

pub projected-tells : (a : Around) (f : Bor FieldName) (l : Label) (out : HeldOut) (r : Refusal) → IsLabel a l f.now →
    ((w : World) (s : Scope) (before after : Sites) (m : Mode) (p : Span) (x : ExpForm) (k : FieldName) → l ≡ label_at s k → typed w x s before finds ≡ Some (out_with out after) → Refuses a.world.now.datatype_names (Breaks a.world.now.datatype_names w s before (e.Project' tt (its p x alone) k) m) r) →
    WayTells a (ways.Projected f) out r
projected-tells a f l out r el h st _ after _ _ m _ (to_projected v) g =
    tells-as a st (e.Project v f.now) _ m r (project-made v f.now) (λ w s z. rule (h w s (sites_in st) (sites_in after) m v.span v.form f.now (el w s z) (g w s z)))

pub cut-gives : (a : Around) (c : Bor Removed) (l : Label) (out o : HeldOut) → IsLabel a l c.now.name → ((s : Scope) (before after : Sites) (k : FieldName) (g : Walk) → l ≡ label_at s k → g s before finds ≡ Some (out_with out after) → rules.cut_out s before k g ≡ Some (out_with o after)) →
    WayGives a (ways.Cut c) out o
cut-gives a c l out o el h st _ after _ _ m _ (to_cut v) g =
    gives-as a st (e.Remove v c.now) _ m o after (remove-made v c.now) (λ w s z. h s (sites_in st) (sites_in after) c.now.name (typed w v.form) (el w s z) (g w s z))

pub cut-tells : (a : Around) (c : Bor Removed) (l : Label) (out : HeldOut) (r : Refusal) → IsLabel a l c.now.name →
    ((w : World) (s : Scope) (before after : Sites) (m : Mode) (p : Span) (x : ExpForm) (k : Removed) → l ≡ label_at s k.name → typed w x s before finds ≡ Some (out_with out after) → Refuses a.world.now.datatype_names (Breaks a.world.now.datatype_names w s before (e.Remove' tt (its p x alone) k) m) r) →
    WayTells a (ways.Cut c) out r
cut-tells a c l out r el h st _ after _ _ m _ (to_cut v) g =
    tells-as a st (e.Remove v c.now) _ m r (remove-made v c.now) (λ w s z. rule (h w s (sites_in st) (sites_in after) m v.span v.form c.now (el w s z) (g w s z)))

-- ---- choices

pub otherwise-gives : (a : Around) (t y z o : HeldOut) → o.of ≡ y.of → o.exp ≡ make.choice t.exp y.exp z.exp → WayGives a (ways.Otherwise t y) z o
otherwise-gives a t y z o eo ee st _ after _ _ m _ (to_otherwise c p q {su = sm} {sv = sv} g k) h =
    if-made a st sm after m c p q t y z o g (choice-made a sm sv after m p q y z k h) eo ee

-- ---- all that is begun

pub brings-up : (a : Around) (os : List Begun) (o : Begun) (out made : HeldOut) (after st : HeldSites) (x : ExpForm) (m : Mode) → Brings a (os ++ o ∷ []) out after st x m → ClosesOne a o out (behind.Whole made) → Brings a os made after st x m
brings-up a os o out made after st x m b c =
    let l = leads-pop os o b.leads in
    record { at = l.at; place = l.place; asked = l.asked; leads = l.leads; given = c l.at after l.place l.asked (record { at = b.at; place = b.place; asked = b.asked; leads = l.last; given = b.given }) }

pub brings-part : (a : Around) (os : List Begun) (o again : Begun) (out : HeldOut) (next : Asked) (after st : HeldSites) (x : ExpForm) (m : Mode) → Brings a (os ++ o ∷ []) out after st x m → ClosesOne a o out (behind.Part again next) →
    Leads a (os ++ again ∷ []) st x m after next.e.now.form (mode_of next.wanted)
brings-part a os o again out next after st x m b c =
    let l = leads-pop os o b.leads in
    leads-push again l.leads (c l.at after l.place l.asked (record { at = b.at; place = b.place; asked = b.asked; leads = l.last; given = b.given }))

pub brings-refused : (a : Around) (os : List Begun) (o : Begun) (out : HeldOut) (r : Refusal) (after st : HeldSites) (x : ExpForm) (m : Mode) → Brings a (os ++ o ∷ []) out after st x m → TellsOne a o out r → Tells a st x m r
brings-refused a os o out r after st x m b c =
    let l = leads-pop os o b.leads in
    leads-tells l.leads (c l.at after l.place l.asked (record { at = b.at; place = b.place; asked = b.asked; leads = l.last; given = b.given }))

alone-given : {a : Around} {st su after : HeldSites} {x y : ExpForm} {m n : Mode} {o : HeldOut} → Leads a [] st x m su y n → GivesTyped a su y n o after → GivesTyped a st x m o after
alone-given here g = g

pub brings-whole : (a : Around) (os : List Begun) (out : HeldOut) (after st : HeldSites) (x : ExpForm) (m : Mode) → os ≡ [] → Brings a os out after st x m → GivesTyped a st x m out after
brings-whole a os out after st x m eo b = alone-given (subst (λ z. Leads a z st x m b.at b.place b.asked) eo b.leads) b.given

-- ---- turns of a chain

gives-there : (a b : Around) (st su : HeldSites) (x : ExpForm) (m : Mode) (o : HeldOut) → b.world ≡ a.world → b.scope ≡ a.scope → GivesTyped b st x m o su → GivesTyped a st x m o su
gives-there a b st su x m o ew es g w s z = g w s (stands-there a b w s ew es z)

pub chosen-onward : (a b : Around) (os more : List Begun) (st su sv : HeldSites) (from n : Asked) (span : Span) (c : Choice) (t y : HeldOut) → b.world ≡ a.world → b.scope ≡ a.scope → more ≡ os ++ record { whole = record { span = span; wanted = from.wanted }; way = ways.Otherwise t y } ∷ [] → n.e ≡ c.no →
    mode_of n.wanted ≡ wants y.of → GivesTyped b st c.test.now.form (wants ty.Bool) t su → GivesTyped b su c.yes.now.form (mode_of from.wanted) y sv → from.e.now.form ≡ choice_in c → Onward a os more st sv from n
chosen-onward a b os more st su sv from n span c t y ew es em en ek g k is q x m l =
    let made : WayLeads a (ways.Otherwise t y) st (choice_in c) (mode_of from.wanted) sv c.no.now.form (wants y.of) = to_otherwise c.test.now c.yes.now c.no.now (gives-there a b st su c.test.now.form (wants ty.Bool) t ew es g) (gives-there a b su sv c.yes.now.form (mode_of from.wanted) y ew es k) in
    let way : WayLeads a (ways.Otherwise t y) st from.e.now.form (mode_of from.wanted) sv n.e.now.form (mode_of n.wanted) =
    subst (λ z. WayLeads a (ways.Otherwise t y) st z (mode_of from.wanted) sv n.e.now.form (mode_of n.wanted)) (sym is)
    (subst (λ z. WayLeads a (ways.Otherwise t y) st (choice_in c) (mode_of from.wanted) sv z.now.form (mode_of n.wanted)) (sym en)
    (subst (λ z. WayLeads a (ways.Otherwise t y) st (choice_in c) (mode_of from.wanted) sv c.no.now.form z) (sym ek) made)) in
    subst (λ z. Leads a z q x m sv n.e.now.form (mode_of n.wanted)) (sym em) (leads-push (record { whole = record { span = span; wanted = from.wanted }; way = ways.Otherwise t y }) l (record { wanted = refl; way = way }))

pub test-tells : (a b : Around) (st : HeldSites) (from : Asked) (c : Choice) (r : Refusal) → b.world ≡ a.world → b.scope ≡ a.scope → Tells b st c.test.now.form (wants ty.Bool) r → from.e.now.form ≡ choice_in c → TellsAsked a st from r
test-tells a b st from c r ew es h is =
    subst (λ z. Tells a st z (mode_of from.wanted) r) (sym is) (in-condition a st (mode_of from.wanted) c.test.now c.yes.now c.no.now r (tells-there a b st c.test.now.form (wants ty.Bool) r ew es h))

pub yes-tells : (a b : Around) (st su : HeldSites) (from : Asked) (c : Choice) (t : HeldOut) (r : Refusal) → b.world ≡ a.world → b.scope ≡ a.scope → GivesTyped b st c.test.now.form (wants ty.Bool) t su → Tells b su c.yes.now.form (mode_of from.wanted) r → from.e.now.form ≡ choice_in c →
    TellsAsked a st from r
yes-tells a b st su from c t r ew es g h is =
    subst (λ z. Tells a st z (mode_of from.wanted) r) (sym is)
    (in-choices a st su (mode_of from.wanted) c.test.now c.yes.now c.no.now t (gives-there a b st su c.test.now.form (wants ty.Bool) t ew es g) r
    (in-yes a su (mode_of from.wanted) c.yes.now c.no.now r (tells-there a b su c.yes.now.form (mode_of from.wanted) r ew es h)))

pub turn-tells : (a : Around) (os : List Begun) (st : HeldSites) (next : Asked) (r : Refusal) → TellsAsked a st next r → TellsTurn a os st next r
turn-tells a os st next r h sv x m l = leads-tells l h

pub turn-closes : (a : Around) (os more : List Begun) (st su : HeldSites) (next : Asked) (m : Mode) (out : HeldOut) (c : Closed) → m ≡ mode_of next.wanted → GivesTyped a st next.e.now.form m out su → Closes a os more out c → TurnsTo a os more st su next c
turn-closes a os more st su next m out c em g k sv x n l = k sv su x n (record { at = st; place = next.e.now.form; asked = mode_of next.wanted; leads = l; given = gives-mode a st next.e.now.form m (mode_of next.wanted) out su em g })

pub turn-refused : (a : Around) (os : List Begun) (st su : HeldSites) (next : Asked) (m : Mode) (out : HeldOut) (r : Refusal) → m ≡ mode_of next.wanted → GivesTyped a st next.e.now.form m out su → TellsBegun a os out r → TellsTurn a os st next r
turn-refused a os st su next m out r em g k sv x n l = k sv su x n (record { at = st; place = next.e.now.form; asked = mode_of next.wanted; leads = l; given = gives-mode a st next.e.now.form m (mode_of next.wanted) out su em g })

pub chain-begun : (a : Around) (os none : List Begun) (st : HeldSites) (x : ExpForm) (m : Mode) (first next : Asked) → none ≡ [] → first.e.now.form ≡ x → mode_of first.wanted ≡ m → GoesDown none os first next → Leads a os st x m st next.e.now.form (mode_of next.wanted)
chain-begun a os none st x m first next en ex em g = g a st st x m
    (subst (λ z. Leads a z st x m st first.e.now.form (mode_of first.wanted)) (sym en)
    (subst (λ z. Leads a [] st x m st z (mode_of first.wanted)) (sym ex) (subst (λ z. Leads a [] st x m st x z) (sym em) here)))

-- ---- down the first parts

pub binary-leads : (s : Sides) (v : Bor Exp) (x : ExpForm) (m : Mode) (n : Asked) → x ≡ binary_in s v.now → n.e ≡ v → mode_of n.wanted ≡ left_mode (asks_of s) m → FirstLeads x m (Some (ways.Left s, n))
binary-leads s v x m n ex en em a st =
    subst (λ z. WayLeads a (ways.Left s) st z m st n.e.now.form (mode_of n.wanted)) (sym ex)
    (subst (λ z. WayLeads a (ways.Left s) st (binary_in s v.now) m st z.now.form (mode_of n.wanted)) (sym en)
    (subst (λ z. WayLeads a (ways.Left s) st (binary_in s v.now) m st v.now.form z) (sym em) (to_left v.now)))

pub negated-leads : (v : Bor Exp) (x : ExpForm) (m : Mode) → x ≡ e.Negative v.now → FirstLeads x m (Some (ways.Negated, record { e = v; wanted = Some ty.Int }))
negated-leads v x m ex a st = subst (λ z. WayLeads a ways.Negated st z m st v.now.form (wants ty.Int)) (sym ex) (to_negated v.now)

pub projected-leads : (v : Bor Exp) (f : Bor FieldName) (x : ExpForm) (m : Mode) → x ≡ e.Project v.now f.now → FirstLeads x m (Some (ways.Projected f, record { e = v; wanted = None }))
projected-leads v f x m ex a st = subst (λ z. WayLeads a (ways.Projected f) st z m st v.now.form finds) (sym ex) (to_projected v.now)

pub cut-leads : (v : Bor Exp) (c : Bor Removed) (x : ExpForm) (m : Mode) → x ≡ e.Remove v.now c.now → FirstLeads x m (Some (ways.Cut c, record { e = v; wanted = None }))
cut-leads v c x m ex a st = subst (λ z. WayLeads a (ways.Cut c) st z m st v.now.form finds) (sym ex) (to_cut v.now)

pub down-more : (init before after : List Begun) (from at next : Asked) (span : Span) (m : Mode) (way : Way) → m ≡ mode_of at.wanted → FirstLeads at.e.now.form m (Some (way, next)) → after ≡ before ++ record { whole = record { span = span; wanted = at.wanted }; way = way } ∷ [] → GoesDown init before from at → GoesDown init after from next
down-more init before after from at next span m way em f eo g a st su x n l =
    subst (λ z. Leads a z st x n su next.e.now.form (mode_of next.wanted)) (sym eo)
    (leads-push (record { whole = record { span = span; wanted = at.wanted }; way = way }) (g a st su x n l) (record { wanted = refl; way = subst (λ z. WayLeads a way su at.e.now.form z su next.e.now.form (mode_of next.wanted)) em (f a su) }))
