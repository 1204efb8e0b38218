-- What of an expression is under way, from the whole down to the part that comes next.
use Rattle.std.specs.Prelude.{◌≡◌, ⊤, true, List, [], ◌∷◌, Option, Some, None}
use Rattle.std.specs.Borrow.{Bor}
use Rattle.ur_base.specs.declared.refusal.Refusal.{Refusal}
use Rattle.ur_syntax.specs.declared.con.FieldName.{FieldName}
use Rattle.ur_syntax.specs.declared.exp.Exp.{Exp}
use Rattle.ur_syntax.specs.declared.exp.ExpForm.{ExpForm}
use Rattle.ur_syntax.specs.declared.exp.ExpForm.TheVariants as e
use Rattle.ur_syntax.specs.declared.exp.Removed.{Removed}
use Rattle.ur_rows.specs.declared.normal.NormalType.TheVariants as ty
use Rattle.ur_tree.specs.Typing.{Operation, operation}
use Rattle.ur_typed_rules.specs.Scopes.{Mode, finds, wants}
use Rattle.ur_typed.specs.Rules.{operator_of, left_mode, right_mode, left_may}
use Rattle.ur_check_scopes.specs.declared.around.Around.{Around}
use Rattle.ur_check_scopes.specs.Views.{mode_of}
use Rattle.ur_check_rules.specs.declared.out.Out.{Out as HeldOut}
use Rattle.ur_check_rules.specs.declared.out.Sites.{Sites as HeldSites}
use Rattle.ur_check_walk.specs.declared.begun.Asked.{Asked}
use Rattle.ur_check_walk.specs.declared.begun.Choice.{Choice}
use Rattle.ur_check_walk.specs.declared.begun.Begun.{Begun}
use Rattle.ur_check_walk.specs.declared.begun.Sides.{Sides}
use Rattle.ur_check_walk.specs.declared.begun.Way.{Way}
use Rattle.ur_check_walk.specs.declared.begun.Way.TheVariants as ways
use Rattle.ur_check_walk.specs.declared.begun.Whole.{Whole}
use Rattle.ur_check_walk.specs.declared.closed.Behind.{Behind}
use Rattle.ur_check_walk.specs.declared.closed.Behind.TheVariants as behind
use Rattle.ur_check_walk.specs.declared.closed.Closed.{Closed}
use Rattle.ur_check_walk.specs.declared.closed.Closed.TheVariants as closed
use Rattle.ur_check_walk.specs.Promises.{Gives, GivesTyped, Tells, LeftTells}

-- ---- one expression

-- what an operator asks of its sides
abbrev pub asks_of : Sides → Operation
asks_of s = operation (operator_of s.op)

-- an operator with this left side
abbrev pub binary_in : Sides → Exp → ExpForm
binary_in s x = e.Binary s.op x s.right.now

abbrev pub choice_in : Choice → ExpForm
choice_in c = e.If c.test.now c.yes.now c.no.now

-- In the first expression, at these statements and with what is wanted of it, the part that is under way is the second one.
pub data WayLeads (a : Around) : Way → HeldSites → ExpForm → Mode → HeldSites → ExpForm → Mode → Type 0 where
  to_left : {s : Sides} (x : Exp) {st : HeldSites} {m : Mode} → WayLeads a (ways.Left s) st (binary_in s x) m st x.form (left_mode (asks_of s) m)
  to_right : {s : Sides} (x : Exp) {l : HeldOut} {st su : HeldSites} {m : Mode} → GivesTyped a st x.form (left_mode (asks_of s) m) l su → left_may (asks_of s) l.of ≡ true →
      WayLeads a (ways.Right s l) st (binary_in s x) m su s.right.now.form (right_mode (asks_of s) l.of)
  to_negated : (x : Exp) {st : HeldSites} {m : Mode} → WayLeads a ways.Negated st (e.Negative x) m st x.form (wants ty.Int)
  to_projected : (x : Exp) {f : Bor FieldName} {st : HeldSites} {m : Mode} → WayLeads a (ways.Projected f) st (e.Project x f.now) m st x.form finds
  to_cut : (x : Exp) {r : Bor Removed} {st : HeldSites} {m : Mode} → WayLeads a (ways.Cut r) st (e.Remove x r.now) m st x.form finds
  to_otherwise : (c x y : Exp) {t o : HeldOut} {st su sv : HeldSites} {m : Mode} → GivesTyped a st c.form (wants ty.Bool) t su → GivesTyped a su x.form m o sv →
      WayLeads a (ways.Otherwise t o) st (e.If c x y) m sv y.form (wants o.of)

-- the same of an expression that is begun
pub record BegunLeads (a : Around) (o : Begun) (st : HeldSites) (x : ExpForm) (m : Mode) (su : HeldSites) (y : ExpForm) (n : Mode) : Type 0 where
  pub wanted : m ≡ mode_of o.whole.wanted
  pub way : WayLeads a o.way st x m su y n

-- the part with which a chain goes on is one of the expression
abbrev pub FirstLeads : ExpForm → Mode → Option (Way × Asked) → Type 0
FirstLeads x m None = ⊤
FirstLeads x m (Some p) = (a : Around) (st : HeldSites) → WayLeads a p.0 st x m st p.1.e.now.form (mode_of p.1.wanted)

-- ---- all that is begun, the whole first

pub data Leads (a : Around) : List Begun → HeldSites → ExpForm → Mode → HeldSites → ExpForm → Mode → Type 0 where
  here : {st : HeldSites} {x : ExpForm} {m : Mode} → Leads a [] st x m st x m
  further : {o : Begun} {os : List Begun} {st su sv : HeldSites} {x z y : ExpForm} {m k n : Mode} → BegunLeads a o st x m su z k → Leads a os su z k sv y n → Leads a (o ∷ os) st x m sv y n

-- from one expression down to another, between which more is begun
abbrev pub GoesDown : List Begun → List Begun → Asked → Asked → Type 0
GoesDown before after from to = (a : Around) (st su : HeldSites) (x : ExpForm) (m : Mode) → Leads a before st x m su from.e.now.form (mode_of from.wanted) → Leads a after st x m su to.e.now.form (mode_of to.wanted)

-- the same where the second one stands behind further statements
abbrev pub Onward : Around → List Begun → List Begun → HeldSites → HeldSites → Asked → Asked → Type 0
Onward a before after st su from to = (sv : HeldSites) (x : ExpForm) (m : Mode) → Leads a before sv x m st from.e.now.form (mode_of from.wanted) → Leads a after sv x m su to.e.now.form (mode_of to.wanted)

-- the refusal tells a fault of what is asked
abbrev pub TellsAsked : Around → HeldSites → Asked → Refusal → Type 0
TellsAsked a st n r = Tells a st n.e.now.form (mode_of n.wanted) r

-- ---- what comes behind a part that is typed

-- what the whole gives is accepted
abbrev pub Accepts : Around → Whole → HeldOut → HeldOut → Type 0
Accepts a whole o p = (st after : HeldSites) (x : ExpForm) → Gives a st x (mode_of whole.wanted) o after → GivesTyped a st x (mode_of whole.wanted) p after

abbrev pub TellsWhole : Around → Whole → HeldOut → Refusal → Type 0
TellsWhole a whole o r = (st after : HeldSites) (x : ExpForm) → Gives a st x (mode_of whole.wanted) o after → Tells a st x (mode_of whole.wanted) r

-- the left side may not have its type
abbrev pub TellsLeft : Around → Sides → HeldOut → Refusal → Type 0
TellsLeft a s l r = (st after : HeldSites) (x : ExpForm) (m : Mode) → GivesTyped a st x (left_mode (asks_of s) m) l after → LeftTells a st (asks_of s) x m r

-- the part under way of an expression gives this
pub record BringsOne (a : Around) (o : Begun) (out : HeldOut) (after st : HeldSites) (x : ExpForm) (m : Mode) : Type 0 where
  pub at : HeldSites
  pub place : ExpForm
  pub asked : Mode
  pub leads : BegunLeads a o st x m at place asked
  pub given : GivesTyped a at place asked out after

-- the same of all that is begun
pub record Brings (a : Around) (os : List Begun) (out : HeldOut) (after st : HeldSites) (x : ExpForm) (m : Mode) : Type 0 where
  pub at : HeldSites
  pub place : ExpForm
  pub asked : Mode
  pub leads : Leads a os st x m at place asked
  pub given : GivesTyped a at place asked out after

abbrev pub Comes : Around → HeldSites → ExpForm → Mode → HeldSites → Behind → Type 0
Comes a st x m after (behind.Whole o) = GivesTyped a st x m o after
Comes a st x m after (behind.Part o n) = BegunLeads a o st x m after n.e.now.form (mode_of n.wanted)

abbrev pub ClosesOne : Around → Begun → HeldOut → Behind → Type 0
ClosesOne a o out b = (st after : HeldSites) (x : ExpForm) (m : Mode) → BringsOne a o out after st x m → Comes a st x m after b

abbrev pub TellsOne : Around → Begun → HeldOut → Refusal → Type 0
TellsOne a o out r = (st after : HeldSites) (x : ExpForm) (m : Mode) → BringsOne a o out after st x m → Tells a st x m r

abbrev pub ComesIn : Around → List Begun → HeldSites → ExpForm → Mode → HeldSites → Closed → Type 0
ComesIn a os st x m after (closed.Whole o) = GivesTyped a st x m o after
ComesIn a os st x m after (closed.Part n) = Leads a os st x m after n.e.now.form (mode_of n.wanted)

abbrev pub Closes : Around → List Begun → List Begun → HeldOut → Closed → Type 0
Closes a before os out c = (st after : HeldSites) (x : ExpForm) (m : Mode) → Brings a before out after st x m → ComesIn a os st x m after c

abbrev pub TellsBegun : Around → List Begun → HeldOut → Refusal → Type 0
TellsBegun a before out r = (st after : HeldSites) (x : ExpForm) (m : Mode) → Brings a before out after st x m → Tells a st x m r

-- the same behind the part that comes next
abbrev pub TurnsTo : Around → List Begun → List Begun → HeldSites → HeldSites → Asked → Closed → Type 0
TurnsTo a before after st su next c = (sv : HeldSites) (x : ExpForm) (m : Mode) → Leads a before sv x m st next.e.now.form (mode_of next.wanted) → ComesIn a after sv x m su c

abbrev pub TellsTurn : Around → List Begun → HeldSites → Asked → Refusal → Type 0
TellsTurn a before st next r = (sv : HeldSites) (x : ExpForm) (m : Mode) → Leads a before sv x m st next.e.now.form (mode_of next.wanted) → Tells a sv x m r
