-- What the functions promise that put statements, forms and cookies together of typed parts. The parts stand in the words by what the
-- walk gives of them: an answer with the statements that are numbered behind it.
use Rattle.std.specs.Prelude.{◌≡◌, ℕ, length, List, Option, Some}
use Rattle.ur_base.specs.Shape.{Shape, count}
use Rattle.ur_base.specs.declared.refusal.Refusal.{Refusal}
use Rattle.ur_base.specs.declared.refusal.Span.{Span}
use Rattle.ur_syntax.specs.declared.sql.DeclName.{DeclName}
use Rattle.ur_syntax.specs.declared.sql.SqlQuery.{SqlQuery}
use Rattle.ur_syntax.specs.declared.sql.SqlChange.{SqlChange}
use Rattle.ur_syntax.specs.declared.exp.Binder.{Binder}
use Rattle.ur_syntax.specs.declared.exp.LambdaParam.{LambdaParam}
use Rattle.ur_syntax.specs.declared.exp.QueryWord.{QueryWord}
use Rattle.ur_syntax.specs.declared.exp.ExpForm.{ExpForm, Row_of-Exp, end_of-Exp as alone, more_of-Exp as its}
use Rattle.ur_syntax.specs.declared.exp.ExpForm.TheVariants as form
use Rattle.ur_syntax.specs.declared.xml.XmlForm.{Row_of-XmlPart}
use Rattle.ur_rows.specs.declared.normal.Part.{Part}
use Rattle.ur_rows.specs.Made.{record_of}
use Rattle.ur_tree.specs.Places.{Place, in_form}
use Rattle.ur_tree.specs.Scalars as scalars
use Rattle.ur_xmltype.specs.Tags as node
use Rattle.ur_typed_rules.specs.Scopes.{World, Scope, Mode, wants, of_transaction, within_binder}
use Rattle.ur_typed.specs.Rules as rules
use Rattle.ur_typed.specs.Rules.{Sites, Out as GivenOut, Antiquotes as GivenAntiquotes}
use Rattle.ur_typed.specs.Walking.{typed, antiquotes_walk}
use Rattle.ur_typed.specs.Markups as markups
use Rattle.ur_typed.specs.Markups.{Literal}
use Rattle.ur_typed.specs.Faults.{BreaksNode}
use Rattle.ur_check_scopes.specs.declared.around.Around.{Around}
use Rattle.ur_check_scopes.specs.Views.{Stands, Refuses, env_in}
use Rattle.ur_check_rules.specs.declared.out.Out.{Out}
use Rattle.ur_check_rules.specs.Views.{out_with}
use Rattle.ur_check_rules.specs.Promises.{TellsFault}
use Rattle.ur_check_forms.specs.declared.runs.CookieAt.{CookieAt}
use Rattle.ur_check_forms.specs.declared.statements.Antiquotes.{Antiquotes}
use Rattle.ur_check_forms.specs.declared.marked.Marked.{Marked}
use Rattle.ur_check_forms.specs.Views.{antiquotes_with, marked_with}
use Rattle.ur_check_forms.specs.Statements.{IsAsked}

-- a query
abbrev pub GivesAsked : QueryWord → ℕ → List Part → Antiquotes → Out → Type 0
GivesAsked how at' row antiquotes o = (w : World) (before between after : Sites) (q : SqlQuery) (args : Sites → Option GivenAntiquotes) → at' ≡ length before.queries
    → args (rules.with_query_slot before) ≡ Some (antiquotes_with antiquotes between) → IsAsked w q (antiquotes_with antiquotes between) at' row after
    → rules.ask_out w before how q args ≡ Some (out_with o after)

-- a change
abbrev pub GivesWritten : Around → ℕ → SqlChange → Antiquotes → (given after : Sites) → Out → Type 0
GivesWritten around at' change antiquotes given after o = (w : World) (s : Scope) (before : Sites) (args : Sites → Option GivenAntiquotes) → Stands around w s
    → at' ≡ length before.changes → args (rules.with_change_slot before) ≡ Some (antiquotes_with antiquotes given)
    → rules.write_out w before change args ≡ Some (out_with o after)

abbrev pub TellsWritten : Around → SqlChange → Antiquotes → (given : Sites) → Refusal → Type 0
TellsWritten around change antiquotes given r = (w : World) (s : Scope) (before : Sites) (m : Mode) (n : Shape) (args : Row_of-Exp (count n)) → Stands around w s
    → antiquotes_walk w args s (rules.with_change_slot before) ≡ Some (antiquotes_with antiquotes given)
    → TellsFault around w s before (form.Dml' change n args) m r

-- XML for each row of a query
abbrev pub GivesEach : ℕ → Antiquotes → Out → Out → Type 0
GivesEach at' antiquotes body o = (w : World) (before between middle after : Sites) (m : Mode) (q : SqlQuery) (row : List Part)
    (args : Sites → Option GivenAntiquotes) (walk : List Part → Sites → Mode → Option GivenOut) → at' ≡ length before.queries
    → args (rules.with_query_slot before) ≡ Some (antiquotes_with antiquotes between) → IsAsked w q (antiquotes_with antiquotes between) at' row middle
    → walk row middle (of_transaction m) ≡ Some (out_with body after) → rules.each_out w before m q args walk ≡ Some (out_with o after)

abbrev pub TellsEach : Around → ℕ → Antiquotes → Out → Refusal → Type 0
TellsEach around at' antiquotes body r = (w : World) (s : Scope) (before between middle after : Sites) (m : Mode) (q : SqlQuery) (row : List Part) (n : Shape)
    (args : Row_of-Exp (count n)) (p t : Span) (params : List LambdaParam) (x : Binder) (y : ExpForm) → at' ≡ length before.queries
    → antiquotes_walk w args s (rules.with_query_slot before) ≡ Some (antiquotes_with antiquotes between)
    → IsAsked w q (antiquotes_with antiquotes between) at' row middle → rules.row_param w s row params ≡ Some x
    → typed w y (within_binder x (record_of row) s) middle (of_transaction m) ≡ Some (out_with body after)
    → TellsFault around w s before (form.QueryX' q n args tt (its p (form.Lambda' params tt (its t y alone)) alone)) m r

-- a form of XML
abbrev pub TellsForm : Around → Marked → Refusal → Type 0
TellsForm around inner r = (l : Literal) (p : Place) (n : Shape) (parts : Row_of-XmlPart (count n)) (before after : Sites)
    → l.scope.env.known ≡ (env_in around.scope.cons).known → markups.parts_out l parts in_form before ≡ Some (marked_with inner after)
    → Refuses around.world.now.datatype_names (BreaksNode around.world.now.datatype_names l p (count n) parts before node.form) r

-- `setCookie`
abbrev pub GivesCookieSet : CookieAt → Out → Out → Type 0
GivesCookieSet cookie value o = (w : World) (x : DeclName) (before after : Sites) (a : Sites → Mode → Option GivenOut)
    → rules.cookie_at w x ≡ Some (cookie.number, cookie.kind) → a before (wants (scalars.kind_type cookie.kind)) ≡ Some (out_with value after)
    → rules.set_cookie_out w before x a ≡ Some (out_with o after)
