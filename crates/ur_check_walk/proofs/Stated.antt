-- Queries and changes, and the row function of `queryX`.
use Rattle.std.proofs.Common.{◌≡◌, ◌≢◌, ◌∙◌, refl, ap, sym, subst, ℕ, false, List, [], ◌∷◌, length, Option, Some, Err}
use Rattle.std.specs.Prelude.{codes, option_and_then}
use Rattle.ur_base.specs.Shape.{Shape, count}
use Rattle.ur_base.specs.Stopping.{IfRefused}
use Rattle.ur_base.specs.declared.refusal.Refusal.{Refusal}
use Rattle.ur_base.specs.declared.refusal.Span.{Span}
use Rattle.ur_base.specs.declared.refusal.Stop.{Stop}
use Rattle.ur_base.specs.declared.refusal.Stop.TheVariants as stop
use Rattle.ur_syntax.specs.declared.sql.SqlQuery.{SqlQuery}
use Rattle.ur_syntax.specs.declared.sql.SqlChange.{SqlChange}
use Rattle.ur_syntax.specs.declared.exp.Binder.{Binder}
use Rattle.ur_syntax.specs.declared.exp.LambdaParam.{LambdaParam}
use Rattle.ur_syntax.specs.declared.exp.QueryWord.{QueryWord}
use Rattle.ur_syntax.specs.declared.exp.Exp.{Exp}
use Rattle.ur_syntax.specs.declared.exp.ExpForm.{ExpForm, Row_of-Exp, end_of-Exp as alone, more_of-Exp as its}
use Rattle.ur_syntax.specs.declared.exp.ExpForm.TheVariants as e
use Rattle.ur_rows.specs.declared.normal.NormalType.{NormalType}
use Rattle.ur_rows.specs.declared.normal.Part.{Part}
use Rattle.ur_rows.specs.Made.{record_of}
use Rattle.ur_rows.proofs.Shapes.{record-made}
use Rattle.ur_typed_rules.specs.Scopes.{World, Scope, Mode, of_transaction, within_binder}
use Rattle.ur_typed_rules.specs.Faults.{not_so}
use Rattle.ur_typed.specs.Rules.{Sites, Out, Antiquotes, with_query_slot, with_change_slot, with_query, ask_out, write_out, each_out, row_param}
use Rattle.ur_typed.specs.Walking.{typed, antiquotes_walk, row_walk}
use Rattle.ur_typed.specs.Parts.{antiquote, row_antiquote, change_antiquote, row_body_part}
use Rattle.ur_typed.specs.Faults.{BreaksRowFunction}
use Rattle.ur_typed.specs.Causes.{HasFault, Breaks, is_lambda, no_row_function}
use Rattle.ur_check_scopes.specs.declared.locals.Local.{Local as HeldLocal}
use Rattle.ur_check_scopes.specs.declared.around.Around.{Around}
use Rattle.ur_check_scopes.specs.Views.{Stands, Refuses, StopIs}
use Rattle.ur_check_rules.specs.declared.out.Out.{Out as HeldOut}
use Rattle.ur_check_rules.specs.declared.out.Sites.{Sites as HeldSites}
use Rattle.ur_check_rules.specs.Views.{sites_in, out_with, out_in}
use Rattle.ur_check_forms.specs.declared.statements.Antiquotes.{Antiquotes as HeldAntiquotes}
use Rattle.ur_check_forms.specs.Views.{antiquotes_with}
use Rattle.ur_check_forms.specs.Statements.{BreaksQuery, IsAsked}
use Rattle.ur_check_forms.proofs.Stating.{ask-breaks, each-breaks, row-breaks}
use Rattle.ur_check_walk.specs.Promises.{Gives, GivesTyped, Tells}
use Rattle.ur_check_walk.specs.Binding.{IsWithin}
use Rattle.ur_check_walk.specs.Listed.{exp_row}
use Rattle.ur_check_walk.specs.Embedding.{AntiquoteFault, GivesAntiquotes, TellsAntiquotes, RowGives, RowHasFault, breaks_row, in_row, GivesRows, TellsRows}
use Rattle.ur_check_walk.proofs.Steps.{part, rule, gives-as, tells-as}
use Rattle.ur_check_walk.proofs.Wholes.{told-there, lambda-plain}
use Rattle.ur_check_walk.proofs.Binders.{stands-bound}
use Rattle.ur_check_walk.proofs.Choosing.{IsBound}
use Rattle.ur_check_walk.proofs.Quoted.{dml-made, query-made, each-made}

-- the types that the code makes
pub ruleset types = (record-made)

abbrev names_at : Around → List (List ℕ)
names_at a = a.world.now.datatype_names

-- ---- behind the number that the statement takes

quotes-behind : (a : Around) (slot after : HeldSites) (st : Sites) (xs : List Exp) (x : HeldAntiquotes) → sites_in slot ≡ st → GivesAntiquotes a slot xs x after → (w : World) (s : Scope) → Stands a w s → antiquotes_walk w (exp_row xs).1 s st ≡ Some (antiquotes_with x (sites_in after))
quotes-behind a slot after st xs x k g w s stands = ap (λ z. antiquotes_walk w (exp_row xs).1 s z) (sym k) ∙ g w s stands

fault-behind : (a : Around) (slot : HeldSites) (st : Sites) (xs : List Exp) (r : Refusal) → sites_in slot ≡ st → TellsAntiquotes a slot xs r → (w : World) (s : Scope) → Stands a w s → AntiquoteFault (names_at a) w s st xs r
fault-behind a slot st xs r k h w s stands = subst (λ z. AntiquoteFault (names_at a) w s z xs r) k (h w s stands)

-- ---- changes

-- what ur_check_forms says of a change that is written
abbrev pub Writes : Around → SqlChange → ℕ → HeldAntiquotes → Sites → HeldOut → Sites → Type 0
Writes a u at x between o after = (w : World) (s : Scope) (before : Sites) (args : Sites → Option Antiquotes) → Stands a w s → at ≡ length before.changes → args (with_change_slot before) ≡ Some (antiquotes_with x between) → write_out w before u args ≡ Some (out_with o after)

-- and of one that is refused
abbrev pub NotWritten : Around → SqlChange → HeldAntiquotes → Sites → Refusal → Type 0
NotWritten a u x between r = (w : World) (s : Scope) (before : Sites) (m : Mode) (n : Shape) (args : Row_of-Exp (count n)) → Stands a w s → antiquotes_walk w args s (with_change_slot before) ≡ Some (antiquotes_with x between) →
    Refuses (names_at a) (Breaks (names_at a) w s before (e.Dml' u n args) m) r

pub change-gives : (a : Around) (before slot between after : HeldSites) (u : SqlChange) (xs : List Exp) (at : ℕ) (x : HeldAntiquotes) (m : Mode) (o : HeldOut) → at ≡ length before.changes → sites_in slot ≡ with_change_slot (sites_in before) → GivesAntiquotes a slot xs x between →
    Writes a u at x (sites_in between) o (sites_in after) → Gives a before (e.Dml u xs) m o after
change-gives a before slot between after u xs at x m o n k g h = gives-as a before (e.Dml u xs) _ m o after (dml-made u xs) (λ w s st.
    h w s (sites_in before) (λ su. antiquotes_walk w (exp_row xs).1 s su) st n (quotes-behind a slot between (with_change_slot (sites_in before)) xs x k g w s st))

pub change-quoted : (a : Around) (before slot : HeldSites) (u : SqlChange) (xs : List Exp) (m : Mode) → sites_in slot ≡ with_change_slot (sites_in before) → (r : Refusal) → TellsAntiquotes a slot xs r → Tells a before (e.Dml u xs) m r
change-quoted a before slot u xs m k r h = tells-as a before (e.Dml u xs) _ m r (dml-made u xs) (λ w s st.
    let f : AntiquoteFault (names_at a) w s (with_change_slot (sites_in before)) xs r = fault-behind a slot (with_change_slot (sites_in before)) xs r k h w s st in part (change_antiquote f.stands) f.fault)

pub change-broken : (a : Around) (before slot between : HeldSites) (u : SqlChange) (xs : List Exp) (x : HeldAntiquotes) (m : Mode) → sites_in slot ≡ with_change_slot (sites_in before) → GivesAntiquotes a slot xs x between → (r : Refusal) → NotWritten a u x (sites_in between) r →
    Tells a before (e.Dml u xs) m r
change-broken a before slot between u xs x m k g r h = tells-as a before (e.Dml u xs) _ m r (dml-made u xs) (λ w s st.
    rule (h w s (sites_in before) m (exp_row xs).0 (exp_row xs).1 st (quotes-behind a slot between (with_change_slot (sites_in before)) xs x k g w s st)))

-- ---- queries

-- the code stands where the query is asked
abbrev pub AskedAt : Around → SqlQuery → HeldAntiquotes → Sites → ℕ → List Part → Sites → Type 0
AskedAt a q x between at row after = (w : World) (s : Scope) → Stands a w s → IsAsked w q (antiquotes_with x between) at row after

abbrev pub NotAsked : Around → SqlQuery → HeldAntiquotes → Refusal → Type 0
NotAsked a q x r = (w : World) (s : Scope) (st : Sites) → Stands a w s → Refuses (names_at a) (BreaksQuery (names_at a) w q (antiquotes_with x st)) r

-- what ur_check_forms says of a query that is asked
abbrev pub Asks : QueryWord → ℕ → List Part → HeldAntiquotes → HeldOut → Type 0
Asks how at row x o = (w : World) (before between after : Sites) (q : SqlQuery) (args : Sites → Option Antiquotes) → at ≡ length before.queries → args (with_query_slot before) ≡ Some (antiquotes_with x between) → IsAsked w q (antiquotes_with x between) at row after → ask_out w before how q args ≡ Some (out_with o after)

pub query-gives : (a : Around) (before slot between after : HeldSites) (how : QueryWord) (q : SqlQuery) (xs : List Exp) (at : ℕ) (row : List Part) (x : HeldAntiquotes) (m : Mode) (o : HeldOut) → at ≡ length before.queries → sites_in slot ≡ with_query_slot (sites_in before) →
    GivesAntiquotes a slot xs x between → AskedAt a q x (sites_in between) at row (sites_in after) → Asks how at row x o → Gives a before (e.Query how q xs) m o after
query-gives a before slot between after how q xs at row x m o n k g h asks = gives-as a before (e.Query how q xs) _ m o after (query-made how q xs) (λ w s st.
    asks w (sites_in before) (sites_in between) (sites_in after) q (λ su. antiquotes_walk w (exp_row xs).1 s su) n (quotes-behind a slot between (with_query_slot (sites_in before)) xs x k g w s st) (h w s st))

pub query-quoted : (a : Around) (before slot : HeldSites) (how : QueryWord) (q : SqlQuery) (xs : List Exp) (m : Mode) → sites_in slot ≡ with_query_slot (sites_in before) → (r : Refusal) → TellsAntiquotes a slot xs r → Tells a before (e.Query how q xs) m r
query-quoted a before slot how q xs m k r h = tells-as a before (e.Query how q xs) _ m r (query-made how q xs) (λ w s st.
    let f : AntiquoteFault (names_at a) w s (with_query_slot (sites_in before)) xs r = fault-behind a slot (with_query_slot (sites_in before)) xs r k h w s st in part (antiquote f.stands) f.fault)

pub query-broken : (a : Around) (before slot between : HeldSites) (how : QueryWord) (q : SqlQuery) (xs : List Exp) (x : HeldAntiquotes) (m : Mode) → sites_in slot ≡ with_query_slot (sites_in before) → GivesAntiquotes a slot xs x between → (r : Refusal) → NotAsked a q x r →
    Tells a before (e.Query how q xs) m r
query-broken a before slot between how q xs x m k g r h = tells-as a before (e.Query how q xs) _ m r (query-made how q xs) (λ w s st.
    let f : Refuses (names_at a) (BreaksQuery (names_at a) w q (antiquotes_with x (sites_in between))) r = h w s (sites_in between) st in
    rule (f.0, ask-breaks (names_at a) w s (sites_in before) m how q (exp_row xs).0 (exp_row xs).1 (antiquotes_with x (sites_in between)) f.0 (quotes-behind a slot between (with_query_slot (sites_in before)) xs x k g w s st) f.1, f.2))

-- ---- the row function

-- its variable, where the type of the records is `u`
abbrev pub IsVariable : Around → List LambdaParam → NormalType → Binder → Type 0
IsVariable a params u x = (w : World) (s : Scope) (r : List Part) → Stands a w s → u ≡ record_of r → row_param w s r params ≡ Some x

abbrev pub NoVariable : Around → List LambdaParam → NormalType → Refusal → Type 0
NoVariable a params u r = (w : World) (s : Scope) (row : List Part) → Stands a w s → u ≡ record_of row → Refuses (names_at a) (BreaksRowFunction (names_at a) w s row params) r

row-stands : (a i : Around) (row : List Part) (x : Binder) (u : NormalType) (l : HeldLocal) (own : List HeldLocal) → u ≡ record_of row → IsBound l x u → own ≡ l ∷ [] → IsWithin a own i → (w : World) (s : Scope) → Stands a w s → Stands i w (within_binder x (record_of row) s)
row-stands a i row x u l own eu b n k w s stands = subst (λ z. Stands i w (within_binder x z s)) eu (stands-bound a i l x u b.0 b.1 b.2 (subst (λ z. IsWithin a z i) n k) w s stands)

pub rows-made : (a i : Around) (st0 st1 : HeldSites) (row : List Part) (params : List LambdaParam) (y : Exp) (m n : Mode) (o : HeldOut) (x : Binder) (u : NormalType) (l : HeldLocal) (own : List HeldLocal) → u ≡ record_of row → IsVariable a params u x → IsBound l x u → own ≡ l ∷ [] → IsWithin a own i →
    n ≡ of_transaction m → GivesTyped i st0 y.form n o st1 → GivesRows a st0 row params y m o st1
rows-made a i st0 st1 row params y m n o x u l own eu v b en k em g = λ w s stands. record {
  variable = x;
  param = v w s row stands eu;
  body = ap (λ z. typed w y.form (within_binder x (record_of row) s) (sites_in st0) z) (sym em) ∙ g w (within_binder x (record_of row) s) (row-stands a i row x u l own eu b en k w s stands);
}

pub param-broken : (a : Around) (st : HeldSites) (row : List Part) (params : List LambdaParam) (y : Exp) (m : Mode) (u : NormalType) → u ≡ record_of row → (r : Refusal) → NoVariable a params u r → TellsRows a st row params y m r
param-broken a st row params y m u eu r h = λ w s stands. breaks_row (h w s row stands eu)

pub row-faulty : (a i : Around) (st : HeldSites) (row : List Part) (params : List LambdaParam) (y : Exp) (m n : Mode) (x : Binder) (u : NormalType) (l : HeldLocal) (own : List HeldLocal) → u ≡ record_of row → IsVariable a params u x → IsBound l x u → own ≡ l ∷ [] → IsWithin a own i →
    n ≡ of_transaction m → (r : Refusal) → Tells i st y.form n r → TellsRows a st row params y m r
row-faulty a i st row params y m n x u l own eu v b en k em r h = λ w s stands.
    let there : HasFault (names_at a) w (within_binder x (record_of row) s) (sites_in st) y.form n r = told-there a i k.world (h w (within_binder x (record_of row) s) (row-stands a i row x u l own eu b en k w s stands)) in
    in_row (v w s row stands eu) (subst (λ z. HasFault (names_at a) w (within_binder x (record_of row) s) (sites_in st) y.form z r) em there)

-- ---- `queryX`

-- the form with its row function
abbrev with_rows : SqlQuery → List Exp → Span → List LambdaParam → Exp → ExpForm
with_rows q xs p params y = e.QueryX' q (exp_row xs).0 (exp_row xs).1 tt (its p (e.Lambda' params tt (its y.span y.form alone)) alone)

each-plain : (q : SqlQuery) (xs : List Exp) (f : Exp) (params : List LambdaParam) (y : Exp) → f.form ≡ e.Lambda params y → e.QueryX q xs f ≡ with_rows q xs f.span params y
each-plain q xs f params y h = each-made q xs f ∙ ap (λ z. e.QueryX' q (exp_row xs).0 (exp_row xs).1 tt (its f.span z alone)) (h ∙ lambda-plain params y)

-- what ur_check_forms says of rows that are XML
abbrev pub GivesEach : ℕ → HeldAntiquotes → HeldOut → HeldOut → Type 0
GivesEach at x p o = (w : World) (before between middle after : Sites) (m : Mode) (q : SqlQuery) (row : List Part) (args : Sites → Option Antiquotes) (walk : List Part → Sites → Mode → Option Out) → at ≡ length before.queries → args (with_query_slot before) ≡ Some (antiquotes_with x between) →
    IsAsked w q (antiquotes_with x between) at row middle → walk row middle (of_transaction m) ≡ Some (out_with p after) → each_out w before m q args walk ≡ Some (out_with o after)

-- and of rows that are none
abbrev pub NotEach : Around → ℕ → HeldAntiquotes → HeldOut → Refusal → Type 0
NotEach a at x body r = (w : World) (s : Scope) (before between middle after : Sites) (m : Mode) (q : SqlQuery) (row : List Part) (n : Shape) (args : Row_of-Exp (count n)) (p t : Span) (params : List LambdaParam) (b : Binder) (y : ExpForm) → at ≡ length before.queries →
    antiquotes_walk w args s (with_query_slot before) ≡ Some (antiquotes_with x between) → IsAsked w q (antiquotes_with x between) at row middle → row_param w s row params ≡ Some b → typed w y (within_binder b (record_of row) s) middle (of_transaction m) ≡ Some (out_with body after) →
    Refuses (names_at a) (Breaks (names_at a) w s before (e.QueryX' q n args tt (its p (e.Lambda' params tt (its t y alone)) alone)) m) r

pub each-gives : (a : Around) (before slot between middle after : HeldSites) (q : SqlQuery) (xs : List Exp) (f : Exp) (params : List LambdaParam) (y : Exp) (at : ℕ) (row : List Part) (x : HeldAntiquotes) (m : Mode) (p o : HeldOut) → at ≡ length before.queries → sites_in slot ≡ with_query_slot (sites_in before) →
    GivesAntiquotes a slot xs x between → AskedAt a q x (sites_in between) at row (sites_in middle) → f.form ≡ e.Lambda params y → GivesRows a middle row params y m p after → GivesEach at x p o → Gives a before (e.QueryX q xs f) m o after
each-gives a before slot between middle after q xs f params y at row x m p o n k g h is rows each = gives-as a before (e.QueryX q xs f) _ m o after (each-plain q xs f params y is) (λ w s st.
    let there : RowGives w s (sites_in middle) row params y.form m (out_in p after) = rows w s st in
    each w (sites_in before) (sites_in between) (sites_in middle) (sites_in after) m q row (λ su. antiquotes_walk w (exp_row xs).1 s su) (λ r su m'. row_walk w (its f.span (e.Lambda' params tt (its y.span y.form alone)) alone) s r su m')
    n (quotes-behind a slot between (with_query_slot (sites_in before)) xs x k g w s st) (h w s st)
    (ap (option_and_then (λ b. typed w y.form (within_binder b (record_of row) s) (sites_in middle) (of_transaction m))) there.param ∙ there.body))

pub each-quoted : (a : Around) (before slot : HeldSites) (q : SqlQuery) (xs : List Exp) (f : Exp) (m : Mode) → sites_in slot ≡ with_query_slot (sites_in before) → (r : Refusal) → TellsAntiquotes a slot xs r → Tells a before (e.QueryX q xs f) m r
each-quoted a before slot q xs f m k r h = tells-as a before (e.QueryX q xs f) _ m r (each-made q xs f) (λ w s st.
    let t : AntiquoteFault (names_at a) w s (with_query_slot (sites_in before)) xs r = fault-behind a slot (with_query_slot (sites_in before)) xs r k h w s st in part (row_antiquote t.stands) t.fault)

pub each-broken : (a : Around) (before slot between : HeldSites) (q : SqlQuery) (xs : List Exp) (f : Exp) (x : HeldAntiquotes) (m : Mode) → sites_in slot ≡ with_query_slot (sites_in before) → GivesAntiquotes a slot xs x between → (r : Refusal) → NotAsked a q x r →
    Tells a before (e.QueryX q xs f) m r
each-broken a before slot between q xs f x m k g r h = tells-as a before (e.QueryX q xs f) _ m r (each-made q xs f) (λ w s st.
    let t : Refuses (names_at a) (BreaksQuery (names_at a) w q (antiquotes_with x (sites_in between))) r = h w s (sites_in between) st in
    rule (t.0, each-breaks (names_at a) w s (sites_in before) m q (exp_row xs).0 (exp_row xs).1 f.span f.form (antiquotes_with x (sites_in between)) t.0 (quotes-behind a slot between (with_query_slot (sites_in before)) xs x k g w s st) t.1, t.2))

row-fault : (names : List (List ℕ)) (w : World) (s : Scope) (before between middle : Sites) (q : SqlQuery) (xs : List Exp) (p : Span) (params : List LambdaParam) (y : Exp) (at : ℕ) (row : List Part) (x : HeldAntiquotes) (m : Mode) (r : Refusal) → at ≡ length before.queries →
    antiquotes_walk w (exp_row xs).1 s (with_query_slot before) ≡ Some (antiquotes_with x between) → IsAsked w q (antiquotes_with x between) at row middle → RowHasFault names w s middle row params y.form m r → HasFault names w s before (with_rows q xs p params y) m r
row-fault names w s before between middle q xs p params y at row x m r n g k (breaks_row t) =
    rule (t.0, row-breaks names w s before between middle m q at row (exp_row xs).0 (exp_row xs).1 x p y.span params y.form t.0 g k t.1, t.2)
row-fault names w s before between middle q xs p params y at row x m r n g k (in_row {x = b} v h) =
    let kept : middle ≡ with_query (length before.queries) k.core between = k.kept ∙ ap (λ z. with_query z k.core between) n in
    part (row_body_part g k.stands (ap (λ z. row_param w s z params) (sym k.row_is) ∙ v))
    (subst (λ z. HasFault names w (within_binder b (record_of z) s) (with_query (length before.queries) k.core between) y.form (of_transaction m) r) k.row_is (subst (λ z. HasFault names w (within_binder b (record_of row) s) z y.form (of_transaction m) r) kept h))

pub each-faulty : (a : Around) (before slot between middle : HeldSites) (q : SqlQuery) (xs : List Exp) (f : Exp) (params : List LambdaParam) (y : Exp) (at : ℕ) (row : List Part) (x : HeldAntiquotes) (m : Mode) → at ≡ length before.queries → sites_in slot ≡ with_query_slot (sites_in before) →
    GivesAntiquotes a slot xs x between → AskedAt a q x (sites_in between) at row (sites_in middle) → f.form ≡ e.Lambda params y → (r : Refusal) → TellsRows a middle row params y m r → Tells a before (e.QueryX q xs f) m r
each-faulty a before slot between middle q xs f params y at row x m n k g h is r rows = tells-as a before (e.QueryX q xs f) _ m r (each-plain q xs f params y is) (λ w s st.
    row-fault (names_at a) w s (sites_in before) (sites_in between) (sites_in middle) q xs f.span params y at row x m r n (quotes-behind a slot between (with_query_slot (sites_in before)) xs x k g w s st) (h w s st) (rows w s st))

pub each-unfit : (a : Around) (before slot between middle after : HeldSites) (q : SqlQuery) (xs : List Exp) (f : Exp) (params : List LambdaParam) (y : Exp) (at : ℕ) (row : List Part) (x : HeldAntiquotes) (m : Mode) (p : HeldOut) → at ≡ length before.queries → sites_in slot ≡ with_query_slot (sites_in before) →
    GivesAntiquotes a slot xs x between → AskedAt a q x (sites_in between) at row (sites_in middle) → f.form ≡ e.Lambda params y → GivesRows a middle row params y m p after → (r : Refusal) → NotEach a at x p r → Tells a before (e.QueryX q xs f) m r
each-unfit a before slot between middle after q xs f params y at row x m p n k g h is rows r each = tells-as a before (e.QueryX q xs f) _ m r (each-plain q xs f params y is) (λ w s st.
    let there : RowGives w s (sites_in middle) row params y.form m (out_in p after) = rows w s st in
    rule (each w s (sites_in before) (sites_in between) (sites_in middle) (sites_in after) m q row (exp_row xs).0 (exp_row xs).1 f.span y.span params there.variable y.form n (quotes-behind a slot between (with_query_slot (sites_in before)) xs x k g w s st) (h w s st) there.param there.body))

-- another expression in place of the row function
not-lambda : (x : ExpForm) → ((params : List LambdaParam) (y : Exp) → x ≢ e.Lambda params y) → is_lambda x ≡ false
not-lambda (e.Lambda' params _ (its p y alone)) h = absurd (h params (record { span = p; form = y }) (sym (lambda-plain params (record { span = p; form = y }))))
not-lambda _ h = refl

pub each-unapplied : (a : Around) (before : HeldSites) (q : SqlQuery) (xs : List Exp) (f : Exp) (m : Mode) (s : Stop) → ((params : List LambdaParam) (y : Exp) → f.form ≢ e.Lambda params y) → ((names : List (List ℕ)) → StopIs names (not_so (codes "a function") (codes "fn x => e")) s) →
    IfRefused {A = Unit {0}} (Err s) (Tells a before (e.QueryX q xs f) m)
each-unapplied a before q xs f m (stop.Refused r) h t = tells-as a before (e.QueryX q xs f) _ m r (each-made q xs f) (λ w s st. rule (not_so (codes "a function") (codes "fn x => e"), no_row_function (not-lambda f.form h), t (names_at a)))
each-unapplied a before q xs f m stop.Memory h t = tt
