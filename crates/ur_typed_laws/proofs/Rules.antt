-- The rules of the walk, where the statements before fit the tables, and those that each part numbers.
use Rattle.std.proofs.Common.{◌≡◌, Bool, true, false, Option, Some, None, List, [], ◌∷◌, ℕ, length}
use Rattle.std.specs.Prelude.{◌&&◌, not, nat_le, nat_lt, map, IfSome, option_and_then, slice_get}
use Rattle.std.proofs.lemmas.List.Elements.{All-push, All-set}
use Rattle.ur_values.specs.declared.schema.ColumnKind.{ColumnKind}
use Rattle.ur_values.specs.declared.schema.Schema.{Schema}
use Rattle.ur_syntax.specs.declared.con.Con.{Con}
use Rattle.ur_syntax.specs.declared.con.FieldName.{FieldName}
use Rattle.ur_syntax.specs.declared.sql.DeclName.{DeclName}
use Rattle.ur_syntax.specs.declared.sql.SqlQuery.{SqlQuery}
use Rattle.ur_syntax.specs.declared.sql.SqlChange.{SqlChange}
use Rattle.ur_syntax.specs.declared.exp.Binder.{Binder}
use Rattle.ur_syntax.specs.declared.exp.Binder.TheVariants as binder
use Rattle.ur_syntax.specs.declared.exp.LambdaParam.{LambdaParam}
use Rattle.ur_syntax.specs.declared.exp.PatForm.{PatForm}
use Rattle.ur_syntax.specs.declared.exp.QueryWord.{QueryWord}
use Rattle.ur_syntax.specs.declared.exp.ExpForm.{ExpForm}
use Rattle.ur_sql.specs.declared.query.Query.{Query}
use Rattle.ur_sql.specs.declared.change.Change.{Change}
use Rattle.ur_sql.specs.Typing.{QueryFits, ChangeFits}
use Rattle.ur_rows.specs.declared.normal.Normal.{Normal}
use Rattle.ur_rows.specs.declared.normal.NormalType.{NormalType}
use Rattle.ur_rows.specs.declared.normal.Part.{Part}
use Rattle.ur_rows.specs.Kinded.{label_is_in}
use Rattle.ur_rows.specs.Nodes.{type_nodes}
use Rattle.ur_rows.specs.Put.{instance_type}
use Rattle.ur_rows.specs.Types.{field_type, is_value_type, holds_arrow, at_row}
use Rattle.ur_tree.specs.declared.exp.Unary.{Unary}
use Rattle.ur_tree.specs.declared.exp.Binary.{Binary}
use Rattle.ur_tree.specs.declared.exp.Param.{Param}
use Rattle.ur_tree.specs.Heads.{Head, function_type}
use Rattle.ur_tree.specs.Env.{variables}
use Rattle.ur_tree.specs.Typing.{keeps_arrows, are_static_at, step_row}
use Rattle.ur_typed_rules.specs.Names.{declared, local_at, name_of}
use Rattle.ur_typed_rules.specs.Names as here
use Rattle.ur_typed_rules.specs.Scopes.{World, Scope, Mode, finds, wants, within_binder, within_branch, within_params, of_field, of_result}
use Rattle.ur_typed_rules.specs.Tests.{are_arguments, are_params, are_distinct}
use Rattle.ur_sqltype.specs.Lists.{all_of}
use Rattle.ur_sqltype.specs.Table.{column_type_kind}
use Rattle.ur_sqltype.specs.Query.{query_of}
use Rattle.ur_sqltype.specs.Change.{change_of}
use Rattle.ur_sqltype.specs.SqltypeFits.{QueryOfFits, ChangeOfFits}
use Rattle.ur_typed.specs.Resolves.{is_head}
use Rattle.ur_typed.specs.Rules.{Sites, Out, Walk, Args, declared_out, local_or, var_out, member_out, function_out, function_at, plain_tag, tagged_out, absent_out, empty_out, Capital, says_true, says_false, says_none, says_other, capital_of, by_capital, constructor_out, member_constructor_out, tag_named, with_first, args_out, call_out, named_call, with_type, built, by_head, applied, one_out, show_out, some_out, return_out, error_out, sides_out, if_out, Branches, no_branches, with_branch, branch_out, case_out, let_out, bind_out, lambda_out, Fields, with_field, field_out, record_out, project_out, cut_out, next_out, get_cookie_out, set_cookie_out, Antiquotes, with_antiquote, antiquote_out, with_query_slot, with_change_slot, with_query, with_change, query_at, change_at, write_out, ask_out, each_out, row_body}
use Rattle.ur_typed.specs.Folds.{step_of, step_fits, step_out, fold_out}
use Rattle.ur_typed_rules.specs.Rules.{row_of, pattern_of, bound_in, written_type, label_at, params_out}
use Rattle.ur_typed_rules.proofs.Options.{opened}
use Rattle.ur_typed_laws.specs.Fitting.{SitesFit}
use Rattle.ur_typed_laws.proofs.Options.{Brings, none_brings, some_brings, then_brings, then_known, then_any, map_brings, if_brings}

-- ---- what each rule gives

abbrev pub OutFits : Schema → Out → Type 0
OutFits t o = SitesFit t o.sites

abbrev pub BranchesFit : Schema → Branches → Type 0
BranchesFit t b = SitesFit t b.sites

abbrev pub FieldsFit : Schema → Fields → Type 0
FieldsFit t f = SitesFit t f.sites

abbrev pub AntiquotesFit : Schema → Antiquotes → Type 0
AntiquotesFit t a = SitesFit t a.sites

abbrev pub ArgsFit : Schema → Args × Sites → Type 0
ArgsFit t a = SitesFit t a.1

abbrev pub StepFits : Schema → Param × Out → Type 0
StepFits t p = SitesFit t p.1.sites

pub record WalkFits (t : Schema) (f : Walk) : Type 0 where
  pub on : (s : Scope) (st : Sites) (m : Mode) → SitesFit t st → Brings (OutFits t) (f s st m)

pub data WalksFit (t : Schema) : List Walk → Type 0 where
  no_walks : WalksFit t []
  one_walk : {f : Walk} {fs : List Walk} → WalkFits t f → WalksFit t fs → WalksFit t (f ∷ fs)

-- ---- names

function_fits : {t : Schema} (w : World) (s : Scope) (st : Sites) (f : ℕ × List Normal) → SitesFit t st → Brings (OutFits t) (function_out w s st f)
function_fits w s st f h = then_any (slice_get w.declared.functions f.0) (λ x. if_brings (are_arguments s.env x.cons f.1 && keeps_arrows f.1 x.params) (some_brings h))

declared_fits : {t : Schema} (w : World) (s : Scope) (st : Sites) (x : here.Declared) → SitesFit t st → Brings (OutFits t) (declared_out w s st x)
declared_fits w s st (here.function n) h = function_fits w s st (n, []) h
declared_fits w s st (here.val n) h = then_any _ (λ x. some_brings h)

local_fits : {t : Schema} (w : World) (s : Scope) (st : Sites) (x : List ℕ) (o : Option (Bool × ℕ)) → SitesFit t st → Brings (OutFits t) (local_or w s st x o)
local_fits w s st x (Some (true, i)) h = then_any _ (λ y. some_brings h)
local_fits w s st x (Some (false, i)) h = then_any _ (λ y. some_brings h)
local_fits w s st x None h = then_any _ (λ y. declared_fits w s st y h)

pub var_fits : {t : Schema} (w : World) (s : Scope) (st : Sites) (x : List ℕ) → SitesFit t st → Brings (OutFits t) (var_out w s st x)
var_fits w s st x h = local_fits w s st x (local_at x s.names.locals) h

pub member_fits : {t : Schema} (w : World) (s : Scope) (st : Sites) (m x : List ℕ) → SitesFit t st → Brings (OutFits t) (member_out w s st m x)
member_fits w s st m x h = then_any _ (λ y. declared_fits w s st y h)

pub con_applied_fits : {t : Schema} (w : World) (s : Scope) (st : Sites) (x : ExpForm) → SitesFit t st → Brings (OutFits t) (option_and_then (function_out w s st) (function_at w s x))
con_applied_fits w s st x h = then_any _ (λ f. function_fits w s st f h)

-- ---- constructors of datatypes

plain_fits : {t : Schema} (d n : ℕ) (st : Sites) (a : Option NormalType) → SitesFit t st → Brings (OutFits t) (plain_tag d n st a)
plain_fits d n st None h = some_brings h
plain_fits d n st (Some u) h = none_brings

tagged_fits : {t : Schema} (w : World) (st : Sites) (n : ℕ) → SitesFit t st → Brings (OutFits t) (tagged_out w st n)
tagged_fits w st n h = then_any (slice_get w.declared.variants n) (λ v. plain_fits v.0 n st v.1 h)

absent_fits : {t : Schema} (st : Sites) (m : Mode) → SitesFit t st → Brings (OutFits t) (absent_out st m)
absent_fits st finds h = none_brings
absent_fits st (wants u) h = if_brings _ (some_brings h)

pub empty_fits : {t : Schema} (st : Sites) (m : Mode) → SitesFit t st → Brings (OutFits t) (empty_out st m)
empty_fits st finds h = none_brings
empty_fits st (wants u) h = if_brings _ (some_brings h)

capital_fits : {t : Schema} (w : World) (st : Sites) (m : Mode) (n : Option ℕ) (c : Capital) → SitesFit t st → Brings (OutFits t) (by_capital w st m n c)
capital_fits w st m n says_true h = some_brings h
capital_fits w st m n says_false h = some_brings h
capital_fits w st m n says_none h = absent_fits st m h
capital_fits w st m n says_other h = then_any n (λ k. tagged_fits w st k h)

pub constructor_fits : {t : Schema} (w : World) (st : Sites) (m : Mode) (x : List ℕ) → SitesFit t st → Brings (OutFits t) (constructor_out w st m x)
constructor_fits w st m x h = capital_fits w st m _ (capital_of x) h

pub member_constructor_fits : {t : Schema} (w : World) (st : Sites) (m x : List ℕ) → SitesFit t st → Brings (OutFits t) (member_constructor_out w st m x)
member_constructor_fits w st m x h = then_any _ (λ k. tagged_fits w st k h)

-- ---- what is applied

pub args_fit : {t : Schema} (s : Scope) (fs : List Walk) → WalksFit t fs → (us : List NormalType) (st : Sites) → SitesFit t st → Brings (ArgsFit t) (args_out s fs us st)
args_fit s _ no_walks [] st h = some_brings h
args_fit s _ no_walks (u ∷ us) st h = none_brings
args_fit s _ (one_walk k ks) [] st h = none_brings
args_fit s _ (one_walk {fs = fs} k ks) (u ∷ us) st h = then_brings (k.on s st (wants u) h) (λ o i. map_brings (with_first o.exp) (args_fit s fs ks us o.sites i) (λ r j. j))

call_fits_with : {t : Schema} (w : World) (s : Scope) (st : Sites) (fs : List Walk) → WalksFit t fs → (f : ℕ × List Normal) (x : Head) → SitesFit t st → Brings (OutFits t) (call_out w s st fs f x)
call_fits_with w s st fs k f x h = if_brings (are_arguments s.env x.cons f.1 && nat_le (type_nodes (instance_type f.1 (function_type x))) w.most) (then_brings (args_fit s fs k (map (λ p. instance_type f.1 p.of) x.params) st h) (λ r i. if_brings (are_static_at x.params r.0.1) (some_brings i)))

call_fits : {t : Schema} (w : World) (s : Scope) (st : Sites) (fs : List Walk) → WalksFit t fs → (f : ℕ × List Normal) → SitesFit t st → Brings (OutFits t) (named_call w s st fs f)
call_fits w s st fs k f h = then_any (slice_get w.declared.functions f.0) (λ x. call_fits_with w s st fs k f x h)

built_fits : {t : Schema} (w : World) (s : Scope) (st : Sites) (fs : List Walk) → WalksFit t fs → (n : ℕ) → SitesFit t st → Brings (OutFits t) (built w s st fs n)
built_fits w s st _ no_walks n h = none_brings
built_fits w s st _ (one_walk k no_walks) n h = then_any (option_and_then with_type (slice_get w.declared.variants n)) (λ v. then_brings (k.on s st _ h) (λ o i. some_brings i))
built_fits w s st _ (one_walk k (one_walk l ks)) n h = none_brings

head_fits : {t : Schema} (w : World) (s : Scope) (st : Sites) (a : Walk) (fs : List Walk) (b : Bool) (f : Option (ℕ × List Normal)) (n : Option ℕ) → WalkFits t a → WalksFit t fs → SitesFit t st → Brings (OutFits t) (by_head w s st a fs b f n)
head_fits w s st a fs b (Some f) n k ks h = call_fits w s st fs ks f h
head_fits w s st a fs b None (Some n) k ks h = built_fits w s st fs ks n h
head_fits w s st a fs true None None k ks h = then_brings (k.on s st finds h) (λ o i. then_brings (args_fit s fs ks _ o.sites i) (λ r j. some_brings j))
head_fits w s st a fs false None None k ks h = none_brings

pub applied_fits : {t : Schema} (w : World) (s : Scope) (st : Sites) (x : ExpForm) (a : Walk) (fs : List Walk) → WalkFits t a → WalksFit t fs → SitesFit t st → Brings (OutFits t) (applied w s st x a fs)
applied_fits w s st x a fs k ks h = head_fits w s st a fs (is_head x) (function_at w s x) (tag_named w x) k ks h

-- ---- one side and two sides

pub one_fits : {t : Schema} (op : Unary) (u v : NormalType) (s : Scope) (st : Sites) (a : Walk) → WalkFits t a → SitesFit t st → Brings (OutFits t) (one_out op u v s st a)
one_fits op u v s st a k h = then_brings (k.on s st (wants u) h) (λ o i. some_brings i)

pub show_fits : {t : Schema} (s : Scope) (st : Sites) (a : Walk) → WalkFits t a → SitesFit t st → Brings (OutFits t) (show_out s st a)
show_fits s st a k h = then_brings (k.on s st finds h) (λ o i. if_brings _ (some_brings i))

pub some_fits : {t : Schema} (s : Scope) (st : Sites) (m : Mode) (a : Walk) → WalkFits t a → SitesFit t st → Brings (OutFits t) (some_out s st m a)
some_fits s st m a k h = then_brings (k.on s st _ h) (λ o i. some_brings i)

pub return_fits : {t : Schema} (s : Scope) (st : Sites) (m : Mode) (a : Walk) → WalkFits t a → SitesFit t st → Brings (OutFits t) (return_out s st m a)
return_fits s st m a k h = then_brings (k.on s st _ h) (λ o i. some_brings i)

pub error_fits : {t : Schema} (s : Scope) (st : Sites) (m : Mode) (a : Walk) → WalkFits t a → SitesFit t st → Brings (OutFits t) (error_out s st m a)
error_fits s st finds a k h = none_brings
error_fits s st (wants u) a k h = then_brings (k.on s st _ h) (λ o i. some_brings i)

pub sides_fit : {t : Schema} (op : Binary) (s : Scope) (st : Sites) (m : Mode) (a b : Walk) → WalkFits t a → WalkFits t b → SitesFit t st → Brings (OutFits t) (sides_out op s st m a b)
sides_fit op s st m a b k l h = then_brings (k.on s st _ h) (λ x i. if_brings _ (then_brings (l.on s x.sites _ i) (λ y j. then_any _ (λ u. some_brings j))))

-- ---- branches, bindings, lambdas

pub choice_fits : {t : Schema} (s : Scope) (st : Sites) (m : Mode) (a b c : Walk) → WalkFits t a → WalkFits t b → WalkFits t c → SitesFit t st → Brings (OutFits t) (if_out s st m a b c)
choice_fits s st m a b c k l n h = then_brings (k.on s st _ h) (λ x i. then_brings (l.on s x.sites m i) (λ y j. then_brings (n.on s y.sites _ j) (λ z g. some_brings g)))

pub no_branches_fit : {t : Schema} (st : Sites) (m : Mode) → SitesFit t st → Brings (BranchesFit t) (no_branches st m)
no_branches_fit st finds h = none_brings
no_branches_fit st (wants u) h = some_brings h

pub branch_fits : {t : Schema} (w : World) (s : Scope) (u : NormalType) (st : Sites) (m : Mode) (p : PatForm) (a : Walk) (r : Sites → Mode → Option Branches) → WalkFits t a → ((su : Sites) (n : Mode) → SitesFit t su → Brings (BranchesFit t) (r su n)) → SitesFit t st → Brings (BranchesFit t) (branch_out w s u st m p a r)
branch_fits w s u st m p a r k l h = then_any (pattern_of w.globals p) (λ q. if_brings (are_distinct q.0) (then_any (bound_in w u q) (λ bound. then_brings (k.on (within_branch q.0 bound s) st m h) (λ o i. map_brings (with_branch q.1 o) (l o.sites (wants o.of) i) (λ b j. j)))))

pub case_fits : {t : Schema} (w : World) (s : Scope) (st : Sites) (m : Mode) (a : Walk) (r : NormalType → Sites → Mode → Option Branches) → WalkFits t a → ((u : NormalType) (su : Sites) (n : Mode) → SitesFit t su → Brings (BranchesFit t) (r u su n)) → SitesFit t st → Brings (OutFits t) (case_out w s st m a r)
case_fits w s st m a r k l h = then_brings (k.on s st finds h) (λ x i. then_brings (l x.of x.sites m i) (λ b j. if_brings _ (some_brings j)))

pub let_fits : {t : Schema} (w : World) (s : Scope) (st : Sites) (m : Mode) (x : List ℕ) (c : Con) (a r : Walk) → WalkFits t a → WalkFits t r → SitesFit t st → Brings (OutFits t) (let_out w s st m x c a r)
let_fits w s st m x c a r k l h = then_any (written_type w s c) (λ u. if_brings (is_value_type u) (then_brings (k.on s st (wants u) h) (λ o i. then_brings (l.on (within_binder (binder.Named x) u s) o.sites m i) (λ b j. some_brings j))))

pub bind_fits : {t : Schema} (s : Scope) (st : Sites) (m : Mode) (x : Binder) (a b : Walk) → WalkFits t a → WalkFits t b → SitesFit t st → Brings (OutFits t) (bind_out s st m x a b)
bind_fits s st m x a b k l h = then_brings (k.on s st _ h) (λ o i. then_any _ (λ u. then_brings (l.on _ o.sites m i) (λ z j. then_any _ (λ v. some_brings j))))

pub lambda_fits : {t : Schema} (w : World) (s : Scope) (st : Sites) (m : Mode) (ps : List LambdaParam) (a : Walk) → WalkFits t a → SitesFit t st → Brings (OutFits t) (lambda_out w s st m ps a)
lambda_fits w s st m ps a k h =
    then_any (params_out w.most s.names ps) (λ p. if_brings (are_distinct p.0 && are_params s.env p.1) (then_brings (k.on (within_params p.0 p.1 s) st (of_result p.1 m) h) (λ o i. if_brings (not (holds_arrow o.of)) (some_brings i))))

-- ---- records

pub field_fits : {t : Schema} (s : Scope) (st : Sites) (m : Mode) (f : FieldName) (a : Walk) (r : Sites → Option Fields) → WalkFits t a → ((su : Sites) → SitesFit t su → Brings (FieldsFit t) (r su)) → SitesFit t st → Brings (FieldsFit t) (field_out s st m f a r)
field_fits s st m f a r k l h = if_brings (label_is_in (variables s.env) (label_at s f)) (then_brings (k.on s st (of_field (label_at s f) m) h) (λ o i. map_brings (with_field (label_at s f) o) (l o.sites i) (λ x j. j)))

pub record_fits : {t : Schema} (s : Scope) (r : Option Fields) → Brings (FieldsFit t) r → Brings (OutFits t) (record_out s r)
record_fits s r k = then_brings k (λ x i. if_brings _ (some_brings i))

pub project_fits : {t : Schema} (s : Scope) (st : Sites) (f : FieldName) (a : Walk) → WalkFits t a → SitesFit t st → Brings (OutFits t) (project_out s st f a)
project_fits s st f a k h = then_brings (k.on s st finds h) (λ o i. then_any (row_of o.of) (λ r. then_any (field_type (label_at s f) r) (λ u. some_brings i)))

pub cut_fits : {t : Schema} (s : Scope) (st : Sites) (f : FieldName) (a : Walk) → WalkFits t a → SitesFit t st → Brings (OutFits t) (cut_out s st f a)
cut_fits s st f a k h = then_brings (k.on s st finds h) (λ o i. then_any (row_of o.of) (λ r. then_any (field_type (label_at s f) r) (λ u. some_brings i)))

-- ---- folds

pub step_brings : {t : Schema} (w : World) (s : Scope) (st : Sites) (of : NormalType) (ps : List LambdaParam) (a : Walk) → WalkFits t a → SitesFit t st → Brings (StepFits t) (step_out w s st of ps a)
step_brings w s st of ps a k h = then_any (step_of w s ps) (λ p. if_brings (step_fits s of p) (then_brings (k.on p.0 st (wants (at_row of (step_row s.env))) h) (λ o i. some_brings i)))

pub fold_fits : {t : Schema} (w : World) (s : Scope) (st : Sites) (f r : Con) (a : NormalType → Option (Param × Out)) (b : Walk) → ((u : NormalType) → Brings (StepFits t) (a u)) → WalkFits t b → Brings (OutFits t) (fold_out w s st f r a b)
fold_fits w s st f r a b k l = then_any _ (λ u. then_brings (k u.0) (λ p i. then_brings (l.on s p.1.sites _ i) (λ o j. some_brings j)))

-- ---- what runs

pub next_fits : {t : Schema} (w : World) (st : Sites) (x : DeclName) → SitesFit t st → Brings (OutFits t) (next_out w st x)
next_fits w st x h = then_any (declared w.globals (name_of x) w.globals.sequences) (λ n. if_brings (nat_lt n w.declared.sequences) (some_brings h))

pub get_cookie_fits : {t : Schema} (w : World) (st : Sites) (x : DeclName) → SitesFit t st → Brings (OutFits t) (get_cookie_out w st x)
get_cookie_fits w st x h = then_any _ (λ c. some_brings h)

pub set_cookie_fits : {t : Schema} (w : World) (st : Sites) (x : DeclName) (a : Sites → Mode → Option Out) → ((su : Sites) (m : Mode) → SitesFit t su → Brings (OutFits t) (a su m)) → SitesFit t st → Brings (OutFits t) (set_cookie_out w st x a)
set_cookie_fits w st x a k h = then_any _ (λ c. then_brings (k st _ h) (λ o i. some_brings i))

-- ---- statements

-- a new place in which nothing stands yet
query_slot_fits : {t : Schema} {st : Sites} → SitesFit t st → SitesFit t (with_query_slot st)
query_slot_fits {t = t} {st = st} h = record { queries = All-push (λ q. IfSome q (QueryFits t)) st.queries None h.queries tt; changes = h.changes }

change_slot_fits : {t : Schema} {st : Sites} → SitesFit t st → SitesFit t (with_change_slot st)
change_slot_fits {t = t} {st = st} h = record { queries = h.queries; changes = All-push (λ u. IfSome u (ChangeFits t)) st.changes None h.changes tt }

query_fits_there : {t : Schema} {st : Sites} (n : ℕ) (q : Query) → QueryFits t q → SitesFit t st → SitesFit t (with_query n q st)
query_fits_there {t = t} {st = st} n q k h = record { queries = All-set (λ p. IfSome p (QueryFits t)) st.queries n (Some q) k h.queries; changes = h.changes }

change_fits_there : {t : Schema} {st : Sites} (n : ℕ) (u : Change) → ChangeFits t u → SitesFit t st → SitesFit t (with_change n u st)
change_fits_there {t = t} {st = st} n u k h = record { queries = h.queries; changes = All-set (λ v. IfSome v (ChangeFits t)) st.changes n (Some u) k h.changes }

query_at_fits : QueryOfFits → (w : World) (q : SqlQuery) (a : Antiquotes) (d : Query) → query_at w q a ≡ Some d → QueryFits w.globals.tables d
query_at_fits f w q a d h =
    let i = opened (λ (kinds : List ColumnKind). query_of w.globals.home w.globals.tables w.fields kinds q) (all_of column_type_kind a.types) d h in f
    w.globals.home w.globals.tables w.fields i.0 q d i.2

change_at_fits : ChangeOfFits → (w : World) (u : SqlChange) (a : Antiquotes) (d : Change) → change_at w u a ≡ Some d → ChangeFits w.globals.tables d
change_at_fits f w u a d h =
    let i = opened (λ (kinds : List ColumnKind). change_of w.globals.home w.globals.tables kinds u) (all_of column_type_kind a.types) d h in f
    w.globals.home w.globals.tables i.0 u d i.2

pub antiquote_fits : {t : Schema} (s : Scope) (st : Sites) (a : Walk) (r : Sites → Option Antiquotes) → WalkFits t a → ((su : Sites) → SitesFit t su → Brings (AntiquotesFit t) (r su)) → SitesFit t st → Brings (AntiquotesFit t) (antiquote_out s st a r)
antiquote_fits s st a r k l h = then_brings (k.on s st finds h) (λ o i. map_brings (with_antiquote o) (l o.sites i) (λ x j. j))

pub write_fits : ChangeOfFits → (w : World) (st : Sites) (u : SqlChange) (a : Sites → Option Antiquotes) → ((su : Sites) → SitesFit w.globals.tables su → Brings (AntiquotesFit w.globals.tables) (a su)) → SitesFit w.globals.tables st → Brings (OutFits w.globals.tables) (write_out w st u a)
write_fits f w st u a k h = then_brings (k (with_change_slot st) (change_slot_fits h)) (λ x i. then_known (change_at w u x) (λ d e. some_brings (change_fits_there (length st.changes) d (change_at_fits f w u x d e) i)))

pub ask_fits : QueryOfFits → (w : World) (st : Sites) (how : QueryWord) (q : SqlQuery) (a : Sites → Option Antiquotes) → ((su : Sites) → SitesFit w.globals.tables su → Brings (AntiquotesFit w.globals.tables) (a su)) → SitesFit w.globals.tables st → Brings (OutFits w.globals.tables) (ask_out w st how q a)
ask_fits f w st how q a k h = then_brings (k (with_query_slot st) (query_slot_fits h)) (λ x i. then_known (query_at w q x) (λ d e. some_brings (query_fits_there (length st.queries) d (query_at_fits f w q x d e) i)))

pub each_fits : QueryOfFits → (w : World) (st : Sites) (m : Mode) (q : SqlQuery) (a : Sites → Option Antiquotes) (r : List Part → Sites → Mode → Option Out) → ((su : Sites) → SitesFit w.globals.tables su → Brings (AntiquotesFit w.globals.tables) (a su)) →
    ((p : List Part) (su : Sites) (n : Mode) → SitesFit w.globals.tables su → Brings (OutFits w.globals.tables) (r p su n)) → SitesFit w.globals.tables st → Brings (OutFits w.globals.tables) (each_out w st m q a r)
each_fits f w st m q a r k l h =
    then_brings (k (with_query_slot st) (query_slot_fits h)) (λ x i. then_known (query_at w q x) (λ d e. then_brings (l _ _ _ (query_fits_there (length st.queries) d (query_at_fits f w q x d e) i)) (λ o j. then_any _ (λ u. some_brings j))))

pub row_fits : {t : Schema} (w : World) (s : Scope) (r : List Part) (ps : List LambdaParam) (a : Walk) (st : Sites) (m : Mode) → WalkFits t a → SitesFit t st → Brings (OutFits t) (row_body w s r ps a st m)
row_fits w s r ps a st m k h = then_any _ (λ x. k.on _ st m h)
