-- What expressions do with constructors, in reading order.
use Rattle.std.specs.Prelude.{ℕ, List, [], ◌∷◌, ◌++◌, flat_map, map, Option, Some, None, slice_get}
use Rattle.ur_base.specs.declared.refusal.Span.{Span}
use Rattle.ur_syntax.specs.declared.con.FieldName.{FieldName}
use Rattle.ur_syntax.specs.declared.con.FieldName.TheVariants as field_name
use Rattle.ur_syntax.specs.declared.con.ConParam.{ConParam}
use Rattle.ur_syntax.specs.declared.con.ConParam.TheVariants as con_param
use Rattle.ur_syntax.specs.declared.exp.Binder.{Binder}
use Rattle.ur_syntax.specs.declared.exp.Binder.TheVariants as binder
use Rattle.ur_syntax.specs.declared.exp.Param.{Param}
use Rattle.ur_syntax.specs.declared.exp.Param.TheVariants as param
use Rattle.ur_syntax.specs.declared.exp.LambdaParam.{LambdaParam}
use Rattle.ur_syntax.specs.declared.exp.LambdaParam.TheVariants as lambda_param
use Rattle.ur_syntax.specs.declared.exp.Argument.{Argument}
use Rattle.ur_syntax.specs.declared.exp.Argument.TheVariants as arguments
use Rattle.ur_syntax.specs.declared.exp.PatForm.{PatForm}
use Rattle.ur_syntax.specs.declared.exp.PatForm.TheVariants as pat
use Rattle.ur_syntax.specs.declared.exp.Exp.{Exp}
use Rattle.ur_syntax.specs.declared.exp.Branch.{Branch}
use Rattle.ur_syntax.specs.declared.exp.Field.{Field}
use Rattle.ur_syntax.specs.declared.exp.LetVal.{LetVal}
use Rattle.ur_syntax.specs.declared.exp.ExpForm.{ExpForm, Row_of-Exp, end_of-Exp as alone, more_of-Exp as its, Row_of-Field, end_of-Field, more_of-Field, Row_of-Branch, end_of-Branch, more_of-Branch, Row_of-LetVal, end_of-LetVal, more_of-LetVal}
use Rattle.ur_syntax.specs.declared.exp.ExpForm.TheVariants as e
use Rattle.ur_names.specs.declared.event.Sort.{Sort}
use Rattle.ur_names.specs.declared.event.Sort.TheVariants as sort
use Rattle.ur_names.specs.declared.event.Mark.{Mark}
use Rattle.ur_names.specs.declared.event.Mark.TheVariants as mark
use Rattle.ur_names.specs.Skeletons.{in_query, in_change, in_xml_part}
use Rattle.ur_kinds.specs.Acts.{Act, open_scope, close_scope, variable, local, plain, argument, label, type_at, row_at, fold_at}

abbrev pub in_label : Span → FieldName → List Act
in_label p (field_name.Literal a) = []
in_label p (field_name.Variable x) = label p x ∷ []

-- a parameter `[x :: kind]`, whose kind is no arrow, or `[con ~ con]` of two rows
abbrev pub in_con_param : Span → ConParam → List Act
in_con_param p (con_param.Kinded x k) = (plain p k ∷ []) ++ variable x k ∷ []
in_con_param p (con_param.Disjoint c d) = (row_at c ∷ []) ++ row_at d ∷ []

abbrev pub in_binder : Binder → List Act
in_binder binder.Ignored = []
in_binder (binder.Named x) = local x ∷ []

abbrev pub in_param : Param → List Act
in_param (param.Value x c) = in_binder x ++ type_at c ∷ []
in_param param.Unit = []

abbrev pub in_lambda_param : Span → LambdaParam → List Act
in_lambda_param p (lambda_param.Typed q) = in_param q
in_lambda_param p (lambda_param.Con q) = in_con_param p q
in_lambda_param p (lambda_param.Bare x) = in_binder x

abbrev pub in_argument : Argument → List Act
in_argument arguments.Absent = []
in_argument (arguments.Bound x) = in_binder x

abbrev pub in_pat : PatForm → List Act
in_pat (pat.Var x) = local x ∷ []
in_pat (pat.Some x) = in_binder x
in_pat (pat.Cons x y) = in_binder x ++ in_binder y
in_pat (pat.Constructor x y) = in_argument y
in_pat (pat.Member m x y) = in_argument y
in_pat _ = []

-- what the expression of this number does, where there is one
abbrev pub if_given : Option (List Act) → List Act
if_given None = []
if_given (Some es) = es

-- the name variable of a tag is a constructor; the other names of a text are none
abbrev pub in_use : Sort → Span → List ℕ → List Act
in_use sort.Con p x = label p x ∷ []
in_use s p x = []

-- a mark in a text, beside which stand splices and expressions of attributes
abbrev pub at_mark : List (List Act) → List (List Act) → Mark → List Act
at_mark splices attributes (mark.Own s p x) = in_use s p x
at_mark splices attributes (mark.Member s p m x) = []
at_mark splices attributes (mark.Splice n) = if_given (slice_get splices n)
at_mark splices attributes (mark.Attribute n) = if_given (slice_get attributes n)

abbrev pub at_marks : List (List Act) → List (List Act) → List Mark → List Act
at_marks splices attributes marks = flat_map (at_mark splices attributes) marks

abbrev mutual
  pub in_exp : Span → ExpForm → List Act
  in_exp p (e.Bind' x _ (its q a alone) _ (its r b alone)) = in_exp q a ++ (open_scope ∷ []) ++ in_binder x ++ in_exp r b ++ close_scope ∷ []
  in_exp p (e.Seq' _ (its q a alone) _ (its r b alone)) = in_exp q a ++ in_exp r b
  in_exp p (e.If' _ (its q a alone) _ (its r b alone) _ (its s c alone)) = in_exp q a ++ in_exp r b ++ in_exp s c
  in_exp p (e.Lambda' params _ (its q a alone)) = (open_scope ∷ []) ++ flat_map (in_lambda_param p) params ++ in_exp q a ++ close_scope ∷ []
  in_exp p (e.Case' _ (its q a alone) _ branches) = in_exp q a ++ in_branches branches
  in_exp p (e.Binary' o _ (its q a alone) _ (its r b alone)) = in_exp q a ++ in_exp r b
  in_exp p (e.Remove' _ (its q a alone) gone) = in_exp q a ++ in_label gone.span gone.name
  in_exp p (e.Negative' _ (its q a alone)) = in_exp q a
  in_exp p (e.App' _ (its q a alone) _ (its r b alone)) = in_exp q a ++ in_exp r b
  in_exp p (e.ConApp' _ (its q a alone) c) = in_exp q a ++ argument a c ∷ []
  in_exp p (e.Project' _ (its q a alone) x) = in_exp q a ++ in_label p x
  in_exp p (e.Int n) = []
  in_exp p (e.Str s) = []
  in_exp p (e.Var x) = []
  in_exp p (e.Constructor x) = []
  in_exp p (e.Member m x) = []
  in_exp p (e.MemberConstructor m x) = []
  in_exp p e.Unit = []
  in_exp p (e.Record' _ fields) = in_record p fields
  in_exp p e.Nil = []
  in_exp p (e.Xml' x _ splices _ attributes) = at_marks (each splices) (each attributes) (flat_map in_xml_part x.parts)
  in_exp p (e.Let' _ vals _ (its q a alone)) = (open_scope ∷ []) ++ in_vals vals ++ in_exp q a ++ close_scope ∷ []
  in_exp p (e.Return' _ (its q a alone)) = in_exp q a
  in_exp p (e.Show' _ (its q a alone)) = in_exp q a
  in_exp p (e.Not' _ (its q a alone)) = in_exp q a
  in_exp p (e.Error' _ (its q a alone)) = in_exp q a
  in_exp p (e.Some' _ (its q a alone)) = in_exp q a
  in_exp p (e.Nextval x) = []
  in_exp p (e.GetCookie x) = []
  in_exp p (e.SetCookie' x _ (its q a alone)) = in_exp q a
  in_exp p (e.Dml' c _ antiquotes) = at_marks (each antiquotes) [] (in_change c)
  in_exp p (e.Query' w q _ antiquotes) = at_marks (each antiquotes) [] (in_query q)
  in_exp p (e.QueryX' q _ antiquotes _ (its r a alone)) = at_marks (each antiquotes) [] (in_query q) ++ in_exp r a
  in_exp p (e.Fold' c _ (its q a alone) _ (its r b alone) d) = (fold_at c ∷ []) ++ in_exp q a ++ in_exp r b ++ row_at d ∷ []

  -- the acts of each expression of a list
  pub each : {n : _} → Row_of-Exp n → List (List Act)
  each alone = []
  each (its q a rest) = in_exp q a ∷ each rest

  pub in_record : {n : _} → Span → Row_of-Field n → List Act
  in_record p end_of-Field = []
  in_record p (more_of-Field x q a rest) = (in_label p x ++ in_exp q a) ++ in_record p rest

  -- a branch is a scope
  pub in_branches : {n : _} → Row_of-Branch n → List Act
  in_branches end_of-Branch = []
  in_branches (more_of-Branch x q a rest) = ((open_scope ∷ []) ++ in_pat x.form ++ in_exp q a ++ close_scope ∷ []) ++ in_branches rest

  -- each value is in scope behind it
  pub in_vals : {n : _} → Row_of-LetVal n → List Act
  in_vals end_of-LetVal = []
  in_vals (more_of-LetVal s x c q a rest) = ((type_at c ∷ []) ++ in_exp q a ++ local x ∷ []) ++ in_vals rest

abbrev pub in_written_exp : Exp → List Act
in_written_exp x = in_exp x.span x.form

abbrev pub in_field : Span → Field → List Act
in_field p f = in_label p f.name ++ in_written_exp f.value

abbrev pub in_branch : Branch → List Act
in_branch b = (open_scope ∷ []) ++ in_pat b.pat.form ++ in_written_exp b.body ++ close_scope ∷ []

abbrev pub in_let : LetVal → List Act
in_let v = (type_at v.con ∷ []) ++ in_written_exp v.value ++ local v.name ∷ []

-- the acts of the expressions beside a text
abbrev pub each_of : List Exp → List (List Act)
each_of es = map in_written_exp es
