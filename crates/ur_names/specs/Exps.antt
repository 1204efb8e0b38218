-- What expressions do with names, in reading order.
use Rattle.std.specs.Prelude.{ℕ, Bool, List, [], ◌∷◌, ◌++◌, flat_map, map, Option, Some, None, codes, bytes_eq, slice_get, ◌||◌, if◌then◌else◌}
use Rattle.ur_base.specs.declared.refusal.Span.{Span}
use Rattle.ur_syntax.specs.declared.exp.Binder.{Binder}
use Rattle.ur_syntax.specs.declared.exp.Binder.TheVariants as binder
use Rattle.ur_syntax.specs.declared.exp.Param.{Param}
use Rattle.ur_syntax.specs.declared.exp.Param.TheVariants as param
use Rattle.ur_syntax.specs.declared.exp.LambdaParam.{LambdaParam}
use Rattle.ur_syntax.specs.declared.exp.LambdaParam.TheVariants as lambda_param
use Rattle.ur_syntax.specs.declared.exp.Argument.{Argument}
use Rattle.ur_syntax.specs.declared.exp.Argument.TheVariants as argument
use Rattle.ur_syntax.specs.declared.exp.Pat.{Pat}
use Rattle.ur_syntax.specs.declared.exp.PatForm.{PatForm}
use Rattle.ur_syntax.specs.declared.exp.PatForm.TheVariants as pat
use Rattle.ur_syntax.specs.declared.exp.Exp.{Exp}
use Rattle.ur_syntax.specs.declared.exp.Branch.{Branch}
use Rattle.ur_syntax.specs.declared.exp.Field.{Field}
use Rattle.ur_syntax.specs.declared.exp.LetVal.{LetVal}
use Rattle.ur_syntax.specs.declared.exp.ExpForm.{ExpForm, Row_of-Exp, end_of-Exp as alone, more_of-Exp as its, Row_of-Field, end_of-Field, more_of-Field, Row_of-Branch, end_of-Branch, more_of-Branch, Row_of-LetVal, end_of-LetVal, more_of-LetVal}
use Rattle.ur_syntax.specs.declared.exp.ExpForm.TheVariants as e
use Rattle.ur_names.specs.declared.event.Sort.TheVariants as sort
use Rattle.ur_names.specs.declared.event.Event.{Event}
use Rattle.ur_names.specs.declared.event.Event.TheVariants as event
use Rattle.ur_names.specs.declared.event.Mark.{Mark}
use Rattle.ur_names.specs.declared.event.Mark.TheVariants as mark
use Rattle.ur_names.specs.Cons.{in_label, in_written, in_con_param}
use Rattle.ur_names.specs.Skeletons.{in_name, in_query, in_change, in_xml_part}

-- a variable that may hide any
abbrev pub in_binder : Binder → List Event
in_binder binder.Ignored = []
in_binder (binder.Named x) = event.Bind sort.Value x ∷ []

-- a variable that stands once among its like
abbrev pub in_new : Span → Binder → List Event
in_new p binder.Ignored = []
in_new p (binder.Named x) = (event.New sort.Value p x ∷ []) ++ event.Bind sort.Value x ∷ []

abbrev pub in_param : Span → Param → List Event
in_param p (param.Value x c) = in_new p x ++ in_written c
in_param p param.Unit = []

abbrev pub in_lambda_param : Span → LambdaParam → List Event
in_lambda_param p (lambda_param.Typed q) = in_param p q
in_lambda_param p (lambda_param.Con q) = in_con_param p q
in_lambda_param p (lambda_param.Bare x) = in_new p x

abbrev pub in_argument : Span → Argument → List Event
in_argument p argument.Absent = []
in_argument p (argument.Bound x) = in_new p x

abbrev pub in_pat_form : Span → PatForm → List Event
in_pat_form p (pat.Var x) = (event.New sort.Value p x ∷ []) ++ event.Bind sort.Value x ∷ []
in_pat_form p (pat.Some x) = in_new p x
in_pat_form p (pat.Cons x y) = in_new p x ++ in_new p y
in_pat_form p (pat.Constructor x y) = (event.Own sort.Constructor p x ∷ []) ++ in_argument p y
in_pat_form p (pat.Member m x y) = (event.Member sort.Constructor p m x ∷ []) ++ in_argument p y
in_pat_form p _ = []

abbrev pub in_pat : Pat → List Event
in_pat p = in_pat_form p.span p.form

-- the words that are constants, and no constructors of a datatype
abbrev pub is_constant : List ℕ → Bool
is_constant x = bytes_eq x (codes "True") || (bytes_eq x (codes "False") || bytes_eq x (codes "None"))

abbrev pub in_constructor : Span → List ℕ → List Event
in_constructor p x = if is_constant x then [] else event.Own sort.Constructor p x ∷ []

-- what the expression of this number does, where there is one
abbrev pub if_given : Option (List Event) → List Event
if_given None = []
if_given (Some es) = es

-- a mark in a text, beside which stand splices and expressions of attributes
abbrev pub at_mark : List (List Event) → List (List Event) → Mark → List Event
at_mark splices attributes (mark.Own s p x) = event.Own s p x ∷ []
at_mark splices attributes (mark.Member s p m x) = event.Member s p m x ∷ []
at_mark splices attributes (mark.Splice n) = if_given (slice_get splices n)
at_mark splices attributes (mark.Attribute n) = if_given (slice_get attributes n)

abbrev pub at_marks : List (List Event) → List (List Event) → List Mark → List Event
at_marks splices attributes marks = flat_map (at_mark splices attributes) marks

abbrev mutual
  pub in_exp : Span → ExpForm → List Event
  in_exp p (e.Bind' x _ (its q a alone) _ (its r b alone)) = in_exp q a ++ (event.Open ∷ []) ++ in_binder x ++ in_exp r b ++ event.Close ∷ []
  in_exp p (e.Seq' _ (its q a alone) _ (its r b alone)) = in_exp q a ++ in_exp r b
  in_exp p (e.If' _ (its q a alone) _ (its r b alone) _ (its s c alone)) = in_exp q a ++ in_exp r b ++ in_exp s c
  in_exp p (e.Lambda' params _ (its q a alone)) = (event.Open ∷ []) ++ flat_map (in_lambda_param p) params ++ in_exp q a ++ event.Close ∷ []
  in_exp p (e.Case' _ (its q a alone) _ branches) = in_exp q a ++ in_branches branches
  in_exp p (e.Binary' o _ (its q a alone) _ (its r b alone)) = in_exp q a ++ in_exp r b
  in_exp p (e.Remove' _ (its q a alone) gone) = in_exp q a ++ in_label gone.span gone.name
  in_exp p (e.Negative' _ (its q a alone)) = in_exp q a
  in_exp p (e.App' _ (its q a alone) _ (its r b alone)) = in_exp q a ++ in_exp r b
  in_exp p (e.ConApp' _ (its q a alone) c) = in_exp q a ++ in_written c
  in_exp p (e.Project' _ (its q a alone) x) = in_exp q a ++ in_label p x
  in_exp p (e.Int n) = []
  in_exp p (e.Str s) = []
  in_exp p (e.Var x) = event.Own sort.Value p x ∷ []
  in_exp p (e.Constructor x) = in_constructor p x
  in_exp p (e.Member m x) = event.Member sort.Value p m x ∷ []
  in_exp p (e.MemberConstructor m x) = event.Member sort.Constructor p m x ∷ []
  in_exp p e.Unit = []
  in_exp p (e.Record' _ fields) = in_record p fields
  in_exp p e.Nil = []
  in_exp p (e.Xml' x _ splices _ attributes) = at_marks (each splices) (each attributes) (flat_map in_xml_part x.parts)
  in_exp p (e.Let' _ vals _ (its q a alone)) = (event.Open ∷ []) ++ in_vals vals ++ in_exp q a ++ event.Close ∷ []
  in_exp p (e.Return' _ (its q a alone)) = in_exp q a
  in_exp p (e.Show' _ (its q a alone)) = in_exp q a
  in_exp p (e.Not' _ (its q a alone)) = in_exp q a
  in_exp p (e.Error' _ (its q a alone)) = in_exp q a
  in_exp p (e.Some' _ (its q a alone)) = in_exp q a
  in_exp p (e.Nextval x) = in_name sort.Sequence x ∷ []
  in_exp p (e.GetCookie x) = in_name sort.Cookie x ∷ []
  in_exp p (e.SetCookie' x _ (its q a alone)) = (in_name sort.Cookie x ∷ []) ++ in_exp q a
  in_exp p (e.Dml' c _ antiquotes) = at_marks (each antiquotes) [] (in_change c)
  in_exp p (e.Query' w q _ antiquotes) = at_marks (each antiquotes) [] (in_query q)
  in_exp p (e.QueryX' q _ antiquotes _ (its r a alone)) = at_marks (each antiquotes) [] (in_query q) ++ in_exp r a
  in_exp p (e.Fold' c _ (its q a alone) _ (its r b alone) d) = in_written c ++ in_exp q a ++ in_exp r b ++ in_written d

  -- the events of each expression of a list
  pub each : {n : _} → Row_of-Exp n → List (List Event)
  each alone = []
  each (its q a rest) = in_exp q a ∷ each rest

  pub in_record : {n : _} → Span → Row_of-Field n → List Event
  in_record p end_of-Field = []
  in_record p (more_of-Field x q a rest) = (in_label p x ++ in_exp q a) ++ in_record p rest

  -- a branch is a scope
  pub in_branches : {n : _} → Row_of-Branch n → List Event
  in_branches end_of-Branch = []
  in_branches (more_of-Branch x q a rest) = ((event.Open ∷ []) ++ in_pat x ++ in_exp q a ++ event.Close ∷ []) ++ in_branches rest

  -- each value is in scope behind it, and may hide one before it
  pub in_vals : {n : _} → Row_of-LetVal n → List Event
  in_vals end_of-LetVal = []
  in_vals (more_of-LetVal s x c q a rest) = (in_written c ++ in_exp q a ++ event.Bind sort.Value x ∷ []) ++ in_vals rest

abbrev pub in_written_exp : Exp → List Event
in_written_exp x = in_exp x.span x.form

abbrev pub in_field : Span → Field → List Event
in_field p f = in_label p f.name ++ in_written_exp f.value

abbrev pub in_branch : Branch → List Event
in_branch b = (event.Open ∷ []) ++ in_pat b.pat ++ in_written_exp b.body ++ event.Close ∷ []

abbrev pub in_let : LetVal → List Event
in_let v = in_written v.con ++ in_written_exp v.value ++ event.Bind sort.Value v.name ∷ []

-- the events of the expressions beside a text
abbrev pub each_of : List Exp → List (List Event)
each_of es = map in_written_exp es
