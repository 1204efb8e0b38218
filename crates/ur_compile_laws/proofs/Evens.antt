-- Constructors, expressions and declarations leave the scopes as they were.
use Rattle.std.proofs.Common.{◌≡◌, ◌∙◌, sym, ap, subst, Option, Some, None, List, [], ◌∷◌, ◌++◌, ℕ, zero, suc, append_assoc, if◌then◌else◌}
use Rattle.std.specs.Prelude.{flat_map, slice_get}
use Rattle.ur_base.specs.declared.refusal.Span.{Span}
use Rattle.ur_syntax.specs.declared.con.Con.{Con}
use Rattle.ur_syntax.specs.declared.con.FieldName.{FieldName}
use Rattle.ur_syntax.specs.declared.con.FieldName.TheVariants as field_name
use Rattle.ur_syntax.specs.declared.con.ConForm.{ConForm, end_of-Con as sole, more_of-Con as the, Row_of-CField, end_of-CField as end, more_of-CField as more, Row_of-RecordField, end_of-RecordField as last, more_of-RecordField as also}
use Rattle.ur_syntax.specs.declared.con.ConForm.TheVariants as con
use Rattle.ur_syntax.specs.declared.con.CField.{CField}
use Rattle.ur_syntax.specs.declared.con.CField.TheVariants as con_field
use Rattle.ur_syntax.specs.declared.con.ConParam.{ConParam}
use Rattle.ur_syntax.specs.declared.con.ConParam.TheVariants as con_param
use Rattle.ur_syntax.specs.declared.decl.Variant.{Variant}
use Rattle.ur_syntax.specs.declared.decl.FunDef.{FunDef}
use Rattle.ur_syntax.specs.declared.exp.Binder.{Binder}
use Rattle.ur_syntax.specs.declared.exp.Binder.TheVariants as binder
use Rattle.ur_syntax.specs.declared.exp.Param.{Param}
use Rattle.ur_syntax.specs.declared.exp.Param.TheVariants as param
use Rattle.ur_syntax.specs.declared.exp.LambdaParam.{LambdaParam}
use Rattle.ur_syntax.specs.declared.exp.LambdaParam.TheVariants as lambda_param
use Rattle.ur_syntax.specs.declared.exp.Argument.{Argument}
use Rattle.ur_syntax.specs.declared.exp.Argument.TheVariants as argument
use Rattle.ur_syntax.specs.declared.exp.PatForm.{PatForm}
use Rattle.ur_syntax.specs.declared.exp.PatForm.TheVariants as pat
use Rattle.ur_syntax.specs.declared.exp.ExpForm.{ExpForm, Row_of-Exp, end_of-Exp as alone, more_of-Exp as its, Row_of-Field, end_of-Field, more_of-Field, Row_of-Branch, end_of-Branch, more_of-Branch, Row_of-LetVal, end_of-LetVal, more_of-LetVal}
use Rattle.ur_syntax.specs.declared.exp.ExpForm.TheVariants as e
use Rattle.ur_names.specs.declared.event.Sort.{Sort}
use Rattle.ur_names.specs.declared.event.Sort.TheVariants as sort
use Rattle.ur_names.specs.declared.event.Event.{Event}
use Rattle.ur_names.specs.declared.event.Event.TheVariants as event
use Rattle.ur_names.specs.declared.event.Mark.{Mark}
use Rattle.ur_names.specs.declared.event.Mark.TheVariants as mark
use Rattle.ur_names.specs.Cons.{use_of, in_label, is_form, is_map, in_con, in_mapped, in_fields, in_field, in_record as in_con_record, in_written, in_con_param}
use Rattle.ur_names.specs.Skeletons.{in_name, in_query, in_change, in_xml_part}
use Rattle.ur_names.specs.Exps.{in_binder, in_new, in_param, in_lambda_param, in_argument, in_pat_form, is_constant, in_constructor, if_given, at_mark, at_marks, in_exp, each, in_record, in_branches, in_vals, in_pat, in_written_exp}
use Rattle.ur_names.specs.Decls.{in_of, in_variant, named, in_typed}
use Rattle.ur_compile_laws.proofs.Even.{IsEven, IsFlat, AreEven, even_none, even_both, even_one, even_scope, even_if, even_all}

-- ---- constructors

even_label : (p : Span) (x : FieldName) → IsEven (in_label p x)
even_label p (field_name.Literal a) = even_none
even_label p (field_name.Variable x) = even_one (event.Own sort.Con p x) tt

mutual
  even_con : (p : Span) (c : ConForm) → IsEven (in_con p c)
  even_con p (con.Lambda' x k _ (the q c sole)) = even_scope ((event.Bind sort.Con x ∷ []) ++ in_con q c) (even_both (event.Bind sort.Con x ∷ []) (in_con q c) (even_one (event.Bind sort.Con x) tt) (even_con q c))
  even_con p (con.Arrow' _ (the q a sole) _ (the r b sole)) = even_both (in_con q a) (in_con r b) (even_con q a) (even_con r b)
  even_con p (con.Concat' _ (the q a sole) _ (the r b sole)) = even_both (in_con q a) (in_con r b) (even_con q a) (even_con r b)
  even_con p (con.App' _ (the q f sole) _ (the r a sole)) =
      even_both (if is_form f then event.Form q ∷ [] else if is_map f then in_mapped q f else in_con q f) (in_con r a)
      (even_if (is_form f) (event.Form q ∷ []) (if is_map f then in_mapped q f else in_con q f) (even_one (event.Form q) tt) (even_if (is_map f) (in_mapped q f) (in_con q f) (even_mapped q f) (even_con q f))) (even_con r a)
  even_con p (con.Var x) = even_one (event.Own sort.Con p x) tt
  even_con p (con.Member m x) = even_one (event.Member sort.Con p m x) tt
  even_con p (con.Name a) = even_none
  even_con p (con.Row' _ fields) = even_fields p fields
  even_con p (con.Record' _ fields) = even_con_record p fields
  even_con p (con.RecordOf' _ (the q r sole)) = even_con q r

  even_mapped : (p : Span) (c : ConForm) → IsEven (in_mapped p c)
  even_mapped p (con.App' _ h _ (the q f sole)) = even_both (event.Map p ∷ []) (in_con q f) (even_one (event.Map p) tt) (even_con q f)
  even_mapped p (con.Lambda' x k _ c) = even_none
  even_mapped p (con.Arrow' _ a _ b) = even_none
  even_mapped p (con.Concat' _ a _ b) = even_none
  even_mapped p (con.Var x) = even_none
  even_mapped p (con.Member m x) = even_none
  even_mapped p (con.Name a) = even_none
  even_mapped p (con.Row' _ fields) = even_none
  even_mapped p (con.Record' _ fields) = even_none
  even_mapped p (con.RecordOf' _ r) = even_none

  even_fields : {n : _} (p : Span) (row : Row_of-CField n) → IsEven (in_fields p row)
  even_fields p end = even_none
  even_fields p (more f rest) = even_both (in_field p f) (in_fields p rest) (even_field p f) (even_fields p rest)

  even_field : (p : Span) (f : CField) → IsEven (in_field p f)
  even_field p (con_field.Bare x) = even_label p x
  even_field p (con_field.Given' x q c) = even_both (in_label p x) (in_con q c) (even_label p x) (even_con q c)

  even_con_record : {n : _} (p : Span) (row : Row_of-RecordField n) → IsEven (in_con_record p row)
  even_con_record p last = even_none
  even_con_record p (also x q c rest) = even_both (in_label p x ++ in_con q c) (in_con_record p rest) (even_both (in_label p x) (in_con q c) (even_label p x) (even_con q c)) (even_con_record p rest)

pub even_written : (c : Con) → IsEven (in_written c)
even_written c = even_con c.span c.form

even_con_param : (p : Span) (x : ConParam) → IsEven (in_con_param p x)
even_con_param p (con_param.Kinded x k) = even_both (event.New sort.Con p x ∷ []) (event.Bind sort.Con x ∷ []) (even_one (event.New sort.Con p x) tt) (even_one (event.Bind sort.Con x) tt)
even_con_param p (con_param.Disjoint c d) = even_both (in_written c) (in_written d) (even_written c) (even_written d)

-- ---- variables and patterns

even_binder : (x : Binder) → IsEven (in_binder x)
even_binder binder.Ignored = even_none
even_binder (binder.Named x) = even_one (event.Bind sort.Value x) tt

even_own : (p : Span) (x : List ℕ) → IsEven ((event.New sort.Value p x ∷ []) ++ event.Bind sort.Value x ∷ [])
even_own p x = even_both (event.New sort.Value p x ∷ []) (event.Bind sort.Value x ∷ []) (even_one (event.New sort.Value p x) tt) (even_one (event.Bind sort.Value x) tt)

even_new : (p : Span) (x : Binder) → IsEven (in_new p x)
even_new p binder.Ignored = even_none
even_new p (binder.Named x) = even_own p x

even_param : (p : Span) (x : Param) → IsEven (in_param p x)
even_param p (param.Value x c) = even_both (in_new p x) (in_written c) (even_new p x) (even_written c)
even_param p param.Unit = even_none

even_lambda_param : (p : Span) (x : LambdaParam) → IsEven (in_lambda_param p x)
even_lambda_param p (lambda_param.Typed q) = even_param p q
even_lambda_param p (lambda_param.Con q) = even_con_param p q
even_lambda_param p (lambda_param.Bare x) = even_new p x

even_argument : (p : Span) (x : Argument) → IsEven (in_argument p x)
even_argument p argument.Absent = even_none
even_argument p (argument.Bound x) = even_new p x

even_pat : (p : Span) (x : PatForm) → IsEven (in_pat_form p x)
even_pat p pat.Wild = even_none
even_pat p (pat.Var x) = even_own p x
even_pat p (pat.Int n) = even_none
even_pat p (pat.Negative n) = even_none
even_pat p (pat.Str s) = even_none
even_pat p pat.True = even_none
even_pat p pat.False = even_none
even_pat p pat.None = even_none
even_pat p (pat.Some x) = even_new p x
even_pat p pat.Nil = even_none
even_pat p (pat.Cons x y) = even_both (in_new p x) (in_new p y) (even_new p x) (even_new p y)
even_pat p (pat.Constructor x y) = even_both (event.Own sort.Constructor p x ∷ []) (in_argument p y) (even_one (event.Own sort.Constructor p x) tt) (even_argument p y)
even_pat p (pat.Member m x y) = even_both (event.Member sort.Constructor p m x ∷ []) (in_argument p y) (even_one (event.Member sort.Constructor p m x) tt) (even_argument p y)

even_constructor : (p : Span) (x : List ℕ) → IsEven (in_constructor p x)
even_constructor p x = even_if (is_constant x) [] (event.Own sort.Constructor p x ∷ []) even_none (even_one (event.Own sort.Constructor p x) tt)

flat_use : (s : Sort) (p : Span) (m : Option (List ℕ)) (x : List ℕ) → IsFlat (use_of s p m x)
flat_use s p None x = tt
flat_use s p (Some m) x = tt

-- ---- marks in a text

even_given : (ess : List (List Event)) → AreEven ess → (n : ℕ) → IsEven (if_given (slice_get ess n))
even_given [] h n = even_none
even_given (es ∷ ess) h zero = h.0
even_given (es ∷ ess) h (suc n) = even_given ess h.1 n

even_mark : (splices attributes : List (List Event)) → AreEven splices → AreEven attributes → (m : Mark) → IsEven (at_mark splices attributes m)
even_mark splices attributes h g (mark.Own s p x) = even_one (event.Own s p x) tt
even_mark splices attributes h g (mark.Member s p m x) = even_one (event.Member s p m x) tt
even_mark splices attributes h g (mark.Splice n) = even_given splices h n
even_mark splices attributes h g (mark.Attribute n) = even_given attributes g n

even_marks : (splices attributes : List (List Event)) → AreEven splices → AreEven attributes → (marks : List Mark) → IsEven (at_marks splices attributes marks)
even_marks splices attributes h g marks = even_all (at_mark splices attributes) (λ m. even_mark splices attributes h g m) marks

-- ---- expressions

regrouped : {A : Type 0} (a o x b c : List A) → a ++ o ++ x ++ b ++ c ≡ a ++ (o ++ x ++ b ++ c)
regrouped a o x b c = ap (λ z. z ++ b ++ c) (append_assoc a o x) ∙ (ap (λ z. z ++ c) (append_assoc a (o ++ x) b) ∙ append_assoc a (o ++ x ++ b) c)

even_then : (a x b : List Event) → IsEven a → IsEven x → IsEven b → IsEven (a ++ (event.Open ∷ []) ++ x ++ b ++ event.Close ∷ [])
even_then a x b h g k =
    subst IsEven (sym (regrouped a (event.Open ∷ []) x b (event.Close ∷ []))) (even_both a ((event.Open ∷ []) ++ x ++ b ++ event.Close ∷ []) h (even_scope (x ++ b) (even_both x b g k)))

mutual
  even_exp : (p : Span) (x : ExpForm) → IsEven (in_exp p x)
  even_exp p (e.Bind' x _ (its q a alone) _ (its r b alone)) = even_then (in_exp q a) (in_binder x) (in_exp r b) (even_exp q a) (even_binder x) (even_exp r b)
  even_exp p (e.Seq' _ (its q a alone) _ (its r b alone)) = even_both (in_exp q a) (in_exp r b) (even_exp q a) (even_exp r b)
  even_exp p (e.If' _ (its q a alone) _ (its r b alone) _ (its s c alone)) = even_both (in_exp q a ++ in_exp r b) (in_exp s c) (even_both (in_exp q a) (in_exp r b) (even_exp q a) (even_exp r b)) (even_exp s c)
  even_exp p (e.Lambda' params _ (its q a alone)) =
      even_scope (flat_map (in_lambda_param p) params ++ in_exp q a) (even_both (flat_map (in_lambda_param p) params) (in_exp q a) (even_all (in_lambda_param p) (λ x. even_lambda_param p x) params) (even_exp q a))
  even_exp p (e.Case' _ (its q a alone) _ branches) = even_both (in_exp q a) (in_branches branches) (even_exp q a) (even_branches branches)
  even_exp p (e.Binary' o _ (its q a alone) _ (its r b alone)) = even_both (in_exp q a) (in_exp r b) (even_exp q a) (even_exp r b)
  even_exp p (e.Remove' _ (its q a alone) gone) = even_both (in_exp q a) (in_label gone.span gone.name) (even_exp q a) (even_label gone.span gone.name)
  even_exp p (e.Negative' _ (its q a alone)) = even_exp q a
  even_exp p (e.App' _ (its q a alone) _ (its r b alone)) = even_both (in_exp q a) (in_exp r b) (even_exp q a) (even_exp r b)
  even_exp p (e.ConApp' _ (its q a alone) c) = even_both (in_exp q a) (in_written c) (even_exp q a) (even_written c)
  even_exp p (e.Project' _ (its q a alone) x) = even_both (in_exp q a) (in_label p x) (even_exp q a) (even_label p x)
  even_exp p (e.Int n) = even_none
  even_exp p (e.Str s) = even_none
  even_exp p (e.Var x) = even_one (event.Own sort.Value p x) tt
  even_exp p (e.Constructor x) = even_constructor p x
  even_exp p (e.Member m x) = even_one (event.Member sort.Value p m x) tt
  even_exp p (e.MemberConstructor m x) = even_one (event.Member sort.Constructor p m x) tt
  even_exp p e.Unit = even_none
  even_exp p (e.Record' _ fields) = even_record p fields
  even_exp p e.Nil = even_none
  even_exp p (e.Xml' x _ splices _ attributes) = even_marks (each splices) (each attributes) (even_each splices) (even_each attributes) (flat_map in_xml_part x.parts)
  even_exp p (e.Let' _ vals _ (its q a alone)) = even_scope (in_vals vals ++ in_exp q a) (even_both (in_vals vals) (in_exp q a) (even_vals vals) (even_exp q a))
  even_exp p (e.Return' _ (its q a alone)) = even_exp q a
  even_exp p (e.Show' _ (its q a alone)) = even_exp q a
  even_exp p (e.Not' _ (its q a alone)) = even_exp q a
  even_exp p (e.Error' _ (its q a alone)) = even_exp q a
  even_exp p (e.Some' _ (its q a alone)) = even_exp q a
  even_exp p (e.Nextval x) = even_one (in_name sort.Sequence x) (flat_use sort.Sequence x.span x.«module» x.name)
  even_exp p (e.GetCookie x) = even_one (in_name sort.Cookie x) (flat_use sort.Cookie x.span x.«module» x.name)
  even_exp p (e.SetCookie' x _ (its q a alone)) = even_both (in_name sort.Cookie x ∷ []) (in_exp q a) (even_one (in_name sort.Cookie x) (flat_use sort.Cookie x.span x.«module» x.name)) (even_exp q a)
  even_exp p (e.Dml' c _ antiquotes) = even_marks (each antiquotes) [] (even_each antiquotes) tt (in_change c)
  even_exp p (e.Query' w q _ antiquotes) = even_marks (each antiquotes) [] (even_each antiquotes) tt (in_query q)
  even_exp p (e.QueryX' q _ antiquotes _ (its r a alone)) =
      even_both (at_marks (each antiquotes) [] (in_query q)) (in_exp r a) (even_marks (each antiquotes) [] (even_each antiquotes) tt (in_query q)) (even_exp r a)
  even_exp p (e.Fold' c _ (its q a alone) _ (its r b alone) d) =
      even_both (in_written c ++ in_exp q a ++ in_exp r b) (in_written d)
      (even_both (in_written c ++ in_exp q a) (in_exp r b) (even_both (in_written c) (in_exp q a) (even_written c) (even_exp q a)) (even_exp r b)) (even_written d)

  even_each : {n : _} (row : Row_of-Exp n) → AreEven (each row)
  even_each alone = tt
  even_each (its q a rest) = (even_exp q a, even_each rest)

  even_record : {n : _} (p : Span) (row : Row_of-Field n) → IsEven (in_record p row)
  even_record p end_of-Field = even_none
  even_record p (more_of-Field x q a rest) = even_both (in_label p x ++ in_exp q a) (in_record p rest) (even_both (in_label p x) (in_exp q a) (even_label p x) (even_exp q a)) (even_record p rest)

  even_branches : {n : _} (row : Row_of-Branch n) → IsEven (in_branches row)
  even_branches end_of-Branch = even_none
  even_branches (more_of-Branch x q a rest) =
      even_both ((event.Open ∷ []) ++ in_pat x ++ in_exp q a ++ event.Close ∷ []) (in_branches rest)
      (even_scope (in_pat x ++ in_exp q a) (even_both (in_pat x) (in_exp q a) (even_pat x.span x.form) (even_exp q a))) (even_branches rest)

  even_vals : {n : _} (row : Row_of-LetVal n) → IsEven (in_vals row)
  even_vals end_of-LetVal = even_none
  even_vals (more_of-LetVal s x c q a rest) =
      even_both (in_written c ++ in_exp q a ++ event.Bind sort.Value x ∷ []) (in_vals rest)
      (even_both (in_written c ++ in_exp q a) (event.Bind sort.Value x ∷ []) (even_both (in_written c) (in_exp q a) (even_written c) (even_exp q a)) (even_one (event.Bind sort.Value x) tt)) (even_vals rest)

-- ---- declarations

pub even_typed : (s : Sort) (p : Span) (x : List ℕ) (c : Con) → IsEven (in_typed s p x c)
even_typed s p x c = even_both ((event.New s p x ∷ []) ++ in_written c) (event.Declare s x ∷ []) (even_both (event.New s p x ∷ []) (in_written c) (even_one (event.New s p x) tt) (even_written c)) (even_one (event.Declare s x) tt)

pub even_exp_form : (p : Span) (x : ExpForm) → IsEven (in_exp p x)
even_exp_form p x = even_exp p x

even_of : (c : Option Con) → IsEven (in_of c)
even_of None = even_none
even_of (Some c) = even_written c

even_variant : (v : Variant) → IsEven (in_variant v)
even_variant v =
    even_both ((event.New sort.Constructor v.span v.name ∷ []) ++ in_of v.con) (event.Declare sort.Constructor v.name ∷ [])
    (even_both (event.New sort.Constructor v.span v.name ∷ []) (in_of v.con) (even_one (event.New sort.Constructor v.span v.name) tt) (even_of v.con)) (even_one (event.Declare sort.Constructor v.name) tt)

pub even_variants : (vs : List Variant) → IsEven (flat_map in_variant vs)
even_variants vs = even_all in_variant (λ v. even_variant v) vs

pub even_named : (fs : List FunDef) → IsEven (flat_map named fs)
even_named fs = even_all named (λ f. even_one (event.Declare sort.Value f.name) tt) fs

-- what stands between the name of a function and its end
abbrev pub inside : FunDef → List Event
inside f = flat_map (in_con_param f.span) f.con_params ++ flat_map (in_param f.span) f.params ++ in_written f.result ++ in_written_exp f.body

pub even_inside : (f : FunDef) → IsEven (inside f)
even_inside f =
    let a : List Event = flat_map (in_con_param f.span) f.con_params in
    let b : List Event = flat_map (in_param f.span) f.params in
    even_both (a ++ b ++ in_written f.result) (in_written_exp f.body)
    (even_both (a ++ b) (in_written f.result) (even_both a b (even_all (in_con_param f.span) (λ x. even_con_param f.span x) f.con_params) (even_all (in_param f.span) (λ x. even_param f.span x) f.params)) (even_written f.result))
    (even_exp f.body.span f.body.form)
