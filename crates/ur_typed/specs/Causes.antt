-- Why a project is refused by its types: which rule an expression breaks, and where it stands. All is said of written expressions in
-- their scope, so that it can be said of a project that has no typed source.
use Rattle.ur_rows.specs.Kinded.{label_is_in}
use Rattle.ur_tree.specs.Env.{variables}
use Rattle.ur_syntax.specs.declared.xml.XmlForm.{items-the_row-XmlPart}
use Rattle.ur_typed.specs.Rules.{capital_of, says_other, local_out, Sites, Out, Branches, Fields, Antiquotes, function_at, operator_of, left_mode, left_may, is_literally, are_literal_rest, with_query_slot, with_change_slot, with_query, query_at, is_option, is_list, row_param}
use Rattle.ur_typed.specs.Walking.{vals_walk, walk, typed, branches_walk, fields_walk, antiquotes_walk}
use Rattle.ur_xmltype.specs.Faults.{IsBadFrame}
use Rattle.ur_sqltype.specs.Faults.{six_kinds}
use Rattle.ur_sqltype.specs.SqltypeFaults.{QueryHasFault, ChangeHasFault}
use Rattle.ur_typed.specs.Parts.{literal_of, StandsIn}
use Rattle.ur_typed.specs.Faults.{given_to, BreaksParams, BreaksNamed, BreaksSpine, missing_argument, BreaksFoldRow, BreaksRowFunction, BreaksStep, no_step, BreaksPattern, BreaksParts}
use Rattle.std.specs.Prelude.{◌≡◌, ◌&&◌, nat_le, length, ℕ, Bool, true, false, List, [], ◌∷◌, map, codes, Some, None, slice_get}
use mathlib.Core.Former.{Count}
use Rattle.ur_base.specs.Shape.{Shape, count}
use Rattle.ur_base.specs.declared.refusal.Span.{Span}
use Rattle.ur_base.specs.declared.refusal.Refusal.{Refusal}
use Rattle.ur_syntax.specs.Names.{own, member as of_module, name_text}
use Rattle.ur_syntax.specs.declared.con.Con.{Con}
use Rattle.ur_syntax.specs.declared.con.FieldName.{FieldName}
use Rattle.ur_syntax.specs.declared.sql.DeclName.{DeclName}
use Rattle.ur_syntax.specs.declared.sql.SqlQuery.{SqlQuery}
use Rattle.ur_syntax.specs.declared.sql.SqlChange.{SqlChange}
use Rattle.ur_syntax.specs.declared.exp.Binary.{Binary as WrittenBinary}
use Rattle.ur_syntax.specs.declared.exp.Binary.TheVariants as op
use Rattle.ur_syntax.specs.declared.exp.Binder.{Binder}
use Rattle.ur_syntax.specs.declared.exp.Binder.TheVariants as binder
use Rattle.ur_syntax.specs.declared.exp.LambdaParam.{LambdaParam}
use Rattle.ur_syntax.specs.declared.exp.QueryWord.{QueryWord}
use Rattle.ur_syntax.specs.declared.exp.Removed.{Removed}
use Rattle.ur_syntax.specs.declared.exp.ExpForm.{ExpForm, Row_of-Exp, end_of-Exp as alone, more_of-Exp as its, Row_of-Field, end_of-Field, more_of-Field, Row_of-Branch, end_of-Branch, Row_of-LetVal, end_of-LetVal, more_of-LetVal}
use Rattle.ur_syntax.specs.declared.exp.ExpForm.TheVariants as e
use Rattle.ur_syntax.specs.declared.xml.Xml.{Xml}
use Rattle.ur_values.specs.declared.schema.ColumnKind.{ColumnKind}
use Rattle.ur_sql.specs.declared.query.Query.{Query}
use Rattle.ur_rows.specs.declared.normal.Normal.{Normal}
use Rattle.ur_rows.specs.declared.normal.NormalType.{NormalType}
use Rattle.ur_rows.specs.declared.normal.Part.{Part as RowPart}
use Rattle.ur_rows.specs.Made.{record_of}
use Rattle.ur_rows.specs.Nodes.{nodes, type_nodes}
use Rattle.ur_rows.specs.Normal.{nf}
use Rattle.ur_rows.specs.Types.{at_row, field_type, holds_arrow, may_run, is_value_type}
use Rattle.ur_tree.specs.Text.{type_text}
use Rattle.ur_tree.specs.Scalars.{is_basic}
use Rattle.ur_tree.specs.QueryRow.{query_row}
use Rattle.ur_tree.specs.Places.{Sort, sort_of, place_of}
use Rattle.ur_tree.specs.Places as places
use Rattle.ur_xmltype.specs.Literal.{literal_sort, row_of_parts}
use Rattle.ur_sqltype.specs.Lists.{all_of}
use Rattle.ur_sqltype.specs.Table.{column_type_kind}
use Rattle.ur_tree.specs.declared.exp.Param.{Param}
use Rattle.ur_tree.specs.Heads.{Head}
use Rattle.ur_tree.specs.IsStatic.{is_static}
use Rattle.ur_tree.specs.Typing.{operation, keeps_arrows, step_rest}
use Rattle.ur_typed_rules.specs.Names.{declared, local_at, name_of}
use Rattle.ur_typed_rules.specs.Scopes.{World, Scope, Mode, finds, wants, within_binder, within_params, of_transaction, of_field, of_result, type_of_mode}
use Rattle.ur_typed_rules.specs.Tests.{is_param, same_type, local_name, is_apart, are_apart, are_distinct}
use Rattle.ur_typed.specs.Folds.{Step, fold_types, step_form, step_by, step_of}
use Rattle.ur_typed.specs.Markups.{Marked, parts_out}
use Rattle.ur_typed_rules.specs.Faults.{Fault, unknown, twice, mismatch, not_apart, misfit, not_so, too_large, unkinded, TellsType, as_refused, types_differ, not_of_type}
use Rattle.ur_typed_rules.specs.Meeting.{Meets}
use Rattle.ur_typed_rules.specs.Repeats.{IsTwiceIn, literal_names}
use Rattle.ur_typed_rules.specs.Arguments.{BreaksType, BreaksGiven, BreaksForms, BreaksWritten, BreaksFields}
use Rattle.ur_typed_rules.specs.Patterns.{BreaksCover}
use Rattle.ur_typed_rules.specs.Rules.{row_of, value_of, written_type, Params, params_out, label_at}

-- ---- what a form that stands without a type is called

pub data Untyped : ExpForm → List ℕ → Type 0 where
  none : Untyped (e.Constructor (codes "None")) (codes "None")
  nil : Untyped e.Nil (codes "[]")
  error : {p : Span} {x : ExpForm} → Untyped (e.Error' tt (its p x alone)) (codes "error")

-- the only field names and forms that `setCookie` has
abbrev pub is_cookie_record : {n : _} → Row_of-Field n → Bool
is_cookie_record (more_of-Field f p x rest) = is_literally f (codes "Value") && are_literal_rest rest
is_cookie_record end_of-Field = false

-- what the rule gives is not accepted, or of another type
pub data BreaksSettled (names : List (List ℕ)) (w : World) : Mode → Out → Fault → Type 0 where
  other_type : {t : NormalType} {o : Out} → same_type o.of t ≡ false → BreaksSettled names w (wants t) o (types_differ names o.of t)
  grows : {m : Mode} {o : Out} → nat_le (type_nodes o.of) w.most ≡ false → BreaksSettled names w m o too_large
  runs : {m : Mode} {o : Out} → may_run o.of ≡ false → BreaksSettled names w m o (not_so (type_text names o.of) (codes "no transaction within"))
  moves : {m : Mode} {o : Out} → holds_arrow o.of ≡ true → is_static o.exp ≡ false → BreaksSettled names w m o (not_so (type_text names o.of) (codes "a static expression"))

-- the `val`s of a `let`, and the further ones as a `let` of their own
pub data BreaksVals (names : List (List ℕ)) (w : World) (b : ExpForm) (m : Mode) : (n : Count) → Row_of-LetVal n → Scope → Sites → Fault → Type 0 where
  bad_type : {n : Count} {p q : Span} {x : List ℕ} {c : Con} {a : ExpForm} {rest : Row_of-LetVal n} {s : Scope} {st : Sites} {f : Fault} → BreaksType w s c f → BreaksVals names w b m _ (more_of-LetVal p x c q a rest) s st f
  no_value : {n : Count} {p q : Span} {x : List ℕ} {c : Con} {a : ExpForm} {rest : Row_of-LetVal n} {s : Scope} {st : Sites} {u : NormalType} → written_type w s c ≡ Some u → is_value_type u ≡ false →
      BreaksVals names w b m _ (more_of-LetVal p x c q a rest) s st (not_so (type_text names u) (codes "the type of a value"))
  val_behind : {n : Count} {p q : Span} {x : List ℕ} {c : Con} {a : ExpForm} {rest : Row_of-LetVal n} {s : Scope} {st : Sites} {u : NormalType} {o : Out} {f : Fault} → written_type w s c ≡ Some u → typed w a s st (wants u) ≡ Some o →
      BreaksVals names w b m _ rest (within_binder (binder.Named x) u s) o.sites f → BreaksVals names w b m _ (more_of-LetVal p x c q a rest) s st f
  let_unsettled : {n : Count} {p q : Span} {x : List ℕ} {c : Con} {a : ExpForm} {rest : Row_of-LetVal n} {s : Scope} {st : Sites} {u : NormalType} {o z : Out} {f : Fault} → written_type w s c ≡ Some u → typed w a s st (wants u) ≡ Some o →
      vals_walk w rest (within_binder (binder.Named x) u s) o.sites m (typed w b) ≡ Some z → BreaksSettled names w m z f → BreaksVals names w b m _ (more_of-LetVal p x c q a rest) s st f

-- the name of a field of a record is no name in its scope
pub data HasStrayLabel (w : World) (s : Scope) (m : Mode) : (n : Count) → Row_of-Field n → Sites → Type 0 where
  this_label : {n : Count} {f : FieldName} {p : Span} {x : ExpForm} {rest : Row_of-Field n} {st : Sites} → label_is_in (variables s.env) (label_at s f) ≡ false → HasStrayLabel w s m _ (more_of-Field f p x rest) st
  later_label : {n : Count} {f : FieldName} {p : Span} {x : ExpForm} {rest : Row_of-Field n} {st : Sites} {o : Out} → typed w x s st (of_field (label_at s f) m) ≡ Some o → HasStrayLabel w s m _ rest o.sites → HasStrayLabel w s m _ (more_of-Field f p x rest) st

abbrev pub is_lambda : ExpForm → Bool
is_lambda (e.Lambda' params _ x) = true
is_lambda _ = false

abbrev pub is_record : ExpForm → Bool
is_record (e.Record' n fields) = true
is_record _ = false

-- a type of an antiquote that is none of the six
pub data IsNoKind : List NormalType → NormalType → Type 0 where
  this_kind : {t : NormalType} {ts : List NormalType} → column_type_kind t ≡ None → IsNoKind (t ∷ ts) t
  later_kind : {t u : NormalType} {ts : List NormalType} → IsNoKind ts u → IsNoKind (t ∷ ts) u

abbrev pub no_kind : List (List ℕ) → NormalType → Fault
no_kind names t = misfit (type_text names t) six_kinds

-- The expression itself, in its scope and with what is wanted of it, breaks its rule. `names` are those of datatypes.
pub data Breaks (names : List (List ℕ)) (w : World) : Scope → Sites → ExpForm → Mode → Fault → Type 0 where
  -- of any form: another type, one that is too large, one that runs, one that moves
  unsettled : {s : Scope} {st : Sites} {m : Mode} {x : ExpForm} {o : Out} {f : Fault} → walk w x s st m ≡ Some o → BreaksSettled names w m o f → Breaks names w s st x m f
  -- the wanted type is too large, as one that the form around made of others may be
  large_wanted : {s : Scope} {st : Sites} {x : ExpForm} {t : NormalType} → nat_le (type_nodes t) w.most ≡ false → Breaks names w s st x (wants t) too_large
  unannotated : {s : Scope} {st : Sites} {x : ExpForm} {text : List ℕ} → Untyped x text → Breaks names w s st x finds (mismatch text (codes "annotation"))
  absent_there : {s : Scope} {st : Sites} {t : NormalType} → is_option t ≡ false → Breaks names w s st (e.Constructor (codes "None")) (wants t) (mismatch (codes "option") (type_text names t))
  empty_there : {s : Scope} {st : Sites} {t : NormalType} → is_list t ≡ false → Breaks names w s st e.Nil (wants t) (mismatch (codes "list") (type_text names t))
  -- names
  no_name : {s : Scope} {st : Sites} {m : Mode} {x : List ℕ} → local_at x s.names.locals ≡ None → declared w.globals (own x) w.globals.values ≡ None → Breaks names w s st (e.Var x) m (unknown x)
  no_member : {s : Scope} {st : Sites} {m : Mode} {h x : List ℕ} → declared w.globals (of_module h x) w.globals.values ≡ None → Breaks names w s st (e.Member h x) m (unknown (name_text (Some h) x))
  no_member_constructor : {s : Scope} {st : Sites} {m : Mode} {h x : List ℕ} → declared w.globals (of_module h x) w.globals.constructors ≡ None → Breaks names w s st (e.MemberConstructor h x) m (unknown (name_text (Some h) x))
  no_constructor : {s : Scope} {st : Sites} {m : Mode} {x : List ℕ} → capital_of x ≡ says_other → declared w.globals (own x) w.globals.constructors ≡ None → Breaks names w s st (e.Constructor x) m (unknown x)
  -- a constructor of a datatype without its argument
  lacks_argument : {s : Scope} {st : Sites} {m : Mode} {x : List ℕ} {n d : ℕ} {t : NormalType} → capital_of x ≡ says_other → declared w.globals (own x) w.globals.constructors ≡ Some n → slice_get w.declared.variants n ≡ Some (d, Some t) →
      Breaks names w s st (e.Constructor x) m missing_argument
  member_lacks_argument : {s : Scope} {st : Sites} {m : Mode} {h x : List ℕ} {n d : ℕ} {t : NormalType} → declared w.globals (of_module h x) w.globals.constructors ≡ Some n → slice_get w.declared.variants n ≡ Some (d, Some t) →
      Breaks names w s st (e.MemberConstructor h x) m missing_argument
  no_sequence : {s : Scope} {st : Sites} {m : Mode} {x : DeclName} → declared w.globals (name_of x) w.globals.sequences ≡ None → Breaks names w s st (e.Nextval x) m (unknown (name_text x.«module» x.name))
  no_cookie : {s : Scope} {st : Sites} {m : Mode} {x : DeclName} → declared w.globals (name_of x) w.globals.cookies ≡ None → Breaks names w s st (e.GetCookie x) m (unknown (name_text x.«module» x.name))
  no_cookie_set : {s : Scope} {st : Sites} {m : Mode} {x : DeclName} {p : Span} {y : ExpForm} → declared w.globals (name_of x) w.globals.cookies ≡ None → Breaks names w s st (e.SetCookie' x tt (its p y alone)) m (unknown (name_text x.«module» x.name))
  -- a variable of a value from outside a lambda, which has no type within it
  outside : {s : Scope} {st : Sites} {m : Mode} {x : List ℕ} {i : Bool × ℕ} → local_at x s.names.locals ≡ Some i → local_out s st i ≡ None → Breaks names w s st (e.Var x) m (not_so x (codes "no value from outside"))
  -- a function that is passed on
  bad_instance : {s : Scope} {st : Sites} {m : Mode} {x : ExpForm} {f : ℕ × List Normal} {h : Head} {d : Fault} → function_at w s x ≡ Some f → slice_get w.declared.functions f.0 ≡ Some h → BreaksGiven s.env (given_to x) f.1 h.cons d → Breaks names w s st x m d
  loses_arrow : {s : Scope} {st : Sites} {m : Mode} {x : ExpForm} {f : ℕ × List Normal} {h : Head} → function_at w s x ≡ Some f → slice_get w.declared.functions f.0 ≡ Some h → keeps_arrows f.1 h.params ≡ false →
      Breaks names w s st x m (not_so (codes "a function with static parameters") (codes "all arguments"))
  bad_name : {s : Scope} {st : Sites} {m : Mode} {p : Span} {x : ExpForm} {c : Con} {f : Fault} → BreaksNamed w s (e.ConApp' tt (its p x alone) c) f → Breaks names w s st (e.ConApp' tt (its p x alone) c) m f
  in_application : {s : Scope} {st : Sites} {m : Mode} {p q : Span} {x y : ExpForm} {f : Fault} → BreaksSpine names w s st x (y ∷ []) f → Breaks names w s st (e.App' tt (its p x alone) tt (its q y alone)) m f
  -- operators
  not_compared : {s : Scope} {st : Sites} {m : Mode} {o : WrittenBinary} {p q : Span} {x y : ExpForm} {d : Out} → typed w x s st (left_mode (operation (operator_of o)) m) ≡ Some d → left_may (operation (operator_of o)) d.of ≡ false →
      Breaks names w s st (e.Binary' o tt (its p x alone) tt (its q y alone)) m (not_of_type names d.of (codes "int, string or bool"))
  meets : {s : Scope} {st : Sites} {m : Mode} {p q : Span} {x y : ExpForm} {d b : Out} {r t : List RowPart} → typed w x s st finds ≡ Some d → typed w y s d.sites finds ≡ Some b → row_of d.of ≡ Some r → row_of b.of ≡ Some t →
      is_apart s.env.known r t ≡ false → Breaks names w s st (e.Binary' op.Concat tt (its p x alone) tt (its q y alone)) m (not_apart r t)
  left_no_record : {s : Scope} {st : Sites} {m : Mode} {p q : Span} {x y : ExpForm} {d b : Out} → typed w x s st finds ≡ Some d → typed w y s d.sites finds ≡ Some b → row_of d.of ≡ None →
      Breaks names w s st (e.Binary' op.Concat tt (its p x alone) tt (its q y alone)) m (not_of_type names d.of (codes "a record"))
  right_no_record : {s : Scope} {st : Sites} {m : Mode} {p q : Span} {x y : ExpForm} {d b : Out} {r : List RowPart} → typed w x s st finds ≡ Some d → typed w y s d.sites finds ≡ Some b → row_of d.of ≡ Some r → row_of b.of ≡ None →
      Breaks names w s st (e.Binary' op.Concat tt (its p x alone) tt (its q y alone)) m (not_of_type names b.of (codes "a record"))
  not_shown : {s : Scope} {st : Sites} {m : Mode} {p : Span} {x : ExpForm} {o : Out} → typed w x s st finds ≡ Some o → is_basic o.of ≡ false → Breaks names w s st (e.Show' tt (its p x alone)) m (not_of_type names o.of (codes "int, string or bool"))
  -- records
  no_record : {s : Scope} {st : Sites} {m : Mode} {p : Span} {x : ExpForm} {f : FieldName} {o : Out} → typed w x s st finds ≡ Some o → row_of o.of ≡ None → Breaks names w s st (e.Project' tt (its p x alone) f) m (not_of_type names o.of (codes "a record"))
  no_field : {s : Scope} {st : Sites} {m : Mode} {p : Span} {x : ExpForm} {f : FieldName} {o : Out} {r : List RowPart} → typed w x s st finds ≡ Some o → row_of o.of ≡ Some r → field_type (label_at s f) r ≡ None →
      Breaks names w s st (e.Project' tt (its p x alone) f) m (not_of_type names o.of (codes "the field"))
  nothing_cut : {s : Scope} {st : Sites} {m : Mode} {p : Span} {x : ExpForm} {c : Removed} {o : Out} → typed w x s st finds ≡ Some o → row_of o.of ≡ None → Breaks names w s st (e.Remove' tt (its p x alone) c) m (not_of_type names o.of (codes "a record"))
  no_field_cut : {s : Scope} {st : Sites} {m : Mode} {p : Span} {x : ExpForm} {c : Removed} {o : Out} {r : List RowPart} → typed w x s st finds ≡ Some o → row_of o.of ≡ Some r → field_type (label_at s c.name) r ≡ None →
      Breaks names w s st (e.Remove' tt (its p x alone) c) m (not_of_type names o.of (codes "the field"))
  -- a literal name twice is E08, and else two fields that are not told apart are E11
  field_twice : {s : Scope} {st : Sites} {m : Mode} {q : Shape} {fields : Row_of-Field (count q)} {r : Fields} {name : List ℕ} → IsTwiceIn name (literal_names fields) → fields_walk w fields s st m ≡ Some r → are_apart s.env.known r.row ≡ false → Breaks names w s st (e.Record' q fields) m (twice name)
  fields_meet_here : {s : Scope} {st : Sites} {m : Mode} {q : Shape} {fields : Row_of-Field (count q)} {r : Fields} {f : Fault} → fields_walk w fields s st m ≡ Some r → BreaksFields s.env.known r.row f → Breaks names w s st (e.Record' q fields) m f
  bad_label : {s : Scope} {st : Sites} {m : Mode} {q : Shape} {fields : Row_of-Field (count q)} → HasStrayLabel w s m _ fields st → Breaks names w s st (e.Record' q fields) m (unkinded (codes "another kind") (codes "Name"))
  -- branches
  branch_pattern : {s : Scope} {st : Sites} {m : Mode} {p : Span} {x : ExpForm} {k : Shape} {branches : Row_of-Branch (count k)} {o : Out} {f : Fault} → typed w x s st finds ≡ Some o → BreaksPattern names w o.of _ branches f →
      Breaks names w s st (e.Case' tt (its p x alone) k branches) m f
  bad_cover : {s : Scope} {st : Sites} {m : Mode} {p : Span} {x : ExpForm} {k : Shape} {branches : Row_of-Branch (count k)} {o : Out} {b : Branches} {f : Fault} → typed w x s st finds ≡ Some o → branches_walk w branches s o.of o.sites m ≡ Some b →
      BreaksCover w o.of b.patterns f → Breaks names w s st (e.Case' tt (its p x alone) k branches) m f
  -- the parser gives none without a branch, and no `let` without a `val`
  no_branch : {s : Scope} {st : Sites} {p : Span} {x : ExpForm} → Breaks names w s st (e.Case' tt (its p x alone) [] end_of-Branch) finds (mismatch (codes "nothing") (codes "a branch"))
  no_val : {s : Scope} {st : Sites} {m : Mode} {r : Span} {z : ExpForm} → Breaks names w s st (e.Let' [] end_of-LetVal tt (its r z alone)) m (not_so (codes "nothing") (codes "a val"))
  -- bindings
  not_run : {s : Scope} {st : Sites} {m : Mode} {b : Binder} {p q : Span} {x y : ExpForm} {o : Out} → typed w x s st finds ≡ Some o → value_of o.of ≡ None →
      Breaks names w s st (e.Bind' b tt (its p x alone) tt (its q y alone)) m (not_of_type names o.of (codes "transaction"))
  not_run_alone : {s : Scope} {st : Sites} {m : Mode} {p q : Span} {x y : ExpForm} {o : Out} → typed w x s st finds ≡ Some o → value_of o.of ≡ None →
      Breaks names w s st (e.Seq' tt (its p x alone) tt (its q y alone)) m (not_of_type names o.of (codes "transaction"))
  not_run_last : {s : Scope} {st : Sites} {m : Mode} {b : Binder} {p q : Span} {x y : ExpForm} {o z : Out} {u : NormalType} → typed w x s st finds ≡ Some o → value_of o.of ≡ Some u → typed w y (within_binder b u s) o.sites m ≡ Some z →
      value_of z.of ≡ None → Breaks names w s st (e.Bind' b tt (its p x alone) tt (its q y alone)) m (not_of_type names z.of (codes "transaction"))
  not_run_last_alone : {s : Scope} {st : Sites} {m : Mode} {p q : Span} {x y : ExpForm} {o z : Out} {u : NormalType} → typed w x s st finds ≡ Some o → value_of o.of ≡ Some u → typed w y (within_binder binder.Ignored u s) o.sites m ≡ Some z →
      value_of z.of ≡ None → Breaks names w s st (e.Seq' tt (its p x alone) tt (its q y alone)) m (not_of_type names z.of (codes "transaction"))
  in_vals : {s : Scope} {st : Sites} {m : Mode} {n : Shape} {r : Span} {z : ExpForm} {vals : Row_of-LetVal (count n)} {f : Fault} → BreaksVals names w z m _ vals s st f → Breaks names w s st (e.Let' n vals tt (its r z alone)) m f
  -- lambdas
  bad_form : {s : Scope} {st : Sites} {m : Mode} {params : List LambdaParam} {p : Span} {x : ExpForm} {f : Fault} → BreaksForms w.most s.names params f → Breaks names w s st (e.Lambda' params tt (its p x alone)) m f
  param_twice : {s : Scope} {st : Sites} {m : Mode} {params : List LambdaParam} {p : Span} {x : ExpForm} {ps : Params} {name : List ℕ} → params_out w.most s.names params ≡ Some ps → IsTwiceIn name (map local_name ps.0) → are_distinct ps.0 ≡ false →
      Breaks names w s st (e.Lambda' params tt (its p x alone)) m (twice name)
  bad_param : {s : Scope} {st : Sites} {m : Mode} {params : List LambdaParam} {p : Span} {x : ExpForm} {ps : Params} {f : Fault} → params_out w.most s.names params ≡ Some ps → BreaksParams s.env params ps.1 f →
      Breaks names w s st (e.Lambda' params tt (its p x alone)) m f
  curried : {s : Scope} {st : Sites} {m : Mode} {params : List LambdaParam} {p : Span} {x : ExpForm} {ps : Params} {o : Out} → params_out w.most s.names params ≡ Some ps → typed w x (within_params ps.0 ps.1 s) st (of_result ps.1 m) ≡ Some o →
      holds_arrow o.of ≡ true → Breaks names w s st (e.Lambda' params tt (its p x alone)) m (not_so (type_text names o.of) (codes "a result without an arrow"))
  -- the record of `setCookie`
  other_record_set : {s : Scope} {st : Sites} {m : Mode} {x : DeclName} {p : Span} {n : Shape} {fields : Row_of-Field (count n)} → is_cookie_record fields ≡ false →
      Breaks names w s st (e.SetCookie' x tt (its p (e.Record' n fields) alone)) m (not_so (codes "a record") (codes "{Value = .., Expires = None, Secure = False}"))
  no_record_set : {s : Scope} {st : Sites} {m : Mode} {x : DeclName} {p : Span} {y : ExpForm} → is_record y ≡ false →
      Breaks names w s st (e.SetCookie' x tt (its p y alone)) m (not_so (codes "a value") (codes "{Value = .., Expires = None, Secure = False}"))
  -- statements; the texts of a fault within SQL are those of its own cause
  antiquote_kind : {s : Scope} {st : Sites} {m : Mode} {how : QueryWord} {q : SqlQuery} {n : Shape} {args : Row_of-Exp (count n)} {a : Antiquotes} {t : NormalType} → antiquotes_walk w args s (with_query_slot st) ≡ Some a → IsNoKind a.types t →
      Breaks names w s st (e.Query' how q n args) m (no_kind names t)
  row_antiquote_kind : {s : Scope} {st : Sites} {m : Mode} {q : SqlQuery} {n : Shape} {args : Row_of-Exp (count n)} {p : Span} {g : ExpForm} {a : Antiquotes} {t : NormalType} → antiquotes_walk w args s (with_query_slot st) ≡ Some a → IsNoKind a.types t →
      Breaks names w s st (e.QueryX' q n args tt (its p g alone)) m (no_kind names t)
  change_antiquote_kind : {s : Scope} {st : Sites} {m : Mode} {u : SqlChange} {n : Shape} {args : Row_of-Exp (count n)} {a : Antiquotes} {t : NormalType} → antiquotes_walk w args s (with_change_slot st) ≡ Some a → IsNoKind a.types t →
      Breaks names w s st (e.Dml' u n args) m (no_kind names t)
  bad_query : {s : Scope} {st : Sites} {m : Mode} {how : QueryWord} {q : SqlQuery} {n : Shape} {args : Row_of-Exp (count n)} {a : Antiquotes} {kinds : List ColumnKind} {r : Refusal} → antiquotes_walk w args s (with_query_slot st) ≡ Some a →
      all_of column_type_kind a.types ≡ Some kinds → QueryHasFault w.globals.home w.globals.tables w.fields kinds q r → Breaks names w s st
      (e.Query' how q n args) m (as_refused r)
  bad_change : {s : Scope} {st : Sites} {m : Mode} {u : SqlChange} {n : Shape} {args : Row_of-Exp (count n)} {a : Antiquotes} {kinds : List ColumnKind} {r : Refusal} → antiquotes_walk w args s (with_change_slot st) ≡ Some a →
      all_of column_type_kind a.types ≡ Some kinds → ChangeHasFault w.globals.home w.globals.tables kinds u r → Breaks names w s st (e.Dml' u n args) m
      (as_refused r)
  bad_rows : {s : Scope} {st : Sites} {m : Mode} {q : SqlQuery} {n : Shape} {args : Row_of-Exp (count n)} {p : Span} {g : ExpForm} {a : Antiquotes} {kinds : List ColumnKind} {r : Refusal} → antiquotes_walk w args s (with_query_slot st) ≡ Some a →
      all_of column_type_kind a.types ≡ Some kinds → QueryHasFault w.globals.home w.globals.tables w.fields kinds q r → Breaks names w s st
      (e.QueryX' q n args tt (its p g alone)) m (as_refused r)
  no_row_function : {s : Scope} {st : Sites} {m : Mode} {q : SqlQuery} {n : Shape} {args : Row_of-Exp (count n)} {p : Span} {g : ExpForm} → is_lambda g ≡ false → Breaks names w s st (e.QueryX' q n args tt (its p g alone)) m (not_so (codes "a function") (codes "fn x => e"))
  bad_row_function : {s : Scope} {st : Sites} {m : Mode} {q : SqlQuery} {n : Shape} {args : Row_of-Exp (count n)} {p r : Span} {params : List LambdaParam} {y : ExpForm} {a : Antiquotes} {d : Query} {f : Fault} → antiquotes_walk w args s (with_query_slot st) ≡ Some a →
      query_at w q a ≡ Some d → BreaksRowFunction names w s (query_row w.fields d) params f → Breaks names w s st (e.QueryX' q n args tt (its p (e.Lambda' params tt (its r y alone)) alone)) m f
  no_xml_rows : {s : Scope} {st : Sites} {m : Mode} {q : SqlQuery} {n : Shape} {args : Row_of-Exp (count n)} {p r : Span} {params : List LambdaParam} {x : Binder} {y : ExpForm} {a : Antiquotes} {d : Query} {o : Out} →
      antiquotes_walk w args s (with_query_slot st) ≡ Some a → query_at w q a ≡ Some d → row_param w s (query_row w.fields d) params ≡ Some x →
      typed w y (within_binder x (record_of (query_row w.fields d)) s) (with_query (length st.queries) d a.sites) (of_transaction m) ≡ Some o → sort_of o.of ≡ None →
      Breaks names w s st (e.QueryX' q n args tt (its p (e.Lambda' params tt (its r y alone)) alone)) m (not_of_type names o.of (codes "xml"))
  -- folds
  large_function : {s : Scope} {st : Sites} {m : Mode} {f r : Con} {p q : Span} {x y : ExpForm} → nat_le (nodes (nf s.names.cons f)) w.most ≡ false → Breaks names w s st (e.Fold' f tt (its p x alone) tt (its q y alone) r) m too_large
  bad_row : {s : Scope} {st : Sites} {m : Mode} {f r : Con} {p q : Span} {x y : ExpForm} {c : Fault} → BreaksFoldRow names w s r c → Breaks names w s st (e.Fold' f tt (its p x alone) tt (its q y alone) r) m c
  bad_step : {s : Scope} {st : Sites} {m : Mode} {f r : Con} {p q a : Span} {params : List LambdaParam} {x y : ExpForm} {c : Fault} → BreaksStep w s params c →
      Breaks names w s st (e.Fold' f tt (its p (e.Lambda' params tt (its a x alone)) alone) tt (its q y alone) r) m c
  no_step_function : {s : Scope} {st : Sites} {m : Mode} {f r : Con} {p q : Span} {x y : ExpForm} → is_lambda x ≡ false → Breaks names w s st (e.Fold' f tt (its p x alone) tt (its q y alone) r) m no_step
  bad_acc : {s : Scope} {st : Sites} {m : Mode} {f r : Con} {p q a : Span} {params : List LambdaParam} {x y : ExpForm} {t : NormalType × List RowPart} {z : Step} {acc : Scope × Param} {c : Fault} → fold_types w s f r ≡ Some t →
      step_form params ≡ Some z → step_by w s z ≡ Some acc → BreaksWritten acc.0.env z.acc acc.1.of c → Breaks names w s st (e.Fold' f tt (its p (e.Lambda' params tt (its a x alone)) alone) tt (its q y alone) r) m c
  other_acc : {s : Scope} {st : Sites} {m : Mode} {f r : Con} {p q a : Span} {params : List LambdaParam} {x y : ExpForm} {t : NormalType × List RowPart} {acc : Scope × Param} → fold_types w s f r ≡ Some t → step_of w s params ≡ Some acc → is_param acc.0.env acc.1 ≡ true →
      same_type acc.1.of (at_row t.0 (step_rest s.env)) ≡ false → Breaks names w s st (e.Fold' f tt (its p (e.Lambda' params tt (its a x alone)) alone) tt (its q y alone) r) m (types_differ names acc.1.of (at_row t.0 (step_rest s.env)))
  -- the type of the fold of the rest, which is wanted of `acc`, is too large
  large_rest : {s : Scope} {st : Sites} {m : Mode} {f r : Con} {p q a : Span} {params : List LambdaParam} {x y : ExpForm} {t : NormalType × List RowPart} {acc : Scope × Param} → fold_types w s f r ≡ Some t → step_of w s params ≡ Some acc →
      nat_le (type_nodes acc.1.of) w.most ≡ true → nat_le (type_nodes (at_row t.0 (step_rest s.env))) w.most ≡ false → Breaks names w s st (e.Fold' f tt (its p (e.Lambda' params tt (its a x alone)) alone) tt (its q y alone) r) m too_large
  -- literals of XML
  no_sort : {s : Scope} {st : Sites} {m : Mode} {x : Xml} {q r : Shape} {splices : Row_of-Exp (count q)} {attributes : Row_of-Exp (count r)} {t : NormalType} → type_of_mode m ≡ Some t → sort_of t ≡ None →
      Breaks names w s st (e.Xml' x q splices r attributes) m (mismatch (codes "xml") (type_text names t))
  in_literal : {s : Scope} {st : Sites} {m : Mode} {x : Xml} {sort : Sort} {q r : Shape} {splices : Row_of-Exp (count q)} {attributes : Row_of-Exp (count r)} {f : Fault} → literal_sort (row_of_parts x.parts).1 (type_of_mode m) ≡ Some sort →
      BreaksParts names (literal_of w s splices attributes) (place_of sort) _ (row_of_parts x.parts).1 st f → Breaks names w s st (e.Xml' x q splices r attributes) m f
  no_frame : {s : Scope} {st : Sites} {m : Mode} {x : Xml} {sort : Sort} {q r : Shape} {splices : Row_of-Exp (count q)} {attributes : Row_of-Exp (count r)} {d : Refusal} → literal_sort (row_of_parts x.parts).1 (type_of_mode m) ≡ Some sort →
      IsBadFrame sort (items-the_row-XmlPart _ (row_of_parts x.parts).1) d → Breaks names w s st (e.Xml' x q splices r attributes) m (as_refused d)
  -- the fields of a literal that is spliced into forms are not apart
  literal_meets : {s : Scope} {st : Sites} {m : Mode} {x : Xml} {q r : Shape} {splices : Row_of-Exp (count q)} {attributes : Row_of-Exp (count r)} {d : Marked} {a b : List RowPart} → literal_sort (row_of_parts x.parts).1 (type_of_mode m) ≡ Some places.fields →
      parts_out (literal_of w s splices attributes) (row_of_parts x.parts).1 (place_of places.fields) st ≡ Some d → Meets s.env.known d.row a b → Breaks names w s st (e.Xml' x q splices r attributes) m (not_apart a b)

-- a fault that stands in an expression, as it is told
pub record HasFault (names : List (List ℕ)) (w : World) (s : Scope) (st : Sites) (x : ExpForm) (m : Mode) (r : Refusal) : Type 0 where
  pub fault : Fault
  pub scope : Scope
  pub behind : Sites
  pub place : ExpForm
  pub mode : Mode
  pub stands : StandsIn w s st x m scope behind place mode
  pub broken : Breaks names w scope behind place mode fault
  pub told : TellsType names r fault

-- what has a fault is not typed
abbrev pub FaultyIsNone : Type 0
FaultyIsNone = (names : List (List ℕ)) (w : World) (s : Scope) (st : Sites) (x : ExpForm) (m : Mode) (r : Refusal) → HasFault names w s st x m r → typed w x s st m ≡ None
