-- What breaks the rules of arguments, parameters, written types, patterns and tags, and how a refusal tells it.
use Rattle.ur_rows.specs.Kinded.{label_is_in}
use Rattle.ur_tree.specs.Env.{Env, variables, row_is_plain}
use Rattle.ur_typed_rules.specs.Names.{val, declared, local_at}
use Rattle.ur_typed.specs.Rules.{capital_of, says_other, Sites, Out, Walk, Args, function_at, tag_named, args_out}
use Rattle.ur_typed.specs.Folds.{Step, step_form, step_names}
use Rattle.ur_xmltype.specs.Faults.{IsBadTag, place_text}
use Rattle.ur_xmltype.specs.Tags.{label_at as label_of_tag, Node, node_at}
use Rattle.ur_typed.specs.Parts.{is_applied, arg_types}
use Rattle.std.specs.Prelude.{◌≡◌, ◌++◌, nat_le, ℕ, Bool, true, false, List, [], ◌∷◌, map, codes, Option, Some, None, slice_get, Contains}
use mathlib.Core.Former.{Count}
use Rattle.ur_base.specs.Shape.{Shape, count}
use Rattle.ur_base.specs.declared.refusal.Span.{Span}
use Rattle.ur_base.specs.declared.refusal.Refusal.{Refusal}
use Rattle.ur_syntax.specs.Names.{own, member as of_module, name_text}
use Rattle.ur_syntax.specs.declared.con.Con.{Con}
use Rattle.ur_syntax.specs.declared.exp.Binder.{Binder}
use Rattle.ur_syntax.specs.declared.exp.LambdaParam.{LambdaParam}
use Rattle.ur_syntax.specs.declared.exp.LambdaParam.TheVariants as lambda_param
use Rattle.ur_syntax.specs.declared.exp.Param.TheVariants as written_param
use Rattle.ur_syntax.specs.declared.exp.Pat.{Pat}
use Rattle.ur_syntax.specs.declared.exp.ExpForm.{ExpForm, end_of-Exp as alone, more_of-Exp as its, Row_of-Branch, more_of-Branch}
use Rattle.ur_syntax.specs.declared.exp.ExpForm.TheVariants as e
use Rattle.ur_syntax.specs.declared.xml.Attr.{Attr}
use Rattle.ur_syntax.specs.declared.xml.AttrValue.{AttrValue}
use Rattle.ur_syntax.specs.declared.xml.AttrValue.TheVariants as attr_value
use Rattle.ur_syntax.specs.declared.xml.Tag.{Tag as WrittenTag}
use Rattle.ur_syntax.specs.declared.xml.XmlForm.{XmlForm, Row_of-XmlPart, more_of-XmlPart as an_xml}
use Rattle.ur_syntax.specs.declared.xml.XmlForm.TheVariants as form
use Rattle.ur_values.specs.declared.value.FieldKind.{FieldKind}
use Rattle.ur_values.specs.declared.value.Tag.{Tag}
use Rattle.ur_rows.specs.declared.normal.Label.{Label}
use Rattle.ur_rows.specs.declared.normal.Normal.{Normal}
use Rattle.ur_rows.specs.declared.normal.NormalType.{NormalType}
use Rattle.ur_rows.specs.declared.normal.Part.{Part as RowPart}
use Rattle.ur_rows.specs.Made.{record_of}
use Rattle.ur_rows.specs.Nodes.{nodes, type_nodes}
use Rattle.ur_rows.specs.Normal.{nf, known_in}
use Rattle.ur_rows.specs.Put.{as_type, as_row, instance_type}
use Rattle.ur_tree.specs.Text.{type_text, row_text}
use Rattle.ur_tree.specs.Scalars.{is_basic}
use Rattle.ur_tree.specs.Places.{Place, in_form, holds_text, holds_fields, place_type, fields_found}
use Rattle.ur_xmltype.specs.Tags as node
use Rattle.ur_xmltype.specs.Literal.{is_kept, is_end}
use Rattle.ur_tree.specs.declared.exp.Param.{Param}
use Rattle.ur_tree.specs.Heads.{Head, function_type}
use Rattle.ur_tree.specs.Typing.{parameters, are_static_at, are_linkable}
use Rattle.ur_typed_rules.specs.Scopes.{World, Scope, finds}
use Rattle.ur_typed_rules.specs.Tests.{same_type}
use Rattle.ur_typed.specs.Markups.{Literal, Marked, Splice, parts_out, part_out, page_params, without_last, called_at}
use Rattle.ur_typed.specs.Walking.{typed}
use Rattle.ur_typed_rules.specs.Faults.{Fault, unknown, mismatch, not_apart, misplaced, not_so, too_large, unkinded, as_refused, types_differ}
use Rattle.ur_typed_rules.specs.Meeting.{Meets}
use Rattle.ur_typed_rules.specs.Arguments.{BreaksGiven, BreaksLambdaParam, BreaksRow, HasLarge}
use Rattle.ur_typed_rules.specs.Patterns.{BreaksPat}

-- ---- breaches of applications

-- more arguments than types, or fewer
pub data TooMany : List Walk → List NormalType → Type 0 where
  no_type_left : {x : Walk} {xs : List Walk} → TooMany (x ∷ xs) []
  many_behind : {x : Walk} {xs : List Walk} {t : NormalType} {ts : List NormalType} → TooMany xs ts → TooMany (x ∷ xs) (t ∷ ts)

pub data TooFew : List Walk → List NormalType → Type 0 where
  no_argument_left : {t : NormalType} {ts : List NormalType} → TooFew [] (t ∷ ts)
  few_behind : {x : Walk} {xs : List Walk} {t : NormalType} {ts : List NormalType} → TooFew xs ts → TooFew (x ∷ xs) (t ∷ ts)

abbrev pub no_further : Fault
no_further = mismatch (codes "an argument") (codes "no further argument")

abbrev pub missing_argument : Fault
missing_argument = not_so (codes "too few arguments") (codes "all arguments")

-- the constructor arguments that are written behind a name
abbrev pub given_to : ExpForm → List Con
given_to (e.ConApp' _ (its p x alone) c) = given_to x ++ c ∷ []
given_to _ = []

abbrev pub not_named : Fault
not_named = not_so (codes "a constructor argument") (codes "a named function")

abbrev pub is_given : ExpForm → Bool
is_given (e.ConApp' _ x c) = true
is_given _ = false

abbrev pub is_name : ExpForm → Bool
is_name (e.Var x) = true
is_name (e.Member m x) = true
is_name _ = false

-- what has constructor arguments is no named function, or an argument is too large
pub data BreaksNamed (w : World) (s : Scope) : ExpForm → Fault → Type 0 where
  large_argument : {p : Span} {x : ExpForm} {c : Con} {f : ℕ × List Normal} → function_at w s x ≡ Some f → nat_le (nodes (nf s.names.cons c)) w.most ≡ false → BreaksNamed w s (e.ConApp' tt (its p x alone) c) too_large
  named_within : {p : Span} {x : ExpForm} {c : Con} {f : Fault} → BreaksNamed w s x f → BreaksNamed w s (e.ConApp' tt (its p x alone) c) f
  unknown_name : {x : List ℕ} → local_at x s.names.locals ≡ None → declared w.globals (own x) w.globals.values ≡ None → BreaksNamed w s (e.Var x) (unknown x)
  unknown_member : {h x : List ℕ} → declared w.globals (of_module h x) w.globals.values ≡ None → BreaksNamed w s (e.Member h x) (unknown (name_text (Some h) x))
  names_local : {x : List ℕ} {i : Bool × ℕ} → local_at x s.names.locals ≡ Some i → BreaksNamed w s (e.Var x) not_named
  names_val : {x : List ℕ} {v : ℕ} → declared w.globals (own x) w.globals.values ≡ Some (val v) → BreaksNamed w s (e.Var x) not_named
  member_val : {h x : List ℕ} {v : ℕ} → declared w.globals (of_module h x) w.globals.values ≡ Some (val v) → BreaksNamed w s (e.Member h x) not_named
  no_name_there : {x : ExpForm} → is_given x ≡ false → is_name x ≡ false → BreaksNamed w s x not_named

-- the list of walks of written arguments
abbrev pub walks : World → List ExpForm → List Walk
walks w args = map (λ x. typed w x) args

-- what is applied breaks the rule of an application to these arguments
pub data BreaksApplied (names : List (List ℕ)) (w : World) (s : Scope) (st : Sites) : ExpForm → List ExpForm → Fault → Type 0 where
  bad_call : {x : ExpForm} {args : List ExpForm} {f : ℕ × List Normal} {h : Head} {c : Fault} → function_at w s x ≡ Some f → slice_get w.declared.functions f.0 ≡ Some h → BreaksGiven s.env (given_to x) f.1 h.cons c → BreaksApplied names w s st x args c
  large_call : {x : ExpForm} {args : List ExpForm} {f : ℕ × List Normal} {h : Head} → function_at w s x ≡ Some f → slice_get w.declared.functions f.0 ≡ Some h → nat_le (type_nodes (instance_type f.1 (function_type h))) w.most ≡ false →
      BreaksApplied names w s st x args too_large
  too_many : {x : ExpForm} {args : List ExpForm} {f : ℕ × List Normal} {h : Head} → function_at w s x ≡ Some f → slice_get w.declared.functions f.0 ≡ Some h → TooMany (walks w args) (arg_types f h) → BreaksApplied names w s st x args no_further
  too_few : {x : ExpForm} {args : List ExpForm} {f : ℕ × List Normal} {h : Head} → function_at w s x ≡ Some f → slice_get w.declared.functions f.0 ≡ Some h → TooFew (walks w args) (arg_types f h) → BreaksApplied names w s st x args missing_argument
  -- what stands at a static parameter is not static
  moves_in : {x : ExpForm} {args : List ExpForm} {f : ℕ × List Normal} {h : Head} {r : Args × Sites} → function_at w s x ≡ Some f → slice_get w.declared.functions f.0 ≡ Some h →
      args_out s (walks w args) (arg_types f h) st ≡ Some r → are_static_at h.params r.0.1 ≡ false → BreaksApplied names w s st x args (not_so (codes "an argument") (codes "a static expression"))
  -- a constructor of a datatype without argument, or at two
  takes_none : {x : ExpForm} {args : List ExpForm} {n d : ℕ} → function_at w s x ≡ None → tag_named w x ≡ Some n → slice_get w.declared.variants n ≡ Some (d, None) → BreaksApplied names w s st x args no_further
  takes_one : {x y z : ExpForm} {args : List ExpForm} {n : ℕ} → function_at w s x ≡ None → tag_named w x ≡ Some n → BreaksApplied names w s st x (y ∷ z ∷ args) no_further
  too_many_there : {x : ExpForm} {args : List ExpForm} {o : Out} → function_at w s x ≡ None → tag_named w x ≡ None → typed w x s st finds ≡ Some o → TooMany (walks w args) (parameters o.of).0 → BreaksApplied names w s st x args no_further
  too_few_there : {x : ExpForm} {args : List ExpForm} {o : Out} → function_at w s x ≡ None → tag_named w x ≡ None → typed w x s st finds ≡ Some o → TooFew (walks w args) (parameters o.of).0 → BreaksApplied names w s st x args missing_argument

-- what stands at the head of an application and may not: a constructor that nothing declares, or a word that takes no argument
pub data BreaksHead (w : World) : ExpForm → Fault → Type 0 where
  unknown_head : {x : List ℕ} → capital_of x ≡ says_other → declared w.globals (own x) w.globals.constructors ≡ None → BreaksHead w (e.Constructor x) (unknown x)
  unknown_member_head : {h x : List ℕ} → declared w.globals (of_module h x) w.globals.constructors ≡ None → BreaksHead w (e.MemberConstructor h x) (unknown (name_text (Some h) x))
  word_head : {x : List ℕ} → tag_named w (e.Constructor x) ≡ None → (capital_of x ≡ says_other → ⊥) → BreaksHead w (e.Constructor x) no_further

pub data BreaksSpine (names : List (List ℕ)) (w : World) (s : Scope) (st : Sites) : ExpForm → List ExpForm → Fault → Type 0 where
  breaks_further : {p q : Span} {x y : ExpForm} {args : List ExpForm} {f : Fault} → BreaksSpine names w s st x (y ∷ args) f → BreaksSpine names w s st (e.App' tt (its p x alone) tt (its q y alone)) args f
  no_head : {x : ExpForm} {args : List ExpForm} {f : Fault} → is_applied x ≡ false → BreaksHead w x f → BreaksSpine names w s st x args f
  breaks_at_head : {x : ExpForm} {args : List ExpForm} {f : Fault} → is_applied x ≡ false → BreaksApplied names w s st x args f → BreaksSpine names w s st x args f

-- ---- breaches of parameters and of the row of a fold

-- a parameter of a lambda whose type may not be written in its scope, or may not be that of a parameter
pub data BreaksParams (env : Env) : List LambdaParam → List Param → Fault → Type 0 where
  this_param : {l : LambdaParam} {ls : List LambdaParam} {p : Param} {ps : List Param} {f : Fault} → BreaksLambdaParam env l p.of f → BreaksParams env (l ∷ ls) (p ∷ ps) f
  later_param : {l : LambdaParam} {ls : List LambdaParam} {p : Param} {ps : List Param} {f : Fault} → BreaksParams env ls ps f → BreaksParams env (l ∷ ls) (p ∷ ps) f

pub data BreaksFoldRow (names : List (List ℕ)) (w : World) (s : Scope) (c : Con) : Fault → Type 0 where
  no_row : {f : Fault} → BreaksRow w s c f → BreaksFoldRow names w s c f
  row_not_plain : row_is_plain (as_row (nf s.names.cons c)) ≡ false → BreaksFoldRow names w s c (not_so (row_text names (as_row (nf s.names.cons c))) (codes "a row without arrows and transactions"))

-- ---- breaches of the row function of `queryX`, and of the step of a fold

abbrev pub is_row_function : List LambdaParam → Bool
is_row_function (lambda_param.Bare x ∷ []) = true
is_row_function (lambda_param.Typed (written_param.Value x c) ∷ []) = true
is_row_function _ = false

pub data BreaksRowFunction (names : List (List ℕ)) (w : World) (s : Scope) (r : List RowPart) : List LambdaParam → Fault → Type 0 where
  other_row_function : {ps : List LambdaParam} → is_row_function ps ≡ false → BreaksRowFunction names w s r ps (not_so (codes "a row function") (codes "one variable"))
  large_row_type : {x : Binder} {c : Con} → nat_le (nodes (nf s.names.cons c)) w.most ≡ false → BreaksRowFunction names w s r (lambda_param.Typed (written_param.Value x c) ∷ []) too_large
  other_row_type : {x : Binder} {c : Con} → same_type (as_type (nf s.names.cons c)) (record_of r) ≡ false →
      BreaksRowFunction names w s r (lambda_param.Typed (written_param.Value x c) ∷ []) (types_differ names (as_type (nf s.names.cons c)) (record_of r))

abbrev pub no_step : Fault
no_step = not_so (codes "the step of a fold") (codes "fn [nm :: Name] [t :: Type] [rest :: {Type}] [[nm] ~ rest] (acc : c) => e")

pub data BreaksStep (w : World) (s : Scope) : List LambdaParam → Fault → Type 0 where
  other_step : {ps : List LambdaParam} → step_form ps ≡ None → BreaksStep w s ps no_step
  large_acc : {ps : List LambdaParam} {p : Step} → step_form ps ≡ Some p → HasLarge w.most (step_names p s.names) p.acc → BreaksStep w s ps too_large

-- ---- breaches of a case

-- a pattern of the branches that breaks its rule, for a value of this type
pub data BreaksPattern (names : List (List ℕ)) (w : World) (u : NormalType) : (n : Count) → Row_of-Branch n → Fault → Type 0 where
  this_pattern : {n : Count} {t : Pat} {p : Span} {x : ExpForm} {rest : Row_of-Branch n} {f : Fault} → BreaksPat names w u t.form f → BreaksPattern names w u _ (more_of-Branch t p x rest) f
  later_pattern : {n : Count} {t : Pat} {p : Span} {x : ExpForm} {rest : Row_of-Branch n} {f : Fault} → BreaksPattern names w u _ rest f → BreaksPattern names w u _ (more_of-Branch t p x rest) f

-- ---- breaches of XML

abbrev pub no_link_target : Fault
no_link_target = not_so (codes "a link") (codes "a call of a page function")

abbrev pub no_action_target : Fault
no_action_target = not_so (codes "an action") (codes "a call of a page function")

abbrev pub too_many_given : Fault
too_many_given = not_so (codes "too many arguments") (codes "the arguments of a page function")

abbrev pub not_linkable : Fault
not_linkable = not_so (codes "a parameter") (codes "int, string, bool or unit")

mutual
  pub data BreaksParts (names : List (List ℕ)) (l : Literal) : Place → (n : Count) → Row_of-XmlPart n → Sites → Fault → Type 0 where
    breaks_first : {n : Count} {p : Place} {at : Span} {x : XmlForm} {rest : Row_of-XmlPart n} {st : Sites} {f : Fault} → BreaksPart names l p x st f → BreaksParts names l p _ (an_xml at x rest) st f
    breaks_later : {n : Count} {p : Place} {at : Span} {x : XmlForm} {rest : Row_of-XmlPart n} {st : Sites} {f : Fault} {d : Marked} → part_out l x p st ≡ Some d → BreaksParts names l p _ rest d.sites f → BreaksParts names l p _ (an_xml at x rest) st f

  pub data BreaksPart (names : List (List ℕ)) (l : Literal) : Place → XmlForm → Sites → Fault → Type 0 where
    no_text : {p : Place} {x : List ℕ} {st : Sites} → is_kept p x ≡ true → holds_text p ≡ false → BreaksPart names l p (form.Text x) st (misplaced (codes "text") (place_text p))
    -- a literal that the parser gives has each antiquote that it names
    no_antiquote_shown : {p : Place} {n : ℕ} {st : Sites} → slice_get l.splices n ≡ None → BreaksPart names l p (form.Show n) st (misplaced (codes "no antiquote") (place_text p))
    no_antiquote_spliced : {p : Place} {n : ℕ} {st : Sites} → slice_get l.splices n ≡ None → BreaksPart names l p (form.Splice n) st (misplaced (codes "no antiquote") (place_text p))
    no_shown : {p : Place} {n : ℕ} {st : Sites} → holds_text p ≡ false → BreaksPart names l p (form.Show n) st (misplaced (codes "text") (place_text p))
    not_basic : {p : Place} {n : ℕ} {st : Sites} {o : Out} {x : Splice} → slice_get l.splices n ≡ Some x → x.walk l.scope st finds ≡ Some o → is_basic o.of ≡ false → BreaksPart names l p (form.Show n) st (misplaced (type_text names o.of) (place_text p))
    no_splice : {p : Place} {n : ℕ} {st : Sites} → holds_fields p ≡ false → place_type p ≡ None → BreaksPart names l p (form.Splice n) st (misplaced (codes "{e}") (place_text p))
    no_fields_found : {p : Place} {n : ℕ} {st : Sites} {o : Out} {x : Splice} → holds_fields p ≡ true → slice_get l.splices n ≡ Some x → x.lacks ≡ false → x.walk l.scope st finds ≡ Some o → fields_found o.of ≡ None →
        BreaksPart names l p (form.Splice n) st (misplaced (type_text names o.of) (place_text p))
    no_node : {p : Place} {t : WrittenTag} {attrs : List Attr} {k : Shape} {inner : Row_of-XmlPart (count k)} {st : Sites} {r : Refusal} → IsBadTag (label_of_tag (known_in l.scope.names.cons) t.field) p t attrs (is_end inner) r →
        BreaksPart names l p (form.Element' t attrs k inner) st (as_refused r)
    at_node : {p : Place} {t : WrittenTag} {attrs : List Attr} {k : Shape} {inner : Row_of-XmlPart (count k)} {st : Sites} {g : Node} {f : Fault} → node_at (known_in l.scope.names.cons) p t attrs (is_end inner) ≡ Some g →
        BreaksNode names l p _ inner st g f → BreaksPart names l p (form.Element' t attrs k inner) st f

  -- a tag of which it is told what it is at its place
  pub data BreaksNode (names : List (List ℕ)) (l : Literal) : Place → (n : Count) → Row_of-XmlPart n → Sites → Node → Fault → Type 0 where
    within_element : {p q : Place} {g : Tag} {n : Count} {inner : Row_of-XmlPart n} {st : Sites} {f : Fault} → BreaksParts names l q _ inner st f → BreaksNode names l p _ inner st (node.element g q) f
    within_form : {p : Place} {n : Count} {inner : Row_of-XmlPart n} {st : Sites} {f : Fault} → BreaksParts names l in_form _ inner st f → BreaksNode names l p _ inner st node.form f
    within_link : {p : Place} {i : ℕ} {n : Count} {inner : Row_of-XmlPart n} {st : Sites} {f : Fault} {c : ℕ × List Walk} {ts : List NormalType} {r : Args × Sites} → called_at l i ≡ Some c → page_params l.declared c.0 ≡ Some ts →
        args_out l.scope c.1 ts st ≡ Some r → BreaksParts names l p _ inner r.1 f → BreaksNode names l p _ inner st (node.link i) f
    -- the fields of a form meet
    fields_meet : {p : Place} {n : Count} {inner : Row_of-XmlPart n} {st : Sites} {d : Marked} {a b : List RowPart} → parts_out l inner in_form st ≡ Some d → Meets l.scope.env.known d.row a b → BreaksNode names l p _ inner st node.form (not_apart a b)
    -- a button's function does not take the record of the form's fields
    other_record : {p : Place} {n : Count} {inner : Row_of-XmlPart n} {st : Sites} {d : Marked} {u : NormalType} → parts_out l inner in_form st ≡ Some d → Contains d.waiting u → same_type (record_of d.row) u ≡ false →
        BreaksNode names l p _ inner st node.form (mismatch (type_text names (record_of d.row)) (type_text names u))
    -- the name of a field is a variable that is no name in scope
    no_label : {p : Place} {k : FieldKind} {x : Label} {v : Option AttrValue} {n : Count} {inner : Row_of-XmlPart n} {st : Sites} → label_is_in (variables l.scope.env) x ≡ false → BreaksNode names l p _ inner st (node.input k x v) (unkinded (codes "another kind") (codes "Name"))
    no_value_given : {p : Place} {k : FieldKind} {x : Label} {j : ℕ} {n : Count} {inner : Row_of-XmlPart n} {st : Sites} → slice_get l.attributes j ≡ None → BreaksNode names l p _ inner st (node.input k x (Some (attr_value.Exp j))) (misplaced (codes "no antiquote") (place_text p))
    no_value_sent : {p : Place} {i j : ℕ} {n : Count} {inner : Row_of-XmlPart n} {st : Sites} → slice_get l.attributes j ≡ None → BreaksNode names l p _ inner st (node.submit i (Some (attr_value.Exp j))) (misplaced (codes "no antiquote") (place_text p))
    -- a target that is no page function, or that cannot be linked
    no_call : {p : Place} {i : ℕ} {n : Count} {inner : Row_of-XmlPart n} {st : Sites} → called_at l i ≡ None → BreaksNode names l p _ inner st (node.link i) no_link_target
    no_page : {p : Place} {i : ℕ} {n : Count} {inner : Row_of-XmlPart n} {st : Sites} {c : ℕ × List Walk} → called_at l i ≡ Some c → page_params l.declared c.0 ≡ None → BreaksNode names l p _ inner st (node.link i) no_link_target
    no_link : {p : Place} {i : ℕ} {n : Count} {inner : Row_of-XmlPart n} {st : Sites} {c : ℕ × List Walk} {ts : List NormalType} → called_at l i ≡ Some c → page_params l.declared c.0 ≡ Some ts → are_linkable ts ≡ false →
        BreaksNode names l p _ inner st (node.link i) not_linkable
    many_linked : {p : Place} {i : ℕ} {n : Count} {inner : Row_of-XmlPart n} {st : Sites} {c : ℕ × List Walk} {ts : List NormalType} → called_at l i ≡ Some c → page_params l.declared c.0 ≡ Some ts → TooMany c.1 ts → BreaksNode names l p _ inner st (node.link i) too_many_given
    few_linked : {p : Place} {i : ℕ} {n : Count} {inner : Row_of-XmlPart n} {st : Sites} {c : ℕ × List Walk} {ts : List NormalType} → called_at l i ≡ Some c → page_params l.declared c.0 ≡ Some ts → TooFew c.1 ts → BreaksNode names l p _ inner st (node.link i) missing_argument
    no_action : {p : Place} {i : ℕ} {v : Option AttrValue} {n : Count} {inner : Row_of-XmlPart n} {st : Sites} → called_at l i ≡ None → BreaksNode names l p _ inner st (node.submit i v) no_action_target
    no_page_action : {p : Place} {i : ℕ} {v : Option AttrValue} {n : Count} {inner : Row_of-XmlPart n} {st : Sites} {c : ℕ × List Walk} → called_at l i ≡ Some c → page_params l.declared c.0 ≡ None → BreaksNode names l p _ inner st (node.submit i v) no_action_target
    no_form_taken : {p : Place} {i : ℕ} {v : Option AttrValue} {n : Count} {inner : Row_of-XmlPart n} {st : Sites} {c : ℕ × List Walk} → called_at l i ≡ Some c → page_params l.declared c.0 ≡ Some [] → BreaksNode names l p _ inner st (node.submit i v) no_action_target
    not_in_path : {p : Place} {i : ℕ} {v : Option AttrValue} {n : Count} {inner : Row_of-XmlPart n} {st : Sites} {c : ℕ × List Walk} {ps : List NormalType} {ts : List NormalType × NormalType} → called_at l i ≡ Some c → page_params l.declared c.0 ≡ Some ps →
        without_last ps ≡ Some ts → are_linkable ts.0 ≡ false → BreaksNode names l p _ inner st (node.submit i v) not_linkable
    many_acting : {p : Place} {i : ℕ} {v : Option AttrValue} {n : Count} {inner : Row_of-XmlPart n} {st : Sites} {c : ℕ × List Walk} {ps : List NormalType} {ts : List NormalType × NormalType} → called_at l i ≡ Some c → page_params l.declared c.0 ≡ Some ps →
        without_last ps ≡ Some ts → TooMany c.1 ts.0 → BreaksNode names l p _ inner st (node.submit i v) too_many_given
    few_acting : {p : Place} {i : ℕ} {v : Option AttrValue} {n : Count} {inner : Row_of-XmlPart n} {st : Sites} {c : ℕ × List Walk} {ps : List NormalType} {ts : List NormalType × NormalType} → called_at l i ≡ Some c → page_params l.declared c.0 ≡ Some ps →
        without_last ps ≡ Some ts → TooFew c.1 ts.0 → BreaksNode names l p _ inner st (node.submit i v) missing_argument
