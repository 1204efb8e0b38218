-- The parts of a written expression, each in its scope, with what is wanted of it and the statements before it, which come from what
-- the walk gives of the parts before it.
use Rattle.std.specs.Prelude.{◌≡◌, length, option_map, ℕ, Bool, true, false, List, [], ◌∷◌, map, Option, Some, None, slice_get}
use mathlib.Core.Former.{Count}
use Rattle.ur_base.specs.Shape.{Shape, count}
use Rattle.ur_base.specs.declared.refusal.Span.{Span}
use Rattle.ur_syntax.specs.declared.con.Con.{Con}
use Rattle.ur_syntax.specs.declared.con.FieldName.{FieldName}
use Rattle.ur_syntax.specs.declared.sql.DeclName.{DeclName}
use Rattle.ur_syntax.specs.declared.sql.SqlQuery.{SqlQuery}
use Rattle.ur_syntax.specs.declared.sql.SqlChange.{SqlChange}
use Rattle.ur_syntax.specs.declared.exp.Binary.{Binary as WrittenBinary}
use Rattle.ur_syntax.specs.declared.exp.Binder.{Binder}
use Rattle.ur_syntax.specs.declared.exp.Binder.TheVariants as binder
use Rattle.ur_syntax.specs.declared.exp.LambdaParam.{LambdaParam}
use Rattle.ur_syntax.specs.declared.exp.Pat.{Pat}
use Rattle.ur_syntax.specs.declared.exp.QueryWord.{QueryWord}
use Rattle.ur_syntax.specs.declared.exp.Removed.{Removed}
use Rattle.ur_syntax.specs.declared.exp.ExpForm.{ExpForm, Row_of-Exp, end_of-Exp as alone, more_of-Exp as its, Row_of-Field, more_of-Field, Row_of-Branch, more_of-Branch, Row_of-LetVal, end_of-LetVal, more_of-LetVal}
use Rattle.ur_syntax.specs.declared.exp.ExpForm.TheVariants as e
use Rattle.ur_syntax.specs.declared.xml.Attr.{Attr}
use Rattle.ur_syntax.specs.declared.xml.AttrValue.{AttrValue}
use Rattle.ur_syntax.specs.declared.xml.AttrValue.TheVariants as attr_value
use Rattle.ur_syntax.specs.declared.xml.Tag.{Tag as WrittenTag}
use Rattle.ur_syntax.specs.declared.xml.Xml.{Xml}
use Rattle.ur_syntax.specs.declared.xml.XmlForm.{XmlForm, Row_of-XmlPart, more_of-XmlPart as an_xml}
use Rattle.ur_syntax.specs.declared.xml.XmlForm.TheVariants as form
use Rattle.ur_values.specs.declared.schema.ColumnKind.{ColumnKind}
use Rattle.ur_values.specs.declared.value.FieldKind.{FieldKind}
use Rattle.ur_values.specs.declared.value.Tag.{Tag}
use Rattle.ur_terms.specs.declared.term.Pattern.{Pattern}
use Rattle.ur_sql.specs.declared.query.Query.{Query}
use Rattle.ur_rows.specs.declared.normal.Label.{Label}
use Rattle.ur_rows.specs.declared.normal.Normal.{Normal}
use Rattle.ur_rows.specs.declared.normal.NormalType.{NormalType}
use Rattle.ur_rows.specs.declared.normal.NormalType.TheVariants as ty
use Rattle.ur_rows.specs.declared.normal.Part.{Part as RowPart}
use Rattle.ur_rows.specs.Made.{record_of}
use Rattle.ur_rows.specs.Normal.{known_in}
use Rattle.ur_rows.specs.Put.{instance_type}
use Rattle.ur_rows.specs.Types.{at_row}
use Rattle.ur_tree.specs.Scalars.{kind_type}
use Rattle.ur_tree.specs.QueryRow.{query_row}
use Rattle.ur_tree.specs.Places.{Place, in_form, holds_fields, place_type, Sort, place_of}
use Rattle.ur_xmltype.specs.Tags.{node_at}
use Rattle.ur_xmltype.specs.Tags as node
use Rattle.ur_xmltype.specs.Literal.{is_end, literal_sort, row_of_parts}
use Rattle.ur_tree.specs.declared.exp.Param.{Param}
use Rattle.ur_tree.specs.Heads.{Head}
use Rattle.ur_tree.specs.Typing.{operation, parameters, step_row}
use Rattle.ur_typed_rules.specs.Names.{Local}
use Rattle.ur_typed_rules.specs.Lacking.{lacks_type}
use Rattle.ur_typed.specs.Resolves.{IsAntiquote}
use Rattle.ur_typed_rules.specs.Scopes.{World, Scope, Mode, finds, wants, within_binder, within_branch, within_params, of_option, of_transaction, of_field, of_result, type_of_mode}
use Rattle.ur_typed.specs.Rules.{Sites, Out, Walk, Args, Antiquotes, function_at, function_named, tag_named, args_out, operator_of, left_mode, right_mode, cookie_at, with_query_slot, with_change_slot, with_query, query_at, row_param}
use Rattle.ur_typed.specs.Folds.{fold_types, step_of}
use Rattle.ur_typed.specs.Markups.{Literal, Marked, part_out, page_params, without_last, called_at}
use Rattle.ur_typed.specs.Walking.{typed, antiquotes_walk, step_walk, splices_walk, attributes_walk}
use Rattle.ur_typed_rules.specs.Rules.{value_of, pattern_of, bound_in, written_type, Params, params_out, label_at}

-- ---- the parts of an expression, each with the scope, the statements before it, and what is wanted of it

-- one of some arguments against types
pub data InArgs (w : World) (s : Scope) : List ExpForm → List NormalType → Sites → Sites → ExpForm → Mode → Type 0 where
  this_arg : {x : ExpForm} {xs : List ExpForm} {t : NormalType} {ts : List NormalType} {st : Sites} → InArgs w s (x ∷ xs) (t ∷ ts) st st x (wants t)
  later_arg : {x y : ExpForm} {xs : List ExpForm} {t : NormalType} {ts : List NormalType} {st su : Sites} {m : Mode} {o : Out} → typed w x s st (wants t) ≡ Some o → InArgs w s xs ts o.sites su y m →
      InArgs w s (x ∷ xs) (t ∷ ts) st su y m

abbrev pub arg_types : ℕ × List Normal → Head → List NormalType
arg_types f h = map (λ p. instance_type f.1 p.of) h.params

-- the head of an application, or one of its arguments
pub data InCall (w : World) (s : Scope) : ExpForm → List ExpForm → Sites → Sites → ExpForm → Mode → Type 0 where
  of_named : {x y : ExpForm} {args : List ExpForm} {st su : Sites} {m : Mode} {f : ℕ × List Normal} {h : Head} → function_at w s x ≡ Some f → slice_get w.declared.functions f.0 ≡ Some h →
      InArgs w s args (arg_types f h) st su y m → InCall w s x args st su y m
  of_built : {x y : ExpForm} {st : Sites} {n d : ℕ} {t : NormalType} → function_at w s x ≡ None → tag_named w x ≡ Some n → slice_get w.declared.variants n ≡ Some (d, Some t) → InCall w s x (y ∷ []) st st y (wants t)
  of_head : {x : ExpForm} {args : List ExpForm} {st : Sites} → function_at w s x ≡ None → tag_named w x ≡ None → InCall w s x args st st x finds
  of_applied : {x y : ExpForm} {args : List ExpForm} {st su : Sites} {m : Mode} {o : Out} → function_at w s x ≡ None → tag_named w x ≡ None → typed w x s st finds ≡ Some o →
      InArgs w s args (parameters o.of).0 o.sites su y m → InCall w s x args st su y m

abbrev pub is_applied : ExpForm → Bool
is_applied (e.App' _ x _ y) = true
is_applied _ = false

pub data InSpine (w : World) (s : Scope) : ExpForm → List ExpForm → Sites → Sites → ExpForm → Mode → Type 0 where
  further : {p q : Span} {x y z : ExpForm} {args : List ExpForm} {st su : Sites} {m : Mode} → InSpine w s x (y ∷ args) st su z m → InSpine w s (e.App' tt (its p x alone) tt (its q y alone)) args st su z m
  at_head : {x y : ExpForm} {args : List ExpForm} {st su : Sites} {m : Mode} → is_applied x ≡ false → InCall w s x args st su y m → InSpine w s x args st su y m

pub data InFields (w : World) (s : Scope) (m : Mode) : (n : Count) → Row_of-Field n → Sites → Sites → ExpForm → Mode → Type 0 where
  this_field : {n : Count} {f : FieldName} {p : Span} {x : ExpForm} {rest : Row_of-Field n} {st : Sites} → InFields w s m _ (more_of-Field f p x rest) st st x (of_field (label_at s f) m)
  later_field : {n : Count} {f : FieldName} {p : Span} {x y : ExpForm} {rest : Row_of-Field n} {st su : Sites} {m' : Mode} {o : Out} → typed w x s st (of_field (label_at s f) m) ≡ Some o →
      InFields w s m _ rest o.sites su y m' → InFields w s m _ (more_of-Field f p x rest) st su y m'

-- a branch, in the scope of what its pattern binds
pub data InBranches (w : World) (s : Scope) (u : NormalType) : (n : Count) → Row_of-Branch n → Sites → Mode → Scope → Sites → ExpForm → Mode → Type 0 where
  this_branch : {n : Count} {t : Pat} {p : Span} {x : ExpForm} {rest : Row_of-Branch n} {st : Sites} {m : Mode} {q : List Local × Pattern} {bound : List NormalType} → pattern_of w.globals t.form ≡ Some q →
      bound_in w u q ≡ Some bound → InBranches w s u _ (more_of-Branch t p x rest) st m (within_branch q.0 bound s) st x m
  later_branch : {n : Count} {t : Pat} {p : Span} {x y : ExpForm} {rest : Row_of-Branch n} {st su : Sites} {m m' : Mode} {s' : Scope} {q : List Local × Pattern} {bound : List NormalType} {o : Out} →
      pattern_of w.globals t.form ≡ Some q → bound_in w u q ≡ Some bound → typed w x (within_branch q.0 bound s) st m ≡ Some o → InBranches w s u _ rest o.sites (wants o.of) s' su y m' →
      InBranches w s u _ (more_of-Branch t p x rest) st m s' su y m'

-- the `val`s of a `let`, and its body
pub data InVals (w : World) (b : ExpForm) (m : Mode) : (n : Count) → Row_of-LetVal n → Scope → Sites → Scope → Sites → ExpForm → Mode → Type 0 where
  this_val : {n : Count} {x : List ℕ} {c : Con} {p q : Span} {a : ExpForm} {rest : Row_of-LetVal n} {s : Scope} {st : Sites} {u : NormalType} → written_type w s c ≡ Some u →
      InVals w b m _ (more_of-LetVal p x c q a rest) s st s st a (wants u)
  later_val : {n : Count} {x : List ℕ} {c : Con} {p q : Span} {a y : ExpForm} {rest : Row_of-LetVal n} {s s' : Scope} {st su : Sites} {m' : Mode} {u : NormalType} {o : Out} → written_type w s c ≡ Some u →
      typed w a s st (wants u) ≡ Some o → InVals w b m _ rest (within_binder (binder.Named x) u s) o.sites s' su y m' → InVals w b m _ (more_of-LetVal p x c q a rest) s st s' su y m'
  let_body : {s : Scope} {st : Sites} → InVals w b m _ end_of-LetVal s st s st b m

pub data InAntiquotes (w : World) (s : Scope) : (n : Count) → Row_of-Exp n → Sites → Sites → ExpForm → Type 0 where
  this_antiquote : {n : Count} {p : Span} {x : ExpForm} {rest : Row_of-Exp n} {st : Sites} → InAntiquotes w s _ (its p x rest) st st x
  later_antiquote : {n : Count} {p : Span} {x y : ExpForm} {rest : Row_of-Exp n} {st su : Sites} {o : Out} → typed w x s st finds ≡ Some o → InAntiquotes w s _ rest o.sites su y → InAntiquotes w s _ (its p x rest) st su y

-- the first field of a record
pub data FirstField : (n : Count) → Row_of-Field n → (k : Count) → FieldName → ExpForm → Row_of-Field k → Type 0 where
  first_field : {k : Count} {f : FieldName} {p : Span} {x : ExpForm} {rest : Row_of-Field k} → FirstField _ (more_of-Field f p x rest) _ f x rest

-- ---- the expressions of a literal of XML

-- the literal with what its splices and attributes are
abbrev pub literal_of : World → Scope → {a c : Count} → Row_of-Exp a → Row_of-Exp c → Literal
literal_of w s splices attributes = record { declared = w.declared; scope = s; splices = splices_walk w splices; attributes = attributes_walk w attributes s }

-- what is wanted of a splice in a form
abbrev pub form_mode : Bool → Mode
form_mode true = wants ty.Xbody
form_mode false = finds

-- an argument of the target of a link or button, `ts` being the types that are wanted where its function has these parameters
pub data InTarget (w : World) (s : Scope) (wanted : List NormalType → Option (List NormalType)) : ExpForm → List ExpForm → Sites → Sites → ExpForm → Mode → Type 0 where
  target_further : {p q : Span} {x y z : ExpForm} {args : List ExpForm} {st su : Sites} {m : Mode} → InTarget w s wanted x (y ∷ args) st su z m → InTarget w s wanted (e.App' tt (its p x alone) tt (its q y alone)) args st su z m
  target_head : {x y : ExpForm} {args : List ExpForm} {st su : Sites} {m : Mode} {f : ℕ} {ps ts : List NormalType} → is_applied x ≡ false → function_named w s x ≡ Some f → page_params w.declared f ≡ Some ps →
      wanted ps ≡ Some ts → InArgs w s args ts st su y m → InTarget w s wanted x args st su y m

abbrev pub all_types : List NormalType → Option (List NormalType)
all_types ts = Some ts

abbrev pub first_types : List NormalType × NormalType → List NormalType
first_types r = r.0

abbrev pub all_but_last : List NormalType → Option (List NormalType)
all_but_last ts = option_map first_types (without_last ts)

mutual
  pub data InParts (w : World) (s : Scope) (a : Count) (splices : Row_of-Exp a) (c : Count) (attributes : Row_of-Exp c) : Place → (n : Count) → Row_of-XmlPart n → Sites → Sites → ExpForm → Mode → Type 0 where
    in_first : {n : Count} {p : Place} {at : Span} {x : XmlForm} {rest : Row_of-XmlPart n} {st su : Sites} {y : ExpForm} {m : Mode} → InPart w s a splices c attributes p x st su y m →
        InParts w s a splices c attributes p _ (an_xml at x rest) st su y m
    in_later : {n : Count} {p : Place} {at : Span} {x : XmlForm} {rest : Row_of-XmlPart n} {st su : Sites} {y : ExpForm} {m : Mode} {d : Marked} → part_out (literal_of w s splices attributes) x p st ≡ Some d →
        InParts w s a splices c attributes p _ rest d.sites su y m → InParts w s a splices c attributes p _ (an_xml at x rest) st su y m

  pub data InPart (w : World) (s : Scope) (a : Count) (splices : Row_of-Exp a) (c : Count) (attributes : Row_of-Exp c) : Place → XmlForm → Sites → Sites → ExpForm → Mode → Type 0 where
    in_shown : {p : Place} {n : ℕ} {y : ExpForm} {st : Sites} → IsAntiquote _ splices n y → InPart w s a splices c attributes p (form.Show n) st st y finds
    in_field_splice : {p : Place} {n : ℕ} {y : ExpForm} {st : Sites} → holds_fields p ≡ true → IsAntiquote _ splices n y → InPart w s a splices c attributes p (form.Splice n) st st y (form_mode (lacks_type y))
    in_splice : {p : Place} {n : ℕ} {y : ExpForm} {st : Sites} {t : NormalType} → holds_fields p ≡ false → place_type p ≡ Some t → IsAntiquote _ splices n y → InPart w s a splices c attributes p (form.Splice n) st st y (wants t)
    in_element : {p q : Place} {t : WrittenTag} {attrs : List Attr} {g : Tag} {k : Shape} {inner : Row_of-XmlPart (count k)} {st su : Sites} {y : ExpForm} {m : Mode} →
        node_at (known_in s.names.cons) p t attrs (is_end inner) ≡ Some (node.element g q) → InParts w s a splices c attributes q _ inner st su y m → InPart w s a splices c attributes p (form.Element' t attrs k inner) st su y m
    in_a_form : {p : Place} {t : WrittenTag} {attrs : List Attr} {k : Shape} {inner : Row_of-XmlPart (count k)} {st su : Sites} {y : ExpForm} {m : Mode} →
        node_at (known_in s.names.cons) p t attrs (is_end inner) ≡ Some node.form → InParts w s a splices c attributes in_form _ inner st su y m → InPart w s a splices c attributes p (form.Element' t attrs k inner) st su y m
    in_link : {p : Place} {t : WrittenTag} {attrs : List Attr} {i : ℕ} {k : Shape} {inner : Row_of-XmlPart (count k)} {st su : Sites} {y : ExpForm} {m : Mode} {f : ℕ × List Walk} {ts : List NormalType} {r : Args × Sites} →
        node_at (known_in s.names.cons) p t attrs (is_end inner) ≡ Some (node.link i) → called_at (literal_of w s splices attributes) i ≡ Some f → page_params w.declared f.0 ≡ Some ts → args_out s f.1 ts st ≡ Some r →
        InParts w s a splices c attributes p _ inner r.1 su y m → InPart w s a splices c attributes p (form.Element' t attrs k inner) st su y m
    in_link_target : {p : Place} {t : WrittenTag} {attrs : List Attr} {i : ℕ} {k : Shape} {inner : Row_of-XmlPart (count k)} {st su : Sites} {x y : ExpForm} {m : Mode} →
        node_at (known_in s.names.cons) p t attrs (is_end inner) ≡ Some (node.link i) → IsAntiquote _ attributes i x → InTarget w s all_types x [] st su y m → InPart w s a splices c attributes p (form.Element' t attrs k inner) st su y m
    in_submit_target : {p : Place} {t : WrittenTag} {attrs : List Attr} {i : ℕ} {v : Option AttrValue} {k : Shape} {inner : Row_of-XmlPart (count k)} {st su : Sites} {x y : ExpForm} {m : Mode} →
        node_at (known_in s.names.cons) p t attrs (is_end inner) ≡ Some (node.submit i v) → IsAntiquote _ attributes i x → InTarget w s all_but_last x [] st su y m → InPart w s a splices c attributes p (form.Element' t attrs k inner) st su y m
    in_input_value : {p : Place} {t : WrittenTag} {attrs : List Attr} {f : FieldKind} {l : Label} {j : ℕ} {k : Shape} {inner : Row_of-XmlPart (count k)} {st : Sites} {y : ExpForm} →
        node_at (known_in s.names.cons) p t attrs (is_end inner) ≡ Some (node.input f l (Some (attr_value.Exp j))) → IsAntiquote _ attributes j y → InPart w s a splices c attributes p (form.Element' t attrs k inner) st st y (wants ty.Str)
    in_submit_value : {p : Place} {t : WrittenTag} {attrs : List Attr} {i j : ℕ} {k : Shape} {inner : Row_of-XmlPart (count k)} {st : Sites} {y : ExpForm} {f : ℕ × List Walk} {ps : List NormalType} {ts : List NormalType × NormalType} {r : Args × Sites} →
        node_at (known_in s.names.cons) p t attrs (is_end inner) ≡ Some (node.submit i (Some (attr_value.Exp j))) → called_at (literal_of w s splices attributes) i ≡ Some f → page_params w.declared f.0 ≡ Some ps →
        without_last ps ≡ Some ts → args_out s f.1 ts.0 st ≡ Some r → IsAntiquote _ attributes j y → InPart w s a splices c attributes p (form.Element' t attrs k inner) st r.1 y (wants ty.Str)

-- In the first expression, in its scope, behind these statements and with what is wanted of it, the second one is a part.
pub data Part (w : World) : Scope → Sites → ExpForm → Mode → Scope → Sites → ExpForm → Mode → Type 0 where
  negated : {s : Scope} {st : Sites} {m : Mode} {p : Span} {x : ExpForm} → Part w s st (e.Negative' tt (its p x alone)) m s st x (wants ty.Int)
  denied : {s : Scope} {st : Sites} {m : Mode} {p : Span} {x : ExpForm} → Part w s st (e.Not' tt (its p x alone)) m s st x (wants ty.Bool)
  shown : {s : Scope} {st : Sites} {m : Mode} {p : Span} {x : ExpForm} → Part w s st (e.Show' tt (its p x alone)) m s st x finds
  present : {s : Scope} {st : Sites} {m : Mode} {p : Span} {x : ExpForm} → Part w s st (e.Some' tt (its p x alone)) m s st x (of_option m)
  returned : {s : Scope} {st : Sites} {m : Mode} {p : Span} {x : ExpForm} → Part w s st (e.Return' tt (its p x alone)) m s st x (of_transaction m)
  failed : {s : Scope} {st : Sites} {t : NormalType} {p : Span} {x : ExpForm} → Part w s st (e.Error' tt (its p x alone)) (wants t) s st x (wants ty.Xbody)
  left_side : {s : Scope} {st : Sites} {m : Mode} {o : WrittenBinary} {p q : Span} {x y : ExpForm} → Part w s st (e.Binary' o tt (its p x alone) tt (its q y alone)) m s st x (left_mode (operation (operator_of o)) m)
  right_side : {s : Scope} {st : Sites} {m : Mode} {o : WrittenBinary} {p q : Span} {x y : ExpForm} {d : Out} → typed w x s st (left_mode (operation (operator_of o)) m) ≡ Some d →
      Part w s st (e.Binary' o tt (its p x alone) tt (its q y alone)) m s d.sites y (right_mode (operation (operator_of o)) d.of)
  condition : {s : Scope} {st : Sites} {m : Mode} {p q r : Span} {x y z : ExpForm} → Part w s st (e.If' tt (its p x alone) tt (its q y alone) tt (its r z alone)) m s st x (wants ty.Bool)
  yes_side : {s : Scope} {st : Sites} {m : Mode} {p q r : Span} {x y z : ExpForm} {d : Out} → typed w x s st (wants ty.Bool) ≡ Some d → Part w s st (e.If' tt (its p x alone) tt (its q y alone) tt (its r z alone)) m s d.sites y m
  no_side : {s : Scope} {st : Sites} {m : Mode} {p q r : Span} {x y z : ExpForm} {d b : Out} → typed w x s st (wants ty.Bool) ≡ Some d → typed w y s d.sites m ≡ Some b →
      Part w s st (e.If' tt (its p x alone) tt (its q y alone) tt (its r z alone)) m s b.sites z (wants b.of)
  scrutinee : {s : Scope} {st : Sites} {m : Mode} {p : Span} {x : ExpForm} {n : Shape} {branches : Row_of-Branch (count n)} → Part w s st (e.Case' tt (its p x alone) n branches) m s st x finds
  branch : {s s' : Scope} {st su : Sites} {m m' : Mode} {p : Span} {x y : ExpForm} {n : Shape} {branches : Row_of-Branch (count n)} {d : Out} → typed w x s st finds ≡ Some d →
      InBranches w s d.of _ branches d.sites m s' su y m' → Part w s st (e.Case' tt (its p x alone) n branches) m s' su y m'
  in_let : {s s' : Scope} {st su : Sites} {m m' : Mode} {n : Shape} {vals : Row_of-LetVal (count n)} {r : Span} {y z : ExpForm} → InVals w z m _ vals s st s' su y m' → Part w s st (e.Let' n vals tt (its r z alone)) m s' su y m'
  first : {s : Scope} {st : Sites} {m : Mode} {x : Binder} {p q : Span} {y z : ExpForm} → Part w s st (e.Bind' x tt (its p y alone) tt (its q z alone)) m s st y finds
  second : {s : Scope} {st : Sites} {m : Mode} {x : Binder} {p q : Span} {y z : ExpForm} {d : Out} {u : NormalType} → typed w y s st finds ≡ Some d → value_of d.of ≡ Some u →
      Part w s st (e.Bind' x tt (its p y alone) tt (its q z alone)) m (within_binder x u s) d.sites z m
  first_alone : {s : Scope} {st : Sites} {m : Mode} {p q : Span} {y z : ExpForm} → Part w s st (e.Seq' tt (its p y alone) tt (its q z alone)) m s st y finds
  second_alone : {s : Scope} {st : Sites} {m : Mode} {p q : Span} {y z : ExpForm} {d : Out} {u : NormalType} → typed w y s st finds ≡ Some d → value_of d.of ≡ Some u →
      Part w s st (e.Seq' tt (its p y alone) tt (its q z alone)) m (within_binder binder.Ignored u s) d.sites z m
  applied : {s : Scope} {st su : Sites} {m m' : Mode} {p q : Span} {x y z : ExpForm} → InSpine w s x (y ∷ []) st su z m' → Part w s st (e.App' tt (its p x alone) tt (its q y alone)) m s su z m'
  in_lambda : {s : Scope} {st : Sites} {m : Mode} {params : List LambdaParam} {ps : Params} {p : Span} {x : ExpForm} → params_out w.most s.names params ≡ Some ps →
      Part w s st (e.Lambda' params tt (its p x alone)) m (within_params ps.0 ps.1 s) st x (of_result ps.1 m)
  in_record : {s : Scope} {st su : Sites} {m m' : Mode} {q : Shape} {fields : Row_of-Field (count q)} {x : ExpForm} → InFields w s m _ fields st su x m' → Part w s st (e.Record' q fields) m s su x m'
  projected : {s : Scope} {st : Sites} {m : Mode} {p : Span} {x : ExpForm} {f : FieldName} → Part w s st (e.Project' tt (its p x alone) f) m s st x finds
  cut_from : {s : Scope} {st : Sites} {m : Mode} {p : Span} {x : ExpForm} {r : Removed} → Part w s st (e.Remove' tt (its p x alone) r) m s st x finds
  antiquote : {s : Scope} {st su : Sites} {m : Mode} {how : QueryWord} {q : SqlQuery} {n : Shape} {args : Row_of-Exp (count n)} {x : ExpForm} → InAntiquotes w s _ args (with_query_slot st) su x →
      Part w s st (e.Query' how q n args) m s su x finds
  row_antiquote : {s : Scope} {st su : Sites} {m : Mode} {q : SqlQuery} {n : Shape} {args : Row_of-Exp (count n)} {p : Span} {f x : ExpForm} → InAntiquotes w s _ args (with_query_slot st) su x →
      Part w s st (e.QueryX' q n args tt (its p f alone)) m s su x finds
  change_antiquote : {s : Scope} {st su : Sites} {m : Mode} {u : SqlChange} {n : Shape} {args : Row_of-Exp (count n)} {x : ExpForm} → InAntiquotes w s _ args (with_change_slot st) su x →
      Part w s st (e.Dml' u n args) m s su x finds
  row_body_part : {s : Scope} {st : Sites} {m : Mode} {q : SqlQuery} {n : Shape} {args : Row_of-Exp (count n)} {p r : Span} {params : List LambdaParam} {x : Binder} {y : ExpForm} {a : Antiquotes} {d : Query} →
      antiquotes_walk w args s (with_query_slot st) ≡ Some a → query_at w q a ≡ Some d → row_param w s (query_row w.fields d) params ≡ Some x →
      Part w s st (e.QueryX' q n args tt (its p (e.Lambda' params tt (its r y alone)) alone)) m (within_binder x (record_of (query_row w.fields d)) s) (with_query (length st.queries) d a.sites) y (of_transaction m)
  cookie_value : {s : Scope} {st : Sites} {m : Mode} {x : DeclName} {c : ℕ × ColumnKind} {n : Shape} {k : Count} {f : FieldName} {p : Span} {y : ExpForm} {rest : Row_of-Field k} {fields : Row_of-Field (count n)} → cookie_at w x ≡ Some c →
      FirstField _ fields _ f y rest → Part w s st (e.SetCookie' x tt (its p (e.Record' n fields) alone)) m s st y (wants (kind_type c.1))
  step : {s : Scope} {st : Sites} {m : Mode} {f r : Con} {t : NormalType × List RowPart} {p q a : Span} {params : List LambdaParam} {x y : ExpForm} {acc : Scope × Param} → fold_types w s f r ≡ Some t → step_of w s params ≡ Some acc →
      Part w s st (e.Fold' f tt (its p (e.Lambda' params tt (its a x alone)) alone) tt (its q y alone) r) m acc.0 st x (wants (at_row t.0 (step_row s.env)))
  start : {s : Scope} {st : Sites} {m : Mode} {f r : Con} {t : NormalType × List RowPart} {p q : Span} {x y : ExpForm} {d : Param × Out} → fold_types w s f r ≡ Some t → step_walk w (its p x alone) s st t.0 ≡ Some d →
      Part w s st (e.Fold' f tt (its p x alone) tt (its q y alone) r) m s d.1.sites y (wants (at_row t.0 []))
  in_xml : {s : Scope} {st su : Sites} {m m' : Mode} {x : Xml} {sort : Sort} {q r : Shape} {splices : Row_of-Exp (count q)} {attributes : Row_of-Exp (count r)} {y : ExpForm} → literal_sort (row_of_parts x.parts).1 (type_of_mode m) ≡ Some sort →
      InParts w s _ splices _ attributes (place_of sort) _ (row_of_parts x.parts).1 st su y m' → Part w s st (e.Xml' x q splices r attributes) m s su y m'

-- in the first expression the second one stands
pub data StandsIn (w : World) : Scope → Sites → ExpForm → Mode → Scope → Sites → ExpForm → Mode → Type 0 where
  itself : {s : Scope} {st : Sites} {x : ExpForm} {m : Mode} → StandsIn w s st x m s st x m
  within : {s t u : Scope} {st su sv : Sites} {x y z : ExpForm} {m n o : Mode} → Part w s st x m t su y n → StandsIn w t su y n u sv z o → StandsIn w s st x m u sv z o
