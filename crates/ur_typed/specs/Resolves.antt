-- What a written expression stands for: the same with its names resolved and its constructors in normal form.
use Rattle.std.specs.Prelude.{◌≡◌, ◌≢◌, ◌+◌, ℕ, pos, neg_ℤ, Bool, true, false, List, [], ◌∷◌, ◌++◌, codes, Option, Some, None, slice_get, not, IsTrue}
use mathlib.Core.Former.{Count}
use Rattle.ur_base.specs.Shape.{Shape, count}
use Rattle.ur_base.specs.declared.refusal.Span.{Span}
use Rattle.ur_syntax.specs.declared.con.Con.{Con}
use Rattle.ur_syntax.specs.declared.con.ConForm.{end_of-CField as end, more_of-CField as more}
use Rattle.ur_syntax.specs.declared.con.ConForm.TheVariants as con
use Rattle.ur_syntax.specs.declared.con.CField.TheVariants as con_field
use Rattle.ur_syntax.specs.declared.xml.Tag.{Tag as WrittenTag}
use Rattle.ur_syntax.specs.declared.xml.Xml.{Xml}
use Rattle.ur_syntax.specs.declared.xml.Attr.{Attr}
use Rattle.ur_syntax.specs.declared.xml.AttrValue.{AttrValue}
use Rattle.ur_syntax.specs.declared.xml.AttrValue.TheVariants as attr_value
use Rattle.ur_syntax.specs.declared.xml.XmlForm.{XmlForm, Row_of-XmlPart, end_of-XmlPart as no_xml, more_of-XmlPart as an_xml}
use Rattle.ur_syntax.specs.declared.xml.XmlForm.TheVariants as form
use Rattle.ur_values.specs.declared.value.Tag.{Tag}
use Rattle.ur_values.specs.declared.value.Tag.TheVariants as tag
use Rattle.ur_values.specs.declared.value.FieldKind.{FieldKind}
use Rattle.ur_xmltype.specs.Tags.{node_at}
use Rattle.ur_xmltype.specs.Tags as node
use Rattle.ur_xmltype.specs.Literal.{is_kept, is_end, row_of_parts}
use Rattle.ur_tree.specs.Places.{Place, in_form, Sort, sort_of, place_of}
use Rattle.ur_syntax.specs.declared.con.FieldName.{FieldName}
use Rattle.ur_syntax.specs.declared.con.FieldName.TheVariants as field_name
use Rattle.ur_syntax.specs.declared.con.ConParam.TheVariants as con_param
use Rattle.ur_syntax.specs.declared.kind.Kind.TheVariants as kind
use Rattle.ur_syntax.specs.Names.{own, member as of_module}
use Rattle.ur_syntax.specs.declared.sql.DeclName.{DeclName}
use Rattle.ur_syntax.specs.declared.sql.SqlQuery.{SqlQuery}
use Rattle.ur_syntax.specs.declared.sql.SqlChange.{SqlChange}
use Rattle.ur_syntax.specs.declared.exp.Binder.{Binder}
use Rattle.ur_syntax.specs.declared.exp.Param.{Param as WrittenParam}
use Rattle.ur_syntax.specs.declared.exp.Param.TheVariants as written_param
use Rattle.ur_syntax.specs.declared.exp.LambdaParam.{LambdaParam}
use Rattle.ur_syntax.specs.declared.exp.LambdaParam.TheVariants as lambda_param
use Rattle.ur_syntax.specs.declared.exp.Argument.TheVariants as argument
use Rattle.ur_syntax.specs.declared.exp.Pat.{Pat}
use Rattle.ur_syntax.specs.declared.exp.PatForm.{PatForm}
use Rattle.ur_syntax.specs.declared.exp.PatForm.TheVariants as pat
use Rattle.ur_syntax.specs.declared.exp.Binary.{Binary as WrittenBinary}
use Rattle.ur_syntax.specs.declared.exp.Binary.TheVariants as op
use Rattle.ur_syntax.specs.declared.exp.QueryWord.{QueryWord}
use Rattle.ur_syntax.specs.declared.exp.QueryWord.TheVariants as word
use Rattle.ur_syntax.specs.declared.exp.Removed.{Removed}
use Rattle.ur_syntax.specs.declared.exp.ExpForm.{ExpForm, Row_of-Exp, end_of-Exp as alone, more_of-Exp as its, Row_of-Field, end_of-Field, more_of-Field, Row_of-Branch, end_of-Branch, more_of-Branch, Row_of-LetVal, end_of-LetVal, more_of-LetVal}
use Rattle.ur_syntax.specs.declared.exp.ExpForm.TheVariants as e
use Rattle.ur_terms.specs.declared.term.AnswerForm.{AnswerForm}
use Rattle.ur_terms.specs.declared.term.AnswerForm.TheVariants as answer
use Rattle.ur_terms.specs.declared.term.Pattern.{Pattern}
use Rattle.ur_terms.specs.declared.term.Pattern.TheVariants as pattern
use Rattle.ur_sql.specs.declared.query.Query.{Query}
use Rattle.ur_sql.specs.declared.change.Change.{Change}
use Rattle.ur_rows.specs.declared.normal.Normal.{Normal}
use Rattle.ur_rows.specs.declared.normal.Label.{Label}
use Rattle.ur_rows.specs.declared.normal.NormalType.{NormalType}
use Rattle.ur_rows.specs.declared.normal.Part.{Part}
use Rattle.ur_rows.specs.Normal.{as_function, known_in}
use Rattle.ur_rows.specs.Made.{unit, record_of}
use Rattle.ur_tree.specs.declared.exp.Unary.TheVariants as unary
use Rattle.ur_tree.specs.declared.exp.Binary.{Binary}
use Rattle.ur_tree.specs.declared.exp.Binary.TheVariants as binary
use Rattle.ur_tree.specs.declared.exp.Param.{Param}
use Rattle.ur_tree.specs.declared.exp.Exp.{Exp}
use Rattle.ur_tree.specs.declared.exp.Exp.TheVariants as exp
use Rattle.ur_tree.specs.declared.exp.Exp.TheBlock.{Row_of-Exp as Row_of-Resolved, end_of-Exp as sole, more_of-Exp as the, Row_of-FieldExp, end_of-FieldExp, more_of-FieldExp, Row_of-Branch as Row_of-ResolvedBranch, end_of-Branch as no_branch, more_of-Branch as a_branch, Row_of-Markup, end_of-Markup as no_markup, more_of-Markup as a_markup, Held-Exp-Tagged-1, None', Some'}
use Rattle.ur_tree.specs.declared.exp.Markup.{Markup}
use Rattle.ur_tree.specs.declared.exp.Markup.TheVariants as markup
use Rattle.ur_tree.specs.QueryRow.{query_row}
use Rattle.ur_tree.specs.Make as make
use Rattle.ur_tree.specs.Heads.{Declared as Heads}
use Rattle.ur_sqltype.specs.IsQuery.{IsQuery}
use Rattle.ur_sqltype.specs.Change.{IsChange}
use Rattle.ur_typed_rules.specs.Names.{Local, Declared, Globals, Names, declared, local_at, with_con, with_local, with_locals, IsWritten, WritesType, WritesRow, WritesLabel, AreDistinct, bound_name, name_of, local_of, param_of}
use Rattle.ur_typed_rules.specs.Names as here

-- a written parameter, what it binds, and the resolved one
pub data IsParam (most : ℕ) (names : Names) : WrittenParam → Local → Param → Type 0 where
  typed : {x : Binder} {c : Con} {t : NormalType} → WritesType most names.cons c t → IsParam most names (written_param.Value x c) (local_of (bound_name x) t) (param_of t)
  nothing : IsParam most names written_param.Unit (here.value None) (param_of unit)

pub data AreLambdaParams (most : ℕ) (names : Names) : List LambdaParam → List Local → List Param → Type 0 where
  none : AreLambdaParams most names [] [] []
  one : {p : WrittenParam} {l : Local} {q : Param} {params : List LambdaParam} {ls : List Local} {out : List Param} →
      IsParam most names p l q → AreLambdaParams most names params ls out → AreLambdaParams most names (lambda_param.Typed p ∷ params) (l ∷ ls) (q ∷ out)

pub data IsOperator : WrittenBinary → Binary → Type 0 where
  or : IsOperator op.Or binary.Or
  and : IsOperator op.And binary.And
  equal : IsOperator op.Eq binary.Equal
  unequal : IsOperator op.Ne binary.Unequal
  less : IsOperator op.Lt binary.Less
  less_equal : IsOperator op.Le binary.LessEqual
  greater : IsOperator op.Gt binary.Greater
  greater_equal : IsOperator op.Ge binary.GreaterEqual
  cons : IsOperator op.Cons binary.Cons
  append : IsOperator op.Append binary.Append
  join : IsOperator op.Concat binary.Join
  add : IsOperator op.Add binary.Add
  sub : IsOperator op.Sub binary.Sub
  mul : IsOperator op.Mul binary.Mul
  div : IsOperator op.Div binary.Div
  rem : IsOperator op.Rem binary.Rem

pub data IsAnswer : QueryWord → AnswerForm → Type 0 where
  all : IsAnswer word.QueryL answer.All
  one : IsAnswer word.OneRow answer.One
  one_or_none : IsAnswer word.OneOrNoRows answer.OneOrNone

-- a written pattern, the locals that it binds, and the resolved one; a constructor stands with an argument exactly where it has one
pub data IsPattern (g : Globals) (heads : Heads) : PatForm → List Local → Pattern → Type 0 where
  wild : IsPattern g heads pat.Wild (here.value None ∷ []) pattern.Any
  variable : {x : List ℕ} → IsPattern g heads (pat.Var x) (here.value (Some x) ∷ []) pattern.Any
  int : {n : ℕ} → IsPattern g heads (pat.Int n) [] (pattern.Int (pos n))
  negative : {n : ℕ} → IsPattern g heads (pat.Negative n) [] (pattern.Int (neg_ℤ (pos n)))
  string : {s : List ℕ} → IsPattern g heads (pat.Str s) [] (pattern.Str s)
  true_ : IsPattern g heads pat.True [] (pattern.Bool true)
  false_ : IsPattern g heads pat.False [] (pattern.Bool false)
  none : IsPattern g heads pat.None [] pattern.Absent
  some : {x : Binder} → IsPattern g heads (pat.Some x) (here.value (bound_name x) ∷ []) pattern.Present
  empty : IsPattern g heads pat.Nil [] pattern.Empty
  cons : {x y : Binder} → IsPattern g heads (pat.Cons x y) (here.value (bound_name x) ∷ here.value (bound_name y) ∷ []) pattern.Cons
  constructor : {x : List ℕ} {n k : ℕ} → declared g (own x) g.constructors ≡ Some n → slice_get heads.variants n ≡ Some (k, None) → IsPattern g heads (pat.Constructor x argument.Absent) [] (pattern.Tagged n)
  constructor_of : {x : List ℕ} {y : Binder} {n k : ℕ} {t : NormalType} → declared g (own x) g.constructors ≡ Some n → slice_get heads.variants n ≡ Some (k, Some t) → IsPattern g heads (pat.Constructor x (argument.Bound y)) (here.value (bound_name y) ∷ []) (pattern.Tagged n)
  member : {m x : List ℕ} {n k : ℕ} → declared g (of_module m x) g.constructors ≡ Some n → slice_get heads.variants n ≡ Some (k, None) → IsPattern g heads (pat.Member m x argument.Absent) [] (pattern.Tagged n)
  member_of : {m x : List ℕ} {y : Binder} {n k : ℕ} {t : NormalType} → declared g (of_module m x) g.constructors ≡ Some n → slice_get heads.variants n ≡ Some (k, Some t) →
      IsPattern g heads (pat.Member m x (argument.Bound y)) (here.value (bound_name y) ∷ []) (pattern.Tagged n)

-- the name of a declared function or `val`, bare or with its home, where no local hides it
pub data IsDeclared (g : Globals) (names : Names) : ExpForm → Declared → Type 0 where
  bare : {x : List ℕ} {d : Declared} → local_at x names.locals ≡ None → declared g (own x) g.values ≡ Some d → IsDeclared g names (e.Var x) d
  member : {m x : List ℕ} {d : Declared} → declared g (of_module m x) g.values ≡ Some d → IsDeclared g names (e.Member m x) d

-- the name of a constructor of a datatype
pub data IsConstructor (g : Globals) : ExpForm → ℕ → Type 0 where
  bare : {x : List ℕ} {n : ℕ} → x ≢ codes "True" → x ≢ codes "False" → x ≢ codes "None" → declared g (own x) g.constructors ≡ Some n → IsConstructor g (e.Constructor x) n
  member : {m x : List ℕ} {n : ℕ} → declared g (of_module m x) g.constructors ≡ Some n → IsConstructor g (e.MemberConstructor m x) n

-- a named function with constructor arguments, each in normal form
pub data IsFunction (most : ℕ) (g : Globals) (names : Names) : ExpForm → ℕ → List Normal → Type 0 where
  name : {x : ExpForm} {f : ℕ} → IsDeclared g names x (here.function f) → IsFunction most g names x f []
  applied : {x : ExpForm} {p : Span} {f : ℕ} {args : List Normal} {c : Con} {n : Normal} → IsFunction most g names x f args → IsWritten most names.cons c n →
      IsFunction most g names (e.ConApp' tt (its p x alone) c) f (args ++ n ∷ [])

-- the antiquote with that number
pub data IsAntiquote : (n : Count) → Row_of-Exp n → ℕ → ExpForm → Type 0 where
  first : {n : Count} {p : Span} {x : ExpForm} {rest : Row_of-Exp n} → IsAntiquote _ (its p x rest) 0 x
  later : {n : Count} {p : Span} {x y : ExpForm} {rest : Row_of-Exp n} {i : ℕ} → IsAntiquote _ rest i x → IsAntiquote _ (its p y rest) (i + 1) x

-- the other two fields of `setCookie` stand literally so
pub data IsCookieRecord : (n : Count) → Row_of-Field n → ExpForm → Type 0 where
  literally : {p q r : Span} {x : ExpForm} →
      IsCookieRecord _ (more_of-Field (field_name.Literal (codes "Value")) p x (more_of-Field (field_name.Literal (codes "Expires")) q (e.Constructor (codes "None"))
      (more_of-Field (field_name.Literal (codes "Secure")) r (e.Constructor (codes "False")) end_of-Field))) x

-- The names of the project's fields, its queries and its changes, by number.
pub record Statements : Type 0 where
  pub names : List (List ℕ)
  pub queries : List Query
  pub changes : List Change

-- what may be applied to arguments as it stands: no application, and no constructor of a datatype
abbrev pub is_head : ExpForm → Bool
is_head (e.App' _ x _ y) = false
is_head (e.Constructor x) = false
is_head (e.MemberConstructor m x) = false
is_head _ = true

mutual
  -- the written expression, and the resolved one
  pub data Resolves (sites : Statements) (most : ℕ) (g : Globals) (heads : Heads) : Names → ExpForm → Exp → Type 0 where
    int : {names : Names} {n : ℕ} → Resolves sites most g heads names (e.Int n) (exp.Int (pos n))
    string : {names : Names} {s : List ℕ} → Resolves sites most g heads names (e.Str s) (exp.Str s)
    true_ : {names : Names} → Resolves sites most g heads names (e.Constructor (codes "True")) (exp.Bool true)
    false_ : {names : Names} → Resolves sites most g heads names (e.Constructor (codes "False")) (exp.Bool false)
    unit_value : {names : Names} → Resolves sites most g heads names e.Unit exp.Unit
    absent : {names : Names} {t : NormalType} → Resolves sites most g heads names (e.Constructor (codes "None")) (exp.Absent t)
    empty : {names : Names} {t : NormalType} → Resolves sites most g heads names e.Nil (exp.Empty t)
    error : {names : Names} {p : Span} {x : ExpForm} {y : Exp} {t : NormalType} → Resolves sites most g heads names x y → Resolves sites most g heads names (e.Error' tt (its p x alone)) (make.fail t y)
    variable : {names : Names} {x : List ℕ} {i : ℕ} → local_at x names.locals ≡ Some (false, i) → Resolves sites most g heads names (e.Var x) (exp.Variable i)
    parameter : {names : Names} {x : List ℕ} {i : ℕ} → local_at x names.locals ≡ Some (true, i) → Resolves sites most g heads names (e.Var x) (exp.Fixed i)
    val : {names : Names} {x : ExpForm} {v : ℕ} → IsDeclared g names x (here.val v) → Resolves sites most g heads names x (exp.Val v)
    function : {names : Names} {x : ExpForm} {f : ℕ} {args : List Normal} → IsFunction most g names x f args → Resolves sites most g heads names x (exp.Function f args)
    application : {names : Names} {p q : Span} {x y : ExpForm} {b t : Exp} → Resolves sites most g heads names y b → Spine sites most g heads names x (tt ∷ []) (the b sole) t →
        Resolves sites most g heads names (e.App' tt (its p x alone) tt (its q y alone)) t
    constructor : {names : Names} {x : ExpForm} {n : ℕ} → IsConstructor g x n → Resolves sites most g heads names x (exp.Tagged' n None')
    constructor_of : {names : Names} {p q : Span} {x y : ExpForm} {n : ℕ} {b : Exp} → IsConstructor g x n → Resolves sites most g heads names y b →
        Resolves sites most g heads names (e.App' tt (its p x alone) tt (its q y alone)) (exp.Tagged' n (Some' tt (the b sole)))
    lambda : {names : Names} {params : List LambdaParam} {ls : List Local} {out : List Param} {p : Span} {x : ExpForm} {b : Exp} →
        AreLambdaParams most names params ls out → AreDistinct ls → Resolves sites most g heads (with_locals ls names) x b → Resolves sites most g heads names (e.Lambda' params tt (its p x alone)) (make.lambda out b)
    record_literal : {names : Names} {s q : Shape} {fields : Row_of-Field (count s)} {out : Row_of-FieldExp (count q)} →
        ResolvesFields sites most g heads names _ fields _ out → Resolves sites most g heads names (e.Record' s fields) (exp.Record' q out)
    project : {names : Names} {p : Span} {x : ExpForm} {f : FieldName} {b : Exp} {l : Label} → Resolves sites most g heads names x b → WritesLabel names.cons f l →
        Resolves sites most g heads names (e.Project' tt (its p x alone) f) (make.project b l)
    cut : {names : Names} {p : Span} {x : ExpForm} {r : Removed} {b : Exp} {l : Label} → Resolves sites most g heads names x b → WritesLabel names.cons r.name l →
        Resolves sites most g heads names (e.Remove' tt (its p x alone) r) (make.cut b l)
    negative : {names : Names} {p : Span} {x : ExpForm} {b : Exp} → Resolves sites most g heads names x b → Resolves sites most g heads names (e.Negative' tt (its p x alone)) (make.unary unary.Neg b)
    negation : {names : Names} {p : Span} {x : ExpForm} {b : Exp} → Resolves sites most g heads names x b → Resolves sites most g heads names (e.Not' tt (its p x alone)) (make.unary unary.Not b)
    show : {names : Names} {p : Span} {x : ExpForm} {b : Exp} → Resolves sites most g heads names x b → Resolves sites most g heads names (e.Show' tt (its p x alone)) (make.unary unary.Show b)
    some : {names : Names} {p : Span} {x : ExpForm} {b : Exp} → Resolves sites most g heads names x b → Resolves sites most g heads names (e.Some' tt (its p x alone)) (make.unary unary.Present b)
    return_ : {names : Names} {p : Span} {x : ExpForm} {b : Exp} → Resolves sites most g heads names x b → Resolves sites most g heads names (e.Return' tt (its p x alone)) (make.unary unary.Return b)
    operator : {names : Names} {w : WrittenBinary} {o : Binary} {p q : Span} {x y : ExpForm} {a b : Exp} → IsOperator w o → Resolves sites most g heads names x a → Resolves sites most g heads names y b →
        Resolves sites most g heads names (e.Binary' w tt (its p x alone) tt (its q y alone)) (make.binary o a b)
    choice : {names : Names} {p q r : Span} {x y z : ExpForm} {a b c : Exp} → Resolves sites most g heads names x a → Resolves sites most g heads names y b → Resolves sites most g heads names z c →
        Resolves sites most g heads names (e.If' tt (its p x alone) tt (its q y alone) tt (its r z alone)) (make.choice a b c)
    cases : {names : Names} {p : Span} {x : ExpForm} {s q : Shape} {branches : Row_of-Branch (count s)} {a : Exp} {out : Row_of-ResolvedBranch (count q)} →
        Resolves sites most g heads names x a → ResolvesBranches sites most g heads names _ branches _ out → Resolves sites most g heads names (e.Case' tt (its p x alone) s branches) (make.cases a q out)
    -- a `let` of several `val`s is one within the other
    local_last : {names : Names} {p q r : Span} {x : List ℕ} {c : Con} {y z : ExpForm} {u : NormalType} {a b : Exp} → WritesType most names.cons c u → Resolves sites most g heads names y a →
        Resolves sites most g heads (with_local (here.value (Some x)) names) z b → Resolves sites most g heads names (e.Let' (tt ∷ []) (more_of-LetVal p x c q y end_of-LetVal) tt (its r z alone)) (make.local u a b)
    local_more : {names : Names} {p q r : Span} {s : Shape} {x : List ℕ} {c : Con} {y z : ExpForm} {u : NormalType} {a b : Exp} {rest : Row_of-LetVal (count (tt ∷ s))} →
        WritesType most names.cons c u → Resolves sites most g heads names y a → Resolves sites most g heads (with_local (here.value (Some x)) names) (e.Let' (tt ∷ s) rest tt (its r z alone)) b →
        Resolves sites most g heads names (e.Let' (tt ∷ tt ∷ s) (more_of-LetVal p x c q y rest) tt (its r z alone)) (make.local u a b)
    bind : {names : Names} {x : Binder} {p q : Span} {y z : ExpForm} {a b : Exp} → Resolves sites most g heads names y a → Resolves sites most g heads (with_local (here.value (bound_name x)) names) z b →
        Resolves sites most g heads names (e.Bind' x tt (its p y alone) tt (its q z alone)) (make.bind a b)
    sequence : {names : Names} {p q : Span} {y z : ExpForm} {a b : Exp} → Resolves sites most g heads names y a → Resolves sites most g heads (with_local (here.value None) names) z b →
        Resolves sites most g heads names (e.Seq' tt (its p y alone) tt (its q z alone)) (make.bind a b)
    nextval : {names : Names} {x : DeclName} {n : ℕ} → declared g (name_of x) g.sequences ≡ Some n → Resolves sites most g heads names (e.Nextval x) (exp.Next n)
    get_cookie : {names : Names} {x : DeclName} {n : ℕ} → declared g (name_of x) g.cookies ≡ Some n → Resolves sites most g heads names (e.GetCookie x) (exp.GetCookie n)
    set_cookie : {names : Names} {x : DeclName} {n : ℕ} {p : Span} {s : Shape} {fields : Row_of-Field (count s)} {y : ExpForm} {b : Exp} → declared g (name_of x) g.cookies ≡ Some n →
        IsCookieRecord _ fields y → Resolves sites most g heads names y b → Resolves sites most g heads names (e.SetCookie' x tt (its p (e.Record' s fields) alone)) (make.set_cookie n b)
    dml : {names : Names} {w : SqlChange} {u : ℕ} {d : Change} {s q : Shape} {args : Row_of-Exp (count s)} {out : Row_of-Resolved (count q)} → slice_get sites.changes u ≡ Some d →
        IsChange g.home g.tables d.params w d → ResolvesAll sites most g heads names _ args _ out → Resolves sites most g heads names (e.Dml' w s args) (exp.Write' u q out)
    query : {names : Names} {how : QueryWord} {a : AnswerForm} {w : SqlQuery} {n : ℕ} {d : Query} {s q : Shape} {args : Row_of-Exp (count s)} {out : Row_of-Resolved (count q)} → IsAnswer how a →
        slice_get sites.queries n ≡ Some d → IsQuery g.home g.tables sites.names d.params w d → ResolvesAll sites most g heads names _ args _ out → Resolves sites most g heads names (e.Query' how w s args) (exp.Ask' a n q out)
    -- the row function of `queryX` has one variable, whose type need not be written
    query_each : {names : Names} {w : SqlQuery} {n : ℕ} {d : Query} {s q : Shape} {args : Row_of-Exp (count s)} {out : Row_of-Resolved (count q)} {p r : Span} {x : Binder} {y : ExpForm} {b : Exp} →
        slice_get sites.queries n ≡ Some d → IsQuery g.home g.tables sites.names d.params w d → ResolvesAll sites most g heads names _ args _ out → Resolves sites most g heads (with_local (here.value (bound_name x)) names) y b →
        Resolves sites most g heads names (e.QueryX' w s args tt (its p (e.Lambda' (lambda_param.Bare x ∷ []) tt (its r y alone)) alone)) (make.each n q out b)
    query_each_typed : {names : Names} {w : SqlQuery} {n : ℕ} {d : Query} {s q : Shape} {args : Row_of-Exp (count s)} {out : Row_of-Resolved (count q)} {p o : Span} {x : Binder} {c : Con} (r : List Part) {y : ExpForm} {b : Exp} →
        slice_get sites.queries n ≡ Some d → IsQuery g.home g.tables sites.names d.params w d → query_row sites.names d ≡ r → WritesType most names.cons c (record_of r) →
        ResolvesAll sites most g heads names _ args _ out → Resolves sites most g heads (with_local (here.value (bound_name x)) names) y b →
        Resolves sites most g heads names (e.QueryX' w s args tt (its p (e.Lambda' (lambda_param.Typed (written_param.Value x c) ∷ []) tt (its o y alone)) alone)) (make.each n q out b)
    fold : {names : Names} {f r : Con} {fn : Normal} {row : List Part} {p q a : Span} {start y : ExpForm} {nm t rest : List ℕ} {left right : Con} {acc : WrittenParam} {l : Local} {out : Param} {start_to step : Exp} →
        IsWritten most names.cons f fn → WritesRow most names.cons r row →
        (nm ≢ t) × (nm ≢ rest) × (t ≢ rest) → left.form ≡ con.Row' (tt ∷ []) (more (con_field.Bare (field_name.Variable nm)) end) → right.form ≡ con.Var rest →
        IsParam most (with_con rest kind.Row (with_con t kind.Star (with_con nm kind.Name names))) acc l out →
        Resolves sites most g heads names start start_to → Resolves sites most g heads (with_local l (with_con rest kind.Row (with_con t kind.Star (with_con nm kind.Name names)))) y step →
        Resolves sites most g heads names (e.Fold' f tt (its p (e.Lambda' (lambda_param.Con (con_param.Kinded nm kind.Name) ∷ lambda_param.Con (con_param.Kinded t kind.Star) ∷ lambda_param.Con (con_param.Kinded rest kind.Row) ∷
        lambda_param.Con (con_param.Disjoint left right) ∷ lambda_param.Typed acc ∷ []) tt (its a y alone)) alone) tt (its q start alone) r) (make.folded (as_function fn) out step start_to row)
    xml : {names : Names} {t : NormalType} {sort : Sort} {q r o : Shape} {literal : Xml} {splices : Row_of-Exp (count q)} {attributes : Row_of-Exp (count r)} {out : Row_of-Markup (count o)} →
        sort_of t ≡ Some sort → ResolvesParts sites most g heads names _ splices _ attributes (place_of sort) _ (row_of_parts literal.parts).1 _ out → Resolves sites most g heads names (e.Xml' literal q splices r attributes) (exp.Xml' t o out)

  -- an expression that is applied to further arguments
  pub data Spine (sites : Statements) (most : ℕ) (g : Globals) (heads : Heads) : Names → ExpForm → (s : Shape) → Row_of-Resolved (count s) → Exp → Type 0 where
    further : {names : Names} {p q : Span} {x y : ExpForm} {b t : Exp} {s : Shape} {args : Row_of-Resolved (count s)} → Resolves sites most g heads names y b →
        Spine sites most g heads names x (tt ∷ s) (the b args) t → Spine sites most g heads names (e.App' tt (its p x alone) tt (its q y alone)) s args t
    head : {names : Names} {x : ExpForm} {b : Exp} {s : Shape} {args : Row_of-Resolved (count s)} → IsTrue (is_head x) → Resolves sites most g heads names x b → Spine sites most g heads names x s args (make.apply b s args)

  pub data ResolvesAll (sites : Statements) (most : ℕ) (g : Globals) (heads : Heads) : Names → (n : Count) → Row_of-Exp n → (m : Count) → Row_of-Resolved m → Type 0 where
    all_none : {names : Names} → ResolvesAll sites most g heads names _ alone _ sole
    all_one : {names : Names} {p : Span} {x : ExpForm} {b : Exp} {n m : Count} {rest : Row_of-Exp n} {out : Row_of-Resolved m} → Resolves sites most g heads names x b → ResolvesAll sites most g heads names _ rest _ out →
        ResolvesAll sites most g heads names _ (its p x rest) _ (the b out)

  pub data ResolvesFields (sites : Statements) (most : ℕ) (g : Globals) (heads : Heads) : Names → (n : Count) → Row_of-Field n → (m : Count) → Row_of-FieldExp m → Type 0 where
    fields_none : {names : Names} → ResolvesFields sites most g heads names _ end_of-Field _ end_of-FieldExp
    fields_one : {names : Names} {p : Span} {f : FieldName} {l : Label} {x : ExpForm} {b : Exp} {n m : Count} {rest : Row_of-Field n} {out : Row_of-FieldExp m} → WritesLabel names.cons f l →
        Resolves sites most g heads names x b → ResolvesFields sites most g heads names _ rest _ out → ResolvesFields sites most g heads names _ (more_of-Field f p x rest) _ (more_of-FieldExp l b out)

  pub data ResolvesBranches (sites : Statements) (most : ℕ) (g : Globals) (heads : Heads) : Names → (n : Count) → Row_of-Branch n → (m : Count) → Row_of-ResolvedBranch m → Type 0 where
    branches_none : {names : Names} → ResolvesBranches sites most g heads names _ end_of-Branch _ no_branch
    branches_one : {names : Names} {p : Span} {t : Pat} {ls : List Local} {u : Pattern} {x : ExpForm} {b : Exp} {n m : Count} {rest : Row_of-Branch n} {out : Row_of-ResolvedBranch m} →
        IsPattern g heads t.form ls u → AreDistinct ls → Resolves sites most g heads (with_locals ls names) x b → ResolvesBranches sites most g heads names _ rest _ out →
        ResolvesBranches sites most g heads names _ (more_of-Branch t p x rest) _ (a_branch u b out)

  -- the parts at a place, without the blank text that is dropped there
  pub data ResolvesParts (sites : Statements) (most : ℕ) (g : Globals) (heads : Heads) : Names → (a : Count) → Row_of-Exp a → (c : Count) → Row_of-Exp c → Place → (n : Count) → Row_of-XmlPart n → (m : Count) → Row_of-Markup m → Type 0 where
    parts_none : {names : Names} {a c : Count} {splices : Row_of-Exp a} {attributes : Row_of-Exp c} {p : Place} → ResolvesParts sites most g heads names _ splices _ attributes p _ no_xml _ no_markup
    parts_dropped : {names : Names} {a c : Count} {splices : Row_of-Exp a} {attributes : Row_of-Exp c} {p : Place} {at : Span} {s : List ℕ} {n m : Count} {rest : Row_of-XmlPart n} {out : Row_of-Markup m} → IsTrue (not (is_kept p s)) →
        ResolvesParts sites most g heads names _ splices _ attributes p _ rest _ out → ResolvesParts sites most g heads names _ splices _ attributes p _ (an_xml at (form.Text s) rest) _ out
    parts_one : {names : Names} {a c : Count} {splices : Row_of-Exp a} {attributes : Row_of-Exp c} {p : Place} {at : Span} {x : XmlForm} {y : Markup} {n m : Count} {rest : Row_of-XmlPart n} {out : Row_of-Markup m} →
        ResolvesPart sites most g heads names _ splices _ attributes p x y → ResolvesParts sites most g heads names _ splices _ attributes p _ rest _ out → ResolvesParts sites most g heads names _ splices _ attributes p _ (an_xml at x rest) _ (a_markup y out)

  pub data ResolvesPart (sites : Statements) (most : ℕ) (g : Globals) (heads : Heads) : Names → (a : Count) → Row_of-Exp a → (c : Count) → Row_of-Exp c → Place → XmlForm → Markup → Type 0 where
    part_text : {names : Names} {a c : Count} {splices : Row_of-Exp a} {attributes : Row_of-Exp c} {p : Place} {s : List ℕ} → IsTrue (is_kept p s) → ResolvesPart sites most g heads names _ splices _ attributes p (form.Text s) (markup.Text s)
    part_shown : {names : Names} {a c : Count} {splices : Row_of-Exp a} {attributes : Row_of-Exp c} {p : Place} {n : ℕ} {x : ExpForm} {b : Exp} → IsAntiquote _ splices n x → Resolves sites most g heads names x b →
        ResolvesPart sites most g heads names _ splices _ attributes p (form.Show n) (markup.Shown b)
    part_splice : {names : Names} {a c : Count} {splices : Row_of-Exp a} {attributes : Row_of-Exp c} {p : Place} {n : ℕ} {x : ExpForm} {b : Exp} → IsAntiquote _ splices n x → Resolves sites most g heads names x b →
        ResolvesPart sites most g heads names _ splices _ attributes p (form.Splice n) (markup.Splice b)
    part_element : {names : Names} {a c : Count} {splices : Row_of-Exp a} {attributes : Row_of-Exp c} {p i : Place} {t : WrittenTag} {attrs : List Attr} {g' : Tag} {s q : Shape} {parts : Row_of-XmlPart (count s)} {out : Row_of-Markup (count q)} →
        node_at (known_in names.cons) p t attrs (is_end parts) ≡ Some (node.element g' i) → ResolvesParts sites most g heads names _ splices _ attributes i _ parts _ out → ResolvesPart sites most g heads names _ splices _ attributes p (form.Element' t attrs s parts) (markup.Element' g' q out)
    part_form : {names : Names} {a c : Count} {splices : Row_of-Exp a} {attributes : Row_of-Exp c} {p : Place} {t : WrittenTag} {attrs : List Attr} {s q : Shape} {parts : Row_of-XmlPart (count s)} {out : Row_of-Markup (count q)} →
        node_at (known_in names.cons) p t attrs (is_end parts) ≡ Some node.form → ResolvesParts sites most g heads names _ splices _ attributes in_form _ parts _ out → ResolvesPart sites most g heads names _ splices _ attributes p (form.Element' t attrs s parts) (markup.Element' tag.Form q out)
    part_link : {names : Names} {a c : Count} {splices : Row_of-Exp a} {attributes : Row_of-Exp c} {p : Place} {t : WrittenTag} {attrs : List Attr} {n f : ℕ} {x : ExpForm} {r s q : Shape} {args : Row_of-Resolved (count r)} {parts : Row_of-XmlPart (count s)} {out : Row_of-Markup (count q)} →
        node_at (known_in names.cons) p t attrs (is_end parts) ≡ Some (node.link n) → IsAntiquote _ attributes n x → Calls sites most g heads names x [] sole f r args → ResolvesParts sites most g heads names _ splices _ attributes p _ parts _ out →
        ResolvesPart sites most g heads names _ splices _ attributes p (form.Element' t attrs s parts) (markup.Link' f r args q out)
    part_input : {names : Names} {a c : Count} {splices : Row_of-Exp a} {attributes : Row_of-Exp c} {p : Place} {t : WrittenTag} {attrs : List Attr} {k : FieldKind} {l : Label} {v : Option AttrValue} {w : Held-Exp-Tagged-1} →
        node_at (known_in names.cons) p t attrs true ≡ Some (node.input k l v) → ResolvesValue sites most g heads names _ attributes v w → ResolvesPart sites most g heads names _ splices _ attributes p (form.Element' t attrs [] no_xml) (markup.Input' k l w)
    part_submit : {names : Names} {a c : Count} {splices : Row_of-Exp a} {attributes : Row_of-Exp c} {p : Place} {t : WrittenTag} {attrs : List Attr} {n f : ℕ} {x : ExpForm} {r : Shape} {args : Row_of-Resolved (count r)} {v : Option AttrValue} {w : Held-Exp-Tagged-1} →
        node_at (known_in names.cons) p t attrs true ≡ Some (node.submit n v) → IsAntiquote _ attributes n x → Calls sites most g heads names x [] sole f r args → ResolvesValue sites most g heads names _ attributes v w →
        ResolvesPart sites most g heads names _ splices _ attributes p (form.Element' t attrs [] no_xml) (markup.Submit' f r args w)

  -- the `value` of a tag, where it has one
  pub data ResolvesValue (sites : Statements) (most : ℕ) (g : Globals) (heads : Heads) : Names → (c : Count) → Row_of-Exp c → Option AttrValue → Held-Exp-Tagged-1 → Type 0 where
    value_none : {names : Names} {c : Count} {attributes : Row_of-Exp c} → ResolvesValue sites most g heads names _ attributes None None'
    value_text : {names : Names} {c : Count} {attributes : Row_of-Exp c} {s : List ℕ} → ResolvesValue sites most g heads names _ attributes (Some (attr_value.Text s)) (Some' tt (the (exp.Str s) sole))
    value_of : {names : Names} {c : Count} {attributes : Row_of-Exp c} {n : ℕ} {x : ExpForm} {b : Exp} → IsAntiquote _ attributes n x → Resolves sites most g heads names x b →
        ResolvesValue sites most g heads names _ attributes (Some (attr_value.Exp n)) (Some' tt (the b sole))

  -- a named function that is applied to arguments, or stands alone
  pub data Calls (sites : Statements) (most : ℕ) (g : Globals) (heads : Heads) : Names → ExpForm → (s : Shape) → Row_of-Resolved (count s) → ℕ → (r : Shape) → Row_of-Resolved (count r) → Type 0 where
    call_further : {names : Names} {p q : Span} {x y : ExpForm} {b : Exp} {f : ℕ} {s r : Shape} {args : Row_of-Resolved (count s)} {out : Row_of-Resolved (count r)} → Resolves sites most g heads names y b →
        Calls sites most g heads names x (tt ∷ s) (the b args) f r out → Calls sites most g heads names (e.App' tt (its p x alone) tt (its q y alone)) s args f r out
    call_head : {names : Names} {x : ExpForm} {f : ℕ} {s : Shape} {args : Row_of-Resolved (count s)} → IsDeclared g names x (here.function f) → Calls sites most g heads names x s args f s args
