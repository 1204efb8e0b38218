-- The nonterminals of the language, and their trees.
use Rattle.std.specs.Prelude.{Bool, List, Option}
use Rattle.ur_base.specs.declared.refusal.Span.{Span}
use Rattle.ur_lex.specs.Spelling.{Text}
use Rattle.ur_syntax.specs.declared.kind.Kind.{Kind}
use Rattle.ur_syntax.specs.declared.con.Con.{Con}
use Rattle.ur_syntax.specs.declared.con.FieldName.{FieldName}
use Rattle.ur_syntax.specs.declared.con.CField.{CField}
use Rattle.ur_syntax.specs.declared.con.RecordField.{RecordField}
use Rattle.ur_syntax.specs.declared.con.ConParam.{ConParam}
use Rattle.ur_syntax.specs.declared.exp.Exp.{Exp}
use Rattle.ur_syntax.specs.declared.exp.Binary.{Binary}
use Rattle.ur_syntax.specs.declared.exp.Binder.{Binder}
use Rattle.ur_syntax.specs.declared.exp.Branch.{Branch}
use Rattle.ur_syntax.specs.declared.exp.Field.{Field}
use Rattle.ur_syntax.specs.declared.exp.LetVal.{LetVal}
use Rattle.ur_syntax.specs.declared.exp.Removed.{Removed}
use Rattle.ur_syntax.specs.declared.exp.Param.{Param}
use Rattle.ur_syntax.specs.declared.exp.LambdaParam.{LambdaParam}
use Rattle.ur_syntax.specs.declared.exp.Pat.{Pat}
use Rattle.ur_syntax.specs.declared.exp.Argument.{Argument}
use Rattle.ur_syntax.specs.declared.sql.SqlExp.{SqlExp}
use Rattle.ur_syntax.specs.declared.sql.SqlBinary.{SqlBinary}
use Rattle.ur_syntax.specs.declared.sql.DeclName.{DeclName}
use Rattle.ur_syntax.specs.declared.sql.SqlQuery.{SqlQuery}
use Rattle.ur_syntax.specs.declared.sql.SqlChange.{SqlChange}
use Rattle.ur_syntax.specs.declared.sql.Selection.{Selection}
use Rattle.ur_syntax.specs.declared.sql.Selected.{Selected}
use Rattle.ur_syntax.specs.declared.sql.Aggregate.{Aggregate}
use Rattle.ur_syntax.specs.declared.sql.FromItem.{FromItem}
use Rattle.ur_syntax.specs.declared.sql.OrderKey.{OrderKey}
use Rattle.ur_syntax.specs.declared.sql.Direction.{Direction}
use Rattle.ur_syntax.specs.declared.sql.Limit.{Limit}
use Rattle.ur_syntax.specs.declared.sql.Assignment.{Assignment}
use Rattle.ur_syntax.specs.declared.xml.Xml.{Xml}
use Rattle.ur_syntax.specs.declared.xml.XmlPart.{XmlPart as XmlNode}
use Rattle.ur_syntax.specs.declared.xml.Tag.{Tag}
use Rattle.ur_syntax.specs.declared.xml.TagField.{TagField}
use Rattle.ur_syntax.specs.declared.xml.Attr.{Attr}
use Rattle.ur_syntax.specs.declared.xml.AttrValue.{AttrValue}
use Rattle.ur_syntax.specs.declared.decl.Module.{Module}
use Rattle.ur_syntax.specs.declared.decl.Signature.{Signature}
use Rattle.ur_syntax.specs.declared.decl.Decl.{Decl}
use Rattle.ur_syntax.specs.declared.decl.Variant.{Variant}
use Rattle.ur_syntax.specs.declared.decl.Constraint.{Constraint}
use Rattle.ur_syntax.specs.declared.decl.FunDef.{FunDef}
use Rattle.ur_syntax.specs.declared.decl.ValDecl.{ValDecl}
use Rattle.ur_lex.specs.declared.token.Lexeme.{Lexeme}
use Rattle.ur_parse_rules.specs.Quoted.{Quoting, Code, Quoted}
use Rattle.ur_parse_rules.specs.ConParts as c
use Rattle.ur_parse_rules.specs.ExpParts as e
use Rattle.ur_parse_rules.specs.SqlParts as s
use Rattle.ur_parse_rules.specs.XmlParts as x
use Rattle.ur_parse_rules.specs.DeclParts as d
use Rattle.ur_parse_rules.specs.CodeParts as code

-- SQL and XML stand twice, by how the code of their antiquotes is read. Modules have the one with expressions.
pub data Part : Type 0 where
  of_con : c.ConPart → Part
  of_exp : e.ExpPart → Part
  of_sql : Quoting → s.SqlPart → Part
  of_xml : Quoting → x.XmlPart → Part
  of_decl : d.DeclPart → Part
  -- the code of an antiquote
  of_quote : Quoting → Part
  of_code : code.CodePart → Part

-- ---- trees that are put together further up

-- an argument of a constructor with the span of its tokens, its parentheses among them
pub record Arg : Type 0 where
  pub span : Span
  pub con : Con

-- an expression, with whether it takes each `;` behind it, and each `|`
pub record Ended : Type 0 where
  pub exp : Exp
  pub takes_semicolon : Bool
  pub takes_bar : Bool

-- an operator and its right side, with the span of their tokens
pub data Right : Type 0 where
  joins : Binary → Exp → Right
  removes : Removed → Right

pub record Step : Type 0 where
  pub span : Span
  pub right : Right

-- `.A`
pub record Dot : Type 0 where
  pub span : Span
  pub name : FieldName

-- what stands behind `[`: `]` and names of fields, or a constructor and `]`
pub data Bracketed : Type 0 where
  empty : Span → List Dot → Bracketed
  con : Con → Bracketed

-- an argument of an application
pub data Given : Type 0 where
  value : Exp → Given
  type : Con → Given

pub record GivenAt : Type 0 where
  pub span : Span
  pub given : Given

-- a name with its span
pub record Named : Type 0 where
  pub span : Span
  pub text : Text

-- `x` or `A` behind `M.`
pub data Member : Type 0 where
  lower : Span → Text → Member
  upper : Span → Text → Member

-- what stands behind a word in capitals: nothing, or `.x` or `.A` and names of fields
pub data Capital : Type 0 where
  alone : Capital
  of_module : Member → List Dot → Capital

-- what stands behind a word in capitals in a pattern
pub data PatRest : Type 0 where
  argument : Argument → PatRest
  of_module : Text → Argument → PatRest

-- the right side of a comparison in SQL
pub data SqlRight (E : Type 0) : Type 0 where
  compared : SqlBinary → Quoted E SqlExp → SqlRight E
  null : Bool → SqlRight E

pub record SqlStep (E : Type 0) : Type 0 where
  pub span : Span
  pub op : SqlBinary
  pub right : Quoted E SqlExp

-- the columns of a key, where they end, and the constraints behind them
pub record KeyColumns : Type 0 where
  pub columns : List Text
  pub end : Span
  pub constraints : List Constraint

pub record MoreColumns : Type 0 where
  pub columns : List Named
  pub constraints : List Constraint

pub record Closed : Type 0 where
  pub columns : List Text
  pub end : Span

pub record Keys : Type 0 where
  pub primary : Option (List Text)
  pub constraints : List Constraint

-- the parts of an element and its closing tag
pub record Inside (E : Type 0) : Type 0 where
  pub parts : Quoted E (List XmlNode)
  pub closing : Tag

-- ---- the tree of each nonterminal

abbrev pub ConTree : c.ConPart → Type 0
ConTree c.kind = Kind
ConTree c.kind_atom = Kind
ConTree c.kind_tail = Option Kind
ConTree (c.con place) = Con
ConTree (c.arrow keys) = Con
ConTree (c.arrow_tail keys) = Option Con
ConTree (c.concat keys) = Con
ConTree (c.concat_tail keys) = Option Con
ConTree (c.app keys) = Con
ConTree (c.args keys) = List Arg
ConTree (c.arg keys) = Arg
ConTree (c.atom keys) = Con
ConTree c.field_name = FieldName
ConTree c.row = List CField
ConTree c.row_field = CField
ConTree c.row_value = Option Con
ConTree c.row_tail = List CField
ConTree c.fields = List RecordField
ConTree c.record_field = RecordField
ConTree c.fields_tail = List RecordField
ConTree c.con_param = ConParam

abbrev pub ExpTree : e.ExpPart → Type 0
ExpTree e.exp = Ended
ExpTree e.rest = Option Ended
ExpTree e.line = Ended
ExpTree e.lambda = Ended
ExpTree e.bar = Unit {0}
ExpTree e.branches = List Branch
ExpTree e.more_branches = Option (List Branch)
ExpTree (e.left l) = Exp
ExpTree (e.operand l) = Exp
ExpTree (e.left_tail l) = List Step
ExpTree (e.left_step l) = Step
ExpTree e.comparison = Exp
ExpTree e.comparison_tail = Option (Binary × Exp)
ExpTree e.cons = Exp
ExpTree e.cons_tail = Option Exp
ExpTree e.negative = Exp
ExpTree e.app = Exp
ExpTree e.args = List GivenAt
ExpTree e.arg = GivenAt
ExpTree e.bracketed = Bracketed
ExpTree e.head = Exp
ExpTree (e.post head) = Exp
ExpTree (e.base head) = Exp
ExpTree e.capital_rest = Capital
ExpTree e.member = Member
ExpTree e.nil_end = Span
ExpTree e.dot = Dot
ExpTree e.dots = List Dot
ExpTree e.paren_rest = Option Exp
ExpTree e.field = Field
ExpTree e.fields = List Field
ExpTree e.fields_tail = List Field
ExpTree e.let_val = LetVal
ExpTree e.let_vals = List LetVal
ExpTree e.removed = Removed
ExpTree e.binder = Binder
ExpTree e.param = Param
ExpTree e.param_rest = Param
ExpTree e.lambda_param = LambdaParam
ExpTree e.lambda_params = List LambdaParam
ExpTree e.pat = Pat
ExpTree e.pat_cons = Option Binder
ExpTree e.pat_rest = PatRest
ExpTree e.pat_argument = Argument

abbrev pub SqlTree : Quoting → s.SqlPart → Type 0
SqlTree q (s.sexp bare) = Quoted (Code q) SqlExp
SqlTree q (s.left bare l) = Quoted (Code q) SqlExp
SqlTree q (s.operand bare l) = Quoted (Code q) SqlExp
SqlTree q (s.left_tail bare l) = List (SqlStep (Code q))
SqlTree q (s.left_step bare l) = SqlStep (Code q)
SqlTree q (s.negation bare) = Quoted (Code q) SqlExp
SqlTree q (s.comparison bare) = Quoted (Code q) SqlExp
SqlTree q (s.comparison_tail bare) = Option (SqlRight (Code q))
SqlTree q s.is_rest = Bool
SqlTree q (s.negative bare) = Quoted (Code q) SqlExp
SqlTree q (s.atom bare) = Quoted (Code q) SqlExp
SqlTree q (s.column bare) = SqlExp
SqlTree q s.qualifier = Option Text
SqlTree q s.anti = Code q
SqlTree q s.name = DeclName
SqlTree q s.query = Quoted (Code q) SqlQuery
SqlTree q s.selection = Quoted (Code q) Selection
SqlTree q s.selected = Quoted (Code q) Selected
SqlTree q s.more_selected = Quoted (Code q) (List Selected)
SqlTree q s.aggregate = Quoted (Code q) Aggregate
SqlTree q s.item = FromItem
SqlTree q s.alias = Option Text
SqlTree q s.more_items = Quoted (Code q) (List FromItem)
SqlTree q (s.filter bare) = Quoted (Code q) (Option SqlExp)
SqlTree q s.group = List SqlExp
SqlTree q s.more_columns = List SqlExp
SqlTree q s.order = Quoted (Code q) (List OrderKey)
SqlTree q s.order_key = Quoted (Code q) OrderKey
SqlTree q s.direction = Direction
SqlTree q s.more_keys = Quoted (Code q) (List OrderKey)
SqlTree q s.limit = Quoted (Code q) (Option Limit)
SqlTree q s.offset = Quoted (Code q) (Option Limit)
SqlTree q s.amount = Quoted (Code q) Limit
SqlTree q s.change = Quoted (Code q) SqlChange
SqlTree q s.columns_end = List Text
SqlTree q s.values_end = Quoted (Code q) (List SqlExp)
SqlTree q s.assignment = Quoted (Code q) Assignment
SqlTree q s.more_assignments = Quoted (Code q) (List Assignment)

abbrev pub XmlTree : Quoting → x.XmlPart → Type 0
XmlTree q x.literal = Quoted (Code q) Xml
XmlTree q x.parts = Quoted (Code q) (List XmlNode)
XmlTree q x.one_part = Quoted (Code q) XmlNode
XmlTree q x.element = Quoted (Code q) XmlNode
XmlTree q x.element_end = Option (Inside (Code q))
XmlTree q x.tag = Tag
XmlTree q x.tag_field = TagField
XmlTree q x.tag_name = TagField
XmlTree q x.attrs = Quoted (Code q) (List Attr)
XmlTree q x.attr = Quoted (Code q) Attr
XmlTree q x.attr_value = Quoted (Code q) AttrValue

abbrev pub DeclTree : d.DeclPart → Type 0
DeclTree d.whole = Module
DeclTree d.decls = List Decl
DeclTree d.decl = Decl
DeclTree d.variant = Variant
DeclTree d.variant_con = Option Con
DeclTree d.more_variants = List Variant
DeclTree d.keys = Keys
DeclTree d.key_column = Named
DeclTree d.key_columns = KeyColumns
DeclTree d.more_columns = MoreColumns
DeclTree d.after_comma = MoreColumns
DeclTree d.columns_end = Closed
DeclTree d.more_constraints = List Constraint
DeclTree d.constraint_head = Named
DeclTree d.constraint_name = Text
DeclTree d.definition = FunDef
DeclTree d.more_definitions = List FunDef
DeclTree d.con_params = List ConParam
DeclTree d.params = List Param
DeclTree d.signature = Signature
DeclTree d.val_decls = List ValDecl
DeclTree d.val_decl = ValDecl

abbrev pub Tree : Part → Type 0
Tree (of_con p) = ConTree p
Tree (of_exp p) = ExpTree p
Tree (of_sql q p) = SqlTree q p
Tree (of_xml q p) = XmlTree q p
Tree (of_decl p) = DeclTree p
Tree (of_quote q) = Code q
Tree (of_code p) = List Lexeme
