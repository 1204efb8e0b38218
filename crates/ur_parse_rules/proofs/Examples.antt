-- Expressions, constructors and declarations are read as these trees, and what is no expression is not read.
use Rattle.ur_syntax.specs.declared.con.FieldName.TheVariants as name
use Rattle.ur_syntax.specs.declared.con.ConForm.TheVariants as con
use Rattle.ur_syntax.specs.declared.con.CField.TheVariants as cfield
use Rattle.ur_syntax.specs.declared.con.ConParam.TheVariants as cp
use Rattle.ur_syntax.specs.declared.kind.Kind.TheVariants as kind
use Rattle.ur_syntax.specs.declared.exp.ExpForm.TheVariants as exp
use Rattle.ur_syntax.specs.declared.exp.Binary.TheVariants as op
use Rattle.ur_syntax.specs.declared.exp.Binder.TheVariants as binder
use Rattle.ur_syntax.specs.declared.exp.Param.TheVariants as params
use Rattle.ur_syntax.specs.declared.exp.PatForm.TheVariants as pt
use Rattle.ur_syntax.specs.declared.exp.LambdaParam.TheVariants as lp
use Rattle.ur_syntax.specs.declared.exp.Argument.TheVariants as taken
use Rattle.ur_syntax.specs.declared.xml.XmlForm.TheVariants as xml
use Rattle.ur_syntax.specs.declared.decl.DeclForm.TheVariants as d
use Rattle.ur_lex.specs.declared.token.Keyword.TheVariants as keyword
use Rattle.ur_lex.specs.declared.token.Symbol.TheVariants as symbol
use Rattle.ur_lex.specs.declared.token.TokenKind.TheVariants as token
use denote.Hole.Carrier
use Rattle.ur_syntax.specs.declared.con.ConForm.{out-ConForm}
use Rattle.ur_syntax.specs.declared.con.CField.{out-CField}
use Rattle.ur_syntax.specs.declared.con.CField.TheBlock as cb
use Rattle.std.specs.Prelude.{◌≡◌, [], ◌∷◌, codes, Some, None, refl}
use Rattle.ur_parse_rules.proofs.Samples.{parens, tokens_at, at_bytes, s0, lx, sy, kw, lo, up, it, E, C, X, v, num, exp_of, module_of, signature_of, con_of, param_of, con_before_keys}

empty_list : exp_of (lo (codes "f") ∷ sy symbol.LBracket ∷ sy symbol.RBracket ∷ lo (codes "x") ∷ []) ≡ Some ((E (exp.App (E (exp.App (v (codes "f")) (E (exp.Nil)))) (v (codes "x")))))
empty_list = refl

removal : exp_of (lo (codes "a") ∷ sy symbol.DoubleMinus ∷ sy symbol.Hash ∷ up (codes "A") ∷ sy symbol.Caret ∷ lo (codes "b") ∷ []) ≡ Some ((E (exp.Binary op.Append (E (exp.Remove (v (codes "a")) (record { span = s0; name = (name.Literal (codes "A")) }))) (v (codes "b")))))
removal = refl

to_the_left : exp_of (it 1 ∷ sy symbol.Minus ∷ it 2 ∷ sy symbol.Minus ∷ it 3 ∷ []) ≡ Some ((E (exp.Binary op.Sub (E (exp.Binary op.Sub (num 1) (num 2))) (num 3))))
to_the_left = refl

no_chain : exp_of (it 1 ∷ sy symbol.Eq ∷ it 2 ∷ sy symbol.Eq ∷ it 3 ∷ []) ≡ None
no_chain = refl

cons : exp_of (it 1 ∷ sy symbol.DoubleColon ∷ it 2 ∷ sy symbol.DoubleColon ∷ lo (codes "x") ∷ []) ≡ Some ((E (exp.Binary op.Cons (num 1) (E (exp.Binary op.Cons (num 2) (v (codes "x")))))))
cons = refl

member : exp_of (up (codes "M") ∷ sy symbol.Dot ∷ lo (codes "x") ∷ sy symbol.Dot ∷ lo (codes "y") ∷ []) ≡ Some ((E (exp.Project (E (exp.Member (codes "M") (codes "x"))) (name.Variable (codes "y")))))
member = refl

not_a_variable : exp_of (lo (codes "return") ∷ []) ≡ None
not_a_variable = refl

a_variable : exp_of (lo (codes "f") ∷ lo (codes "return") ∷ []) ≡ Some ((E (exp.App (v (codes "f")) (v (codes "return")))))
a_variable = refl

not_a_constructor : exp_of (up (codes "Some") ∷ []) ≡ None
not_a_constructor = refl

inner_case : exp_of (kw keyword.Case ∷ lo (codes "x") ∷ kw keyword.Of ∷ lo (codes "a") ∷ sy symbol.FatArrow ∷ kw keyword.Case ∷ lo (codes "y") ∷ kw keyword.Of ∷ lo (codes "b") ∷ sy symbol.FatArrow ∷ it 1 ∷ sy symbol.Bar ∷ lo (codes "c") ∷ sy symbol.FatArrow ∷ it 2 ∷ []) ≡ Some ((E (exp.Case (v (codes "x")) (record { pat = (record { span = s0; form = pt.Var (codes "a") }); body = (E (exp.Case (v (codes "y")) (record { pat = (record { span = s0; form = pt.Var (codes "b") }); body = (num 1) } ∷ record { pat = (record { span = s0; form = pt.Var (codes "c") }); body = (num 2) } ∷ []))) } ∷ []))))
inner_case = refl

closed_case : exp_of (kw keyword.Case ∷ lo (codes "x") ∷ kw keyword.Of ∷ sy symbol.Bar ∷ lo (codes "a") ∷ sy symbol.FatArrow ∷ sy symbol.LParen ∷ kw keyword.Case ∷ lo (codes "y") ∷ kw keyword.Of ∷ lo (codes "b") ∷ sy symbol.FatArrow ∷ it 1 ∷ sy symbol.RParen ∷ sy symbol.Bar ∷ lo (codes "c") ∷ sy symbol.FatArrow ∷ it 2 ∷ []) ≡ Some ((E (exp.Case (v (codes "x")) (record { pat = (record { span = s0; form = pt.Var (codes "a") }); body = (E (exp.Case (v (codes "y")) (record { pat = (record { span = s0; form = pt.Var (codes "b") }); body = (num 1) } ∷ []))) } ∷ record { pat = (record { span = s0; form = pt.Var (codes "c") }); body = (num 2) } ∷ []))))
closed_case = refl

closed_if : exp_of (kw keyword.Case ∷ lo (codes "x") ∷ kw keyword.Of ∷ lo (codes "a") ∷ sy symbol.FatArrow ∷ kw keyword.If ∷ lo (codes "c") ∷ kw keyword.Then ∷ kw keyword.Case ∷ lo (codes "y") ∷ kw keyword.Of ∷ lo (codes "b") ∷ sy symbol.FatArrow ∷ it 1 ∷ sy symbol.Bar ∷ lo (codes "d") ∷ sy symbol.FatArrow ∷ it 2 ∷ kw keyword.Else ∷ it 3 ∷ sy symbol.Bar ∷ lo (codes "e") ∷ sy symbol.FatArrow ∷ it 4 ∷ []) ≡ Some ((E (exp.Case (v (codes "x")) (record { pat = (record { span = s0; form = pt.Var (codes "a") }); body = (E (exp.If (v (codes "c")) (E (exp.Case (v (codes "y")) (record { pat = (record { span = s0; form = pt.Var (codes "b") }); body = (num 1) } ∷ record { pat = (record { span = s0; form = pt.Var (codes "d") }); body = (num 2) } ∷ []))) (num 3))) } ∷ record { pat = (record { span = s0; form = pt.Var (codes "e") }); body = (num 4) } ∷ []))))
closed_if = refl

statements : exp_of (kw keyword.If ∷ lo (codes "c") ∷ kw keyword.Then ∷ lo (codes "a") ∷ kw keyword.Else ∷ lo (codes "b") ∷ sy symbol.Semicolon ∷ lo (codes "d") ∷ []) ≡ Some ((E (exp.Seq (E (exp.If (v (codes "c")) (v (codes "a")) (v (codes "b")))) (v (codes "d")))))
statements = refl

lambda_takes_all : exp_of (kw keyword.If ∷ lo (codes "c") ∷ kw keyword.Then ∷ lo (codes "a") ∷ kw keyword.Else ∷ kw keyword.Fn ∷ lo (codes "x") ∷ sy symbol.FatArrow ∷ lo (codes "b") ∷ sy symbol.Semicolon ∷ lo (codes "d") ∷ []) ≡ Some ((E (exp.If (v (codes "c")) (v (codes "a")) (E (exp.Lambda (lp.Bare (binder.Named (codes "x")) ∷ []) (E (exp.Seq (v (codes "b")) (v (codes "d")))))))))
lambda_takes_all = refl

spaces_in_brackets : exp_of (lo (codes "f") ∷ sy symbol.LBracket ∷ lo (codes "c") ∷ sy symbol.RBracket ∷ []) ≡ Some ((E (exp.ConApp (v (codes "f")) (C (con.Var (codes "c"))))))
unfolding out-ConForm out-CField Carrier.out Carrier.roll Carrier.shown Carrier.hidden cb.shown-the_row-Con-0 cb.hidden-the_row-Con-0 cb.shown-the_row-CField-1 cb.hidden-the_row-CField-1 cb.shown-the_row-RecordField-2 cb.hidden-the_row-RecordField-2
spaces_in_brackets = refl

declarations : module_of (kw keyword.Datatype ∷ lo (codes "chain") ∷ sy symbol.Eq ∷ up (codes "End") ∷ sy symbol.Bar ∷ up (codes "More") ∷ kw keyword.Of ∷ lo (codes "chain") ∷ kw keyword.Fun ∷ lo (codes "make") ∷ sy symbol.LParen ∷ lo (codes "n") ∷ sy symbol.Colon ∷ lo (codes "int") ∷ sy symbol.RParen ∷ sy symbol.Colon ∷ lo (codes "chain") ∷ sy symbol.Eq ∷ kw keyword.If ∷ lo (codes "n") ∷ sy symbol.Eq ∷ it 0 ∷ kw keyword.Then ∷ up (codes "End") ∷ kw keyword.Else ∷ up (codes "More") ∷ sy symbol.LParen ∷ lo (codes "make") ∷ sy symbol.LParen ∷ lo (codes "n") ∷ sy symbol.Minus ∷ it 1 ∷ sy symbol.RParen ∷ sy symbol.RParen ∷ kw keyword.Val ∷ lo (codes "start") ∷ sy symbol.Colon ∷ lo (codes "chain") ∷ sy symbol.Eq ∷ lo (codes "make") ∷ it 3 ∷ kw keyword.Cookie ∷ lo (codes "seen") ∷ sy symbol.Colon ∷ lo (codes "int") ∷ kw keyword.Con ∷ lo (codes "k") ∷ sy symbol.DoubleColon ∷ sy symbol.LParen ∷ up (codes "Type") ∷ sy symbol.Arrow ∷ up (codes "Type") ∷ sy symbol.RParen ∷ sy symbol.Arrow ∷ up (codes "Name") ∷ sy symbol.Eq ∷ kw keyword.Fn ∷ lo (codes "f") ∷ sy symbol.DoubleColon ∷ sy symbol.LParen ∷ up (codes "Type") ∷ sy symbol.Arrow ∷ up (codes "Type") ∷ sy symbol.RParen ∷ sy symbol.FatArrow ∷ sy symbol.Hash ∷ up (codes "A") ∷ kw keyword.Type ∷ lo (codes "row") ∷ sy symbol.Eq ∷ sy symbol.Dollar ∷ sy symbol.LParen ∷ sy symbol.LBracket ∷ up (codes "A") ∷ sy symbol.Eq ∷ lo (codes "int") ∷ sy symbol.RBracket ∷ sy symbol.DoublePlus ∷ sy symbol.LBracket ∷ up (codes "B") ∷ sy symbol.Eq ∷ lo (codes "string") ∷ sy symbol.RBracket ∷ sy symbol.RParen ∷ kw keyword.Table ∷ lo (codes "u") ∷ sy symbol.Colon ∷ sy symbol.Dollar ∷ lo (codes "row") ∷ up (codes "PRIMARY") ∷ up (codes "KEY") ∷ sy symbol.LParen ∷ up (codes "A") ∷ sy symbol.Comma ∷ up (codes "B") ∷ sy symbol.RParen ∷ sy symbol.Comma ∷ up (codes "CONSTRAINT") ∷ lo (codes "one") ∷ up (codes "UNIQUE") ∷ up (codes "A") ∷ sy symbol.Comma ∷ up (codes "CONSTRAINT") ∷ up (codes "Two") ∷ up (codes "UNIQUE") ∷ sy symbol.LParen ∷ up (codes "B") ∷ sy symbol.RParen ∷ []) ≡ Some ((record { decls = (record { span = s0; form = d.Datatype (codes "chain") (record { span = s0; name = (codes "End"); con = None } ∷ record { span = s0; name = (codes "More"); con = Some (C (con.Var (codes "chain"))) } ∷ []) } ∷ record { span = s0; form = d.Fun (record { span = s0; name = (codes "make"); con_params = ([]); params = (params.Value (binder.Named (codes "n")) (C (con.Var (codes "int"))) ∷ []); result = (C (con.Var (codes "chain"))); body = (E (exp.If (E (exp.Binary op.Eq (v (codes "n")) (num 0))) (E (exp.Constructor (codes "End"))) (E (exp.App (E (exp.Constructor (codes "More"))) (E (exp.App (v (codes "make")) (E (exp.Binary op.Sub (v (codes "n")) (num 1))))))))) } ∷ []) } ∷ record { span = s0; form = d.Val (codes "start") (C (con.Var (codes "chain"))) (E (exp.App (v (codes "make")) (num 3))) } ∷ record { span = s0; form = d.Cookie (codes "seen") (C (con.Var (codes "int"))) } ∷ record { span = s0; form = d.Con (codes "k") (kind.Arrow (kind.Arrow kind.Star kind.Star) kind.Name) (C (con.Lambda (codes "f") (kind.Arrow kind.Star kind.Star) (C (con.Name (codes "A"))))) } ∷ record { span = s0; form = d.Type (codes "row") (C (con.RecordOf (C (con.Concat (C (con.Row (cfield.Given (name.Literal (codes "A")) (C (con.Var (codes "int"))) ∷ []))) (C (con.Row (cfield.Given (name.Literal (codes "B")) (C (con.Var (codes "string"))) ∷ []))))))) } ∷ record { span = s0; form = d.Table (codes "u") (C (con.RecordOf (C (con.Var (codes "row"))))) (Some ((codes "A") ∷ (codes "B") ∷ [])) (record { span = s0; name = (codes "one"); columns = ((codes "A") ∷ []) } ∷ record { span = s0; name = (codes "Two"); columns = ((codes "B") ∷ []) } ∷ []) } ∷ []) }))
unfolding out-ConForm out-CField Carrier.out Carrier.roll Carrier.shown Carrier.hidden cb.shown-the_row-Con-0 cb.hidden-the_row-Con-0 cb.shown-the_row-CField-1 cb.hidden-the_row-CField-1 cb.shown-the_row-RecordField-2 cb.hidden-the_row-RecordField-2
declarations = refl

cookie_form : exp_of (lo (codes "setCookie") ∷ lo (codes "c") ∷ sy symbol.LBrace ∷ up (codes "Value") ∷ sy symbol.Eq ∷ it 1 ∷ sy symbol.Comma ∷ up (codes "Expires") ∷ sy symbol.Eq ∷ up (codes "None") ∷ sy symbol.Comma ∷ up (codes "Secure") ∷ sy symbol.Eq ∷ up (codes "False") ∷ sy symbol.RBrace ∷ []) ≡ Some ((E (exp.SetCookie (record { span = s0; «module» = None; name = (codes "c") }) (E (exp.Record (record { name = (name.Literal (codes "Value")); value = (num 1) } ∷ record { name = (name.Literal (codes "Expires")); value = (E (exp.Constructor (codes "None"))) } ∷ record { name = (name.Literal (codes "Secure")); value = (E (exp.Constructor (codes "False"))) } ∷ []))))))
cookie_form = refl

let_in : exp_of (kw keyword.Let ∷ kw keyword.Val ∷ lo (codes "x") ∷ sy symbol.Colon ∷ lo (codes "int") ∷ sy symbol.Eq ∷ it 1 ∷ kw keyword.In ∷ lo (codes "x") ∷ kw keyword.End ∷ sy symbol.Plus ∷ sy symbol.Minus ∷ it 2 ∷ []) ≡ Some ((E (exp.Binary op.Add (E (exp.Let (record { span = s0; name = (codes "x"); con = (C (con.Var (codes "int"))); value = (num 1) } ∷ []) (v (codes "x")))) (E (exp.Negative (num 2))))))
unfolding out-ConForm out-CField Carrier.out Carrier.roll Carrier.shown Carrier.hidden cb.shown-the_row-Con-0 cb.hidden-the_row-Con-0 cb.shown-the_row-CField-1 cb.hidden-the_row-CField-1 cb.shown-the_row-RecordField-2 cb.hidden-the_row-RecordField-2
let_in = refl

patterns : exp_of (kw keyword.Case ∷ lo (codes "x") ∷ kw keyword.Of ∷ up (codes "None") ∷ sy symbol.FatArrow ∷ it 1 ∷ sy symbol.Bar ∷ up (codes "Some") ∷ lo (codes "y") ∷ sy symbol.FatArrow ∷ it 2 ∷ sy symbol.Bar ∷ sy symbol.LBracket ∷ sy symbol.RBracket ∷ sy symbol.FatArrow ∷ it 3 ∷ sy symbol.Bar ∷ lo (codes "y") ∷ sy symbol.DoubleColon ∷ sy symbol.Underscore ∷ sy symbol.FatArrow ∷ it 4 ∷ sy symbol.Bar ∷ up (codes "M") ∷ sy symbol.Dot ∷ up (codes "A") ∷ lo (codes "y") ∷ sy symbol.FatArrow ∷ it 5 ∷ sy symbol.Bar ∷ sy symbol.Minus ∷ it 7 ∷ sy symbol.FatArrow ∷ it 6 ∷ sy symbol.Bar ∷ lx token.Str (codes "s") ∷ sy symbol.FatArrow ∷ it 7 ∷ sy symbol.Bar ∷ up (codes "More") ∷ sy symbol.Underscore ∷ sy symbol.FatArrow ∷ it 8 ∷ []) ≡ Some ((E (exp.Case (v (codes "x")) (record { pat = record { span = s0; form = pt.None }; body = (num 1) } ∷ record { pat = record { span = s0; form = pt.Some (binder.Named (codes "y")) }; body = (num 2) } ∷ record { pat = record { span = s0; form = pt.Nil }; body = (num 3) } ∷ record { pat = record { span = s0; form = pt.Cons (binder.Named (codes "y")) binder.Ignored }; body = (num 4) } ∷ record { pat = record { span = s0; form = pt.Member (codes "M") (codes "A") (taken.Bound (binder.Named (codes "y"))) }; body = (num 5) } ∷ record { pat = record { span = s0; form = pt.Negative 7 }; body = (num 6) } ∷ record { pat = record { span = s0; form = pt.Str (codes "s") }; body = (num 7) } ∷ record { pat = record { span = s0; form = pt.Constructor (codes "More") (taken.Bound binder.Ignored) }; body = (num 8) } ∷ []))))
patterns = refl

ignored : exp_of (sy symbol.Underscore ∷ sy symbol.LeftArrow ∷ lo (codes "add") ∷ lo (codes "who") ∷ lo (codes "r") ∷ sy symbol.Semicolon ∷ lo (codes "error") ∷ sy symbol.XmlOpen ∷ lx token.XmlText (codes "no") ∷ sy symbol.XmlClose ∷ []) ≡ Some ((E (exp.Bind binder.Ignored (E (exp.App (E (exp.App (v (codes "add")) (v (codes "who")))) (v (codes "r")))) (E (exp.Error (E (exp.Xml (record { parts = (X (xml.Text (codes "no")) ∷ []) }) ([]) ([]))))))))
ignored = refl

bound_form_word : exp_of (lo (codes "show") ∷ sy symbol.LeftArrow ∷ lo (codes "f") ∷ sy symbol.Semicolon ∷ lo (codes "g") ∷ []) ≡ None
bound_form_word = refl

logic : exp_of (lo (codes "not") ∷ lo (codes "a") ∷ sy symbol.AndAnd ∷ lo (codes "b") ∷ sy symbol.Lt ∷ lo (codes "c") ∷ sy symbol.OrOr ∷ lo (codes "d") ∷ sy symbol.Ne ∷ lo (codes "e") ∷ sy symbol.Percent ∷ it 2 ∷ []) ≡ Some ((E (exp.Binary op.Or (E (exp.Binary op.And (E (exp.Not (v (codes "a")))) (E (exp.Binary op.Lt (v (codes "b")) (v (codes "c")))))) (E (exp.Binary op.Ne (v (codes "d")) (E (exp.Binary op.Rem (v (codes "e")) (num 2))))))))
logic = refl

record_of_names : exp_of (sy symbol.LBrace ∷ lo (codes "nm") ∷ sy symbol.Eq ∷ sy symbol.LBrace ∷ up (codes "A") ∷ sy symbol.Eq ∷ it 1 ∷ sy symbol.RBrace ∷ sy symbol.Dot ∷ up (codes "A") ∷ sy symbol.Comma ∷ up (codes "B") ∷ sy symbol.Eq ∷ sy symbol.LParen ∷ sy symbol.RParen ∷ sy symbol.RBrace ∷ sy symbol.DoublePlus ∷ lo (codes "x") ∷ sy symbol.Dot ∷ lo (codes "y") ∷ []) ≡ Some ((E (exp.Binary op.Concat (E (exp.Record (record { name = (name.Variable (codes "nm")); value = (E (exp.Project (E (exp.Record (record { name = (name.Literal (codes "A")); value = (num 1) } ∷ []))) (name.Literal (codes "A")))) } ∷ record { name = (name.Literal (codes "B")); value = (E (exp.Unit)) } ∷ []))) (E (exp.Project (v (codes "x")) (name.Variable (codes "y")))))))
record_of_names = refl

a_signature : signature_of (kw keyword.Val ∷ lo (codes "list") ∷ sy symbol.Colon ∷ lo (codes "string") ∷ sy symbol.Arrow ∷ lo (codes "transaction") ∷ lo (codes "page") ∷ []) ≡ Some ((record { vals = (record { span = s0; name = (codes "list"); con = (C (con.Arrow (C (con.Var (codes "string"))) (C (con.App (C (con.Var (codes "transaction"))) (C (con.Var (codes "page"))))))) } ∷ []) }))
unfolding out-ConForm out-CField Carrier.out Carrier.roll Carrier.shown Carrier.hidden cb.shown-the_row-Con-0 cb.hidden-the_row-Con-0 cb.shown-the_row-CField-1 cb.hidden-the_row-CField-1 cb.shown-the_row-RecordField-2 cb.hidden-the_row-RecordField-2
a_signature = refl

arrow_to_the_right : con_of (lo (codes "int") ∷ sy symbol.Arrow ∷ lo (codes "r") ∷ sy symbol.DoublePlus ∷ lo (codes "s") ∷ sy symbol.DoublePlus ∷ lo (codes "t") ∷ sy symbol.Arrow ∷ lo (codes "string") ∷ []) ≡ Some ((C (con.Arrow (C (con.Var (codes "int"))) (C (con.Arrow (C (con.Concat (C (con.Var (codes "r"))) (C (con.Concat (C (con.Var (codes "s"))) (C (con.Var (codes "t"))))))) (C (con.Var (codes "string"))))))))
unfolding out-ConForm out-CField Carrier.out Carrier.roll Carrier.shown Carrier.hidden cb.shown-the_row-Con-0 cb.hidden-the_row-Con-0 cb.shown-the_row-CField-1 cb.hidden-the_row-CField-1 cb.shown-the_row-RecordField-2 cb.hidden-the_row-RecordField-2
arrow_to_the_right = refl

no_bare_field : con_of (sy symbol.LBracket ∷ up (codes "A") ∷ sy symbol.RBracket ∷ []) ≡ None
unfolding out-ConForm out-CField Carrier.out Carrier.roll Carrier.shown Carrier.hidden cb.shown-the_row-Con-0 cb.hidden-the_row-Con-0 cb.shown-the_row-CField-1 cb.hidden-the_row-CField-1 cb.shown-the_row-RecordField-2 cb.hidden-the_row-RecordField-2
no_bare_field = refl

bare_field_beside : param_of (sy symbol.LBracket ∷ sy symbol.LBracket ∷ up (codes "A") ∷ sy symbol.RBracket ∷ sy symbol.Tilde ∷ lo (codes "r") ∷ sy symbol.RBracket ∷ []) ≡ Some ((cp.Disjoint (C (con.Row (cfield.Bare (name.Literal (codes "A")) ∷ []))) (C (con.Var (codes "r")))))
unfolding out-ConForm out-CField Carrier.out Carrier.roll Carrier.shown Carrier.hidden cb.shown-the_row-Con-0 cb.hidden-the_row-Con-0 cb.shown-the_row-CField-1 cb.hidden-the_row-CField-1 cb.shown-the_row-RecordField-2 cb.hidden-the_row-RecordField-2
bare_field_beside = refl

key_word_is_no_module : con_before_keys (lo (codes "x") ∷ up (codes "PRIMARY") ∷ sy symbol.Dot ∷ lo (codes "y") ∷ []) ≡ None
unfolding out-ConForm out-CField Carrier.out Carrier.roll Carrier.shown Carrier.hidden cb.shown-the_row-Con-0 cb.hidden-the_row-Con-0 cb.shown-the_row-CField-1 cb.hidden-the_row-CField-1 cb.shown-the_row-RecordField-2 cb.hidden-the_row-RecordField-2
key_word_is_no_module = refl

-- a table has one PRIMARY KEY, which comes first
second_key : module_of (kw keyword.Table ∷ lo (codes "t") ∷ sy symbol.Colon ∷ lo (codes "r") ∷ up (codes "PRIMARY") ∷ up (codes "KEY") ∷ up (codes "A") ∷ sy symbol.Comma ∷ up (codes "PRIMARY") ∷ up (codes "KEY") ∷ up (codes "B") ∷ []) ≡ None
unfolding out-ConForm Carrier.out
second_key = refl

-- operators by their levels
levels : exp_of (it 1 ∷ sy symbol.Plus ∷ it 2 ∷ sy symbol.Star ∷ it 3 ∷ sy symbol.Plus ∷ it 4 ∷ []) ≡ Some (E (exp.Binary op.Add (E (exp.Binary op.Add (num 1) (E (exp.Binary op.Mul (num 2) (num 3))))) (num 4)))
levels = refl

-- 255 pairs of parentheses are read, and 256 are not
deep : exp_of (parens 255 (it 1 ∷ [])) ≡ Some (num 1)
deep = refl

too_deep : exp_of (parens 256 (it 1 ∷ [])) ≡ None
too_deep = refl

-- a span is without the parentheses around its node, and with those within: `(a) + b`, each token one byte long
placed : exp_of (tokens_at 0 ((token.Symbol symbol.LParen, codes "(") ∷ (token.Lower, codes "a") ∷ (token.Symbol symbol.RParen, codes ")") ∷ (token.Symbol symbol.Plus, codes "+") ∷ (token.Lower, codes "b") ∷ []))
    ≡ Some (at_bytes 0 5 (exp.Binary op.Add (at_bytes 1 2 (exp.Var (codes "a"))) (at_bytes 4 5 (exp.Var (codes "b")))))
placed = refl
