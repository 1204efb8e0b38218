-- Four applications are read as these trees.
use Rattle.ur_syntax.specs.declared.con.FieldName.TheVariants as name
use Rattle.ur_syntax.specs.declared.con.ConForm.TheVariants as con
use Rattle.ur_syntax.specs.declared.con.CField.TheVariants as cfield
use Rattle.ur_syntax.specs.declared.con.ConParam.TheVariants as cp
use Rattle.ur_syntax.specs.declared.kind.Kind.TheVariants as kind
use Rattle.ur_syntax.specs.declared.exp.ExpForm.TheVariants as exp
use Rattle.ur_syntax.specs.declared.exp.Binary.TheVariants as op
use Rattle.ur_syntax.specs.declared.exp.Binder.TheVariants as binder
use Rattle.ur_syntax.specs.declared.exp.Param.TheVariants as params
use Rattle.ur_syntax.specs.declared.exp.QueryWord.TheVariants as qw
use Rattle.ur_syntax.specs.declared.exp.LambdaParam.TheVariants as lp
use Rattle.ur_syntax.specs.declared.sql.SqlForm.TheVariants as sql
use Rattle.ur_syntax.specs.declared.sql.SqlBinary.TheVariants as sop
use Rattle.ur_syntax.specs.declared.sql.Selection.TheVariants as selection
use Rattle.ur_syntax.specs.declared.sql.Selected.TheVariants as selected
use Rattle.ur_syntax.specs.declared.sql.Direction.TheVariants as direction
use Rattle.ur_syntax.specs.declared.sql.SqlChange.TheVariants as changes
use Rattle.ur_syntax.specs.declared.xml.XmlForm.TheVariants as xml
use Rattle.ur_syntax.specs.declared.xml.TagField.TheVariants as tagged
use Rattle.ur_syntax.specs.declared.xml.AttrValue.TheVariants as value
use Rattle.ur_syntax.specs.declared.decl.DeclForm.TheVariants as d
use Rattle.ur_lex.specs.declared.token.Keyword.TheVariants as keyword
use Rattle.ur_lex.specs.declared.token.Symbol.TheVariants as symbol
use Rattle.ur_lex.specs.declared.token.TokenKind.TheVariants as token
use denote.Hole.Carrier
use Rattle.ur_syntax.specs.declared.con.ConForm.{out-ConForm}
use Rattle.ur_syntax.specs.declared.con.CField.{out-CField}
use Rattle.ur_syntax.specs.declared.con.CField.TheBlock as cb
use Rattle.std.specs.Prelude.{◌≡◌, [], ◌∷◌, codes, Some, None, refl}
use Rattle.ur_parse_rules.proofs.Samples.{s0, lx, sy, kw, lo, up, it, E, C, X, Q, v, num, module_of}

hello : module_of (kw keyword.Fun ∷ lo (codes "main") ∷ sy symbol.LParen ∷ lo (codes "n") ∷ sy symbol.Colon ∷ lo (codes "int") ∷ sy symbol.RParen ∷ sy symbol.Colon ∷ lo (codes "transaction") ∷ lo (codes "page") ∷ sy symbol.Eq ∷ lo (codes "return") ∷ sy symbol.XmlOpen ∷ sy symbol.Lt ∷ lx token.Word (codes "head") ∷ sy symbol.Gt ∷ sy symbol.Lt ∷ lx token.Word (codes "title") ∷ sy symbol.Gt ∷ lx token.XmlText (codes "Hello") ∷ sy symbol.TagClose ∷ lx token.Word (codes "title") ∷ sy symbol.Gt ∷ sy symbol.TagClose ∷ lx token.Word (codes "head") ∷ sy symbol.Gt ∷ sy symbol.Lt ∷ lx token.Word (codes "body") ∷ sy symbol.Gt ∷ sy symbol.Lt ∷ lx token.Word (codes "p") ∷ sy symbol.Gt ∷ lx token.XmlText (codes "n is ") ∷ sy symbol.LBrace ∷ sy symbol.LBracket ∷ lo (codes "n") ∷ sy symbol.RBracket ∷ sy symbol.RBrace ∷ sy symbol.TagClose ∷ lx token.Word (codes "p") ∷ sy symbol.Gt ∷ sy symbol.TagClose ∷ lx token.Word (codes "body") ∷ sy symbol.Gt ∷ sy symbol.XmlClose ∷ []) ≡ Some ((record { decls = (record { span = s0; form = d.Fun (record { span = s0; name = (codes "main"); con_params = ([]); params = (params.Value (binder.Named (codes "n")) (C (con.Var (codes "int"))) ∷ []); result = (C (con.App (C (con.Var (codes "transaction"))) (C (con.Var (codes "page"))))); body = (E (exp.Return (E (exp.Xml (record { parts = (X (xml.Element (record { word = (codes "head"); field = tagged.None }) ([]) (X (xml.Element (record { word = (codes "title"); field = tagged.None }) ([]) (X (xml.Text (codes "Hello")) ∷ [])) ∷ [])) ∷ X (xml.Element (record { word = (codes "body"); field = tagged.None }) ([]) (X (xml.Element (record { word = (codes "p"); field = tagged.None }) ([]) (X (xml.Text (codes "n is ")) ∷ X (xml.Show 0) ∷ [])) ∷ [])) ∷ []) }) ((v (codes "n")) ∷ []) ([]))))) } ∷ []) } ∷ []) }))
unfolding out-ConForm out-CField Carrier.out Carrier.roll Carrier.shown Carrier.hidden cb.shown-the_row-Con-0 cb.hidden-the_row-Con-0 cb.shown-the_row-CField-1 cb.hidden-the_row-CField-1 cb.shown-the_row-RecordField-2 cb.hidden-the_row-RecordField-2
hello = refl

notes : module_of (kw keyword.Sequence ∷ lo (codes "ids") ∷ kw keyword.Table ∷ lo (codes "note") ∷ sy symbol.Colon ∷ sy symbol.LBrace ∷ up (codes "Id") ∷ sy symbol.Colon ∷ lo (codes "int") ∷ sy symbol.Comma ∷ up (codes "Owner") ∷ sy symbol.Colon ∷ lo (codes "string") ∷ sy symbol.Comma ∷ up (codes "Body") ∷ sy symbol.Colon ∷ lo (codes "string") ∷ sy symbol.RBrace ∷ up (codes "PRIMARY") ∷ up (codes "KEY") ∷ up (codes "Id") ∷ kw keyword.Fun ∷ lo (codes "list") ∷ sy symbol.LParen ∷ lo (codes "who") ∷ sy symbol.Colon ∷ lo (codes "string") ∷ sy symbol.RParen ∷ sy symbol.Colon ∷ lo (codes "transaction") ∷ lo (codes "page") ∷ sy symbol.Eq ∷ lo (codes "rows") ∷ sy symbol.LeftArrow ∷ lo (codes "queryX") ∷ sy symbol.LParen ∷ up (codes "SELECT") ∷ lo (codes "note") ∷ sy symbol.Dot ∷ up (codes "Id") ∷ sy symbol.Comma ∷ lo (codes "note") ∷ sy symbol.Dot ∷ up (codes "Body") ∷ up (codes "FROM") ∷ lo (codes "note") ∷ up (codes "WHERE") ∷ lo (codes "note") ∷ sy symbol.Dot ∷ up (codes "Owner") ∷ sy symbol.Eq ∷ sy symbol.LBrace ∷ sy symbol.LBracket ∷ lo (codes "who") ∷ sy symbol.RBracket ∷ sy symbol.RBrace ∷ up (codes "ORDER") ∷ up (codes "BY") ∷ lo (codes "note") ∷ sy symbol.Dot ∷ up (codes "Id") ∷ sy symbol.RParen ∷ sy symbol.LParen ∷ kw keyword.Fn ∷ lo (codes "r") ∷ sy symbol.FatArrow ∷ sy symbol.XmlOpen ∷ sy symbol.Lt ∷ lx token.Word (codes "p") ∷ sy symbol.Gt ∷ sy symbol.LBrace ∷ sy symbol.LBracket ∷ lo (codes "r") ∷ sy symbol.Dot ∷ up (codes "Note") ∷ sy symbol.Dot ∷ up (codes "Body") ∷ sy symbol.RBracket ∷ sy symbol.RBrace ∷ sy symbol.TagClose ∷ lx token.Word (codes "p") ∷ sy symbol.Gt ∷ sy symbol.Lt ∷ lx token.Word (codes "form") ∷ sy symbol.Gt ∷ sy symbol.Lt ∷ lx token.Word (codes "submit") ∷ lx token.Word (codes "action") ∷ sy symbol.Eq ∷ sy symbol.LBrace ∷ lo (codes "drop") ∷ lo (codes "r") ∷ sy symbol.Dot ∷ up (codes "Note") ∷ sy symbol.Dot ∷ up (codes "Id") ∷ sy symbol.RBrace ∷ lx token.Word (codes "value") ∷ sy symbol.Eq ∷ lx token.Str (codes "Drop") ∷ sy symbol.TagEmpty ∷ sy symbol.TagClose ∷ lx token.Word (codes "form") ∷ sy symbol.Gt ∷ sy symbol.Lt ∷ lx token.Word (codes "form") ∷ sy symbol.Gt ∷ sy symbol.Lt ∷ lx token.Word (codes "textbox") ∷ sy symbol.LBrace ∷ sy symbol.Hash ∷ up (codes "To") ∷ sy symbol.RBrace ∷ sy symbol.TagEmpty ∷ sy symbol.Lt ∷ lx token.Word (codes "submit") ∷ lx token.Word (codes "action") ∷ sy symbol.Eq ∷ sy symbol.LBrace ∷ lo (codes "move") ∷ lo (codes "r") ∷ sy symbol.Dot ∷ up (codes "Note") ∷ sy symbol.Dot ∷ up (codes "Id") ∷ sy symbol.RBrace ∷ lx token.Word (codes "value") ∷ sy symbol.Eq ∷ lx token.Str (codes "Move") ∷ sy symbol.TagEmpty ∷ sy symbol.TagClose ∷ lx token.Word (codes "form") ∷ sy symbol.Gt ∷ sy symbol.XmlClose ∷ sy symbol.RParen ∷ sy symbol.Semicolon ∷ lo (codes "return") ∷ sy symbol.XmlOpen ∷ sy symbol.Lt ∷ lx token.Word (codes "head") ∷ sy symbol.Gt ∷ sy symbol.Lt ∷ lx token.Word (codes "title") ∷ sy symbol.Gt ∷ lx token.XmlText (codes "Notes") ∷ sy symbol.TagClose ∷ lx token.Word (codes "title") ∷ sy symbol.Gt ∷ sy symbol.TagClose ∷ lx token.Word (codes "head") ∷ sy symbol.Gt ∷ sy symbol.Lt ∷ lx token.Word (codes "body") ∷ sy symbol.Gt ∷ sy symbol.Lt ∷ lx token.Word (codes "h1") ∷ sy symbol.Gt ∷ sy symbol.LBrace ∷ sy symbol.LBracket ∷ lo (codes "who") ∷ sy symbol.RBracket ∷ sy symbol.RBrace ∷ sy symbol.TagClose ∷ lx token.Word (codes "h1") ∷ sy symbol.Gt ∷ sy symbol.LBrace ∷ lo (codes "rows") ∷ sy symbol.RBrace ∷ sy symbol.Lt ∷ lx token.Word (codes "form") ∷ sy symbol.Gt ∷ sy symbol.Lt ∷ lx token.Word (codes "textbox") ∷ sy symbol.LBrace ∷ sy symbol.Hash ∷ up (codes "Body") ∷ sy symbol.RBrace ∷ sy symbol.TagEmpty ∷ sy symbol.Lt ∷ lx token.Word (codes "submit") ∷ lx token.Word (codes "action") ∷ sy symbol.Eq ∷ sy symbol.LBrace ∷ lo (codes "add") ∷ lo (codes "who") ∷ sy symbol.RBrace ∷ lx token.Word (codes "value") ∷ sy symbol.Eq ∷ lx token.Str (codes "Add") ∷ sy symbol.TagEmpty ∷ sy symbol.TagClose ∷ lx token.Word (codes "form") ∷ sy symbol.Gt ∷ sy symbol.TagClose ∷ lx token.Word (codes "body") ∷ sy symbol.Gt ∷ sy symbol.XmlClose ∷ kw keyword.And ∷ lo (codes "add") ∷ sy symbol.LParen ∷ lo (codes "who") ∷ sy symbol.Colon ∷ lo (codes "string") ∷ sy symbol.RParen ∷ sy symbol.LParen ∷ lo (codes "r") ∷ sy symbol.Colon ∷ sy symbol.LBrace ∷ up (codes "Body") ∷ sy symbol.Colon ∷ lo (codes "string") ∷ sy symbol.RBrace ∷ sy symbol.RParen ∷ sy symbol.Colon ∷ lo (codes "transaction") ∷ lo (codes "page") ∷ sy symbol.Eq ∷ lo (codes "n") ∷ sy symbol.LeftArrow ∷ lo (codes "nextval") ∷ lo (codes "ids") ∷ sy symbol.Semicolon ∷ lo (codes "dml") ∷ sy symbol.LParen ∷ up (codes "INSERT") ∷ up (codes "INTO") ∷ lo (codes "note") ∷ sy symbol.LParen ∷ up (codes "Id") ∷ sy symbol.Comma ∷ up (codes "Owner") ∷ sy symbol.Comma ∷ up (codes "Body") ∷ sy symbol.RParen ∷ up (codes "VALUES") ∷ sy symbol.LParen ∷ sy symbol.LBrace ∷ sy symbol.LBracket ∷ lo (codes "n") ∷ sy symbol.RBracket ∷ sy symbol.RBrace ∷ sy symbol.Comma ∷ sy symbol.LBrace ∷ sy symbol.LBracket ∷ lo (codes "who") ∷ sy symbol.RBracket ∷ sy symbol.RBrace ∷ sy symbol.Comma ∷ sy symbol.LBrace ∷ sy symbol.LBracket ∷ lo (codes "r") ∷ sy symbol.Dot ∷ up (codes "Body") ∷ sy symbol.RBracket ∷ sy symbol.RBrace ∷ sy symbol.RParen ∷ sy symbol.RParen ∷ sy symbol.Semicolon ∷ lo (codes "list") ∷ lo (codes "who") ∷ kw keyword.And ∷ lo (codes "drop") ∷ sy symbol.LParen ∷ lo (codes "id") ∷ sy symbol.Colon ∷ lo (codes "int") ∷ sy symbol.RParen ∷ sy symbol.LParen ∷ lo (codes "u") ∷ sy symbol.Colon ∷ lo (codes "unit") ∷ sy symbol.RParen ∷ sy symbol.Colon ∷ lo (codes "transaction") ∷ lo (codes "page") ∷ sy symbol.Eq ∷ lo (codes "dml") ∷ sy symbol.LParen ∷ up (codes "DELETE") ∷ up (codes "FROM") ∷ lo (codes "note") ∷ up (codes "WHERE") ∷ up (codes "Id") ∷ sy symbol.Eq ∷ sy symbol.LBrace ∷ sy symbol.LBracket ∷ lo (codes "id") ∷ sy symbol.RBracket ∷ sy symbol.RBrace ∷ sy symbol.RParen ∷ sy symbol.Semicolon ∷ lo (codes "return") ∷ sy symbol.XmlOpen ∷ sy symbol.Lt ∷ lx token.Word (codes "body") ∷ sy symbol.Gt ∷ sy symbol.Lt ∷ lx token.Word (codes "p") ∷ sy symbol.Gt ∷ lx token.XmlText (codes "done") ∷ sy symbol.TagClose ∷ lx token.Word (codes "p") ∷ sy symbol.Gt ∷ sy symbol.TagClose ∷ lx token.Word (codes "body") ∷ sy symbol.Gt ∷ sy symbol.XmlClose ∷ kw keyword.And ∷ lo (codes "move") ∷ sy symbol.LParen ∷ lo (codes "id") ∷ sy symbol.Colon ∷ lo (codes "int") ∷ sy symbol.RParen ∷ sy symbol.LParen ∷ lo (codes "r") ∷ sy symbol.Colon ∷ sy symbol.LBrace ∷ up (codes "To") ∷ sy symbol.Colon ∷ lo (codes "string") ∷ sy symbol.RBrace ∷ sy symbol.RParen ∷ sy symbol.Colon ∷ lo (codes "transaction") ∷ lo (codes "page") ∷ sy symbol.Eq ∷ lo (codes "dml") ∷ sy symbol.LParen ∷ up (codes "UPDATE") ∷ lo (codes "note") ∷ up (codes "SET") ∷ up (codes "Owner") ∷ sy symbol.Eq ∷ sy symbol.LBrace ∷ sy symbol.LBracket ∷ lo (codes "r") ∷ sy symbol.Dot ∷ up (codes "To") ∷ sy symbol.RBracket ∷ sy symbol.RBrace ∷ up (codes "WHERE") ∷ up (codes "Id") ∷ sy symbol.Eq ∷ sy symbol.LBrace ∷ sy symbol.LBracket ∷ lo (codes "id") ∷ sy symbol.RBracket ∷ sy symbol.RBrace ∷ sy symbol.RParen ∷ sy symbol.Semicolon ∷ lo (codes "return") ∷ sy symbol.XmlOpen ∷ sy symbol.Lt ∷ lx token.Word (codes "body") ∷ sy symbol.Gt ∷ sy symbol.Lt ∷ lx token.Word (codes "p") ∷ sy symbol.Gt ∷ lx token.XmlText (codes "done") ∷ sy symbol.TagClose ∷ lx token.Word (codes "p") ∷ sy symbol.Gt ∷ sy symbol.TagClose ∷ lx token.Word (codes "body") ∷ sy symbol.Gt ∷ sy symbol.XmlClose ∷ []) ≡ Some ((record { decls = (record { span = s0; form = d.Sequence (codes "ids") } ∷ record { span = s0; form = d.Table (codes "note") (C (con.Record (record { name = (name.Literal (codes "Id")); con = (C (con.Var (codes "int"))) } ∷ record { name = (name.Literal (codes "Owner")); con = (C (con.Var (codes "string"))) } ∷ record { name = (name.Literal (codes "Body")); con = (C (con.Var (codes "string"))) } ∷ []))) (Some ((codes "Id") ∷ [])) [] } ∷ record { span = s0; form = d.Fun (record { span = s0; name = (codes "list"); con_params = ([]); params = (params.Value (binder.Named (codes "who")) (C (con.Var (codes "string"))) ∷ []); result = (C (con.App (C (con.Var (codes "transaction"))) (C (con.Var (codes "page"))))); body = (E (exp.Bind (binder.Named (codes "rows")) (E (exp.QueryX (record { span = s0; selection = selection.Items (selected.Column (Q (sql.Qualified (codes "note") (codes "Id"))) ∷ selected.Column (Q (sql.Qualified (codes "note") (codes "Body"))) ∷ []); «from» = (record { span = s0; table = record { span = s0; «module» = None; name = (codes "note") }; alias = None; on = None } ∷ []); filter = Some (Q (sql.Binary sop.Eq (Q (sql.Qualified (codes "note") (codes "Owner"))) (Q (sql.Anti 0)))); group = []; order = (record { key = (Q (sql.Qualified (codes "note") (codes "Id"))); direction = direction.Ascending } ∷ []); limit = None; offset = None }) ((v (codes "who")) ∷ []) (E (exp.Lambda (lp.Bare (binder.Named (codes "r")) ∷ []) (E (exp.Xml (record { parts = (X (xml.Element (record { word = (codes "p"); field = tagged.None }) ([]) (X (xml.Show 0) ∷ [])) ∷ X (xml.Element (record { word = (codes "form"); field = tagged.None }) ([]) (X (xml.Element (record { word = (codes "submit"); field = tagged.None }) (record { name = (codes "action"); value = value.Exp 0 } ∷ record { name = (codes "value"); value = value.Text (codes "Drop") } ∷ []) ([])) ∷ [])) ∷ X (xml.Element (record { word = (codes "form"); field = tagged.None }) ([]) (X (xml.Element (record { word = (codes "textbox"); field = (tagged.Literal (codes "To")) }) ([]) ([])) ∷ X (xml.Element (record { word = (codes "submit"); field = tagged.None }) (record { name = (codes "action"); value = value.Exp 1 } ∷ record { name = (codes "value"); value = value.Text (codes "Move") } ∷ []) ([])) ∷ [])) ∷ []) }) ((E (exp.Project (E (exp.Project (v (codes "r")) (name.Literal (codes "Note")))) (name.Literal (codes "Body")))) ∷ []) ((E (exp.App (v (codes "drop")) (E (exp.Project (E (exp.Project (v (codes "r")) (name.Literal (codes "Note")))) (name.Literal (codes "Id")))))) ∷ (E (exp.App (v (codes "move")) (E (exp.Project (E (exp.Project (v (codes "r")) (name.Literal (codes "Note")))) (name.Literal (codes "Id")))))) ∷ []))))))) (E (exp.Return (E (exp.Xml (record { parts = (X (xml.Element (record { word = (codes "head"); field = tagged.None }) ([]) (X (xml.Element (record { word = (codes "title"); field = tagged.None }) ([]) (X (xml.Text (codes "Notes")) ∷ [])) ∷ [])) ∷ X (xml.Element (record { word = (codes "body"); field = tagged.None }) ([]) (X (xml.Element (record { word = (codes "h1"); field = tagged.None }) ([]) (X (xml.Show 0) ∷ [])) ∷ X (xml.Splice 1) ∷ X (xml.Element (record { word = (codes "form"); field = tagged.None }) ([]) (X (xml.Element (record { word = (codes "textbox"); field = (tagged.Literal (codes "Body")) }) ([]) ([])) ∷ X (xml.Element (record { word = (codes "submit"); field = tagged.None }) (record { name = (codes "action"); value = value.Exp 0 } ∷ record { name = (codes "value"); value = value.Text (codes "Add") } ∷ []) ([])) ∷ [])) ∷ [])) ∷ []) }) ((v (codes "who")) ∷ (v (codes "rows")) ∷ []) ((E (exp.App (v (codes "add")) (v (codes "who")))) ∷ []))))))) } ∷ record { span = s0; name = (codes "add"); con_params = ([]); params = (params.Value (binder.Named (codes "who")) (C (con.Var (codes "string"))) ∷ params.Value (binder.Named (codes "r")) (C (con.Record (record { name = (name.Literal (codes "Body")); con = (C (con.Var (codes "string"))) } ∷ []))) ∷ []); result = (C (con.App (C (con.Var (codes "transaction"))) (C (con.Var (codes "page"))))); body = (E (exp.Bind (binder.Named (codes "n")) (E (exp.Nextval (record { span = s0; «module» = None; name = (codes "ids") }))) (E (exp.Seq (E (exp.Dml (changes.Insert s0 (record { span = s0; «module» = None; name = (codes "note") }) ((codes "Id") ∷ (codes "Owner") ∷ (codes "Body") ∷ []) ((Q (sql.Anti 0)) ∷ (Q (sql.Anti 1)) ∷ (Q (sql.Anti 2)) ∷ [])) ((v (codes "n")) ∷ (v (codes "who")) ∷ (E (exp.Project (v (codes "r")) (name.Literal (codes "Body")))) ∷ []))) (E (exp.App (v (codes "list")) (v (codes "who")))))))) } ∷ record { span = s0; name = (codes "drop"); con_params = ([]); params = (params.Value (binder.Named (codes "id")) (C (con.Var (codes "int"))) ∷ params.Value (binder.Named (codes "u")) (C (con.Var (codes "unit"))) ∷ []); result = (C (con.App (C (con.Var (codes "transaction"))) (C (con.Var (codes "page"))))); body = (E (exp.Seq (E (exp.Dml (changes.Delete s0 (record { span = s0; «module» = None; name = (codes "note") }) (Some (Q (sql.Binary sop.Eq (Q (sql.Column (codes "Id"))) (Q (sql.Anti 0)))))) ((v (codes "id")) ∷ []))) (E (exp.Return (E (exp.Xml (record { parts = (X (xml.Element (record { word = (codes "body"); field = tagged.None }) ([]) (X (xml.Element (record { word = (codes "p"); field = tagged.None }) ([]) (X (xml.Text (codes "done")) ∷ [])) ∷ [])) ∷ []) }) ([]) ([]))))))) } ∷ record { span = s0; name = (codes "move"); con_params = ([]); params = (params.Value (binder.Named (codes "id")) (C (con.Var (codes "int"))) ∷ params.Value (binder.Named (codes "r")) (C (con.Record (record { name = (name.Literal (codes "To")); con = (C (con.Var (codes "string"))) } ∷ []))) ∷ []); result = (C (con.App (C (con.Var (codes "transaction"))) (C (con.Var (codes "page"))))); body = (E (exp.Seq (E (exp.Dml (changes.Update s0 (record { span = s0; «module» = None; name = (codes "note") }) (record { column = (codes "Owner"); value = (Q (sql.Anti 0)) } ∷ []) (Some (Q (sql.Binary sop.Eq (Q (sql.Column (codes "Id"))) (Q (sql.Anti 1)))))) ((E (exp.Project (v (codes "r")) (name.Literal (codes "To")))) ∷ (v (codes "id")) ∷ []))) (E (exp.Return (E (exp.Xml (record { parts = (X (xml.Element (record { word = (codes "body"); field = tagged.None }) ([]) (X (xml.Element (record { word = (codes "p"); field = tagged.None }) ([]) (X (xml.Text (codes "done")) ∷ [])) ∷ [])) ∷ []) }) ([]) ([]))))))) } ∷ []) } ∷ []) }))
unfolding out-ConForm out-CField Carrier.out Carrier.roll Carrier.shown Carrier.hidden cb.shown-the_row-Con-0 cb.hidden-the_row-Con-0 cb.shown-the_row-CField-1 cb.hidden-the_row-CField-1 cb.shown-the_row-RecordField-2 cb.hidden-the_row-RecordField-2
notes = refl

k : module_of (kw keyword.Table ∷ lo (codes "t") ∷ sy symbol.Colon ∷ sy symbol.LBrace ∷ up (codes "A") ∷ sy symbol.Colon ∷ lo (codes "int") ∷ sy symbol.Comma ∷ up (codes "B") ∷ sy symbol.Colon ∷ lo (codes "int") ∷ sy symbol.RBrace ∷ up (codes "PRIMARY") ∷ up (codes "KEY") ∷ up (codes "A") ∷ kw keyword.Fun ∷ lo (codes "main") ∷ sy symbol.LParen ∷ lo (codes "k") ∷ sy symbol.Colon ∷ lo (codes "int") ∷ sy symbol.RParen ∷ sy symbol.Colon ∷ lo (codes "transaction") ∷ lo (codes "page") ∷ sy symbol.Eq ∷ lo (codes "r") ∷ sy symbol.LeftArrow ∷ lo (codes "oneRow") ∷ sy symbol.LParen ∷ up (codes "SELECT") ∷ lo (codes "t") ∷ sy symbol.Dot ∷ up (codes "B") ∷ up (codes "FROM") ∷ lo (codes "t") ∷ up (codes "WHERE") ∷ lo (codes "t") ∷ sy symbol.Dot ∷ up (codes "A") ∷ sy symbol.Eq ∷ lo (codes "t") ∷ sy symbol.Dot ∷ up (codes "B") ∷ up (codes "AND") ∷ lo (codes "t") ∷ sy symbol.Dot ∷ up (codes "A") ∷ sy symbol.Plus ∷ it 1 ∷ sy symbol.Eq ∷ sy symbol.LBrace ∷ sy symbol.LBracket ∷ lo (codes "k") ∷ sy symbol.RBracket ∷ sy symbol.RBrace ∷ sy symbol.RParen ∷ sy symbol.Semicolon ∷ lo (codes "return") ∷ sy symbol.XmlOpen ∷ sy symbol.Lt ∷ lx token.Word (codes "body") ∷ sy symbol.Gt ∷ sy symbol.LBrace ∷ sy symbol.LBracket ∷ lo (codes "r") ∷ sy symbol.Dot ∷ up (codes "T") ∷ sy symbol.Dot ∷ up (codes "B") ∷ sy symbol.RBracket ∷ sy symbol.RBrace ∷ sy symbol.Lt ∷ lx token.Word (codes "form") ∷ sy symbol.Gt ∷ sy symbol.Lt ∷ lx token.Word (codes "submit") ∷ lx token.Word (codes "action") ∷ sy symbol.Eq ∷ sy symbol.LBrace ∷ lo (codes "put") ∷ lo (codes "k") ∷ sy symbol.RBrace ∷ sy symbol.TagEmpty ∷ sy symbol.Lt ∷ lx token.Word (codes "submit") ∷ lx token.Word (codes "action") ∷ sy symbol.Eq ∷ sy symbol.LBrace ∷ lo (codes "cut") ∷ lo (codes "k") ∷ sy symbol.RBrace ∷ sy symbol.TagEmpty ∷ sy symbol.TagClose ∷ lx token.Word (codes "form") ∷ sy symbol.Gt ∷ sy symbol.TagClose ∷ lx token.Word (codes "body") ∷ sy symbol.Gt ∷ sy symbol.XmlClose ∷ kw keyword.And ∷ lo (codes "put") ∷ sy symbol.LParen ∷ lo (codes "a") ∷ sy symbol.Colon ∷ lo (codes "int") ∷ sy symbol.RParen ∷ sy symbol.LParen ∷ lo (codes "u") ∷ sy symbol.Colon ∷ lo (codes "unit") ∷ sy symbol.RParen ∷ sy symbol.Colon ∷ lo (codes "transaction") ∷ lo (codes "page") ∷ sy symbol.Eq ∷ lo (codes "dml") ∷ sy symbol.LParen ∷ up (codes "INSERT") ∷ up (codes "INTO") ∷ lo (codes "t") ∷ sy symbol.LParen ∷ up (codes "A") ∷ sy symbol.Comma ∷ up (codes "B") ∷ sy symbol.RParen ∷ up (codes "VALUES") ∷ sy symbol.LParen ∷ sy symbol.LBrace ∷ sy symbol.LBracket ∷ lo (codes "a") ∷ sy symbol.RBracket ∷ sy symbol.RBrace ∷ sy symbol.Comma ∷ sy symbol.LBrace ∷ sy symbol.LBracket ∷ lo (codes "a") ∷ sy symbol.RBracket ∷ sy symbol.RBrace ∷ sy symbol.RParen ∷ sy symbol.RParen ∷ sy symbol.Semicolon ∷ lo (codes "main") ∷ sy symbol.LParen ∷ lo (codes "a") ∷ sy symbol.Plus ∷ it 1 ∷ sy symbol.RParen ∷ kw keyword.And ∷ lo (codes "cut") ∷ sy symbol.LParen ∷ lo (codes "x") ∷ sy symbol.Colon ∷ lo (codes "int") ∷ sy symbol.RParen ∷ sy symbol.LParen ∷ lo (codes "u") ∷ sy symbol.Colon ∷ lo (codes "unit") ∷ sy symbol.RParen ∷ sy symbol.Colon ∷ lo (codes "transaction") ∷ lo (codes "page") ∷ sy symbol.Eq ∷ lo (codes "dml") ∷ sy symbol.LParen ∷ up (codes "DELETE") ∷ up (codes "FROM") ∷ lo (codes "t") ∷ up (codes "WHERE") ∷ up (codes "B") ∷ sy symbol.Plus ∷ it 1 ∷ sy symbol.Eq ∷ sy symbol.LBrace ∷ sy symbol.LBracket ∷ lo (codes "x") ∷ sy symbol.RBracket ∷ sy symbol.RBrace ∷ sy symbol.RParen ∷ sy symbol.Semicolon ∷ lo (codes "main") ∷ lo (codes "x") ∷ []) ≡ Some ((record { decls = (record { span = s0; form = d.Table (codes "t") (C (con.Record (record { name = (name.Literal (codes "A")); con = (C (con.Var (codes "int"))) } ∷ record { name = (name.Literal (codes "B")); con = (C (con.Var (codes "int"))) } ∷ []))) (Some ((codes "A") ∷ [])) [] } ∷ record { span = s0; form = d.Fun (record { span = s0; name = (codes "main"); con_params = ([]); params = (params.Value (binder.Named (codes "k")) (C (con.Var (codes "int"))) ∷ []); result = (C (con.App (C (con.Var (codes "transaction"))) (C (con.Var (codes "page"))))); body = (E (exp.Bind (binder.Named (codes "r")) (E (exp.Query qw.OneRow (record { span = s0; selection = selection.Items (selected.Column (Q (sql.Qualified (codes "t") (codes "B"))) ∷ []); «from» = (record { span = s0; table = record { span = s0; «module» = None; name = (codes "t") }; alias = None; on = None } ∷ []); filter = Some (Q (sql.Binary sop.And (Q (sql.Binary sop.Eq (Q (sql.Qualified (codes "t") (codes "A"))) (Q (sql.Qualified (codes "t") (codes "B"))))) (Q (sql.Binary sop.Eq (Q (sql.Binary sop.Add (Q (sql.Qualified (codes "t") (codes "A"))) (Q (sql.Int 1)))) (Q (sql.Anti 0)))))); group = []; order = []; limit = None; offset = None }) ((v (codes "k")) ∷ []))) (E (exp.Return (E (exp.Xml (record { parts = (X (xml.Element (record { word = (codes "body"); field = tagged.None }) ([]) (X (xml.Show 0) ∷ X (xml.Element (record { word = (codes "form"); field = tagged.None }) ([]) (X (xml.Element (record { word = (codes "submit"); field = tagged.None }) (record { name = (codes "action"); value = value.Exp 0 } ∷ []) ([])) ∷ X (xml.Element (record { word = (codes "submit"); field = tagged.None }) (record { name = (codes "action"); value = value.Exp 1 } ∷ []) ([])) ∷ [])) ∷ [])) ∷ []) }) ((E (exp.Project (E (exp.Project (v (codes "r")) (name.Literal (codes "T")))) (name.Literal (codes "B")))) ∷ []) ((E (exp.App (v (codes "put")) (v (codes "k")))) ∷ (E (exp.App (v (codes "cut")) (v (codes "k")))) ∷ []))))))) } ∷ record { span = s0; name = (codes "put"); con_params = ([]); params = (params.Value (binder.Named (codes "a")) (C (con.Var (codes "int"))) ∷ params.Value (binder.Named (codes "u")) (C (con.Var (codes "unit"))) ∷ []); result = (C (con.App (C (con.Var (codes "transaction"))) (C (con.Var (codes "page"))))); body = (E (exp.Seq (E (exp.Dml (changes.Insert s0 (record { span = s0; «module» = None; name = (codes "t") }) ((codes "A") ∷ (codes "B") ∷ []) ((Q (sql.Anti 0)) ∷ (Q (sql.Anti 1)) ∷ [])) ((v (codes "a")) ∷ (v (codes "a")) ∷ []))) (E (exp.App (v (codes "main")) (E (exp.Binary op.Add (v (codes "a")) (num 1))))))) } ∷ record { span = s0; name = (codes "cut"); con_params = ([]); params = (params.Value (binder.Named (codes "x")) (C (con.Var (codes "int"))) ∷ params.Value (binder.Named (codes "u")) (C (con.Var (codes "unit"))) ∷ []); result = (C (con.App (C (con.Var (codes "transaction"))) (C (con.Var (codes "page"))))); body = (E (exp.Seq (E (exp.Dml (changes.Delete s0 (record { span = s0; «module» = None; name = (codes "t") }) (Some (Q (sql.Binary sop.Eq (Q (sql.Binary sop.Add (Q (sql.Column (codes "B"))) (Q (sql.Int 1)))) (Q (sql.Anti 0)))))) ((v (codes "x")) ∷ []))) (E (exp.App (v (codes "main")) (v (codes "x")))))) } ∷ []) } ∷ []) }))
unfolding out-ConForm out-CField Carrier.out Carrier.roll Carrier.shown Carrier.hidden cb.shown-the_row-Con-0 cb.hidden-the_row-Con-0 cb.shown-the_row-CField-1 cb.hidden-the_row-CField-1 cb.shown-the_row-RecordField-2 cb.hidden-the_row-RecordField-2
k = refl

render : module_of (kw keyword.Con ∷ lo (codes "shower") ∷ sy symbol.DoubleColon ∷ sy symbol.LBrace ∷ up (codes "Type") ∷ sy symbol.RBrace ∷ sy symbol.Arrow ∷ up (codes "Type") ∷ sy symbol.Eq ∷ kw keyword.Fn ∷ lo (codes "r") ∷ sy symbol.DoubleColon ∷ sy symbol.LBrace ∷ up (codes "Type") ∷ sy symbol.RBrace ∷ sy symbol.FatArrow ∷ sy symbol.Dollar ∷ sy symbol.LParen ∷ lo (codes "map") ∷ sy symbol.LParen ∷ kw keyword.Fn ∷ lo (codes "t") ∷ sy symbol.DoubleColon ∷ up (codes "Type") ∷ sy symbol.FatArrow ∷ lo (codes "t") ∷ sy symbol.Arrow ∷ lo (codes "string") ∷ sy symbol.RParen ∷ lo (codes "r") ∷ sy symbol.RParen ∷ kw keyword.Con ∷ lo (codes "printer") ∷ sy symbol.DoubleColon ∷ sy symbol.LBrace ∷ up (codes "Type") ∷ sy symbol.RBrace ∷ sy symbol.Arrow ∷ up (codes "Type") ∷ sy symbol.Eq ∷ kw keyword.Fn ∷ lo (codes "r") ∷ sy symbol.DoubleColon ∷ sy symbol.LBrace ∷ up (codes "Type") ∷ sy symbol.RBrace ∷ sy symbol.FatArrow ∷ lo (codes "shower") ∷ lo (codes "r") ∷ sy symbol.Arrow ∷ sy symbol.Dollar ∷ lo (codes "r") ∷ sy symbol.Arrow ∷ lo (codes "string") ∷ kw keyword.Fun ∷ lo (codes "render") ∷ sy symbol.LBracket ∷ lo (codes "r") ∷ sy symbol.DoubleColon ∷ sy symbol.LBrace ∷ up (codes "Type") ∷ sy symbol.RBrace ∷ sy symbol.RBracket ∷ sy symbol.LParen ∷ lo (codes "s") ∷ sy symbol.Colon ∷ lo (codes "shower") ∷ lo (codes "r") ∷ sy symbol.RParen ∷ sy symbol.LParen ∷ lo (codes "v") ∷ sy symbol.Colon ∷ sy symbol.Dollar ∷ lo (codes "r") ∷ sy symbol.RParen ∷ sy symbol.Colon ∷ lo (codes "string") ∷ sy symbol.Eq ∷ lo (codes "fold") ∷ sy symbol.LBracket ∷ lo (codes "printer") ∷ sy symbol.RBracket ∷ sy symbol.LParen ∷ kw keyword.Fn ∷ sy symbol.LBracket ∷ lo (codes "nm") ∷ sy symbol.DoubleColon ∷ up (codes "Name") ∷ sy symbol.RBracket ∷ sy symbol.LBracket ∷ lo (codes "t") ∷ sy symbol.DoubleColon ∷ up (codes "Type") ∷ sy symbol.RBracket ∷ sy symbol.LBracket ∷ lo (codes "rest") ∷ sy symbol.DoubleColon ∷ sy symbol.LBrace ∷ up (codes "Type") ∷ sy symbol.RBrace ∷ sy symbol.RBracket ∷ sy symbol.LBracket ∷ sy symbol.LBracket ∷ lo (codes "nm") ∷ sy symbol.RBracket ∷ sy symbol.Tilde ∷ lo (codes "rest") ∷ sy symbol.RBracket ∷ sy symbol.LParen ∷ lo (codes "acc") ∷ sy symbol.Colon ∷ lo (codes "printer") ∷ lo (codes "rest") ∷ sy symbol.RParen ∷ sy symbol.FatArrow ∷ kw keyword.Fn ∷ sy symbol.LParen ∷ lo (codes "s") ∷ sy symbol.Colon ∷ lo (codes "shower") ∷ sy symbol.LParen ∷ sy symbol.LBracket ∷ lo (codes "nm") ∷ sy symbol.Eq ∷ lo (codes "t") ∷ sy symbol.RBracket ∷ sy symbol.DoublePlus ∷ lo (codes "rest") ∷ sy symbol.RParen ∷ sy symbol.RParen ∷ sy symbol.LParen ∷ lo (codes "v") ∷ sy symbol.Colon ∷ sy symbol.Dollar ∷ sy symbol.LParen ∷ sy symbol.LBracket ∷ lo (codes "nm") ∷ sy symbol.Eq ∷ lo (codes "t") ∷ sy symbol.RBracket ∷ sy symbol.DoublePlus ∷ lo (codes "rest") ∷ sy symbol.RParen ∷ sy symbol.RParen ∷ sy symbol.FatArrow ∷ lo (codes "s") ∷ sy symbol.Dot ∷ lo (codes "nm") ∷ lo (codes "v") ∷ sy symbol.Dot ∷ lo (codes "nm") ∷ sy symbol.Caret ∷ lx token.Str (codes ";") ∷ sy symbol.Caret ∷ lo (codes "acc") ∷ sy symbol.LParen ∷ lo (codes "s") ∷ sy symbol.DoubleMinus ∷ lo (codes "nm") ∷ sy symbol.RParen ∷ sy symbol.LParen ∷ lo (codes "v") ∷ sy symbol.DoubleMinus ∷ lo (codes "nm") ∷ sy symbol.RParen ∷ sy symbol.RParen ∷ sy symbol.LParen ∷ kw keyword.Fn ∷ sy symbol.LParen ∷ lo (codes "s") ∷ sy symbol.Colon ∷ lo (codes "shower") ∷ sy symbol.LBracket ∷ sy symbol.RBracket ∷ sy symbol.RParen ∷ sy symbol.LParen ∷ lo (codes "v") ∷ sy symbol.Colon ∷ sy symbol.Dollar ∷ sy symbol.LBracket ∷ sy symbol.RBracket ∷ sy symbol.RParen ∷ sy symbol.FatArrow ∷ lx token.Str [] ∷ sy symbol.RParen ∷ sy symbol.LBracket ∷ lo (codes "r") ∷ sy symbol.RBracket ∷ lo (codes "s") ∷ lo (codes "v") ∷ []) ≡ Some ((record { decls = (record { span = s0; form = d.Con (codes "shower") (kind.Arrow kind.Row kind.Star) (C (con.Lambda (codes "r") kind.Row (C (con.RecordOf (C (con.App (C (con.App (C (con.Var (codes "map"))) (C (con.Lambda (codes "t") kind.Star (C (con.Arrow (C (con.Var (codes "t"))) (C (con.Var (codes "string"))))))))) (C (con.Var (codes "r"))))))))) } ∷ record { span = s0; form = d.Con (codes "printer") (kind.Arrow kind.Row kind.Star) (C (con.Lambda (codes "r") kind.Row (C (con.Arrow (C (con.App (C (con.Var (codes "shower"))) (C (con.Var (codes "r"))))) (C (con.Arrow (C (con.RecordOf (C (con.Var (codes "r"))))) (C (con.Var (codes "string"))))))))) } ∷ record { span = s0; form = d.Fun (record { span = s0; name = (codes "render"); con_params = (cp.Kinded (codes "r") kind.Row ∷ []); params = (params.Value (binder.Named (codes "s")) (C (con.App (C (con.Var (codes "shower"))) (C (con.Var (codes "r"))))) ∷ params.Value (binder.Named (codes "v")) (C (con.RecordOf (C (con.Var (codes "r"))))) ∷ []); result = (C (con.Var (codes "string"))); body = (E (exp.App (E (exp.App (E (exp.Fold (C (con.Var (codes "printer"))) (E (exp.Lambda (lp.Con (cp.Kinded (codes "nm") kind.Name) ∷ lp.Con (cp.Kinded (codes "t") kind.Star) ∷ lp.Con (cp.Kinded (codes "rest") kind.Row) ∷ lp.Con (cp.Disjoint (C (con.Row (cfield.Bare (name.Variable (codes "nm")) ∷ []))) (C (con.Var (codes "rest")))) ∷ lp.Typed (params.Value (binder.Named (codes "acc")) (C (con.App (C (con.Var (codes "printer"))) (C (con.Var (codes "rest")))))) ∷ []) (E (exp.Lambda (lp.Typed (params.Value (binder.Named (codes "s")) (C (con.App (C (con.Var (codes "shower"))) (C (con.Concat (C (con.Row (cfield.Given (name.Variable (codes "nm")) (C (con.Var (codes "t"))) ∷ []))) (C (con.Var (codes "rest")))))))) ∷ lp.Typed (params.Value (binder.Named (codes "v")) (C (con.RecordOf (C (con.Concat (C (con.Row (cfield.Given (name.Variable (codes "nm")) (C (con.Var (codes "t"))) ∷ []))) (C (con.Var (codes "rest")))))))) ∷ []) (E (exp.Binary op.Append (E (exp.Binary op.Append (E (exp.App (E (exp.Project (v (codes "s")) (name.Variable (codes "nm")))) (E (exp.Project (v (codes "v")) (name.Variable (codes "nm")))))) (E (exp.Str (codes ";"))))) (E (exp.App (E (exp.App (v (codes "acc")) (E (exp.Remove (v (codes "s")) (record { span = s0; name = (name.Variable (codes "nm")) }))))) (E (exp.Remove (v (codes "v")) (record { span = s0; name = (name.Variable (codes "nm")) }))))))))))) (E (exp.Lambda (lp.Typed (params.Value (binder.Named (codes "s")) (C (con.App (C (con.Var (codes "shower"))) (C (con.Row ([])))))) ∷ lp.Typed (params.Value (binder.Named (codes "v")) (C (con.RecordOf (C (con.Row ([])))))) ∷ []) (E (exp.Str [])))) (C (con.Var (codes "r"))))) (v (codes "s")))) (v (codes "v")))) } ∷ []) } ∷ []) }))
unfolding out-ConForm out-CField Carrier.out Carrier.roll Carrier.shown Carrier.hidden cb.shown-the_row-Con-0 cb.hidden-the_row-Con-0 cb.shown-the_row-CField-1 cb.hidden-the_row-CField-1 cb.shown-the_row-RecordField-2 cb.hidden-the_row-RecordField-2
render = refl
