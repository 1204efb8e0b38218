-- SQL and XML are read as these trees.
use Rattle.ur_syntax.specs.declared.exp.ExpForm.TheVariants as exp
use Rattle.ur_syntax.specs.declared.exp.QueryWord.TheVariants as qw
use Rattle.ur_syntax.specs.declared.sql.SqlForm.TheVariants as sql
use Rattle.ur_syntax.specs.declared.sql.SqlBinary.TheVariants as sop
use Rattle.ur_syntax.specs.declared.sql.Selection.TheVariants as selection
use Rattle.ur_syntax.specs.declared.sql.Selected.TheVariants as selected
use Rattle.ur_syntax.specs.declared.sql.Direction.TheVariants as direction
use Rattle.ur_syntax.specs.declared.sql.Limit.TheVariants as limit
use Rattle.ur_syntax.specs.declared.sql.Aggregate.TheVariants as aggregate
use Rattle.ur_syntax.specs.declared.sql.SqlChange.TheVariants as changes
use Rattle.ur_syntax.specs.declared.xml.XmlForm.TheVariants as xml
use Rattle.ur_syntax.specs.declared.xml.TagField.TheVariants as tagged
use Rattle.ur_syntax.specs.declared.xml.AttrValue.TheVariants as value
use Rattle.ur_lex.specs.declared.token.Symbol.TheVariants as symbol
use Rattle.ur_lex.specs.declared.token.TokenKind.TheVariants as token
use Rattle.std.specs.Prelude.{◌≡◌, [], ◌∷◌, codes, Some, None, refl}
use Rattle.ur_parse_rules.proofs.Samples.{s0, lx, sy, lo, up, it, E, X, Q, v, num, exp_of}

is_null : exp_of (lo (codes "queryL") ∷ sy symbol.LParen ∷ up (codes "SELECT") ∷ lo (codes "t") ∷ sy symbol.Dot ∷ up (codes "A") ∷ up (codes "FROM") ∷ lo (codes "t") ∷ up (codes "WHERE") ∷ up (codes "NOT") ∷ lo (codes "t") ∷ sy symbol.Dot ∷ up (codes "A") ∷ up (codes "IS") ∷ up (codes "NULL") ∷ sy symbol.RParen ∷ []) ≡ Some ((E (exp.Query qw.QueryL (record { span = s0; selection = selection.Items (selected.Column (Q (sql.Qualified (codes "t") (codes "A"))) ∷ []); «from» = (record { span = s0; table = record { span = s0; «module» = None; name = (codes "t") }; alias = None; on = None } ∷ []); filter = Some (Q (sql.Not (Q (sql.IsNull (Q (sql.Qualified (codes "t") (codes "A"))))))); group = []; order = []; limit = None; offset = None }) [])))
is_null = refl

join_and_group : exp_of (lo (codes "queryL") ∷ sy symbol.LParen ∷ up (codes "SELECT") ∷ lo (codes "a") ∷ sy symbol.Dot ∷ up (codes "A") ∷ sy symbol.Comma ∷ up (codes "SUM") ∷ sy symbol.LParen ∷ up (codes "B") ∷ sy symbol.Dot ∷ up (codes "C") ∷ sy symbol.RParen ∷ up (codes "AS") ∷ up (codes "Sum") ∷ sy symbol.Comma ∷ up (codes "COUNT") ∷ sy symbol.LParen ∷ sy symbol.Star ∷ sy symbol.RParen ∷ up (codes "AS") ∷ up (codes "N") ∷ up (codes "FROM") ∷ lo (codes "a") ∷ up (codes "JOIN") ∷ lo (codes "b") ∷ up (codes "AS") ∷ up (codes "B") ∷ up (codes "ON") ∷ lo (codes "a") ∷ sy symbol.Dot ∷ up (codes "A") ∷ sy symbol.Eq ∷ up (codes "B") ∷ sy symbol.Dot ∷ up (codes "A") ∷ up (codes "GROUP") ∷ up (codes "BY") ∷ lo (codes "a") ∷ sy symbol.Dot ∷ up (codes "A") ∷ up (codes "ORDER") ∷ up (codes "BY") ∷ lo (codes "a") ∷ sy symbol.Dot ∷ up (codes "A") ∷ up (codes "DESC") ∷ up (codes "LIMIT") ∷ it 3 ∷ up (codes "OFFSET") ∷ sy symbol.LBrace ∷ sy symbol.LBracket ∷ lo (codes "n") ∷ sy symbol.RBracket ∷ sy symbol.RBrace ∷ sy symbol.RParen ∷ []) ≡ Some ((E (exp.Query qw.QueryL (record { span = s0; selection = selection.Items (selected.Column (Q (sql.Qualified (codes "a") (codes "A"))) ∷ selected.Aggregate s0 (aggregate.Sum (Q (sql.Qualified (codes "B") (codes "C")))) (codes "Sum") ∷ selected.Aggregate s0 aggregate.Count (codes "N") ∷ []); «from» = (record { span = s0; table = record { span = s0; «module» = None; name = (codes "a") }; alias = None; on = None } ∷ record { span = s0; table = record { span = s0; «module» = None; name = (codes "b") }; alias = Some (codes "B"); on = Some (Q (sql.Binary sop.Eq (Q (sql.Qualified (codes "a") (codes "A"))) (Q (sql.Qualified (codes "B") (codes "A"))))) } ∷ []); filter = None; group = ((Q (sql.Qualified (codes "a") (codes "A"))) ∷ []); order = (record { key = (Q (sql.Qualified (codes "a") (codes "A"))); direction = direction.Descending } ∷ []); limit = Some (limit.Int 3); offset = Some (limit.Anti 0) }) ((v (codes "n")) ∷ []))))
join_and_group = refl

no_bare_column : exp_of (lo (codes "queryL") ∷ sy symbol.LParen ∷ up (codes "SELECT") ∷ lo (codes "a") ∷ sy symbol.Dot ∷ up (codes "A") ∷ up (codes "FROM") ∷ lo (codes "a") ∷ up (codes "WHERE") ∷ up (codes "A") ∷ sy symbol.Eq ∷ it 1 ∷ sy symbol.RParen ∷ []) ≡ None
no_bare_column = refl

no_word_as_column : exp_of (lo (codes "queryL") ∷ sy symbol.LParen ∷ up (codes "SELECT") ∷ lo (codes "a") ∷ sy symbol.Dot ∷ up (codes "WHERE") ∷ up (codes "FROM") ∷ lo (codes "a") ∷ sy symbol.RParen ∷ []) ≡ None
no_word_as_column = refl

not_null : exp_of (lo (codes "queryL") ∷ sy symbol.LParen ∷ up (codes "SELECT") ∷ lo (codes "a") ∷ sy symbol.Dot ∷ up (codes "A") ∷ up (codes "FROM") ∷ lo (codes "a") ∷ up (codes "WHERE") ∷ lo (codes "a") ∷ sy symbol.Dot ∷ up (codes "A") ∷ up (codes "IS") ∷ up (codes "NOT") ∷ up (codes "NULL") ∷ up (codes "OR") ∷ up (codes "SOME") ∷ sy symbol.LParen ∷ lo (codes "a") ∷ sy symbol.Dot ∷ up (codes "B") ∷ sy symbol.RParen ∷ sy symbol.Eq ∷ up (codes "NULL") ∷ sy symbol.RParen ∷ []) ≡ Some ((E (exp.Query qw.QueryL (record { span = s0; selection = selection.Items (selected.Column (Q (sql.Qualified (codes "a") (codes "A"))) ∷ []); «from» = (record { span = s0; table = record { span = s0; «module» = None; name = (codes "a") }; alias = None; on = None } ∷ []); filter = Some (Q (sql.Binary sop.Or (Q (sql.IsNotNull (Q (sql.Qualified (codes "a") (codes "A"))))) (Q (sql.Binary sop.Eq (Q (sql.Some (Q (sql.Qualified (codes "a") (codes "B"))))) (Q sql.Null))))); group = []; order = []; limit = None; offset = None }) [])))
not_null = refl

empty_xml : exp_of (sy symbol.XmlOpen ∷ sy symbol.XmlClose ∷ []) ≡ Some ((E (exp.Xml (record { parts = ([]) }) ([]) ([]))))
empty_xml = refl

empty_xml_again : exp_of (sy symbol.XmlEmpty ∷ []) ≡ Some ((E (exp.Xml (record { parts = ([]) }) ([]) ([]))))
empty_xml_again = refl

two_breaks : exp_of (sy symbol.XmlOpen ∷ sy symbol.Lt ∷ lx token.Word (codes "br") ∷ sy symbol.TagEmpty ∷ sy symbol.Lt ∷ lx token.Word (codes "br") ∷ sy symbol.Gt ∷ sy symbol.TagClose ∷ lx token.Word (codes "br") ∷ sy symbol.Gt ∷ sy symbol.XmlClose ∷ []) ≡ Some ((E (exp.Xml (record { parts = (X (xml.Element (record { word = (codes "br"); field = tagged.None }) ([]) ([])) ∷ X (xml.Element (record { word = (codes "br"); field = tagged.None }) ([]) ([])) ∷ []) }) ([]) ([]))))
two_breaks = refl

tags_agree : exp_of (sy symbol.XmlOpen ∷ sy symbol.Lt ∷ lx token.Word (codes "p") ∷ sy symbol.Gt ∷ sy symbol.TagClose ∷ lx token.Word (codes "b") ∷ sy symbol.Gt ∷ sy symbol.XmlClose ∷ []) ≡ None
tags_agree = refl

sql_groups : exp_of (lo (codes "queryL") ∷ sy symbol.LParen ∷ up (codes "SELECT") ∷ lo (codes "a") ∷ sy symbol.Dot ∷ up (codes "A") ∷ up (codes "FROM") ∷ lo (codes "a") ∷ up (codes "WHERE") ∷ sy symbol.LParen ∷ lo (codes "a") ∷ sy symbol.Dot ∷ up (codes "A") ∷ sy symbol.Plus ∷ it 1 ∷ sy symbol.RParen ∷ sy symbol.Star ∷ sy symbol.Minus ∷ it 2 ∷ sy symbol.Eq ∷ it 2 ∷ up (codes "AND") ∷ lo (codes "a") ∷ sy symbol.Dot ∷ up (codes "K") ∷ sy symbol.Eq ∷ lx token.SqlText (codes "open") ∷ up (codes "OR") ∷ up (codes "NOT") ∷ sy symbol.LParen ∷ lo (codes "a") ∷ sy symbol.Dot ∷ up (codes "B") ∷ sy symbol.Eq ∷ up (codes "TRUE") ∷ up (codes "OR") ∷ up (codes "FALSE") ∷ sy symbol.RParen ∷ sy symbol.RParen ∷ []) ≡ Some ((E (exp.Query qw.QueryL (record { span = s0; selection = selection.Items (selected.Column (Q (sql.Qualified (codes "a") (codes "A"))) ∷ []); «from» = (record { span = s0; table = record { span = s0; «module» = None; name = (codes "a") }; alias = None; on = None } ∷ []); filter = Some (Q (sql.Binary sop.Or (Q (sql.Binary sop.And (Q (sql.Binary sop.Eq (Q (sql.Binary sop.Mul (Q (sql.Binary sop.Add (Q (sql.Qualified (codes "a") (codes "A"))) (Q (sql.Int 1)))) (Q (sql.Negative (Q (sql.Int 2)))))) (Q (sql.Int 2)))) (Q (sql.Binary sop.Eq (Q (sql.Qualified (codes "a") (codes "K"))) (Q (sql.Str (codes "open"))))))) (Q (sql.Not (Q (sql.Binary sop.Or (Q (sql.Binary sop.Eq (Q (sql.Qualified (codes "a") (codes "B"))) (Q sql.True))) (Q sql.False))))))); group = []; order = []; limit = None; offset = None }) [])))
sql_groups = refl

sql_no_chain : exp_of (lo (codes "queryL") ∷ sy symbol.LParen ∷ up (codes "SELECT") ∷ lo (codes "a") ∷ sy symbol.Dot ∷ up (codes "A") ∷ up (codes "FROM") ∷ lo (codes "a") ∷ up (codes "WHERE") ∷ lo (codes "a") ∷ sy symbol.Dot ∷ up (codes "A") ∷ sy symbol.Eq ∷ it 1 ∷ sy symbol.Eq ∷ it 2 ∷ sy symbol.RParen ∷ []) ≡ None
sql_no_chain = refl

xml_in_xml : exp_of (sy symbol.XmlOpen ∷ sy symbol.Lt ∷ lx token.Word (codes "a") ∷ lx token.Word (codes "link") ∷ sy symbol.Eq ∷ sy symbol.LBrace ∷ lo (codes "f") ∷ it 1 ∷ sy symbol.RBrace ∷ sy symbol.Gt ∷ sy symbol.LBrace ∷ sy symbol.LBracket ∷ lo (codes "x") ∷ sy symbol.RBracket ∷ sy symbol.RBrace ∷ sy symbol.LBrace ∷ sy symbol.XmlOpen ∷ lx token.XmlText (codes "in") ∷ sy symbol.XmlClose ∷ sy symbol.RBrace ∷ sy symbol.TagClose ∷ lx token.Word (codes "a") ∷ sy symbol.Gt ∷ sy symbol.XmlClose ∷ []) ≡ Some ((E (exp.Xml (record { parts = (X (xml.Element (record { word = (codes "a"); field = tagged.None }) (record { name = (codes "link"); value = value.Exp 0 } ∷ []) (X (xml.Show 0) ∷ X (xml.Splice 1) ∷ [])) ∷ []) }) ((v (codes "x")) ∷ (E (exp.Xml (record { parts = (X (xml.Text (codes "in")) ∷ []) }) ([]) ([]))) ∷ []) ((E (exp.App (v (codes "f")) (num 1))) ∷ []))))
xml_in_xml = refl

splice_of_nil : exp_of (sy symbol.XmlOpen ∷ sy symbol.LBrace ∷ sy symbol.LBracket ∷ sy symbol.RBracket ∷ sy symbol.RBrace ∷ sy symbol.XmlClose ∷ []) ≡ Some ((E (exp.Xml (record { parts = (X (xml.Splice 0) ∷ []) }) ((E (exp.Nil)) ∷ []) ([]))))
splice_of_nil = refl

-- JOIN has its condition
join_without_on : exp_of (lo (codes "queryL") ∷ sy symbol.LParen ∷ up (codes "SELECT") ∷ sy symbol.Star ∷ up (codes "FROM") ∷ lo (codes "t") ∷ up (codes "JOIN") ∷ lo (codes "u") ∷ sy symbol.RParen ∷ []) ≡ None
join_without_on = refl

-- antiquotes are numbered in written order
numbered : exp_of (lo (codes "dml") ∷ sy symbol.LParen ∷ up (codes "UPDATE") ∷ lo (codes "t") ∷ up (codes "SET") ∷ up (codes "A") ∷ sy symbol.Eq ∷ sy symbol.LBrace ∷ sy symbol.LBracket ∷ lo (codes "x") ∷ sy symbol.RBracket ∷ sy symbol.RBrace
    ∷ up (codes "WHERE") ∷ up (codes "B") ∷ sy symbol.Eq ∷ sy symbol.LBrace ∷ sy symbol.LBracket ∷ lo (codes "y") ∷ sy symbol.RBracket ∷ sy symbol.RBrace ∷ sy symbol.RParen ∷ [])
    ≡ Some (E (exp.Dml (changes.Update s0 (record { span = s0; «module» = None; name = codes "t" }) (record { column = codes "A"; value = Q (sql.Anti 0) } ∷ []) (Some (Q (sql.Binary sop.Eq (Q (sql.Column (codes "B"))) (Q (sql.Anti 1)))))) (v (codes "x") ∷ v (codes "y") ∷ [])))
numbered = refl
