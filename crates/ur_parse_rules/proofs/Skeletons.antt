-- Skeletons of SQL and XML are read as these trees.
use Rattle.std.specs.Prelude.{◌≡◌, ℕ, false, List, [], ◌∷◌, codes, Option, Some, None, refl}
use Rattle.ur_lex.specs.declared.token.Symbol.TheVariants as symbol
use Rattle.ur_lex.specs.declared.token.TokenKind.TheVariants as token
use Rattle.ur_lex.specs.declared.token.Lexeme.{Lexeme}
use Rattle.ur_syntax.specs.declared.sql.SqlExp.{SqlExp}
use Rattle.ur_syntax.specs.declared.sql.SqlForm.TheVariants as sql
use Rattle.ur_syntax.specs.declared.sql.SqlBinary.TheVariants as sop
use Rattle.ur_syntax.specs.declared.xml.Xml.{Xml}
use Rattle.ur_syntax.specs.declared.xml.XmlForm.TheVariants as xml
use Rattle.ur_syntax.specs.declared.xml.TagField.TheVariants as tagged
use Rattle.ur_syntax.specs.declared.xml.AttrValue.TheVariants as value
use Rattle.ur_parse_rules.specs.Quoted.{Quoted, Raw, raw}
use Rattle.ur_parse_rules.specs.Language.{max_nesting}
use Rattle.ur_parse_rules.specs.SqlParts as s
use Rattle.ur_parse_rules.specs.XmlParts as x
use Rattle.ur_parse_rules.specs.Parts.{of_sql, of_xml}
use Rattle.ur_parse_rules.proofs.Reader.{read, whole}
use Rattle.ur_parse_rules.proofs.Samples.{lx, sy, lo, it, X, Q}

-- the tree, its code and that of its attributes
abbrev Shown : Type 0 → Type 0
Shown A = Option (A × List Raw × List Raw)

abbrev shown : {A : Type 0} → Option (Quoted Raw A) → Shown A
shown None = None
shown (Some a) = Some (a.at 0 0, a.exps, a.attributes)

abbrev literal_of : List Lexeme → Shown Xml
literal_of ts = shown (whole (read 4000 max_nesting (of_xml raw x.literal) ts))

abbrev sexp_of : List Lexeme → Shown SqlExp
sexp_of ts = shown (whole (read 4000 max_nesting (of_sql raw (s.sexp false)) ts))

abbrev code : List Lexeme → ℕ → Raw
code ts n = record { tokens = ts; nesting = n }

-- `{[f (x, ])]}` has its brackets out of order
brackets_in_pairs : literal_of (sy symbol.XmlOpen ∷ sy symbol.LBrace ∷ sy symbol.LBracket ∷ sy symbol.LParen ∷ sy symbol.RBracket ∷ sy symbol.RParen ∷ sy symbol.RBracket ∷ sy symbol.RBrace ∷ sy symbol.XmlClose ∷ []) ≡ None
brackets_in_pairs = refl

-- `{}` and `{[]}`: no code, and a splice of the empty list
no_code : literal_of (sy symbol.XmlOpen ∷ sy symbol.LBrace ∷ sy symbol.RBrace ∷ sy symbol.XmlClose ∷ []) ≡ None
no_code = refl

splice_of_nil : literal_of (sy symbol.XmlOpen ∷ sy symbol.LBrace ∷ sy symbol.LBracket ∷ sy symbol.RBracket ∷ sy symbol.RBrace ∷ sy symbol.XmlClose ∷ []) ≡ Some (record { parts = X (xml.Splice 0) ∷ [] }, code (sy symbol.LBracket ∷ sy symbol.RBracket ∷ []) 0 ∷ [], [])
splice_of_nil = refl

-- `{[x] y}` is neither a splice nor a value that is shown
bracket_then_more : literal_of (sy symbol.XmlOpen ∷ sy symbol.LBrace ∷ sy symbol.LBracket ∷ lo (codes "x") ∷ sy symbol.RBracket ∷ lo (codes "y") ∷ sy symbol.RBrace ∷ sy symbol.XmlClose ∷ []) ≡ None
bracket_then_more = refl

-- code stands in one element, and the code of an attribute too; code has code of XML in it
nested_code : literal_of (sy symbol.XmlOpen ∷ sy symbol.Lt ∷ lx token.Word (codes "a") ∷ lx token.Word (codes "link") ∷ sy symbol.Eq ∷ sy symbol.LBrace ∷ lo (codes "f") ∷ it 1 ∷ sy symbol.RBrace ∷ sy symbol.Gt
    ∷ sy symbol.LBrace ∷ sy symbol.XmlOpen ∷ sy symbol.LBrace ∷ sy symbol.LBracket ∷ lo (codes "x") ∷ sy symbol.RBracket ∷ sy symbol.RBrace ∷ sy symbol.XmlClose ∷ sy symbol.RBrace
    ∷ sy symbol.TagClose ∷ lx token.Word (codes "a") ∷ sy symbol.Gt ∷ sy symbol.LBrace ∷ sy symbol.LBracket ∷ lo (codes "y") ∷ sy symbol.RBracket ∷ sy symbol.RBrace ∷ sy symbol.XmlClose ∷ [])
    ≡ Some (
      record { parts = X (xml.Element (record { word = codes "a"; field = tagged.None }) (record { name = codes "link"; value = value.Exp 0 } ∷ []) (X (xml.Splice 0) ∷ [])) ∷ X (xml.Show 1) ∷ [] },
      code (sy symbol.XmlOpen ∷ sy symbol.LBrace ∷ sy symbol.LBracket ∷ lo (codes "x") ∷ sy symbol.RBracket ∷ sy symbol.RBrace ∷ sy symbol.XmlClose ∷ []) 1 ∷ code (lo (codes "y") ∷ []) 0 ∷ [],
      code (lo (codes "f") ∷ it 1 ∷ []) 1 ∷ [],
    )
nested_code = refl

-- each expression of SQL around code is counted
counted_code : sexp_of (sy symbol.LParen ∷ sy symbol.LBrace ∷ sy symbol.LBracket ∷ lo (codes "x") ∷ sy symbol.RBracket ∷ sy symbol.RBrace ∷ sy symbol.RParen ∷ sy symbol.Eq ∷ sy symbol.LBrace ∷ sy symbol.LBracket ∷ lo (codes "y") ∷ sy symbol.RBracket ∷ sy symbol.RBrace ∷ [])
    ≡ Some (Q (sql.Binary sop.Eq (Q (sql.Anti 0)) (Q (sql.Anti 1))), code (lo (codes "x") ∷ []) 2 ∷ code (lo (codes "y") ∷ []) 1 ∷ [], [])
counted_code = refl
