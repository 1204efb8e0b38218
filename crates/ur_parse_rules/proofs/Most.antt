-- No token goes on behind a tree that does not go on behind any tree of the nonterminal.
use Rattle.std.specs.Prelude.{◌≡◌, true, ◌&&◌, [], ◌∷◌, ◌++◌, Option, Some, None, refl}
use Rattle.ur_lex.specs.declared.token.Symbol.TheVariants as symbol
use Rattle.ur_lex.specs.declared.token.TokenKind.{TokenKind}
use Rattle.ur_lex.specs.Spelling.{Text}
use Rattle.ur_parse_rules.specs.Classes.{Classes, member}
use Rattle.ur_parse_rules.specs.ExpParts as e
use Rattle.ur_parse_rules.specs.Parts.{Part, of_con, of_exp, of_sql, of_xml, of_decl, of_quote, of_code, Tree, ExpTree, Ended}
use Rattle.ur_parse_rules.specs.Ends.{con_last, exp_last, sql_last, xml_last, decl_last, code_last, code_starts, more, more_exps, exp_more, line_more, rest_more, branches_more, semicolon, bar, operators, symbols}
use Rattle.ur_parse_rules.proofs.Tests.{and_left, or_true, inside, member_behind}

abbrev pub last : Part → Classes
last (of_con p) = con_last p
last (of_exp p) = exp_last p
last (of_sql q p) = sql_last p
last (of_xml q p) = xml_last p
last (of_decl p) = decl_last p
last (of_quote q) = code_starts
last (of_code p) = code_last p

abbrev loose : Classes
loose = symbols (symbol.Semicolon ∷ symbol.LeftArrow ∷ symbol.Bar ∷ []) ++ operators

operator_most : (k : TokenKind) (w : Text) → member operators k w ≡ true → member loose k w ≡ true
operator_most k w h = member_behind (symbols (symbol.Semicolon ∷ symbol.LeftArrow ∷ symbol.Bar ∷ [])) operators k w h

semicolon_most : (k : TokenKind) (w : Text) → semicolon k w ≡ true → member loose k w ≡ true
semicolon_most k w h = inside (symbols (symbol.Semicolon ∷ symbol.LeftArrow ∷ [])) loose k w refl h

bar_most : (k : TokenKind) (w : Text) → bar k w ≡ true → member loose k w ≡ true
bar_most k w h = inside (symbols (symbol.Bar ∷ [])) loose k w refl h

exp_most : (a : Ended) (k : TokenKind) (w : Text) → exp_more a k w ≡ true → member loose k w ≡ true
exp_most a k w h = or_true (member operators k w) _ h (λ y. operator_most k w y) (λ y. or_true (semicolon k w) _ y (λ z. semicolon_most k w z) (λ z. bar_most k w (and_left _ _ z)))

line_most : (a : Ended) (k : TokenKind) (w : Text) → line_more a k w ≡ true → member loose k w ≡ true
line_most a k w h = or_true (member operators k w) _ h (λ y. operator_most k w y) (λ y. or_true (semicolon k w && a.takes_semicolon) _ y (λ z. semicolon_most k w (and_left _ _ z)) (λ z. bar_most k w (and_left _ _ z)))

rest_most : (a : Option Ended) (k : TokenKind) (w : Text) → rest_more a k w ≡ true → member loose k w ≡ true
rest_most None k w h = semicolon_most k w h
rest_most (Some a) k w h = exp_most a k w h

branches_most : (k : TokenKind) (w : Text) → branches_more k w ≡ true → member loose k w ≡ true
branches_most k w h = or_true (member operators k w) _ h (λ y. operator_most k w y) (λ y. or_true (semicolon k w) _ y (λ z. semicolon_most k w z) (λ z. bar_most k w z))

exps_most : (p : e.ExpPart) (a : ExpTree p) (k : TokenKind) (w : Text) → more_exps p a k w ≡ true → member (exp_last p) k w ≡ true
exps_most e.exp a k w h = exp_most a k w h
exps_most e.rest a k w h = rest_most a k w h
exps_most e.line a k w h = line_most a k w h
exps_most e.lambda a k w h = line_most a k w h
exps_most e.branches a k w h = branches_most k w h
exps_most e.more_branches a k w h = branches_most k w h
exps_most _ a k w h = h

pub most : (p : Part) (a : Tree p) (k : TokenKind) (w : Text) → more p a k w ≡ true → member (last p) k w ≡ true
most (of_con p) a k w h = h
most (of_exp p) a k w h = exps_most p a k w h
most (of_sql q p) a k w h = h
most (of_xml q p) a k w h = h
most (of_decl p) a k w h = h
most (of_quote q) a k w h = h
most (of_code p) a k w h = h
