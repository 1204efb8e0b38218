-- The modes that are open at a place.
use Rattle.std.specs.Prelude.{Bool, true, false, List, [], ◌∷◌}
use Rattle.ur_lex.specs.declared.mode.Mode.{Mode}
use Rattle.ur_lex.specs.declared.mode.Mode.TheVariants as place
use Rattle.ur_lex.specs.declared.mode.Turn.{Turn}
use Rattle.ur_lex.specs.declared.mode.Turn.TheVariants as turns
use Rattle.ur_lex.specs.declared.token.Symbol.TheVariants as symbol
use Rattle.ur_lex.specs.declared.token.TokenKind.{TokenKind}
use Rattle.ur_lex.specs.declared.token.TokenKind.TheVariants as kind

-- What a token does in a mode. `{` opens the language, up to its matching `}`.
abbrev pub turn : TokenKind → Mode → Turn
turn (kind.Symbol symbol.LBrace) _ = turns.Into place.Code
turn (kind.Symbol symbol.XmlOpen) _ = turns.Into place.Markup
turn (kind.Symbol symbol.Lt) place.Markup = turns.Into place.Tag
turn (kind.Symbol symbol.TagClose) place.Markup = turns.Into place.Tag
turn (kind.Symbol symbol.RBrace) place.Code = turns.Out
turn (kind.Symbol symbol.XmlClose) place.Markup = turns.Out
turn (kind.Symbol symbol.Gt) place.Tag = turns.Out
turn (kind.Symbol symbol.TagEmpty) place.Tag = turns.Out
turn _ _ = turns.Stay

-- the modes behind it, innermost first; the outermost is never left
abbrev pub turned : Turn → List Mode → List Mode
turned (turns.Into mode) modes = mode ∷ modes
turned turns.Out (m ∷ n ∷ modes) = n ∷ modes
turned turns.Out modes = modes
turned turns.Stay modes = modes

-- the mode at the place
abbrev pub innermost : List Mode → Mode
innermost [] = place.Code
innermost (mode ∷ modes) = mode

-- the mode is that of the language
abbrev pub is_code : Mode → Bool
is_code place.Code = true
is_code _ = false
