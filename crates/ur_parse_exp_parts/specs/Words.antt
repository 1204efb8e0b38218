-- Words that begin a form.
use Rattle.std.specs.Prelude.{ℕ, ◌+◌, List, codes, Option, Some, None}
use Rattle.ur_lex.specs.declared.token.TokenKind.{TokenKind}
use Rattle.ur_lex.specs.declared.token.TokenKind.TheVariants as token
use Rattle.ur_lex.specs.declared.token.Lexeme.{Lexeme}
use Rattle.ur_lex.specs.Spelling.{Text}
use Rattle.ur_parse_rules.specs.Places.{IsAt, Other, Spelled}
use Rattle.ur_parse_exp_parts.specs.declared.word.FormWord.{FormWord}
use Rattle.ur_parse_exp_parts.specs.declared.word.FormWord.TheVariants as form

-- how a form's word is spelled
abbrev pub kind_of : FormWord → TokenKind
kind_of form.Some = token.Upper
kind_of _ = token.Lower

abbrev pub word_of : FormWord → Text
word_of form.Return = codes "return"
word_of form.Show = codes "show"
word_of form.Not = codes "not"
word_of form.Error = codes "error"
word_of form.Some = codes "Some"
word_of form.Fold = codes "fold"
word_of form.Nextval = codes "nextval"
word_of form.GetCookie = codes "getCookie"
word_of form.SetCookie = codes "setCookie"
word_of form.Dml = codes "dml"
word_of form.QueryL = codes "queryL"
word_of form.OneRow = codes "oneRow"
word_of form.OneOrNoRows = codes "oneOrNoRows"
word_of form.QueryX = codes "queryX"

-- the word stands at the place
abbrev pub Stands : List Lexeme → ℕ → FormWord → Type 0
Stands tokens i f = IsAt tokens i (i + 1) (Spelled (kind_of f) (word_of f))

-- the word does not stand there
abbrev pub Lacks : List Lexeme → ℕ → FormWord → Type 0
Lacks tokens i f = Other tokens i (Spelled (kind_of f) (word_of f))

-- none of a group stands there
pub record NoPlain (tokens : List Lexeme) (i : ℕ) : Type 0 where
  pub «return» : Lacks tokens i form.Return
  pub «show» : Lacks tokens i form.Show
  pub «not» : Lacks tokens i form.Not
  pub «error» : Lacks tokens i form.Error
  pub «some» : Lacks tokens i form.Some
  pub «fold» : Lacks tokens i form.Fold

pub record NoState (tokens : List Lexeme) (i : ℕ) : Type 0 where
  pub nextval : Lacks tokens i form.Nextval
  pub get_cookie : Lacks tokens i form.GetCookie
  pub set_cookie : Lacks tokens i form.SetCookie

pub record NoSql (tokens : List Lexeme) (i : ℕ) : Type 0 where
  pub dml : Lacks tokens i form.Dml
  pub query_l : Lacks tokens i form.QueryL
  pub one_row : Lacks tokens i form.OneRow
  pub one_or_no_rows : Lacks tokens i form.OneOrNoRows
  pub query_x : Lacks tokens i form.QueryX

pub record NoForm (tokens : List Lexeme) (i : ℕ) : Type 0 where
  pub plain : NoPlain tokens i
  pub state : NoState tokens i
  pub sql : NoSql tokens i

-- the word that stands at the place, or none of the group does
abbrev pub PlainAt : List Lexeme → ℕ → Option FormWord → Type 0
PlainAt tokens i None = NoPlain tokens i
PlainAt tokens i (Some f) = Stands tokens i f

abbrev pub StateAt : List Lexeme → ℕ → Option FormWord → Type 0
StateAt tokens i None = NoState tokens i
StateAt tokens i (Some f) = Stands tokens i f

abbrev pub SqlAt : List Lexeme → ℕ → Option FormWord → Type 0
SqlAt tokens i None = NoSql tokens i
SqlAt tokens i (Some f) = Stands tokens i f

abbrev pub FormAt : List Lexeme → ℕ → Option FormWord → Type 0
FormAt tokens i None = NoForm tokens i
FormAt tokens i (Some f) = Stands tokens i f
