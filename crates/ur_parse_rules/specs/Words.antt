-- Words that are no names at some places.
use Rattle.std.specs.Prelude.{Bool, true, false, List, [], ◌∷◌, codes}
use Rattle.ur_lex.specs.Spelling.{Text}
use Rattle.ur_parse_rules.specs.Classes.{Test, every, but, passes}

-- the words of SQL
abbrev pub sql_words : List Text
sql_words = codes "PRIMARY" ∷ codes "KEY" ∷ codes "CONSTRAINT" ∷ codes "UNIQUE" ∷ codes "SELECT" ∷ codes "FROM" ∷ codes "JOIN" ∷ codes "ON" ∷ codes "WHERE" ∷ codes "GROUP" ∷ codes "BY" ∷ codes "ORDER"
    ∷ codes "ASC" ∷ codes "DESC" ∷ codes "LIMIT" ∷ codes "OFFSET" ∷ codes "AS" ∷ codes "COUNT" ∷ codes "SUM" ∷ codes "MIN" ∷ codes "MAX" ∷ codes "INSERT" ∷ codes "INTO" ∷ codes "VALUES" ∷ codes "UPDATE"
    ∷ codes "SET" ∷ codes "DELETE" ∷ codes "TRUE" ∷ codes "FALSE" ∷ codes "AND" ∷ codes "OR" ∷ codes "NOT" ∷ codes "NULL" ∷ codes "SOME" ∷ codes "IS" ∷ []

-- the name of a field in capitals is no word of SQL
abbrev pub is_field : Text → Bool
is_field = passes (but sql_words)

-- Where a table's keys may begin, the words that they begin with name no module.
abbrev pub free_test : Bool → Test
free_test true = but (codes "PRIMARY" ∷ codes "CONSTRAINT" ∷ [])
free_test false = every

abbrev pub is_free : Bool → Text → Bool
is_free keys = passes (free_test keys)

-- the words that a form begins with
abbrev pub form_words : List Text
form_words = codes "return" ∷ codes "show" ∷ codes "not" ∷ codes "error" ∷ codes "Some" ∷ codes "nextval" ∷ codes "getCookie" ∷ codes "setCookie" ∷ codes "dml" ∷ codes "queryL" ∷ codes "oneRow" ∷ codes "oneOrNoRows"
    ∷ codes "queryX" ∷ codes "fold" ∷ []

-- at the head of an application those are no names, but they are at an argument
abbrev pub name_test : Bool → Test
name_test true = but form_words
name_test false = every

abbrev pub is_name : Bool → Text → Bool
is_name head = passes (name_test head)

-- the words of patterns, which are no constructors of a datatype there
abbrev pub pattern_words : List Text
pattern_words = codes "True" ∷ codes "False" ∷ codes "None" ∷ codes "Some" ∷ []

abbrev pub is_constructor : Text → Bool
is_constructor = passes (but pattern_words)
