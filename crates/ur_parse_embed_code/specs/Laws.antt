-- What skeletons and the trees with expressions have to do with each other.
use Rattle.std.specs.Prelude.{◌≡◌, ◌⊎◌, ℕ, true, ◌≤◌, List, [], ◌∷◌, ◌++◌}
use Rattle.std.specs.List.{Contains}
use Rattle.ur_lex.specs.declared.token.Lexeme.{Lexeme}
use Rattle.ur_syntax.specs.declared.exp.Exp.{Exp}
use Rattle.ur_syntax.specs.declared.xml.Xml.{Xml}
use Rattle.ur_syntax.specs.declared.sql.SqlQuery.{SqlQuery}
use Rattle.ur_syntax.specs.declared.sql.SqlChange.{SqlChange}
use Rattle.ur_parse_rules.specs.Rules.{Spells, Open, Stops, part, one}
use Rattle.ur_parse_rules.specs.Classes.{member}
use Rattle.ur_parse_rules.specs.Ends.{code_starts}
use Rattle.ur_parse_rules.specs.Quoted.{Quoting, expressions, raw, Raw, Quoted, Code}
use Rattle.ur_parse_rules.specs.SqlParts as s
use Rattle.ur_parse_rules.specs.XmlParts as x
use Rattle.ur_parse_rules.specs.Parts.{Part, of_sql, of_xml, of_quote}
use Rattle.ur_parse_rules.specs.Language.{language}
use Rattle.ur_parse_embed_code.specs.Filled.{Fills, OpensBeyond, AllKnown}

-- which trees of a part its tokens spell, by nesting
abbrev pub Spelled : Type 0 → Type 1
Spelled T = ℕ → T → List Lexeme → Type 0

abbrev pub literal : (q : Quoting) → Spelled (Quoted (Code q) Xml)
literal q n a tokens = Spells language n (part (of_xml q x.literal) a ∷ []) tokens

abbrev pub query : (q : Quoting) → Spelled (Quoted (Code q) SqlQuery)
query q n a tokens = Spells language n (part (of_sql q s.query) a ∷ []) tokens

abbrev pub change : (q : Quoting) → Spelled (Quoted (Code q) SqlChange)
change q n a tokens = Spells language n (part (of_sql q s.change) a ∷ []) tokens

-- a part has a skeleton, which it fills
abbrev pub HasSkeleton : {A : Type 0} → Spelled (Quoted Raw A) → Spelled (Quoted Exp A) → Type 0
HasSkeleton {A = A} skeleton spelled =
    (n : ℕ) (b : Quoted Exp A) (tokens : List Lexeme) → spelled n b tokens → (a : Quoted Raw A) × skeleton n a tokens × Fills n a b

-- a skeleton that is filled is the part
abbrev pub IsFilled : {A : Type 0} → Spelled (Quoted Raw A) → Spelled (Quoted Exp A) → Type 0
IsFilled {A = A} skeleton spelled =
    (m n : ℕ) (a : Quoted Raw A) (b : Quoted Exp A) (tokens : List Lexeme) → skeleton m a tokens → m ≤ n → Fills n a b → spelled n b tokens

-- where all raw code is known within n, a skeleton of any nesting is filled, or more than n are open
abbrev pub IsFilledOrOpen : {A : Type 0} → Part → Spelled (Quoted Raw A) → Spelled (Quoted Exp A) → Type 0
IsFilledOrOpen {A = A} p skeleton spelled =
    (m n : ℕ) (a : Quoted Raw A) (tokens : List Lexeme) → skeleton m a tokens → AllKnown true n a →
    ((b : Quoted Exp A) × Fills n a b × spelled n b tokens) ⊎ OpensBeyond n (one p ∷ []) tokens

-- where raw code is spelled by no expression, the part is spelled by no tree
abbrev pub NeedsCode : {A : Type 0} → Spelled (Quoted Raw A) → Spelled (Quoted Exp A) → Type 0
NeedsCode {A = A} skeleton spelled =
    (m n : ℕ) (a : Quoted Raw A) (b : Quoted Exp A) (tokens : List Lexeme) (c : Raw) → skeleton m a tokens → (Contains a.exps c ⊎ Contains a.attributes c) →
    ((l : ℕ) (e : Exp) → Spells language l (part (of_quote expressions) e ∷ []) c.tokens → ⊥) → spelled n b tokens → ⊥

-- a front of code does not go past the bracket that closes the code
abbrev pub StaysWithin : Type 0
StaysWithin = (m k : ℕ) (c : Raw) (code taken behind rest : List Lexeme) → Spells language m (part (of_quote raw) c ∷ []) code → Stops (member code_starts) behind →
    Open language (one (of_quote expressions) ∷ []) taken k → code ++ behind ≡ taken ++ rest → (left : List Lexeme) × (code ≡ taken ++ left)
