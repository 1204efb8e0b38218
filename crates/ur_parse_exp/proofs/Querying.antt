-- Queries and changes with the expressions of their code.
use Rattle.std.specs.Prelude.{◌≡◌, ◌⊎◌, ◌+◌, ℕ, true, List, [], ◌∷◌, ◌++◌}
use Rattle.std.proofs.Common.{◌∙◌, ap, inl, inr, arith, append_assoc}
use Rattle.ur_lex.specs.declared.token.Lexeme.{Lexeme}
use Rattle.ur_syntax.specs.declared.exp.Exp.{Exp}
use Rattle.ur_syntax.specs.declared.sql.SqlQuery.{SqlQuery}
use Rattle.ur_syntax.specs.declared.sql.SqlChange.{SqlChange}
use Rattle.ur_parse_rules.specs.Rules.{Read, one}
use Rattle.ur_parse_rules.proofs.Once.{read_once}
use Rattle.ur_parse_rules.specs.Quoted.{expressions, raw, Raw, Quoted}
use Rattle.ur_parse_rules.specs.SqlParts as s
use Rattle.ur_parse_rules.specs.Parts.{of_sql}
use Rattle.ur_parse_rules.specs.Language.{language}
use Rattle.ur_parse_rules.proofs.Choice.{choice}
use Rattle.ur_parse_rules.proofs.AllDecided.{decided}
use Rattle.ur_parse_embed_code.specs.Filled.{Fills, AllKnown, OpensBehind}
use Rattle.ur_parse_embed_code.specs.Laws.{query, change}
use Rattle.ur_parse_embed_code.proofs.Laws.{is_filled, is_filled_or_open, query_read, query_complete, change_read, change_complete}
use Rattle.ur_parse_embed_code.proofs.Trimmed.{one_beyond}
use Rattle.ur_parse_exp.proofs.Skeletons.{Reading, Stripped}

-- ---- queries

abbrev pub QueryRaws : Reading (Quoted Raw SqlQuery)
QueryRaws n ts rest a = Read language n (of_sql raw s.query) ts rest a

abbrev pub QueryExps : Reading (Quoted Exp SqlQuery)
QueryExps n ts rest b = Read language n (of_sql expressions s.query) ts rest b

query_skeleton : (n : ℕ) (ts rest : List Lexeme) (b : Quoted Exp SqlQuery) → QueryExps n ts rest b → (a : Quoted Raw SqlQuery) × QueryRaws n ts rest a × Fills n a b
query_skeleton n ts rest b g = let o = query_read n b g.taken g.spells in (o.0, record { taken = g.taken; split = g.split; spells = o.1; stops = g.stops }, o.2)

query_once : (m n : ℕ) (ts end rest : List Lexeme) (a c : Quoted Raw SqlQuery) → QueryRaws m ts end a → QueryRaws n ts rest c → a ≡ c
query_once m n ts end rest a c h k = (read_once language choice decided h k).0

query_filled : (n : ℕ) (ts rest : List Lexeme) (a : Quoted Raw SqlQuery) (b : Quoted Exp SqlQuery) → QueryRaws n ts rest a → Fills n a b → QueryExps n ts rest b
query_filled n ts rest a b h f = record {
  taken = h.taken;
  split = h.split;
  spells = is_filled (of_sql expressions s.query) (query raw) (query expressions) query_complete n n a b h.taken h.spells (omega arith) f;
  stops = h.stops;
}

query_known : (m n : ℕ) (ts rest : List Lexeme) (a : Quoted Raw SqlQuery) → QueryRaws m ts rest a → AllKnown true n a → ((b : Quoted Exp SqlQuery) × QueryExps n ts rest b) ⊎ OpensBehind (n + 1) (one (of_sql expressions s.query) ∷ []) ts
query_known m n ts rest a h k = elim (is_filled_or_open (of_sql expressions s.query) (query raw) (query expressions) query_complete m n a h.taken h.spells k) [
  | inl y ↦ inl (y.0, record { taken = h.taken; split = h.split; spells = y.2; stops = h.stops })
  | inr y ↦ inr (let t = one_beyond n (one (of_sql expressions s.query) ∷ []) h.taken y in (t.0, t.1 ++ rest, h.split ∙ ap (λ z. z ++ rest) t.2 ∙ append_assoc t.0 t.1 rest, t.3))
]

pub queries : Stripped (of_sql expressions s.query) (of_sql raw s.query) QueryRaws QueryExps
queries = record { tree = λ n ts rest x h. (x, h); bare = λ n ts rest a h. (a, h); skeleton = query_skeleton; once = query_once; filled = query_filled; known = query_known }

-- ---- changes

abbrev pub ChangeRaws : Reading (Quoted Raw SqlChange)
ChangeRaws n ts rest a = Read language n (of_sql raw s.change) ts rest a

abbrev pub ChangeExps : Reading (Quoted Exp SqlChange)
ChangeExps n ts rest b = Read language n (of_sql expressions s.change) ts rest b

change_skeleton : (n : ℕ) (ts rest : List Lexeme) (b : Quoted Exp SqlChange) → ChangeExps n ts rest b → (a : Quoted Raw SqlChange) × ChangeRaws n ts rest a × Fills n a b
change_skeleton n ts rest b g = let o = change_read n b g.taken g.spells in (o.0, record { taken = g.taken; split = g.split; spells = o.1; stops = g.stops }, o.2)

change_once : (m n : ℕ) (ts end rest : List Lexeme) (a c : Quoted Raw SqlChange) → ChangeRaws m ts end a → ChangeRaws n ts rest c → a ≡ c
change_once m n ts end rest a c h k = (read_once language choice decided h k).0

change_filled : (n : ℕ) (ts rest : List Lexeme) (a : Quoted Raw SqlChange) (b : Quoted Exp SqlChange) → ChangeRaws n ts rest a → Fills n a b → ChangeExps n ts rest b
change_filled n ts rest a b h f = record {
  taken = h.taken;
  split = h.split;
  spells = is_filled (of_sql expressions s.change) (change raw) (change expressions) change_complete n n a b h.taken h.spells (omega arith) f;
  stops = h.stops;
}

change_known : (m n : ℕ) (ts rest : List Lexeme) (a : Quoted Raw SqlChange) → ChangeRaws m ts rest a → AllKnown true n a → ((b : Quoted Exp SqlChange) × ChangeExps n ts rest b) ⊎ OpensBehind (n + 1) (one (of_sql expressions s.change) ∷ []) ts
change_known m n ts rest a h k = elim (is_filled_or_open (of_sql expressions s.change) (change raw) (change expressions) change_complete m n a h.taken h.spells k) [
  | inl y ↦ inl (y.0, record { taken = h.taken; split = h.split; spells = y.2; stops = h.stops })
  | inr y ↦ inr (let t = one_beyond n (one (of_sql expressions s.change) ∷ []) h.taken y in (t.0, t.1 ++ rest, h.split ∙ ap (λ z. z ++ rest) t.2 ∙ append_assoc t.0 t.1 rest, t.3))
]

pub changes : Stripped (of_sql expressions s.change) (of_sql raw s.change) ChangeRaws ChangeExps
changes = record { tree = λ n ts rest x h. (x, h); bare = λ n ts rest a h. (a, h); skeleton = change_skeleton; once = change_once; filled = change_filled; known = change_known }
