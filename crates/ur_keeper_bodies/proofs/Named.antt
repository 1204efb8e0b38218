-- The text of a schema whose names are words is read as that schema.
use Rattle.std.proofs.Common.{◌≡◌, ◌≢◌, ℕ, Bool, true, false, List, [], ◌∷◌, ◌++◌, map, All, Option, Some, None, option_map, refl, ap, sym, ◌∙◌}
use Rattle.std.specs.Prelude.{codes, if◌then◌else◌}
use Rattle.std.specs.Option.{option_and_then}
use Rattle.std.specs.Str.{bytes_eq}
use Rattle.std.proofs.lemmas.List.{append-nil}
use Rattle.std.proofs.lemmas.Slice.Eq.{bytes_eq-Decides}
use Rattle.std.proofs.lemmas.List.Elements.{All-nil, All-cons, All-head, All-tail}
use Rattle.ur_values.specs.declared.schema.ColumnKind.{ColumnKind}
use Rattle.ur_values.specs.declared.schema.ColumnKind.TheVariants as kind
use Rattle.ur_values.specs.declared.schema.TableShape.{TableShape}
use Rattle.ur_values.specs.declared.schema.Schema.{Schema}
use Rattle.ur_values.specs.SchemaText.{kind_text, column_text, columns_text, name_at, names_text, key_text, uniques_text, keys_text, table_text, tables_text, sequences_text, schema_text}
use Rattle.ur_keeper_bodies.specs.declared.text.Line.{Line}
use Rattle.ur_keeper_bodies.specs.Lines.{kind_of, column_of, column_of_parts, begun, with_column, with_place, read_name, read_word, read_words, read_table, with_table, with_sequence, read_parts, read_line, read_lines, no_schema}
use Rattle.ur_values.specs.Named.{Lacks, IsWord, IsColumn, IsKeyColumn, IsNamedTable, IsNamed}
use Rattle.ur_keeper_bodies.specs.Pieces.{pieces}
use Rattle.ur_keeper_bodies.proofs.Words.{grouped, snoc, lacks-append, one-piece, piece-ends, blanks, blanks-append, words-are, lacks-blanks, differ, with-colon, true-false}

abbrev Columns : Type 0
Columns = List (List ℕ × ColumnKind)

-- ---- the words of a table

abbrev column_word : List ℕ × ColumnKind → List ℕ
column_word c = c.0 ++ 58 ∷ kind_text c.1

abbrev unique_words : Columns → List (List ℕ) → List (List ℕ)
unique_words columns [] = []
unique_words columns (key ∷ keys) = codes "unique" ∷ map (name_at columns) key ++ unique_words columns keys

abbrev key_words : Columns → Bool → List (List ℕ) → List (List ℕ)
key_words columns primary [] = []
key_words columns primary (key ∷ keys) = (if primary then codes "primary" else codes "unique") ∷ map (name_at columns) key ++ unique_words columns keys

abbrev words_of : TableShape → List (List ℕ)
words_of t = t.name ∷ map column_word t.columns ++ key_words t.columns t.primary t.keys

column-spelled : (c : List ℕ × ColumnKind) → column_text c ≡ 32 ∷ column_word c
column-spelled c = ap (λ l. 32 ∷ l) (grouped c.0 (58 ∷ []) (kind_text c.1))

columns-spelled : (columns : Columns) → columns_text columns ≡ blanks (map column_word columns)
columns-spelled [] = refl
columns-spelled (c ∷ columns) = ap (λ l. l ++ columns_text columns) (column-spelled c) ∙ ap (λ l. (32 ∷ column_word c) ++ l) (columns-spelled columns)

names-spelled : (columns : Columns) (key : List ℕ) → names_text columns key ≡ blanks (map (name_at columns) key)
names-spelled columns [] = refl
names-spelled columns (c ∷ key) = ap (λ l. (32 ∷ name_at columns c) ++ l) (names-spelled columns key)

key-spelled : (columns : Columns) (word : List ℕ) (key : List ℕ) (ws : List (List ℕ)) (text : List ℕ) → text ≡ blanks ws
    → key_text columns word key ++ text ≡ blanks (word ∷ map (name_at columns) key ++ ws)
key-spelled columns word key ws text e =
    let names = map (name_at columns) key in
    ap (λ l. ((32 ∷ word) ++ l) ++ text) (names-spelled columns key)
    ∙ ap (λ l. ((32 ∷ word) ++ blanks names) ++ l) e
    ∙ grouped (32 ∷ word) (blanks names) (blanks ws)
    ∙ ap (λ l. (32 ∷ word) ++ l) (sym (blanks-append names ws))

uniques-spelled : (columns : Columns) (keys : List (List ℕ)) → uniques_text columns keys ≡ blanks (unique_words columns keys)
uniques-spelled columns [] = refl
uniques-spelled columns (key ∷ keys) = key-spelled columns (codes "unique") key (unique_words columns keys) (uniques_text columns keys) (uniques-spelled columns keys)

keys-spelled : (columns : Columns) (primary : Bool) (keys : List (List ℕ)) → keys_text columns primary keys ≡ blanks (key_words columns primary keys)
keys-spelled columns true [] = refl
keys-spelled columns true (key ∷ keys) = key-spelled columns (codes "primary") key (unique_words columns keys) (uniques_text columns keys) (uniques-spelled columns keys)
keys-spelled columns false [] = refl
keys-spelled columns false (key ∷ keys) = uniques-spelled columns (key ∷ keys)

abbrev line_of : TableShape → List ℕ
line_of t = codes "table" ++ blanks (words_of t)

table-spelled : (t : TableShape) (rest : List ℕ) → table_text t ++ rest ≡ line_of t ++ 10 ∷ rest
table-spelled t rest =
    let C = columns_text t.columns in
    let K = keys_text t.columns t.primary t.keys in
    let ws = map column_word t.columns in
    let us = key_words t.columns t.primary t.keys in
    let words : C ++ K ≡ blanks (ws ++ us) = ap (λ l. l ++ K) (columns-spelled t.columns) ∙ ap (λ l. blanks ws ++ l) (keys-spelled t.columns t.primary t.keys) ∙ sym (blanks-append ws us) in
    let all : C ++ (K ++ 10 ∷ []) ≡ blanks (ws ++ us) ++ 10 ∷ [] = sym (grouped C K (10 ∷ [])) ∙ ap (λ l. l ++ 10 ∷ []) words in
    ap (λ l. l ++ rest) (grouped (codes "table " ++ t.name ++ C) K (10 ∷ []) ∙ grouped (codes "table " ++ t.name) C (K ++ 10 ∷ []))
    ∙ ap (λ l. (codes "table " ++ t.name ++ l) ++ rest) all
    ∙ ap (λ l. (codes "table " ++ l) ++ rest) (sym (grouped t.name (blanks (ws ++ us)) (10 ∷ [])))
    ∙ grouped (line_of t) (10 ∷ []) rest

-- ---- what the words are read as

kind-read : (k : ColumnKind) → kind_of (kind_text k) ≡ Some k
kind-read kind.Int = refl
kind-read kind.Str = refl
kind-read kind.Bool = refl
kind-read kind.OptInt = refl
kind-read kind.OptStr = refl
kind-read kind.OptBool = refl

kind-lacks : (k : ColumnKind) → Lacks 58 (kind_text k) × Lacks 32 (kind_text k) × Lacks 10 (kind_text k)
kind-lacks kind.Int = (refl, refl, refl)
kind-lacks kind.Str = (refl, refl, refl)
kind-lacks kind.Bool = (refl, refl, refl)
kind-lacks kind.OptInt = (refl, refl, refl)
kind-lacks kind.OptStr = (refl, refl, refl)
kind-lacks kind.OptBool = (refl, refl, refl)

column-read : (c : List ℕ × ColumnKind) → IsColumn c → column_of (column_word c) ≡ Some c
column-read c h =
    ap column_of_parts (piece-ends 58 c.0 (kind_text c.1) h.no_colon ∙ ap (λ l. c.0 ∷ l) (one-piece 58 (kind_text c.1) (kind-lacks c.1).0))
    ∙ ap (option_map {U = List ℕ × ColumnKind} (λ k. (c.0, k))) (kind-read c.1)

-- a word that begins no key
plain-read : (line : Line) (word : List ℕ) → bytes_eq word (codes "primary") ≡ false → bytes_eq word (codes "unique") ≡ false → read_word line word ≡ read_name line.shape line.key word
plain-read line word p u =
    ap (λ b. if b then Some (begun true line) else if bytes_eq word (codes "unique") then Some (begun line.shape.primary line) else read_name line.shape line.key word) p
    ∙ ap (λ b. if b then Some (begun line.shape.primary line) else read_name line.shape line.key word) u

columns-read : (shape : TableShape) (columns : Columns) (ws : List (List ℕ)) → All IsColumn columns
    → read_words (record { shape = shape; key = None }) (map column_word columns ++ ws) ≡ read_words (record { shape = record shape { columns = shape.columns ++ columns }; key = None }) ws
columns-read shape [] ws h = ap (λ (cs : Columns). read_words (record { shape = record shape { columns = cs }; key = None }) ws) (sym (append-nil shape.columns))
columns-read shape (c ∷ columns) ws h =
    let line : Line = record { shape = shape; key = None } in
    let word = column_word c in
    let rest = map column_word columns ++ ws in
    ap (option_and_then (λ next. read_words next rest))
    (plain-read line word (with-colon c.0 (kind_text c.1) (codes "primary") refl) (with-colon c.0 (kind_text c.1) (codes "unique") refl)
    ∙ ap (option_map (with_column shape)) (column-read c (All-head IsColumn c columns h)))
    ∙ columns-read (record shape { columns = shape.columns ++ c ∷ [] }) columns ws (All-tail IsColumn c columns h)
    ∙ ap (λ (cs : Columns). read_words (record { shape = record shape { columns = cs }; key = None }) ws) (snoc shape.columns c columns)

names-read : (shape : TableShape) (done key : List ℕ) (ws : List (List ℕ)) → All (IsKeyColumn shape.columns) key
    → read_words (record { shape = shape; key = Some done }) (map (name_at shape.columns) key ++ ws) ≡ read_words (record { shape = shape; key = Some (done ++ key) }) ws
names-read shape done [] ws h = ap (λ (k : List ℕ). read_words (record { shape = shape; key = Some k }) ws) (sym (append-nil done))
names-read shape done (c ∷ key) ws h =
    let line : Line = record { shape = shape; key = Some done } in
    let word = name_at shape.columns c in
    let rest = map (name_at shape.columns) key ++ ws in
    let is = All-head (IsKeyColumn shape.columns) c key h in
    ap (option_and_then (λ next. read_words next rest))
    (plain-read line word (differ word (codes "primary") is.no_primary) (differ word (codes "unique") is.no_unique)
    ∙ ap (option_map (with_place shape done)) is.found)
    ∙ names-read shape (done ++ c ∷ []) key ws (All-tail (IsKeyColumn shape.columns) c key h)
    ∙ ap (λ (k : List ℕ). read_words (record { shape = shape; key = Some k }) ws) (snoc done c key)

uniques-read : (shape : TableShape) (done : List ℕ) (keys : List (List ℕ)) → All (All (IsKeyColumn shape.columns)) keys
    → read_words (record { shape = shape; key = Some done }) (unique_words shape.columns keys) ≡ Some (record shape { keys = shape.keys ++ done ∷ keys })
uniques-read shape done [] h = refl
uniques-read shape done (key ∷ keys) h =
    let after : TableShape = record shape { keys = shape.keys ++ done ∷ [] } in
    names-read after [] key (unique_words shape.columns keys) (All-head (All (IsKeyColumn shape.columns)) key keys h)
    ∙ uniques-read after key keys (All-tail (All (IsKeyColumn shape.columns)) key keys h)
    ∙ ap (λ (ks : List (List ℕ)). Some (record shape { keys = ks })) (snoc shape.keys done (key ∷ keys))

keys-read : (name : List ℕ) (columns : Columns) (primary : Bool) (keys : List (List ℕ)) → All (All (IsKeyColumn columns)) keys → (primary ≡ true → keys ≢ [])
    → read_words (record { shape = record { name = name; columns = columns; keys = []; primary = false }; key = None }) (key_words columns primary keys)
    ≡ Some (record { name = name; columns = columns; keys = keys; primary = primary })
keys-read name columns true [] h first = absurd (first refl refl)
keys-read name columns false [] h first = refl
keys-read name columns true (key ∷ keys) h first =
    let shape : TableShape = record { name = name; columns = columns; keys = []; primary = true } in
    names-read shape [] key (unique_words columns keys) (All-head (All (IsKeyColumn columns)) key keys h) ∙ uniques-read shape key keys (All-tail (All (IsKeyColumn columns)) key keys h)
keys-read name columns false (key ∷ keys) h first =
    let shape : TableShape = record { name = name; columns = columns; keys = []; primary = false } in
    names-read shape [] key (unique_words columns keys) (All-head (All (IsKeyColumn columns)) key keys h) ∙ uniques-read shape key keys (All-tail (All (IsKeyColumn columns)) key keys h)

table-read : (t : TableShape) → IsNamedTable t → read_table (words_of t) ≡ Some t
table-read t h =
    columns-read (record { name = t.name; columns = []; keys = []; primary = false }) t.columns (key_words t.columns t.primary t.keys) h.columns
    ∙ keys-read t.name t.columns t.primary t.keys h.keys h.primary

-- ---- that words are words

module _ (mark : ℕ) (by_word : (w : List ℕ) → IsWord w → Lacks mark w) (kinds : (k : ColumnKind) → Lacks mark (58 ∷ kind_text k)) (primary-lacks : Lacks mark (codes "primary")) (unique-lacks : Lacks mark (codes "unique")) where
  append-all : (us vs : List (List ℕ)) → All (Lacks mark) us → All (Lacks mark) vs → All (Lacks mark) (us ++ vs)
  append-all [] vs h k = k
  append-all (u ∷ us) vs h k = All-cons (Lacks mark) u (us ++ vs) (All-head (Lacks mark) u us h) (append-all us vs (All-tail (Lacks mark) u us h) k)

  columns-lack : (columns : Columns) → All IsColumn columns → All (Lacks mark) (map column_word columns)
  columns-lack [] h = All-nil (Lacks mark)
  columns-lack (c ∷ columns) h =
      All-cons (Lacks mark) (column_word c) (map column_word columns) (lacks-append mark c.0 (58 ∷ kind_text c.1) (by_word c.0 (All-head IsColumn c columns h).word) (kinds c.1)) (columns-lack columns (All-tail IsColumn c columns h))

  names-lack : (columns : Columns) (key : List ℕ) → All (IsKeyColumn columns) key → All (Lacks mark) (map (name_at columns) key)
  names-lack columns [] h = All-nil (Lacks mark)
  names-lack columns (c ∷ key) h =
      All-cons (Lacks mark) (name_at columns c) (map (name_at columns) key) (by_word (name_at columns c) (All-head (IsKeyColumn columns) c key h).word) (names-lack columns key (All-tail (IsKeyColumn columns) c key h))

  uniques-lack : (columns : Columns) (keys : List (List ℕ)) → All (All (IsKeyColumn columns)) keys → All (Lacks mark) (unique_words columns keys)
  uniques-lack columns [] h = All-nil (Lacks mark)
  uniques-lack columns (key ∷ keys) h =
      All-cons (Lacks mark) (codes "unique") (map (name_at columns) key ++ unique_words columns keys) unique-lacks
      (append-all (map (name_at columns) key) (unique_words columns keys) (names-lack columns key (All-head (All (IsKeyColumn columns)) key keys h)) (uniques-lack columns keys (All-tail (All (IsKeyColumn columns)) key keys h)))

  keys-lack : (columns : Columns) (primary : Bool) (keys : List (List ℕ)) → All (All (IsKeyColumn columns)) keys → All (Lacks mark) (key_words columns primary keys)
  keys-lack columns primary [] h = All-nil (Lacks mark)
  keys-lack columns primary (key ∷ keys) h =
      All-cons (Lacks mark) (if primary then codes "primary" else codes "unique") (map (name_at columns) key ++ unique_words columns keys) (word primary)
      (append-all (map (name_at columns) key) (unique_words columns keys) (names-lack columns key (All-head (All (IsKeyColumn columns)) key keys h)) (uniques-lack columns keys (All-tail (All (IsKeyColumn columns)) key keys h)))
    where
      word : (b : Bool) → Lacks mark (if b then codes "primary" else codes "unique")
      word true = primary-lacks
      word false = unique-lacks

  words-lack : (t : TableShape) → IsNamedTable t → All (Lacks mark) (words_of t)
  words-lack t h =
      All-cons (Lacks mark) t.name (map column_word t.columns ++ key_words t.columns t.primary t.keys) (by_word t.name h.name)
      (append-all (map column_word t.columns) (key_words t.columns t.primary t.keys) (columns-lack t.columns h.columns) (keys-lack t.columns t.primary t.keys h.keys))

-- ---- lines

line-read : (s : Schema) (t : TableShape) → IsNamedTable t → read_line s (line_of t) ≡ Some (with_table s t)
line-read s t h =
    ap (read_parts s) (words-are (codes "table") (words_of t) refl (words-lack 32 (λ w i. i.no_blank) (λ k. (kind-lacks k).1) refl refl t h))
    ∙ ap (option_map (with_table s)) (table-read t h)

line-lacks : (t : TableShape) → IsNamedTable t → Lacks 10 (line_of t)
line-lacks t h = lacks-append 10 (codes "table") (blanks (words_of t)) refl (lacks-blanks 10 (words_of t) refl (words-lack 10 (λ w i. i.no_line_end) (λ k. (kind-lacks k).2) refl refl t h))

tables-read : (s : Schema) (ts : List TableShape) (rest : List ℕ) → All IsNamedTable ts
    → read_lines s (pieces 10 (tables_text ts ++ rest)) ≡ read_lines (record s { tables = s.tables ++ ts }) (pieces 10 rest)
tables-read s [] rest h = ap (λ (ts : List TableShape). read_lines (record s { tables = ts }) (pieces 10 rest)) (sym (append-nil s.tables))
tables-read s (t ∷ ts) rest h =
    let more = tables_text ts ++ rest in
    let is = All-head IsNamedTable t ts h in
    ap (λ l. read_lines s (pieces 10 l)) (grouped (table_text t) (tables_text ts) rest ∙ table-spelled t more)
    ∙ ap (read_lines s) (piece-ends 10 (line_of t) more (line-lacks t is))
    ∙ ap (option_and_then (λ next. read_lines next (pieces 10 more))) (line-read s t is)
    ∙ tables-read (with_table s t) ts rest (All-tail IsNamedTable t ts h)
    ∙ ap (λ (us : List TableShape). read_lines (record s { tables = us }) (pieces 10 rest)) (snoc s.tables t ts)

sequences-read : (s : Schema) (names : List (List ℕ)) → All IsWord names → read_lines s (pieces 10 (sequences_text names)) ≡ Some (record s { sequences = s.sequences ++ names })
sequences-read s [] h = ap (λ (ns : List (List ℕ)). Some (record s { sequences = ns })) (sym (append-nil s.sequences))
sequences-read s (name ∷ names) h =
    let more = sequences_text names in
    let line = codes "sequence " ++ name in
    let is = All-head IsWord name names h in
    let parts : pieces 32 line ≡ codes "sequence" ∷ name ∷ [] = piece-ends 32 (codes "sequence") name refl ∙ ap (λ l. codes "sequence" ∷ l) (one-piece 32 name is.no_blank) in
    ap (λ l. read_lines s (pieces 10 l)) (grouped (codes "sequence ") (name ++ 10 ∷ []) more ∙ ap (λ l. codes "sequence " ++ l) (grouped name (10 ∷ []) more) ∙ sym (grouped (codes "sequence ") name (10 ∷ more)))
    ∙ ap (read_lines s) (piece-ends 10 line more (lacks-append 10 (codes "sequence ") name refl is.no_line_end))
    ∙ ap (option_and_then (λ next. read_lines next (pieces 10 more))) (ap (read_parts s) parts)
    ∙ sequences-read (with_sequence s name) names (All-tail IsWord name names h)
    ∙ ap (λ (ns : List (List ℕ)). Some (record s { sequences = ns })) (snoc s.sequences name names)

pub schema-read : (s : Schema) → IsNamed s → read_lines no_schema (pieces 10 (schema_text s)) ≡ Some s
schema-read s h = tables-read no_schema s.tables (sequences_text s.sequences) h.tables ∙ sequences-read (record { tables = s.tables; sequences = [] }) s.sequences h.sequences

-- ---- the answers of `read_schema`

pub found-is : (found : Option Schema) (bytes : List ℕ) (s : Schema) → found ≡ read_lines no_schema (pieces 10 bytes) → IsNamed s → bytes ≡ schema_text s → found ≡ Some s
found-is found bytes s e h is = e ∙ ap (λ b. read_lines no_schema (pieces 10 b)) is ∙ schema-read s h

-- where another text is written, no named schema has the one that was read
pub no-other : (found : Option Schema) (written : Schema) (text bytes : List ℕ) (r : Bool) (s : Schema) → found ≡ read_lines no_schema (pieces 10 bytes) → found ≡ Some written → text ≡ schema_text written
    → r ≡ bytes_eq text bytes → r ≡ false → IsNamed s → bytes ≡ schema_text s → ⊥
no-other found written text bytes r s e is t tested none h spelled =
    let one : Some written ≡ Some s = sym is ∙ found-is found bytes s e h spelled in
    let whole : written ≡ s = cc in
    let equal : bytes_eq text bytes ≡ true = (bytes_eq-Decides text bytes).1 (t ∙ ap schema_text whole ∙ sym spelled) in
    true-false (sym equal ∙ sym tested ∙ none)
