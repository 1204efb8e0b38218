-- The texts that a run prints. Each ends with a line's end.
use Rattle.std.specs.Prelude.{ℕ, ◌/◌, ◌%◌, ◌+◌, List, [], ◌∷◌, ◌++◌, codes, decimal}
use Rattle.ur_base.specs.declared.refusal.Refusal.{Refusal}
use Rattle.ur_values.specs.declared.schema.Schema.{Schema}
use Rattle.ur_values.specs.SchemaText.{schema_text}
use Rattle.ur_words.specs.declared.counts.LoadReport.{LoadReport}

-- a text as a line
abbrev pub line : List ℕ → List ℕ
line text = text ++ 10 ∷ []

abbrev pub usage : List ℕ
usage = line (codes "usage: urweb check P | sites P | replay P | serve P --port n | load SEED N")

-- `E`, two digits, the file, the place, and what was found and wanted
abbrev pub refusal_line : List ℕ → Refusal → List ℕ
refusal_line file r = line (codes "E" ++ (48 + r.code / 10) ∷ (48 + r.code % 10) ∷ codes " " ++ file ++ codes ":" ++ decimal r.span.from
    ++ codes "-" ++ decimal r.span.to ++ codes " " ++ r.left ++ codes " | " ++ r.right)

-- the schema that a store keeps and the application's, which differ
abbrev pub schema_report : Schema → Schema → List ℕ
schema_report kept application = line (codes "schema differs") ++ line (codes "kept:") ++ schema_text kept ++ line (codes "application:") ++ schema_text application

-- of an accepted project with so many routes
abbrev pub check_report : ℕ → List ℕ
check_report routes = line (codes "ok " ++ decimal routes ++ codes " routes")

abbrev pub serving_line : ℕ → List ℕ
serving_line port = line (codes "serving on 127.0.0.1:" ++ decimal port)

-- how many requests were run, and the scans without entries and with 64
abbrev pub load_report : LoadReport → List ℕ
load_report r = line (codes "requests " ++ decimal r.requests) ++ line (codes "capacity 0 reads " ++ decimal r.plain)
    ++ line (codes "capacity 64 reads " ++ decimal r.cached)

abbrev pub shelf_fault : List ℕ
shelf_fault = line (codes "shelf fault")

abbrev pub wire_fault : List ℕ
wire_fault = line (codes "wire fault")

abbrev pub keeper_fault : List ℕ
keeper_fault = line (codes "keeper fault")

abbrev pub memory : List ℕ
memory = line (codes "memory")
