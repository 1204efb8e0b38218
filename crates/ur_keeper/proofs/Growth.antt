-- What is held of a kept schema under one that extends it.
use Rattle.std.proofs.Common.{◌≡◌, ℕ, suc, ◌+◌, ◌<◌, Bool, true, List, [], ◌∷◌, ◌++◌, length, map, drop, get_or, Some}
use Rattle.std.proofs.Common.{refl, ap, ap₂, sym, subst, ◌∙◌, arith}
use Rattle.std.specs.List.{AllZip}
use Rattle.std.specs.Cmp.Lexicographic.{pointwise}
use Rattle.std.specs.Str.{bytes_eq}
use Rattle.std.proofs.lemmas.Bool.{and_parts}
use Rattle.std.proofs.lemmas.List.{drop_more, get_or-map}
use Rattle.ur_values.specs.declared.schema.TableShape.{TableShape}
use Rattle.ur_values.specs.declared.schema.Schema.{Schema}
use Rattle.ur_values.specs.declared.schema.Numbered.{Numbered}
use Rattle.ur_values.specs.Extends.{table_extends, extends}
use Rattle.ur_keeper.specs.declared.sequence.Sequence.{Sequence}
use Rattle.ur_keeper.specs.Sequences.{rolled_back_sequence}
use Rattle.ur_keeper.specs.Tables.{Tables, AreRowsOf, AreTablesOf, AreSound}
use Rattle.ur_keeper.specs.Versions.{Rows, Both, settled}
use Rattle.ur_keeper.specs.Growing.{grown_rows, grown_all, grown_tables}
use Rattle.ur_keeper.specs.Memory.{IsKeeping}
use Rattle.ur_keeper.proofs.Edits.{held, map-after, both_of, tables_of}
use Rattle.ur_keeper.proofs.Grown.{grown-sound}

-- ---- table by table

snoc : (out : List Rows) (x : Rows) (rest : List Rows) → out ++ x ∷ rest ≡ (out ++ x ∷ []) ++ rest
snoc [] x rest = refl
snoc (y ∷ out) x rest = ap (λ (r : List Rows). y ∷ r) (snoc out x rest)

pub grown-more : (ss ks : List TableShape) (ts : List (List Numbered)) (all longer whole : List Rows) (i : ℕ) (s k : TableShape) (rows : List Numbered)
    → i < length ss → i < length ks → i < length ts → s ≡ get_or ss i s → k ≡ get_or ks i k → rows ≡ get_or ts i rows
    → all ++ map settled (grown_all (drop i ss) (drop i ks) (drop i ts)) ≡ whole → longer ≡ all ++ settled (grown_rows s.columns k.columns rows) ∷ []
    → longer ++ map settled (grown_all (drop (i + 1) ss) (drop (i + 1) ks) (drop (i + 1) ts)) ≡ whole
grown-more ss ks ts all longer whole i s k rows ls lk lt is ik it so pushed =
    let shapes : drop i ss ≡ s ∷ drop (i + 1) ss = drop_more ss i s ls ∙ ap (λ (x : TableShape). x ∷ drop (i + 1) ss) (sym is) in
    let kept : drop i ks ≡ k ∷ drop (i + 1) ks = drop_more ks i k lk ∙ ap (λ (x : TableShape). x ∷ drop (i + 1) ks) (sym ik) in
    let tables : drop i ts ≡ rows ∷ drop (i + 1) ts = drop_more ts i rows lt ∙ ap (λ (x : List Numbered). x ∷ drop (i + 1) ts) (sym it) in
    let rest = map settled (grown_all (drop (i + 1) ss) (drop (i + 1) ks) (drop (i + 1) ts)) in
    ap (λ (out : List Rows). out ++ rest) pushed
    ∙ sym (snoc all (settled (grown_rows s.columns k.columns rows)) rest)
    ∙ (λ j. all ++ map settled (grown_all (sym shapes j) (sym kept j) (sym tables j)))
    ∙ so

map-long : (xs : List Rows) → length (map (λ (t : Rows). t.saved) xs) ≡ length xs
map-long [] = refl
map-long (x ∷ xs) = ap suc (map-long xs)

-- the same, of tables as they are held
pub tables-more : (ss ks : List TableShape) (tables all longer whole : List Rows) (i : ℕ) (s k : TableShape) (x : Rows) (rows : List Numbered)
    → i < length ss → length ss ≡ length ks → length ks ≡ length tables
    → s ≡ get_or ss i s → k ≡ get_or ks i k → x ≡ get_or tables i x → rows ≡ x.saved
    → all ++ map settled (grown_all (drop i ss) (drop i ks) (drop i (map (λ (t : Rows). t.saved) tables))) ≡ whole
    → longer ≡ all ++ settled (grown_rows s.columns k.columns rows) ∷ []
    → longer ++ map settled (grown_all (drop (i + 1) ss) (drop (i + 1) ks) (drop (i + 1) (map (λ (t : Rows). t.saved) tables))) ≡ whole
tables-more ss ks tables all longer whole i s k x rows ls lk lt is ik it r so pushed =
    let ts = map (λ (t : Rows). t.saved) tables in
    let within : i < length tables = omega (arith, ls, lk, lt) in
    let there : i < length ts = (let long = map-long tables in omega (arith, within, long)) in
    let at : rows ≡ get_or ts i rows = r ∙ ap (λ (t : Rows). t.saved) it ∙ sym (get_or-map (λ (t : Rows). t.saved) tables i x rows within) in
    grown-more ss ks ts all longer whole i s k rows ls (omega (arith, ls, lk)) there is ik at so pushed

-- ---- all of them

saved-settled : (xs : List (List Numbered)) → map (λ (t : Rows). t.saved) (map settled xs) ≡ xs
saved-settled [] = refl
saved-settled (x ∷ xs) = ap (λ (r : List (List Numbered)). x ∷ r) (saved-settled xs)

current-settled : (xs : List (List Numbered)) → map (λ (t : Rows). t.current) (map settled xs) ≡ xs
current-settled [] = refl
current-settled (x ∷ xs) = ap (λ (r : List (List Numbered)). x ∷ r) (current-settled xs)

pub held-grown : (schema kept : Schema) (old : Both) (tables after : List Rows) (sequences after' : List Sequence) → held tables sequences ≡ old
    → after ≡ map settled (grown_all schema.tables kept.tables (map (λ t. t.saved) tables)) → after' ≡ map rolled_back_sequence sequences
    → held after after' ≡ both_of (grown_tables schema kept old.saved) (grown_tables schema kept old.saved)
held-grown schema kept old tables after sequences after' v t q =
    let all = grown_all schema.tables kept.tables (map (λ (t : Rows). t.saved) tables) in
    let saved = ap₂ tables_of (saved-settled all) (map-after (λ (s : Sequence). s.saved) rolled_back_sequence sequences) in
    let current = ap₂ tables_of (current-settled all) (map-after (λ (s : Sequence). s.current) rolled_back_sequence sequences) in
    ap₂ held t q ∙ ap₂ both_of saved current ∙ ap (λ (o : Both). both_of (grown_tables schema kept o.saved) (grown_tables schema kept o.saved)) v

-- ---- what holds of it

as-many : (ss ks : List TableShape) → pointwise table_extends ss ks ≡ true → length ss ≡ length ks
as-many [] [] e = refl
as-many [] (k ∷ ks) e = cc
as-many (s ∷ ss) [] e = cc
as-many (s ∷ ss) (k ∷ ks) e = ap suc (as-many ss ks (and_parts (table_extends s k) (pointwise table_extends ss ks) e).1)

pub as-many-tables : (schema kept : Schema) → extends schema kept ≡ true → length schema.tables ≡ length kept.tables
as-many-tables schema kept e =
    as-many schema.tables kept.tables (and_parts (pointwise table_extends schema.tables kept.tables) (pointwise bytes_eq schema.sequences kept.sequences) e).0

zip-long : (R : TableShape → List Numbered → Type 0) (xs : List TableShape) (ys : List (List Numbered)) → AllZip R xs ys → length xs ≡ length ys
zip-long R [] [] z = refl
zip-long R [] (y ∷ ys) z = absurd z
zip-long R (x ∷ xs) [] z = absurd z
zip-long R (x ∷ xs) (y ∷ ys) z = ap suc (zip-long R xs ys (z.1))

pub as-many-held : (kept : Schema) (t : Tables) → AreTablesOf kept t → length kept.tables ≡ length t.tables
as-many-held kept t a = zip-long AreRowsOf kept.tables t.tables a.tables

keeps-here : (schema kept : Schema) (under_way : Bool) (t : Tables) → extends schema kept ≡ true → AreSound kept t
    → IsKeeping (Some schema) under_way (both_of (grown_tables schema kept t) (grown_tables schema kept t))
keeps-here schema kept under_way t e a =
    let sound = grown-sound schema kept t e a in
    record { saved = sound.fits; current = sound.fits; commits = sound.commits; at_rest = λ _. refl }

pub keeps-grown : (schema kept copy : Schema) (under_way : Bool) (t : Tables) (grown : Both)
    → extends schema kept ≡ true → AreSound kept t → copy ≡ schema
    → grown ≡ both_of (grown_tables schema kept t) (grown_tables schema kept t) → IsKeeping (Some copy) under_way grown
keeps-grown schema kept copy under_way t grown e a c g =
    subst (λ (s : Schema). IsKeeping (Some s) under_way grown) (sym c)
    (subst (λ (h : Both). IsKeeping (Some schema) under_way h) (sym g) (keeps-here schema kept under_way t e a))
