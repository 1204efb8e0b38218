-- Scans of the tables of items, one after the other.
use Rattle.std.proofs.Common.{◌≡◌, length, List, [], ◌∷◌, ◌++◌, map, All, Option, Some, None, refl, sym, ap, subst, ◌∙◌}
use Rattle.std.specs.List.{AllZip}
use Rattle.std.proofs.lemmas.List.{append-nil, append_assoc}
use Rattle.std.proofs.lemmas.List.Elements.{All-head, All-tail}
use Rattle.ur_base.specs.Told.{WhereTold}
use Rattle.ur_values.specs.declared.schema.Numbered.{Numbered}
use Rattle.ur_keeper.specs.Keeper.{HasTable, OfShape}
use Rattle.ur_keeper.specs.Tables.{Tables, KeptSchema, AreRowsOf, table_at}
use Rattle.ur_sql.specs.declared.query.Item.{Item}

abbrev pub Form : KeptSchema → Item → List Numbered → Type 0
Form kept item rows = OfShape kept item.table (λ shape. AreRowsOf shape rows)

-- some of the tables are scanned, and these items are left
pub record Scanned (kept : KeptSchema) (current : Option Tables) (items left : List Item) (tables : List (List Numbered)) : Type 0 where
  pub rows : WhereTold current (λ t. tables ++ map (λ item. table_at t item.table) left ≡ map (λ item. table_at t item.table) items)
  pub forms : (more : List (List Numbered)) → AllZip (Form kept) left more → AllZip (Form kept) items (tables ++ more)
  pub there : All (λ item. HasTable kept item.table) left

pub scanned_none : (kept : KeptSchema) (current : Option Tables) (items : List Item) (tables : List (List Numbered)) → tables ≡ [] → All (λ item. HasTable kept item.table) items → Scanned kept current items items tables
scanned_none kept current items tables e there = subst (Scanned kept current items items) (sym e) (record { rows = go current; forms = λ more h. h; there = there })
  where
    go : (o : Option Tables) → WhereTold o (λ t. map (λ item. table_at t item.table) items ≡ map (λ item. table_at t item.table) items)
    go None = tt
    go (Some t) = refl

pub scanned_one : (kept : KeptSchema) (current : Option Tables) (items : List Item) (item : Item) (left : List Item) (tables : List (List Numbered)) → Scanned kept current items (item ∷ left) tables → HasTable kept item.table
scanned_one kept current items item left tables h = All-head (λ (i : Item). HasTable kept i.table) item left h.there

pub scanned_more : (kept : KeptSchema) (current : Option Tables) (items : List Item) (item : Item) (left : List Item) (tables : List (List Numbered)) (rows : List Numbered) (tables' : List (List Numbered))
    → Scanned kept current items (item ∷ left) tables → WhereTold current (λ t. rows ≡ table_at t item.table) → Form kept item rows → tables' ≡ tables ++ rows ∷ [] → Scanned kept current items left tables'
scanned_more kept current items item left tables rows tables' h told form e = subst (Scanned kept current items left) (sym e) (record {
  rows = go current h.rows told;
  forms = λ more f. subst (AllZip (Form kept) items) (sym (append_assoc tables (rows ∷ []) more)) (h.forms (rows ∷ more) (form, f));
  there = All-tail (λ (i : Item). HasTable kept i.table) item left h.there;
})
  where
    go : (o : Option Tables) → WhereTold o (λ t. tables ++ map (λ item. table_at t item.table) (item ∷ left) ≡ map (λ item. table_at t item.table) items) → WhereTold o (λ t. rows ≡ table_at t item.table)
        → WhereTold o (λ t. tables ++ rows ∷ [] ++ map (λ item. table_at t item.table) left ≡ map (λ item. table_at t item.table) items)
    go None a b = tt
    go (Some t) a b =
        append_assoc tables (rows ∷ []) (map (λ (i : Item). table_at t i.table) left)
        ∙ ap (λ r. tables ++ r ∷ map (λ (i : Item). table_at t i.table) left) b ∙ a

pub scanned_forms : (kept : KeptSchema) (current : Option Tables) (items left : List Item) (tables : List (List Numbered)) → length left ≡ 0 → Scanned kept current items left tables → AllZip (Form kept) items tables
scanned_forms kept current items [] tables e h = subst (AllZip (Form kept) items) (append-nil tables) (h.forms [] tt)
scanned_forms kept current items (item ∷ left) tables e h = cc

-- the first of the items that are left is scanned
pub scanned_step : (kept kept₁ : KeptSchema) (current current₁ : Option Tables) (items : List Item) (item : Item) (rest left : List Item) (tables : List (List Numbered)) (rows : List Numbered) (tables' : List (List Numbered))
    → kept₁ ≡ kept → current₁ ≡ current → left ≡ item ∷ rest → Scanned kept current items left tables → WhereTold current₁ (λ t. rows ≡ table_at t item.table) → Form kept₁ item rows → tables' ≡ tables ++ rows ∷ []
    → Scanned kept current items rest tables'
scanned_step kept kept₁ current current₁ items item rest left tables rows tables' a b e h told form f =
    scanned_more kept current items item rest tables rows tables' (subst (λ l. Scanned kept current items l tables) e h) (subst (λ o. WhereTold o (λ t. rows ≡ table_at t item.table)) b told) (subst (λ k. Form k item rows) a form) f
