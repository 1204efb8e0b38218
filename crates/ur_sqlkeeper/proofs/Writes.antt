-- What the statements that write make of the rows.
use Rattle.std.proofs.Common.{◌≡◌, ◌⊎◌, inl, inr, ℕ, ℤ, suc, Bool, true, false, not, cond, ◌&&◌, List, [], ◌∷◌, map, filter, length, Option, Some, None, Ok, Err, Result, OnOk, T, refl, sym, ap, subst, ◌∙◌, unwrap_or, arith}
use Rattle.std.proofs.lemmas.List.{length-map}
use Rattle.std.specs.declared.cmp.Ordering.{Ordering}
use Rattle.std.specs.declared.cmp.Ordering.TheVariants.{Less, Equal, Greater}
use Rattle.std.specs.Ordering.{int_cmp, eq_by_cmp, is_eq}
use Rattle.std.specs.Cmp.{int_cmp_total, eq_by_cmp_equiv}
use Rattle.std.specs.FinMap.{find, put, is_sorted, insert, remove, int_cmp-IsAntisymmetric}
use Rattle.std.specs.FinMap.Entries.{where_key, is_sorted-put, is_sorted-where_key, find-where_key}
use Rattle.std.specs.List.Sorted.{IsPermutation}
use Rattle.std.proofs.lemmas.List.Sorted.{length_permutation}
use Rattle.sqlite.specs.declared.types.Value.{Value}
use Rattle.sqlite.specs.declared.types.Value.TheVariants.{Null, Int, Blob}
use Rattle.sqlite.specs.Order.{Row}
use Rattle.sqlite.specs.Ops.{unary}
use Rattle.sqlite.specs.Kind.TheVariants.{Integer}
use Rattle.sqlite.specs.Schema.{Schema}
use Rattle.sqlite.specs.Command.TheVariants.{Insert, Update, Delete, CreateTable}
use Rattle.sqlite.specs.Source.TheVariants.{Values}
use Rattle.sqlite.specs.Edit.{Edit, edit_of, with_rowid, edited, numbered, left_by, is_taken, are_fresh, next_rowid, put_all}
use Rattle.sqlite.specs.Cast.{cast}
use Rattle.sqlite.specs.Rowids.{Rowids}
use Rattle.sqlite.specs.Rowids.TheVariants.{Chosen, Given}
use Rattle.sqlite.specs.Tree.{Trees, put_row, without_rowid}
use Rattle.sqlite.specs.Change.{created, next_tree}
use Rattle.sqlite.specs.Compile.{table_defined_by}
use Rattle.sqlite.specs.Table.{Table}
use Rattle.sqlite_rules.specs.Calls.{ids_of}
use Rattle.sqlite.specs.declared.error.Error.{Error}
use Rattle.sqlite.specs.declared.run.Mode.{Mode}
use Rattle.sqlite.specs.Listing.{understood}
use Rattle.sqlite.specs.Effect.{Database}
use Rattle.sqlite.specs.Rows.{Written, Task}
use Rattle.sqlite.specs.Does.{Tally, Does, Concludes, lacks_sequence}
use Rattle.sqlite.specs.State.{State, mode_of, Writes, Executes}
use Rattle.sqlite.proofs.Callers.{command_of, statement_of, runs_as, one_step, one_permutation}
use Rattle.ur_keeper_bodies.specs.Bodies.{Place, BodyMap, place_cmp}
use Rattle.ur_keeper_bodies.proofs.Places.{place_same}
use Rattle.ur_sqlkeeper.specs.Table.{ur_row, ur_schema, no_schema, create_text, add_text, put_text, drop_text}
use Rattle.ur_sqlkeeper.specs.Rows.{Body, Kept, stored, kept_in, map_in, is_at, AreKept}
use Rattle.ur_sqlkeeper.specs.Serving.{IsOurs}
use Rattle.ur_sqlkeeper.proofs.Texts.{in_place, put_shown, drop_shown, put_query, drop_query, add_terms, create_is, add_is, put_is, drop_is, create_text_is, create_plain, add_plain, put_plain, drop_plain}
use Rattle.ur_sqlkeeper.proofs.Entries.{read-back, row-put, row-gone, not-taken, left, Agree, one-agrees, told, told-put, told-left, told-changed, at}
use Rattle.ur_sqlkeeper.proofs.Queries.{answered, of-place, kept-again}

either : (b : Bool) (x : Value) → cond b x x ≡ x
either true x = refl
either false x = refl

cast-null : cast Integer Null ≡ Null
unfolding unary
cast-null = either _ Null

cast-int : (n : ℤ) → cast Integer (Int n) ≡ Int n
unfolding unary
cast-int n = either _ (Int n)

-- a part that gave a value did not stop on the way
went : {B E R : Type 0} {b : B} {Stops : E → Type 0} → ((stop : E) × Stops stop × (Ok b ≡ Err stop)) ⊎ R → R
went (inl stopped) = absurd (let e = stopped.2 in cc)
went (inr on) = on

same_value : {B E : Type 0} {a b : B} → ◌≡◌ {A = Result B E} (Ok a) (Ok b) → a ≡ b
same_value e = cc

-- what the end of a statement says of what it wrote
concluded : (task : Task) (mode : Mode) (w : Written) (tally : Tally) (after : Database) → Concludes task mode None w (Ok (tally, after))
    → (tally.rows ≡ Some (length w.rows)) × (after ≡ record { schema = task.schema; trees = w.trees })
concluded task mode w tally after h =
    let is = same_value (went (went h).2).2 in (ap (λ (p : Tally × Database). p.0.rows) is, ap (λ (p : Tally × Database). p.1) is)

as-many : (how : Rowids) (rows news : List Row) → length (numbered how rows news) ≡ length news
as-many how rows [] = refl
as-many how rows (r ∷ rs) = ap suc (as-many how (put_row (with_rowid how rows r) rows) rs)

one-alone : {A : Type 0} (xs : List A) → 1 ≡ length xs → (x : A) × (xs ≡ x ∷ [])
one-alone [] e = absurd (omega (arith, e))
one-alone (x ∷ []) e = (x, refl)
one-alone (x ∷ y ∷ more) e = absurd (omega (arith, e))

passes : {A : Type 0} (test : A → Bool) (xs : List A) (x : A) → filter test xs ≡ x ∷ [] → test x ≡ true
passes test [] x e = absurd (no_more e)
  where
    no_more : {A : Type 0} {a : A} → [] ≡ a ∷ [] → ⊥
    no_more e = cc
passes {A} test (y ∷ ys) x e = elim (test y) as (λ b. test y ≡ b → cond b (y ∷ filter test ys) (filter test ys) ≡ x ∷ [] → test x ≡ true) [
  | true ↦ λ p s. subst (λ (z : A). test z ≡ true) (head s) p
  | false ↦ λ _ s. passes test ys x s
] refl e
  where
    head : {A : Type 0} {a b : A} {xs ys : List A} → a ∷ xs ≡ b ∷ ys → a ≡ b
    head e = cc

here : (p : Place) (k : Kept) → is_at p k ≡ true → p ≡ k.1.0
here p k e = place_same p k.1.0 (equal _ e)
  where
    equal : (r : Ordering) → is_eq r ≡ true → r ≡ Equal
    equal Less h = absurd (subst T (sym h) tt)
    equal Equal h = refl
    equal Greater h = absurd (subst T (sym h) tt)

gone-none : (id : ℤ) (ks : List Kept) → find int_cmp id (left id ks) ≡ None
gone-none id ks =
    find-where_key int_cmp (λ n. not (eq_by_cmp int_cmp id n)) id (λ x e. ap (λ (n : ℤ). not (eq_by_cmp int_cmp id n)) (sym (int_cmp-IsAntisymmetric id x e))) ks
    ∙ ap (λ b. cond (not b) (find int_cmp id ks) None) ((eq_by_cmp_equiv int_cmp_total).refl id)

left-sorted : (id : ℤ) (ks : List Kept) → T (is_sorted int_cmp ks) → T (is_sorted int_cmp (left id ks))
left-sorted id ks h = is_sorted-where_key int_cmp (λ n. not (eq_by_cmp int_cmp id n)) ks h

-- rows that are these, after ones that were those
made : (db : Database) (ks : List Kept) → db.schema ≡ ur_schema → db.trees 0 ≡ map stored ks → T (is_sorted int_cmp ks) → IsOurs db
made db ks schema rows rise = record { schema = schema; rows = record { kept = ks; are = rows; rise = rise } }

pub tells : (rows : List Row) (ks : List Kept) → rows ≡ map stored ks → map_in rows ≡ told ks
tells rows ks is = ap (λ (xs : List Kept). told xs) (ap (map kept_in) is ∙ read-back ks)

-- the edit of a body, where its row is the only one
put-edited : (db : Trees) (id a b : ℤ) (body : List ℕ) → edited db (edit_of db ur_row (ids_of ((Int id ∷ stored (id, ((a, b), body))) ∷ [])) Given 1 ((Int id ∷ stored (id, ((a, b), body))) ∷ []))
    ≡ put_row (stored (id, ((a, b), body))) (without_rowid id (db 0))
put-edited db id a b body = rw (cast-int id, cast-int a, cast-int b)

-- ---- the statements

module _ (old new : State) (tab num : ℤ) (body : List ℕ) (ours : IsOurs old.now) where
  abbrev full : Row
  full = Int tab ∷ Int num ∷ Blob body ∷ []

  abbrev ks : List Kept
  ks = ours.rows.kept

  pub adds : (count : ℕ) → at (tab, num) ks ≡ None → Executes add_text full old new (Ok count) → IsOurs new.now × (map_in (new.now.trees 0) ≡ insert (map_in (old.now.trees 0)) (tab, num) body)
  adds count none h =
      let db = old.now.trees in
      let command = Insert 0 (Values add_terms 4) in
      let w = runs_as add_text full old new ur_schema ours.schema command add_is add_plain count h in
      let text = statement_of add_text (understood ur_schema add_text) in
      let done = went (subst (λ (s : Schema). Does old.step_limit (mode_of old) full (record old.now { schema = s }) text None command (Ok (w.tally, new.now))) ours.schema w.changed) in
      let task : Task = record { limit = old.step_limit; keys = (mode_of old).keys; schema = ur_schema; table = ur_row; params = full } in
      let end = concluded task (mode_of old) done.0 w.tally new.now done.2 in
      let given = went done.1 in
      let written = went (went given.2).2 in
      let counted = went written.2 in
      let trees : done.0.trees ≡ written.0 = ap (λ (it : Written). it.trees) (same_value counted.2) ∙ same_value counted.1 in
      let edit = edit_of db ur_row [] Chosen 0 given.0 in
      let applies = one_step ur_schema _ db written.0 edit refl written.1 in
      let id = next_rowid (db 0) in
      let news : edit.news ≡ stored (id, ((tab, num), body)) ∷ [] = ap (λ (all : List Row). (edit_of db ur_row [] Chosen 0 all).news) given.1.1 ∙ rw (cast-null, cast-int tab, cast-int num) in
      let free : is_taken (map stored ks) (stored (id, ((tab, num), body))) ≡ false =
      subst (λ (rows : List Row). is_taken rows (stored (id, ((tab, num), body))) ≡ false) ours.rows.are (not-there _ (subst (λ (rows : List Row). are_fresh (db 0) rows ≡ true) news applies.fresh)) in
      let fresh = not-taken id ((tab, num), body) ks free in
      let rows : new.now.trees 0 ≡ map stored (put int_cmp id ((tab, num), body) ks) =
      ap (λ (d : Database). d.trees 0) end.1 ∙ ap (λ (t : Trees). t 0) trees ∙ applies.rows
      ∙ ap (λ (all : List Row). put_all (db 0) all) news
      ∙ ap (put_row (stored (id, ((tab, num), body)))) ours.rows.are ∙ row-put id ((tab, num), body) ks in (
        made new.now _ (ap (λ (d : Database). d.schema) end.1) rows (is_sorted-put int_cmp int_cmp_total id ((tab, num), body) ks ours.rows.rise),
        tells _ _ rows ∙ told-put id (tab, num) body ks fresh none ∙ ap (λ (m : BodyMap). insert m (tab, num) body) (sym (tells _ _ ours.rows.are)),
      )
    where
      not-there : (b : Bool) → (not b && true) ≡ true → b ≡ false
      not-there true e = absurd (subst T (sym e) tt)
      not-there false e = refl

  pub puts : Executes put_text full old new (Ok 1) → IsOurs new.now × (map_in (new.now.trees 0) ≡ insert (map_in (old.now.trees 0)) (tab, num) body)
  puts h =
      let p : Place = (tab, num) in
      let db = old.now.trees in
      let command = Update 0 (record { lets = []; body = put_query }) in
      let w = runs_as put_text full old new ur_schema ours.schema command put_is put_plain 1 h in
      let text = statement_of put_text (understood ur_schema put_text) in
      let done = went (subst (λ (s : Schema). Does old.step_limit (mode_of old) full (record old.now { schema = s }) text None command (Ok (w.tally, new.now))) ours.schema w.changed) in
      let task : Task = record { limit = old.step_limit; keys = (mode_of old).keys; schema = ur_schema; table = ur_row; params = full } in
      let end = concluded task (mode_of old) done.0 w.tally new.now done.2 in
      let asked = went done.1 in
      let wrote = went asked.2 in
      let edit = edit_of db ur_row (ids_of asked.0) Given 1 asked.0 in
      let is = same_value wrote.2 in
      let applies = one_step ur_schema _ db wrote.0 edit refl wrote.1 in
      let shows = answered full in_place put_shown [] (is_at p) (of-place tab num (Blob body ∷ [])) db ks asked.0 ours.rows.are (asked.1.answer Null) in
      let many : 1 ≡ length asked.0 = w.counted ∙ ap (λ (r : Option ℕ). unwrap_or r 0) end.0 ∙ ap (λ (it : Written). length it.rows) is ∙ as-many Given _ _ ∙ length-map asked.0 _ in
      let one = one-alone (filter (is_at p) ks) (many ∙ length_permutation _ _ shows ∙ length-map (filter (is_at p) ks) _) in
      let k = one.0 in
      let same : p ≡ k.1.0 = here p k (passes (is_at p) ks k one.1) in
      let found : asked.0 ≡ (Int k.0 ∷ stored (k.0, (k.1.0, body))) ∷ [] =
      one_permutation _ asked.0 (subst (λ (xs : List Kept). IsPermutation (map (λ k. Int k.0 ∷ stored (k.0, (k.1.0, body))) xs) asked.0) one.1 shows) in
      let agrees = one-agrees p k ks ours.rows.rise one.1 in
      let rows : new.now.trees 0 ≡ map stored (put int_cmp k.0 (p, body) (left k.0 ks)) =
      ap (λ (d : Database). d.trees 0) end.1 ∙ ap (λ (it : Written). it.trees 0) is ∙ applies.rows
      ∙ ap (λ (all : List Row). edited db (edit_of db ur_row (ids_of all) Given 1 all)) found
      ∙ put-edited db k.0 k.1.0.0 k.1.0.1 body
      ∙ ap (λ (q : Place). put_row (stored (k.0, (q, body))) (without_rowid k.0 (db 0))) (sym same)
      ∙ ap (λ (all : List Row). put_row (stored (k.0, (p, body))) (without_rowid k.0 all)) ours.rows.are
      ∙ ap (put_row (stored (k.0, (p, body)))) (row-gone k.0 ks)
      ∙ row-put k.0 (p, body) (left k.0 ks) in (
        made new.now _ (ap (λ (d : Database). d.schema) end.1) rows (is_sorted-put int_cmp int_cmp_total k.0 (p, body) (left k.0 ks) (left-sorted k.0 ks ours.rows.rise)),
        tells _ _ rows ∙ told-changed k.0 p body ks agrees (gone-none k.0 ks) ∙ ap (λ (m : BodyMap). insert m p body) (sym (tells _ _ ours.rows.are)),
      )

module _ (old new : State) (tab num : ℤ) (ours : IsOurs old.now) where
  pub drops : Executes drop_text (Int tab ∷ Int num ∷ []) old new (Ok 1) → IsOurs new.now × (map_in (new.now.trees 0) ≡ remove (map_in (old.now.trees 0)) (tab, num))
  drops h =
      let p : Place = (tab, num) in
      let params = Int tab ∷ Int num ∷ [] in
      let ks = ours.rows.kept in
      let db = old.now.trees in
      let command = Delete 0 (record { lets = []; body = drop_query }) in
      let w = runs_as drop_text params old new ur_schema ours.schema command drop_is drop_plain 1 h in
      let text = statement_of drop_text (understood ur_schema drop_text) in
      let done = went (subst (λ (s : Schema). Does old.step_limit (mode_of old) params (record old.now { schema = s }) text None command (Ok (w.tally, new.now))) ours.schema w.changed) in
      let task : Task = record { limit = old.step_limit; keys = (mode_of old).keys; schema = ur_schema; table = ur_row; params = params } in
      let end = concluded task (mode_of old) done.0 w.tally new.now done.2 in
      let asked = went done.1 in
      let wrote = went asked.2 in
      let edit = edit_of db ur_row (ids_of asked.0) Given 0 [] in
      let is = same_value wrote.2 in
      let applies = one_step ur_schema _ db wrote.0 edit refl wrote.1 in
      let shows = answered params in_place drop_shown [] (is_at p) (of-place tab num []) db ks asked.0 ours.rows.are (asked.1.answer Null) in
      let many : 1 ≡ length asked.0 = w.counted ∙ ap (λ (r : Option ℕ). unwrap_or r 0) end.0 ∙ ap (λ (it : Written). length it.rows) is ∙ length-map (ids_of asked.0) _ ∙ length-map asked.0 _ in
      let one = one-alone (filter (is_at p) ks) (many ∙ length_permutation _ _ shows ∙ length-map (filter (is_at p) ks) _) in
      let k = one.0 in
      let found : asked.0 ≡ (Int k.0 ∷ []) ∷ [] = one_permutation _ asked.0 (subst (λ (xs : List Kept). IsPermutation (map (λ k. Int k.0 ∷ []) xs) asked.0) one.1 shows) in
      let agrees = one-agrees p k ks ours.rows.rise one.1 in
      let rows : new.now.trees 0 ≡ map stored (left k.0 ks) =
      ap (λ (d : Database). d.trees 0) end.1 ∙ ap (λ (it : Written). it.trees 0) is ∙ applies.rows
      ∙ ap (λ (all : List Row). edited db (edit_of db ur_row (ids_of all) Given 0 [])) found
      ∙ ap (without_rowid k.0) ours.rows.are ∙ row-gone k.0 ks in (
        made new.now _ (ap (λ (d : Database). d.schema) end.1) rows (left-sorted k.0 ks ours.rows.rise),
        tells _ _ rows ∙ told-left k.0 p ks agrees ∙ ap (λ (m : BodyMap). remove m p) (sym (tells _ _ ours.rows.are)),
      )

-- the table is made without rows
pub creates : (old new : State) (r : Result ℕ Error) → old.now.schema ≡ no_schema → Executes create_text [] old new r → OnOk r (new.now.trees 0 ≡ [])
creates old new (Err e) has h = tt
creates old new (Ok count) has h =
    let w = subst (λ (t : List ℕ). Writes old new None CreateTable t [] count) create_text_is (runs_as create_text [] old new no_schema has CreateTable create_is.0 create_plain count h) in
    let all = went w.changed in
    let first = went all.1 in
    let table = first.1 in
    let both : Ok table.table ≡ Ok ur_row = sym table.defined ∙ create_is.1 in
    let same : table.table ≡ ur_row = cc in
    let schema : first.0.schema ≡ created no_schema ur_row = table.is ∙ ap (λ (s : Schema). created s table.table) has ∙ ap (created no_schema) same in
    let plain : lacks_sequence first.0.schema ≡ false = ap lacks_sequence schema in
    let now : new.now ≡ first.0 = ap (λ (p : Tally × Database). p.1) (same_value all.2) ∙ same_value (rw plain at first.2) in
    ap (λ (d : Database). d.trees 0) now ∙ subst (λ (s : Schema). first.0.trees (next_tree s) ≡ []) has table.empty
