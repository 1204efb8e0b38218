-- Tables and cookies.
use Rattle.std.proofs.Common.{◌≡◌, refl, ap, ap₂, sym, ◌∙◌, subst, subst₂, ℕ, Bool, true, false, nat_eq, bytes_eq, List, [], ◌∷◌, ◌++◌, map, Option, Some, None, All}
use Rattle.std.specs.Prelude.{option_and_then, is_none, Err, ◌&&◌}
use Rattle.std.specs.List.{IsDistinct, list_all}
use Rattle.std.proofs.lemmas.List.Elements.{All-head, All-tail, All-cons, All-nil}
use Rattle.ur_base.specs.Stopping.{Says, IfRefused}
use Rattle.ur_base.specs.declared.refusal.Refusal.{Refusal}
use Rattle.ur_base.specs.declared.refusal.Stop.{Stop}
use Rattle.ur_base.specs.declared.refusal.Stop.TheVariants as stop
use Rattle.ur_syntax.specs.declared.decl.Constraint.{Constraint}
use Rattle.ur_values.specs.declared.schema.TableShape.{TableShape}
use Rattle.ur_rows.specs.declared.normal.Normal.TheVariants as normal
use Rattle.ur_rows.specs.declared.normal.NormalType.{NormalType}
use Rattle.ur_rows.specs.declared.normal.Part.{Part}
use Rattle.ur_sqltype.specs.declared.keys.SqlKey.{SqlKey}
use Rattle.ur_sqltype.specs.Lists.{all_of, repeated}
use Rattle.ur_sqltype.specs.Table.{IsTable, IsTableOf, PrimaryComesFirst, record_row, column_from, key_of}
use Rattle.ur_sqltype.proofs.Once.{none_twice}
use Rattle.ur_typed_rules.specs.Rules.{if_so, small_type}
use Rattle.ur_typed_rules.specs.Faults.{Fault, unknown, twice, mismatch, not_apart, misfit, misplaced, not_so, too_large, unkinded, told_there, as_refused, TellsType}
use Rattle.ur_typed_rules.proofs.Options.{then_some}
use Rattle.ur_check_scopes.specs.Views.{Refuses}
use Rattle.ur_typed.specs.Project.{written_key, written_keys}
use Rattle.ur_typed.specs.Declaring.{Sofar, datatype_names, full_name, has_no_option, plain_shape, keyed_shape, columns_shape, shape_with, shape_out}
use Rattle.ur_typed.proofs.Keyed.{plain_tested}
use Rattle.ur_typed.specs.DeclFaults.{form_of, type_of, BreaksTable, no_table}
use Rattle.ur_sqltype.specs.SqltableFaults.{TableBreaks}
use Rattle.ur_syntax.specs.declared.con.Con.{Con}
use Rattle.ur_check_heads.specs.declared.project.Project.{Project}
use Rattle.ur_check_heads.specs.Views.{SaysAs, Sees}
use Rattle.ur_check_heads.proofs.Seeing.{names-seen}
use Rattle.ur_check_heads.proofs.Reading.{small-is}

-- ---- shapes

none-is : {A : Type 0} (o : Option A) → o ≡ None → is_none o ≡ true
none-is o e = ap is_none e

all-once : (keys : List (List ℕ)) → All (IsDistinct nat_eq) keys → list_all (λ k. is_none (repeated nat_eq k)) keys ≡ true
all-once [] h = refl
all-once (k ∷ keys) h =
    ap₂ (λ a b. a && b) (none-is (repeated nat_eq k) (none_twice nat_eq k (All-head (IsDistinct nat_eq) k keys h))) (all-once keys (All-tail (IsDistinct nat_eq) k keys h))

so : {A : Type 0} (b : Bool) (o : Option A) → b ≡ true → if_so b o ≡ o
so b o e = ap (λ z. if_so z o) e

row-shape : (name : List ℕ) (row : List Part) (keys : List SqlKey) (shape : TableShape) → IsTableOf name row keys shape → option_and_then (columns_shape name keys) (all_of column_from row) ≡ Some shape
row-shape name row keys shape t =
    then_some (columns_shape name keys) (all_of column_from row) shape.columns (Some shape) t.columns
    (so (is_none (repeated bytes_eq (map (λ c. c.0) shape.columns))) (option_and_then (keyed_shape name keys shape.columns) (all_of (key_of shape.columns) keys)) (none-is (repeated bytes_eq (map (λ c. c.0) shape.columns)) (none_twice bytes_eq (map (λ c. c.0) shape.columns) t.distinct))
    ∙ then_some (keyed_shape name keys shape.columns) (all_of (key_of shape.columns) keys) shape.keys (Some shape) t.are_keys
    (so (list_all (λ k. is_none (repeated nat_eq k)) shape.keys) (plain_shape name keys shape.columns shape.keys) (all-once shape.keys t.once)
    ∙ so (list_all (has_no_option shape.columns) shape.keys) (Some (shape_with name keys shape.columns shape.keys))
    (plain_tested shape.columns shape.keys t.plain_keys)
    ∙ ap Some (λ i. record { name = sym t.named i; columns = shape.columns; keys = shape.keys; primary = sym t.primary i })))

pub shape-is : (name : List ℕ) (t : NormalType) (keys : List SqlKey) (shape : TableShape) → IsTable name (normal.Type t) keys shape → shape_out name keys t ≡ Some shape
shape-is name t keys shape h = then_some (λ (row : List Part). option_and_then (columns_shape name keys) (all_of column_from row)) (record_row (normal.Type t)) h.row (Some shape) h.is_record (row-shape name h.row keys shape h.table)

-- ---- keys

none-primary : (cs : List Constraint) → All (λ (j : SqlKey). j.primary ≡ false) (map (λ (c : Constraint). written_key false c.columns) cs)
none-primary [] = All-nil (λ (j : SqlKey). j.primary ≡ false)
none-primary (c ∷ cs) = All-cons (λ (j : SqlKey). j.primary ≡ false) (written_key false c.columns) (map (λ (c : Constraint). written_key false c.columns) cs) refl (none-primary cs)

pub primary-first : (primary : Option (List (List ℕ))) (cs : List Constraint) → PrimaryComesFirst (written_keys primary cs)
primary-first None [] = tt
primary-first None (c ∷ cs) = none-primary cs
primary-first (Some columns) cs = none-primary cs

pub keys-with : (primary : Option (List (List ℕ))) (cs : List Constraint) → written_keys primary cs ≡ written_keys primary [] ++ map (λ (c : Constraint). written_key false c.columns) cs
keys-with None cs = refl
keys-with (Some columns) cs = refl

-- ---- what stops

-- the same code and texts tell the same
pub said : (names : List (List ℕ)) (f : Fault) (r q : Refusal) → Says q r.code r.left r.right → TellsType names r f → TellsType names q f
said names (unknown x) r q e h = (e.0 ∙ h.0, e.1 ∙ h.1, e.2 ∙ h.2)
said names (twice x) r q e h = (e.0 ∙ h.0, e.1 ∙ h.1, e.2 ∙ h.2)
said names (mismatch x y) r q e h = (e.0 ∙ h.0, e.1 ∙ h.1, e.2 ∙ h.2)
said names (not_apart a b) r q e h = (e.0 ∙ h.0, e.1 ∙ h.1, e.2 ∙ h.2)
said names (misfit x y) r q e h = (e.0 ∙ h.0, e.1 ∙ h.1, e.2 ∙ h.2)
said names (misplaced x y) r q e h = (e.0 ∙ h.0, e.1 ∙ h.1, e.2 ∙ h.2)
said names (not_so x y) r q e h = (e.0 ∙ h.0, e.1 ∙ h.1, e.2 ∙ h.2)
said names too_large r q e h = (e.0 ∙ h.0, e.1 ∙ h.1, e.2 ∙ h.2)
said names (unkinded x y) r q e h = (e.0 ∙ h.0, e.1 ∙ h.1, e.2 ∙ h.2)
said names (told_there p) r q e h = (e.0 ∙ h.0, e.1 ∙ h.1, e.2 ∙ h.2)

pub placed-all : (A : Type 0) (s t : Stop) (P Q : Refusal → Type 0) → SaysAs s t → ((r q : Refusal) → Says q r.code r.left r.right → P r → Q q) → IfRefused {A = A} (Err s) P → IfRefused {A = Unit {0}} (Err t) Q
placed-all A (stop.Refused r) (stop.Refused q) P Q e f h = f r q e h
placed-all A (stop.Refused r) stop.Memory P Q e f h = tt
placed-all A stop.Memory (stop.Refused q) P Q e f h = absurd e
placed-all A stop.Memory stop.Memory P Q e f h = tt

-- ---- a table

pub table-breaks : (p : Project) (home : ℕ) (z : Sofar) (c : Con) (t : NormalType) (keys : List SqlKey) (primary : Option (List (List ℕ))) (cs : List Constraint) (r : Refusal) → Sees p home z → small_type 65536 (form_of z c) ≡ Some t → keys ≡ written_keys primary cs →
    TableBreaks p.world.datatype_names (normal.Type t) keys r → Refuses (datatype_names z) (BreaksTable 65536 z c primary cs) r
table-breaks p home z c t keys primary cs r s e k b = (
  as_refused r,
  no_table (subst (λ ns. TableBreaks ns (normal.Type (type_of z c)) (written_keys primary cs) r) (sym (names-seen p home z s))
      (subst₂ (λ u ks. TableBreaks p.world.datatype_names (normal.Type u) ks r) (small-is (form_of z c) t e) k b)),
  (refl, refl, refl),
)

pub table-shape : (z : Sofar) (x full : List ℕ) (keys : List SqlKey) (c : Con) (t : NormalType) (shape : TableShape) → small_type 65536 (form_of z c) ≡ Some t → full ≡ full_name z x → shape_out full keys t ≡ Some shape →
    option_and_then (shape_out (full_name z x) keys) (small_type 65536 (form_of z c)) ≡ Some shape
table-shape z x full keys c t shape e k h = ap (option_and_then (shape_out (full_name z x) keys)) e ∙ ap (λ n. shape_out n keys t) (sym k) ∙ h
