-- What fits a schema fits one with more tables behind.
use Rattle.std.proofs.Common.{◌≡◌, ◌∙◌, sym, ap, Option, Some, None, List, [], ◌++◌, ℕ, map}
use Rattle.std.specs.Prelude.{IfSome, slice_get}
use Rattle.std.proofs.lemmas.List.{append-nil, append_assoc, map-append}
use Rattle.std.proofs.lemmas.List.Elements.{All-weaker}
use Rattle.ur_values.specs.declared.schema.ColumnKind.{ColumnKind}
use Rattle.ur_values.specs.declared.schema.Schema.{Schema}
use Rattle.ur_values.specs.Store.{kinds_of}
use Rattle.ur_sql.specs.declared.query.Query.{Query}
use Rattle.ur_sql.specs.declared.query.Item.{Item}
use Rattle.ur_sql.specs.declared.change.Change.{Change}
use Rattle.ur_sql.specs.Typing.{QueryFits, ChangeFits}
use Rattle.ur_typed.specs.Rules.{Sites}
use Rattle.ur_typed.proofs.Shapes.{front_get}
use Rattle.ur_typed_laws.specs.Fitting.{Begins, QueryFitsMore, ChangeFitsMore, SitesFit}

-- ---- more tables

pub begins_self : (t : Schema) → Begins t t
begins_self t = record { more = []; are = sym (append-nil t.tables) }

pub begins_then : {a b c : Schema} → Begins a b → Begins b c → Begins a c
begins_then {a = a} h k = record { more = h.more ++ k.more; are = k.are ∙ ap (λ z. z ++ k.more) h.are ∙ append_assoc a.tables h.more k.more }

-- tables that are the same
pub begins_same : (a b : Schema) → b.tables ≡ a.tables → Begins a b
begins_same a b h = record { more = []; are = h ∙ sym (append-nil a.tables) }

kinds_more : (t u : Schema) → Begins t u → (n : ℕ) (k : List ColumnKind) → slice_get (map kinds_of t.tables) n ≡ Some k → slice_get (map kinds_of u.tables) n ≡ Some k
kinds_more t u b n k h = ap (λ z. slice_get (map kinds_of z) n) b.are ∙ ap (λ z. slice_get z n) (map-append kinds_of t.tables b.more) ∙ front_get (map kinds_of t.tables) (map kinds_of b.more) n k h

-- ---- what fits

pub query_more : QueryFitsMore
query_more t u q b h = record {
  tables = All-weaker (λ (i : Item). slice_get (map kinds_of t.tables) i.table ≡ Some i.columns) (λ i. slice_get (map kinds_of u.tables) i.table ≡ Some i.columns) (λ i k. kinds_more t u b i.table i.columns k) q.«from» h.tables;
  typed = h.typed;
}

pub change_more : ChangeFitsMore
change_more t u c b h = record { table = kinds_more t u b c.table c.columns h.table; action = h.action }

query_there : {t u : Schema} → Begins t u → (q : Option Query) → IfSome q (QueryFits t) → IfSome q (QueryFits u)
query_there b None h = tt
query_there {t = t} {u = u} b (Some q) h = query_more t u q b h

change_there : {t u : Schema} → Begins t u → (c : Option Change) → IfSome c (ChangeFits t) → IfSome c (ChangeFits u)
change_there b None h = tt
change_there {t = t} {u = u} b (Some c) h = change_more t u c b h

pub sites_more : {t u : Schema} {st : Sites} → Begins t u → SitesFit t st → SitesFit u st
sites_more {t = t} {u = u} {st = st} b h = record {
  queries = All-weaker (λ q. IfSome q (QueryFits t)) (λ q. IfSome q (QueryFits u)) (query_there b) st.queries h.queries;
  changes = All-weaker (λ c. IfSome c (ChangeFits t)) (λ c. IfSome c (ChangeFits u)) (change_there b) st.changes h.changes;
}
