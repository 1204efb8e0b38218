-- The core of a query is what the rules say of it.
use Rattle.std.proofs.Common.{◌≡◌, ◌∙◌, sym, ap, subst, List, ◌++◌, map, Some, None, nat_eq, bytes_eq}
use Rattle.std.specs.Prelude.{ℕ}
use Rattle.std.specs.List.{IsDistinct}
use Rattle.ur_syntax.specs.declared.sql.SqlQuery.{SqlQuery}
use Rattle.ur_syntax.specs.declared.sql.Selection.{Selection}
use Rattle.ur_syntax.specs.declared.sql.FromItem.{FromItem}
use Rattle.ur_values.specs.declared.schema.ColumnKind.{ColumnKind}
use Rattle.ur_values.specs.declared.schema.ColumnKind.TheVariants as kind
use Rattle.ur_values.specs.declared.schema.Schema.{Schema}
use Rattle.ur_sql.specs.declared.query.Query.{Query}
use Rattle.ur_sql.specs.declared.query.Field.{Field}
use Rattle.ur_sqltype.specs.declared.scope.Source.{Source}
use Rattle.ur_sqltype.specs.declared.scope.Within.{Within}
use Rattle.ur_sqltype.specs.Lists.{all_of, maybe, repeated}
use Rattle.ur_sqltype.proofs.Once.{distinct}
use Rattle.ur_sqltype.specs.Tables.{sources_of}
use Rattle.ur_sqltype.specs.Query.{of_kind, ons_of, column_in, ordered, limited, Chosen, chosen_of, named_of, alias_fields, in_order, fields_with, all_fields, once_named, fields_of, field_number, item_of, reads, begun, with_on, with_filter, with_fields, with_group, with_order, with_limit, with_offset, to_filter, to_fields, to_group, to_order, to_limit, stated, once_aliased, items_of, outside, well_grouped, query_over, query_of}
use Rattle.ur_sqltype.specs.IsQuery.{StatedIsQuery}
use Rattle.ur_sqltype.proofs.Taken.{then_taken, map_taken, none_taken}
use Rattle.ur_sqltype.proofs.Grouping.{fields_read, order_reads}

-- a query with its conditions and fields
pub record Front (names : List (List ℕ)) (w : Within) (q : SqlQuery) (c : Query) : Type 0 where
  pub on : all_of (of_kind kind.Bool w) (ons_of q.«from») ≡ Some c.on
  pub filter : maybe (of_kind kind.Bool w) q.filter ≡ Some c.filter
  pub fields : fields_of names w q.selection ≡ Some c.fields
  pub params : w.antiquotes ≡ c.params
  pub items : map item_of w.sources ≡ c.«from»

-- a query with all its parts
pub record Parts (names : List (List ℕ)) (w : Within) (q : SqlQuery) (c : Query) : Type 0 where
  pub front : Front names w q c
  pub group : all_of (column_in w) q.group ≡ Some c.group
  pub order : all_of (ordered w) q.order ≡ Some c.order
  pub limit : maybe (limited w) q.limit ≡ Some c.limit
  pub offset : maybe (limited w) q.offset ≡ Some c.offset

pub front_parts : (names : List (List ℕ)) (w : Within) (q : SqlQuery) (c : Query) → to_fields names w q ≡ Some c → Front names w q c
front_parts names w q c e =
    let f = then_taken (with_fields names w q) (to_filter w q) c e in
    let m = map_taken (λ x. record f.0 { fields = x }) (fields_of names w q.selection) c f.2 in
    let g = then_taken (with_filter w q) (with_on w q (begun w)) f.0 f.1 in
    let n = map_taken (λ x. record g.0 { filter = x }) (maybe (of_kind kind.Bool w) q.filter) f.0 g.2 in
    let k = map_taken (λ x. record (begun w) { on = x }) (all_of (of_kind kind.Bool w) (ons_of q.«from»)) g.0 g.1 in
    record {
      on = k.1 ∙ ap (λ (d : Query). Some d.on) k.2 ∙ ap (λ (d : Query). Some d.on) n.2 ∙ ap (λ (d : Query). Some d.on) m.2;
      filter = n.1 ∙ ap (λ (d : Query). Some d.filter) n.2 ∙ ap (λ (d : Query). Some d.filter) m.2;
      fields = m.1 ∙ ap (λ (d : Query). Some d.fields) m.2;
      params = ap (λ (d : Query). d.params) k.2 ∙ ap (λ (d : Query). d.params) n.2 ∙ ap (λ (d : Query). d.params) m.2;
      items = ap (λ (d : Query). d.«from») k.2 ∙ ap (λ (d : Query). d.«from») n.2 ∙ ap (λ (d : Query). d.«from») m.2;
    }

pub all_parts : (names : List (List ℕ)) (w : Within) (q : SqlQuery) (c : Query) → stated names w q ≡ Some c → Parts names w q c
all_parts names w q c e =
    let o = then_taken (with_offset w q) (to_limit names w q) c e in
    let p = map_taken (λ x. record o.0 { offset = x }) (maybe (limited w) q.offset) c o.2 in
    let l = then_taken (with_limit w q) (to_order names w q) o.0 o.1 in
    let m = map_taken (λ x. record l.0 { limit = x }) (maybe (limited w) q.limit) o.0 l.2 in
    let r = then_taken (with_order w q) (to_group names w q) l.0 l.1 in
    let s = map_taken (λ x. record r.0 { order = x }) (all_of (ordered w) q.order) l.0 r.2 in
    let g = then_taken (with_group w q) (to_fields names w q) r.0 r.1 in
    let h = map_taken (λ x. record g.0 { group = x }) (all_of (column_in w) q.group) r.0 g.2 in
    let f = front_parts names w q g.0 g.1 in
    record {
      front = record {
        on = f.on ∙ ap (λ (d : Query). Some d.on) h.2 ∙ ap (λ (d : Query). Some d.on) s.2 ∙ ap (λ (d : Query). Some d.on) m.2 ∙ ap (λ (d : Query). Some d.on) p.2;
        filter = f.filter ∙ ap (λ (d : Query). Some d.filter) h.2 ∙ ap (λ (d : Query). Some d.filter) s.2 ∙ ap (λ (d : Query). Some d.filter) m.2 ∙ ap (λ (d : Query). Some d.filter) p.2;
        fields = f.fields ∙ ap (λ (d : Query). Some d.fields) h.2 ∙ ap (λ (d : Query). Some d.fields) s.2 ∙ ap (λ (d : Query). Some d.fields) m.2 ∙ ap (λ (d : Query). Some d.fields) p.2;
        params = f.params ∙ ap (λ (d : Query). d.params) h.2 ∙ ap (λ (d : Query). d.params) s.2 ∙ ap (λ (d : Query). d.params) m.2 ∙ ap (λ (d : Query). d.params) p.2;
        items = f.items ∙ ap (λ (d : Query). d.«from») h.2 ∙ ap (λ (d : Query). d.«from») s.2 ∙ ap (λ (d : Query). d.«from») m.2 ∙ ap (λ (d : Query). d.«from») p.2;
      };
      group = h.1 ∙ ap (λ (d : Query). Some d.group) h.2 ∙ ap (λ (d : Query). Some d.group) s.2 ∙ ap (λ (d : Query). Some d.group) m.2 ∙ ap (λ (d : Query). Some d.group) p.2;
      order = s.1 ∙ ap (λ (d : Query). Some d.order) s.2 ∙ ap (λ (d : Query). Some d.order) m.2 ∙ ap (λ (d : Query). Some d.order) p.2;
      limit = m.1 ∙ ap (λ (d : Query). Some d.limit) m.2 ∙ ap (λ (d : Query). Some d.limit) p.2;
      offset = p.1 ∙ ap (λ (d : Query). Some d.offset) p.2;
    }

-- the fields of an answer, part by part
pub record FieldsTaken (names : List (List ℕ)) (w : Within) (s : Selection) (fs : List Field) : Type 0 where
  pub chosen : Chosen
  pub named : List Field
  pub columns : chosen_of w s ≡ Some chosen
  pub others : named_of names w s ≡ Some named
  pub all : fs ≡ in_order (alias_fields names chosen 0 w.sources ++ named)
  pub once : IsDistinct nat_eq (map field_number fs)

pub fields_taken : (names : List (List ℕ)) (w : Within) (s : Selection) (fs : List Field) → fields_of names w s ≡ Some fs → FieldsTaken names w s fs
fields_taken names w s fs e =
    let a = then_taken once_named (all_fields names w s) fs e in
    let t = none_taken (repeated nat_eq (map field_number a.0)) a.0 fs a.2 in
    let b = then_taken (fields_with names w s) (chosen_of w s) a.0 a.1 in
    let m = map_taken (λ named. in_order (alias_fields names b.0 0 w.sources ++ named)) (named_of names w s) a.0 b.2 in
    record {
      chosen = b.0;
      named = m.0;
      columns = b.1;
      others = m.1;
      all = sym t.1 ∙ sym m.2;
      once = distinct nat_eq (map field_number fs) (ap (λ gs. repeated nat_eq (map field_number gs)) (sym t.1) ∙ t.0);
    }

-- the items, no two of one alias
pub record Items (m : List ℕ) (tables : Schema) (items : List FromItem) (sources : List Source) : Type 0 where
  pub are : sources_of m tables items ≡ Some sources
  pub once : IsDistinct bytes_eq (map (λ s. s.alias) sources)

pub items_given : (m : List ℕ) (tables : Schema) (items : List FromItem) (sources : List Source) → items_of m tables items ≡ Some sources → Items m tables items sources
items_given m tables items sources e =
    let a = then_taken once_aliased (sources_of m tables items) sources e in
    let t = none_taken (repeated bytes_eq (map (λ s. s.alias) a.0)) a.0 sources a.2 in
    record {
      are = a.1 ∙ ap Some t.1;
      once = distinct bytes_eq (map (λ s. s.alias) sources) (ap (λ ss. repeated bytes_eq (map (λ s. s.alias) ss)) (sym t.1) ∙ t.0);
    }

-- the whole, taken apart
pub record QueryTaken (m : List ℕ) (tables : Schema) (names : List (List ℕ)) (antiquotes : List ColumnKind) (q : SqlQuery) (core : Query) : Type 0 where
  pub sources : List Source
  pub items : Items m tables q.«from» sources
  pub parts : Parts names (reads sources antiquotes) q core
  pub grouped : outside core ≡ None

pub query_taken : (m : List ℕ) (tables : Schema) (names : List (List ℕ)) (antiquotes : List ColumnKind) (q : SqlQuery) (core : Query) → query_of m tables names antiquotes q ≡ Some core → QueryTaken m tables names antiquotes q core
unfolding query_of
query_taken m tables names antiquotes q core e =
    let a = then_taken (query_over names antiquotes q) (items_of m tables q.«from») core e in
    let b = then_taken well_grouped (stated names (reads a.0 antiquotes) q) core a.2 in
    let t = none_taken (outside b.0) b.0 core b.2 in
    record {
      sources = a.0;
      items = items_given m tables q.«from» a.0 a.1;
      parts = subst (Parts names (reads a.0 antiquotes) q) t.1 (all_parts names (reads a.0 antiquotes) q b.0 b.1);
      grouped = ap outside (sym t.1) ∙ t.0;
    }

pub is_query : StatedIsQuery
is_query m tables names antiquotes q core e =
    let t = query_taken m tables names antiquotes q core e in
    let p = t.parts in
    let g = fields_taken names (reads t.sources antiquotes) q.selection core.fields p.front.fields in
    record {
      sources = t.sources;
      chosen = g.chosen;
      named = g.named;
      items = t.items.are;
      aliases = t.items.once;
      params = sym p.front.params;
      tables_read = sym p.front.items;
      on = p.front.on;
      filter = p.front.filter;
      columns = g.columns;
      others = g.others;
      fields = g.all;
      distinct = g.once;
      group = p.group;
      order = p.order;
      limit = p.limit;
      offset = p.offset;
      grouped_fields = λ h. fields_read core h t.grouped;
      grouped_order = λ h. order_reads core h t.grouped;
    }
