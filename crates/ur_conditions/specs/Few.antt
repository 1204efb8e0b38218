-- The different terms of a pair.
use Rattle.std.specs.Prelude.{◌<◌, ◌≤◌, List, length, Contains}
use Rattle.ur_congruence.specs.Limits.{most_terms}
use Rattle.ur_sql.specs.declared.term.SqlTerm.{SqlTerm}
use Rattle.ur_sql.specs.declared.query.Query.{Query}
use Rattle.ur_sql.specs.declared.change.Change.{Change}
use Rattle.ur_sql.specs.Nodes.{query_nodes, change_nodes, most_sql_nodes}
use Rattle.ur_conditions.specs.declared.pair.Pair.{Pair}
use Rattle.ur_conditions.specs.Pairs.{terms_of}

-- the nodes of each statement, its antiquotes and the columns of the table are within the limits of statements
pub record AreLimited (q : Query) (u : Change) : Type 0 where
  pub query_nodes : query_nodes q ≤ most_sql_nodes
  pub change_nodes : change_nodes u ≤ most_sql_nodes
  pub keys : length q.params ≤ 16
  pub args : length u.params ≤ 16
  pub columns : length u.columns ≤ 64

-- all terms of the pair are among fewer than 65,536
pub record HasFewTerms (p : Pair) : Type 0 where
  pub different : List SqlTerm
  pub few : length different < most_terms
  pub all : (a : SqlTerm) → Contains (terms_of p) a → Contains different a
