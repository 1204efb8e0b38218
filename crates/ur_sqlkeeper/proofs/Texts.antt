-- What the six texts are compiled to.
use Rattle.std.proofs.Common.{◌≡◌, ℕ, List, [], ◌∷◌, codes, None, Some, Ok, refl, pos, negsuc, true, false}
use Rattle.sqlite.specs.declared.types.Value.TheVariants.{Null, Int}
use Rattle.sqlite.specs.Collation.TheVariants.{Binary}
use Rattle.sqlite.specs.Term.{Term, lit, col, op1, op2}
use Rattle.sqlite.specs.Query.{Query, inner, end}
use Rattle.sqlite_sql.specs.declared.ops.UnaryOp.TheVariants.{ToNumeric}
use Rattle.sqlite_sql.specs.declared.ops.BinaryOp.TheVariants.{Compare}
use Rattle.sqlite_sql.specs.declared.ops.CompareOp.TheVariants.{Eq}
use Rattle.sqlite_value.specs.declared.keys.Key.{Key}
use Rattle.sqlite.specs.Source.TheVariants.{Values}
use Rattle.sqlite.specs.Command.{Command}
use Rattle.sqlite.specs.Command.TheVariants.{Insert, Select, CreateTable, Update, Delete}
use Rattle.sqlite.specs.Compile.{table_defined_by}
use Rattle.sqlite.specs.Listing.{understood, reads_listing}
use Rattle.sqlite_tied.specs.Compute.{everything}
use Rattle.sqlite.proofs.Callers.{IsPlain, command_of, statement_of}
use Rattle.ur_sqlkeeper.specs.Table.{ur_row, ur_schema, no_schema, create_text, read_text, one_text, add_text, put_text, drop_text}

-- the column of the row at this place is the parameter at that place
abbrev pub equals : ℕ → ℕ → Term
equals place param = op2 (Compare Eq Binary) (col 1 place) (op1 ToNumeric (col 0 param))

abbrev pub ordered_query : List Term → List Term → List (Term × Key) → Query
ordered_query tests project order = record {
  from = inner 0 end;
  filter = tests;
  group = None;
  project = project;
  distinct = false;
  collations = [];
  order = order;
  limit = lit (Int (negsuc 0));
  offset = lit (Int (pos 0));
}

-- what each query shows, and by what the first one is in order
abbrev pub read_shown : List Term
read_shown = col 1 2 ∷ col 1 3 ∷ []

abbrev pub read_order : List (Term × Key)
read_order = (col 1 2, record { collation = Binary; descending = false }) ∷ []

abbrev pub one_shown : List Term
one_shown = col 1 3 ∷ []

abbrev pub put_shown : List Term
put_shown = col 1 0 ∷ col 1 0 ∷ col 1 1 ∷ col 1 2 ∷ col 0 2 ∷ []

abbrev pub drop_shown : List Term
drop_shown = col 1 0 ∷ []

abbrev pub in_table : List Term
in_table = equals 1 0 ∷ []

abbrev pub in_place : List Term
in_place = equals 1 0 ∷ equals 2 1 ∷ []

abbrev pub read_query : Query
read_query = ordered_query in_table read_shown read_order

abbrev pub one_query : Query
one_query = ordered_query in_place one_shown []

abbrev pub put_query : Query
put_query = ordered_query in_place put_shown []

abbrev pub drop_query : Query
drop_query = ordered_query in_place drop_shown []

abbrev pub add_terms : List Term
add_terms = lit Null ∷ col 0 0 ∷ col 0 1 ∷ col 0 2 ∷ []

pub create_is : (command_of (understood no_schema create_text) ≡ CreateTable) × (table_defined_by create_text ≡ Ok ur_row)
unfolding understood everything
create_is = (refl, refl)

pub read_is : command_of (understood ur_schema read_text) ≡ Select (record { lets = []; body = read_query }) (codes "Num" ∷ codes "Body" ∷ [])
unfolding understood everything
read_is = refl

pub one_is : command_of (understood ur_schema one_text) ≡ Select (record { lets = []; body = one_query }) (codes "Body" ∷ [])
unfolding understood everything
one_is = refl

pub add_is : command_of (understood ur_schema add_text) ≡ Insert 0 (Values add_terms 4)
unfolding understood everything
add_is = refl

pub put_is : command_of (understood ur_schema put_text) ≡ Update 0 (record { lets = []; body = put_query })
unfolding understood everything
put_is = refl

pub drop_is : command_of (understood ur_schema drop_text) ≡ Delete 0 (record { lets = []; body = drop_query })
unfolding understood everything
drop_is = refl

pub read_here : reads_listing ur_schema read_text ≡ false
unfolding understood everything
read_here = refl

pub one_here : reads_listing ur_schema one_text ≡ false
unfolding understood everything
one_here = refl

pub create_plain : IsPlain (understood no_schema create_text)
unfolding understood everything
create_plain = (refl, refl)

pub read_plain : IsPlain (understood ur_schema read_text)
unfolding understood everything
read_plain = (refl, refl)

pub one_plain : IsPlain (understood ur_schema one_text)
unfolding understood everything
one_plain = (refl, refl)

pub add_plain : IsPlain (understood ur_schema add_text)
unfolding understood everything
add_plain = (refl, refl)

pub put_plain : IsPlain (understood ur_schema put_text)
unfolding understood everything
put_plain = (refl, refl)

pub drop_plain : IsPlain (understood ur_schema drop_text)
unfolding understood everything
drop_plain = (refl, refl)

pub create_text_is : statement_of create_text (understood no_schema create_text) ≡ create_text
unfolding understood everything
create_text_is = refl
