-- The conditions of the rules as tests.
use Rattle.std.specs.Prelude.{ℕ, ◌&&◌, ◌||◌, not, nat_le, Bool, true, false, List, [], ◌∷◌, map, Option, Some, None, bytes_eq}
use Rattle.std.specs.List.{list_all}
use Rattle.ur_syntax.specs.declared.kind.Kind.{Kind}
use Rattle.ur_rows.specs.declared.normal.Normal.{Normal}
use Rattle.ur_rows.specs.declared.normal.Normal.TheVariants as normal
use Rattle.ur_rows.specs.declared.normal.NormalType.{NormalType, end_of-NormalType as sole, more_of-NormalType as the}
use Rattle.ur_rows.specs.declared.normal.NormalType.TheVariants as ty
use Rattle.ur_rows.specs.declared.normal.NormalType.TheBlock.{Row_of-NormalType, end_of-NormalType as alone, more_of-NormalType as its, Row_of-Part, end_of-Part as end, more_of-Part as more}
use Rattle.ur_rows.specs.declared.normal.Part.{Part}
use Rattle.ur_rows.specs.declared.normal.Part.TheVariants as part
use Rattle.ur_rows.specs.Apart.{Assumptions, Piece, pieces}
use Rattle.ur_disjoint.specs.declared.rows.Assumed.{Assumed}
use Rattle.ur_disjoint.specs.Tests.{differ, assumed_apart}
use Rattle.ur_disjoint.specs.Tests as disjoint
use Rattle.ur_rows.specs.Kinded.{type_is_in, row_is_in, is_of_kind}
use Rattle.ur_rows.specs.Order.{type_form}
use Rattle.ur_rows.specs.Put.{instance_row}
use Rattle.ur_rows.specs.Types.{is_placed}
use Rattle.ur_terms.specs.declared.term.Pattern.{Pattern}
use Rattle.ur_tree.specs.declared.exp.Param.{Param}
use Rattle.ur_tree.specs.declared.typed.ConParam.{ConParam}
use Rattle.ur_tree.specs.Heads.{Head, Declared}
use Rattle.ur_tree.specs.Env.{Env, variables, row_pieces, con_is_plain, kinds_of, rows_apart}
use Rattle.ur_tree.specs.Patterns.{same_pattern, last_is_any, has_all, constructors_of}
use Rattle.ur_tree.specs.Typing.{no_fixed}
use Rattle.ur_typed_rules.specs.Names.{Local}
use Rattle.ur_typed_rules.specs.Names as here

-- ---- types and lists

-- types are the same where their written forms are
abbrev pub same_type : NormalType → NormalType → Bool
same_type t u = bytes_eq (type_form t []) (type_form u [])

-- the test passes of each element and each later one
abbrev pub all_pairs : {A : Type 0} → (A → A → Bool) → List A → Bool
all_pairs test [] = true
all_pairs test (x ∷ xs) = list_all (test x) xs && all_pairs test xs

-- no element is equal to a later one
abbrev pub are_once : {A : Type 0} → (A → A → Bool) → List A → Bool
are_once eq xs = all_pairs (λ x y. not (eq x y)) xs

-- ---- rows that are apart

abbrev pub assumed : List Part × List Part → Assumed
assumed a = record { left = a.0; right = a.1 }

abbrev pub are_pieces_apart : Assumptions → Piece → Piece → Bool
are_pieces_apart known p q = differ p q || assumed_apart (map assumed known) p q

-- each piece of the one row is apart from each piece of the other
abbrev pub is_apart : Assumptions → List Part → List Part → Bool
is_apart known r s = disjoint.is_apart (map assumed known) r s

-- the pieces of a row are apart from each other
abbrev pub all_apart : Assumptions → List Piece → Bool
all_apart known ps = all_pairs (are_pieces_apart known) ps

abbrev pub are_apart : Assumptions → List Part → Bool
are_apart known r = all_apart known (pieces r)

abbrev mutual
  -- each row that stands in a type has pieces that are apart from each other
  pub rows_are_apart : Assumptions → NormalType → Bool
  rows_are_apart known (ty.Opt' _ t) = boxed_rows_are_apart known t
  rows_are_apart known (ty.Many' _ t) = boxed_rows_are_apart known t
  rows_are_apart known (ty.Transaction' _ t) = boxed_rows_are_apart known t
  rows_are_apart known (ty.Arrow' _ a _ b) = boxed_rows_are_apart known a && boxed_rows_are_apart known b
  rows_are_apart known (ty.Record' _ r) = all_apart known (row_pieces r) && parts_rows_are_apart known r
  rows_are_apart known (ty.Form' _ r) = all_apart known (row_pieces r) && parts_rows_are_apart known r
  rows_are_apart known _ = true

  pub boxed_rows_are_apart : {n : _} → Assumptions → Row_of-NormalType n → Bool
  boxed_rows_are_apart known alone = true
  boxed_rows_are_apart known (its t rest) = rows_are_apart known t

  pub parts_rows_are_apart : {n : _} → Assumptions → Row_of-Part n → Bool
  parts_rows_are_apart known end = true
  parts_rows_are_apart known (more p rest) = part_rows_are_apart known p && parts_rows_are_apart known rest

  pub part_rows_are_apart : Assumptions → Part → Bool
  part_rows_are_apart known (part.Field' l _ t) = boxed_rows_are_apart known t
  part_rows_are_apart known (part.Piece v) = true
  part_rows_are_apart known (part.Mapped' v _ f) = boxed_rows_are_apart known f

abbrev pub row_rows_are_apart : Assumptions → List Part → Bool
row_rows_are_apart known r = list_all (part_rows_are_apart known) r

-- a type, or a row, that may be written in that scope
abbrev pub is_type : Env → NormalType → Bool
is_type env t = type_is_in (variables env) t && rows_are_apart env.known t

abbrev pub is_row : Env → List Part → Bool
is_row env r = row_is_in (variables env) r && (are_apart env.known r && row_rows_are_apart env.known r)

abbrev pub con_rows_are_apart : Env → Normal → Bool
con_rows_are_apart env (normal.Type t) = rows_are_apart env.known t
con_rows_are_apart env (normal.Row r) = are_apart env.known r && row_rows_are_apart env.known r
con_rows_are_apart env _ = true

-- ---- arguments

-- one argument for each constructor parameter, of its kind
abbrev pub have_kinds : Env → List Normal → List Kind → Bool
have_kinds env [] [] = true
have_kinds env (a ∷ args) (k ∷ kinds) = is_of_kind (variables env) a k && (con_rows_are_apart env a && (con_is_plain a && have_kinds env args kinds))
have_kinds env _ _ = false

-- the rows that are wanted apart are so at the arguments
abbrev pub obligations_met : Env → List Normal → Assumptions → Bool
obligations_met env args wanted = list_all (λ p. is_apart env.known (instance_row args p.0) (instance_row args p.1)) wanted

abbrev pub are_arguments : Env → List ConParam → List Normal → Bool
are_arguments env cons args = have_kinds env args (kinds_of cons) && obligations_met env args (rows_apart cons)

abbrev pub is_param : Env → Param → Bool
is_param env p = is_type env p.of && is_placed p.of

abbrev pub are_params : Env → List Param → Bool
are_params env params = list_all (is_param env) params

-- ---- names of locals

abbrev pub local_name : Local → Option (List ℕ)
local_name (here.value x) = x
local_name (here.static x) = x

abbrev pub same_name : Option (List ℕ) → Option (List ℕ) → Bool
same_name (Some x) (Some y) = bytes_eq x y
same_name _ _ = false

abbrev pub same_local : Local → Local → Bool
same_local l k = same_name (local_name l) (local_name k)

abbrev pub are_distinct : List Local → Bool
are_distinct ls = are_once same_local ls

-- ---- patterns

abbrev pub covers : Declared → NormalType → List Pattern → Bool
covers d t ps = are_once same_pattern ps && (last_is_any ps || has_all (constructors_of d t) ps)

-- ---- page functions

abbrev pub is_page_type : NormalType → Bool
is_page_type (ty.Transaction' _ (the ty.Page sole)) = true
is_page_type _ = false

abbrev pub no_cons : List ConParam → Bool
no_cons [] = true
no_cons (c ∷ cons) = false

-- no constructor and no static parameters, and a page as the result
abbrev pub is_page : Head → Bool
is_page h = no_cons h.cons && (no_fixed h.params && is_page_type h.result)
