-- Where a written expression stands: what the project declares, what is in scope, and what is wanted of the expression.
use Rattle.std.specs.Prelude.{ℕ, List, [], ◌∷◌, Option, Some, None}
use Rattle.ur_syntax.specs.declared.exp.Binder.{Binder}
use Rattle.ur_rows.specs.declared.normal.Label.{Label}
use Rattle.ur_rows.specs.declared.normal.NormalType.{NormalType, end_of-NormalType as sole, more_of-NormalType as the}
use Rattle.ur_rows.specs.declared.normal.NormalType.TheVariants as ty
use Rattle.ur_rows.specs.Made.{parts}
use Rattle.ur_rows.specs.Types.{field_type}
use Rattle.ur_terms.specs.declared.term.Pattern.{Pattern}
use Rattle.ur_tree.specs.declared.exp.Param.{Param}
use Rattle.ur_tree.specs.Heads.{Declared}
use Rattle.ur_tree.specs.Env.{Env, with_value, with_values, within_lambda}
use Rattle.ur_typed_rules.specs.Names.{Local, Globals, Names, with_local, with_locals, bound_name}
use Rattle.ur_typed_rules.specs.Names as here

-- What a project declares, by name and by type, which its written heads alone tell; the names of its fields in byte order; and the
-- greatest number of nodes of a normal form.
pub record World : Type 0 where
  pub globals : Globals
  pub declared : Declared
  pub fields : List (List ℕ)
  pub most : ℕ

-- the names in scope, and the types of what they stand for
pub record Scope : Type 0 where
  pub names : Names
  pub env : Env

-- a type is to be found, or is wanted
pub data Mode : Type 0 where
  finds : Mode
  wants : NormalType → Mode

-- ---- scopes of parts

abbrev pub within_binder : Binder → NormalType → Scope → Scope
within_binder x t s = record { names = with_local (here.value (bound_name x)) s.names; env = with_value t s.env }

abbrev pub within_branch : List Local → List NormalType → Scope → Scope
within_branch ls bound s = record { names = with_locals ls s.names; env = with_values bound s.env }

abbrev pub within_params : List Local → List Param → Scope → Scope
within_params ls out s = record { names = with_locals ls s.names; env = within_lambda out s.env }

-- ---- what is wanted of a part, where a type is wanted of the whole

abbrev pub of_option : Mode → Mode
of_option (wants (ty.Opt' _ (the t sole))) = wants t
of_option _ = finds

abbrev pub of_list : Mode → Mode
of_list (wants (ty.Many' _ (the t sole))) = wants t
of_list _ = finds

abbrev pub of_transaction : Mode → Mode
of_transaction (wants (ty.Transaction' _ (the t sole))) = wants t
of_transaction _ = finds

abbrev pub if_typed : Option NormalType → Mode
if_typed (Some t) = wants t
if_typed None = finds

abbrev pub of_field : Label → Mode → Mode
of_field l (wants (ty.Record' _ r)) = if_typed (field_type l (parts r))
of_field l _ = finds

abbrev pub of_result : {A : Type 0} → List A → Mode → Mode
of_result [] m = m
of_result (p ∷ ps) (wants (ty.Arrow' _ a _ (the b sole))) = of_result ps (wants b)
of_result (p ∷ ps) _ = finds

abbrev pub type_of_mode : Mode → Option NormalType
type_of_mode (wants t) = Some t
type_of_mode finds = None
