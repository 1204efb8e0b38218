-- Parts of a written head, one by one.
use Rattle.std.specs.Prelude.{◌≡◌, ◌&&◌, ℕ, true, false, List, [], ◌∷◌, codes, Contains, ⊤}
use Rattle.ur_syntax.specs.declared.con.Con.{Con}
use Rattle.ur_syntax.specs.declared.exp.Param.{Param as WrittenParam}
use Rattle.ur_rows.specs.declared.normal.NormalType.{NormalType}
use Rattle.ur_rows.specs.declared.normal.Part.{Part}
use Rattle.ur_rows.specs.Kinded.{row_is_in}
use Rattle.ur_rows.specs.Types.{holds_arrow}
use Rattle.ur_tree.specs.Text.{type_text}
use Rattle.ur_tree.specs.declared.typed.ConParam.{ConParam}
use Rattle.ur_tree.specs.declared.typed.ConParam.TheVariants as con_param
use Rattle.ur_tree.specs.declared.exp.Param.{Param}
use Rattle.ur_tree.specs.Env.{Env, variables}
use Rattle.ur_typed_rules.specs.Faults.{Fault, unkinded, not_so}
use Rattle.ur_typed_rules.specs.Rules.{may_be_param}
use Rattle.ur_typed_rules.specs.Arguments.{BreaksPlace}
use Rattle.ur_check_scopes.specs.Params.{IsWrittenType}

-- two sides of `~` that are not both rows
pub data BreaksSides (env : Env) : ConParam → Fault → Type 0 where
  sides_unkinded : {r s : List Part} → (row_is_in (variables env) r && row_is_in (variables env) s) ≡ false → BreaksSides env (con_param.Apart r s) (unkinded (codes "another kind") (codes "{Type}"))

-- some two sides are so
pub data BreaksCons (env : Env) (cons : List ConParam) : Fault → Type 0 where
  some_sides : {p : ConParam} {f : Fault} → Contains cons p → BreaksSides env p f → BreaksCons env cons f

-- each type may be that of its parameter
abbrev pub MayBeWritten : Env → List WrittenParam → List Param → Type 0
MayBeWritten env [] qs = ⊤
MayBeWritten env (p ∷ ps) [] = ⊤
MayBeWritten env (p ∷ ps) (q ∷ qs) = (IsWrittenType p q.of → may_be_param env q.of ≡ true) × MayBeWritten env ps qs

-- a result that may not be written so, or has a type with an arrow
pub data BreaksResult (texts : List (List ℕ)) (env : Env) (c : Con) (t : NormalType) : Fault → Type 0 where
  out_of_place : {f : Fault} → BreaksPlace env c t f → BreaksResult texts env c t f
  has_arrow : holds_arrow t ≡ true → BreaksResult texts env c t (not_so (type_text texts t) (codes "a result without an arrow"))
