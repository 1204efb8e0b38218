-- What the tests say.
use Rattle.std.specs.Prelude.{◌≡◌, ◌↔◌, List, [], ◌∷◌, IsTrue}
use Rattle.ur_rows.specs.declared.normal.Normal.{Normal}
use Rattle.ur_rows.specs.declared.normal.NormalType.{NormalType}
use Rattle.ur_rows.specs.declared.normal.Part.{Part}
use Rattle.ur_rows.specs.Apart.{Assumptions, Apart, AreApart}
use Rattle.ur_rows.specs.Types.{holds_arrow}
use Rattle.ur_terms.specs.declared.term.Pattern.{Pattern}
use Rattle.ur_tree.specs.declared.exp.Param.{Param}
use Rattle.ur_tree.specs.declared.typed.ConParam.{ConParam}
use Rattle.ur_tree.specs.Heads.{Head, Declared}
use Rattle.ur_tree.specs.Env.{Env, HasApartRows, IsType, IsRow, AreArguments}
use Rattle.ur_tree.specs.Patterns.{Covers}
use Rattle.ur_tree.specs.Typing.{AreParams, IsPage}
use Rattle.ur_typed_rules.specs.Names.{Local, AreDistinct}
use Rattle.ur_typed_rules.specs.Tests.{same_type, is_apart, are_apart, rows_are_apart, is_type, is_row, are_arguments, are_params, covers, are_distinct, is_page}

abbrev pub TypesAreTold : Type 0
TypesAreTold = (t u : NormalType) → IsTrue (same_type t u) ↔ (t ≡ u)

pub record RowsAreDecided : Type 0 where
  pub two : (known : Assumptions) (r s : List Part) → IsTrue (is_apart known r s) ↔ Apart known r s
  pub one : (known : Assumptions) (r : List Part) → IsTrue (are_apart known r) ↔ AreApart known r

pub record TypesAreDecided : Type 0 where
  pub rows : (known : Assumptions) (t : NormalType) → IsTrue (rows_are_apart known t) ↔ HasApartRows known t
  pub types : (env : Env) (t : NormalType) → IsTrue (is_type env t) ↔ IsType env t
  pub written_rows : (env : Env) (r : List Part) → IsTrue (is_row env r) ↔ IsRow env r

abbrev pub ArgumentsAreDecided : Type 0
ArgumentsAreDecided = (env : Env) (cons : List ConParam) (args : List Normal) → IsTrue (are_arguments env cons args) ↔ AreArguments env cons args

-- each parameter is static exactly where its type holds an arrow
abbrev pub AreStaticByType : List Param → Type 0
AreStaticByType [] = Unit {0}
AreStaticByType (p ∷ ps) = (p.fixed ≡ holds_arrow p.of) × AreStaticByType ps

abbrev pub ParamsAreDecided : Type 0
ParamsAreDecided = (env : Env) (ps : List Param) → (IsTrue (are_params env ps) × AreStaticByType ps) ↔ AreParams env ps

abbrev pub BranchesAreDecided : Type 0
BranchesAreDecided = (d : Declared) (t : NormalType) (ps : List Pattern) → IsTrue (covers d t ps) ↔ Covers d t ps

abbrev pub NamesAreDecided : Type 0
NamesAreDecided = (ls : List Local) → IsTrue (are_distinct ls) ↔ AreDistinct ls

abbrev pub PagesAreDecided : Type 0
PagesAreDecided = (h : Head) → IsTrue (is_page h) ↔ IsPage h
