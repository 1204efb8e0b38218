-- The classes of the terms that a pattern is read off.
use Rattle.std.specs.Prelude.{◌≡◌, ℕ, Bool, ◌&&◌, ◌==◌, map}
use Rattle.std.specs.List.{list_any, range_with_len}
use Rattle.ur_sql.specs.declared.term.SqlTerm.{SqlTerm}
use Rattle.ur_sql.specs.declared.term.SqlTerm.TheVariants as t
use Rattle.ur_conditions.specs.declared.pair.Pair.{Pair}
use Rattle.ur_conditions.specs.Pairs.{TellsClasses}
use Rattle.ur_conditions.specs.Patterns.{constants_of, somes_of, is_null}
pub use Rattle.ur_invalidate.specs.declared.classes.Classes.{Classes}

-- a NULL and a SOME of the pair share a class
abbrev pub null_with_some : (SqlTerm → ℕ) → Pair → Bool
null_with_some class p = list_any (λ c. is_null c && list_any (λ s. class (t.Constant c) == class s) (somes_of p)) (constants_of p)

-- numbers of the classes of key positions, arguments, constants and sides of disequations, and whether a NULL and a SOME share one
abbrev pub classes_by : (SqlTerm → ℕ) → Pair → Classes
classes_by class p = record {
  keys = map (λ k. class (t.Key k)) (range_with_len 0 p.keys);
  args = map (λ n. class (t.Arg n)) (range_with_len 0 p.args);
  constants = map (λ c. (c, class (t.Constant c))) (constants_of p);
  disequations = map (λ d. (class d.0, class d.1)) p.disequations;
  null_meets_some = null_with_some class p;
}

-- the classes are those of the pair's terms: two terms share a number exactly where their equation follows
pub record AreClassesOf (p : Pair) (classes : Classes) : Type 0 where
  pub class : SqlTerm → ℕ
  pub tells : TellsClasses p (λ a b. class a == class b)
  pub are : classes ≡ classes_by class p
