-- The walk in two worlds that agree in what the names in scope stand for.
use Rattle.std.specs.Prelude.{◌≡◌, ℕ, nat_lt, true, List, Option, Some, slice_get}
use Rattle.std.specs.List.{AllByRecursion}
use Rattle.ur_syntax.specs.declared.con.ConName.{ConName}
use Rattle.ur_syntax.specs.declared.exp.ExpForm.{ExpForm}
use Rattle.ur_terms.specs.declared.term.Pattern.{Pattern}
use Rattle.ur_rows.specs.declared.normal.NormalType.{NormalType}
use Rattle.ur_tree.specs.Heads.{Declared}
use Rattle.ur_tree.specs.Patterns.{bound_by}
use Rattle.ur_typed_rules.specs.Names.{Globals, declared}
use Rattle.ur_typed_rules.specs.Names as here
use Rattle.ur_typed_rules.specs.Scopes.{World, Scope, Mode}
use Rattle.ur_typed_rules.specs.Tests.{covers}
use Rattle.ur_typed.specs.Rules.{Sites}
use Rattle.ur_typed.specs.Walking.{typed}

-- the second has an answer wherever the first has one, and that one
pub record Leads {A : Type 0} (a b : Option A) : Type 0 where
  pub on : (x : A) → a ≡ Some x → b ≡ Some x

abbrev pub a_world : Globals → List (List ℕ) → ℕ → Declared → World
a_world g ff most d = record { globals = g; declared = d; fields = ff; most = most }

-- each of the patterns stands for values of the type
abbrev pub AreBound : Declared → NormalType → List Pattern → Type 0
AreBound d t ps = AllByRecursion (λ p. (bound : List NormalType) × (bound_by d t p ≡ Some bound)) ps

-- What each name in scope stands for in `d` it stands for in `e` too, and patterns for values of a type that cover it in `d` do so in `e`.
pub record Agree (g : Globals) (d e : Declared) : Type 0 where
  pub functions : (c : ConName) (n : ℕ) → declared g c g.values ≡ Some (here.function n) → Leads (slice_get d.functions n) (slice_get e.functions n)
  pub vals : (c : ConName) (n : ℕ) → declared g c g.values ≡ Some (here.val n) → Leads (slice_get d.vals n) (slice_get e.vals n)
  pub variants : (c : ConName) (n : ℕ) → declared g c g.constructors ≡ Some n → Leads (slice_get d.variants n) (slice_get e.variants n)
  pub cookies : (c : ConName) (n : ℕ) → declared g c g.cookies ≡ Some n → Leads (slice_get d.cookies n) (slice_get e.cookies n)
  pub sequences : (c : ConName) (n : ℕ) → declared g c g.sequences ≡ Some n → nat_lt n d.sequences ≡ true → nat_lt n e.sequences ≡ true
  pub covers : (t : NormalType) (ps : List Pattern) → AreBound d t ps → covers d t ps ≡ true → covers e t ps ≡ true

-- What the walk gives where `d` is declared it gives where `e` is.
abbrev pub WalkIsLed : Type 0
WalkIsLed = (g : Globals) (ff : List (List ℕ)) (most : ℕ) (d e : Declared) → Agree g d e → (x : ExpForm) (s : Scope) (st : Sites) (m : Mode) → Leads (typed (a_world g ff most d) x s st m) (typed (a_world g ff most e) x s st m)
