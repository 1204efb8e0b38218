-- Terms that do not read a variable.
use Rattle.std.specs.Prelude.{◌≢◌, ℕ, zero, suc, List, [], ◌∷◌}
use Rattle.std.specs.List.{AllByRecursion}
use Rattle.ur_values.specs.declared.value.Value.{Value}
use Rattle.ur_terms.specs.declared.term.Pattern.{Pattern}
use Rattle.ur_terms.specs.declared.term.Pattern.TheVariants as p
use Rattle.ur_terms.specs.declared.term.Branch.{Branch}
use Rattle.ur_terms.specs.declared.term.Term.{Term, Row_of-Term, end_of-Term, more_of-Term, Row_of-Branch, end_of-Branch, more_of-Branch}
use Rattle.ur_terms.specs.declared.term.Term.TheVariants as t

-- a variable's number inside a binder of so many
abbrev pub under : ℕ → ℕ → ℕ
under zero i = i
under (suc n) i = suc (under n i)

abbrev pub count_of : {m : _} → Row_of-Term m → ℕ
count_of end_of-Term = 0
count_of (more_of-Term x rest) = suc (count_of rest)

-- what holds of each count of variables that a pattern may bind
abbrev pub OfBound : Pattern → (ℕ → Type 0) → Type 0
OfBound p.Any P = P 1
OfBound p.Present P = P 1
OfBound p.Cons P = P 2
OfBound (p.Tagged c) P = P 0 × P 1
OfBound _ P = P 0

-- The variable with this number does not stand in the term.
abbrev mutual
  pub Unread : ℕ → Term → Type 0
  Unread i (t.Variable j) = j ≢ i
  Unread i (t.Int n) = Unit {0}
  Unread i (t.Str s) = Unit {0}
  Unread i (t.Bool b) = Unit {0}
  Unread i (t.Make' o _ args) = AllUnread i args
  Unread i (t.Call' f _ args) = AllUnread i args
  Unread i (t.Let' _ args _ body) = AllUnread i args × AllUnread (under (count_of args) i) body
  Unread i (t.If' _ q _ a _ b) = AllUnread i q × AllUnread i a × AllUnread i b
  Unread i (t.Case' _ x _ bs) = AllUnread i x × BranchesUnread i bs
  Unread i (t.Each' _ rows _ body) = AllUnread i rows × AllUnread (suc i) body

  pub AllUnread : ℕ → {m : _} → Row_of-Term m → Type 0
  AllUnread i end_of-Term = Unit {0}
  AllUnread i (more_of-Term x rest) = Unread i x × AllUnread i rest

  pub BranchesUnread : ℕ → {m : _} → Row_of-Branch m → Type 0
  BranchesUnread i end_of-Branch = Unit {0}
  BranchesUnread i (more_of-Branch pattern body rest) = OfBound pattern (λ n. Unread (under n i) body) × BranchesUnread i rest

-- the same over plain lists
abbrev pub AreUnread : ℕ → List Term → Type 0
AreUnread i = AllByRecursion (Unread i)

abbrev pub BranchUnread : ℕ → Branch → Type 0
BranchUnread i b = OfBound b.pattern (λ n. Unread (under n i) b.body)

abbrev pub AreBranchesUnread : ℕ → List Branch → Type 0
AreBranchesUnread i = AllByRecursion (BranchUnread i)

-- two lists of values that differ in the variable with this number alone
pub data SameBut : ℕ → List Value → List Value → Type 0 where
  there : (x y : Value) (env : List Value) → SameBut zero (x ∷ env) (y ∷ env)
  further : (i : ℕ) (x : Value) (env env' : List Value) → SameBut i env env' → SameBut (suc i) (x ∷ env) (x ∷ env')
