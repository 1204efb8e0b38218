-- Numbers and bodies that are read from the rows of an answer.
use Rattle.std.specs.Prelude.{◌≡◌, ℕ, ℤ, Bool, List, Option, Some, None, T}
use Rattle.std.specs.List.{list_all}
use Rattle.std.specs.Ordering.{int_cmp, is_lt}
use Rattle.sqlite.specs.Order.{Row, column, bytes}
use Rattle.sqlite.specs.Edit.{id_in}

abbrev pub Entry : Type 0
Entry = ℤ × List ℕ

-- the number and the body in an answer's two columns
abbrev pub entry_in : Row → Entry
entry_in r = (id_in (column r 0), bytes (column r 1))

-- the body in an answer's one column
abbrev pub body_in : Row → List ℕ
body_in r = bytes (column r 0)

-- each number is below this one
abbrev pub is_below : ℤ → List Entry → Bool
is_below n = list_all (λ e. is_lt (int_cmp e.0 n))

-- the number is above the last one, if there is one
abbrev pub Above : Option ℤ → ℤ → Type 0
Above None n = Unit {0}
Above (Some last) n = T (is_lt (int_cmp last n))

-- so are the numbers of these entries below what is above the last
abbrev pub EndsAt : List Entry → Option ℤ → Type 0
EndsAt es last = (n : ℤ) → Above last n → T (is_below n es)
