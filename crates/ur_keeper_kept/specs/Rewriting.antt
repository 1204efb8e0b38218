-- Bodies that are put anew, each in its place.
use Rattle.std.specs.Prelude.{◌≡◌, ℕ, zero, suc, ◌+◌, ◌<◌, ℤ, pos, List, [], ◌++◌, map}
use Rattle.ur_keeper_bodies.specs.declared.bodies.BodyChange.{BodyChange}
use Rattle.ur_keeper_bodies.specs.declared.bodies.BodyChange.TheVariants as change
use Rattle.ur_keeper_bodies.specs.Bodies.{BodyMap, body_at, bodies_of, written, CanWrite}
use Rattle.ur_keeper_kept.specs.Laid.{table_tab, text_at}

abbrev pub Entry : Type 0
Entry = ℤ × List ℕ

-- another body at the same number
abbrev pub renewed : (Entry → List ℕ) → Entry → Entry
renewed f e = (e.0, f e)

-- each of these bodies of a table put anew
abbrev pub puts : ℤ → (Entry → List ℕ) → List Entry → List BodyChange
puts tab f = map (λ e. change.Put tab e.0 (f e))

-- so of table n and those behind it, so many
abbrev pub all_puts : (ℕ → Entry → List ℕ) → BodyMap → ℕ → ℕ → List BodyChange
all_puts f m n zero = []
all_puts f m n (suc k) = puts (table_tab n) (f n) (bodies_of m (table_tab n)) ++ all_puts f m (n + 1) k

-- what stands after them
pub record IsRewritten (f : ℕ → Entry → List ℕ) (m m' : BodyMap) (tables : ℕ) : Type 0 where
  pub bodies : (i : ℕ) → i < tables → bodies_of m' (table_tab i) ≡ map (renewed (f i)) (bodies_of m (table_tab i))
  pub numbers : (j : ℕ) → body_at m' (pos 1) (pos j) ≡ body_at m (pos 1) (pos j)

-- The changes can be written, each body of the tables is the new one, and the text stays.
abbrev pub PutsRewrite : Type 0
PutsRewrite = (f : ℕ → Entry → List ℕ) (m : BodyMap) (tables : ℕ)
    → CanWrite m (all_puts f m 0 tables) × IsRewritten f m (written m (all_puts f m 0 tables)) tables × (text_at (written m (all_puts f m 0 tables)) ≡ text_at m)
