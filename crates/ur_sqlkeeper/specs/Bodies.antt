-- Bodies in a database as contracts see them.
use Rattle.std.specs.Prelude.{ℕ, Option, refl}
use Rattle.std.specs.Coded.{Coded, code_by, coded×, coded_ℕ, coded_option}
use Rattle.sqlite.specs.Held.{Held, held_code}

-- the connection, once it is open, and the count of faults
pub record SqlState (S : Type 0) : Type 0 where
  pub conn : Option (Held S)
  pub faults : ℕ

abbrev pub sql_code : {S : Type 0} → Coded S → Coded (SqlState S)
sql_code store = code_by (Option (Held _) × ℕ) (coded× (coded_option (held_code store)) coded_ℕ) (λ b. (b.conn, b.faults)) (λ p. record { conn = p.0; faults = p.1 }) (λ _. refl)
