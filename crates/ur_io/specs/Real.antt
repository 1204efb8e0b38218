-- What is known of the forms over the real thing, which tell nothing of content.
use Rattle.std.specs.Prelude.{ℕ, Bool}

-- of a shelf: how many calls have failed
pub record Counted : Type 0 where
  pub faults : ℕ

-- of a sink: whether it is the standard error, and how many calls have failed
pub record Stream : Type 0 where
  pub is_error : Bool
  pub faults : ℕ

-- of the one connection: whether it came, whether it is current, and how many calls have failed
pub record Connected : Type 0 where
  pub begun : Bool
  pub is_current : Bool
  pub faults : ℕ
