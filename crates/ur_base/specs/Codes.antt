-- The numbers of the codes of refusals.
use Rattle.std.specs.Prelude.{ℕ, Bool, nat_le, ◌&&◌}

-- E01 to E20
abbrev pub is_refusal_code : ℕ → Bool
is_refusal_code n = nat_le 1 n && nat_le n 20
