-- Whether a text may stand in a table.
use Rattle.std.proofs.Common.{◌≡◌, ℕ, ◌+◌, ◌≤◌, true, false, ◌&&◌, List, length, refl, sym, arith, IsUtf8, nat_le}
use Rattle.std.specs.Str.{is_utf8}
use Rattle.std.proofs.lemmas.Str.{is_utf8-from_IsUtf8, IsUtf8-from_is_utf8}
use Rattle.std.proofs.lemmas.Bool.{le-leb}
use Rattle.ur_keeper_bodies.specs.Rows.{may_be_text}

pub may-be : (t : List ℕ) → length t ≤ 16777184 → IsUtf8 t → true ≡ may_be_text t
may-be t l u =
    let e : is_utf8 t ≡ true = is_utf8-from_IsUtf8 t u in
    rw e (sym (le-leb (32 + length t) 16777216 (omega (arith, l))))

pub may-not : (t : List ℕ) → ¬ (IsUtf8 t) → false ≡ may_be_text t
may-not t no-text =
    elim (is_utf8 t) as (λ b. is_utf8 t ≡ b → false ≡ (b && nat_le (32 + length t) 16777216)) [
      | true ↦ λ e. absurd (no-text (IsUtf8-from_is_utf8 t e))
      | false ↦ λ e. refl
    ] refl
