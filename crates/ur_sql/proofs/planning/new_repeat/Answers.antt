use Rattle.std.proofs.Common.{◌≡◌, ℕ, Bool, false, List, None, ap, ap₂, sym, ◌∙◌}
use Rattle.std.specs.Prelude.{if◌then◌else◌}
use Rattle.std.specs.List.{list_any}
use Rattle.ur_values.specs.Keys.{repeated_key}
use Rattle.ur_sql.specs.declared.scalar.Scalar.{Scalar}
use Rattle.ur_sql.specs.Merged.{merged}
use Rattle.ur_sql.specs.NewKeys.{is_set, new_repeat}
use Rattle.ur_sql.proofs.planning.new_repeat.Goals as goal

pub returns-else-set_some : goal.returns-else-set_some
returns-else-set_some c =
    let unset : list_any (list_any (is_set c.in-Update.sets)) c.args.keys.now ≡ false =
    ap₂ (λ (sets : List (ℕ × Scalar)) (keys : List (List ℕ)). list_any (list_any (is_set sets)) keys) (sym c.as_slice.ensures) (sym c.as_slice-in-Update.ensures)
    ∙ sym c.set_some.ensures ∙ c.if-set_some.false in
    sym (ap (λ what. new_repeat what c.args.keys.now c.args.rows.now c.args.changes.now) c.in-Update.is
    ∙ ap (λ (b : Bool). if b then repeated_key c.args.keys.now (merged c.args.rows.now c.args.changes.now) else None) unset)
