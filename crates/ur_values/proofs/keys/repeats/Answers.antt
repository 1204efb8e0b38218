use Rattle.std.proofs.Common.{rules, map, ap, ◌∙◌}
use Rattle.std.proofs.lemmas.Fn.{always_returns_same}
use Rattle.ur_values.specs.Keys.{key_of, repeats}
use Rattle.ur_values.specs.KeyOrder.{lent_rows}
use Rattle.ur_values.proofs.Repeats.{settled_rows, weak_order}
use Rattle.ur_values.proofs.keys.repeats.Goals as goal

pub returns : goal.returns
returns c =
    let sorted = c.sort_unstable_by.ensures.sorted _ (weak_order c.args.key.now) (always_returns_same _ _ _ (λ a r f k. search rules)) in
    settled_rows c.args.key.now c.in_ok-sorted.sorted.items c.sort_unstable_by.new.self.items c.sort_unstable_by.ensures.permutation sorted c.has_tie.result
    (rw c.as_slice.ensures.value at c.has_tie.ensures.tie) (rw c.as_slice.ensures.value at c.has_tie.ensures.apart)
    ∙ ap (λ rows. repeats (map (key_of c.args.key.now) (lent_rows rows))) c.in_ok-sorted.ensures.items
