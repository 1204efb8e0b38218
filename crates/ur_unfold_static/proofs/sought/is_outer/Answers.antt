use Rattle.std.proofs.Common.{◌<◌, ◌≤◌, sym, ◌∙◌, rules}
use Rattle.ur_unfold_static.proofs.Words.{place-within, place-outside}
use Rattle.ur_unfold_static.proofs.sought.is_outer.Goals as goal

pub returns-then-i-depth : goal.returns-then-i-depth
returns-then-i-depth c =
    let below : c.args.i < c.args.depth = search rules in
    sym (place-within c.args.of c.args.depth c.args.i below)

pub returns : goal.returns
returns c =
    let above : c.args.depth ≤ c.args.i = search rules in
    search rules ∙ sym (place-outside c.args.of c.args.depth c.args.i above)
