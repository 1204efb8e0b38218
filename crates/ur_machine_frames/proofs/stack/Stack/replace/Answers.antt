use Rattle.std.proofs.Common.{◌≡◌, ◌+◌, ◌-◌, suc, length, reverse, slice_set, sym, ap, ◌∙◌, arith}
use Rattle.std.proofs.lemmas.List.{length-reverse}
use Rattle.ur_machine_frames.proofs.Ending.{reversed_set}
use Rattle.ur_machine_frames.proofs.stack.Stack.replace.Goals as goal

pub returns-clause-others : goal.returns-clause-others
returns-clause-others g c =
    let items = c.self.inside.items.items in
    let long : length c.args.self.now ≡ length items = ap length (sym c.self.view_is) ∙ length-reverse items in
    let at : length items ≡ suc ((c.len.result - 1 - c.args.place) + c.args.place) = omega (arith, long, c.len.ensures, c.requires) in
    ap (λ x. reverse (slice_set items (c.len.result - 1 - c.args.place) x)) c.replace.ensures.after
    ∙ reversed_set items (c.len.result - 1 - c.args.place) c.args.place c.args.item at
    ∙ ap (λ l. slice_set l c.args.place c.args.item) c.self.view_is
