use Rattle.std.proofs.Common.{◌≡◌, cond, ◌&&◌, Some, None, ap, sym, ◌∙◌, rules}
use Rattle.std.specs.Ordering.{int_eq}
use Rattle.ur_keeper_bodies.specs.declared.bodies.BodyChange.{BodyChange}
use Rattle.ur_keeper_bodies.specs.Bodies.{body_at, written_one}
use Rattle.ur_keeper_kept.proofs.ReadRows.{body-put, body-taken}
use Rattle.ur_keeper_kept.proofs.reading.change_body.Goals as goal

pub returns-in_ok-put_body-in-Add : goal.returns-in_ok-put_body-in-Add
returns-in_ok-put_body-in-Add c =
    let here : c.is_here-here.result ≡ (int_eq c.in-Add.t c.args.tab && int_eq c.in-Add.n c.args.num) = search rules in
    let step : c.put_body.new.body ≡ cond c.is_here-here.result (Some c.in-Add.put) c.args.body.now = search rules in
    λ m e.
    step ∙ ap (cond c.is_here-here.result (Some c.in-Add.put)) e ∙ body-put m c.in-Add.t c.in-Add.n c.args.tab c.args.num c.in-Add.put c.is_here-here.result here
    ∙ ap (λ (x : BodyChange). body_at (written_one m x) c.args.tab c.args.num) (sym c.in-Add.is)

pub returns-in_ok-put_body-in-Put : goal.returns-in_ok-put_body-in-Put
returns-in_ok-put_body-in-Put c =
    let here : c.is_here-here-in-Put.result ≡ (int_eq c.in-Put.t c.args.tab && int_eq c.in-Put.n c.args.num) = search rules in
    let step : c.put_body-in-Put.new.body ≡ cond c.is_here-here-in-Put.result (Some c.in-Put.put) c.args.body.now = search rules in
    λ m e.
    step ∙ ap (cond c.is_here-here-in-Put.result (Some c.in-Put.put)) e ∙ body-put m c.in-Put.t c.in-Put.n c.args.tab c.args.num c.in-Put.put c.is_here-here-in-Put.result here
    ∙ ap (λ (x : BodyChange). body_at (written_one m x) c.args.tab c.args.num) (sym c.in-Put.is)

pub returns-in-Drop : goal.returns-in-Drop
returns-in-Drop c =
    let here : c.is_here-here-in-Drop.result ≡ (int_eq c.in-Drop.t c.args.tab && int_eq c.in-Drop.n c.args.num) = search rules in
    let step : c.take_body.new.body ≡ cond c.is_here-here-in-Drop.result None c.args.body.now = search rules in
    λ m e.
    step ∙ ap (cond c.is_here-here-in-Drop.result None) e ∙ body-taken m c.in-Drop.t c.in-Drop.n c.args.tab c.args.num c.is_here-here-in-Drop.result here
    ∙ ap (λ (x : BodyChange). body_at (written_one m x) c.args.tab c.args.num) (sym c.in-Drop.is)
