use Rattle.std.proofs.Common.{◌≡◌, ◌+◌, rules, ap, subst, sym, ◌∙◌, IfSome}
use Rattle.ur_rows.specs.Nodes.{nodes}
use Rattle.ur_rows.proofs.Counts.{count-fn}
use Rattle.ur_unfold_static.proofs.con.+size_of.Goals as goal

pub returns-in_ok-size_of-in-Fn : goal.returns-in_ok-size_of-in-Fn
returns-in_ok-size_of-in-Fn t c =
    let whole : nodes c.args.con.now ≡ nodes c.in-Fn.c + 1 = ap nodes c.in-Fn.is ∙ count-fn c.in-Fn.field-0 c.in-Fn.c in
    subst (λ n. IfSome c.checked_add-in-Fn.result (λ m. m ≡ n)) (sym whole) (search rules)
