use Rattle.std.proofs.Common.{◌≤◌, ◌↔◌, refl, sym, ap, subst, ◌∙◌}
use Rattle.std.specs.Prelude.{IsTrue}
use Rattle.std.specs.Option.{option_copied}
use Rattle.ur_rows.specs.declared.normal.Normal.{Normal}
use Rattle.ur_rows.specs.Nodes.{most_nodes, nodes}
use Rattle.ur_unfold.proofs.Larges.{con_at_none, con_at_some}
use Rattle.ur_unfold.proofs.large.con_is_small.Goals as goal

pub returns-in-None : goal.returns-in-None
returns-in-None c = (λ _. con_at_none c.args.closing.now c.args.number (sym c.con.ensures.of ∙ ap option_copied c.in-None.is), λ _. refl)

pub returns-in-Some : goal.returns-in-Some
returns-in-Some c =
    subst (λ (x : Normal). IsTrue c.is_within.result ↔ (nodes x ≤ most_nodes)) (sym (con_at_some c.args.closing.now c.args.number c.in-Some.con.now (sym c.con.ensures.of ∙ ap option_copied c.in-Some.is))) c.is_within.ensures
