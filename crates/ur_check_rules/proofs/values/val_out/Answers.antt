use Rattle.std.proofs.Common.{ap, sym, ◌∙◌}
use Rattle.std.specs.Option.{option_copied}
use Rattle.ur_check_scopes.proofs.Exits.{ok-along}
use Rattle.ur_check_rules.proofs.Naming.{val-gives}
use Rattle.ur_check_rules.proofs.values.val_out.Goals as goal

pub returns-in_ok-of-in-Some : goal.returns-in_ok-of-in-Some
returns-in_ok-of-in-Some c =
    ok-along c.gives.result (λ o h. val-gives c.args.around.now c.args.number c.in-Some.of.now c.in_ok-of-in-Some.of o (sym c.get.ensures.value ∙ ap option_copied c.in-Some.is) c.in_ok-of-in-Some.ensures h) c.gives.ensures
