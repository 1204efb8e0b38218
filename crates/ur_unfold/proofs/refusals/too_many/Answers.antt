use Rattle.std.proofs.Common.{sym, ap, ◌∙◌}
use Rattle.std.specs.Option.{option_copied}
use Rattle.ur_unfold.proofs.Refusing.{refuses_named}
use Rattle.ur_unfold.proofs.refusals.too_many.Goals as goal

pub returns-in_ok-left-in-Some : goal.returns-in_ok-left-in-Some
returns-in_ok-left-in-Some c =
    refuses_named c.args.typed.now c.args.function c.in_ok-left-in-Some.left c.refusal.result
    (record {
      function = c.in-Some.function.now;
      is_function = sym c.get.ensures.value ∙ ap option_copied c.in-Some.is;
      name = c.in_ok-left-in-Some.ensures;
    }) c.refusal.ensures
