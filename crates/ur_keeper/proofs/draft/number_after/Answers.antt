use Rattle.std.proofs.Common.{refl, sym, ap, ◌∙◌}
use Rattle.std.specs.Option.{option_copied}
use Rattle.ur_keeper.proofs.Rising.{number-after}
use Rattle.ur_keeper.proofs.draft.number_after.Goals as goal

pub returns-in-Some : goal.returns-in-Some
returns-in-Some c =
    number-after c.args.rows.now c.args.rows.now c.in-Some.last.now refl c.requires.rising (sym c.last.ensures.value ∙ ap option_copied c.in-Some.is)
