use Rattle.std.proofs.Common.{◌++◌, ℕ, List, ap, sym, ◌∙◌}
use Rattle.ur_keeper_bodies.proofs.Options.{storable-inside, present-written, on-ok}
use Rattle.ur_keeper_bodies.proofs.row.write_value.Goals as goal

pub write_present-requires : goal.write_present-requires
write_present-requires c = storable-inside c.args.value.now c.in-Present.held c.get.result.now c.in-Present.is c.get.ensures c.requires

pub returns-in-Present : goal.returns-in-Present
returns-in-Present c =
    on-ok c.write_present.result _ _
    (λ e. e ∙ ap (λ (b : List ℕ). c.args.bytes.now ++ b)
    (sym (present-written c.args.value.now c.in-Present.held c.get.result.now c.in-Present.is c.get.ensures)))
    c.write_present.ensures
