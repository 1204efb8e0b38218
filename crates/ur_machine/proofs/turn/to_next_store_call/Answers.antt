use Rattle.std.proofs.Common.{◌≡◌, IfSome, refl, ap, subst, ◌∙◌}
use Rattle.ur_values.specs.declared.value.Value.{Value}
use Rattle.ur_machine_frames.specs.declared.control.Pause.TheVariants as pause
use Rattle.ur_tags.specs.Show.{show}
use Rattle.ur_machine.specs.Left.{EndsAs}
use Rattle.ur_machine.specs.Answers.{sites_of}
use Rattle.ur_machine.specs.TurnsCookies.{sent_pairs}
use Rattle.ur_machine.specs.declared.reached.Reached.TheVariants as reached
use Rattle.ur_machine.specs.declared.turn.Turn.TheVariants as turn
use Rattle.ur_machine.proofs.Turning.{ran_page}
use Rattle.ur_machine.proofs.Reading.{no_step}
use Rattle.ur_machine.proofs.turn.to_next_store_call.Goals as goal

pub returns-in_ok-turn-in-Some-clause-ran : goal.returns-in_ok-turn-in-Some-clause-ran
returns-in_ok-turn-in-Some-clause-ran g c =
    let code = c.args.code.now in
    let m = c.args.machine.now in
    let found : (page : Value) × EndsAs code m m (pause.Page page) × (c.in-Some.bytes ≡ show code.handlers page) =
    subst (λ o. IfSome o (λ bytes. (page : Value) × EndsAs code m m (pause.Page page) × (bytes ≡ show code.handlers page))) c.in-Some.is c.in_ok-rest.ensures in
    let (page, ends, bytes) = found in
    ran_page _ c.args.code.now c.args.machine.now c.args.machine.now _ _ _ _ c.requires.kept c.requires.under_way
    (no_step c.args.code.now (sites_of c.args.code.now c.args.patterns.now) c.args.cache.now c.args.cache.now (g.K.Keeper.reads c.args.keeper.now)
    (g.K.Keeper.reads c.args.keeper.now) reached.Nothing refl refl refl) page c.in_ok-turn-in-Some.turn ends
    (c.in_ok-turn-in-Some.ensures ∙ ap (λ b. turn.Page b (sent_pairs c.args.code.now.cookies c.args.machine.now.frames.sent)) bytes)
