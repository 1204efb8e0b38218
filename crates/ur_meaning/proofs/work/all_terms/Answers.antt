use Rattle.std.proofs.Common.{rules, ◌<◌, ◌≤◌, length, arith, sym, subst}
use Rattle.ur_meaning.specs.Opening.{IsNameAt}
use Rattle.ur_meaning.proofs.Steps.{Along, along_first, along_done, along_full, no_more, not_less}
use Rattle.ur_meaning.proofs.work.all_terms.Goals as goal

pub loop-number-init : goal.loop-number-init
loop-number-init g c =
    subst (λ made. Along g.T.Table.language g.T.Table.instances g.T.Table.stands g.T.Table.sound c.args.table.now c.args.table.now 0 made 1000000) (sym c.new-made.ensures)
    (along_first g.T.Table.language g.T.Table.instances g.T.Table.stands g.T.Table.sound c.args.table.now)

pub returns-then-not-has-clause-made : goal.returns-then-not-has-clause-made
returns-then-not-has-clause-made g c =
    let number = c.loop-number.number in
    let table = c.loop-number.table in
    let no : ¬ (number < length (g.T.Table.instances table)) = search rules in
    let few : number ≤ 4096 = omega (arith, c.loop-number-test.true) in
    along_done g.T.Table.language g.T.Table.instances g.T.Table.stands g.T.Table.sound c.args.table.now table number c.loop-number.room c.loop-number.made c.loop-number.invariant few
    (not_less number (length (g.T.Table.instances table)) no)

pub returns-in-Some-clause-made : goal.returns-in-Some-clause-made
returns-in-Some-clause-made g c =
    along_full g.T.Table.language g.T.Table.instances g.T.Table.stands g.T.Table.sound g.T.Table.named c.args.table.now c.loop-number.table c.loop-number.number c.loop-number.room c.in-Some.name c.loop-number.made c.loop-number.invariant
    (subst (IsNameAt g.T.Table.named (g.T.Table.instances c.loop-number.table) 4096) c.in-Some.is c.name.ensures)

pub returns-in-None-clause-made : goal.returns-in-None-clause-made
returns-in-None-clause-made g c =
    let number = c.loop-number.number in
    let table = c.loop-number.table in
    let ends : length (g.T.Table.instances table) ≤ 4096 = no_more (g.T.Table.instances table) 4096 (subst (IsNameAt g.T.Table.named (g.T.Table.instances table) 4096) c.in-None.is c.name.ensures) in
    let few : number ≤ 4096 = omega (arith, c.loop-number.auto.number-end) in
    let less : length (g.T.Table.instances table) ≤ number = omega (arith, ends, c.loop-number-test.false) in
    along_done g.T.Table.language g.T.Table.instances g.T.Table.stands g.T.Table.sound c.args.table.now table number c.loop-number.room c.loop-number.made c.loop-number.invariant few less
