use Rattle.std.proofs.Common.{rules, ◌≡◌, ◌≢◌, suc, ◌+◌, Some, arith, length, sym, ap, subst}
use Rattle.std.specs.Prelude.{slice_get}
use Rattle.ur_meaning.specs.declared.head.Head.TheVariants as head
use Rattle.ur_meaning.specs.Making.{state, AllMade, OneMade}
use Rattle.ur_meaning.proofs.Going.{SoFar, exit, stuck_halts, stuck_built, not_entered, parts_halt, built, none_made, more_made, one_halts, all_made, element}
use Rattle.ur_meaning.proofs.terms.+terms.Goals as goal

pub node-returns-in_err-enter_stuck-clause-made : goal.node-returns-in_err-enter_stuck-clause-made
node-returns-in_err-enter_stuck-clause-made g t c =
    let nothing : c.args.opened.head ≡ head.Nothing = search rules in
    let table = c.args.table.now in
    λ i before s no.
    exit (λ r. OneMade (g.T.Table.language table) g.T.Table.large g.T.Table.named (state before c.args.room.now) c.args.levels i (state (g.T.Table.instances table) c.enter_stuck.new.room) r)
    c.from_residual.result c.in_err-enter_stuck.field-0.0 c.from_residual.ensures.1
    (stuck_halts (g.T.Table.language table) g.T.Table.large g.T.Table.named (g.T.Table.stands table) before (g.T.Table.instances table) i c.args.opened s c.args.room.now c.args.levels nothing
    c.enter_stuck.new.room (state (g.T.Table.instances table) c.enter_stuck.new.room) c.in_err-enter_stuck.field-0.0 c.in_err-enter_stuck.ensures)

pub node-returns-then-is_nothing-clause-made : goal.node-returns-then-is_nothing-clause-made
node-returns-then-is_nothing-clause-made g t c =
    let nothing : c.args.opened.head ≡ head.Nothing = search rules in
    let table = c.args.table.now in
    λ i before s no.
    stuck_built (g.T.Table.language table) g.T.Table.large g.T.Table.named (g.T.Table.stands table) before (g.T.Table.instances table) i c.args.opened s c.args.room.now c.args.levels nothing
    c.enter_stuck.new.room c.stuck.result c.in_ok-enter_stuck.ensures c.stuck.ensures.made c.stuck.ensures.memory

pub node-returns-in_err-within-clause-made : goal.node-returns-in_err-within-clause-made
node-returns-in_err-within-clause-made g t c =
    let some : c.args.opened.head ≢ head.Nothing = search rules in
    let table = c.args.table.now in
    λ i before s no.
    exit (λ r. OneMade (g.T.Table.language table) g.T.Table.large g.T.Table.named (state before c.args.room.now) c.args.levels i (state (g.T.Table.instances table) c.enter.new.room) r)
    c.from_residual-in_err-within.result c.in_err-within.field-0.0 c.from_residual-in_err-within.ensures.1
    (not_entered (g.T.Table.language table) g.T.Table.large g.T.Table.named (g.T.Table.stands table) before (g.T.Table.instances table) i c.args.opened s c.args.room.now c.args.levels no some
    c.enter.new.room (state (g.T.Table.instances table) c.enter.new.room) c.in_err-within.field-0.0 c.in_err-within.ensures)

pub node-returns-in_err-made-clause-made : goal.node-returns-in_err-made-clause-made
node-returns-in_err-made-clause-made g t c =
    let some : c.args.opened.head ≢ head.Nothing = search rules in
    let table = c.args.table.now in
    λ i before s no.
    exit (λ r. OneMade (g.T.Table.language table) g.T.Table.large g.T.Table.named (state before c.args.room.now) c.args.levels i (state (g.T.Table.instances c.terms_of.new.table) c.terms_of.new.room) r)
    c.from_residual-in_err-made.result c.in_err-made.field-0.0 c.from_residual-in_err-made.ensures.1
    (parts_halt (g.T.Table.language table) g.T.Table.large g.T.Table.named (g.T.Table.stands table) before (g.T.Table.instances table) i c.args.opened s c.args.room.now c.args.levels no some
    c.enter.new.room c.in_ok-within.within c.in_ok-within.ensures (state (g.T.Table.instances c.terms_of.new.table) c.terms_of.new.room) c.in_err-made.field-0.0 (c.in_err-made.ensures.made s.items s.parts))

pub node-returns-clause-made : goal.node-returns-clause-made
node-returns-clause-made g t c =
    let some : c.args.opened.head ≢ head.Nothing = search rules in
    let table = c.args.table.now in
    λ i before s no.
    built (g.T.Table.language table) g.T.Table.large g.T.Table.named (g.T.Table.stands table) before (g.T.Table.instances table) i c.args.opened s c.args.room.now c.args.levels no some
    c.enter.new.room c.in_ok-within.within c.in_ok-within.ensures (state (g.T.Table.instances c.terms_of.new.table) c.terms_of.new.room) c.in_ok-made.made c.close.result (c.in_ok-made.ensures.made s.items s.parts) c.close.ensures.built c.close.ensures.memory

pub terms_of-loop-place-init : goal.terms_of-loop-place-init
terms_of-loop-place-init g t c = (
  subst (SoFar g.T.Table.language g.T.Table.instances g.T.Table.stands g.T.Table.sound c.args.table.now c.args.room.now c.args.levels c.args.parts.now 0 c.args.table.now c.args.room.now)
      (sym c.new-made.ensures)
      (none_made g.T.Table.language g.T.Table.instances g.T.Table.stands g.T.Table.sound c.args.table.now c.args.room.now c.args.levels c.args.parts.now),
  ap length c.as_slice-pieces.ensures,
)

pub terms_of-returns-in_err-push_term-clause-made : goal.terms_of-returns-in_err-push_term-clause-made
terms_of-returns-in_err-push_term-clause-made g t c =
    let at : slice_get c.args.parts.now c.loop-place.place ≡ Some c.index-pieces-place.result =
    element c.args.parts.now c.as_slice-pieces.result.now c.loop-place.place c.index-pieces-place.result c.as_slice-pieces.ensures c.loop-place-test.true c.index-pieces-place.is in
    λ is zip.
    exit (λ r. AllMade (g.T.Table.language c.args.table.now) g.T.Table.large g.T.Table.named (state (g.T.Table.instances c.args.table.now) c.args.room.now) c.args.levels is
    (state (g.T.Table.instances c.push_term.new.table) c.push_term.new.room) r)
    c.from_residual.result c.in_err-push_term.field-0.0 c.from_residual.ensures.1
    (one_halts g.T.Table.language g.T.Table.instances g.T.Table.stands g.T.Table.sound g.T.Table.large g.T.Table.named c.args.table.now c.loop-place.table c.push_term.new.table c.args.room.now c.args.levels c.loop-place.room
    c.push_term.new.room c.loop-place.place c.args.parts.now c.index-pieces-place.result c.loop-place.made c.push_term.new.made c.in_err-push_term.field-0.0
    c.loop-place.invariant.0 at c.in_err-push_term.ensures.made is zip)

pub terms_of-loop-place-preserved : goal.terms_of-loop-place-preserved
terms_of-loop-place-preserved g t c =
    let at : slice_get c.args.parts.now c.loop-place.place ≡ Some c.index-pieces-place.result =
    element c.args.parts.now c.as_slice-pieces.result.now c.loop-place.place c.index-pieces-place.result c.as_slice-pieces.ensures c.loop-place-test.true c.index-pieces-place.is in
    let next : suc c.loop-place.place ≡ c.loop-place.place + 1 = omega arith in (
      subst (λ k. SoFar g.T.Table.language g.T.Table.instances g.T.Table.stands g.T.Table.sound c.args.table.now c.args.room.now c.args.levels c.args.parts.now k c.push_term.new.table
          c.push_term.new.room c.push_term.new.made)
          next
          (more_made g.T.Table.language g.T.Table.instances g.T.Table.stands g.T.Table.sound c.args.table.now c.loop-place.table c.push_term.new.table c.args.room.now c.args.levels c.loop-place.room
          c.push_term.new.room c.loop-place.place c.args.parts.now c.index-pieces-place.result c.loop-place.made c.push_term.new.made c.loop-place.invariant.0 at
          c.push_term.ensures.lasts c.in_ok-push_term.ensures.made),
      c.loop-place.invariant.1,
    )

pub terms_of-returns-clause-made : goal.terms_of-returns-clause-made
terms_of-returns-clause-made g t c =
    let whole : c.loop-place.place ≡ length c.args.parts.now = omega (arith, c.loop-place-test.false, c.loop-place.auto.place-end, c.loop-place.invariant.1) in
    all_made g.T.Table.language g.T.Table.instances g.T.Table.stands g.T.Table.sound c.args.table.now c.loop-place.table c.args.room.now c.args.levels c.loop-place.room c.loop-place.place
    c.args.parts.now c.loop-place.made c.loop-place.invariant.0 whole
