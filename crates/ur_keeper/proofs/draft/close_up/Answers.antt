use Rattle.std.proofs.Common.{◌≡◌, ◌<◌, [], false, length, get_or, refl, ap, sym, ◌∙◌, arith}
use Rattle.std.proofs.lemmas.Grind.{common_steps}
use Rattle.ur_keeper.proofs.Drafts.{left-of, closes-swapped, closes-kept}
use Rattle.ur_keeper.proofs.draft.close_up.Goals as goal
use Rattle.ur_keeper.proofs.draft.close_up.Goals.{then-not-is_gone, else-not-is_gone}

pub returns-then-is_empty-clause-rows : goal.returns-then-is_empty-clause-rows
returns-then-is_empty-clause-rows c =
    let none : c.args.gone.now.items ≡ [] = grind (arith, common_steps) in
    sym (left-of c.args.rows.now.items c.args.rows.now.items c.args.gone.now.items refl none)

pub loop-at-preserved : goal.loop-at-preserved
loop-at-preserved c =
    let mark : c.is_gone.result ≡ get_or c.args.gone.now.items c.loop-at.at false = c.is_gone.ensures ∙ ap (λ gone. get_or gone c.loop-at.at false) c.deref.ensures.value in
    elim c.if-not-is_gone.branch [
      | then-not-is_gone w ↦
          let within : c.loop-at.at < length c.loop-at.rows.items = omega (arith, c.loop-at.invariant.long, c.args.rows.now.ok.0) in
          closes-swapped c.args.rows.now.items c.args.gone.now.items c.loop-at.rows.items w.swap.new.self.items c.if-not-is_gone.rows.items c.loop-at.kept c.if-not-is_gone.kept c.loop-at.at c.loop-at.invariant within
          (sym mark ∙ w.if-not-is_gone.true) w.swap.ensures.by_index.3 (ap (λ v. v.items) w.rows-is) w.kept-is
      | else-not-is_gone w ↦
          closes-kept c.args.rows.now.items c.args.gone.now.items c.loop-at.rows.items c.if-not-is_gone.rows.items c.loop-at.kept c.if-not-is_gone.kept c.loop-at.at c.loop-at.invariant (sym mark ∙ w.if-not-is_gone.false)
          (ap (λ v. v.items) w.rows-is) w.kept-is
    ]
