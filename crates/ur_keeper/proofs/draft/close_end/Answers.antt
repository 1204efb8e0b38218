use Rattle.std.proofs.Common.{◌≡◌, ◌-◌, false, true, length, get_or, ap, sym, ◌∙◌, arith}
use Rattle.ur_keeper.proofs.Drafts.{end-first, end-next}
use Rattle.ur_keeper.proofs.draft.close_end.Goals as goal

pub loop-rows-init : goal.loop-rows-init
loop-rows-init c =
    end-first c.args.rows.now.items c.args.gone.now.items c.truncate.new.self.items c.len.result (omega (arith, c.args.rows.now.ok.0)) c.truncate.ensures.items c.requires.rising

pub loop-rows-preserved : goal.loop-rows-preserved
loop-rows-preserved c =
    let rows = c.loop-rows.rows.items in
    let gone = c.loop-rows.gone.items in
    let at : c.saturating_sub.result ≡ length rows - 1 = omega (arith, c.loop-rows.rows.ok.0) in
    let mark : get_or gone (length rows - 1) false ≡ true =
    ap (λ i. get_or gone i false) (sym at) ∙ ap (λ g. get_or g c.saturating_sub.result false) (sym c.deref.ensures.value) ∙ sym c.is_gone.ensures ∙ c.loop-rows-test.true in
    end-next c.args.rows.now.items c.args.gone.now.items rows gone c.truncate-in-loop-rows.new.self.items c.truncate-in-loop-rows-2.new.self.items (c.len-in-loop-rows-2.result - 1) c.len-in-loop-rows-3.result c.loop-rows.invariant mark
    (omega (arith, c.loop-rows.rows.ok.0)) c.truncate-in-loop-rows.ensures.items (omega (arith, c.truncate-in-loop-rows.new.self.ok.0)) c.truncate-in-loop-rows-2.ensures.items
