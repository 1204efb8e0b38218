use Rattle.std.proofs.Common.{◌≡◌, ◌++◌, ◌∷◌, [], List, map, ap, ap₂, sym, ◌∙◌, rules}
use Rattle.ur_values.specs.Extends.{Column}
use Rattle.ur_values.specs.declared.schema.TableShape.{TableShape}
use Rattle.ur_keeper.specs.Growing.{grown_rows, grown_all}
use Rattle.ur_keeper.specs.Versions.{Rows, settled}
use Rattle.ur_keeper.proofs.Growth.{tables-more}
use Rattle.ur_keeper.proofs.held.grown_all.Goals as goal

pub loop-i-preserved : goal.loop-i-preserved
loop-i-preserved c =
    let shapes = c.args.shapes.now in
    let kept = c.args.kept.now in
    let tables = c.args.tables.now.items in
    let s = c.index-shapes-i.result in
    let k = c.index-kept-i.result in
    let rows = c.saved_rows.result.now in
    let columns : c.as_slice-columns.result.now ≡ s.columns = c.as_slice-columns.ensures ∙ ap (λ (x : TableShape). x.columns) (sym c.index-shapes-i.is) in
    let others : c.as_slice.result.now ≡ k.columns = c.as_slice.ensures ∙ ap (λ (x : TableShape). x.columns) (sym c.index-kept-i.is) in
    let made : c.in_ok-rows.rows ≡ grown_rows s.columns k.columns rows =
    c.in_ok-rows.ensures ∙ ap₂ (λ (a b : List Column). grown_rows a b rows) columns others in
    let longer : c.push.new.self.items ≡ c.loop-i.all.items ++ c.of.result ∷ [] = search rules in
    let pushed : c.push.new.self.items ≡ c.loop-i.all.items ++ settled (grown_rows s.columns k.columns rows) ∷ [] =
    longer ∙ ap (λ (r : Rows). c.loop-i.all.items ++ r ∷ []) (c.of.ensures ∙ ap settled made) in
    let whole = map settled (grown_all shapes kept (map (λ (t : Rows). t.saved) tables)) in
    tables-more shapes kept tables c.loop-i.all.items c.push.new.self.items whole c.loop-i.i s k c.index.result.now rows c.loop-i-test.true
    c.requires.shapes c.requires.tables c.index-shapes-i.is c.index-kept-i.is c.index.ensures c.saved_rows.ensures c.loop-i.invariant pushed
