use Rattle.std.proofs.Common.{◌≡◌, sym, ◌∙◌, bytes_eq, codes, true, false}
use Rattle.ur_rows_normal.proofs.NormalStanding.{form-empty}
use Rattle.ur_rows_normal.proofs.words.later_word.Goals as goal

pub returns-then-is-3 : goal.returns-then-is-3
returns-then-is-3 c =
    let e : bytes_eq c.args.x.now (codes "xtable") ≡ false = sym c.is.ensures ∙ c.if-is.false in
    let f : bytes_eq c.args.x.now (codes "xtr") ≡ false = sym c.is-2.ensures ∙ c.if-is-2.false in
    let g : bytes_eq c.args.x.now (codes "xform") ≡ true = sym c.is-3.ensures ∙ c.if-is-3.true in
    rw (e, f, g) (form-empty c.new.result c.new.ensures)
