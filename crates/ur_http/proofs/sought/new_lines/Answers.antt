-- The window grows by whole lines.
use Rattle.std.proofs.Common.{◌≡◌, ◌++◌, ◌∙◌, ap, sym, subst, false, drop, take}
use Rattle.std.specs.List.{list_any}
use Rattle.std.proofs.lemmas.List.{take_rest}
use Rattle.ur_http.specs.Items.{window}
use Rattle.ur_http.proofs.Windows.{is_line_feed}
use Rattle.ur_http.proofs.Fronts.{no_new_lines, new_are}
use Rattle.ur_http.proofs.sought.new_lines.Goals as goal

pub returns-then-has_no_line_end : goal.returns-then-has_no_line_end
returns-then-has_no_line_end c =
    no_new_lines c.args.bytes.now c.args.seen c.requires.within c.requires.short
    (subst (λ t. list_any is_line_feed t ≡ false) (take_rest c.args.bytes.now c.args.seen) (c.has_no_line_end.ensures c.if-has_no_line_end.true))

pub returns : goal.returns
returns c =
    let seen = window (take c.args.seen c.args.bytes.now) in
    new_are c.args.bytes.now c.args.seen
    ∙ ap (λ t. seen ++ t)
    (sym (take_rest c.window.result.now c.lines_seen-old.result ∙ ap (drop c.lines_seen-old.result) c.window.ensures.is ∙ ap (λ n. drop n (window c.args.bytes.now)) c.lines_seen-old.ensures.is))
