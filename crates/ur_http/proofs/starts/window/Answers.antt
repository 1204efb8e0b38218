use Rattle.std.proofs.Common.{◌∙◌, ap, sym, subst, ◌≤◌, length, take, arith, length-take}
use Rattle.ur_http.specs.Items.{window, whole_lines}
use Rattle.ur_http.proofs.Begun.{take_min, window_within, whole_lines_within}
use Rattle.ur_http.proofs.starts.window.Goals as goal

pub returns : goal.returns
unfolding window
returns c =
    let is = c.whole_lines.ensures ∙ ap whole_lines (ap (λ n. take n c.args.bytes.now) c.min-end.ensures ∙ take_min c.args.bytes.now 16384) in
    record {
      is = is;
      within = subst (λ t. length t ≤ length c.args.bytes.now) (sym is) (window_within c.args.bytes.now);
      bounded = subst (λ t. length t ≤ 16384) (sym is)
          (let w = whole_lines_within (take 16384 c.args.bytes.now) in let l = length-take 16384 c.args.bytes.now in omega arith);
    }
