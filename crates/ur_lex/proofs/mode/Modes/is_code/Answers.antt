use Rattle.std.proofs.Common.{◌∙◌, sym, ap}
use Rattle.std.specs.Prelude.{◌&&◌, reverse}
use Rattle.std.specs.List.{list_all}
use Rattle.ur_lex.specs.Modes.{is_code}
use Rattle.ur_lex.proofs.Texts.{list_all_reverse}
use Rattle.ur_lex.proofs.mode.Modes.is_code.Goals as goal

pub returns-then-is_code : goal.returns-then-is_code
returns-then-is_code c =
    let m = c.self.inside in
    c.all_code.ensures ∙ ap (list_all is_code) c.as_slice.ensures ∙ sym (list_all_reverse is_code m.outer) ∙ ap (λ z. z && list_all is_code (reverse m.outer)) c.if-is_code.ensures ∙ ap (list_all is_code) c.self.view_is
