use Rattle.std.proofs.Common.{ap, ◌∙◌, codes}
use Rattle.ur_syntax.specs.declared.con.Con.{Con}
use Rattle.ur_kinds.specs.Walk.{scope_of}
use Rattle.ur_kinds.specs.Words.{is_word}
use Rattle.ur_kinds.proofs.Walking.{map-of}
use Rattle.ur_kinds.proofs.words.is_map.Goals as goal

pub returns-in-App : goal.returns-in-App
returns-in-App c = map-of (scope_of c.args.names.now) c.args.con.now.form c.in-App.h c.in-App.field-1 c.is_word.result c.in-App.is
    (c.is_word.ensures ∙ ap (λ (z : Con). is_word (codes "map") (scope_of c.args.names.now) z.form) c.get.ensures)
