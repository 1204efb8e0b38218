use Rattle.std.proofs.Common.{Bool, cond, [], ◌∷◌, ◌++◌, ap, sym, ◌∙◌}
use Rattle.std.specs.List.{list_any}
use Rattle.ur_conditions.specs.Patterns.{pattern_eq}
use Rattle.ur_invalidate.proofs.FirstOnes.{kept_more}
use Rattle.ur_invalidate.proofs.site.keep_new.Goals as goal

pub returns-then-is_among : goal.returns-then-is_among
returns-then-is_among c from are =
    kept_more from c.args.kept c.args.kept c.args.pattern c.is_among.result are (c.is_among.ensures ∙ ap (list_any (λ other. pattern_eq other c.args.pattern)) c.as_slice.ensures)
    (ap (λ (b : Bool). cond b c.args.kept (c.args.kept ++ c.args.pattern ∷ [])) (sym c.if-is_among.true))

pub returns : goal.returns
returns c from are =
    kept_more from c.args.kept c.push.new.self c.args.pattern c.is_among.result are (c.is_among.ensures ∙ ap (list_any (λ other. pattern_eq other c.args.pattern)) c.as_slice.ensures)
    (c.in_ok-push.ensures.ok ∙ ap (λ (b : Bool). cond b c.args.kept (c.args.kept ++ c.args.pattern ∷ [])) (sym c.if-is_among.false))
