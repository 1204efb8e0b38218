use Rattle.std.proofs.Common.{◌∙◌, ap}
use Rattle.ur_code.specs.declared.code.Code.{Code}
use Rattle.ur_invalidate.specs.Texts.{sites_text}
use Rattle.ur_top.proofs.Coded.{coded, listed}
use Rattle.ur_top.proofs.reports.listed.Goals as goal

pub returns-in-Ok : goal.returns-in-Ok
returns-in-Ok c = record {
  ends = λ told word faults faults' h. (
    listed told word c.args.compiled.now.verified c.args.compiled.now.patterns c.in-Ok.text c.requires.exact
        (c.in-Ok.ensures ∙ ap (λ (x : Code). sites_text x.queries x.changes c.args.compiled.now.patterns) c.code-code.ensures.same) h,
    coded told word c.args.compiled.now.verified h,
  );
}
