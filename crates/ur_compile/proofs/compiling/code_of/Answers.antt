-- Each step's refusal is a reason; the last code is for the application.
use Rattle.std.proofs.Common.{sym, subst, ◌∙◌}
use Rattle.ur_code.specs.Sound.{NeverStuck}
use Rattle.ur_mono.specs.Mono.{IsCodeOf}
use Rattle.ur_effects.specs.Refused.{GetNeverWrites}
use Rattle.ur_compile.specs.Explains as explains
use Rattle.ur_compile.specs.Explains.{HasCode}
use Rattle.ur_compile.proofs.Kept.{code_for, has_code, none_exceeded}
use Rattle.ur_compile.proofs.Refusing.{refused_exit}
use Rattle.ur_compile.proofs.compiling.code_of.Goals as goal

pub returns-in_err-closed-clause-refused : goal.returns-in_err-closed-clause-refused
returns-in_err-closed-clause-refused c =
    refused_exit c.from_residual.result c.in_err-closed.field-0.0 c.from_residual.ensures.1 (λ r h. explains.unfolded h) c.in_err-closed.ensures.refused

pub returns-in_err-verified-clause-refused : goal.returns-in_err-verified-clause-refused
returns-in_err-verified-clause-refused c =
    let has = has_code c.args.typed c.in_ok-closed.closed c.in_ok-code.code c.in_ok-closed.ensures.small c.in_ok-closed.ensures.instances c.in_ok-code.ensures.code in
    refused_exit c.from_residual-in_err-verified.result c.in_err-verified.field-0.0 c.from_residual-in_err-verified.ensures.1 (λ r h. explains.unfit c.in_ok-code.code has h) c.in_err-verified.ensures.refused

pub returns-in_err-effects-clause-refused : goal.returns-in_err-effects-clause-refused
returns-in_err-effects-clause-refused c =
    let has = has_code c.args.typed c.in_ok-closed.closed c.in_ok-code.code c.in_ok-closed.ensures.small c.in_ok-closed.ensures.instances c.in_ok-code.ensures.code in
    let code = c.code.result.now in
    refused_exit c.from_residual-in_err-effects.result c.in_err-effects.field-0.0 c.from_residual-in_err-effects.ensures.1
    (λ r h. explains.writes code (subst (HasCode c.args.typed) (sym (c.code.ensures.same ∙ c.in_ok-verified.ensures.same)) has) c.code.ensures.fits h) c.in_err-effects.ensures.refused

pub returns-in_err-within-clause-refused : goal.returns-in_err-within-clause-refused
returns-in_err-within-clause-refused c =
    let has = has_code c.args.typed c.in_ok-closed.closed c.in_ok-code.code c.in_ok-closed.ensures.small c.in_ok-closed.ensures.instances c.in_ok-code.ensures.code in
    let code = c.code.result.now in
    refused_exit c.from_residual-in_err-within.result c.in_err-within.field-0.0 c.from_residual-in_err-within.ensures.1
    (λ r h.
    explains.limit code h.0 (subst (HasCode c.args.typed) (sym (c.code.ensures.same ∙ c.in_ok-verified.ensures.same)) has) c.code.ensures.fits c.in_ok-effects.ensures.none (sym c.exceeded-over.ensures.first ∙ h.1) h.2)
    c.in_err-within.ensures.refused

pub returns-clause-code : goal.returns-clause-code
returns-clause-code c =
    let code = c.in_ok-verified.verified in
    let same = sym c.in_ok-verified.ensures.same in
    code_for c.code_keeps_meaning.ensures c.args.typed c.in_ok-closed.closed code c.in_ok-closed.ensures.instances (subst (IsCodeOf c.in_ok-closed.closed) same c.in_ok-code.ensures.code) c.in_ok-verified.ensures.fits
    (subst NeverStuck same c.never_stuck.ensures) (subst GetNeverWrites c.code.ensures.same c.in_ok-effects.ensures.none) c.in_ok-closed.ensures.small
    (none_exceeded c.args.typed _ c.exceeded-over.result c.in_ok-within.ensures.none c.exceeded-over.ensures.within)
