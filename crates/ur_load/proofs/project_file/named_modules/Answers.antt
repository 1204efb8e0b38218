use Rattle.std.proofs.Common.{◌∙◌, ◌≡◌, sym, take, true, false, arith}
use Rattle.ur_load.specs.Placed.{texts, SaysLine}
use Rattle.ur_load.specs.Project.{RefusesProject}
use Rattle.ur_load.proofs.Refusing.{passed, ready, Ready, file_refused, none_refused, project_is, many_refused}
use Rattle.ur_load.proofs.project_file.named_modules.Goals as goal

pub returns-in_err-begin-clause-refused : goal.returns-in_err-begin-clause-refused
returns-in_err-begin-clause-refused c =
    let r : Ready c.args.text.now (take c.filled-len.result c.as_slice-2.result.now) = ready c.args.text.now c.in_ok-found.found c.as_slice.result.now c.as_slice-2.result.now c.filled-len.result c.as_slice.ensures c.as_slice-2.ensures c.filled-len.ensures.within c.filled-len.ensures.lines c.in_ok-found.ensures.texts c.in_ok-found.ensures.places in
    passed {R = SaysLine (take c.filled-len.result c.as_slice-2.result.now)} {S = RefusesProject c.args.file.now c.args.text.now} _ _ c.from_residual-in_err-begin.ensures.1 c.in_err-begin.ensures.refused
    (λ e h. file_refused c.args.file.now c.args.text.now (take c.filled-len.result c.as_slice-2.result.now) e r c.requires.text h)

pub returns-in_err-modules-clause-refused : goal.returns-in_err-modules-clause-refused
returns-in_err-modules-clause-refused c =
    let r : Ready c.args.text.now (take c.filled-len.result c.as_slice-2.result.now) = ready c.args.text.now c.in_ok-found.found c.as_slice.result.now c.as_slice-2.result.now c.filled-len.result c.as_slice.ensures c.as_slice-2.ensures c.filled-len.ensures.within c.filled-len.ensures.lines c.in_ok-found.ensures.texts c.in_ok-found.ensures.places in
    passed {R = SaysLine (take c.filled-len.result c.as_slice-2.result.now)} {S = RefusesProject c.args.file.now c.args.text.now} _ _ c.from_residual-in_err-modules.ensures.1 c.in_err-modules.ensures.refused
    (λ e h. file_refused c.args.file.now c.args.text.now (take c.filled-len.result c.as_slice-2.result.now) e r c.requires.text h)

pub returns-then-is_empty-clause-refused : goal.returns-then-is_empty-clause-refused
returns-then-is_empty-clause-refused c =
    let r : Ready c.args.text.now (take c.filled-len.result c.as_slice-2.result.now) = ready c.args.text.now c.in_ok-found.found c.as_slice.result.now c.as_slice-2.result.now c.filled-len.result c.as_slice.ensures c.as_slice-2.ensures c.filled-len.ensures.within c.filled-len.ensures.lines c.in_ok-found.ensures.texts c.in_ok-found.ensures.places in
    none_refused c.args.file.now c.args.text.now (texts (take c.filled-len.result c.as_slice-2.result.now)) _ c.refused.result c.requires.text r.are c.in_ok-begin.ensures.found (sym c.in_ok-modules.ensures.found ∙ c.is_empty.ensures.0 c.if-is_empty.true) c.refused.ensures

pub returns-then-len-gt-MAX_MODULES-clause-refused : goal.returns-then-len-gt-MAX_MODULES-clause-refused
returns-then-len-gt-MAX_MODULES-clause-refused c =
    let r : Ready c.args.text.now (take c.filled-len.result c.as_slice-2.result.now) = ready c.args.text.now c.in_ok-found.found c.as_slice.result.now c.as_slice-2.result.now c.filled-len.result c.as_slice.ensures c.as_slice-2.ensures c.filled-len.ensures.within c.filled-len.ensures.lines c.in_ok-found.ensures.texts c.in_ok-found.ensures.places in
    many_refused c.args.file.now c.args.text.now c.in_ok-modules.modules c.refused-then-len-gt-MAX_MODULES.result
    (project_is c.args.text.now (texts (take c.filled-len.result c.as_slice-2.result.now)) c.in_ok-modules.modules c.requires.text r.are (rw c.in_ok-modules.ensures.found c.in_ok-begin.ensures.found) c.in_ok-modules.ensures.fit (λ z. let t : true ≡ false = sym (c.is_empty.ensures.1 z) ∙ c.if-is_empty.false in cc))
    (omega (arith, c.len.ensures)) c.refused-then-len-gt-MAX_MODULES.ensures

pub returns-clause-project : goal.returns-clause-project
returns-clause-project c =
    let r : Ready c.args.text.now (take c.filled-len.result c.as_slice-2.result.now) = ready c.args.text.now c.in_ok-found.found c.as_slice.result.now c.as_slice-2.result.now c.filled-len.result c.as_slice.ensures c.as_slice-2.ensures c.filled-len.ensures.within c.filled-len.ensures.lines c.in_ok-found.ensures.texts c.in_ok-found.ensures.places in
    project_is c.args.text.now (texts (take c.filled-len.result c.as_slice-2.result.now)) c.in_ok-modules.modules c.requires.text r.are (rw c.in_ok-modules.ensures.found c.in_ok-begin.ensures.found) c.in_ok-modules.ensures.fit (λ z. let t : true ≡ false = sym (c.is_empty.ensures.1 z) ∙ c.if-is_empty.false in cc)
