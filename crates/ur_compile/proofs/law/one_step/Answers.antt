use Rattle.ur_compile.proofs.OneStep as steps
use Rattle.ur_compile.proofs.law.one_step.Goals as goal

pub returns : goal.returns
returns c =
    steps.one_step c.one_refusal.ensures c.one_fault_of_kinds.ensures c.faulty_is_not_kinded.ensures c.caused_is_none.ensures
    c.refused_is_not_loaded.ensures c.one_project.ensures c.one_application.ensures
