use Rattle.ur_machine_operations.proofs.ints.subtract.Goals as goal

pub two_ints-a-requires : goal.two_ints-a-requires
two_ints-a-requires c = (_, c.requires.1)
