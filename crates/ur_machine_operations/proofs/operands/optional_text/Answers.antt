use Rattle.std.proofs.Common.{ap}
use Rattle.ur_terms.specs.Ops.{optional_text}
use Rattle.ur_machine_operations.proofs.Opened.{text_there, text_got}
use Rattle.ur_machine_operations.proofs.operands.optional_text.Goals as goal

pub into_text-requires : goal.into_text-requires
into_text-requires c = text_there _ _ _ c.requires c.in-Some.ensures

pub returns-in-Some : goal.returns-in-Some
returns-in-Some c = text_got _ _ _ _ c.requires c.in-Some.ensures c.into_text.ensures

pub returns : goal.returns
returns c = ap optional_text c.in-None.ensures.0
