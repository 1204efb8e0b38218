-- The chunk at the end is the page's.
use Rattle.std.proofs.Common.{ap, subst, ◌∙◌}
use Rattle.ur_tags.specs.Show.{document}
use Rattle.ur_machine.specs.Rest.{IsEnd}
use Rattle.ur_machine.proofs.AtOnce.{page_written}
use Rattle.ur_machine.proofs.rest.page_of_rest.Goals as goal

pub returns-in_ok-page-in-Chunk : goal.returns-in_ok-page-in-Chunk
returns-in_ok-page-in-Chunk c =
    page_written c.args.code.now c.args.machine.now c.in-Chunk.chunk c.in_ok-page-in-Chunk.page (c.in_ok-page-in-Chunk.ensures ∙ ap document c.as_slice.ensures)
    (subst (IsEnd c.args.code.now c.args.machine.now) c.in-Chunk.is c.in-Ok.ensures)
