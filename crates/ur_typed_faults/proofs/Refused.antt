-- A tag or a frame that is refused has no answer, as ur_xmltype's laws say.
use Rattle.std.proofs.Common.{ap}
use Rattle.std.specs.Prelude.{is_none}
use Rattle.ur_xmltype.specs.Tags.{if_so, node_by, tag_of}
use Rattle.ur_xmltype.specs.Faults.{twice, misplaced}
use Rattle.ur_xmltype.specs.Laws.{BadTagIsNone, BadFrameIsNone}

pub bad_tag-none : BadTagIsNone
bad_tag-none l p t attrs bare r (twice e s) = ap (λ o. if_so (is_none o) (node_by l p t attrs bare (tag_of t.word))) e
bad_tag-none l p t attrs bare r (misplaced e n s) = n

pub bad_frame-none : BadFrameIsNone
bad_frame-none n s parts r h = ap is_none h.breaks
