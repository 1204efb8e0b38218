use Rattle.ur_top.proofs.Noted.{notes_are}
use Rattle.ur_top.proofs.notes_of_load.notes_files.Goals as goal

pub returns : goal.returns
returns c =
    notes_are c.new-files.result c.add.new.files c.add-2.new.files c.add-3.new.files c.project.result.now c.module.result.now c.signature.result.now c.new-files.ensures
    c.project.ensures c.module.ensures c.signature.ensures c.in_ok-add.ensures c.in_ok-add-2.ensures c.in_ok-add-3.ensures
