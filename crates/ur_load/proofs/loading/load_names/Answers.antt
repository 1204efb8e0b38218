-- What the project file names.
use Rattle.std.proofs.Common.{ℕ, List, string_bytes, ◌∙◌}
use Rattle.ur_load.proofs.Found.{names_found, words_found, some_found, project_bad, project_lacks, no_fault}
use Rattle.ur_load.proofs.loading.load_names.Goals as goal

pub returns-in-Ok-clause-names : goal.returns-in-Ok-clause-names
returns-in-Ok-clause-names g c =
    names_found (g.S.Shelf.told c.args.shelf.now) c.args.project.now c.deref.result.now c.in-Ok.bytes c.names_in.result (c.deref.ensures ∙ c.in_ok-file.ensures) c.in-Ok.ensures.bytes
    (rw c.as_slice.ensures at c.names_in.ensures.project) c.names_in.ensures.few

pub returns-in-Ok-clause-words : goal.returns-in-Ok-clause-words
returns-in-Ok-clause-words g c = words_found c.as_slice.result.now c.names_in.result c.names_in.ensures.project

pub returns-in-Ok-clause-some : goal.returns-in-Ok-clause-some
returns-in-Ok-clause-some g c = some_found c.as_slice.result.now c.names_in.result c.names_in.ensures.project

pub returns-in-Ok-clause-refused : goal.returns-in-Ok-clause-refused
returns-in-Ok-clause-refused g c =
    let why = rw c.deref-in-Ok.ensures at c.names_in.ensures.refused in
    project_bad (g.S.Shelf.told c.args.shelf.now) c.args.project.now (string_bytes c.in_ok-file.file) c.in-Ok.bytes c.names_in.result c.in_ok-file.ensures (rw c.deref.ensures at c.in-Ok.ensures.bytes)
    (rw c.as_slice.ensures at why)

pub returns-in-Ok-clause-shelf : goal.returns-in-Ok-clause-shelf
returns-in-Ok-clause-shelf g c = no_fault _ c.names_in.result c.names_in.ensures.no_shelf

pub returns-clause-refused : goal.returns-clause-refused
returns-clause-refused g c =
    project_lacks (List ℕ) (List (List ℕ)) (g.S.Shelf.told c.args.shelf.now) c.args.project.now c.deref.result.now c.in-Err.end (c.deref.ensures ∙ c.in_ok-file.ensures) c.in-Err.ensures.refused
