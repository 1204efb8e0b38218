-- The source of a module's file.
use Rattle.std.proofs.Common.{ℕ, List, string_bytes, ap, ◌∙◌}
use Rattle.ur_base.specs.Told.{WhereTold}
use Rattle.ur_load.specs.Names.{module_file}
use Rattle.ur_load.specs.Sources.{Lacks}
use Rattle.ur_load.specs.declared.source.Source.{Source}
use Rattle.ur_load.proofs.Found.{renamed, source_made}
use Rattle.ur_load.proofs.loading.module_source.Goals as goal

pub returns-in_ok-source-in-Ok-clause-source : goal.returns-in_ok-source-in-Ok-clause-source
returns-in_ok-source-in-Ok-clause-source g c =
    source_made (g.S.Shelf.told c.args.shelf.now) c.args.project.now c.args.number c.args.name.now c.deref.result.now (string_bytes c.in_ok-file.file) c.in-Ok.bytes c.in_ok-source-in-Ok.field-0 c.deref.ensures
    (c.in_ok-file.ensures ∙ ap (λ name. module_file c.args.project.now name) (c.module_text.ensures ∙ c.as_slice.ensures)) c.in_ok-source-in-Ok.ensures c.in-Ok.ensures.bytes

pub returns-in-Err-clause-refused : goal.returns-in-Err-clause-refused
returns-in-Err-clause-refused g c =
    renamed (List ℕ) Source (λ f r. WhereTold (g.S.Shelf.told c.args.shelf.now) (λ files. Lacks files f r)) c.deref.result.now (module_file c.args.project.now c.args.name.now) c.in-Err.end
    (c.deref.ensures ∙ c.in_ok-file.ensures ∙ ap (λ name. module_file c.args.project.now name) (c.module_text.ensures ∙ c.as_slice.ensures)) c.in-Err.ensures.refused
