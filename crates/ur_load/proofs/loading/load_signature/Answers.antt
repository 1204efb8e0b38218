-- The signature's file is too long.
use Rattle.std.proofs.Common.{ℕ, List, Option, ap, ◌∙◌}
use Rattle.ur_base.specs.Told.{WhereTold}
use Rattle.ur_load.specs.Names.{signature_file, main_of}
use Rattle.ur_load.specs.Sources.{IsTooLong}
use Rattle.ur_load.specs.declared.source.Source.{Source}
use Rattle.ur_load.proofs.Found.{renamed}
use Rattle.ur_load.proofs.loading.load_signature.Goals as goal

pub returns-in-Err-clause-refused : goal.returns-in-Err-clause-refused
returns-in-Err-clause-refused g c =
    renamed (Option (List ℕ)) (Option Source) (λ f r. WhereTold (g.S.Shelf.told c.args.shelf.now) (λ files. IsTooLong files f r)) c.deref.result.now
    (signature_file c.args.project.now (main_of c.args.names.now)) c.in-Err.end
    (c.deref.ensures ∙ c.in_ok-file.ensures ∙ ap (λ n. signature_file c.args.project.now n) (c.module_text.ensures ∙ c.as_slice.ensures ∙ c.main_module-name.ensures.main)) c.in-Err.ensures.refused
