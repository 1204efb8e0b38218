-- The refusal of the first file that is not there or is too long.
use Rattle.std.proofs.Common.{List, Option, ◌∙◌}
use Rattle.ur_load.specs.Names.{main_of, signature_file}
use Rattle.ur_load.specs.declared.source.Source.{Source}
use Rattle.ur_load.specs.declared.source.Sources.{Sources}
use Rattle.ur_load.proofs.Found.{modules_refused, signature_refused, sources_before, lacks_before, long_before}
use Rattle.ur_load.proofs.loading.load_sources.Goals as goal

pub returns-in-Err-clause-refused : goal.returns-in-Err-clause-refused
returns-in-Err-clause-refused g c =
    let told = g.S.Shelf.told c.args.shelf.now in
    modules_refused (List Source) Sources told c.args.project.now c.in_ok-names.names c.in-Err.end c.in_ok-names.ensures.names
    (lacks_before (List Source) (g.S.Shelf.told c.load_names.new.shelf) told c.args.project.now c.in_ok-names.names c.in-Err.end c.load_names.ensures.kept (rw c.as_slice.ensures at c.in-Err.ensures.refused))

pub returns-clause-refused : goal.returns-clause-refused
returns-clause-refused g c =
    let told = g.S.Shelf.told c.args.shelf.now in
    signature_refused (Option Source) Sources told c.args.project.now c.in_ok-names.names c.in-Ok.modules c.in-Err-load_signature.end c.in_ok-names.ensures.names
    (sources_before (g.S.Shelf.told c.load_names.new.shelf) told c.args.project.now c.in_ok-names.names c.in-Ok.modules c.load_names.ensures.kept (rw c.as_slice.ensures at c.in-Ok.ensures.sources))
    (long_before (Option Source) (g.S.Shelf.told c.load_modules.new.shelf) told (signature_file c.args.project.now (main_of c.in_ok-names.names)) c.in-Err-load_signature.end
    (c.load_modules.ensures.kept ∙ c.load_names.ensures.kept) (rw c.as_slice-2.ensures at c.in-Err-load_signature.ensures.refused))
