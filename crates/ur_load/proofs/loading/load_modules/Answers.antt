-- One source more, or the first module whose file is not there.
use Rattle.std.proofs.Common.{◌≡◌, ◌+◌, List, get_or, take, sym, subst, ◌∙◌, arith, rules}
use Rattle.ur_base.specs.Told.{WhereTold}
use Rattle.ur_load.specs.Names.{module_file}
use Rattle.ur_load.specs.Sources.{AreSources, IsSource}
use Rattle.ur_load.specs.Loads.{AreSmall}
use Rattle.ur_load.specs.declared.source.Source.{Source}
use Rattle.ur_load.proofs.Found.{word_at, sources_more, small_more, module_refused, told_before}
use Rattle.ur_load.proofs.loading.load_modules.Goals as goal

pub module_source-requires : goal.module_source-requires
module_source-requires g c =
    let place : c.name-item.result ≡ get_or c.args.names.now c.loop-name.name-index c.name-item.result = search rules in
    word_at c.args.names.now c.loop-name.name-index c.name-item.result c.loop-name-test.true place c.requires.words

pub loop-name-preserved : goal.loop-name-preserved
loop-name-preserved g c =
    let told = g.S.Shelf.told c.args.shelf.now in
    let names = c.args.names.now in
    let i = c.loop-name.name-index in
    let place : c.name-item.result ≡ get_or names i c.name-item.result = search rules in
    let one = subst (λ o. WhereTold o (λ files. IsSource files c.args.project.now c.loop-name.number c.name-item.result c.in-Ok.source)) c.loop-name.invariant.kept c.in-Ok.ensures.source in
    record {
      numbered = omega (arith, c.loop-name.invariant.numbered);
      sources = subst (λ ss. WhereTold told (λ files. AreSources files c.args.project.now 1 (take (i + 1) names) ss)) (sym c.in_ok-push-in-Ok.ensures.ok)
          (sources_more told c.args.project.now names i c.loop-name.number c.name-item.result c.loop-name.sources c.in-Ok.source c.loop-name-test.true place c.loop-name.invariant.numbered c.loop-name.invariant.sources one);
      small = subst AreSmall (sym c.in_ok-push-in-Ok.ensures.ok) (small_more c.loop-name.sources c.in-Ok.source c.loop-name.invariant.small (c.in-Ok.ensures.small, tt));
      later = omega (arith, c.loop-name.invariant.later, c.module_source.ensures.never_falls);
      kept = c.module_source.ensures.kept ∙ c.loop-name.invariant.kept;
    }

pub returns-in-Err-clause-refused : goal.returns-in-Err-clause-refused
returns-in-Err-clause-refused g c =
    let told = g.S.Shelf.told c.args.shelf.now in
    let names = c.args.names.now in
    let i = c.loop-name.name-index in
    let place : c.name-item.result ≡ get_or names i c.name-item.result = search rules in
    let file = module_file c.args.project.now c.name-item.result in
    module_refused Source (List Source) told c.args.project.now names i c.name-item.result c.loop-name.sources c.in-Err.end c.loop-name-test.true place c.loop-name.invariant.sources
    (told_before Source (g.S.Shelf.told c.loop-name.shelf) told file c.in-Err.end c.loop-name.invariant.kept c.in-Err.ensures.refused)
