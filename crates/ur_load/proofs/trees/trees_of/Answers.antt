-- One tree more, or the first module without one.
use Rattle.std.proofs.Common.{◌≡◌, List, get_or, sym, rules, subst, take, ◌+◌}
use Rattle.ur_syntax.specs.declared.decl.Module.{Module}
use Rattle.ur_load.specs.Sources.{HaveTrees}
use Rattle.ur_load.proofs.Reading.{one_more, small_at, module_refused, no_fault_in}
use Rattle.ur_load.proofs.trees.trees_of.Goals as goal

pub tree_of-requires : goal.tree_of-requires
tree_of-requires c =
    let place : c.source-item.result ≡ get_or c.args.sources.now c.loop-source.source-index c.source-item.result = search rules in
    small_at c.args.sources.now c.loop-source.source-index c.source-item.result c.loop-source-test.true place c.requires

pub refused_at-requires : goal.refused_at-requires
refused_at-requires c =
    let place : c.source-item.result ≡ get_or c.args.sources.now c.loop-source.source-index c.source-item.result = search rules in
    small_at c.args.sources.now c.loop-source.source-index c.source-item.result c.loop-source-test.true place c.requires

pub loop-source-preserved : goal.loop-source-preserved
loop-source-preserved c =
    let place : c.source-item.result ≡ get_or c.args.sources.now c.loop-source.source-index c.source-item.result = search rules in
    subst (λ ts. HaveTrees (take (c.loop-source.source-index + 1) c.args.sources.now) ts) (sym c.in_ok-push-in-Ok.ensures.ok)
    (one_more c.args.sources.now c.loop-source.source-index c.source-item.result c.loop-source.trees c.in-Ok.tree c.loop-source-test.true place c.loop-source.invariant c.in-Ok.ensures.tree)

pub returns-in-Err-clause-refused : goal.returns-in-Err-clause-refused
returns-in-Err-clause-refused c =
    let place : c.source-item.result ≡ get_or c.args.sources.now c.loop-source.source-index c.source-item.result = search rules in
    module_refused Module (List Module) c.args.sources.now c.loop-source.source-index c.source-item.result c.loop-source.trees c.in-Err.stop c.refused_at.result
    c.loop-source-test.true place c.loop-source.invariant c.in-Err.ensures.refused c.refused_at.ensures

pub returns-in-Err-clause-no_shelf : goal.returns-in-Err-clause-no_shelf
returns-in-Err-clause-no_shelf c = no_fault_in (List Module) _ c.source-item.result c.in-Err.stop c.refused_at.result c.refused_at.ensures
