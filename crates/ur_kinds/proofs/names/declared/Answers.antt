use Rattle.std.proofs.Common.{ap, sym, ◌∙◌, []}
use Rattle.ur_syntax.specs.HasKind.{Scope}
use Rattle.ur_kinds.specs.Walk.{key_of}
use Rattle.ur_kinds.proofs.Lookups.{within_last, is-last, not-last}
use Rattle.ur_kinds.proofs.names.declared.Goals as goal

pub returns-then-is_entry : goal.returns-then-is_entry
returns-then-is_entry c =
    let key = key_of c.args.key.now in
    let base : Scope = record { home = c.args.env.now.home; names = [] } in
    let entries = c.as_slice-entries.result.now in
    sym (ap (within_last key base) (sym c.as_slice-entries.ensures) ∙
    (c.loop-i.invariant ∙ is-last key base entries c.loop-i.i c.index-entries-count.result c.loop-i-test.true c.index-entries-count.is (sym c.is_entry.ensures ∙ c.if-is_entry.true)))

pub loop-i-preserved : goal.loop-i-preserved
loop-i-preserved c =
    let key = key_of c.args.key.now in
    let base : Scope = record { home = c.args.env.now.home; names = [] } in
    c.loop-i.invariant ∙
    not-last key base c.as_slice-entries.result.now c.loop-i.i c.index-entries-count.result c.loop-i-test.true c.index-entries-count.is (sym c.is_entry.ensures ∙ c.if-is_entry.false)
