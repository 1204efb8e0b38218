use Rattle.std.proofs.Common.{◌≡◌, Some, sym, ap, ◌∙◌, subst, length}
use Rattle.std.specs.Prelude.{slice_get}
use Rattle.ur_machine_operations.proofs.Fields.{AreNamed, none_named, one_named, all_named, as_many_there, name_there}
use Rattle.ur_machine_operations.proofs.records.fields_of.Goals as goal

pub loop-value-init : goal.loop-value-init
loop-value-init c = subst (AreNamed c.args.names.now c.args.values c.args.values) (sym c.new-fields.ensures) (none_named _ _ (as_many_there _ _ c.requires))

pub loop-value-preserved : goal.loop-value-preserved
loop-value-preserved c = let at : slice_get c.args.names.now (length c.pop.new.self) ≡ Some c.in-Some-get.name.now = subst (λ k. slice_get c.args.names.now k ≡ Some c.in-Some-get.name.now) c.len.ensures (sym c.in-Some-get.ensures.value) in
    subst (AreNamed c.args.names.now c.args.values c.pop.new.self) (sym c.in_ok-fields-in-Some-get.ensures)
    (one_named c.args.names.now c.args.values _ c.pop.new.self c.in-Some.value c.in-Some-get.name.now _ c.loop-value.invariant c.in-Some.ensures at)

pub unreachable-requires : goal.unreachable-requires
unreachable-requires c = name_there _ _ _ _ _ _ c.loop-value.invariant (as_many_there _ _ c.requires) c.in-Some.ensures (c.in-None.ensures.value ∙ ap (slice_get c.args.names.now) c.len.ensures)

pub returns : goal.returns
returns c = all_named _ _ _ _ c.loop-value.invariant c.in_default.ensures.0
