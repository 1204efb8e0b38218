use Rattle.std.proofs.Common.{ap₂, sym, ◌∙◌}
use Rattle.ur_syntax.specs.declared.kind.Kind.TheVariants as kind
use Rattle.ur_kinds.proofs.Lookups.{arrow-text}
use Rattle.ur_kinds.proofs.kinds.+writing.Goals as goal

pub write_kind-returns-in_ok-write_kind-in-Arrow : goal.write_kind-returns-in_ok-write_kind-in-Arrow
write_kind-returns-in_ok-write_kind-in-Arrow t c = arrow-text c.args.k.now c.get.result.now c.get-in-Arrow.result.now c.args.out.now c.write_around.new.out c.extend_from_slice-in-Arrow.new.self c.write_kind.new.out (c.in-Arrow.is ∙ ap₂ kind.Arrow (sym c.get.ensures) (sym c.get-in-Arrow.ensures))
    c.in_ok-write_around-in-Arrow.ensures c.in_ok-extend_from_slice-in-Arrow.ensures.ok c.in_ok-write_kind-in-Arrow.ensures
