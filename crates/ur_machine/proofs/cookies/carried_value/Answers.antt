use Rattle.std.proofs.Common.{IsUtf8, sym, subst}
use Rattle.ur_machine.proofs.Fitting.{first_is_utf8}
use Rattle.ur_machine.proofs.cookies.carried_value.Goals as goal

pub unreachable-requires : goal.unreachable-requires
unreachable-requires c =
    c.in-Err.ensures.cases.0 (subst IsUtf8 (sym c.as_slice.ensures) (first_is_utf8 c.args.cookie.now.name c.args.pairs.now c.in-Some.text.now c.requires c.in-Some.ensures))
