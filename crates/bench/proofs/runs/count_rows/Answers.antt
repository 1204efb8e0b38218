use Rattle.bench.proofs.Unstuck.{counting_is_safe}
use Rattle.bench.proofs.runs.count_rows.Goals as goal

pub call-requires : goal.call-requires
call-requires c = counting_is_safe c.in_ok-functions.functions c.in_ok-args.args c.in_ok-functions.ensures c.in_ok-args.ensures
