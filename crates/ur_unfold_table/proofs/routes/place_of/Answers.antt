use Rattle.std.proofs.Common.{ℕ, ◌==◌, rules, tests}
use Rattle.std.proofs.lemmas.Iterator.{YieldsList-from_slice}
use Rattle.std.proofs.lemmas.Iterator.Search.{position_from_yields_List}
use Rattle.ur_unfold_table.proofs.routes.place_of.Goals as goal

pub returns : goal.returns
returns c = position_from_yields_List (λ (n : ℕ). n == c.args.k) _ _ c.position.result c.position.ensures.ran (YieldsList-from_slice _ c.iter.ensures.rest) (λ x b q k. search (rules, tests))
