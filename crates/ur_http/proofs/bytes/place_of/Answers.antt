-- The first item that passes the test.
use Rattle.std.proofs.Common.{◌==◌, rules, tests, length}
use Rattle.std.specs.List.{position_or_len}
use Rattle.std.proofs.lemmas.Iterator.{YieldsList-from_slice}
use Rattle.std.proofs.lemmas.Iterator.Search.{position_from_yields_List}
use Rattle.ur_http.proofs.Places.{place_or_end, place_within}
use Rattle.ur_http.proofs.bytes.place_of.Goals as goal

pub returns-clause-place : goal.returns-clause-place
returns-clause-place c =
    place_or_end (position_or_len (λ b. b == c.args.byte) c.args.bytes.now) (length c.args.bytes.now) _ (place_within c.args.byte c.args.bytes.now)
    (position_from_yields_List (λ b. b == c.args.byte) _ _ _ c.position.ensures.ran (YieldsList-from_slice c.args.bytes.now c.iter.ensures.rest) (λ x b q k. search (rules, tests)))
