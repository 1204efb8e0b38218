use Rattle.std.proofs.Common.{◌≡◌, ◌++◌, map, drop, option_map}
use Rattle.ur_tags.specs.Paths.{decode_all}
use Rattle.ur_tags.proofs.paths.decode_all.Given as goal

abbrev pub invariant-loop-segment : goal.invariant-loop-segment
invariant-loop-segment l =
    option_map (λ texts. l.texts ++ texts) (decode_all (map (λ s. s.now) (drop l.segment-index l.segments))) ≡ decode_all (map (λ s. s.now) l.segments)
