use Rattle.std.proofs.Common.{◌≡◌, ◌++◌, take, flat_map, slice_get, codes}
use Rattle.ur_effects.specs.Refused.{name_of}
use Rattle.ur_effects.proofs.refusing.chain_text.Given as goal

abbrev pub invariant-loop-function : goal.invariant-loop-function
invariant-loop-function l = l.text ≡ l.initial.text ++ flat_map (λ f. codes " > " ++ name_of (slice_get l.functions f)) (take l.function-index l.rest)
