-- Where the frames of a machine lead, as far as it is known within a turn.
use Rattle.std.specs.Prelude.{◌≡◌, List, [], ◌∷◌, Some}
use Rattle.std.specs.Borrow.{Bor}
use Rattle.ur_terms.specs.declared.term.Function.{Function}
use Rattle.ur_terms.specs.declared.term.Term.{Term}
use Rattle.ur_machine_frames.specs.declared.frame.Frame.{Frame}
use Rattle.ur_machine_frames.specs.declared.control.Next.{Next}
use Rattle.ur_machine_frames.specs.declared.control.Next.TheVariants as next
use Rattle.ur_machine_frames.specs.Rest.{standing}
use Rattle.ur_machine_frames.specs.Steps.{below}

-- the nearest frames lead to these terms, each frame to its own
abbrev pub AreLed : List Function → List Frame → List (Bor Term) → Type 0
AreLed fs frames [] = Unit {0}
AreLed fs frames (p ∷ places) = (standing fs frames ≡ Some p.now) × AreLed fs (below frames) places

-- what holds of a run that goes on
abbrev pub IfOn : Next → Type 0 → Type 0
IfOn (next.On c) P = P
IfOn (next.Off p) P = Unit {0}
