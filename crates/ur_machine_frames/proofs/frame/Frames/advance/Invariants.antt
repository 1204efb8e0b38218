use Rattle.std.proofs.Common.{◌≡◌, ◌≤◌, List, []}
use Rattle.ur_values.specs.Event.{Event}
use Rattle.ur_values.specs.Store.{Store}
use Rattle.ur_terms.specs.Run.{Does}
use Rattle.ur_machine_frames.specs.Plays.{Plays, until, no_store}
use Rattle.ur_machine_frames.specs.Steps.{Stands, IsSafe, beginning, left, work}
use Rattle.ur_machine_frames.specs.Places.{AreLed}
use Rattle.ur_machine_frames.proofs.frame.Frames.advance.Given as goal

abbrev pub invariant-loop-next : goal.invariant-loop-next
invariant-loop-next g l = record {
  same : (d : Does) → Plays d → (store : Store) (events : List Event) → left d l.functions l.initial.self l.initial.control store events ≡ left d l.functions l.self l.control store events;
  stands : Stands l.functions l.self l.control;
  units : l.self.units ≤ l.initial.self.units;
  safe : IsSafe l.functions l.self (beginning l.functions l.control);
  led : AreLed l.functions l.self.frames l.places.known;
}

abbrev pub decreases-loop-next : goal.decreases-loop-next
decreases-loop-next g l = work until l.functions l.self l.control no_store []
