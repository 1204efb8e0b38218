use Rattle.ur_terms.proofs.Bound.{does_never_raises, outcome_body, outcome_leaves}
use Rattle.ur_terms.proofs.Cost.{cost_body}
use Rattle.ur_terms.proofs.Shift.{outcome_events}
use Rattle.ur_terms.specs.Ops.{does}
use Rattle.ur_terms.proofs.law.calls_are_bodies.Goals as goal

pub returns-clause-body : goal.returns-clause-body
returns-clause-body c = λ d steady fs f xs s. outcome_body d steady fs f xs s

pub returns-clause-units : goal.returns-clause-units
returns-clause-units c = λ sql fs f xs s. outcome_leaves (does sql) (does_never_raises sql) fs f xs s

pub returns-clause-events : goal.returns-clause-events
returns-clause-events c = λ before sql fs f xs s. outcome_events before sql fs f xs s

pub returns-clause-costs : goal.returns-clause-costs
returns-clause-costs c = λ d steady fs f xs s. cost_body d steady fs f xs s
