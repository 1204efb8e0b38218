use Rattle.ur_machine_frames.proofs.Blind.{anywhere}
use Rattle.ur_machine_frames.proofs.Playing.{does_plays}
use Rattle.ur_machine_frames.proofs.Pure.{pure_outcome, pure_never_pauses}
use Rattle.ur_machine_frames.proofs.frames_law.laws_of_runs.Goals as goal

pub returns-clause-tables : goal.returns-clause-tables
returns-clause-tables c = λ sql. does_plays sql

pub returns-clause-alike : goal.returns-clause-alike
returns-clause-alike c = λ d e p q fs pure f xs s. pure_outcome fs pure d e p q f xs s

pub returns-clause-never_stops : goal.returns-clause-never_stops
returns-clause-never_stops c = λ fs pure f args carried units m o xs safe store_call comes. pure_never_pauses fs pure f args carried units m o xs safe comes store_call

pub returns-clause-anywhere : goal.returns-clause-anywhere
returns-clause-anywhere c = λ fs f xs carried store units safe. anywhere fs f xs carried store units safe
