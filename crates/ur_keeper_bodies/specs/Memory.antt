-- What bodies in memory hold, all of which they tell.
use Rattle.std.specs.Prelude.{ℕ, Bool, true, false, List, refl}
use Rattle.std.specs.Coded.{Coded, code_by, coded×, coded_ℕ, coded_ℤ, coded_bool, coded_list}
use Rattle.std.specs.FinMap.{code, empty}
use Rattle.ur_base.specs.FaultPlans.{PlanState, new_plan, after_ok, after_failed, plan_coded}
use Rattle.ur_keeper_bodies.specs.Bodies.{BodyMap, written}
use Rattle.ur_keeper_bodies.specs.declared.bodies.BodyChange.{BodyChange}

pub record BodiesState : Type 0 where
  pub bodies : BodyMap
  pub opened : Bool
  pub plan : PlanState

abbrev pub map_coded : Coded BodyMap
map_coded = code (coded× coded_ℤ coded_ℤ) (coded_list coded_ℕ)

abbrev pub bodies_code : Coded BodiesState
bodies_code = code_by (BodyMap × (Bool × PlanState)) (coded× map_coded (coded× coded_bool plan_coded)) (λ m. (m.bodies, (m.opened, m.plan))) (λ p. record { bodies = p.0; opened = p.1.0; plan = p.1.1 }) (λ _. refl)

-- no bodies, not opened; these calls fail
abbrev pub empty_bodies : List ℕ → BodiesState
empty_bodies fail = record { bodies = empty; opened = false; plan = new_plan fail }

-- a call was counted that went well or that wanted memory, or that failed
abbrev pub passed : BodiesState → BodiesState
passed m = record m { plan = after_ok m.plan }

abbrev pub failed : BodiesState → BodiesState
failed m = record m { plan = after_failed m.plan }

abbrev pub opening : BodiesState → BodiesState
opening m = record (passed m) { opened = true }

abbrev pub writing : List BodyChange → BodiesState → BodiesState
writing changes m = record (passed m) { bodies = written m.bodies changes }
