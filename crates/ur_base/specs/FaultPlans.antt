-- Calls that are to fail.
use Rattle.std.specs.Prelude.{ℕ, ◌+◌, List, Contains, refl}
use Rattle.std.specs.Coded.{Coded, code_by, coded×, coded_ℕ, coded_list}
use Rattle.ur_base.specs.Counts.{next_count}

-- the calls that can fail, counted from 1 over the object's life: which are to fail, how many came, and how many failed
pub record PlanState : Type 0 where
  pub fail : List ℕ
  pub calls : ℕ
  pub faults : ℕ

abbrev pub plan_coded : Coded PlanState
plan_coded =
    code_by (List ℕ × (ℕ × ℕ)) (coded× (coded_list coded_ℕ) (coded× coded_ℕ coded_ℕ)) (λ p. (p.fail, (p.calls, p.faults))) (λ p. record { fail = p.0; calls = p.1.0; faults = p.1.1 }) (λ _. refl)

abbrev pub new_plan : List ℕ → PlanState
new_plan fail = record { fail = fail; calls = 0; faults = 0 }

-- the next call is to fail
abbrev pub Fails : PlanState → Type 0
Fails p = Contains p.fail (p.calls + 1)

-- one more call that went well, or that failed
abbrev pub after_ok : PlanState → PlanState
after_ok p = record p { calls = next_count p.calls }

abbrev pub after_failed : PlanState → PlanState
after_failed p = record p { calls = next_count p.calls; faults = next_count p.faults }
