-- What a session does to the wire's count of faults.
use Rattle.std.specs.Prelude.{ℕ, Option, Some, None}
use Rattle.ur_base.specs.Counts.{next_count}
use Rattle.ur_io.specs.declared.session.Why.{Why}
use Rattle.ur_io.specs.declared.session.Why.TheVariants.{Wire}
use Rattle.ur_serve.specs.declared.arrivals.Arrival.{Arrival}
use Rattle.ur_serve.specs.declared.arrivals.Arrival.TheVariants.{Ended}

-- the count after a session that ended so: the next where the wire failed, else as it was
abbrev pub count_at_end : Why → ℕ → ℕ
count_at_end Wire old = next_count old
count_at_end why old = old

-- the same after something came
abbrev pub count_at_arrival : Arrival → ℕ → ℕ
count_at_arrival (Ended why) old = count_at_end why old
count_at_arrival came old = old

-- the same after an answer was given or not, where the session may go on
abbrev pub count_at_answer : Option Why → ℕ → ℕ
count_at_answer (Some why) old = count_at_end why old
count_at_answer None old = old
