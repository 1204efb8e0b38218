-- What a call leaves of a cache of answers.
use Rattle.std.specs.Prelude.{◌≡◌, Option, Result}
use Rattle.ur_keeper.specs.Tables.{Tables}
use Rattle.ur_cache.specs.Entries.{Cached}
use Rattle.ur_code.specs.declared.code.Code.{Code}
use Rattle.ur_machine.specs.Answers.{AreSavedAnswers, AreCurrentAnswers}
use Rattle.ur_machine.specs.declared.stop.TurnStop.{TurnStop}
use Rattle.ur_machine.specs.Stops.{WhileUnderWay}

-- What a call leaves of a cache: where it does not give the transaction up, all of it.
pub record LeavesAnswers {A : Type 0} (code : Code) (saved current : Option Tables) (old new : Cached) (result : Result A TurnStop) : Type 0 where
  pub saved_ones : AreSavedAnswers code saved new
  pub current_ones : WhileUnderWay result (AreCurrentAnswers code saved current new)
  pub capacity : new.capacity ≡ old.capacity

-- the same of a whole turn, however it ends
pub record HoldsAnswers (code : Code) (saved current : Option Tables) (old new : Cached) : Type 0 where
  pub saved_ones : AreSavedAnswers code saved new
  pub current_ones : AreCurrentAnswers code saved current new
  pub capacity : new.capacity ≡ old.capacity
