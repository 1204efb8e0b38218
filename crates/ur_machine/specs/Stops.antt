-- What a call of a keeper leaves, also where it gives no value.
use Rattle.std.specs.Prelude.{◌≡◌, Bool, Option, Result, Ok, Err}
use Rattle.ur_keeper.specs.Tables.{Tables, KeptSchema}
use Rattle.ur_keeper.specs.Keeper.{IsUndone, IsWithin}
use Rattle.ur_machine.specs.declared.stop.TurnStop.{TurnStop}
use Rattle.ur_machine.specs.declared.stop.TurnStop.TheVariants as stop

-- After a fault of the keeper and after its want of memory the transaction is given up; after everything else it goes on.
abbrev pub Leaves : {A : Type 0} → Result A TurnStop → Option Tables → Option Tables → Option Tables → KeptSchema → KeptSchema → Bool → Type 0
Leaves (Ok x) saved saved' current' kept kept' under_way' = IsWithin saved saved' kept kept' under_way'
Leaves (Err (stop.Failed body)) saved saved' current' kept kept' under_way' = IsWithin saved saved' kept kept' under_way'
Leaves (Err stop.Spent) saved saved' current' kept kept' under_way' = IsWithin saved saved' kept kept' under_way'
Leaves (Err stop.Memory) saved saved' current' kept kept' under_way' = IsWithin saved saved' kept kept' under_way'
Leaves (Err stop.Keeper) saved saved' current' kept kept' under_way' = IsUndone saved saved' current' kept kept' under_way'
Leaves (Err stop.Undone) saved saved' current' kept kept' under_way' = IsUndone saved saved' current' kept kept' under_way'

-- The same of a call that gives no program error and spends nothing.
abbrev pub EndsCall : {A : Type 0} → Result A TurnStop → Option Tables → Option Tables → Option Tables → KeptSchema → KeptSchema → Bool → Type 0
EndsCall (Ok x) saved saved' current' kept kept' under_way' = IsWithin saved saved' kept kept' under_way'
EndsCall (Err (stop.Failed body)) saved saved' current' kept kept' under_way' = ⊥
EndsCall (Err stop.Spent) saved saved' current' kept kept' under_way' = ⊥
EndsCall (Err stop.Memory) saved saved' current' kept kept' under_way' = IsWithin saved saved' kept kept' under_way'
EndsCall (Err stop.Keeper) saved saved' current' kept kept' under_way' = IsUndone saved saved' current' kept kept' under_way'
EndsCall (Err stop.Undone) saved saved' current' kept kept' under_way' = IsUndone saved saved' current' kept kept' under_way'

-- a program error and a spent budget leave the tables as they were
abbrev pub Stays : {A : Type 0} → Result A TurnStop → Option Tables → Option Tables → Type 0
Stays (Err (stop.Failed body)) current current' = current' ≡ current
Stays (Err stop.Spent) current current' = current' ≡ current
Stays _ current current' = Unit {0}

-- what holds where the transaction goes on and memory sufficed
abbrev pub WhileUnderWay : {A : Type 0} → Result A TurnStop → Type 0 → Type 0
WhileUnderWay (Ok x) P = P
WhileUnderWay (Err (stop.Failed body)) P = P
WhileUnderWay (Err stop.Spent) P = P
WhileUnderWay (Err stop.Keeper) P = Unit {0}
WhileUnderWay (Err stop.Undone) P = Unit {0}
WhileUnderWay (Err stop.Memory) P = Unit {0}
