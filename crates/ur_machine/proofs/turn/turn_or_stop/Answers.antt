use Rattle.ur_machine.specs.declared.stop.TurnStop.TheVariants as stop
use Rattle.ur_machine.proofs.Turning.{turned_failed, turned_spent, turned_keeper, turned_undone, turned_memory, ran_at}
use Rattle.ur_machine.proofs.turn.turn_or_stop.Goals as goal

pub returns-in-Ok-show_error-clause-turned : goal.returns-in-Ok-show_error-clause-turned
returns-in-Ok-show_error-clause-turned g c =
    turned_failed _ c.args.code.now c.args.machine.now c.to_next_store_call.new.machine _ _ _ _ _ _ c.in-Failed.body c.in-Ok-show_error.bytes
    c.in-Ok-show_error.ensures
    (ran_at c.in-Err.stop (stop.Failed c.in-Failed.body) c.in-Failed.is c.in-Err.ensures.ran)

pub returns-in-Failed-clause-turned : goal.returns-in-Failed-clause-turned
returns-in-Failed-clause-turned g c =
    turned_memory _ _ c.args.code.now c.args.machine.now c.to_next_store_call.new.machine _ _ _ _ _ _ _ _ _ _ (stop.Failed c.in-Failed.body)
    c.gives_up.result tt
    (ran_at c.in-Err.stop (stop.Failed c.in-Failed.body) c.in-Failed.is c.in-Err.ensures.ran) c.gives_up.ensures.memory c.gives_up.ensures.undone

pub returns-in-Ok-show_text-clause-turned : goal.returns-in-Ok-show_text-clause-turned
returns-in-Ok-show_text-clause-turned g c =
    turned_spent _ c.args.code.now c.args.machine.now c.to_next_store_call.new.machine _ _ _ _ _ _ c.in-Ok-show_text.bytes c.in-Ok-show_text.ensures
    (ran_at c.in-Err.stop stop.Spent c.in-Spent.is c.in-Err.ensures.ran)

pub returns-in-Spent-clause-turned : goal.returns-in-Spent-clause-turned
returns-in-Spent-clause-turned g c =
    turned_memory _ _ c.args.code.now c.args.machine.now c.to_next_store_call.new.machine _ _ _ _ _ _ _ _ _ _ stop.Spent c.gives_up-in-Err-show_text.result tt
    (ran_at c.in-Err.stop stop.Spent c.in-Spent.is c.in-Err.ensures.ran) c.gives_up-in-Err-show_text.ensures.memory c.gives_up-in-Err-show_text.ensures.undone

pub returns-in-Keeper-clause-turned : goal.returns-in-Keeper-clause-turned
returns-in-Keeper-clause-turned g c = turned_keeper _ c.args.code.now c.args.machine.now c.to_next_store_call.new.machine _ _ _ _ _ _
    (ran_at c.in-Err.stop stop.Keeper c.in-Keeper.is c.in-Err.ensures.ran)

pub returns-in-Undone-clause-turned : goal.returns-in-Undone-clause-turned
returns-in-Undone-clause-turned g c = turned_undone _ c.args.code.now c.args.machine.now c.to_next_store_call.new.machine _ _ _ _ _ _
    (ran_at c.in-Err.stop stop.Undone c.in-Undone.is c.in-Err.ensures.ran)

pub returns-clause-turned : goal.returns-clause-turned
returns-clause-turned g c =
    turned_memory _ _ c.args.code.now c.args.machine.now c.to_next_store_call.new.machine _ _ _ _ _ _ _ _ _ _ stop.Memory c.gives_up-in-Memory.result tt
    (ran_at c.in-Err.stop stop.Memory c.in-Memory.is c.in-Err.ensures.ran) c.gives_up-in-Memory.ensures.memory c.gives_up-in-Memory.ensures.undone
