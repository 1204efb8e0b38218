use Rattle.std.proofs.Common.{◌≤◌, sym, subst, refl}
use Rattle.ur_machine.specs.Answers.{sites_of}
use Rattle.ur_machine.specs.declared.reached.Reached.TheVariants as reached
use Rattle.ur_machine.proofs.Doing.{fewer_ready, store_call_at}
use Rattle.ur_machine.proofs.Told.{where_told}
use Rattle.ur_machine.proofs.Turning.{ran_page, ran_failed, ran_spent, ran_stops, ran_on, ran_exit}
use Rattle.ur_machine.proofs.Reading.{no_step}
use Rattle.ur_machine.proofs.turn.run_to_next.Goals as goal

pub store_call-requires-clause-ready : goal.store_call-requires-clause-ready
store_call-requires-clause-ready g c =
    where_told (g.K.Keeper.current c.args.keeper.now) _ _ c.requires.ready
    (λ t e h. fewer_ready c.args.code.now.schema c.args.machine.now.frames.units c.units-units.result t
    (subst (λ n. n ≤ c.args.machine.now.frames.units) (sym c.units-units.ensures.value) c.advance.ensures.units) h)

pub returns-in_err-value-in-Store-clause-ran : goal.returns-in_err-value-in-Store-clause-ran
returns-in_err-value-in-Store-clause-ran g c =
    ran_exit c.from_residual-in_err-value-in-Store.result c.in_err-value-in-Store.field-0.0 c.from_residual-in_err-value-in-Store.ensures.1
    (ran_stops _ c.args.code.now c.args.machine.now c.advance.new.self c.in-Store.op c.in-Store.args c.in-Store.ensures.pauses.0 c.in-Store.ensures.ends
    c.store_call.new.units _ _ _ _ _ _ c.in_err-value-in-Store.field-0.0
    (store_call_at _ _ c.units-units.ensures.value c.in_err-value-in-Store.ensures.store_call))

pub returns-in_ok-turn-in-Page-clause-ran : goal.returns-in_ok-turn-in-Page-clause-ran
returns-in_ok-turn-in-Page-clause-ran g c =
    ran_page _ c.args.code.now c.args.machine.now c.advance.new.self _ _ _ _ c.requires.kept c.requires.under_way
    (no_step c.args.code.now (sites_of c.args.code.now c.args.patterns.now) c.args.cache.now c.args.cache.now (g.K.Keeper.reads c.args.keeper.now)
    (g.K.Keeper.reads c.args.keeper.now) reached.Nothing refl refl refl) c.in-Page.page c.in_ok-turn-in-Page.turn c.in-Page.ensures.ends
    c.in_ok-turn-in-Page.ensures

pub returns-in-Failed-clause-ran : goal.returns-in-Failed-clause-ran
returns-in-Failed-clause-ran g c = ran_failed _ c.args.code.now c.args.machine.now c.advance.new.self _ _ _ _ c.requires.kept c.requires.under_way
    (no_step c.args.code.now (sites_of c.args.code.now c.args.patterns.now) c.args.cache.now c.args.cache.now (g.K.Keeper.reads c.args.keeper.now)
    (g.K.Keeper.reads c.args.keeper.now) reached.Nothing refl refl refl) c.in-Failed.body c.in-Failed.ensures.ends

pub returns-in-Spent-clause-ran : goal.returns-in-Spent-clause-ran
returns-in-Spent-clause-ran g c = ran_spent _ c.args.code.now c.args.machine.now c.advance.new.self _ _ _ _ c.requires.kept c.requires.under_way
    (no_step c.args.code.now (sites_of c.args.code.now c.args.patterns.now) c.args.cache.now c.args.cache.now (g.K.Keeper.reads c.args.keeper.now)
    (g.K.Keeper.reads c.args.keeper.now) reached.Nothing refl refl refl) c.in-Spent.ensures.ends

pub returns-in_ok-value-in-Store-clause-ran : goal.returns-in_ok-value-in-Store-clause-ran
returns-in_ok-value-in-Store-clause-ran g c =
    ran_on _ c.args.code.now c.args.machine.now c.advance.new.self c.in-Store.op c.in-Store.args c.in-Store.ensures.pauses.0 c.in-Store.ensures.ends
    c.store_call.new.units _ _ _ _ _ _ c.in_ok-value-in-Store.value
    (store_call_at _ _ c.units-units.ensures.value c.in_ok-value-in-Store.ensures.store_call) c.in-Store.ensures.pauses.2 c.advance.ensures.units
    c.answer.new.self c.answer.ensures
