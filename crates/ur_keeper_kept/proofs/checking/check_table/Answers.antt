use Rattle.std.proofs.Common.{◌≡◌, List, get_or, subst, rules, refl, sym, ◌∙◌}
use Rattle.ur_values.specs.declared.schema.Numbered.{Numbered}
use Rattle.ur_keeper_kept.specs.Attach.{IsSoundRows, IsSoundTable}
use Rattle.ur_keeper_kept.proofs.ReadRows.{get-there}
use Rattle.ur_keeper_kept.proofs.Attaching.{table-told}
use Rattle.std.proofs.lemmas.Bool.{false≢true}
use Rattle.ur_keeper_bodies.specs.Bodies.{BodyMap, bodies_of}
use Rattle.ur_keeper_kept.specs.Laid.{table_tab, columns_at}
use Rattle.ur_keeper_kept.specs.Kept.{AreRead}
use Rattle.ur_keeper_kept.specs.Faults.{AreReadable}
use Rattle.ur_keeper_kept.proofs.Told.{told-one}
use Rattle.ur_keeper_kept.proofs.Finding.{finds-exit}
use Rattle.ur_keeper_kept.proofs.Faulty.{unread-table, unsound-table}
use Rattle.ur_keeper_kept.proofs.checking.check_table.Goals as goal

pub returns-then-sound-clause-sound : goal.returns-then-sound-clause-sound
returns-then-sound-clause-sound g c =
    let s = c.args.schema.now in
    let shape = c.index-as_slice-place.result in
    let f = c.in_ok-found.found in
    let place : c.in-Ok.table ≡ c.args.place = search rules in
    let is : shape ≡ get_or s.tables c.args.place shape = search rules in
    let sound : IsSoundRows shape f.rows = subst (λ (x : List Numbered). IsSoundRows shape x) c.as_slice-2.ensures (c.in_ok-sound.ensures.sound c.if-sound.true) in
    table-told c.args.layout s _ c.in-Ok.table c.args.place f.rows f.next shape place (get-there s.tables c.args.place shape c.requires.place is) c.in_ok-found.ensures.read c.in_ok-found.ensures.shaped sound

pub returns-in_err-found-clause-found : goal.returns-in_err-found-clause-found
returns-in_err-found-clause-found g c =
    let s = c.args.schema.now in
    let table = c.in-Ok.table in
    let place : table ≡ c.args.place = search rules in
    finds-exit c.from_residual.result _ _ _ _ _ _ (λ (m : BodyMap). AreReadable c.args.layout (columns_at s table) (bodies_of m (table_tab table)) → ⊥) (λ (m : BodyMap). IsSoundTable c.args.layout s m c.args.place → ⊥) c.from_residual.ensures.1 refl refl
    (λ m h. unread-table c.args.layout s m table c.args.place place c.requires.place h) c.in_err-found.ensures.found

pub returns-clause-found : goal.returns-clause-found
returns-clause-found g c = λ other.
    let s = c.args.schema.now in
    let shape = c.index-as_slice-place.result in
    let f = c.in_ok-found.found in
    let table = c.in-Ok.table in
    let place : table ≡ c.args.place = search rules in
    let is : shape ≡ get_or s.tables c.args.place shape = search rules in
    let unsound : IsSoundRows shape f.rows → ⊥ = λ h. false≢true (sym c.if-sound.false ∙ c.in_ok-sound.ensures.unsound (subst (λ (x : List Numbered). IsSoundRows shape x) (sym c.as_slice-2.ensures) h)) in
    told-one _ (λ (m : BodyMap). AreRead c.args.layout (columns_at s table) (bodies_of m (table_tab table)) f.rows f.next) (λ (m : BodyMap). IsSoundTable c.args.layout s m c.args.place → ⊥) c.in_ok-found.ensures.read
    (λ m read. unsound-table c.args.layout s m table c.args.place f.rows f.next shape place (get-there s.tables c.args.place shape c.requires.place is) read unsound)
