use Rattle.std.proofs.Common.{refl, sym, ap, ◌∙◌}
use Rattle.std.specs.Prelude.{slice_get}
use Rattle.ur_unfold_static.proofs.Keys.{key_at, no_key}
use Rattle.ur_unfold_pieces.specs.Keys.{nothing}
use Rattle.ur_unfold_pieces.proofs.KeyEq.{key_eq, eq_sound, eq_complete}
use Rattle.ur_unfold_pieces.proofs.numbering.number.Goals as goal

pub returns-in_ok-number-in-Some : goal.returns-in_ok-number-in-Some
returns-in_ok-number-in-Some c = (
  ap (slice_get c.args.instances.now.keys) c.in_ok-number-in-Some.ensures ∙ key_at key_eq eq_sound eq_complete c.args.key c.args.instances.now.keys c.in-Some.place (sym c.get_index_of.ensures.index ∙ c.in-Some.is),
  nothing refl,
)

pub last_number-requires : goal.last_number-requires
last_number-requires c = no_key key_eq eq_sound eq_complete c.args.key c.args.instances.now.keys (sym c.in-None.ensures.found)
