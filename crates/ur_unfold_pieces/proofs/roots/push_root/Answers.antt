use Rattle.std.proofs.Common.{Some, sym, ap, ◌∙◌}
use Rattle.std.proofs.lemmas.Bool.{false≢true}
use Rattle.std.proofs.lemmas.Option.{slice_get-get_or}
use Rattle.ur_unfold_pieces.proofs.Rooting.{roots_more, roots_pass, new_root}
use Rattle.ur_unfold_pieces.proofs.roots.push_root.Goals as goal

pub returns-then-not-is_plain : goal.returns-then-not-is_plain
returns-then-not-is_plain c = roots_pass c.args.functions.now c.args.place c.args.instances.now.keys c.index-functions-place.result c.requires.so_far (slice_get-get_or c.args.functions.now c.args.place _ c.requires.there ∙ ap Some (sym c.index-functions-place.is))
    (λ plain. false≢true (sym c.if-not-is_plain.true ∙ c.is_plain.ensures.1 plain))

pub add_key-requires : goal.add_key-requires
add_key-requires c = new_root c.args.functions.now c.args.place c.args.instances.now.keys c.in_ok-key.key c.requires.so_far c.in_ok-key.ensures

pub returns : goal.returns
returns c = roots_more c.args.functions.now c.args.place c.args.instances.now.keys c.add_key.new.instances.keys c.in_ok-key.key c.index-functions-place.result c.requires.so_far (slice_get-get_or c.args.functions.now c.args.place _ c.requires.there ∙ ap Some (sym c.index-functions-place.is))
    (c.is_plain.ensures.0 c.if-not-is_plain.false) c.in_ok-key.ensures c.in_ok-add_key.ensures.ok
