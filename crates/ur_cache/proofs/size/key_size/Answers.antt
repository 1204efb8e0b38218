use Rattle.std.proofs.Common.{◌≡◌, ap, drop, arith}
use Rattle.std.proofs.lemmas.List.{drop_all}
use Rattle.ur_values.specs.Atom.{atom_values}
use Rattle.ur_values.specs.Size.{sizes}
use Rattle.ur_cache.proofs.size.key_size.Goals as goal

pub returns : goal.returns
returns c =
    let i = c.loop-atom.atom-index in
    let none : sizes (atom_values (drop i c.args.key.now)) ≡ 0 = ap (λ ks. sizes (atom_values ks)) (drop_all i c.args.key.now c.loop-atom-test.false) in
    omega (arith, none, c.loop-atom.invariant.0, c.loop-atom.invariant.1)
