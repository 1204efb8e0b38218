use Rattle.std.proofs.Common.{◌≡◌, drop, map}
use Rattle.ur_values.specs.Atom.{atom_values}
use Rattle.ur_cacheindex.specs.Matching.{read_mask}
use Rattle.ur_cache.specs.Entries.{is_masked}
use Rattle.ur_cache.proofs.held.any_matches.Given as goal

abbrev pub invariant-loop-mask : goal.invariant-loop-mask
invariant-loop-mask l = is_masked (map read_mask (drop l.mask-index l.masks)) l.site (atom_values l.key) ≡ is_masked (map read_mask l.masks) l.site (atom_values l.key)
