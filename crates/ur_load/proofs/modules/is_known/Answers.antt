use Rattle.std.proofs.Common.{◌∙◌, sym}
use Rattle.ur_load.proofs.Listed.{known_of}
use Rattle.ur_load.proofs.modules.is_known.Goals as goal

pub returns-clause-found : goal.returns-clause-found
returns-clause-found c = (known_of c.args.known.now c.number.new.self c.module_text.result.now c.args.name.now c.in_ok-number.number.0 c.args.count c.module_text.ensures c.requires.count c.in_ok-number.ensures.number c.in_ok-number.ensures.known c.in_ok-number.ensures.added).0

pub returns-clause-added : goal.returns-clause-added
returns-clause-added c = let k = known_of c.args.known.now c.number.new.self c.module_text.result.now c.args.name.now c.in_ok-number.number.0 c.args.count c.module_text.ensures c.requires.count c.in_ok-number.ensures.number c.in_ok-number.ensures.known c.in_ok-number.ensures.added in
    λ h. k.1 (sym k.0 ∙ h)
