use Rattle.ur_unfold_static.proofs.Viewed.{fits_is}
use Rattle.ur_unfold_static.proofs.closing.Closing.fits.Goals as goal

pub returns : goal.returns
returns c = fits_is c.self.inside.cons c.self.inside.lambdas c.self.inside.nodes.keys c.args.self.now c.self.view_is c.self.invariant c.args.node.now c.len.result c.len-2.result c.len-3.result c.len.ensures c.len-2.ensures c.len-3.ensures.len c.fits.ensures
