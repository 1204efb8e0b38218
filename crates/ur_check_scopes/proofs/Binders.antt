-- The names of binders, as the code holds them.
use Rattle.std.proofs.Common.{◌≡◌, ap}
use Rattle.ur_check_scopes.specs.declared.locals.Locals.{Locals}
use Rattle.ur_check_scopes.specs.declared.locals.Locals.TheVariants as locals
use Rattle.ur_check_scopes.specs.Views.{locals_in, values_in, fixed_in}
use Rattle.ur_check_scopes.proofs.Finding.{Bound, Lambda}

-- what a binder holds, and what is around it
pub bound-is : (ls : Locals) (own : _) (around : _) → ls ≡ locals.Bound own around → Bound ls own.now around.now
bound-is ls own around e = record { names = ap locals_in e; values = ap values_in e; fixed = ap fixed_in e }

pub lambda-is : (ls : Locals) (own : _) (around : _) → ls ≡ locals.Lambda own around → Lambda ls own.now around.now
lambda-is ls own around e = record { names = ap locals_in e; values = ap values_in e; fixed = ap fixed_in e }
