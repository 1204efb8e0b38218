-- What a refusal of code says.
use Rattle.std.specs.Prelude.{◌≡◌, ◌≢◌}
use Rattle.ur_base.specs.declared.refusal.Refusal.{Refusal}
use Rattle.ur_code.specs.declared.code.Code.{Code}
use Rattle.ur_code.specs.Fits.{Fits}
use Rattle.ur_verify_operations.specs.Saying.{IsFound}
use Rattle.ur_verify.specs.Misfits.{CodeMisfit}

-- The code does not fit. At a place of the code where its rule is broken the two texts are those of what was found and of
-- what the rule wants there, and they differ. The refusal stands at no place of the source.
pub record ExplainsUnfit (code : Code) (r : Refusal) : Type 0 where
  pub code_is : r.code ≡ 19
  pub unfit : ¬ Fits code
  pub place : CodeMisfit code (r.left, r.right)
  pub differ : r.left ≢ r.right
  pub found : ∥ IsFound r.left ∥₁
  pub no_place : r.span ≡ record { file = 0; from = 0; to = 0 }
