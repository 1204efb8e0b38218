-- What a segment decodes to.
use Rattle.std.proofs.Common.{◌≡◌, ℕ, ◌<◌, Bool, cond, List, [], ◌∷◌, Some, None, length, sym, ap, arith}
use Rattle.std.specs.Str.{is_utf8}
use Rattle.percent_encoding.specs.Percent.{percent_decode}
use Rattle.ur_tags.specs.Segments.{decode}

-- a segment that is not empty decodes to its text where that is UTF-8
pub decode_is : (segment : List ℕ) (b : Bool) → 0 < length segment → b ≡ is_utf8 (percent_decode segment) → decode segment ≡ cond b (Some (percent_decode segment)) None
decode_is [] b some e = absurd (omega arith)
decode_is (x ∷ segment) b some e = ap (λ t. cond t (Some (percent_decode (x ∷ segment))) None) (sym e)
