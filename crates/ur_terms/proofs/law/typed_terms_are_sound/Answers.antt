use Rattle.ur_terms.specs.Sound.{NumbersLast}
use Rattle.ur_terms.proofs.TypedDeeds.{sound}
use Rattle.ur_terms.proofs.law.typed_terms_are_sound.Goals as goal

pub returns : goal.returns
returns c = λ sig sql fs declared fit tables f ts r xs s at h k.
    sound (λ x. Unit {0}) sig
    (record {
      none = tt;
      together = λ a b h k. tt;
      text = λ t h. tt;
      element = λ tag kids h. tt;
      link = λ route params post args kids e h k. tt;
      field = λ kind name value. tt;
      submit = λ route params last get unit args label e h k. tt;
    })
    (NumbersLast sig.sequences) sql tables fs declared fit f ts r xs s at h k
